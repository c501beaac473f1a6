-- What is read as a script or as a module is one.
use Rattle.std.proofs.Common.{◌≡◌, ℕ, zero, suc, ◌≤◌, ◌+◌, Bool, true, false, List, [], ◌∷◌, ◌++◌, Ok, Err, refl, sym, ◌∙◌, subst, append_assoc, append-nil, if◌then◌else◌}
use Rattle.sr_ast.specs.declared.tree.Tree.{Tree}
use Rattle.sr_syntax.specs.declared.sorts.Sort.TheVariants as k
use Rattle.sr_syntax.specs.declared.sorts.Lexeme.{Lexeme}
use Rattle.sr_syntax.specs.declared.grown.Grown.{Grown}
use Rattle.sr_syntax.specs.Sorts.{same_sort}
use Rattle.sr_syntax.specs.Input.{Input, Outcome, Parser, ◌>>=◌, pure, start, sort, sort_at, left, max_depth}
use Rattle.sr_syntax.specs.Grammar.{whole_item, whole_module_item, script_from, script, script_of, module_from, module_items, module_of, value_of}
use Rattle.sr_grammar.specs.Derivations.{IsItem}
use Rattle.sr_grammar.specs.Modules.{IsModuleItem}
use Rattle.sr_grammar.specs.Scripts.{open_in_item, Script, Module, module_ended, module_item}
use Rattle.sr_grammar.specs.Scripts as s
use Rattle.sr_grammar.specs.Laws.{SoundScript, SoundModule}
use Rattle.sr_grammar.specs.Reading.{end_after}
use Rattle.sr_grammar.proofs.Steps.{inp, done, along, bind_ok, same_sort_true, Any, Parses}
use Rattle.sr_grammar.proofs.Facts.{Relation, Stood, stood, StartOne}
use Rattle.sr_grammar.proofs.Nests.{nests}
use Rattle.sr_grammar.proofs.PlainItems.{items_of}
use Rattle.sr_grammar.proofs.ModuleItems.{module_items_of}

-- ---- one item

record OneRead (Is : Relation) (l n : ℕ) (all : List Lexeme) (x : Grown) (j : Input) : Type 0 where
  us : List Lexeme
  ts : List Lexeme
  split : all ≡ us ++ ts
  left : j ≡ inp ts (end_after l us) n
  is : Is open_in_item us ts x
  fits : x.height ≤ max_depth

one_reads : {Is : Relation} {P : ℕ → Parser Grown} → Parses P open_in_item Any (Stood Is open_in_item) (StartOne Is)
    → (l n : ℕ) (all : List Lexeme) (x : Grown) (j : Input) → P open_in_item (inp all l n) ≡ done x j → OneRead Is l n all x j
one_reads {Is} {P} p l n all x j h =
    let r = p.reads l n all x j tt h in
    elim r.fact [ stood is fits ↦ record { us = r.us; ts = r.ts; split = r.split; left = r.left; is = is; fits = fits } ]

-- ---- items to the end of the text

module _ (one : Parser Grown) (rule : ℕ → List Tree → Parser (List Tree)) (Is : Relation) (Text : List Lexeme → List Tree → Type 0)
    (reads : (l n : ℕ) (all : List Lexeme) (x : Grown) (j : Input) → one (inp all l n) ≡ done x j → OneRead Is l n all x j)
    (no_turns : (found : List Tree) (i j : Input) (all : List Tree) → rule zero found i ≡ done all j → ⊥)
    (turns : (m : ℕ) (found : List Tree) (ts : List Lexeme) (l n : ℕ) → rule (suc m) found (inp ts l n)
    ≡ (if same_sort (sort_at ts) k.End then pure found else (one >>= (λ x. rule m (found ++ x.tree ∷ [])))) (inp ts l n))
    (at_end : (ts : List Lexeme) → sort_at ts ≡ k.End → Text ts [])
    (one_more : (us ts : List Lexeme) (x : Grown) (xs : List Tree) → Is open_in_item us ts x → x.height ≤ max_depth → Text ts xs → Text (us ++ ts) (x.tree ∷ xs)) where
  -- what was read before, and a text of the rest
  record Found (found : List Tree) (ts : List Lexeme) (all : List Tree) : Type 0 where
    trees : List Tree
    whole : all ≡ found ++ trees
    text : Text ts trees

  text_reads : (m : ℕ) (found : List Tree) (ts : List Lexeme) (l n : ℕ) (all : List Tree) (j : Input) → rule m found (inp ts l n) ≡ done all j → Found found ts all
  text_reads zero found ts l n all j h = absurd (no_turns found (inp ts l n) j all h)
  text_reads (suc m) found ts l n all j h = go (same_sort (sort_at ts) k.End) refl (sym (turns m found ts l n) ∙ h) (text_reads m)
    where
      go : (b : Bool) → same_sort (sort_at ts) k.End ≡ b → (if b then pure found else (one >>= (λ x. rule m (found ++ x.tree ∷ [])))) (inp ts l n) ≡ done all j
          → ((found : List Tree) (ts : List Lexeme) (l n : ℕ) (all : List Tree) (j : Input) → rule m found (inp ts l n) ≡ done all j → Found found ts all) → Found found ts all
      go true is h recur = record { trees = []; whole = along (λ p. p.0 ≡ found ++ []) h (sym (append-nil found)); text = at_end ts (same_sort_true (sort_at ts) k.End is) }
      go false is h recur =
          let b = bind_ok (one (inp ts l n)) (λ x. rule m (found ++ x.tree ∷ [])) (all, j) h in
          let r = reads l n ts b.0 b.1 b.2 in
          let rest = recur (found ++ b.0.tree ∷ []) r.ts (end_after l r.us) n all j (subst (λ i. rule m (found ++ b.0.tree ∷ []) i ≡ done all j) r.left b.3) in
          record {
            trees = b.0.tree ∷ rest.trees;
            whole = rest.whole ∙ append_assoc found (b.0.tree ∷ []) rest.trees;
            text = subst (λ zs. Text zs (b.0.tree ∷ rest.trees)) (sym r.split) (one_more r.us r.ts b.0 rest.trees r.is r.fits rest.text);
          }

  -- nothing was read before
  whole_text : (m : ℕ) (ts : List Lexeme) (l n : ℕ) (all : List Tree) (o : Outcome (List Tree)) → rule m [] (inp ts l n) ≡ o → value_of o ≡ Ok all → Text ts all
  whole_text m ts l n all (Ok p) h is =
      let f = text_reads m [] ts l n p.0 p.1 h in
      along (λ xs. Text ts xs) is (subst (λ xs. Text ts xs) (sym f.whole) f.text)
  whole_text m ts l n all (Err e) h is = cc

-- ---- scripts

script_turns : (m : ℕ) (found : List Tree) (ts : List Lexeme) (l n : ℕ) → script_from (suc m) found (inp ts l n)
    ≡ (if same_sort (sort_at ts) k.End then pure found else (whole_item >>= (λ x. script_from m (found ++ x.tree ∷ [])))) (inp ts l n)
unfolding script_from sort
script_turns m found ts l n = refl

no_script_turns : (found : List Tree) (i j : Input) (all : List Tree) → script_from zero found i ≡ done all j → ⊥
unfolding script_from
no_script_turns found i j all h = cc

item_reads : (l n : ℕ) (all : List Lexeme) (x : Grown) (j : Input) → whole_item (inp all l n) ≡ done x j → OneRead IsItem l n all x j
unfolding whole_item
item_reads l n all x j h = one_reads (items_of open_in_item (nests open_in_item)) l n all x j h

pub sound_script_law : SoundScript
unfolding script_of script
sound_script_law tokens size xs h =
    whole_text whole_item script_from IsItem Script item_reads no_script_turns script_turns (λ ts e. s.ended e) (λ us ts x xs is fits t. s.item is fits t)
    (left (start tokens size) + 1) tokens 0 size xs (script_from (left (start tokens size) + 1) [] (start tokens size)) refl h

-- ---- modules

module_turns : (m : ℕ) (found : List Tree) (ts : List Lexeme) (l n : ℕ) → module_from (suc m) found (inp ts l n)
    ≡ (if same_sort (sort_at ts) k.End then pure found else (whole_module_item >>= (λ x. module_from m (found ++ x.tree ∷ [])))) (inp ts l n)
unfolding module_from sort
module_turns m found ts l n = refl

no_module_turns : (found : List Tree) (i j : Input) (all : List Tree) → module_from zero found i ≡ done all j → ⊥
unfolding module_from
no_module_turns found i j all h = cc

module_item_reads : (l n : ℕ) (all : List Lexeme) (x : Grown) (j : Input) → whole_module_item (inp all l n) ≡ done x j → OneRead IsModuleItem l n all x j
unfolding whole_module_item
module_item_reads l n all x j h = one_reads (module_items_of open_in_item (nests open_in_item)) l n all x j h

pub sound_module_law : SoundModule
unfolding module_of module_items
sound_module_law tokens size xs h =
    whole_text whole_module_item module_from IsModuleItem Module module_item_reads no_module_turns module_turns (λ ts e. module_ended e) (λ us ts x xs is fits t. module_item is fits t)
    (left (start tokens size) + 1) tokens 0 size xs (module_from (left (start tokens size) + 1) [] (start tokens size)) refl h
