-- What declarations are read as, and where reading them fails.
use Rattle.std.proofs.Common.{◌≡◌, ℕ, zero, suc, ◌+◌, ◌≤◌, max, Bool, true, false, List, [], ◌∷◌, ◌++◌, length, Option, None, Some, Ok, Err, refl, sym, ap, ◌∙◌, subst, append_assoc, append-nil, length-append, arith, ◌⊎◌, inl, inr, if◌then◌else◌}
use Rattle.sr_ast.specs.declared.tree.Declaration.{Declaration, roll-Declaration}
use Rattle.sr_ast.specs.declared.binding.HeadKind.{HeadKind}
use Rattle.sr_syntax.specs.declared.sorts.Sort.{Sort}
use Rattle.sr_syntax.specs.declared.sorts.Sort.TheVariants as k
use Rattle.sr_syntax.specs.declared.sorts.Lexeme.{Lexeme}
use Rattle.sr_syntax.specs.declared.grown.Grown.{Grown}
use Rattle.sr_syntax.specs.Input.{Input, Outcome, Parser, ◌>>=◌, and_then, pure, eat, sees, after, place, left, text_of}
use Rattle.sr_syntax.specs.Declarations.{declaring, declaration, declarations_from, declarations_behind, declarations, declared_by}
use Rattle.sr_syntax.specs.Declarations as s
use Rattle.sr_syntax.specs.Statements.{more_declarations}
use Rattle.sr_syntax.specs.Grammar.{tree}
use Rattle.sr_grammar.specs.Derivations.{Derives, Assign, Semicolon, declared, value_height, Declares, no_value, a_value, Declarations, one_declaration, one_more_declaration, whole}
use Rattle.sr_grammar.specs.Reading.{end_after, head, EndsThere}
use Rattle.sr_grammar.proofs.Steps.{inp, done, Fact, Fault, Any, Parses, Both, both, Either, first, second, Never, Pure, nothing, Looked, looked, Eaten, ate, absent, Here, here, Chosen, yes, no, ChosenFault, yes_fault, no_fault, Runs, Breaks, map, then_any, look, place_shallow, eaten, purely, choose_any, turns, finish, pred, not_both, end_append, map_again}
use Rattle.sr_grammar.proofs.Depths.{lift_declared, lift_declarations}
use Rattle.sr_grammar.proofs.Facts.{Opened, opened, Mapped, mapped, mapping, Closed, closed, closing, Start, token, Relation}
use Rattle.sr_grammar.proofs.ParameterFacts.{Called, called_by, names}
use Rattle.sr_grammar.proofs.SomeTokens.{declarations_some}
use Rattle.sr_grammar.proofs.Moves.{declarations_moves}
use Rattle.sr_grammar.proofs.Lists.{Nested}
use Rattle.sr_grammar.proofs.Beginnings.{Begun, carry, begun_whole, Turned, onwards, at_end, Broken, broken, turned_runs, turned_breaks, turned_grows}
use Rattle.sr_grammar.proofs.Standing.{Calm, Wanted, at_nothing, begun_at, Behind, BehindFault, completed_behind}
use Rattle.sr_grammar.proofs.Semicolons.{Closing, closing_by, ends_with, ended, semicolons}
use Rattle.sr_grammar.proofs.Sorts.{end_no_assign, end_no_comma}

-- ---- values

-- what stands behind a declared name
pub data Value (has : Bool) : ℕ → List Lexeme → Option Grown → Type 0 where
  unvalued : {d : ℕ} → Value has d [] None
  valued : {d : ℕ} {us : List Lexeme} {x : Grown} (u : Lexeme) → u.sort ≡ k.Assign → Derives d (Assign has) us x → Value has (suc d) (u ∷ us) (Some x)

pub declares_of : {has : Bool} {d : ℕ} {us : List Lexeme} {v : Option Grown} → Value has d us v → (t : Lexeme) → t.sort ≡ k.Identifier → Declares has d (t ∷ us) t v
declares_of unvalued t c = no_value t c
declares_of (valued u q h) t c = a_value t u c q h

abbrev pub made_of : List ℕ → ℕ → Option Grown → Declaration × ℕ
made_of called from None = (roll-Declaration (record { name = called; from = from; value = None }), 0)
made_of called from (Some x) = (roll-Declaration (record { name = called; from = from; value = Some x.tree }), x.height)

pub data Valued (has : Bool) (called : List ℕ) (from d l n : ℕ) (us ts : List Lexeme) (p : Declaration × ℕ) : Type 0 where
  value_is : (v : Option Grown) → Value has d us v → p ≡ made_of called from v → Valued has called from d l n us ts p

value_fact : {has : Bool} {called : List ℕ} {from d l n : ℕ} {us ts : List Lexeme} {p : Declaration × ℕ}
    → Both (Eaten k.Assign) (λ b. Chosen b (Mapped (Opened (Assign has) d) (λ x. made_of called from (Some x))) (Pure (made_of called from None))) l n us ts p → Valued has called from d l n us ts p
value_fact (both (ate u q j) (yes f (mapped x (opened h b) is))) = value_is (Some x) (valued u q h) is
value_fact (both (ate u q j) (no f r)) = absurd (not_both j f)
value_fact (both (absent j o) (yes f r)) = absurd (not_both f j)
value_fact (both (absent j o) (no f (nothing is))) = value_is None unvalued is

value_fault : {has : Bool} {l n : ℕ} {us ts : List Lexeme} → Either Never (Eaten k.Assign) (λ b. ChosenFault b (Start (Assign has)) Never) l n us ts → Begun (Value has) us
value_fault (first c) = elim c [ ]
value_fault (second (ate u q j) (yes_fault f r)) = carry (u ∷ []) (λ e vs x h. begun_whole (suc e) (u ∷ vs) (Some x) (valued u q h)) (begun_at r)
value_fault (second (ate u q j) (no_fault f c)) = elim c [ ]
value_fault (second (absent j o) (yes_fault f r)) = absurd (not_both f j)
value_fault (second (absent j o) (no_fault f c)) = elim c [ ]

pub values : (has : Bool) (d : ℕ) → Nested d → (from : ℕ) (called : List ℕ) → Parses (λ e. s.declared (tree e) has from called) d Any (Valued has called from d) (Wanted (Value has))
unfolding s.declared
values has d nest from called = map (λ l n us ts x r. value_fact r) (λ l n us ts r. value_fault r)
    (then_any (eaten k.Assign end_no_assign) (λ b. choose_any b (mapping (nest.assign has) (λ x. made_of called from (Some x))) (purely (made_of called from None))))

-- ---- one declaration

abbrev pub OneDeclared : Bool → ℕ → List Lexeme → Lexeme × Option Grown → Type 0
OneDeclared has e us p = Declares has e us p.0 p.1

data Declaring (has : Bool) (d l n : ℕ) (us ts : List Lexeme) (p : Declaration × ℕ) : Type 0 where
  declares : (t : Lexeme) (v : Option Grown) → Declares has d us t v → p ≡ (declared t v, value_height v) → Declaring has d l n us ts p

pub made_is : (t : Lexeme) (v : Option Grown) → made_of (text_of t.content) t.from v ≡ (declared t v, value_height v)
made_is t None = refl
made_is t (Some x) = refl

declaration_fact : {has : Bool} {d l n : ℕ} {us ts : List Lexeme} {p : Declaration × ℕ}
    → Both (Looked place) (λ from. Both Called (λ called. Valued has called from d)) l n us ts p → Declaring has d l n us ts p
unfolding place
declaration_fact (both {x = from} (looked e) (both (called_by t c i) (value_is v h is))) =
    declares t v (declares_of h t c) (is ∙ ap (λ a. made_of a from v) i ∙ ap (λ a. made_of (text_of t.content) a v) e ∙ made_is t v)

-- a name with no value
pub any_declared : {has : Bool} → Begun (OneDeclared has) []
any_declared = record { depth = 0; more = token k.Identifier ∷ []; made = (token k.Identifier, None); has = no_value (token k.Identifier) refl }

pub declared_begins : {has : Bool} {us : List Lexeme} (t : Lexeme) → t.sort ≡ k.Identifier → Begun (Value has) us → Begun (OneDeclared has) (t ∷ us)
declared_begins t c b = carry (t ∷ []) (λ e vs v h. begun_whole e (t ∷ vs) (t, v) (declares_of h t c)) b

declaration_fault : {has : Bool} {l n : ℕ} {us ts : List Lexeme} → Either Never (Looked place) (λ from. Either Here Called (λ called. Wanted (Value has))) l n us ts → Begun (OneDeclared has) us
declaration_fault (first c) = elim c [ ]
declaration_fault (second (looked e) (first here)) = any_declared
declaration_fault (second (looked e) (second (called_by t c i) b)) = declared_begins t c b

declaration_parses : (has : Bool) (d : ℕ) → Nested d → Parses (λ e. declaration (tree e) has) d Any (Declaring has d) (Wanted (OneDeclared has))
unfolding declaration
declaration_parses has d nest = map (λ l n us ts x r. declaration_fact r) (λ l n us ts r. declaration_fault r)
    (then_any (look place place_shallow) (λ from. then_any names (λ called. values has d nest from called)))

-- ---- declarations one after the other

abbrev pub AllDeclared : Type 0
AllDeclared = List Declaration × ℕ

abbrev more_of : AllDeclared → Declaration × ℕ → AllDeclared
more_of found x = (found.0 ++ x.0 ∷ [], max found.1 x.1)

abbrev pub AllOf : Bool → ℕ → List Lexeme → AllDeclared → Type 0
AllOf has e us all = Declarations has e us all.0 all.1

-- what stands before the next declaration
pub data SoFar (has : Bool) : ℕ → List Lexeme → List Lexeme → AllDeclared → Type 0 where
  none_yet : {d : ℕ} {ts : List Lexeme} → SoFar has d [] ts ([], 0)
  comma_behind : {d : ℕ} {us ts : List Lexeme} {found : AllDeclared} → Declarations has d us found.0 found.1 → (t : Lexeme) → t.sort ≡ k.Comma → SoFar has d (us ++ t ∷ []) ts found

lift_so_far : {has : Bool} {us ts : List Lexeme} {found : AllDeclared} (d m : ℕ) → d ≤ m → SoFar has d us ts found → SoFar has m us ts found
lift_so_far d m far none_yet = none_yet
lift_so_far d m far (comma_behind w t c) = comma_behind (lift_declarations d m far w) t c

one_more_declared : {has : Bool} {d : ℕ} {us ts : List Lexeme} {found : AllDeclared} → SoFar has d us ts found → (vs : List Lexeme) (t : Lexeme) (v : Option Grown) → Declares has d vs t v
    → Declarations has d (us ++ vs) (found.0 ++ declared t v ∷ []) (max found.1 (value_height v))
one_more_declared none_yet vs t v h = one_declaration h
one_more_declared {has} {d} (comma_behind {us} {found} w u c) vs t v h =
    subst (λ zs. Declarations has d zs (found.0 ++ declared t v ∷ []) (max found.1 (value_height v))) (sym (append_assoc us (u ∷ []) vs)) (one_more_declaration w u c h)

abbrev Ends : Bool → ℕ → List Lexeme → List Lexeme → AllDeclared → Type 0
Ends has d us ts all = Declarations has d us all.0 all.1

abbrev OneTurn : Bool → ℕ → AllDeclared → Fact (AllDeclared ⊎ AllDeclared)
OneTurn has d found = Turned (SoFar has) (Ends has) d found

abbrev NoTurn : Bool → ℕ → AllDeclared → Fault
NoTurn has d found = Broken (SoFar has) (AllOf has) d found

turn_fact : {has : Bool} {d l n : ℕ} {us ts : List Lexeme} {o : AllDeclared ⊎ AllDeclared} {found : AllDeclared}
    → Both (Declaring has d) (λ x. Both (Eaten k.Comma) (λ b. Chosen b (Pure (inl (more_of found x))) (Pure (inr (more_of found x))))) l n us ts o → OneTurn has d found l n us ts o
turn_fact {has} {d} {found = found} (both {us = us} {x = x} (declares t v h e) (both (ate {ts} u c i) (yes f (nothing is)))) =
    onwards (more_of found x)
    (λ vs so. subst (λ zs. SoFar has d zs ts (more_of found x)) (append_assoc vs us (u ∷ []))
    (comma_behind (subst (λ p. Declarations has d (vs ++ us) (more_of found p).0 (more_of found p).1) (sym e) (one_more_declared so us t v h)) u c))
    (omega (arith, length-append us (u ∷ []))) is
turn_fact (both (declares t v h e) (both (ate u c i) (no f r))) = absurd (not_both i f)
turn_fact (both (declares t v h e) (both (absent i o) (yes f r))) = absurd (not_both f i)
turn_fact {has} {d} {found = found} (both {us = us} {x = x} (declares t v h e) (both (absent {ts} i p) (no f (nothing is)))) =
    at_end (more_of found x) (λ vs so. subst (λ zs. Declarations has d (vs ++ zs) (more_of found x).0 (more_of found x).1) (sym (append-nil us))
    (subst (λ p. Declarations has d (vs ++ us) (more_of found p).0 (more_of found p).1) (sym e) (one_more_declared so us t v h))) is

turn_fault : {has : Bool} {d l n : ℕ} {us ts : List Lexeme} {found : AllDeclared}
    → Either (Wanted (OneDeclared has)) (Declaring has d) (λ x. Either Never (Eaten k.Comma) (λ b. ChosenFault b Never Never)) l n us ts → NoTurn has d found l n us ts
turn_fault {has} {d} {found = found} (first b) = broken (λ vs so.
    carry vs (λ e ws p h. begun_whole (d + e) (vs ++ ws) (more_of found (declared p.0 p.1, value_height p.1))
    (one_more_declared (lift_so_far d (d + e) (omega arith) so) ws p.0 p.1 (lift_declared e (d + e) (omega arith) h))) b)
turn_fault (second h (first c)) = elim c [ ]
turn_fault (second h (second (ate u q j) (yes_fault f c))) = elim c [ ]
turn_fault (second h (second (ate u q j) (no_fault f c))) = elim c [ ]
turn_fault (second h (second (absent j o) (yes_fault f c))) = elim c [ ]
turn_fault (second h (second (absent j o) (no_fault f c))) = elim c [ ]

abbrev found_more : AllDeclared → Bool → Parser (AllDeclared ⊎ AllDeclared)
found_more all b = if b then (λ i. Ok (inl all, i)) else (λ i. Ok (inr all, i))

abbrev declared_step : Bool → ℕ → AllDeclared → Parser (AllDeclared ⊎ AllDeclared)
declared_step has e found = declaration (tree e) has >>= (λ x. eat k.Comma >>= (λ more. if more then (λ i. Ok (inl (more_of found x), i)) else (λ i. Ok (inr (more_of found x), i))))

module _ (has : Bool) (d : ℕ) (nest : Nested d) where
  abbrev declared_again : ℕ → ℕ → AllDeclared ⊎ AllDeclared → Parser AllDeclared
  declared_again = finish (λ m e found. declarations_from (tree e) has m found.0 found.1) (declared_step has) 1 d (OneTurn has d) (NoTurn has d)

  declared_steps : (found : AllDeclared) → Parses (λ e. declared_step has e found) d Any (OneTurn has d found) (NoTurn has d found)
  declared_steps found = map (λ l n us ts x r. turn_fact r) (λ l n us ts r. turn_fault r)
      (then_any (declaration_parses has d nest) (λ x. then_any (eaten k.Comma end_no_comma) (λ b. choose_any b (purely (inl (more_of found x))) (purely (inr (more_of found x))))))

  declared_turn : (m e : ℕ) (found : AllDeclared) (o : Outcome (Declaration × ℕ))
      → and_then o (λ x. eat k.Comma >>= (λ more. if more then declarations_from (tree e) has m (found.0 ++ x.0 ∷ []) (max found.1 x.1) else pure (found.0 ++ x.0 ∷ [], max found.1 x.1)))
      ≡ and_then (and_then o (λ x. eat k.Comma >>= (λ more. if more then (λ i. Ok (inl (more_of found x), i)) else (λ i. Ok (inr (more_of found x), i))))) (declared_again m e)
  declared_turn m e found (Ok p) = choice (sees k.Comma p.1) (after k.Comma p.1)
    where
      choice : (b : Bool) (i : Input) → (if b then declarations_from (tree e) has m (found.0 ++ p.0.0 ∷ []) (max found.1 p.0.1) else pure (found.0 ++ p.0.0 ∷ [], max found.1 p.0.1)) i
          ≡ and_then (found_more (more_of found p.0) b i) (declared_again m e)
      choice true i = refl
      choice false i = refl
  declared_turn m e found (Err r) = refl

  declared_unrolls : (m e : ℕ) (found : AllDeclared) (all : List Lexeme) (l n : ℕ) → 1 + length all ≤ m
      → declarations_from (tree e) has m found.0 found.1 (inp all l n) ≡ and_then (declared_step has e found (inp all l n)) (declared_again (pred m) e)
  unfolding declarations_from
  declared_unrolls zero e found all l n far = absurd (omega arith)
  declared_unrolls (suc m) e found all l n far = declared_turn m e found (declaration (tree e) has (inp all l n))

  declared_behind : (found : AllDeclared) → Parses (λ e. declarations_behind (tree e) has found.0 found.1) d Any (Runs (OneTurn has d) found) (Breaks (OneTurn has d) (NoTurn has d) found)
  unfolding declarations_behind left
  declared_behind found = turns (λ m e found. declarations_from (tree e) has m found.0 found.1) (declared_step has) 1 d (OneTurn has d) (NoTurn has d)
      declared_unrolls declared_steps turned_grows (λ i. left i + 1) (λ all l n. omega arith) found

-- ---- all of them, as far as they go

pub data Entirely (d l n : ℕ) (us ts : List Lexeme) (all : AllDeclared) : Type 0 where
  entirely : Declarations true d us all.0 all.1 → EndsThere (declarations (tree d) true) us ts all → Entirely d l n us ts all

declarationss : (d : ℕ) → Nested d → Parses (λ e. declarations (tree e) true) d Any (Entirely d) (Wanted (AllOf true))
unfolding declarations
declarationss d nest = map_again (λ l n us ts x r again. whole_of us ts x (turned_runs r [] none_yet) again) parses
  where
    parses : Parses (λ e. declarations (tree e) true) d Any (Runs (OneTurn true d) ([], 0)) (Wanted (AllOf true))
    parses = map (λ l n us ts x r. r) (λ l n us ts r. turned_breaks r [] none_yet) (declared_behind true d nest ([], 0))

    whole_of : {l n : ℕ} (us ts : List Lexeme) (all : AllDeclared) → Declarations true d us all.0 all.1
        → ((rs : List Lexeme) → head rs ≡ head ts → declarations (tree d) true (inp (us ++ rs) l n) ≡ done all (inp rs (end_after l us) n)) → Entirely d l n us ts all
    whole_of {l} {n} us ts all h again = entirely h (λ last size rs same. declarations_moves true d d l last n size us rs all (omega arith) (declarations_some h) (again rs same))

-- ---- those behind a first one, in the head of a `for`

pub data MoreDeclared (d : ℕ) (one : Declaration × ℕ) (l n : ℕ) (us ts : List Lexeme) (all : AllDeclared) : Type 0 where
  more_declared : ((vs : List Lexeme) → Declarations false d vs (one.0 ∷ []) one.1 → Declarations false d (vs ++ us) all.0 all.1) → MoreDeclared d one l n us ts all

pub data NotMoreDeclared (d : ℕ) (one : Declaration × ℕ) (l n : ℕ) (us ts : List Lexeme) : Type 0 where
  not_more_declared : ((vs : List Lexeme) → Declarations false d vs (one.0 ∷ []) one.1 → Begun (AllOf false) (vs ++ us)) → NotMoreDeclared d one l n us ts

abbrev first_found : Declaration × ℕ → AllDeclared
first_found one = (one.0 ∷ [], one.1)

more_fact : {d l n : ℕ} {us ts : List Lexeme} {one : Declaration × ℕ} {all : AllDeclared}
    → Both (Eaten k.Comma) (λ b. Chosen b (Runs (OneTurn false d) (first_found one)) (Pure (first_found one))) l n us ts all → MoreDeclared d one l n us ts all
more_fact {d} {all = all} (both {vs = ws} (ate u c i) (yes f runs)) =
    more_declared (λ vs h. subst (λ zs. Declarations false d zs all.0 all.1) (append_assoc vs (u ∷ []) ws) (turned_runs runs (vs ++ u ∷ []) (comma_behind h u c)))
more_fact (both (ate u c i) (no f r)) = absurd (not_both i f)
more_fact (both (absent i o) (yes f r)) = absurd (not_both f i)
more_fact {d} {one = one} (both (absent i o) (no f (nothing is))) =
    more_declared (λ vs h. subst (λ (a : AllDeclared). Declarations false d (vs ++ []) a.0 a.1) (sym is) (subst (λ zs. Declarations false d zs (one.0 ∷ []) one.1) (sym (append-nil vs)) h))

more_fault : {d l n : ℕ} {us ts : List Lexeme} {one : Declaration × ℕ}
    → Either Never (Eaten k.Comma) (λ b. ChosenFault b (Breaks (OneTurn false d) (NoTurn false d) (first_found one)) Never) l n us ts → NotMoreDeclared d one l n us ts
more_fault (first c) = elim c [ ]
more_fault {d} (second {vs = ws} (ate u c i) (yes_fault f breaks)) =
    not_more_declared (λ vs h. subst (λ zs. Begun (AllOf false) zs) (append_assoc vs (u ∷ []) ws) (turned_breaks breaks (vs ++ u ∷ []) (comma_behind h u c)))
more_fault (second (ate u c i) (no_fault f r)) = elim r [ ]
more_fault (second (absent i o) (yes_fault f r)) = absurd (not_both f i)
more_fault (second (absent i o) (no_fault f r)) = elim r [ ]

pub more_declarationss : (d : ℕ) → Nested d → (one : Declaration × ℕ) → Parses (λ e. more_declarations (tree e) one.0 one.1) d Any (MoreDeclared d one) (NotMoreDeclared d one)
unfolding more_declarations
more_declarationss d nest one = map (λ l n us ts x r. more_fact r) (λ l n us ts r. more_fault r)
    (then_any (eaten k.Comma end_no_comma) (λ b. choose_any b (declared_behind false d nest (first_found one)) (purely (first_found one))))

-- ---- declarations and a semicolon

module _ (Is : Relation) (how : HeadKind) (v : Sort)
    (make : (d tall : ℕ) (us vs ts : List Lexeme) (ds : List Declaration) (t : Lexeme) → t.sort ≡ v → Declarations true d us ds tall
    → Semicolon (EndsThere (declarations (tree d) true) us ts (ds, tall)) vs ts → Is d (t ∷ (us ++ vs)) ts (whole (declaring how ds) t.from (t ∷ (us ++ vs)) tall)) where
  declared_fact : {from d l n : ℕ} {us ts : List Lexeme} {x : Grown}
      → Both (Entirely d) (λ all. Closed Closing (λ u. declaring how all.0) (λ u. from) (λ u. all.1)) l n us ts x → Behind Is d from v l n us ts x
  declared_fact {d = d} {l = l} (both {us = us} {vs = vs} {x = all} (entirely h e) (closed u (closing_by c) fits is)) = λ t q f at.
      completed_behind {Is = Is} t f at fits is (sym (end_append l us vs)) (make _ _ us vs _ _ t q h (ends_with (λ zs. EndsThere (declarations (tree d) true) us zs all) e c))

  declared_end : (e : ℕ) (us : List Lexeme) (all : AllDeclared) → AllOf true e us all → (t : Lexeme) → t.sort ≡ v → Begun (Calm Is) (t ∷ us)
  declared_end e us all h t q = record {
    depth = e;
    more = token k.Semicolon ∷ [];
    made = whole (declaring how all.0) t.from (t ∷ (us ++ token k.Semicolon ∷ [])) all.1;
    has = λ ts calm. make e all.1 us (token k.Semicolon ∷ []) ts all.0 t q h ended;
  }

  declared_fault : {d l n : ℕ} {us ts : List Lexeme} → Either (Wanted (AllOf true)) (Entirely d) (λ all. Here) l n us ts → BehindFault Is v l n us ts
  declared_fault (first b) = λ t q. carry (t ∷ []) (λ e vs all h. declared_end e vs all h t q) b
  declared_fault {d} (second {us = us} {x = all} (entirely h e) here) = λ t q. at_nothing (declared_end d us all h t q)

  pub declared_bys : (d : ℕ) → Nested d → (from : ℕ) → Parses (λ e. declared_by (tree e) how from) d Any (Behind Is d from v) (BehindFault Is v)
  unfolding declared_by
  declared_bys d nest from = map (λ l n us ts x r. declared_fact r) (λ l n us ts r. declared_fault r)
      (then_any (declarationss d nest) (λ all. closing (semicolons d) (λ u. declaring how all.0) (λ u. from) (λ u. all.1)))
