-- What statements have in common: the first token, the end of the tree, and what is wanted where they fail.
use Rattle.std.proofs.Common.{◌≡◌, ℕ, ◌<◌, Bool, true, false, List, [], ◌∷◌, ◌++◌, length, Ok, refl, sym, ap, ◌∙◌, subst, append_assoc, append-nil, arith, if◌then◌else◌}
use Rattle.sr_ast.specs.declared.tree.Node.{Node}
use Rattle.sr_ast.specs.declared.tree.Node.TheVariants as node
use Rattle.sr_syntax.specs.declared.sorts.Sort.{Sort}
use Rattle.sr_syntax.specs.declared.sorts.Sort.TheVariants as k
use Rattle.sr_syntax.specs.declared.sorts.Lexeme.{Lexeme}
use Rattle.sr_syntax.specs.declared.grown.Grown.{Grown}
use Rattle.sr_syntax.specs.Sorts.{same_sort}
use Rattle.sr_syntax.specs.Input.{Input, Parser, ◌>>=◌, sees, sort, sort_at, next, max_depth}
use Rattle.sr_grammar.specs.Derivations.{Derives, Expression, States, start_of, whole}
use Rattle.sr_grammar.specs.Derivations as g
use Rattle.sr_grammar.specs.Reading.{end_after}
use Rattle.sr_grammar.proofs.Steps.{Fact, Fault, Need, Any, Parses, Both, both, Either, first, second, Never, Taken, taken, map_given, given, then_any, take, Shallow, Some_left, At, not_both, ending, sort_alike, same_sort_true}
use Rattle.sr_grammar.proofs.Facts.{token, Relation, Stood, stood, is_calm, BeginsOne, StartOne, start_one, Start, start}
use Rattle.sr_grammar.proofs.Peeks.{unit_of, unit_shallow}
use Rattle.sr_grammar.proofs.Targets.{a_name, some_assign}
use Rattle.sr_grammar.proofs.Beginnings.{Begun, Of, begun_of}

abbrev pub an_empty : Grown
an_empty = whole node.Empty 0 (token k.Semicolon ∷ []) 0

-- ---- what is wanted where it fails

-- one before whatever does not go on with it
abbrev pub Calm : Relation → ℕ → List Lexeme → Grown → Type 0
Calm Is e us x = (ts : List Lexeme) → is_calm (sort_at ts) ≡ true → Is e us ts x

begun_one : {Is : Relation} {us : List Lexeme} → BeginsOne Is us → Begun (Calm Is) us
begun_one b = record { depth = b.depth; more = b.more; made = b.made; has = b.is }

pub begins_one : {Is : Relation} {us : List Lexeme} → Begun (Calm Is) us → BeginsOne Is us
begins_one b = record { depth = b.depth; more = b.more; made = b.made; is = b.has }

pub started : {Is : Relation} {l n : ℕ} {us ts : List Lexeme} → StartOne Is l n us ts → Begun (Calm Is) us
started (start_one b) = begun_one b

pub begun_at : {s : g.Symbol} {l n : ℕ} {us ts : List Lexeme} → Start s l n us ts → Begun (Of s) us
begun_at (start b) = begun_of b

-- The tokens begin what is wanted.
abbrev pub Wanted : {A : Type 0} → (ℕ → List Lexeme → A → Type 0) → Fault
Wanted D l n us ts = Begun D us

-- among other tokens
pub carry_in : {A C : Type 0} {D : ℕ → List Lexeme → A → Type 0} {E : ℕ → List Lexeme → C → Type 0} (F : List Lexeme → List Lexeme) → ((us vs : List Lexeme) → F (us ++ vs) ≡ F us ++ vs)
    → ((e : ℕ) (vs : List Lexeme) (x : A) → D e vs x → Begun E (F vs)) → {us : List Lexeme} → Begun D us → Begun E (F us)
carry_in {A} {C} {D} {E} F law f {us} b =
    let c = f b.depth (us ++ b.more) b.made b.has in
    record {
      depth = c.depth;
      more = b.more ++ c.more;
      made = c.made;
      has = subst (λ zs. E c.depth zs c.made) (ap (λ zs. zs ++ c.more) (law us b.more) ∙ append_assoc (F us) b.more c.more) c.has;
    }

-- with these behind them
pub begun_by : {A : Type 0} {D : ℕ → List Lexeme → A → Type 0} (e : ℕ) (us more zs : List Lexeme) (x : A) → us ++ more ≡ zs → D e zs x → Begun D us
begun_by {A} {D} e us more zs x at h = record { depth = e; more = more; made = x; has = subst (λ qs. D e qs x) (sym at) h }

-- with more at the end
pub begun_calm : {Is : Relation} (e : ℕ) (us more : List Lexeme) (x : Grown) → ((ts : List Lexeme) → is_calm (sort_at ts) ≡ true → Is e (us ++ more) ts x) → Begun (Calm Is) us
begun_calm e us more x h = record { depth = e; more = more; made = x; has = h }

-- no token that would go on
pub calm_no : (v : Sort) → is_calm v ≡ false → (ts : List Lexeme) → is_calm (sort_at ts) ≡ true → same_sort (sort_at ts) v ≡ false
calm_no v other ts calm = go (same_sort (sort_at ts) v) refl
  where
    go : (b : Bool) → same_sort (sort_at ts) v ≡ b → same_sort (sort_at ts) v ≡ false
    go true is = absurd (not_both calm (ap is_calm (same_sort_true (sort_at ts) v is) ∙ other))
    go false is = is

-- a statement of nothing
pub no_statement : {e : ℕ} {ts : List Lexeme} → States e (token k.Semicolon ∷ []) ts an_empty
no_statement = g.empty (token k.Semicolon) refl

-- nothing more was read
pub at_nothing : {A : Type 0} {D : ℕ → List Lexeme → A → Type 0} {us : List Lexeme} → Begun D us → Begun D (us ++ [])
at_nothing {A} {D} {us} b = subst (λ zs. Begun D zs) (sym (append-nil us)) b

-- a name
pub some_expression : (b : Bool) → Derives 4 (Expression b) (token k.Identifier ∷ []) a_name
some_expression b = g.single (some_assign b)

-- ---- choices

pub if_at : {A : Type 0} (P Q : Parser A) (b : Bool) (i : Input) → (if b then P i else Q i) ≡ (if b then P else Q) i
if_at P Q true i = refl
if_at P Q false i = refl

pub sees_shallow : (k : Sort) → Shallow (λ i. sees k i)
unfolding sees sort
sees_shallow k l n ts rs h = ap (λ a. same_sort a k) (sort_alike ts rs h)

-- ---- the first token

abbrev pub StartAt : Sort → ℕ → Need
StartAt v from = At (λ s. s) v from

pub token_needs : (v : Sort) (from : ℕ) → (k.End ≡ v → ⊥) → (ts : List Lexeme) → StartAt v from ts → Some_left ts
token_needs v from other [] m = absurd (other m)
token_needs v from other (t ∷ ts) m = tt

-- where a statement of some tokens begins
pub start_at : (v : Sort) {from : ℕ} (us ts : List Lexeme) → 0 < length us → StartAt v from (us ++ ts) → start_of us ≡ from
start_at v [] ts some m = absurd (omega arith)
start_at v (t ∷ us) ts some m = m.1

-- what is one together with its first token
abbrev pub Behind : Relation → ℕ → ℕ → Sort → Fact Grown
Behind Is d from v l n us ts x = (t : Lexeme) → t.sort ≡ v → t.from ≡ from → t.to ≡ l → Stood Is d l n (t ∷ us) ts x

abbrev pub BehindFault : Relation → Sort → Fault
BehindFault Is v l n us ts = (t : Lexeme) → t.sort ≡ v → Begun (Calm Is) (t ∷ us)

pub anywhere : {Is : Relation} {d l n m k : ℕ} {us ts : List Lexeme} {x : Grown} → Stood Is d l n us ts x → Stood Is d m k us ts x
anywhere (stood h b) = stood h b

pub behind_first : {Is : Relation} {d : ℕ} {Q : ℕ → Parser Grown} (v : Sort) (from : ℕ) → (k.End ≡ v → ⊥) → Parses Q d Any (Behind Is d from v) (BehindFault Is v)
    → Parses (λ e. (λ i. Ok (unit_of i, next i)) >>= (λ u. Q e)) d (StartAt v from) (Stood Is d) (StartOne Is)
behind_first {Is} {d} v from other q = map_given (λ l n us ts x m r. fact m r) (λ l n us ts m r. fault m r) (then_any (given (token_needs v from other) (take unit_of unit_shallow)) (λ u. q))
  where
    fact : {l n : ℕ} {us ts : List Lexeme} {x : Grown} → StartAt v from (us ++ ts) → Both (Taken unit_of) (λ u. Behind Is d from v) l n us ts x → Stood Is d l n us ts x
    fact m (both (taken t e) r) = anywhere (r t m.0 m.1 refl)

    fault : {l n : ℕ} {us ts : List Lexeme} → StartAt v from (us ++ ts) → Either Never (Taken unit_of) (λ u. BehindFault Is v) l n us ts → StartOne Is l n us ts
    fault m (first c) = elim c [ ]
    fault m (second (taken t e) r) = start_one (begins_one (r t m.0))

-- the tree of these tokens, which ends where they do
pub completed_behind : {Is : Relation} {d l n from tall end : ℕ} {us ts : List Lexeme} {nd : Node} {x : Grown} (t : Lexeme) → t.from ≡ from → t.to ≡ l
    → tall < max_depth → x ≡ ending nd from end tall → end ≡ end_after l us → Is d (t ∷ us) ts (whole nd t.from (t ∷ us) tall) → Stood Is d l n (t ∷ us) ts x
completed_behind {Is} {d} {l} {n} {from} {tall} {end} {us} {ts} {nd} {x} t f e fits is at h =
    let same : x ≡ whole nd t.from (t ∷ us) tall = is ∙ ap (λ a. ending nd a end tall) (sym f) ∙ ap (λ a. ending nd t.from a tall) (at ∙ ap (λ m. end_after m us) (sym e)) in
    subst (λ y. Stood Is d l n (t ∷ us) ts y) (sym same) (stood h (omega (arith, fits)))
