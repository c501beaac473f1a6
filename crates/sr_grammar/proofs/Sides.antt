-- What stands on the left of an operator, and where reading it fails.
use Rattle.std.proofs.Common.{◌≡◌, ℕ, suc, ◌≤◌, Bool, true, false, List, [], ◌++◌, refl, sym, subst, append-nil}
use Rattle.sr_syntax.specs.declared.sorts.Sort.TheVariants as k
use Rattle.sr_syntax.specs.declared.sorts.Lexeme.{Lexeme}
use Rattle.sr_syntax.specs.declared.grown.Grown.{Grown}
use Rattle.sr_syntax.specs.Sorts.{same_sort}
use Rattle.sr_syntax.specs.Input.{sort, max_depth}
use Rattle.sr_syntax.specs.Operators.{is_bare_new}
use Rattle.sr_syntax.specs.Expressions.{left_side}
use Rattle.sr_syntax.specs.Grammar.{tree}
use Rattle.sr_grammar.specs.Derivations.{Derives, Chain, New, Primary, Left}
use Rattle.sr_grammar.specs.Derivations as g
use Rattle.sr_grammar.proofs.Steps.{Fact, Any, Parses, Both, both, Either, first, second, Never, Pure, nothing, Looked, looked, Chosen, yes, no, ChosenFault, yes_fault, no_fault, map, then_any, look, sort_shallow, purely, choose_any}
use Rattle.sr_grammar.proofs.Facts.{Derived, derived, Start, start}
use Rattle.sr_grammar.proofs.Followers.{OpenedNew, opened_new}
use Rattle.sr_grammar.proofs.Lists.{Nested}
use Rattle.sr_grammar.proofs.Targets.{chain_of_new, in_chain, bare_alone, plain, LeftFact, LeftFault}
use Rattle.sr_grammar.proofs.Beginnings.{Begun, Of, onward, begun_whole, begun_of, begins_of}
use Rattle.sr_grammar.proofs.Primaries.{primaries}
use Rattle.sr_grammar.proofs.Chained.{SomeChain, some_chain, Parted, parted, NotParted, not_parted, partings}
pub use Rattle.sr_grammar.proofs.Peeks.{unit_of, unit_shallow}
pub use Rattle.sr_grammar.proofs.News.{news}

-- a chain, or a New without Arguments
data Sided (has : Bool) : ℕ → List Lexeme → Grown → Type 0 where
  side_chain : {d : ℕ} {us : List Lexeme} {x : Grown} → SomeChain has d us x → Sided has d us x
  side_bare : {d : ℕ} {us : List Lexeme} {x : Grown} → Derives d New us x → is_bare_new x ≡ true → Sided has (suc d) us x

data SideFact (has : Bool) (d l n : ℕ) (us ts : List Lexeme) (x : Grown) : Type 0 where
  side : Sided has d us x → x.height ≤ max_depth → SideFact has d l n us ts x

data NoSide (has : Bool) (l n : ℕ) (us ts : List Lexeme) : Type 0 where
  no_side : Begun (SomeChain has) us → NoSide has l n us ts

chain_begins : {has : Bool} → (e : ℕ) (us : List Lexeme) (x : Grown) → Derives e New us x → Begun (SomeChain has) us
chain_begins e us x h = let c = chain_of_new h in record { depth = c.depth; more = c.more; made = c.made; has = some_chain false c.derives (λ e. refl) }

-- by another name, with nothing behind
bare_side : {has : Bool} {d l n : ℕ} {us ts : List Lexeme} {x y : Grown} → y ≡ x → SideFact has d l n us ts x → SideFact has d l n (us ++ []) ts y
bare_side {has} {d} {l} {n} {us} {ts} {x} {y} is r = subst (λ zs. SideFact has d l n zs ts y) (sym (append-nil us)) (subst (λ z. SideFact has d l n us ts z) (sym is) r)

abbrev NewSide : Bool → ℕ → Fact Grown
NewSide has d = Both (OpenedNew d) (λ x. Chosen (is_bare_new x) (Pure x) (Parted has x d))

new_side : {has : Bool} {d l n : ℕ} {us ts : List Lexeme} {x : Grown} → NewSide has d l n us ts x → SideFact has d l n us ts x
new_side {has} (both {us} (opened_new h b u) (yes f (nothing is))) = bare_side is (side (side_bare h f) b)
new_side (both {us} (opened_new h b u) (no f (parted p))) = let r = p us (g.one_new h f) b in side (side_chain r.0) r.1

new_no_side : {has : Bool} {d l n : ℕ} {us ts : List Lexeme}
    → Either (Start New) (OpenedNew d) (λ x. ChosenFault (is_bare_new x) Never (NotParted has x d)) l n us ts → NoSide has l n us ts
new_no_side (first (start s)) = no_side (onward chain_begins (begun_of s))
new_no_side (second h (yes_fault f c)) = elim c [ ]
new_no_side (second {us} (opened_new h b u) (no_fault f (not_parted p))) = no_side (p us (g.one_new h f) b)

side_fact : {has : Bool} {d l n : ℕ} {us ts : List Lexeme} {x : Grown}
    → Both (Looked sort) (λ s. Chosen (same_sort s k.New) (NewSide has d) (Both (Derived d Primary) (λ x. Parted has x d))) l n us ts x → SideFact has d l n us ts x
side_fact (both (looked e) (yes f r)) = new_side r
side_fact (both (looked e) (no f (both {us} (derived h b) (parted p)))) = let r = p us (g.one_primary h) b in side (side_chain r.0) r.1

side_fault : {has : Bool} {d l n : ℕ} {us ts : List Lexeme}
    → Either Never (Looked sort) (λ s. ChosenFault (same_sort s k.New) (Either (Start New) (OpenedNew d) (λ x. ChosenFault (is_bare_new x) Never (NotParted has x d)))
    (Either (Start Primary) (Derived d Primary) (λ x. NotParted has x d))) l n us ts → NoSide has l n us ts
side_fault (first c) = elim c [ ]
side_fault (second (looked e) (yes_fault f r)) = new_no_side r
side_fault (second (looked e) (no_fault f (first (start s)))) = no_side (onward (λ e us x h. begun_whole e us x (some_chain false (g.one_primary h) (λ e. refl))) (begun_of s))
side_fault (second (looked e) (no_fault f (second {us} (derived h b) (not_parted p)))) = no_side (p us (g.one_primary h) b)

-- ---- with optional chains, or without

left_fact : (has : Bool) {d l n : ℕ} {us ts : List Lexeme} {x : Grown} → SideFact has d l n us ts x → LeftFact has d l n us ts x
left_fact true (side (side_chain (some_chain c h f)) b) = derived (g.chain h) b
left_fact true (side (side_bare h is) b) = derived (g.bare h is) b
left_fact false {us = us} {x = x} (side (side_chain (some_chain {e} c h f)) b) = plain (in_chain (subst (λ c. Derives e (Chain c) us x) (f refl) h)) b
left_fact false (side (side_bare h is) b) = plain (bare_alone h is) b

left_begins : (e : ℕ) (us : List Lexeme) (x : Grown) → SomeChain true e us x → Begun (Of Left) us
left_begins e us x (some_chain c h f) = begun_whole e us x (g.chain h)

plain_begins : (e : ℕ) (us : List Lexeme) (x : Grown) → SomeChain false e us x → Begun (Of (Chain false)) us
plain_begins e us x (some_chain c h f) = begun_whole e us x (subst (λ c. Derives e (Chain c) us x) (f refl) h)

left_fault : (has : Bool) {l n : ℕ} {us ts : List Lexeme} → NoSide has l n us ts → LeftFault has l n us ts
left_fault true (no_side b) = start (begins_of (onward left_begins b))
left_fault false (no_side b) = start (begins_of (onward plain_begins b))

pub left_sides : (has : Bool) (d : ℕ) → Nested d → Parses (λ e. left_side (tree e) has) d Any (LeftFact has d) (LeftFault has)
unfolding left_side
left_sides has d nest = map (λ l n us ts x r. left_fact has (side_fact r)) (λ l n us ts r. left_fault has (side_fault r))
    (then_any (look sort sort_shallow) (λ s. choose_any (same_sort s k.New)
    (then_any nest.new (λ x. choose_any (is_bare_new x) (purely x) (partings d nest has x)))
    (then_any (primaries d nest) (λ x. partings d nest has x))))
