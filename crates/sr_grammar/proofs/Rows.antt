-- What the rules of operators between two operands read, and where they fail.
use Rattle.std.proofs.Common.{◌≡◌, ℕ, zero, suc, ◌+◌, ◌≤◌, ◌<◌, max, Bool, true, false, ◌==◌, List, [], ◌∷◌, ◌++◌, length, Ok, Err, refl, sym, ap, ◌∙◌, subst, append_assoc, append-nil, arith, ◌⊎◌, inl, inr, if◌then◌else◌}
use Rattle.std.proofs.lemmas.Bool.{eqb-true}
use Rattle.std.proofs.Math.Dec.{eqb-zero-suc}
use Rattle.sr_syntax.specs.declared.sorts.Sort.TheVariants as k
use Rattle.sr_syntax.specs.declared.sorts.Sort.{Sort}
use Rattle.sr_syntax.specs.declared.sorts.Lexeme.{Lexeme}
use Rattle.sr_syntax.specs.declared.grown.Grown.{Grown}
use Rattle.sr_syntax.specs.Sorts.{same_sort}
use Rattle.sr_syntax.specs.Input.{Input, Outcome, Parser, ◌>>=◌, and_then, pure, sort, sort_at, left, max_depth, next}
use Rattle.sr_syntax.specs.Operators.{row, admits, bit_or_row, and_row, or_row, coalesce_row, is_in, from_of, joined, joined_node, row_from, row_of}
use Rattle.sr_syntax.specs.Expressions.{binary_, either, short_circuit}
use Rattle.sr_syntax.specs.Grammar.{tree}
use Rattle.sr_grammar.specs.Derivations.{Symbol, Derives, Row, Short, Coalesce, CoalesceHead, Power, joining}
use Rattle.sr_grammar.specs.Derivations as g
use Rattle.sr_grammar.specs.Faults.{Begins}
use Rattle.sr_grammar.proofs.Steps.{inp, Fact, Fault, Any, Parses, Both, both, Either, first, second, Never, Pure, nothing, Looked, looked, Taken, taken, Chosen, yes, no, ChosenFault, yes_fault, no_fault, Runs, stop, go, Breaks, break, later, map, then_any, bind, look, take, Some_left, sort_shallow, purely, choose, choose_any, turns, finish, pred, not_both, done, ending, end_append, and_is}
use Rattle.sr_grammar.proofs.Depths.{lift}
use Rattle.sr_grammar.proofs.Facts.{Derived, derived, Opened, opened, Mapped, mapped, mapping, Closed, closed, closing, bare, known_as, finished, end_behind, Start, start, Fill, begin_as, begin_behind, filled}
use Rattle.sr_grammar.proofs.Lists.{Nested, no_left, no_right, same_left, same_right, assoc}
use Rattle.sr_grammar.proofs.Sides.{unit_of, unit_shallow}
use Rattle.sr_grammar.specs.Reading.{end_after}

-- ---- one row, behind a first operand

pub data Joined (has : Bool) (d : ℕ) (low : Symbol) (level : ℕ) (x : Grown) (l n : ℕ) : List Lexeme → List Lexeme → Grown ⊎ Grown → Type 0 where
  joins : {us ts : List Lexeme} {y z : Grown} {o : Grown ⊎ Grown} (t : Lexeme) → row t.sort ≡ level → admits has t.sort ≡ true → Derives d low us y → max x.height y.height < max_depth
      → z ≡ ending (joined_node t.sort x.tree y.tree) (from_of x) (end_after t.to us) (max x.height y.height) → o ≡ inl z → Joined has d low level x l n (t ∷ us) ts o
  stands : {ts : List Lexeme} {o : Grown ⊎ Grown} → o ≡ inr x → Joined has d low level x l n [] ts o

pub data NotJoined (has : Bool) (low : Symbol) (level l n : ℕ) : List Lexeme → List Lexeme → Type 0 where
  not_joined : {us ts : List Lexeme} (t : Lexeme) → row t.sort ≡ level → admits has t.sort ≡ true → Begins low us → NotJoined has low level l n (t ∷ us) ts

pub level_of : (has : Bool) (level : ℕ) (s : Sort) → is_in has level s ≡ true → row s ≡ level
unfolding is_in
level_of has level s h = eqb-true (row s) level (and_is (row s == level) (admits has s) h).0

pub admitted : (has : Bool) (level : ℕ) (s : Sort) → is_in has level s ≡ true → admits has s ≡ true
unfolding is_in
admitted has level s h = (and_is (row s == level) (admits has s) h).1

abbrev row_step : Bool → (ℕ → Parser Grown) → ℕ → ℕ → Grown → Parser (Grown ⊎ Grown)
row_step has operand level e x = (λ i. Ok (sort i, i)) >>= (λ s.
    if is_in has level s then ((λ i. Ok (unit_of i, next i)) >>= (λ u. (operand e >>= (λ y. joined s x y)) >>= (λ z i. Ok (inl z, i)))) else (λ i. Ok (inr x, i)))

abbrev RowFact : Bool → ℕ → Symbol → ℕ → Grown → Fact (Grown ⊎ Grown)
RowFact has d low level x = Both (Looked sort) (λ s. Chosen (is_in has level s)
    (Both (Taken unit_of) (λ u. Mapped (Closed (Derived d low) (λ y. joined_node s x.tree y.tree) (λ y. from_of x) (λ y. max x.height y.height)) (λ z. inl z))) (Pure (inr x)))

row_fact : {has : Bool} {d level l n : ℕ} {low : Symbol} {us ts : List Lexeme} {x : Grown} {o : Grown ⊎ Grown} → RowFact has d low level x l n us ts o → Joined has d low level x l n us ts o
unfolding sort
row_fact {has} {level = level} {x = x} (both {x = s} (looked e) (yes f (both {vs = us} (taken t i) (mapped z (closed y (derived h b) fits is) o)))) =
    joins t (ap row (sym e) ∙ level_of has level s f) (ap (admits has) (sym e) ∙ admitted has level s f) h fits (is ∙ ap (λ a. ending (joined_node a x.tree y.tree) (from_of x) (end_after t.to us) (max x.height y.height)) e) o
row_fact (both (looked e) (no f (nothing is))) = stands is

row_fault : {has : Bool} {l n level : ℕ} {low : Symbol} {us ts : List Lexeme} → Either Never (Looked sort) (λ s. ChosenFault (is_in has level s) (Either Never (Taken unit_of) (λ u. Start low)) Never) l n us ts
    → NotJoined has low level l n us ts
unfolding sort
row_fault (first c) = elim c [ ]
row_fault (second (looked e) (yes_fault f (first c))) = elim c [ ]
row_fault {has} {level = level} (second {x = s} (looked e) (yes_fault f (second (taken t i) (start r)))) = not_joined t (ap row (sym e) ∙ level_of has level s f) (ap (admits has) (sym e) ∙ admitted has level s f) r
row_fault (second (looked e) (no_fault f c)) = elim c [ ]

module _ (has : Bool) (d : ℕ) (operand : ℕ → Parser Grown) (low : Symbol) (operands : Parses operand d Any (Derived d low) (Start low)) (level : ℕ) (real : is_in has level k.End ≡ false) where
  abbrev row_again : ℕ → ℕ → Grown ⊎ Grown → Parser Grown
  row_again = finish (λ m e x. row_from has (operand e) level m x) (row_step has operand level) 0 d (Joined has d low level) (λ x. NotJoined has low level)

  row_needs : (s : Sort) (ts : List Lexeme) → s ≡ sort_at ts → is_in has level s ≡ true → Some_left ts
  row_needs s [] e f = absurd (not_both (ap (is_in has level) (sym e) ∙ f) real)
  row_needs s (t ∷ ts) e f = tt

  row_steps : (x : Grown) → Parses (λ e. row_step has operand level e x) d Any (Joined has d low level x) (NotJoined has low level)
  unfolding joined sort
  row_steps x = map (λ l n us ts o r. row_fact r) (λ l n us ts r. row_fault r)
      (bind (λ l n us ts s m r. needs s r) (look sort sort_shallow) (λ s. choose (is_in has level s)
      (then_any (take unit_of unit_shallow) (λ u. mapping (closing operands (λ y. joined_node s x.tree y.tree) (λ y. from_of x) (λ y. max x.height y.height)) (λ z. inl z)))
      (purely (inr x))))
    where
      needs : {l n : ℕ} {us ts : List Lexeme} (s : Sort) → Looked sort l n us ts s → (is_in has level s ≡ true → Some_left ts) × (is_in has level s ≡ false → Unit {0})
      needs s (looked {ts} e) = (row_needs s ts e, λ f. tt)

  row_joined : (m e : ℕ) (s : Sort) (x : Grown) (o : Outcome Grown)
      → and_then o (λ y. joined s x y >>= (λ z. row_from has (operand e) level m z)) ≡ and_then (and_then (and_then o (λ y. joined s x y)) (λ z i. Ok (inl z, i))) (row_again m e)
  row_joined m e s x (Ok p) = assoc (joined s x p.0 p.1) (λ z. inl z) (row_again m e)
  row_joined m e s x (Err r) = refl

  row_turn : (m e : ℕ) (s : Sort) (x : Grown) (b : Bool) (i : Input)
      → (if b then ((λ i. done (unit_of i) (next i)) >>= (λ u. operand e >>= (λ y. joined s x y >>= (λ z. row_from has (operand e) level m z)))) else pure x) i
      ≡ and_then ((if b then ((λ i. done (unit_of i) (next i)) >>= (λ u. (operand e >>= (λ y. joined s x y)) >>= (λ z i. Ok (inl z, i)))) else (λ i. Ok (inr x, i))) i) (row_again m e)
  row_turn m e s x true i = row_joined m e s x (operand e (next i))
  row_turn m e s x false i = refl

  row_unrolls : (m e : ℕ) (x : Grown) (all : List Lexeme) (l n : ℕ) → 0 + length all ≤ m
      → row_from has (operand e) level m x (inp all l n) ≡ and_then (row_step has operand level e x (inp all l n)) (row_again (pred m) e)
  unfolding row_from sort
  row_unrolls zero e x [] l n far = rw real refl
  row_unrolls zero e x (t ∷ ts) l n far = absurd (omega arith)
  row_unrolls (suc m) e x all l n far = row_turn m e (sort_at all) x (is_in has level (sort_at all)) (inp all l n)

  row_grows : (x y : Grown) (l n : ℕ) (us ts : List Lexeme) → Joined has d low level x l n us ts (inl y) → 0 < length us
  row_grows x y l n us ts h = some h refl
    where
      some : {us ts : List Lexeme} {o : Grown ⊎ Grown} → Joined has d low level x l n us ts o → o ≡ inl y → 0 < length us
      some (joins {us} t c a h fits is o) e = omega arith
      some (stands is) e = cc

  pub rows : (x : Grown) → Parses (λ e. row_of has (operand e) level x) d Any (Runs (Joined has d low level) x) (Breaks (Joined has d low level) (λ x. NotJoined has low level) x)
  unfolding row_of left
  rows x = turns (λ m e x. row_from has (operand e) level m x) (row_step has operand level) 0 d (Joined has d low level) (λ x. NotJoined has low level) row_unrolls row_steps row_grows left (λ all l n. omega arith) x

-- ---- what the rows read

-- a tree that an operator made
joined_whole : {d m n : ℕ} {s : Symbol} {ts : List Lexeme} {z : Grown} (vs us : List Lexeme) (x y : Grown) (t : Lexeme) → max x.height y.height < max_depth
    → z ≡ ending (joined_node t.sort x.tree y.tree) (from_of x) (end_after t.to us) (max x.height y.height)
    → Derives d s (vs ++ t ∷ us) (joining t x y (vs ++ t ∷ us)) → Derived d s m n (vs ++ t ∷ us) ts z
joined_whole {m} vs us x y t fits is h =
    finished fits (is ∙ ap (λ a. ending (joined_node t.sort x.tree y.tree) (from_of x) a (max x.height y.height)) (sym (end_append m vs (t ∷ us)))) (end_behind m 0 vs us t) h

row_runs : {has : Bool} {d level l n : ℕ} {us ts : List Lexeme} {x y : Grown} → Runs (Joined has d (Row has level) (suc level)) x l n us ts y
    → (vs : List Lexeme) (m : ℕ) → Derived d (Row has (suc level)) m n vs (us ++ ts) x → Derived d (Row has (suc level)) m n (vs ++ us) ts y
row_runs (stop (joins t c a h fits is o)) = λ vs m w. absurd (no_left o)
row_runs (stop (stands is)) = λ vs m w. bare (known_as (same_right is) w)
row_runs {has} {d} {level} {n} (go {x = x} {vs = ws} {ts} {a = y} (joins {us} {y = right} t c a h fits is o) rest) = λ vs m w.
    subst (λ zs. Derived d (Row has (suc level)) m n zs ts y) (append_assoc vs (t ∷ us) ws) (row_runs rest (vs ++ t ∷ us) m (known_as (same_left o) (elim w [ derived i b ↦ joined_whole vs us x right t fits is (g.binary i t c a h) ])))
row_runs (go (stands is) rest) = λ vs m w. absurd (no_right is)

fill_row : {has : Bool} {d level : ℕ} {us : List Lexeme} {x : Grown} → Derives d (Row has (suc level)) us x → (t : Lexeme) → row t.sort ≡ suc level → admits has t.sort ≡ true
    → (e : ℕ) (vs : List Lexeme) (y : Grown) → Derives e (Row has level) vs y → Fill (Row has (suc level)) (us ++ t ∷ vs)
fill_row {has} {d} {us = us} h t c a e vs y i = filled (d + e) (us ++ t ∷ vs) _ (g.binary (lift d (d + e) (omega arith) h) t c a (lift e (d + e) (omega arith) i))

row_breaks : {has : Bool} {d level l n : ℕ} {us ts : List Lexeme} {x : Grown} → Breaks (Joined has d (Row has level) (suc level)) (λ x. NotJoined has (Row has level) (suc level)) x l n us ts
    → (vs : List Lexeme) (m : ℕ) → Derived d (Row has (suc level)) m n vs (us ++ ts) x → Begins (Row has (suc level)) (vs ++ us)
row_breaks (break (not_joined t c a s)) = λ vs m w. elim w [ derived h b ↦ begin_behind vs t (fill_row h t c a) s ]
row_breaks {has} {level = level} (later {x = x} {vs = ws} (joins {us} {y = right} t c a h fits is o) rest) = λ vs m w.
    subst (λ zs. Begins (Row has (suc level)) zs) (append_assoc vs (t ∷ us) ws) (row_breaks rest (vs ++ t ∷ us) m (known_as (same_left o) (elim w [ derived i b ↦ joined_whole vs us x right t fits is (g.binary i t c a h) ])))
row_breaks (later (stands is) rest) = λ vs m w. absurd (no_right is)

-- a row behind the whole of the one below it
next_row : {has : Bool} {d level l n : ℕ} {us ts : List Lexeme} {x : Grown} → Both (Derived d (Row has level)) (λ x. Runs (Joined has d (Row has level) (suc level)) x) l n us ts x → Derived d (Row has (suc level)) l n us ts x
next_row {l = l} (both {us = vs} (derived h b) runs) = row_runs runs vs l (derived (g.tighter h) b)

next_row_fault : {has : Bool} {d level l n : ℕ} {us ts : List Lexeme}
    → Either (Start (Row has level)) (Derived d (Row has level)) (λ x. Breaks (Joined has d (Row has level) (suc level)) (λ x. NotJoined has (Row has level) (suc level)) x) l n us ts → Start (Row has (suc level)) l n us ts
next_row_fault (first (start s)) = start (begin_as (λ e vs x h. filled e vs x (g.tighter h)) s)
next_row_fault {l = l} (second {us = vs} (derived h b) broken) = start (row_breaks broken vs l (derived (g.tighter h) b))

real_level : (has : Bool) (level : ℕ) → is_in has (suc level) k.End ≡ false
unfolding is_in
real_level has level = rw (eqb-zero-suc level) refl

operand_fact : {has : Bool} {d l n : ℕ} {us ts : List Lexeme} {x : Grown} → Opened Power d l n us ts x → Derived d (Row has zero) l n us ts x
operand_fact (opened h b) = derived (g.operand h) b

pub binaries : (has : Bool) (d : ℕ) → Nested d → (level : ℕ) → Parses (λ e. binary_ (tree e) has level) d Any (Derived d (Row has level)) (Start (Row has level))
unfolding binary_
binaries has d nest zero = map (λ l n us ts x r. operand_fact r) (λ l n us ts r. elim r [ start s ↦ start (begin_as (λ e vs x h. filled (suc e) vs x (g.operand h)) s) ]) nest.power
binaries has d nest (suc level) = map (λ l n us ts x r. next_row r) (λ l n us ts r. next_row_fault r)
    (then_any (binaries has d nest level) (λ x. rows has d (λ e. binary_ (tree e) has level) (Row has level) (binaries has d nest level) (suc level) (real_level has level) x))

-- ---- `&&` and `||`, or `??`

-- what is a row of `|` and more is a Short
data Heads (has : Bool) (d : ℕ) (us : List Lexeme) (x : Grown) : Type 0 where
  heads : Derives d (CoalesceHead has) us x → Derives d (Short has) us x → x.height ≤ max_depth → Heads has d us x

only_coalesce : (s : Sort) → row s ≡ coalesce_row → s ≡ k.Coalesce
only_coalesce k.Coalesce h = refl
only_coalesce _ h = absurd (omega (arith, h))

coalesce_whole : {has : Bool} {d n m : ℕ} {ts us vs : List Lexeme} {x y z : Grown} → Heads has d vs x → (t : Lexeme) → row t.sort ≡ coalesce_row → Derives d (Row has bit_or_row) us y → max x.height y.height < max_depth
    → z ≡ ending (joined_node t.sort x.tree y.tree) (from_of x) (end_after t.to us) (max x.height y.height) → Derived d (Coalesce has) m n (vs ++ t ∷ us) ts z
coalesce_whole {us = us} {vs = vs} {x = x} {y = y} (heads h i b) t c j fits is = joined_whole vs us x y t fits is (g.coalesce h t (only_coalesce t.sort c) j)

heads_of : {has : Bool} {d l n : ℕ} {us ts : List Lexeme} {x : Grown} → Derived d (Coalesce has) l n us ts x → Heads has d us x
heads_of (derived h b) = heads (g.head_more h) (g.coalesced h) b

coalesce_runs : {has : Bool} {d l n : ℕ} {us ts : List Lexeme} {x y : Grown} → Runs (Joined has d (Row has bit_or_row) coalesce_row) x l n us ts y
    → (vs : List Lexeme) → Heads has d vs x → Heads has d (vs ++ us) y
coalesce_runs (stop (joins t c a h fits is o)) = λ vs w. absurd (no_left o)
coalesce_runs {has} {d} (stop {x = x} {a = y} (stands is)) = λ vs w. subst (λ zs. Heads has d zs y) (sym (append-nil vs)) (subst (λ z. Heads has d vs z) (sym (same_right is)) w)
coalesce_runs {has} {d} {l} {n} {ts = ts} (go {y = z} {vs = ws} {a = y} (joins {us} t c a h fits is o) rest) = λ vs w.
    subst (λ zs. Heads has d zs y) (append_assoc vs (t ∷ us) ws)
    (coalesce_runs rest (vs ++ t ∷ us) (subst (λ z. Heads has d (vs ++ t ∷ us) z) (sym (same_left o)) (heads_of {l = l} {n = n} {ts = ts} (coalesce_whole w t c h fits is))))
coalesce_runs (go (stands is) rest) = λ vs w. absurd (no_right is)

fill_coalesce : {has : Bool} {d : ℕ} {us : List Lexeme} {x : Grown} → Heads has d us x → (t : Lexeme) → row t.sort ≡ coalesce_row
    → (e : ℕ) (vs : List Lexeme) (y : Grown) → Derives e (Row has bit_or_row) vs y → Fill (Short has) (us ++ t ∷ vs)
fill_coalesce {has} {d} {us = us} (heads h i b) t c e vs y j =
    filled (d + e) (us ++ t ∷ vs) _ (g.coalesced (g.coalesce (lift d (d + e) (omega arith) h) t (only_coalesce t.sort c) (lift e (d + e) (omega arith) j)))

coalesce_breaks : {has : Bool} {d l n : ℕ} {us ts : List Lexeme} {x : Grown} → Breaks (Joined has d (Row has bit_or_row) coalesce_row) (λ x. NotJoined has (Row has bit_or_row) coalesce_row) x l n us ts
    → (vs : List Lexeme) → Heads has d vs x → Begins (Short has) (vs ++ us)
coalesce_breaks (break (not_joined t c a s)) = λ vs w. begin_behind vs t (fill_coalesce w t c) s
coalesce_breaks {has} {d} {l} {n} {ts = ts} (later {vs = ws} (joins {us} t c a h fits is o) rest) = λ vs w.
    subst (λ zs. Begins (Short has) zs) (append_assoc vs (t ∷ us) ws)
    (coalesce_breaks rest (vs ++ t ∷ us) (subst (λ z. Heads has d (vs ++ t ∷ us) z) (sym (same_left o)) (heads_of {l = l} {n = n} {ts = ts} (coalesce_whole w t c h fits is))))
coalesce_breaks (later (stands is) rest) = λ vs w. absurd (no_right is)

abbrev EitherFact : Bool → ℕ → Grown → Fact Grown
EitherFact has d x = Both (Runs (Joined has d (Row has bit_or_row) and_row) x) (λ y. Runs (Joined has d (Row has and_row) or_row) y)

abbrev ShortFact : Bool → ℕ → Fact Grown
ShortFact has d = Both (Derived d (Row has bit_or_row)) (λ x. Both (Looked sort) (λ s. Chosen (same_sort s k.Coalesce) (Runs (Joined has d (Row has bit_or_row) coalesce_row) x) (EitherFact has d x)))

row_short : {has : Bool} {d l n : ℕ} {us ts : List Lexeme} {x : Grown} → Derived d (Row has bit_or_row) l n us ts x → Heads has d us x
row_short (derived h b) = heads (g.head_first h) (g.logical (g.tighter (g.tighter h))) b

short_of : {has : Bool} {d l n : ℕ} {us ts : List Lexeme} {x : Grown} → Heads has d us x → Derived d (Short has) l n us ts x
short_of (heads h i b) = derived i b

logical_of : {has : Bool} {d l n : ℕ} {us ts : List Lexeme} {x : Grown} → Derived d (Row has or_row) l n us ts x → Derived d (Short has) l n us ts x
logical_of (derived h b) = derived (g.logical h) b

tighter_of : {has : Bool} {d level l n : ℕ} {us ts : List Lexeme} {x : Grown} → Derived d (Row has level) l n us ts x → Derived d (Row has (suc level)) l n us ts x
tighter_of (derived h b) = derived (g.tighter h) b

short_fact : {has : Bool} {d l n : ℕ} {us ts : List Lexeme} {x : Grown} → ShortFact has d l n us ts x → Derived d (Short has) l n us ts x
short_fact (both {us = vs} h (both (looked e) (yes f runs))) = short_of (coalesce_runs runs vs (row_short h))
short_fact {has} {d} {l} {n} {x = z} (both {us = vs} (derived h b) (both (looked e) (no f (both {us = us} {vs = ws} {ts = ts} ands ors)))) =
    logical_of (subst (λ zs. Derived d (Row has or_row) l n zs ts z) (append_assoc vs us ws)
    (row_runs ors (vs ++ us) l (tighter_of (row_runs ands vs l (derived (g.tighter h) b)))))

abbrev ShortFault : Bool → ℕ → Fault
ShortFault has d = Either (Start (Row has bit_or_row)) (Derived d (Row has bit_or_row)) (λ x. Either Never (Looked sort) (λ s. ChosenFault (same_sort s k.Coalesce)
    (Breaks (Joined has d (Row has bit_or_row) coalesce_row) (λ x. NotJoined has (Row has bit_or_row) coalesce_row) x)
    (Either (Breaks (Joined has d (Row has bit_or_row) and_row) (λ x. NotJoined has (Row has bit_or_row) and_row) x) (Runs (Joined has d (Row has bit_or_row) and_row) x)
    (λ y. Breaks (Joined has d (Row has and_row) or_row) (λ x. NotJoined has (Row has and_row) or_row) y))))

short_fault : {has : Bool} {d l n : ℕ} {us ts : List Lexeme} → ShortFault has d l n us ts → Start (Short has) l n us ts
short_fault (first (start s)) = start (begin_as (λ e vs x h. filled e vs x (g.logical (g.tighter (g.tighter h)))) s)
short_fault (second h (first c)) = elim c [ ]
short_fault (second {us = vs} h (second (looked e) (yes_fault f broken))) = start (coalesce_breaks broken vs (row_short h))
short_fault {l = l} (second {us = vs} (derived h b) (second (looked e) (no_fault f (first broken)))) =
    start (begin_as (λ e vs x h. filled e vs x (g.logical (g.tighter h))) (row_breaks broken vs l (derived (g.tighter h) b)))
short_fault {has} {l = l} (second {us = vs} (derived h b) (second (looked e) (no_fault f (second {us = us} {vs = ws} ands broken)))) =
    start (begin_as (λ e vs x h. filled e vs x (g.logical h))
    (subst (λ zs. Begins (Row has or_row) zs) (append_assoc vs us ws) (row_breaks broken (vs ++ us) l (tighter_of (row_runs ands vs l (derived (g.tighter h) b))))))

real_and : (has : Bool) → is_in has and_row k.End ≡ false
unfolding is_in
real_and has = refl

real_or : (has : Bool) → is_in has or_row k.End ≡ false
unfolding is_in
real_or has = refl

real_coalesce : (has : Bool) → is_in has coalesce_row k.End ≡ false
unfolding is_in
real_coalesce has = refl

pub shorts : (has : Bool) (d : ℕ) → Nested d → Parses (λ e. short_circuit (tree e) has) d Any (Derived d (Short has)) (Start (Short has))
unfolding short_circuit either
shorts has d nest = map (λ l n us ts x r. short_fact r) (λ l n us ts r. short_fault r)
    (then_any (binaries has d nest bit_or_row) (λ x. then_any (look sort sort_shallow) (λ s. choose_any (same_sort s k.Coalesce)
    (rows has d (λ e. binary_ (tree e) has bit_or_row) (Row has bit_or_row) (binaries has d nest bit_or_row) coalesce_row (real_coalesce has) x)
    (then_any (rows has d (λ e. binary_ (tree e) has bit_or_row) (Row has bit_or_row) (binaries has d nest bit_or_row) and_row (real_and has) x)
    (λ y. rows has d (λ e. binary_ (tree e) has and_row) (Row has and_row) (binaries has d nest and_row) or_row (real_or has) y)))))
