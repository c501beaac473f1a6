-- The rows of binary operators, one after the other.
use Rattle.std.proofs.Common.{◌≡◌, ◌≢◌, ℕ, Bool, zero, suc, ◌+◌, ◌-◌, ◌<◌, ◌≤◌, Ok, Err, refl, subst, arith}
use Rattle.sr_syntax.specs.declared.grown.Grown.{Grown}
use Rattle.sr_syntax.specs.declared.grown.Goal.{Goal}
use Rattle.sr_syntax.specs.declared.refusal.Refusal.{Refusal}
use Rattle.sr_syntax.specs.declared.refusal.Refusal.TheVariants.{Memory}
use Rattle.sr_syntax.specs.Input.{Input, Parser}
use Rattle.sr_syntax.specs.Operators.{row_of}
use Rattle.sr_syntax.specs.Expressions.{binary_}

one_fails : (nest : Goal → Parser Grown) (has_in : Bool) (n : ℕ) (i : Input) (r : Refusal) → binary_ nest has_in n i ≡ Err r → binary_ nest has_in (suc n) i ≡ Err r
unfolding binary_
one_fails nest has_in n i r e = rw e refl

more_fail : (nest : Goal → Parser Grown) (has_in : Bool) (n more : ℕ) (i : Input) (r : Refusal) → binary_ nest has_in n i ≡ Err r → binary_ nest has_in (n + more) i ≡ Err r
more_fail nest has_in n zero i r e = let same : n ≡ n + 0 = omega arith in subst (λ m. binary_ nest has_in m i ≡ Err r) same e
more_fail nest has_in n (suc more) i r e =
    let next : suc (n + more) ≡ n + suc more = omega arith in
    subst (λ m. binary_ nest has_in m i ≡ Err r) next (one_fails nest has_in (n + more) i r (more_fail nest has_in n more i r e))

-- where some rows fail, more of them do
pub rows_fail : (nest : Goal → Parser Grown) (has_in : Bool) (n level : ℕ) (i : Input) (r : Refusal) → n ≤ level → (r ≢ Memory → binary_ nest has_in n i ≡ Err r) → r ≢ Memory → binary_ nest has_in level i ≡ Err r
rows_fail nest has_in n level i r below e known =
    let all : n + (level - n) ≡ level = omega arith in
    subst (λ m. binary_ nest has_in m i ≡ Err r) all (more_fail nest has_in n (level - n) i r (e known))

one_row : (nest : Goal → Parser Grown) (has_in : Bool) (n : ℕ) (i : Input) (x : Grown) (j : Input) (r : Refusal)
    → binary_ nest has_in n i ≡ Ok (x, j) → row_of has_in (binary_ nest has_in n) (suc n) x j ≡ Err r → binary_ nest has_in (suc n) i ≡ Err r
unfolding binary_
one_row nest has_in n i x j r e fails = rw e fails

-- where a row fails behind those below it, all of them do
pub row_fails : (nest : Goal → Parser Grown) (has_in : Bool) (n level : ℕ) (i : Input) (x : Grown) (j : Input) (r : Refusal)
    → n < level → binary_ nest has_in n i ≡ Ok (x, j) → (r ≢ Memory → row_of has_in (binary_ nest has_in n) (n + 1) x j ≡ Err r)
    → r ≢ Memory → binary_ nest has_in level i ≡ Err r
row_fails nest has_in n level i x j r below e fails known =
    let next : n + 1 ≡ suc n = omega arith in
    let f : row_of has_in (binary_ nest has_in n) (suc n) x j ≡ Err r = subst (λ m. row_of has_in (binary_ nest has_in n) m x j ≡ Err r) next (fails known) in
    rows_fail nest has_in (suc n) level i r (omega arith) (λ _. one_row nest has_in n i x j r e f) known
