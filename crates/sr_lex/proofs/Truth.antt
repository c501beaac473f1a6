-- Tests and what they say.
use Rattle.std.proofs.Common.{◌≡◌, ℕ, suc, Bool, true, false, ◌||◌, ◌&&◌, refl, arith, ◌⊎◌, inl, inr}
use Rattle.std.specs.Prelude.{not, ◌==◌}

pub or_true : (a b : Bool) → (a || b) ≡ true → (a ≡ true) ⊎ (b ≡ true)
or_true true b h = inl refl
or_true false b h = inr h

pub or_false : (a b : Bool) → (a || b) ≡ false → (a ≡ false) × (b ≡ false)
or_false true b h = cc
or_false false b h = (refl, h)

pub and_true : (a b : Bool) → (a && b) ≡ true → (a ≡ true) × (b ≡ true)
and_true true b h = (refl, h)
and_true false b h = cc

pub not_true : (a : Bool) → not a ≡ true → a ≡ false
not_true true h = cc
not_true false h = refl

pub or_left : (a b : Bool) → a ≡ true → (a || b) ≡ true
or_left true b h = refl
or_left false b h = cc

pub or_right : (a b : Bool) → b ≡ true → (a || b) ≡ true
or_right true b h = refl
or_right false b h = h

pub and_in : (a b : Bool) → a ≡ true → b ≡ true → (a && b) ≡ true
and_in true b h k = k
and_in false b h k = cc

pub or_nothing : (a : Bool) → (a || false) ≡ a
or_nothing true = refl
or_nothing false = refl

pub or_assoc : (a b c : Bool) → ((a || b) || c) ≡ (a || (b || c))
or_assoc true b c = refl
or_assoc false b c = refl

pub both_ways : (b : Bool) → b ≡ true → b ≡ false → ⊥
both_ways b h k = cc

pub same_number : (a b : ℕ) → (a == b) ≡ true → a ≡ b
same_number a b h = grind arith

pub is_same : (a b : ℕ) → a ≡ b → (a == b) ≡ true
is_same a b h = grind arith

pub nonzero : (n : ℕ) → (suc n == 0) ≡ false
nonzero n = grind arith
