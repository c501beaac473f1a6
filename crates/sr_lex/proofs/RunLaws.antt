-- The value of the digits at the front.
use Rattle.std.proofs.Common.{◌≡◌, ℕ, ◌+◌, ◌*◌, ◌≤◌, Bool, true, false, List, [], ◌∷◌, refl, sym, ap, ◌∙◌, arith}
use Rattle.std.specs.Prelude.{◌==◌, if◌then◌else◌}
use Rattle.std.specs.Char.{digit_value}
use Rattle.sr_lex.specs.Numbers.{separator}
use Rattle.sr_lex.specs.Failures.{run_value}
use Rattle.sr_lex.proofs.NumberLaws.{cap, cap_step}

-- kept from growing past a bound on the way, it comes to the same
pub value_capped : (base : ℕ) → 1 ≤ base → (v : ℕ) (us : List ℕ) → cap (run_value base (cap v) us) ≡ cap (run_value base v us)
value_capped base some v [] = omega arith
value_capped base some v (u ∷ us) = go (u == separator) (λ w. value_capped base some w us)
  where
    go : (b : Bool) → ((w : ℕ) → cap (run_value base (cap w) us) ≡ cap (run_value base w us))
        → cap (if b then run_value base (cap v) us else run_value base (cap v * base + digit_value u) us)
        ≡ cap (if b then run_value base v us else run_value base (v * base + digit_value u) us)
    go true again = again v
    go false again =
        sym (again (cap v * base + digit_value u))
        ∙ ap (λ (w : ℕ). cap (run_value base w us)) (cap_step base v (digit_value u) some)
        ∙ again (v * base + digit_value u)

pub value_goes : (base v u : ℕ) (us : List ℕ) → 1 ≤ base → cap (run_value base v (u ∷ us)) ≡ cap (run_value base (if u == separator then v else cap (v * base + digit_value u)) us)
value_goes base v u us some = go (u == separator)
  where
    go : (b : Bool) → cap (if b then run_value base v us else run_value base (v * base + digit_value u) us)
        ≡ cap (run_value base (if b then v else cap (v * base + digit_value u)) us)
    go true = refl
    go false = sym (value_capped base some (v * base + digit_value u) us)
