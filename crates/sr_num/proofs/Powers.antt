-- Powers by halving the exponent.
use Rattle.std.proofs.Common.{◌≡◌, ◌≢◌, ℕ, zero, suc, ◌+◌, ◌*◌, ◌/◌, ◌%◌, ◌^◌, ◌<◌, ◌≤◌, ap, ◌∙◌, arith, refl}
use Rattle.std.proofs.lemmas.Nat.{pow-add}
use Rattle.std.proofs.Math.Nat.{pow-le-pow_right, pow-suc, pow-zero}

pub pow-even : (b e : ℕ) → e % 2 ≡ 0 → b ^ e ≡ b ^ (e / 2) * b ^ (e / 2)
pow-even b e even =
    let halves : e ≡ e / 2 + e / 2 = omega arith in
    ap (λ k. b ^ k) halves ∙ pow-add b (e / 2) (e / 2)

pow-one : (b : ℕ) → b ^ 1 ≡ b
pow-one b = pow-suc b 0 ∙ rw (pow-zero b) (omega arith)

pub pow-odd : (b e : ℕ) → e % 2 ≢ 0 → b ^ e ≡ b ^ (e / 2) * b ^ (e / 2) * b
pow-odd b e odd =
    let halves : e ≡ e / 2 + e / 2 + 1 = omega arith in
    ap (λ k. b ^ k) halves ∙ pow-add b (e / 2 + e / 2) 1 ∙ ap (λ p. p * b ^ 1) (pow-add b (e / 2) (e / 2)) ∙ ap (λ p. b ^ (e / 2) * b ^ (e / 2) * p) (pow-one b)

half-le-pow : (b e : ℕ) → 0 < b → b ^ (e / 2) ≤ b ^ e
half-le-pow b e positive = pow-le-pow_right positive (omega arith)

square-le-pow : (b e : ℕ) → 0 < b → b ^ (e / 2) * b ^ (e / 2) ≤ b ^ e
square-le-pow b e positive = rw (← pow-add b (e / 2) (e / 2)) (pow-le-pow_right positive (omega arith))

-- where the power to half the exponent is above m, or its square is, so is the power
pub half_above : (b e m : ℕ) → b ≢ 0 → (b ^ (e / 2) ≤ m → ⊥) → b ^ e ≤ m → ⊥
half_above b e m some above within = above (omega (arith, half-le-pow b e (omega arith)))

pub square_above : (b e r m : ℕ) → b ≢ 0 → r ≡ b ^ (e / 2) → (r * r ≤ m → ⊥) → b ^ e ≤ m → ⊥
square_above b e r m some root above within = above (rw root (omega (arith, square-le-pow b e (omega arith))))

pub pow-of_zero : (e : ℕ) → e ≢ 0 → 0 ^ e ≡ 0
pow-of_zero zero some = absurd (some refl)
pow-of_zero (suc e) some = pow-suc 0 e ∙ omega arith
