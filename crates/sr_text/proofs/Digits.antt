-- The digits of a number, written from the last one on.
use Rattle.std.proofs.Common.{◌≡◌, ℕ, List, [], ◌∷◌, ◌+◌, ◌-◌, ◌*◌, ◌/◌, ◌%◌, ◌^◌, ◌<◌, ◌≤◌, ◌++◌, length, drop, set, map, sym, ap, ◌∙◌, arith, append_assoc, suc, inl, inr}
use Rattle.std.specs.Char.{digit_char}
use Rattle.std.specs.Int.Digits.{digits_of}
use Rattle.std.proofs.lemmas.Int.Digits.{digits_of_step}
use Rattle.std.proofs.lemmas.List.{drop-set, map-append, length-set}
use Rattle.std.proofs.Math.Nat.{pow-suc, mul-le-mul_left}
use Rattle.std.proofs.lemmas.Bool.{cases_lt}
use Rattle.std.proofs.lemmas.Nat.{div_below}
use Rattle.sr_text.specs.Numerals.{digits_in}

-- the digits of the rest, and then what stands from this place on, are those of the number
pub record IsWrittenTo (radix n : ℕ) (buffer : List ℕ) (at rest : ℕ) : Type 0 where
  pub within : at ≤ 65
  pub left : 1 ≤ at
  pub room : length buffer ≡ 65
  pub small : rest < 2 ^ (at - 1)
  pub written : digits_in radix rest ++ drop at buffer ≡ digits_in radix n

-- the last digit of a number
pub digits_in_step : (radix rest : ℕ) → 2 ≤ radix → 0 < rest → digits_in radix rest ≡ digits_in radix (rest / radix) ++ (digit_char (rest % radix) ∷ [])
digits_in_step radix rest least some =
    ap (map digit_char) (digits_of_step radix rest least some) ∙ map-append digit_char (digits_of radix (rest / radix)) (rest % radix ∷ [])

-- a digit that is still to come has room, and so has the sign after it
room_left : (at rest : ℕ) → 1 ≤ at → 0 < rest → rest < 2 ^ (at - 1) → 2 ≤ at
room_left at rest left some small = elim (cases_lt at 2) [
  | inr enough ↦ enough
  | inl last ↦ let none : 2 ^ (at - 1) ≡ 1 = ap (λ k. 2 ^ k) {x = at - 1} {y = 0} (omega arith) in absurd (omega arith)
]

small_further : (radix at rest : ℕ) → 2 ≤ radix → 2 ≤ at → rest < 2 ^ (at - 1) → rest / radix < 2 ^ (at - 1 - 1)
small_further radix at rest least enough small =
    let half : 2 ^ (at - 1) ≡ 2 ^ (at - 1 - 1) * 2 = ap (λ k. 2 ^ k) {x = at - 1} {y = suc (at - 1 - 1)} (omega arith) ∙ pow-suc 2 (at - 1 - 1) in
    div_below rest radix (2 ^ (at - 1 - 1)) (omega arith) (omega (arith, mul-le-mul_left (2 ^ (at - 1 - 1)) least))

pub written_further : (radix n : ℕ) (buffer : List ℕ) (at rest : ℕ) → IsWrittenTo radix n buffer at rest → 2 ≤ radix → 0 < rest
    → IsWrittenTo radix n (set buffer (at - 1) (digit_char (rest % radix))) (at - 1) (rest / radix)
written_further radix n buffer at rest so least some =
    let small = so.small in
    let within = so.within in
    let room = so.room in
    let enough : 2 ≤ at = room_left at rest so.left some so.small in
    let place : at - 1 < length buffer = omega arith in
    let next : at - 1 + 1 ≡ at = omega arith in
    record {
      within = omega arith;
      left = omega arith;
      room = length-set buffer (at - 1) (digit_char (rest % radix)) ∙ so.room;
      small = small_further radix at rest least enough so.small;
      written = ap (λ t. digits_in radix (rest / radix) ++ t) (drop-set buffer (at - 1) (digit_char (rest % radix)) place ∙ ap (λ k. digit_char (rest % radix) ∷ drop k buffer) next)
          ∙ sym (append_assoc (digits_in radix (rest / radix)) (digit_char (rest % radix) ∷ []) (drop at buffer))
          ∙ ap (λ t. t ++ drop at buffer) (sym (digits_in_step radix rest least some))
          ∙ so.written;
    }
