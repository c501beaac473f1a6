-- The words of the command.
use Rattle.std.proofs.Common.{◌≡◌, ◌≢◌, ℕ, ◌<◌, ◌^◌, Bool, true, false, List, [], ◌∷◌, length, None, Result, Ok, Err, refl, sym, ◌∙◌, arith, rules}
use Rattle.std.specs.Prelude.{◌&&◌, not, ◌==◌}
use Rattle.std.specs.List.{list_all}
use Rattle.std.specs.Str.Parse.{digits_value, ParsesUnsigned}
use Rattle.std.proofs.lemmas.Str.Parse.{IsNumeralModel, numerals_by_value, parse_gives}
use Rattle.sr_command.specs.Words.{command, bound_of, is_bound, is_digit, is_numeral}

-- any other number of words is refused
pub other_words : (words : List (List ℕ)) → length words ≢ 1 → length words ≢ 3 → command words ≡ None
other_words [] one three = refl
other_words (a ∷ []) one three = absurd (one refl)
other_words (a ∷ b ∷ []) one three = refl
other_words (a ∷ b ∷ c ∷ []) one three = absurd (three refl)
other_words (a ∷ b ∷ c ∷ d ∷ words) one three = refl

and_true : (b : Bool) → b ≡ (b && true)
and_true true = refl
and_true false = refl

own : IsNumeralModel (λ ds. list_all is_digit ds ≡ true) (digits_value 10)
own = numerals_by_value (λ ds. list_all is_digit ds ≡ true) (search rules)

both_true : (a b c : Bool) → (a && b && c) ≡ true → (a && c) ≡ true
both_true true true c e = e
both_true true false c e = cc
both_true false b c e = cc

all_digits : (bs : List ℕ) → is_numeral bs ≡ true → list_all is_digit bs ≡ true
all_digits [] e = refl
all_digits (b ∷ []) e = sym (and_true (is_digit b)) ∙ e
all_digits (b ∷ c ∷ bs) e = both_true (is_digit b) (not (b == 0x30)) (list_all is_digit (c ∷ bs)) e

some_digit : (bs : List ℕ) → is_numeral bs ≡ true → 0 < length bs
some_digit [] e = cc
some_digit (b ∷ bs) e = omega arith

fits_bound : (n : ℕ) → is_bound n ≡ true → n < 2 ^ 64
fits_bound n e = grind arith

module _ {E : Type 0} (bs : List ℕ) (e : E) (numeral : is_numeral bs ≡ true) (parses : (let r : Result ℕ E = Err e in ParsesUnsigned 64 10 bs r)) where
  no_bound_by : (b : Bool) → is_bound (digits_value 10 bs) ≡ b → bound_of bs ≡ None
  no_bound_by true is =
      let r : Result ℕ E = Err e in
      let ok : r ≡ Ok (digits_value 10 bs) = parse_gives own 64 bs r parses (all_digits bs numeral) (some_digit bs numeral) (fits_bound (digits_value 10 bs) is) in
      cc
  no_bound_by false is = rw (numeral, is) refl

  -- a numeral that does not parse is no bound
  pub no_bound : bound_of bs ≡ None
  no_bound = no_bound_by (is_bound (digits_value 10 bs)) refl
