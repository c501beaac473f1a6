-- The test for a StrUnsignedDecimalLiteral decides its grammar.
use Rattle.std.proofs.Common.{◌≡◌, ℕ, ◌+◌, ◌<◌, ◌==◌, nat_lt, Bool, true, false, cond, ◌&&◌, List, [], ◌∷◌, ◌++◌, length, take, drop, get_or, Option, Some, None, refl, sym, ap, ◌∙◌, subst, arith, inl, inr, append_assoc, append-nil, length-append, true≢false}
use Rattle.std.specs.Char.{digit_value}
use Rattle.std.specs.Int.{IsInRange}
use Rattle.std.specs.Cmp.Lexicographic.{pointwise}
use Rattle.std.specs.List.{position, position_or_len}
use Rattle.std.proofs.lemmas.Bool.{and_parts, and_from, or_cases, or_left, or_right, or_from, ltb-true, lt-ltb, le-ltb, eqb-true, ne_eqb}
use Rattle.std.proofs.lemmas.List.{take_at, drop_at, drop-drop}
use Rattle.std.proofs.lemmas.List.Sums.{split_at_first, passes_at_first}
use Rattle.std.proofs.lemmas.Option.{cond_some}
use Rattle.std.proofs.lemmas.Slice.Eq.{bytes_eq-Decides}
use Rattle.std.proofs.lemmas.Str.Parse.{digit_from_value}
use Rattle.sr_num.specs.StringToNumber.{are_digits, is_numeral, is_exponent_indicator, is_point, is_sign, is_signed_integer, is_around_point, is_mantissa, is_mantissa_with_point, is_decimal_with_exponent, is_finite_decimal, is_unsigned_decimal, infinity}
use Rattle.sr_num.specs.DecimalGrammar.{IsExponentPart, left_out, unsigned, signed, IsUnsignedDecimal, infinite, with_point, from_point, whole, DecimalsAreOfTheGrammar}

-- ---- where the first unit of a kind stands

-- no unit passes the test
abbrev pub Fails : (ℕ → Bool) → List ℕ → Type 0
Fails p [] = Unit {0}
Fails p (c ∷ cs) = (p c ≡ false) × Fails p cs

pub Fails-append : (p : ℕ → Bool) (xs ys : List ℕ) → Fails p xs → Fails p ys → Fails p (xs ++ ys)
Fails-append p [] ys f g = g
Fails-append p (c ∷ xs) ys f g = (f.0, Fails-append p xs ys f.1 g)

first_at : (p : ℕ → Bool) (front : List ℕ) (x : ℕ) (back : List ℕ) → Fails p front → p x ≡ true → position_or_len p (front ++ x ∷ back) ≡ length front
first_at p [] x back fails passes = rw passes refl
first_at p (c ∷ front) x back fails passes = rw fails.0 (omega (arith, first_at p front x back fails.1 passes))

position_at : (p : ℕ → Bool) (front : List ℕ) (x : ℕ) (back : List ℕ) → Fails p front → p x ≡ true → position p (front ++ x ∷ back) ≡ Some (length front)
position_at p front x back fails passes =
    let within : length front < length (front ++ x ∷ back) = omega (arith, length-append front (x ∷ back)) in
    rw (first_at p front x back fails passes, lt-ltb (length front) (length (front ++ x ∷ back)) within) refl

first_none : (p : ℕ → Bool) (xs : List ℕ) → Fails p xs → position_or_len p xs ≡ length xs
first_none p [] fails = refl
first_none p (c ∷ xs) fails = rw fails.0 (omega (arith, first_none p xs fails.1))

position_none : (p : ℕ → Bool) (xs : List ℕ) → Fails p xs → position p xs ≡ None
position_none p xs fails = rw (first_none p xs fails, le-ltb (length xs) (length xs) (omega arith)) refl

drop_past : (front : List ℕ) (x : ℕ) (back : List ℕ) → drop (length front + 1) (front ++ x ∷ back) ≡ back
drop_past front x back = sym (drop-drop 1 (length front) (front ++ x ∷ back)) ∙ ap (drop 1) (drop_at front (x ∷ back) (length front) refl)

-- a text is what stands before the first such unit, the unit, and what stands behind it
record Cut (p : ℕ → Bool) (text : List ℕ) (at : ℕ) : Type 0 where
  pub unit : ℕ
  pub passes : p unit ≡ true
  pub parts : text ≡ take at text ++ unit ∷ drop (at + 1) text

cut_at : (p : ℕ → Bool) (text : List ℕ) (at : ℕ) → position p text ≡ Some at → Cut p text at
cut_at p text at found =
    let k = cond_some (nat_lt (position_or_len p text) (length text)) (position_or_len p text) at found in
    let within : position_or_len p text < length text = ltb-true _ _ k.0 in
    subst (Cut p text) k.1 (record {
      unit = get_or text (position_or_len p text) 0;
      passes = passes_at_first p text 0 within;
      parts = split_at_first p text 0 within;
    })

-- ---- digits are no points, indicators or signs

digits_fail : (p : ℕ → Bool) → ((c : ℕ) → IsInRange 48 57 c → p c ≡ false) → (ds : List ℕ) → are_digits 10 ds ≡ true → Fails p ds
digits_fail p apart [] digits = tt
digits_fail p apart (d ∷ ds) digits =
    let k = and_parts (nat_lt (digit_value d) 10) (are_digits 10 ds) digits in
    (apart d (digit_from_value d (ltb-true _ _ k.0)), digits_fail p apart ds k.1)

no_point : (c : ℕ) → IsInRange 48 57 c → is_point c ≡ false
no_point c digit = ne_eqb c 0x2E (λ e. omega (arith, digit.0))

no_indicator : (c : ℕ) → IsInRange 48 57 c → is_exponent_indicator c ≡ false
no_indicator c digit = or_from (c == 0x65) (c == 0x45) (ne_eqb c 0x65 (λ e. omega (arith, digit.1))) (ne_eqb c 0x45 (λ e. omega (arith, digit.1)))

pub no_sign : (c : ℕ) → IsInRange 48 57 c → is_sign c ≡ false
no_sign c digit = or_from (c == 0x2B) (c == 0x2D) (ne_eqb c 0x2B (λ e. omega (arith, digit.0))) (ne_eqb c 0x2D (λ e. omega (arith, digit.0)))

pub digits_of_numeral : (ds : List ℕ) → is_numeral 10 ds ≡ true → are_digits 10 ds ≡ true
digits_of_numeral ds numeral = (and_parts (nat_lt 0 (length ds)) (are_digits 10 ds) numeral).1

-- ---- what is in the grammar passes the test

mantissa_plain : (ds : List ℕ) → is_numeral 10 ds ≡ true → is_mantissa ds ≡ true
mantissa_plain ds numeral = rw (position_none is_point ds (digits_fail is_point no_point ds (digits_of_numeral ds numeral))) numeral

mantissa_with_point : (front fraction : List ℕ) → are_digits 10 front ≡ true → is_around_point front fraction ≡ true → is_mantissa (front ++ 0x2E ∷ fraction) ≡ true
mantissa_with_point front fraction digits around =
    rw (position_at is_point front 0x2E fraction (digits_fail is_point no_point front digits) refl, take_at front (0x2E ∷ fraction) (length front) refl, drop_past front 0x2E fraction) around

no_indicator_around_point : (front fraction : List ℕ) → are_digits 10 front ≡ true → are_digits 10 fraction ≡ true → Fails is_exponent_indicator (front ++ 0x2E ∷ fraction)
no_indicator_around_point front fraction digits more =
    Fails-append is_exponent_indicator front (0x2E ∷ fraction) (digits_fail is_exponent_indicator no_indicator front digits)
    (refl, digits_fail is_exponent_indicator no_indicator fraction more)

integer_unsigned : (ds : List ℕ) → is_numeral 10 ds ≡ true → is_signed_integer ds ≡ true
integer_unsigned [] numeral = numeral
integer_unsigned (d ∷ ds) numeral = rw ((digits_fail is_sign no_sign (d ∷ ds) (digits_of_numeral (d ∷ ds) numeral)).0) numeral

finite_decimal : (m exponent : List ℕ) → Fails is_exponent_indicator m → is_mantissa m ≡ true → IsExponentPart exponent → is_finite_decimal (m ++ exponent) ≡ true
finite_decimal m exponent fails mantissa left_out = rw (append-nil m, position_none is_exponent_indicator m fails) mantissa
finite_decimal m exponent fails mantissa (unsigned e digits indicator numeral) =
    rw (position_at is_exponent_indicator m e digits fails indicator, take_at m (e ∷ digits) (length m) refl, drop_past m e digits)
    (and_from _ _ mantissa (integer_unsigned digits numeral))
finite_decimal m exponent fails mantissa (signed e sign digits indicator is_signed numeral) =
    rw (position_at is_exponent_indicator m e (sign ∷ digits) fails indicator, take_at m (e ∷ sign ∷ digits) (length m) refl, drop_past m e (sign ∷ digits))
    (and_from _ _ mantissa (rw is_signed numeral))

finite_passes : (text : List ℕ) → is_finite_decimal text ≡ true → is_unsigned_decimal text ≡ true
finite_passes text finite = or_right (pointwise ◌==◌ text infinity) (is_finite_decimal text) finite

pub passes : (text : List ℕ) → IsUnsignedDecimal text → is_unsigned_decimal text ≡ true
passes text infinite = refl
passes text (with_point front fraction exponent numeral digits part) =
    let front_digits = digits_of_numeral front numeral in
    let around = or_left (is_numeral 10 front && are_digits 10 fraction) (length front == 0 && is_numeral 10 fraction) (and_from _ _ numeral digits) in
    finite_passes (front ++ 0x2E ∷ (fraction ++ exponent)) (subst (λ t. is_finite_decimal t ≡ true) (append_assoc front (0x2E ∷ fraction) exponent)
    (finite_decimal (front ++ 0x2E ∷ fraction) exponent (no_indicator_around_point front fraction front_digits digits)
    (mantissa_with_point front fraction front_digits around) part))
passes text (from_point fraction exponent numeral part) =
    let around = or_right (is_numeral 10 [] && are_digits 10 fraction) (is_numeral 10 fraction) numeral in
    finite_passes (0x2E ∷ (fraction ++ exponent)) (finite_decimal (0x2E ∷ fraction) exponent (no_indicator_around_point [] fraction refl (digits_of_numeral fraction numeral))
    (mantissa_with_point [] fraction refl around) part)
passes text (whole digits exponent numeral part) =
    finite_passes (digits ++ exponent) (finite_decimal digits exponent (digits_fail is_exponent_indicator no_indicator digits (digits_of_numeral digits numeral))
    (mantissa_plain digits numeral) part)

-- ---- what passes the test is in the grammar

no_front : (front : List ℕ) → (length front == 0) ≡ true → front ≡ []
no_front [] none = refl
no_front (c ∷ front) none = let empty = eqb-true (length (c ∷ front)) 0 none in absurd (omega arith)

around_point : (m exponent front fraction : List ℕ) → m ≡ front ++ 0x2E ∷ fraction → is_around_point front fraction ≡ true → IsExponentPart exponent → IsUnsignedDecimal (m ++ exponent)
around_point m exponent front fraction parts around part =
    let text : m ++ exponent ≡ front ++ 0x2E ∷ (fraction ++ exponent) = ap (λ t. t ++ exponent) parts ∙ append_assoc front (0x2E ∷ fraction) exponent in
    elim (or_cases (is_numeral 10 front && are_digits 10 fraction) (length front == 0 && is_numeral 10 fraction) around) [
      | inl both ↦
          let k = and_parts (is_numeral 10 front) (are_digits 10 fraction) both in
          subst IsUnsignedDecimal (sym text) (with_point front fraction exponent k.0 k.1 part)
      | inr behind ↦
          let k = and_parts (length front == 0) (is_numeral 10 fraction) behind in
          subst IsUnsignedDecimal (sym (text ∙ ap (λ f. f ++ 0x2E ∷ (fraction ++ exponent)) (no_front front k.0))) (from_point fraction exponent k.1 part)
    ]

by_point : (m exponent : List ℕ) (place : Option ℕ) → position is_point m ≡ place → is_mantissa_with_point place m ≡ true → IsExponentPart exponent → IsUnsignedDecimal (m ++ exponent)
by_point m exponent None found mantissa part = whole m exponent mantissa part
by_point m exponent (Some at) found mantissa part =
    let cut = cut_at is_point m at found in
    let point = eqb-true cut.unit 0x2E cut.passes in
    around_point m exponent (take at m) (drop (at + 1) m) (cut.parts ∙ ap (λ c. take at m ++ c ∷ drop (at + 1) m) point) mantissa part

exponent_by_sign : (b : Bool) (e c : ℕ) (cs : List ℕ) → is_sign c ≡ b → is_exponent_indicator e ≡ true → cond b (is_numeral 10 cs) (is_numeral 10 (c ∷ cs)) ≡ true → IsExponentPart (e ∷ c ∷ cs)
exponent_by_sign true e c cs sign indicator integer = signed e c cs indicator sign integer
exponent_by_sign false e c cs sign indicator integer = unsigned e (c ∷ cs) indicator integer

exponent_of : (e : ℕ) (behind : List ℕ) → is_exponent_indicator e ≡ true → is_signed_integer behind ≡ true → IsExponentPart (e ∷ behind)
exponent_of e [] indicator integer = absurd (true≢false (sym integer))
exponent_of e (c ∷ cs) indicator integer = exponent_by_sign (is_sign c) e c cs refl indicator integer

by_exponent : (text : List ℕ) (place : Option ℕ) → position is_exponent_indicator text ≡ place → is_decimal_with_exponent place text ≡ true → IsUnsignedDecimal text
by_exponent text None found mantissa =
    subst IsUnsignedDecimal (append-nil text) (by_point text [] (position is_point text) refl mantissa left_out)
by_exponent text (Some at) found both =
    let k = and_parts (is_mantissa (take at text)) (is_signed_integer (drop (at + 1) text)) both in
    let cut = cut_at is_exponent_indicator text at found in
    subst IsUnsignedDecimal (sym cut.parts)
    (by_point (take at text) (cut.unit ∷ drop (at + 1) text) (position is_point (take at text)) refl k.0
    (exponent_of cut.unit (drop (at + 1) text) cut.passes k.1))

pub in_grammar : (text : List ℕ) → is_unsigned_decimal text ≡ true → IsUnsignedDecimal text
in_grammar text test =
    elim (or_cases _ (is_finite_decimal text) test) [
      | inl same ↦ subst IsUnsignedDecimal (sym ((bytes_eq-Decides text infinity).0 same)) infinite
      | inr finite ↦ by_exponent text (position is_exponent_indicator text) refl finite
    ]

pub DecimalsAreOfTheGrammar_lem : DecimalsAreOfTheGrammar
DecimalsAreOfTheGrammar_lem text = (in_grammar text, passes text)
