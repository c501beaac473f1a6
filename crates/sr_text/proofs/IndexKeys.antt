-- Decimal numerals: what each looks like, and that code units that look so are one.
use Rattle.std.proofs.Common.{◌≡◌, ◌≢◌, ℕ, zero, suc, List, [], ◌∷◌, ◌+◌, ◌-◌, ◌*◌, ◌/◌, ◌%◌, ◌^◌, ◌<◌, ◌≤◌, ◌++◌, length, take, get_or, map, refl, sym, ap, ◌∙◌, subst, arith, lit≤, All, add-one}
use Rattle.std.proofs.Math.Nat.{pow-suc}
use Rattle.std.specs.Char.{digit_char, digit_value}
use Rattle.std.specs.Int.{IsInRange}
use Rattle.std.specs.List.{AllByRecursion}
use Rattle.std.specs.Int.Digits.{digits_of, number_from_digits}
use Rattle.std.specs.Str.Parse.{AllDigits, digits_value}
use Rattle.std.proofs.lemmas.Int.Digits.{length-digits_of-le, all_below_base_digits_of, first_digits_of, number_digits_of, digits_value_is}
use Rattle.std.proofs.lemmas.Str.{digit_value-digit_char}
use Rattle.std.proofs.lemmas.Bool.{lt-ltb}
use Rattle.std.proofs.lemmas.List.{take_more, length-map}
use Rattle.std.proofs.lemmas.List.Elements.{All-get_or, All-from_recursion}
use Rattle.sr_text.specs.Numerals.{IsIndexKey, IsNumeral, digits_in, numeral_of}
use Rattle.sr_text.proofs.Digits.{digits_in_step}

values_of_digits : (ds : List ℕ) → AllByRecursion (λ d. d < 36) ds → map digit_value (map digit_char ds) ≡ ds
values_of_digits [] all = refl
values_of_digits (d ∷ ds) all = rw (digit_value-digit_char d all.0, values_of_digits ds all.1)

below_more_digits : (radix : ℕ) (ds : List ℕ) → radix ≤ 36 → AllByRecursion (λ d. d < radix) ds → AllByRecursion (λ d. d < 36) ds
below_more_digits radix [] most all = all
below_more_digits radix (d ∷ ds) most all = let first = all.0 in (omega arith, below_more_digits radix ds most all.1)

pub digits_value-digits_in : (radix n : ℕ) → 2 ≤ radix → radix ≤ 36 → digits_value radix (digits_in radix n) ≡ n
digits_value-digits_in radix n least most =
    digits_value_is radix (digits_in radix n)
    ∙ ap (number_from_digits radix) (values_of_digits (digits_of radix n) (below_more_digits radix (digits_of radix n) most (all_below_base_digits_of radix n least)))
    ∙ number_digits_of radix n least

-- each code unit of a decimal numeral is a digit
digits_shown : (ds : List ℕ) → AllByRecursion (λ d. d < 10) ds → AllByRecursion (IsInRange 48 57) (map digit_char ds)
digits_shown [] all = all
digits_shown (d ∷ ds) all = (rw (lt-ltb d 10 all.0) (let small = all.0 in (omega arith, omega arith)), digits_shown ds all.1)

pub digit_at : (units : List ℕ) (n k : ℕ) → digits_in 10 n ≡ units → k < length units → IsInRange 48 57 (get_or units k 0)
digit_at units n k e within =
    All-get_or (IsInRange 48 57) units k 0 within
    (subst (All (IsInRange 48 57)) e (All-from_recursion (IsInRange 48 57) (digits_in 10 n) (digits_shown (digits_of 10 n) (all_below_base_digits_of 10 n (lit≤ tt)))))

-- one digit more, where the first is not `0`
pub value_some : (units : List ℕ) (value k : ℕ) → get_or units 0 0 ≢ 48 → (0 < k → 0 < value) → IsInRange 48 57 (get_or units k 0)
    → 0 < value * 10 + (get_or units k 0 - 48)
value_some units value zero first more digit = omega arith
value_some units value (suc k) first more digit = let some = more (omega arith) in omega arith

pub value_small : (value k unit : ℕ) → value < 10 ^ k → IsInRange 48 57 unit → value * 10 + (unit - 48) < 10 ^ (k + 1)
value_small value k unit small digit = rw (add-one, pow-suc 10 k) (omega arith)

pub digits_in_more : (units : List ℕ) (value k : ℕ) → k < length units → IsInRange 48 57 (get_or units k 0)
    → 0 < value * 10 + (get_or units k 0 - 48) → digits_in 10 value ≡ take k units
    → digits_in 10 (value * 10 + (get_or units k 0 - 48)) ≡ take (k + 1) units
digits_in_more units value k within digit some e =
    let unit = get_or units k 0 in
    let front : (value * 10 + (unit - 48)) / 10 ≡ value = omega arith in
    let last : (value * 10 + (unit - 48)) % 10 ≡ unit - 48 = omega arith in
    let shown : digit_char (unit - 48) ≡ unit = rw (lt-ltb (unit - 48) 10 (omega arith)) (omega arith) in
    digits_in_step 10 (value * 10 + (unit - 48)) (lit≤ tt) some
    ∙ ap (λ v. digits_in 10 v ++ (digit_char ((value * 10 + (unit - 48)) % 10) ∷ [])) front
    ∙ ap (λ d. digits_in 10 value ++ (digit_char d ∷ [])) last
    ∙ ap (λ u. digits_in 10 value ++ (u ∷ [])) shown
    ∙ ap (λ us. us ++ (unit ∷ [])) e
    ∙ sym (take_more units k 0 within)

-- the numeral of an index that does not begin with `0` is its digits
pub digits_of_key : (units : List ℕ) (n : ℕ) → IsIndexKey units n → get_or units 0 0 ≢ 48 → digits_in 10 n ≡ units
digits_of_key units zero key first = absurd (first (ap (λ us. get_or us 0 0) key.numeral))
digits_of_key units (suc n) key first = sym key.numeral

-- the digits of a number that is not 0 do not begin with `0`
first_shown : (radix : ℕ) (ds : List ℕ) → radix ≤ 36 → AllByRecursion (λ d. d < radix) ds → 0 < get_or ds 0 0 → get_or (map digit_char ds) 0 0 ≢ 48
first_shown radix [] most all some e = absurd (omega arith)
first_shown radix (d ∷ ds) most all some e =
    let small = all.0 in
    let value : d ≡ 0 = sym (digit_value-digit_char d (omega arith)) ∙ ap digit_value e in
    absurd (omega arith)

-- a numeral of an index that begins with `0` is `0` alone
pub lone_zero : (units : List ℕ) (n : ℕ) → IsIndexKey units n → get_or units 0 0 ≡ 48 → length units ≡ 1
lone_zero units zero key first = ap length key.numeral
lone_zero units (suc n) key first =
    absurd (first_shown 10 (digits_of 10 (suc n)) (lit≤ tt) (all_below_base_digits_of 10 (suc n) (lit≤ tt)) (first_digits_of 10 (suc n) (lit≤ tt) (omega arith))
    (ap (λ us. get_or us 0 0) (sym key.numeral) ∙ first))

pub few_digits : (units : List ℕ) (n : ℕ) → IsIndexKey units n → length units ≤ 10
few_digits units zero key = rw key.numeral (lit≤ tt)
few_digits units (suc n) key =
    let within = key.within in
    rw (key.numeral, length-map) (length-digits_of-le 10 10 (suc n) (lit≤ tt) (omega arith))

-- two numbers with the same digits are one
pub same_from_digits : (m n : ℕ) → digits_in 10 m ≡ digits_in 10 n → m ≡ n
same_from_digits m n e = sym (digits_value-digits_in 10 m (lit≤ tt) (lit≤ tt)) ∙ ap (digits_value 10) e ∙ digits_value-digits_in 10 n (lit≤ tt) (lit≤ tt)

-- ---- numerals in any radix

all_digits : (radix : ℕ) (ds : List ℕ) → radix ≤ 36 → AllByRecursion (λ d. d < radix) ds → AllDigits radix (map digit_char ds)
all_digits radix [] most all = all
all_digits radix (d ∷ ds) most all =
    let small = all.0 in (rw (digit_value-digit_char d (omega arith)) small, all_digits radix ds most all.1)

pub numerals : (n radix : ℕ) → 2 ≤ radix → radix ≤ 36 → IsNumeral (numeral_of n radix) n radix
numerals zero radix least most = record { digits = (omega arith, tt); value = omega arith; first = λ some. absurd (omega arith) }
numerals (suc n) radix least most =
    let below = all_below_base_digits_of radix (suc n) least in
    record {
      digits = all_digits radix (digits_of radix (suc n)) most below;
      value = digits_value-digits_in radix (suc n) least most;
      first = λ some. first_shown radix (digits_of radix (suc n)) most below (first_digits_of radix (suc n) least some);
    }
