-- Number literals: the function that reads them, and the relation.
use Rattle.std.proofs.Common.{◌≡◌, ◌≢◌, ℕ, zero, suc, ◌+◌, ◌*◌, ◌≤◌, ◌<◌, Bool, true, false, ◌||◌, List, [], ◌∷◌, take, refl, sym, ap, ◌∙◌, subst, arith, ◌⊎◌, inl, inr, min}
use Rattle.std.specs.Prelude.{ℤ, pos, ◌==◌, nat_lt, if◌then◌else◌, Option, Some, None}
use Rattle.std.specs.List.{list_all}
use Rattle.std.specs.Char.{digit_value}
use Rattle.std.specs.Str.Parse.{digits_value, digits_value_after}
use Rattle.std.proofs.lemmas.Bool.{cases_lt}
use Rattle.std.proofs.lemmas.Nat.{mul-le}
use Rattle.sr_num.specs.Integer.{IsSafe}
use Rattle.sr_num.specs.StringToNumber.{base_of_letter}
use Rattle.sr_lex.specs.Units.{is_digit, is_name_start, is_name_part}
use Rattle.sr_lex.specs.Numbers.{digit_zero, separator, IsDigitOf, Digits, last, digit, separated, NumberLiteral, nought, decimal, in_base}
use Rattle.sr_lex.specs.Scan.{digits_from, based_value, value_after_zero, number_value, is_safe_value}
use Rattle.sr_lex.specs.Laws.{OneNumber}
use Rattle.sr_lex.proofs.Truth.{or_true, same_number, and_in, both_ways}

-- ---- the value of digits, kept from growing past a bound

abbrev pub cap : ℕ → ℕ
cap n = min n 0x20000000000000

pub cap_step : (base v d : ℕ) → 1 ≤ base → cap (cap v * base + d) ≡ cap (v * base + d)
cap_step base v d some =
    elim (cases_lt v 0x20000000000000) [
      | inl below ↦ let here : cap v ≡ v = omega arith in rw here refl
      | inr above ↦
          let here : cap v ≡ 0x20000000000000 = omega arith in
          rw here (omega (arith, mul-le 0x20000000000000 1 0x20000000000000 base (omega arith) some, mul-le 0x20000000000000 base v base above (omega arith)))
    ]

no_separator : (base d : ℕ) → base ≤ 36 → IsDigitOf base d → (d == separator) ≡ false
no_separator base d few h = grind arith

is_below : (a b : ℕ) → a < b → nat_lt a b ≡ true
is_below a b h = grind arith

below : (a b : ℕ) → nat_lt a b ≡ true → a < b
below a b h = grind arith

-- ---- digits of the relation are read

one_more : (base d : ℕ) (us : List ℕ) (after : Bool) (v : ℕ) → 1 ≤ base → base ≤ 36 → IsDigitOf base d
    → digits_from base after (cap v) (d ∷ us) ≡ digits_from base true (cap (v * base + digit_value d)) us
one_more base d us after v some few h =
    rw (no_separator base d few h, is_below (digit_value d) base h) (ap (λ (x : ℕ). digits_from base true x us) (cap_step base v (digit_value d) some))

pub digits_read : {base : ℕ} {us ds : List ℕ} → Digits base us ds → 1 ≤ base → base ≤ 36 → (after : Bool) (v : ℕ)
    → digits_from base after (cap v) us ≡ Some (cap (digits_value_after base v ds))
digits_read {base} (last {d} h) = λ some few after v. one_more base d [] after v some few h
digits_read {base} (digit {d} {us} {ds} h more) = λ some few after v. one_more base d us after v some few h ∙ digits_read more some few true (v * base + digit_value d)
digits_read {base} (separated {d} {us} {ds} h more) = λ some few after v.
    one_more base d (separator ∷ us) after v some few h ∙ digits_read more some few false (v * base + digit_value d)

-- ---- digits that are read are of the relation

abbrev AreDigits : ℕ → ℕ → List ℕ → ℕ → Type 0
AreDigits base v us w = (ds : List ℕ) × Digits base us ds × (w ≡ cap (digits_value_after base v ds))

-- what was read to its end: where a digit stands before, nothing or a separator and digits too
abbrev Read : ℕ → ℕ → Bool → List ℕ → ℕ → Type 0
Read base v true us w = ((us ≡ []) × (w ≡ cap v)) ⊎ (AreDigits base v us w ⊎ ((rest : List ℕ) × (us ≡ separator ∷ rest) × AreDigits base v rest w))
Read base v false us w = AreDigits base v us w

some_is : (a b : ℕ) → Some a ≡ Some b → b ≡ a
some_is a b e = cc

grown : (base v u w : ℕ) (us : List ℕ) → IsDigitOf base u → Read base (v * base + digit_value u) true us w → AreDigits base v (u ∷ us) w
grown base v u w us h r = elim r [
  | inl e ↦ (u ∷ [], subst (λ (xs : List ℕ). Digits base (u ∷ xs) (u ∷ [])) (sym e.0) (last h), e.1)
  | inr r ↦ elim r [
    | inl d ↦ (u ∷ d.0, digit h d.1, d.2)
    | inr s ↦ (u ∷ s.2.0, subst (λ (xs : List ℕ). Digits base (u ∷ xs) (u ∷ s.2.0)) (sym s.1) (separated h s.2.1), s.2.2)
  ]
]

lifted : (base v w : ℕ) (after : Bool) (us : List ℕ) → AreDigits base v us w → Read base v after us w
lifted base v w true us d = inr (inl d)
lifted base v w false us d = d

pub digits_are : (base : ℕ) → 1 ≤ base → (us : List ℕ) (after : Bool) (v w : ℕ) → digits_from base after (cap v) us ≡ Some w → Read base v after us w
digits_are base some [] true v w e = inl (refl, some_is (cap v) w e)
digits_are base some [] false v w e = cc
digits_are base some (u ∷ us) after v w e = go (u == separator) (nat_lt (digit_value u) base) refl refl after e (digits_are base some us)
  where
    go : (s t : Bool) → (u == separator) ≡ s → nat_lt (digit_value u) base ≡ t → (after : Bool)
        → (if s then (if after then digits_from base false (cap v) us else None) else (if t then digits_from base true (cap (cap v * base + digit_value u)) us else None)) ≡ Some w
        → ((after : Bool) (v w : ℕ) → digits_from base after (cap v) us ≡ Some w → Read base v after us w) → Read base v after (u ∷ us) w
    go true t se te true e again = inr (inr (us, ap (λ (x : ℕ). x ∷ us) (same_number u separator se), again false v w e))
    go true t se te false e again = cc
    go false true se te after e again =
        let on : digits_from base true (cap (v * base + digit_value u)) us ≡ Some w = ap (λ (x : ℕ). digits_from base true x us) (sym (cap_step base v (digit_value u) some)) ∙ e in
        lifted base v w after (u ∷ us) (grown base v u w us (below (digit_value u) base te) (again true (v * base + digit_value u) w on))
    go false false se te after e again = cc

-- ---- literals

pub safe_most : (n : ℕ) → IsSafe (pos n) → n ≤ 9007199254740991
safe_most n h = grind arith

pub most_safe : (n : ℕ) → n ≤ 9007199254740991 → IsSafe (pos n)
most_safe n h = grind arith

abbrev IsBase : ℕ → ℕ → Type 0
IsBase letter base = (1 ≤ base) × (base ≤ 36) × (is_name_part letter ≡ true)

one_letter : (letter a b : ℕ) → is_name_part a ≡ true → is_name_part b ≡ true → (letter == a || letter == b) ≡ true → is_name_part letter ≡ true
one_letter letter a b p q h = elim (or_true (letter == a) (letter == b) h) [
  | inl e ↦ ap is_name_part (same_number letter a e) ∙ p
  | inr e ↦ ap is_name_part (same_number letter b e) ∙ q
]

base_bounds : (letter base : ℕ) → base_of_letter letter ≡ Some base → IsBase letter base
unfolding base_of_letter is_name_part is_name_start is_digit
base_bounds letter base e = go (letter == 0x62 || letter == 0x42) (letter == 0x6F || letter == 0x4F) (letter == 0x78 || letter == 0x58) refl refl refl e
  where
    bounds : (n : ℕ) → 1 ≤ n → n ≤ 36 → is_name_part letter ≡ true → Some n ≡ Some base → IsBase letter base
    bounds n a b p e = let is : base ≡ n = some_is n base e in (omega arith, omega arith, p)

    go : (b o x : Bool) → (letter == 0x62 || letter == 0x42) ≡ b → (letter == 0x6F || letter == 0x4F) ≡ o → (letter == 0x78 || letter == 0x58) ≡ x
        → (if b then Some 2 else (if o then Some 8 else (if x then Some 16 else None))) ≡ Some base → IsBase letter base
    go true o x be oe xe e = bounds 2 (omega arith) (omega arith) (one_letter letter 0x62 0x42 refl refl be) e
    go false true x be oe xe e = bounds 8 (omega arith) (omega arith) (one_letter letter 0x6F 0x4F refl refl oe) e
    go false false true be oe xe e = bounds 16 (omega arith) (omega arith) (one_letter letter 0x78 0x58 refl refl xe) e
    go false false false be oe xe e = cc

-- a literal is read as its value
abbrev pub IsRead : List ℕ → Option ℤ → Type 0
IsRead us value = (v : ℕ) × (number_value us ≡ Some v) × (v ≤ 9007199254740991) × (value ≡ Some (pos v))

not_zero : (d : ℕ) → d ≢ digit_zero → (d == digit_zero) ≡ false
not_zero d h = grind arith

uncapped : (n : ℕ) → n ≤ 9007199254740991 → cap n ≡ n
uncapped n h = omega arith

pub literal_read : {us : List ℕ} {value : Option ℤ} → NumberLiteral us value → IsRead us value
unfolding number_value
literal_read nought = (0, refl, omega arith, refl)
literal_read (decimal {d} {us} {ds} n h s) =
    let few = safe_most (digits_value 10 ds) s in
    (digits_value 10 ds, rw (not_zero d n) (digits_read h (omega arith) (omega arith) false 0 ∙ ap Some (uncapped (digits_value 10 ds) few)), few, refl)
literal_read (in_base {letter} {base} {us} {ds} e h s) =
    let few = safe_most (digits_value base ds) s in
    let b = base_bounds letter base e in
    (digits_value base ds, rw e (digits_read h b.0 b.1 false 0 ∙ ap Some (uncapped (digits_value base ds) few)), few, refl)

capped_most : (n v : ℕ) → v ≡ cap n → v ≤ 9007199254740991 → n ≡ v
capped_most n v e h = omega arith

pub literal_is : (us : List ℕ) (v : ℕ) → number_value us ≡ Some v → v ≤ 9007199254740991 → NumberLiteral us (Some (pos v))
unfolding number_value
literal_is [] v e h = cc
literal_is (u ∷ us) v e h = go (u == digit_zero) refl e
  where
    after_zero : (us : List ℕ) → value_after_zero us ≡ Some v → NumberLiteral (digit_zero ∷ us) (Some (pos v))
    after_zero [] e = subst (λ (x : ℕ). NumberLiteral (digit_zero ∷ []) (Some (pos x))) (sym (some_is 0 v e)) nought
    after_zero (letter ∷ us) e = based (base_of_letter letter) refl e
      where
        based : (o : Option ℕ) → base_of_letter letter ≡ o → based_value o us ≡ Some v → NumberLiteral (digit_zero ∷ letter ∷ us) (Some (pos v))
        based None b e = cc
        based (Some base) b e =
            let r = digits_are base (base_bounds letter base b).0 us false 0 v e in
            let n = capped_most (digits_value base r.0) v r.2 h in
            subst (λ (x : ℕ). NumberLiteral (digit_zero ∷ letter ∷ us) (Some (pos x))) n (in_base b r.1 (most_safe (digits_value base r.0) (omega arith)))

    go : (z : Bool) → (u == digit_zero) ≡ z → (if z then value_after_zero us else digits_from 10 false 0 (u ∷ us)) ≡ Some v → NumberLiteral (u ∷ us) (Some (pos v))
    go true z e = subst (λ (x : ℕ). NumberLiteral (x ∷ us) (Some (pos v))) (sym (same_number u digit_zero z)) (after_zero us e)
    go false z e =
        let r = digits_are 10 (omega arith) (u ∷ us) false 0 v e in
        let n = capped_most (digits_value 10 r.0) v r.2 h in
        let ne : u ≢ digit_zero = λ same. both_ways (u == digit_zero) (ap (λ (x : ℕ). x == digit_zero) same) z in
        subst (λ (x : ℕ). NumberLiteral (u ∷ us) (Some (pos x))) n (decimal ne r.1 (most_safe (digits_value 10 r.0) (omega arith)))

pub one_number_law : OneNumber
one_number_law us v w a b =
    let x = literal_read a in
    let y = literal_read b in
    let same : x.0 ≡ y.0 = some_is y.0 x.0 (sym y.1 ∙ x.1) in
    x.3 ∙ ap (λ (n : ℕ). Some (pos n)) same ∙ sym y.3

-- ---- what its units are

digit_part : (base d : ℕ) → base ≤ 36 → IsDigitOf base d → is_name_part d ≡ true
unfolding is_name_part is_name_start is_digit
digit_part base d few h = grind arith

digits_parts : {base : ℕ} {us ds : List ℕ} → Digits base us ds → base ≤ 36 → list_all is_name_part us ≡ true
unfolding is_name_part is_name_start is_digit
digits_parts {base} (last {d} h) = λ few. and_in (is_name_part d) true (digit_part base d few h) refl
digits_parts {base} (digit {d} {us} {ds} h more) = λ few. and_in (is_name_part d) (list_all is_name_part us) (digit_part base d few h) (digits_parts more few)
digits_parts {base} (separated {d} {us} {ds} h more) = λ few.
    and_in (is_name_part d) (list_all is_name_part (separator ∷ us)) (digit_part base d few h) (digits_parts more few)

-- all are units of names
pub literal_parts : {us : List ℕ} {value : Option ℤ} → NumberLiteral us value → list_all is_name_part us ≡ true
unfolding is_name_part is_name_start is_digit
literal_parts nought = refl
literal_parts (decimal {d} {us} {ds} n h s) = digits_parts h (omega arith)
literal_parts (in_base {letter} {base} {us} {ds} e h s) =
    let b = base_bounds letter base e in
    and_in (is_name_part letter) (list_all is_name_part us) b.2 (digits_parts h b.1)

decimal_digit : (d : ℕ) → IsDigitOf 10 d → is_digit d ≡ true
unfolding is_digit
decimal_digit d h = grind arith

first_digit : {base : ℕ} {us ds : List ℕ} → Digits base us ds → (u : ℕ) × (rest : List ℕ) × (us ≡ u ∷ rest) × IsDigitOf base u
first_digit {base} (last {d} h) = (d, [], refl, h)
first_digit {base} (digit {d} {us} {ds} h more) = (d, us, refl, h)
first_digit {base} (separated {d} {us} {ds} h more) = (d, separator ∷ us, refl, h)

-- and the first is a digit
pub literal_begins : {us : List ℕ} {value : Option ℤ} → NumberLiteral us value → (u : ℕ) × (rest : List ℕ) × (us ≡ u ∷ rest) × (is_digit u ≡ true)
unfolding is_digit
literal_begins nought = (digit_zero, [], refl, refl)
literal_begins (decimal {d} {us} {ds} n h s) = let f = first_digit h in (f.0, f.1, f.2, decimal_digit f.0 f.3)
literal_begins (in_base {letter} {base} {us} {ds} e h s) = (digit_zero, letter ∷ us, refl, refl)

-- ---- where it is read

safe_some : (o : Option ℕ) → is_safe_value o ≡ true → (v : ℕ) × (o ≡ Some v) × (v ≤ 9007199254740991)
safe_some None h = cc
safe_some (Some v) h = (v, refl, grind arith)

pub safe_literal : (us : List ℕ) → is_safe_value (number_value us) ≡ true → (value : Option ℤ) × NumberLiteral us value
safe_literal us h = let s = safe_some (number_value us) h in (Some (pos s.0), literal_is us s.0 s.1 s.2)

most_value : (o : Option ℕ) (v : ℕ) → o ≡ Some v → v ≤ 9007199254740991 → is_safe_value o ≡ true
most_value None v e h = cc
most_value (Some w) v e h = let same = some_is v w (sym e) in grind arith

pub literal_safe : (us : List ℕ) (value : Option ℤ) → NumberLiteral us value → is_safe_value (number_value us) ≡ true
literal_safe us value l = let r = literal_read l in most_value (number_value us) r.0 r.1 r.2

-- so many units, if they are one
pub number_some : (n : ℕ) (us : List ℕ) → is_safe_value (number_value (take n us)) ≡ true → 0 < n
unfolding number_value
number_some zero us h = cc
number_some (suc n) us h = omega arith
