-- ToNumber of a text reads the grammar of a StringNumericLiteral.
use Rattle.std.proofs.Common.{◌≡◌, ◌≢◌, ℕ, ◌<◌, ◌≤◌, ◌==◌, ◌⊎◌, pos, nat_lt, nat_le, Bool, true, false, cond, ◌||◌, List, [], ◌∷◌, ◌++◌, length, reverse, Option, Some, None, Ok, refl, sym, ap, ◌∙◌, subst, arith, inl, inr, append-nil}
use Rattle.std.specs.Char.{digit_value}
use Rattle.std.proofs.lemmas.Bool.{and_parts, and_left, or_cases, or_from, or_parts, ltb-true, lt-leb, eqb-true, ne_eqb, false_from_ne_true}
use Rattle.std.proofs.lemmas.Bool.Decides.{nat_tests}
use Rattle.std.proofs.lemmas.List.{reverse-append, reverse-reverse}
use Rattle.std.proofs.lemmas.Str.Parse.{digit_from_value}
use Rattle.sr_num.specs.Integer.{Outcome}
use Rattle.sr_num.specs.Arithmetic.{negation}
use Rattle.sr_num.specs.StringToNumber.{is_white, without_leading_white, without_trailing_white, are_digits, is_numeral, is_exponent_indicator, is_sign, is_unsigned_decimal, digits_number, unsigned_decimal_number, minus, decimal_number, base_of_letter, named_base, literal_number, string_to_number}
use Rattle.sr_num.specs.DecimalGrammar.{IsExponentPart, left_out, unsigned, signed, IsUnsignedDecimal, infinite, with_point, from_point, whole}
use Rattle.sr_num.specs.TextGrammar.{AreWhite, UnsignedComesTo, integer, decimal, LiteralComesTo, bare, positive, negative, in_base, TextComesTo, blank, literal, TextsAreReadByTheGrammar}
use Rattle.sr_num.proofs.Decimals.{Fails, Fails-append, no_sign, digits_of_numeral, passes, in_grammar}

-- ---- units that are no white space and name no base

pub record IsPlain (c : ℕ) : Type 0 where
  pub letter : base_of_letter c ≡ None
  pub white : is_white c ≡ false

not_white : (c : ℕ) → 33 ≤ c → c ≤ 126 → is_white c ≡ false
unfolding is_white
not_white c low high =
    let apart : (k : ℕ) → c ≢ k → (c == k) ≡ false = λ k. ne_eqb c k in
    or_from _ _ (or_from _ _ (or_from _ _ (or_from _ _ (or_from _ _ (or_from _ _ (or_from _ _ (or_from _ _ (or_from _ _ (or_from _ _ (or_from _ _ (apart 0x9 (λ e. omega arith)) (apart 0xb (λ e. omega arith))) (apart 0xc (λ e. omega arith))) (apart 0x20 (λ e. omega arith))) (apart 0xa0 (λ e. omega arith))) (apart 0x1680 (λ e. omega arith))) (and_left (nat_le 0x2000 c) (nat_le c 0x200A) (lt-leb 0x2000 c (omega arith)))) (apart 0x202f (λ e. omega arith))) (apart 0x205f (λ e. omega arith))) (apart 0x3000 (λ e. omega arith))) (apart 0xfeff (λ e. omega arith))) (or_from _ _ (or_from _ _ (or_from _ _ (apart 0xa (λ e. omega arith)) (apart 0xd (λ e. omega arith))) (apart 0x2028 (λ e. omega arith))) (apart 0x2029 (λ e. omega arith)))

no_base : (c : ℕ) → c < 66 → base_of_letter c ≡ None
unfolding base_of_letter
no_base c low =
    rw (
      or_from _ _ (ne_eqb c 0x62 (λ e. omega arith)) (ne_eqb c 0x42 (λ e. omega arith)),
      or_from _ _ (ne_eqb c 0x6F (λ e. omega arith)) (ne_eqb c 0x4F (λ e. omega arith)),
      or_from _ _ (ne_eqb c 0x78 (λ e. omega arith)) (ne_eqb c 0x58 (λ e. omega arith)),
    )
    refl

plain_low : (c : ℕ) → 33 ≤ c → c < 66 → IsPlain c
plain_low c low high = record { letter = no_base c high; white = not_white c low (omega arith) }

plain_at : (c k : ℕ) → IsPlain k → (c == k) ≡ true → IsPlain c
plain_at c k plain same = subst IsPlain (sym (eqb-true c k same)) plain

plain_letter : (c : ℕ) → base_of_letter c ≡ None → 33 ≤ c → c ≤ 126 → IsPlain c
plain_letter c letter low high = record { letter = letter; white = not_white c low high }

abbrev AllPlain : List ℕ → Type 0
AllPlain [] = Unit {0}
AllPlain (c ∷ cs) = IsPlain c × AllPlain cs

AllPlain-append : (xs ys : List ℕ) → AllPlain xs → AllPlain ys → AllPlain (xs ++ ys)
AllPlain-append [] ys p q = q
AllPlain-append (c ∷ xs) ys p q = (p.0, AllPlain-append xs ys p.1 q)

plain_digits : (ds : List ℕ) → are_digits 10 ds ≡ true → AllPlain ds
plain_digits [] digits = tt
plain_digits (d ∷ ds) digits =
    let k = and_parts (nat_lt (digit_value d) 10) (are_digits 10 ds) digits in
    let range = digit_from_value d (ltb-true _ _ k.0) in
    (plain_low d (omega (arith, range.0)) (omega (arith, range.1)), plain_digits ds k.1)

plain_indicator : (c : ℕ) → is_exponent_indicator c ≡ true → IsPlain c
unfolding base_of_letter
plain_indicator c indicator =
    elim (or_cases (c == 0x65) (c == 0x45) indicator) [
      | inl e ↦ plain_at c 0x65 (plain_letter 0x65 refl (omega arith) (omega arith)) e
      | inr e ↦ plain_at c 0x45 (plain_letter 0x45 refl (omega arith) (omega arith)) e
    ]

plain_sign : (c : ℕ) → is_sign c ≡ true → IsPlain c
plain_sign c sign =
    elim (or_cases (c == 0x2B) (c == 0x2D) sign) [
      | inl e ↦ plain_at c 0x2B (plain_low 0x2B (omega arith) (omega arith)) e
      | inr e ↦ plain_at c 0x2D (plain_low 0x2D (omega arith) (omega arith)) e
    ]

plain_exponent : (part : List ℕ) → IsExponentPart part → AllPlain part
plain_exponent part left_out = tt
plain_exponent part (unsigned e digits indicator numeral) = (plain_indicator e indicator, plain_digits digits (digits_of_numeral digits numeral))
plain_exponent part (signed e sign digits indicator is_signed numeral) =
    (plain_indicator e indicator, (plain_sign sign is_signed, plain_digits digits (digits_of_numeral digits numeral)))

plain_point : IsPlain 0x2E
plain_point = plain_low 0x2E (omega arith) (omega arith)

plain_decimal : (text : List ℕ) → IsUnsignedDecimal text → AllPlain text
unfolding base_of_letter
plain_decimal text infinite =
    let letter : (c : ℕ) → base_of_letter c ≡ None → 33 ≤ c → c ≤ 126 → IsPlain c = plain_letter in (
      letter 0x49 refl (omega arith) (omega arith),
      (
        letter 0x6E refl (omega arith) (omega arith),
        (
          letter 0x66 refl (omega arith) (omega arith),
          (
            letter 0x69 refl (omega arith) (omega arith),
            (
              letter 0x6E refl (omega arith) (omega arith),
              (
                letter 0x69 refl (omega arith) (omega arith),
                (
                  letter 0x74 refl (omega arith) (omega arith),
                  (letter 0x79 refl (omega arith) (omega arith), tt),
                ),
              ),
            ),
          ),
        ),
      ),
    )
plain_decimal text (with_point front fraction exponent numeral digits part) =
    AllPlain-append front (0x2E ∷ (fraction ++ exponent)) (plain_digits front (digits_of_numeral front numeral))
    (plain_point, AllPlain-append fraction exponent (plain_digits fraction digits) (plain_exponent exponent part))
plain_decimal text (from_point fraction exponent numeral part) =
    (plain_point, AllPlain-append fraction exponent (plain_digits fraction (digits_of_numeral fraction numeral)) (plain_exponent exponent part))
plain_decimal text (whole digits exponent numeral part) =
    AllPlain-append digits exponent (plain_digits digits (digits_of_numeral digits numeral)) (plain_exponent exponent part)

-- the first unit is no sign
abbrev Starts : List ℕ → Type 0
Starts [] = ⊥
Starts (c ∷ cs) = is_sign c ≡ false

numeral_starts : (ds rest : List ℕ) → is_numeral 10 ds ≡ true → Starts (ds ++ rest)
numeral_starts [] rest numeral = cc
numeral_starts (d ∷ ds) rest numeral =
    let k = and_parts (nat_lt (digit_value d) 10) (are_digits 10 ds) (digits_of_numeral (d ∷ ds) numeral) in
    no_sign d (digit_from_value d (ltb-true _ _ k.0))

decimal_starts : (text : List ℕ) → IsUnsignedDecimal text → Starts text
decimal_starts text infinite = refl
decimal_starts text (with_point front fraction exponent numeral digits part) = numeral_starts front (0x2E ∷ (fraction ++ exponent)) numeral
decimal_starts text (from_point fraction exponent numeral part) = refl
decimal_starts text (whole digits exponent numeral part) = numeral_starts digits exponent numeral

-- ---- what is in the grammar is read so

of_grammar : (text : List ℕ) (v : Outcome) → UnsignedComesTo text v → IsUnsignedDecimal text
of_grammar text v (integer digits numeral) = subst IsUnsignedDecimal (append-nil digits) (whole digits [] numeral left_out)
of_grammar text v (decimal t grammar other) = grammar

unsigned_value : (text : List ℕ) (v : Outcome) → UnsignedComesTo text v → unsigned_decimal_number text ≡ v
unfolding unsigned_decimal_number digits_number
unsigned_value text v (integer digits numeral) = rw numeral refl
unsigned_value text v (decimal t grammar other) = rw (false_from_ne_true (is_numeral 10 t) other, passes t grammar) refl

same_branch : (b : Bool) → cond {A = Option ℕ} b None None ≡ None
same_branch true = refl
same_branch false = refl

names_no_base : (text : List ℕ) → AllPlain text → named_base text ≡ None
names_no_base [] plain = refl
names_no_base (c ∷ []) plain = refl
names_no_base (c ∷ letter ∷ cs) plain = rw plain.1.0.letter (same_branch (c == 0x30))

names_no_base_behind : (c : ℕ) (cs : List ℕ) → (c == 0x30) ≡ false → named_base (c ∷ cs) ≡ None
names_no_base_behind c [] other = refl
names_no_base_behind c (letter ∷ cs) other = rw other refl

bare_value : (text : List ℕ) (v : Outcome) → AllPlain text → Starts text → UnsignedComesTo text v → literal_number text ≡ v
unfolding decimal_number
bare_value [] v plain starts u = absurd starts
bare_value (c ∷ cs) v plain starts u =
    let k = or_parts (c == 0x2B) (c == 0x2D) starts in
    rw (names_no_base (c ∷ cs) plain, k.0, k.1) (unsigned_value (c ∷ cs) v u)

literal_value : (text : List ℕ) (v : Outcome) → LiteralComesTo text v → literal_number text ≡ v
unfolding decimal_number digits_number
literal_value text v (bare t w u) = bare_value t w (plain_decimal t (of_grammar t w u)) (decimal_starts t (of_grammar t w u)) u
literal_value text v (positive t w u) = rw (names_no_base_behind 0x2B t refl) (unsigned_value t w u)
literal_value text v (negative t w u) = rw (names_no_base_behind 0x2D t refl) (ap minus (unsigned_value t w u))
literal_value text v (in_base letter base digits named numeral) = rw (named, numeral) refl

-- ---- a literal has no white space

not_white_plain : (text : List ℕ) → AllPlain text → Fails is_white text
not_white_plain [] plain = tt
not_white_plain (c ∷ cs) plain = (plain.0.white, not_white_plain cs plain.1)

by_three : (a b c : Bool) (base : ℕ) → cond a (Some 2) (cond b (Some 8) (cond c (Some 16) None)) ≡ Some base → (base ≤ 16) × ((a || b || c) ≡ true)
by_three true b c base e = let two : base ≡ 2 = cc in (omega arith, refl)
by_three false true c base e = let eight : base ≡ 8 = cc in (omega arith, refl)
by_three false false true base e = let sixteen : base ≡ 16 = cc in (omega arith, refl)
by_three false false false base e = cc

base_at_most_16 : (letter base : ℕ) → base_of_letter letter ≡ Some base → (base ≤ 16) × ((letter == 0x62 || letter == 0x42 || (letter == 0x6F || letter == 0x4F) || (letter == 0x78 || letter == 0x58)) ≡ true)
unfolding base_of_letter
base_at_most_16 letter base named = by_three (letter == 0x62 || letter == 0x42) (letter == 0x6F || letter == 0x4F) (letter == 0x78 || letter == 0x58) base named

letter_not_white : (letter base : ℕ) → base_of_letter letter ≡ Some base → is_white letter ≡ false
letter_not_white letter base named =
    let k = (base_at_most_16 letter base named).1 in
    let range : (33 ≤ letter) × (letter ≤ 126) = (grind (arith, nat_tests), grind (arith, nat_tests)) in
    not_white letter range.0 range.1

digits_not_white : (base : ℕ) (ds : List ℕ) → base ≤ 16 → are_digits base ds ≡ true → Fails is_white ds
digits_not_white base [] few digits = tt
digits_not_white base (d ∷ ds) few digits =
    let k = and_parts (nat_lt (digit_value d) base) (are_digits base ds) digits in
    let below = ltb-true (digit_value d) base k.0 in
    let range : (33 ≤ d) × (d ≤ 126) = in_range d (omega arith) in
    (not_white d range.0 range.1, digits_not_white base ds few k.1)
  where
    in_range : (d : ℕ) → digit_value d < 16 → (33 ≤ d) × (d ≤ 126)
    in_range d small = (grind (arith, nat_tests), grind (arith, nat_tests))

record IsSolid (text : List ℕ) : Type 0 where
  pub solid : Fails is_white text
  pub some : text ≢ []

starts_some : (text : List ℕ) → Starts text → text ≢ []
starts_some [] starts none = starts
starts_some (c ∷ cs) starts none = cc

solid_literal : (text : List ℕ) (v : Outcome) → LiteralComesTo text v → IsSolid text
solid_literal text v (bare t w u) =
    let grammar = of_grammar t w u in
    record { solid = not_white_plain t (plain_decimal t grammar); some = starts_some t (decimal_starts t grammar) }
solid_literal text v (positive t w u) =
    record { solid = (not_white 0x2B (omega arith) (omega arith), not_white_plain t (plain_decimal t (of_grammar t w u))); some = λ none. cc }
solid_literal text v (negative t w u) =
    record { solid = (not_white 0x2D (omega arith) (omega arith), not_white_plain t (plain_decimal t (of_grammar t w u))); some = λ none. cc }
solid_literal text v (in_base letter base digits named numeral) =
    record {
      solid = (
        not_white 0x30 (omega arith) (omega arith),
        (
          letter_not_white letter base named,
          digits_not_white base digits (base_at_most_16 letter base named).0 (and_parts (nat_lt 0 (length digits)) (are_digits base digits) numeral).1,
        ),
      );
      some = λ none. cc;
    }

-- ---- white space around it

AreWhite-append : (xs ys : List ℕ) → AreWhite xs → AreWhite ys → AreWhite (xs ++ ys)
AreWhite-append [] ys p q = q
AreWhite-append (c ∷ xs) ys p q = (p.0, AreWhite-append xs ys p.1 q)

AreWhite-reverse : (xs : List ℕ) → AreWhite xs → AreWhite (reverse xs)
AreWhite-reverse [] p = tt
AreWhite-reverse (c ∷ xs) p = subst AreWhite (sym (reverse-append (c ∷ []) xs)) (AreWhite-append (reverse xs) (c ∷ []) (AreWhite-reverse xs p.1) (p.0, tt))

Fails-reverse : (xs : List ℕ) → Fails is_white xs → Fails is_white (reverse xs)
Fails-reverse [] f = tt
Fails-reverse (c ∷ xs) f = subst (Fails is_white) (sym (reverse-append (c ∷ []) xs)) (Fails-append is_white (reverse xs) (c ∷ []) (Fails-reverse xs f.1) (f.0, tt))

past_white : (before rest : List ℕ) → AreWhite before → without_leading_white (before ++ rest) ≡ without_leading_white rest
past_white [] rest white = refl
past_white (c ∷ before) rest white = rw white.0 (past_white before rest white.1)

at_solid : (text rest : List ℕ) → IsSolid text → without_leading_white (text ++ rest) ≡ text ++ rest
at_solid [] rest solid = absurd (solid.some refl)
at_solid (c ∷ cs) rest solid = rw solid.solid.0 refl

all_solid : (text : List ℕ) → Fails is_white text → without_leading_white text ≡ text
all_solid [] fails = refl
all_solid (c ∷ cs) fails = rw fails.0 refl

up_to_white : (text after : List ℕ) → AreWhite after → Fails is_white text → without_trailing_white (text ++ after) ≡ text
up_to_white text after white solid =
    ap (λ r. reverse (without_leading_white r)) (reverse-append text after)
    ∙ ap reverse (past_white (reverse after) (reverse text) (AreWhite-reverse after white) ∙ all_solid (reverse text) (Fails-reverse text solid))
    ∙ reverse-reverse text

between_white : (before text after : List ℕ) → AreWhite before → AreWhite after → IsSolid text → without_trailing_white (without_leading_white (before ++ (text ++ after))) ≡ text
between_white before text after white behind solid =
    ap without_trailing_white (past_white before (text ++ after) white ∙ at_solid text after solid) ∙ up_to_white text after behind solid.solid

only_white : (white : List ℕ) → AreWhite white → without_leading_white white ≡ []
only_white white all = ap without_leading_white (sym (append-nil white)) ∙ past_white white [] all

is_read : (text : List ℕ) (v : Outcome) → TextComesTo text v → string_to_number text ≡ v
unfolding string_to_number
is_read text v (blank white all) = ap (λ t. literal_number (without_trailing_white t)) (only_white white all)
is_read text v (literal before t after w white behind l) =
    ap literal_number (between_white before t after white behind (solid_literal t w l)) ∙ literal_value t w l

-- ---- what is read as another number than NaN is in the grammar

unsigned_covered_by : (numeral test : Bool) (text : List ℕ) → is_numeral 10 text ≡ numeral → is_unsigned_decimal text ≡ test → UnsignedComesTo text (unsigned_decimal_number text) ⊎ (unsigned_decimal_number text ≡ Ok None)
unfolding unsigned_decimal_number digits_number
unsigned_covered_by true test text numeral decimal_test = inl (rw numeral (integer text numeral))
unsigned_covered_by false true text numeral decimal_test = inl (rw (numeral, decimal_test) (decimal text (in_grammar text decimal_test) (λ yes. cc)))
unsigned_covered_by false false text numeral decimal_test = inr (rw (numeral, decimal_test) refl)

unsigned_covered : (text : List ℕ) → UnsignedComesTo text (unsigned_decimal_number text) ⊎ (unsigned_decimal_number text ≡ Ok None)
unsigned_covered text = unsigned_covered_by (is_numeral 10 text) (is_unsigned_decimal text) text refl refl

abbrev Covered : List ℕ → Outcome → Type 0
Covered text v = LiteralComesTo text v ⊎ (v ≡ Ok None)

decimal_covered : (plus dash : Bool) (c : ℕ) (cs : List ℕ) → (c == 0x2B) ≡ plus → (c == 0x2D) ≡ dash → Covered (c ∷ cs) (decimal_number (c ∷ cs))
unfolding decimal_number negation
decimal_covered true dash c cs plus other =
    rw (plus, eqb-true c 0x2B plus) (elim (unsigned_covered cs) [ inl u ↦ inl (positive cs (unsigned_decimal_number cs) u) | inr e ↦ inr e ])
decimal_covered false true c cs plus dash =
    rw (plus, dash, eqb-true c 0x2D dash) (elim (unsigned_covered cs) [ inl u ↦ inl (negative cs (unsigned_decimal_number cs) u) | inr e ↦ inr (rw e refl) ])
decimal_covered false false c cs plus dash =
    rw (plus, dash) (elim (unsigned_covered (c ∷ cs)) [ inl u ↦ inl (bare (c ∷ cs) (unsigned_decimal_number (c ∷ cs)) u) | inr e ↦ inr e ])

in_base_covered : (numeral : Bool) (letter base : ℕ) (digits : List ℕ) → base_of_letter letter ≡ Some base → is_numeral base digits ≡ numeral → Covered (0x30 ∷ letter ∷ digits) (digits_number base digits)
unfolding digits_number
in_base_covered true letter base digits named numeral = inl (rw numeral (in_base letter base digits named numeral))
in_base_covered false letter base digits named numeral = inr (rw numeral refl)

named_covered : (zero : Bool) (name : Option ℕ) (c letter : ℕ) (cs : List ℕ) → (c == 0x30) ≡ zero → base_of_letter letter ≡ name → Covered (c ∷ letter ∷ cs) (literal_number (c ∷ letter ∷ cs))
named_covered true (Some base) c letter cs zero name =
    rw (zero, name, eqb-true c 0x30 zero) (in_base_covered (is_numeral base cs) letter base cs name refl)
named_covered true None c letter cs zero name =
    rw (zero, name) (decimal_covered (c == 0x2B) (c == 0x2D) c (letter ∷ cs) refl refl)
named_covered false name c letter cs zero named =
    rw zero (decimal_covered (c == 0x2B) (c == 0x2D) c (letter ∷ cs) refl refl)

literal_covered : (c : ℕ) (cs : List ℕ) → Covered (c ∷ cs) (literal_number (c ∷ cs))
literal_covered c [] = decimal_covered (c == 0x2B) (c == 0x2D) c [] refl refl
literal_covered c (letter ∷ cs) = named_covered (c == 0x30) (base_of_letter letter) c letter cs refl refl

-- the white space that is taken off in front, and behind
record Leading (text : List ℕ) : Type 0 where
  pub before : List ℕ
  pub white : AreWhite before
  pub parts : text ≡ before ++ without_leading_white text

leading_by : (b : Bool) (c : ℕ) (cs : List ℕ) → is_white c ≡ b → Leading cs → Leading (c ∷ cs)
leading_by true c cs e k = record { before = c ∷ k.before; white = (e, k.white); parts = rw e (ap (λ t. c ∷ t) k.parts) }
leading_by false c cs e k = record { before = []; white = tt; parts = rw e refl }

leading : (text : List ℕ) → Leading text
leading [] = record { before = []; white = tt; parts = refl }
leading (c ∷ cs) = leading_by (is_white c) c cs refl (leading cs)

record Trailing (text : List ℕ) : Type 0 where
  pub after : List ℕ
  pub white : AreWhite after
  pub parts : text ≡ without_trailing_white text ++ after

trailing : (text : List ℕ) → Trailing text
trailing text =
    let k = leading (reverse text) in
    record {
      after = reverse k.before;
      white = AreWhite-reverse k.before k.white;
      parts = sym (reverse-reverse text) ∙ ap reverse k.parts ∙ reverse-append k.before (without_leading_white (reverse text));
    }

is_nan : (text before core after : List ℕ) → AreWhite before → AreWhite after → text ≡ before ++ (core ++ after) → ((v : Outcome) → TextComesTo text v → ⊥) → literal_number core ≡ Ok None
is_nan text before [] after white behind parts none =
    absurd (none (Ok (Some (pos 0))) (subst (λ t. TextComesTo t (Ok (Some (pos 0)))) (sym parts) (blank (before ++ after) (AreWhite-append before after white behind))))
is_nan text before (c ∷ cs) after white behind parts none =
    elim (literal_covered c cs) [
      | inl l ↦ absurd (none (literal_number (c ∷ cs)) (subst (λ t. TextComesTo t (literal_number (c ∷ cs))) (sym parts) (literal before (c ∷ cs) after (literal_number (c ∷ cs)) white behind l)))
      | inr e ↦ e
    ]

other_is_nan : (text : List ℕ) → ((v : Outcome) → TextComesTo text v → ⊥) → string_to_number text ≡ Ok None
unfolding string_to_number
other_is_nan text none =
    let l = leading text in
    let t = trailing (without_leading_white text) in
    let parts : text ≡ l.before ++ (without_trailing_white (without_leading_white text) ++ t.after) = l.parts ∙ ap (λ r. l.before ++ r) t.parts in
    is_nan text l.before (without_trailing_white (without_leading_white text)) t.after l.white t.white parts none

pub TextsAreReadByTheGrammar_lem : TextsAreReadByTheGrammar
TextsAreReadByTheGrammar_lem text = record { literals = is_read text; others = other_is_nan text }
