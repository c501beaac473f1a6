-- A text is the text of one path at most.
use Rattle.std.proofs.Common.{◌≡◌, ℕ, ◌+◌, ◌-◌, ◌≤◌, Bool, true, false, not, cond, List, [], ◌∷◌, ◌++◌, length, take, drop, refl, sym, ap, ◌∙◌, subst, arith, add_comm, add-one, Some, None}
use Rattle.std.specs.Fmt.{decimal}
use Rattle.std.specs.List.{flat_map, position, position_or_len}
use Rattle.std.specs.Str.Parse.{AllDigits}
use Rattle.std.proofs.lemmas.Bool.{eqb-true, eqb-false}
use Rattle.std.proofs.lemmas.Bool.Decides.{nat_tests}
use Rattle.std.proofs.lemmas.List.{take_rest}
use Rattle.std.proofs.lemmas.Option.{cond_some}
use Rattle.std.proofs.lemmas.Fmt.{decimal_is_IsNumeral, decimal_injective}
use Rattle.std.proofs.lemmas.Str.Parse.{digit_from_value}
use Rattle.sr_tag.specs.Path.{IsChildNumber, AreChildNumbers, step_text, TextDeterminesPath}
use Rattle.sr_tag.specs.Steps.{is_point, HasNoPoint, IsBoundary, IsStep}

-- what has no point ends where the first point stands
same_front : (ds es xs ys : List ℕ) → HasNoPoint ds → HasNoPoint es → IsBoundary xs → IsBoundary ys → ds ++ xs ≡ es ++ ys → (ds ≡ es) × (xs ≡ ys)
same_front [] [] xs ys d e p q same = (refl, same)
same_front [] (e ∷ es) [] ys d others p q same = cc
same_front [] (e ∷ es) (x ∷ xs) ys d others p q same =
    let at_point : e ≡ 46 = cc in
    absurd (others.0 at_point)
same_front (d ∷ ds) [] xs [] fronts e p q same = cc
same_front (d ∷ ds) [] xs (y ∷ ys) fronts e p q same =
    let at_point : d ≡ 46 = cc in
    absurd (fronts.0 at_point)
same_front (d ∷ ds) (e ∷ es) xs ys fronts others p q same =
    let rest : ds ++ xs ≡ es ++ ys = cc in
    let k = same_front ds es xs ys fronts.1 others.1 p q rest in
    let first : d ≡ e = cc in
    (cc (first, k.0), k.1)

digits_have_no_point : (ds : List ℕ) → AllDigits 10 ds → HasNoPoint ds
digits_have_no_point [] digits = tt
digits_have_no_point (d ∷ ds) digits =
    (λ at_point. omega (arith, digit_from_value d digits.0), digits_have_no_point ds digits.1)

decimal_has_no_point : (n : ℕ) → IsChildNumber n → HasNoPoint (decimal n)
decimal_has_no_point n p = digits_have_no_point (decimal n) (decimal_is_IsNumeral n (omega arith)).0.1

-- the digits before a point are those of the step that stands there
same_digits : (digits : List ℕ) (n : ℕ) (xs ys : List ℕ) → HasNoPoint digits → IsChildNumber n → IsBoundary xs → IsBoundary ys → digits ++ xs ≡ decimal n ++ ys → (digits ≡ decimal n) × (xs ≡ ys)
same_digits digits n xs ys front p bx by same = same_front digits (decimal n) xs ys front (decimal_has_no_point n p) bx by same

-- two steps at the front of one text are one
pub same_step : (text : List ℕ) (m n : ℕ) (xs ys : List ℕ) → IsStep text m xs → IsStep text n ys → (m ≡ n) × (xs ≡ ys)
same_step text m n xs ys p q =
    let texts : step_text m ++ xs ≡ step_text n ++ ys = sym p.whole ∙ q.whole in
    let digits : decimal m ++ xs ≡ decimal n ++ ys = cc in
    let k = same_digits (decimal m) n xs ys (decimal_has_no_point m p.number) q.number p.end q.end digits in
    (decimal_injective m n (omega (arith, p.number.to)) (omega (arith, q.number.to)) k.0, k.1)

-- steps end where steps may
IsBoundary-steps : (numbers : List ℕ) → IsBoundary (flat_map step_text numbers)
IsBoundary-steps [] = tt
IsBoundary-steps (n ∷ numbers) = refl

pub IsStep-steps : (n : ℕ) (numbers : List ℕ) → IsChildNumber n → IsStep (flat_map step_text (n ∷ numbers)) n (flat_map step_text numbers)
IsStep-steps n numbers p = record { number = p; whole = refl; end = IsBoundary-steps numbers }

same_steps : (p q : List ℕ) → AreChildNumbers p → AreChildNumbers q → flat_map step_text p ≡ flat_map step_text q → p ≡ q
same_steps [] [] each others same = refl
same_steps [] (n ∷ q) each others same = cc
same_steps (m ∷ p) [] each others same = cc
same_steps (m ∷ p) (n ∷ q) each others same =
    let here = subst (λ text. IsStep text n (flat_map step_text q)) (sym same) (IsStep-steps n q others.0) in
    let k = same_step (flat_map step_text (m ∷ p)) m n (flat_map step_text p) (flat_map step_text q) (IsStep-steps m p each.0) here in
    let rest = same_steps p q each.1 others.1 k.1 in
    cc (k.0, rest)

pub TextDeterminesPath_lem : TextDeterminesPath
TextDeterminesPath_lem p q each others same =
    let steps : flat_map step_text p ≡ flat_map step_text q = cc in
    same_steps p q each others steps

-- where the first point stands
no_point_from : (b : Bool) (x : ℕ) (xs : List ℕ) → is_point x ≡ b → HasNoPoint (take (position_or_len is_point xs) xs) → HasNoPoint (take (cond (not b) (1 + position_or_len is_point xs) 0) (x ∷ xs))
no_point_from true x xs e rest = tt
no_point_from false x xs e rest =
    rw (add_comm 1 (position_or_len is_point xs), add-one) (eqb-false x 46 e, rest)

pub no_point_before : (xs : List ℕ) → HasNoPoint (take (position_or_len is_point xs) xs)
no_point_before [] = tt
no_point_before (x ∷ xs) = no_point_from (is_point x) x xs refl (no_point_before xs)

boundary_from : (b : Bool) (x : ℕ) (xs : List ℕ) → is_point x ≡ b → IsBoundary (drop (position_or_len is_point xs) xs) → IsBoundary (drop (cond (not b) (1 + position_or_len is_point xs) 0) (x ∷ xs))
boundary_from true x xs e rest = eqb-true x 46 e
boundary_from false x xs e rest = rw (add_comm 1 (position_or_len is_point xs), add-one) rest

pub boundary_at : (xs : List ℕ) → IsBoundary (drop (position_or_len is_point xs) xs)
boundary_at [] = tt
boundary_at (x ∷ xs) = boundary_from (is_point x) x xs refl (boundary_at xs)

pub position-some : (xs : List ℕ) (at : ℕ) → position is_point xs ≡ Some at → at ≡ position_or_len is_point xs
position-some xs at found = sym (cond_some _ _ _ found).1

pub position-none : (xs : List ℕ) → position is_point xs ≡ None → length xs ≤ position_or_len is_point xs
position-none xs none = grind (arith, nat_tests)

-- the digits behind a point are those of the step that the point begins
pub IsStep-digits : (text digits rest more : List ℕ) (n : ℕ) → take (length text - 1) (drop 1 text) ≡ digits ++ rest → HasNoPoint digits → IsBoundary rest → IsStep text n more → digits ≡ decimal n
IsStep-digits text digits rest more n split front bound step =
    (same_digits digits n rest more front step.number bound step.end (sym split ∙ take_rest text 1 ∙ ap (drop 1) step.whole)).0
