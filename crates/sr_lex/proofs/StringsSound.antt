-- A string literal or a template piece that is found is one of the relation.
use Rattle.std.proofs.Common.{◌≡◌, ℕ, zero, suc, ◌+◌, ◌≤◌, ◌<◌, Bool, true, false, ◌||◌, ◌&&◌, List, [], ◌∷◌, ◌++◌, length, take, drop, refl, sym, ap, ◌∙◌, subst, arith, inl, inr}
use Rattle.std.specs.Prelude.{not, if◌then◌else◌, ◌==◌, nat_lt, nat_le, Option, Some, None, option_map, option_and_then}
use Rattle.std.specs.List.{list_all}
use Rattle.std.specs.Option.{option_map_or}
use Rattle.std.specs.Char.Escape.{encode_utf16}
use Rattle.std.proofs.lemmas.List.{length-append, append-nil}
use Rattle.std.proofs.Math.Seq.{drop-append_seam, take-add}
use Rattle.sr_lex.specs.Units.{line_feed, carriage_return, is_line_end, is_digit, begins_with_digit, begins_with}
use Rattle.sr_lex.specs.Strings.{backslash, is_quote, is_plain, single_escape, is_self_escape, is_hex_digit, hex_value, begins_with_line_feed, Escape, single, null, hex, unicode, code_point, line_continuation, crlf_continuation, itself, StringRest}
use Rattle.sr_lex.specs.Strings as string
use Rattle.sr_lex.specs.Templates.{backquote, dollar_sign, left_brace, is_template_plain, PieceRest, closing, opening, dollar, lone_return, return_feed}
use Rattle.sr_lex.specs.Templates as template
use Rattle.sr_lex.specs.Scan.{hex_from, character_of, hex_escape, braced_escape, unicode_escape, continuation_len, other_escape, escape, template_unit, character, closing_len, meant_units, Literal, before, literal}
use Rattle.sr_lex.specs.declared.characters.HexRun.{HexRun}
use Rattle.sr_lex.specs.declared.characters.Character.{Character}
use Rattle.sr_lex.specs.declared.characters.Meaning.TheVariants.{Nothing, CodeUnit, CodePoint}
use Rattle.sr_lex.proofs.Truth.{or_true, or_false, and_true, not_true, same_number, is_same}
use Rattle.sr_lex.proofs.Hex.{Split, split, hex_split, cap, two_bound, four_bound}

some_is : {A : Type 0} (a b : A) → Some a ≡ Some b → a ≡ b
some_is a b h = cc

-- the character is an escape before what follows it
abbrev pub Escapes : List ℕ → Character → Type 0
Escapes us c = (n : ℕ) → Escape (take c.units us) (meant_units c.meaning) (take n (drop c.units us))

digit_take : (n : ℕ) (us : List ℕ) → begins_with_digit us ≡ false → begins_with_digit (take n us) ≡ false
digit_take zero us h = refl
digit_take (suc n) [] h = refl
digit_take (suc n) (u ∷ us) h = h

line_feed_take : (n : ℕ) (us : List ℕ) → begins_with_line_feed us ≡ false → begins_with_line_feed (take n us) ≡ false
line_feed_take zero us h = refl
line_feed_take (suc n) [] h = refl
line_feed_take (suc n) (u ∷ us) h = h

-- ---- hexadecimal escapes

all_digits : (us : List ℕ) (s : Split us) → length us ≤ length s.digits → us ≡ s.digits
all_digits us s h =
    let e = ap length s.is ∙ length-append s.digits s.rest in
    let none : s.rest ≡ [] = empty s.rest (omega arith) in
    s.is ∙ ap (λ (xs : List ℕ). s.digits ++ xs) none ∙ append-nil s.digits
  where
    empty : (xs : List ℕ) → length xs ≤ 0 → xs ≡ []
    empty [] h = refl
    empty (x ∷ xs) h = absurd (omega arith)

fewer_digits : (us : List ℕ) (s : Split us) → length s.digits ≤ length us
fewer_digits us s = let e = ap length s.is ∙ length-append s.digits s.rest in omega arith

-- a run of all of some units
exact : (us : List ℕ) (n : ℕ) → length us ≤ n → (hex_from 0 0 us).digits ≡ n → (length us ≡ n) × (list_all is_hex_digit us ≡ true) × ((hex_from 0 0 us).value ≡ cap (hex_value us))
exact us n most h =
    let s = split us in
    let run = hex_split us s in
    let digits : length s.digits ≡ n = sym (ap (λ (r : HexRun). r.digits) run) ∙ h in
    let few = fewer_digits us s in
    let all = all_digits us s (omega arith) in
    (ap length all ∙ digits, ap (list_all is_hex_digit) all ∙ s.hex, ap (λ (r : HexRun). r.value) run ∙ sym (ap (λ (xs : List ℕ). cap (hex_value xs)) all))

pub below : (n : ℕ) → n < 0x110000 → cap n ≡ n
below n h = omega arith

pub one_unit : (n : ℕ) → n < 0x10000 → encode_utf16 n ≡ n ∷ []
one_unit n h = let e : nat_lt n 0x10000 ≡ true = grind arith in rw e refl

take_most : (k : ℕ) (us : List ℕ) → length (take k us) ≤ k
take_most zero us = omega arith
take_most (suc k) [] = omega arith
take_most (suc k) (u ∷ us) = let h = take_most k us in omega arith

-- k digits at the front, as the escape of so many units
abbrev IsDigits : ℕ → ℕ → List ℕ → Character → Type 0
IsDigits k units us c = (length (take k us) ≡ k) × (list_all is_hex_digit (take k us) ≡ true) × (c ≡ character_of units (CodePoint (cap (hex_value (take k us)))))

digits_say : (k units : ℕ) (us : List ℕ) (c : Character)
    → (let h = hex_from 0 0 (take k us) in if h.digits == k then Some (character_of units (CodePoint h.value)) else None) ≡ Some c → IsDigits k units us c
digits_say k units us c e = go ((hex_from 0 0 (take k us)).digits == k) refl e
  where
    go : (b : Bool) → ((hex_from 0 0 (take k us)).digits == k) ≡ b
        → (if b then Some (character_of units (CodePoint (hex_from 0 0 (take k us)).value)) else None) ≡ Some c → IsDigits k units us c
    go true t f =
        let x = exact (take k us) k (take_most k us) (same_number (hex_from 0 0 (take k us)).digits k t) in
        (x.0, x.1, sym (some_is (character_of units (CodePoint (hex_from 0 0 (take k us)).value)) c f) ∙ ap (λ (v : ℕ). character_of units (CodePoint v)) x.2)
    go false t f = cc

-- an escape of digits that stand for one unit
one_point : (v : ℕ) → v < 0x10000 → encode_utf16 (cap v) ≡ v ∷ []
one_point v h = ap encode_utf16 (below v (omega arith)) ∙ one_unit v h

hex_says : (us : List ℕ) (c : Character) → hex_escape us ≡ Some c → Escapes (backslash ∷ 0x78 ∷ us) c
unfolding hex_escape
hex_says [] c e = let d = digits_say 2 4 [] c e in absurd (omega (arith, d.0))
hex_says (a ∷ []) c e = let d = digits_say 2 4 (a ∷ []) c e in absurd (omega (arith, d.0))
hex_says (a ∷ b ∷ us) c e =
    let d = digits_say 2 4 (a ∷ b ∷ us) c e in
    let bound = two_bound a b d.1 in
    subst (Escapes (backslash ∷ 0x78 ∷ a ∷ b ∷ us)) (sym d.2)
    (λ n. subst (λ (vs : List ℕ). Escape (backslash ∷ 0x78 ∷ a ∷ b ∷ []) vs (take n us)) (sym (one_point (hex_value (a ∷ b ∷ [])) (omega arith))) (hex d.1))

four_says : (us : List ℕ) (c : Character)
    → (let h = hex_from 0 0 (take 4 us) in if h.digits == 4 then Some (character_of 6 (CodePoint h.value)) else None) ≡ Some c → Escapes (backslash ∷ 0x75 ∷ us) c
four_says [] c e = let k = digits_say 4 6 [] c e in absurd (omega (arith, k.0))
four_says (a ∷ []) c e = let k = digits_say 4 6 (a ∷ []) c e in absurd (omega (arith, k.0))
four_says (a ∷ b ∷ []) c e = let k = digits_say 4 6 (a ∷ b ∷ []) c e in absurd (omega (arith, k.0))
four_says (a ∷ b ∷ d ∷ []) c e = let k = digits_say 4 6 (a ∷ b ∷ d ∷ []) c e in absurd (omega (arith, k.0))
four_says (a ∷ b ∷ d ∷ f ∷ us) c e =
    let k = digits_say 4 6 (a ∷ b ∷ d ∷ f ∷ us) c e in
    let bound = four_bound a b d f k.1 in
    subst (Escapes (backslash ∷ 0x75 ∷ a ∷ b ∷ d ∷ f ∷ us)) (sym k.2)
    (λ n. subst (λ (vs : List ℕ). Escape (backslash ∷ 0x75 ∷ a ∷ b ∷ d ∷ f ∷ []) vs (take n us)) (sym (one_point (hex_value (a ∷ b ∷ d ∷ f ∷ [])) bound)) (unicode k.1))

-- ---- `\u{..}`

pub begins : (c : ℕ) (us : List ℕ) → begins_with c us ≡ true → us ≡ c ∷ drop 1 us
begins c [] h = cc
begins c (u ∷ us) h = let e = same_number u c h in ap (λ (x : ℕ). x ∷ us) e

pub drop_braced : (ds us : List ℕ) → drop (length ds + 4) (backslash ∷ 0x75 ∷ 0x7B ∷ ds ++ 0x7D ∷ us) ≡ us
drop_braced ds us =
    let z : length ds + 4 ≡ suc (suc (suc (length ds + 1))) = omega arith in
    rw z (past ds)
  where
    past : (ds : List ℕ) → drop (length ds + 1) (ds ++ 0x7D ∷ us) ≡ us
    past [] = refl
    past (d ∷ ds) = let z : suc (length ds) + 1 ≡ suc (length ds + 1) = omega arith in rw z (past ds)

take_braced : (ds us : List ℕ) → take (length ds + 4) (backslash ∷ 0x75 ∷ 0x7B ∷ ds ++ 0x7D ∷ us) ≡ backslash ∷ 0x75 ∷ 0x7B ∷ ds ++ 0x7D ∷ []
take_braced ds us =
    let z : length ds + 4 ≡ suc (suc (suc (length ds + 1))) = omega arith in
    rw z (ap (λ (xs : List ℕ). backslash ∷ 0x75 ∷ 0x7B ∷ xs) (past ds))
  where
    past : (ds : List ℕ) → take (length ds + 1) (ds ++ 0x7D ∷ us) ≡ ds ++ 0x7D ∷ []
    past [] = refl
    past (d ∷ ds) = let z : suc (length ds) + 1 ≡ suc (length ds + 1) = omega arith in rw z (ap (λ (xs : List ℕ). d ∷ xs) (past ds))

at_most : (n : ℕ) → nat_le (cap n) 0x10FFFF ≡ true → (n ≤ 0x10FFFF) × (cap n ≡ n)
at_most n h = let k : cap n ≤ 0x10FFFF = grind arith in (omega arith, omega arith)

braced_goes : (ds us : List ℕ) → 0 < length ds → list_all is_hex_digit ds ≡ true → hex_value ds ≤ 0x10FFFF
    → Escapes (backslash ∷ 0x75 ∷ 0x7B ∷ ds ++ 0x7D ∷ us) (character_of (length ds + 4) (CodePoint (hex_value ds)))
braced_goes ds us some all most n =
    subst (λ (xs : List ℕ). Escape xs (encode_utf16 (hex_value ds)) (take n (drop (length ds + 4) (backslash ∷ 0x75 ∷ 0x7B ∷ ds ++ 0x7D ∷ us)))) (sym (take_braced ds us))
    (code_point ds some all most)

braced_says : (us : List ℕ) (c : Character) → braced_escape us ≡ Some c → Escapes (backslash ∷ 0x75 ∷ 0x7B ∷ us) c
unfolding braced_escape
braced_says us c e = go (nat_lt 0 h.digits && (nat_le h.value 0x10FFFF && begins_with 0x7D (drop h.digits us))) refl e
  where
    h : HexRun
    h = hex_from 0 0 us

    go : (b : Bool) → (nat_lt 0 (hex_from 0 0 us).digits && (nat_le (hex_from 0 0 us).value 0x10FFFF && begins_with 0x7D (drop (hex_from 0 0 us).digits us))) ≡ b
        → (if b then Some (character_of ((hex_from 0 0 us).digits + 4) (CodePoint (hex_from 0 0 us).value)) else None) ≡ Some c
        → Escapes (backslash ∷ 0x75 ∷ 0x7B ∷ us) c
    go false t f = cc
    go true t f =
        let s = split us in
        let ds = s.digits in
        let run = hex_split us s in
        let digits = ap (λ (r : HexRun). r.digits) run in
        let p = and_true (nat_lt 0 (hex_from 0 0 us).digits) (nat_le (hex_from 0 0 us).value 0x10FFFF && begins_with 0x7D (drop (hex_from 0 0 us).digits us)) t in
        let q = and_true (nat_le (hex_from 0 0 us).value 0x10FFFF) (begins_with 0x7D (drop (hex_from 0 0 us).digits us)) p.1 in
        let positive : nat_lt 0 (length ds) ≡ true = sym (ap (λ (i : ℕ). nat_lt 0 i) digits) ∙ p.0 in
        let some : 0 < length ds = grind arith in
        let low = at_most (hex_value ds) (sym (ap (λ (r : HexRun). nat_le r.value 0x10FFFF) run) ∙ q.0) in
        let there : drop (hex_from 0 0 us).digits us ≡ s.rest =
        ap (λ (i : ℕ). drop i us) digits ∙ ap (drop (length ds)) s.is ∙ drop-append_seam ds s.rest in
        let close : s.rest ≡ 0x7D ∷ drop 1 s.rest = begins 0x7D s.rest (sym (ap (begins_with 0x7D) there) ∙ q.1) in
        let whole : us ≡ ds ++ 0x7D ∷ drop 1 s.rest = s.is ∙ ap (λ (xs : List ℕ). ds ++ xs) close in
        let is : character_of (length ds + 4) (CodePoint (hex_value ds)) ≡ c =
        sym (ap (λ (r : HexRun). character_of (r.digits + 4) (CodePoint r.value)) run ∙ ap (λ (v : ℕ). character_of (length ds + 4) (CodePoint v)) low.1)
        ∙ some_is (character_of ((hex_from 0 0 us).digits + 4) (CodePoint (hex_from 0 0 us).value)) c f in
        subst (Escapes (backslash ∷ 0x75 ∷ 0x7B ∷ us)) is
        (subst (λ (xs : List ℕ). Escapes (backslash ∷ 0x75 ∷ 0x7B ∷ xs) (character_of (length ds + 4) (CodePoint (hex_value ds)))) (sym whole)
        (braced_goes ds (drop 1 s.rest) some s.hex low.0))

unicode_says : (us : List ℕ) (c : Character) → unicode_escape us ≡ Some c → Escapes (backslash ∷ 0x75 ∷ us) c
unfolding unicode_escape
unicode_says us c e = go (begins_with 0x7B us) refl e
  where
    go : (b : Bool) → begins_with 0x7B us ≡ b
        → (if b then braced_escape (drop 1 us) else (let h = hex_from 0 0 (take 4 us) in if h.digits == 4 then Some (character_of 6 (CodePoint h.value)) else None)) ≡ Some c
        → Escapes (backslash ∷ 0x75 ∷ us) c
    go true t f = subst (λ (xs : List ℕ). Escapes (backslash ∷ 0x75 ∷ xs) c) (sym (begins 0x7B us t)) (braced_says (drop 1 us) c f)
    go false t f = four_says us c f

-- ---- line continuations

continued : (u : ℕ) (us : List ℕ) → is_line_end u ≡ true → Escapes (backslash ∷ u ∷ us) (character_of (continuation_len u us) Nothing)
continued u us h = go (u == carriage_return && begins_with_line_feed us) refl
  where
    after : (a b : Bool) → (a && b) ≡ false → a ≡ true → b ≡ false
    after true b f e = f
    after false b f e = cc

    feed : (us : List ℕ) → begins_with_line_feed us ≡ true → us ≡ line_feed ∷ drop 1 us
    feed [] e = cc
    feed (v ∷ us) e = let k = same_number v line_feed e in ap (λ (x : ℕ). x ∷ us) k

    both : Escapes (backslash ∷ carriage_return ∷ line_feed ∷ drop 1 us) (character_of 3 Nothing)
    both n = crlf_continuation

    one : (u == carriage_return && begins_with_line_feed us) ≡ false → Escapes (backslash ∷ u ∷ us) (character_of 2 Nothing)
    one f n = line_continuation h (λ e. line_feed_take n us (after (u == carriage_return) (begins_with_line_feed us) f (is_same u carriage_return e)))

    go : (b : Bool) → (u == carriage_return && begins_with_line_feed us) ≡ b → Escapes (backslash ∷ u ∷ us) (character_of (continuation_len u us) Nothing)
    go true t =
        let p = and_true (u == carriage_return) (begins_with_line_feed us) t in
        let a : carriage_return ≡ u = sym (same_number u carriage_return p.0) in
        let b : line_feed ∷ drop 1 us ≡ us = sym (feed us p.1) in
        rw t (subst (λ (x : ℕ). Escapes (backslash ∷ x ∷ us) (character_of 3 Nothing)) a
        (subst (λ (xs : List ℕ). Escapes (backslash ∷ carriage_return ∷ xs) (character_of 3 Nothing)) b both))
    go false t = rw t (one t)

-- ---- all characters

of_some : {A : Type 0} (P : A → Type 0) (a b : A) → Some a ≡ Some b → P a → P b
of_some P a b e h = subst P (some_is a b e) h

self : (u : ℕ) → single_escape u ≡ None → is_digit u ≡ false → (u == 0x78) ≡ false → (u == 0x75) ≡ false → is_line_end u ≡ false → is_self_escape u ≡ true
unfolding is_self_escape
self u s d x y l = rw (s, d, x, y, l) refl

other_says : (u : ℕ) (us : List ℕ) (c : Character) → single_escape u ≡ None → other_escape (u ∷ us) ≡ Some c → Escapes (backslash ∷ u ∷ us) c
unfolding other_escape
other_says u us c s e = go (is_digit u) (u == 0x78) (u == 0x75) (is_line_end u) refl refl refl refl e
  where
    Goal : Type 0
    Goal = Escapes (backslash ∷ u ∷ us) c

    digit : (b : Bool) → (u == 0x30 && not (begins_with_digit us)) ≡ b → (if b then Some (character_of 2 (CodeUnit 0)) else None) ≡ Some c → Escapes (backslash ∷ u ∷ us) c
    digit false t f = cc
    digit true t f =
        let p = and_true (u == 0x30) (not (begins_with_digit us)) t in
        let zero_digit : 0x30 ≡ u = sym (same_number u 0x30 p.0) in
        of_some (Escapes (backslash ∷ u ∷ us)) (character_of 2 (CodeUnit 0)) c f
        (subst (λ (x : ℕ). Escapes (backslash ∷ x ∷ us) (character_of 2 (CodeUnit 0))) zero_digit
        (λ n. null (digit_take n us (not_true (begins_with_digit us) p.1))))

    go : (d x y l : Bool) → is_digit u ≡ d → (u == 0x78) ≡ x → (u == 0x75) ≡ y → is_line_end u ≡ l
        → (if d then (if u == 0x30 && not (begins_with_digit us) then Some (character_of 2 (CodeUnit 0)) else None)
        else (if x then hex_escape us else (if y then unicode_escape us
        else (if l then Some (character_of (continuation_len u us) Nothing) else Some (character_of 2 (CodeUnit u)))))) ≡ Some c
        → Escapes (backslash ∷ u ∷ us) c
    go true x y l de xe ye le f = digit (u == 0x30 && not (begins_with_digit us)) refl f
    go false true y l de xe ye le f = subst (λ (v : ℕ). Escapes (backslash ∷ v ∷ us) c) (sym (same_number u 0x78 xe)) (hex_says us c f)
    go false false true l de xe ye le f = subst (λ (v : ℕ). Escapes (backslash ∷ v ∷ us) c) (sym (same_number u 0x75 ye)) (unicode_says us c f)
    go false false false true de xe ye le f =
        of_some (Escapes (backslash ∷ u ∷ us)) (character_of (continuation_len u us) Nothing) c f (continued u us le)
    go false false false false de xe ye le f =
        of_some (Escapes (backslash ∷ u ∷ us)) (character_of 2 (CodeUnit u)) c f
        (λ n. itself (self u s de xe ye le))

escape_says : (us : List ℕ) (c : Character) → escape us ≡ Some c → Escapes (backslash ∷ us) c
unfolding escape
escape_says [] c e = cc
escape_says (u ∷ us) c e = go (single_escape u) refl e
  where
    go : (o : Option ℕ) → single_escape u ≡ o → option_map_or (λ v. Some (character_of 2 (CodeUnit v))) o (other_escape (u ∷ us)) ≡ Some c
        → Escapes (backslash ∷ u ∷ us) c
    go None s f = other_says u us c s f
    go (Some v) s f =
        of_some (Escapes (backslash ∷ u ∷ us)) (character_of 2 (CodeUnit v)) c f (λ n. single s)

-- ---- what is read between quotes

-- the character goes before what follows it
abbrev Continues : (List ℕ → List ℕ → Type 0) → List ℕ → Character → Type 0
Continues Rest us c = (n : ℕ) (vs : List ℕ) → Rest (take n (drop c.units us)) vs → Rest (take (c.units + n) us) (meant_units c.meaning ++ vs)

-- a relation that takes each escape, each other character and each end
record Takes (Rest : List ℕ → List ℕ → Type 0) (quote : ℕ) : Type 0 where
  by_escape : {es us ws vs : List ℕ} → Escape es ws us → Rest us vs → Rest (es ++ us) (ws ++ vs)
  by_unit : (u : ℕ) (us : List ℕ) (c : Character) → (u == backslash) ≡ false → closing_len quote (u ∷ us) ≡ 0 → character quote (u ∷ us) ≡ Some c → Continues Rest (u ∷ us) c
  by_end : (us : List ℕ) (n : ℕ) → closing_len quote us ≡ suc n → Rest (take (suc n) us) []

escaped_goes : (Rest : List ℕ → List ℕ → Type 0) (quote : ℕ) (us : List ℕ) (c : Character) → Takes Rest quote → Escapes us c → Continues Rest us c
escaped_goes Rest quote us c t e n vs r =
    subst (λ (xs : List ℕ). Rest xs (meant_units c.meaning ++ vs)) (sym (take-add c.units n us)) (t.by_escape (e n) r)

escape_is : (quote : ℕ) (us : List ℕ) → character quote (backslash ∷ us) ≡ escape us
unfolding character
escape_is quote us = refl

none_is : (quote : ℕ) → character quote [] ≡ None
unfolding character
none_is quote = refl

character_says : (Rest : List ℕ → List ℕ → Type 0) (quote : ℕ) (us : List ℕ) (c : Character) → Takes Rest quote → closing_len quote us ≡ 0 → character quote us ≡ Some c
    → Continues Rest us c
character_says Rest quote [] c t z e = let k = sym (none_is quote) ∙ e in cc
character_says Rest quote (u ∷ us) c t z e = go (u == backslash) refl
  where
    go : (b : Bool) → (u == backslash) ≡ b → Continues Rest (u ∷ us) c
    go true b =
        let is = same_number u backslash b in
        let read : escape us ≡ Some c = sym (ap (λ (v : ℕ). character quote (v ∷ us)) is ∙ escape_is quote us) ∙ e in
        subst (λ (v : ℕ). Continues Rest (v ∷ us) c) (sym is) (escaped_goes Rest quote (backslash ∷ us) c t (escape_says us c read))
    go false b = t.by_unit u us c b z e

is_zero : (n : ℕ) → (n == 0) ≡ true → n ≡ 0
is_zero n h = same_number n 0 h

one_more : (n : ℕ) → (n == 0) ≡ false → (k : ℕ) × (n ≡ suc k)
one_more zero h = cc
one_more (suc k) h = (k, refl)

literal_takes : (Rest : List ℕ → List ℕ → Type 0) (quote : ℕ) → Takes Rest quote → (m : ℕ) (us : List ℕ) (l : Literal) → literal m quote us ≡ Some l
    → Rest (take l.units us) l.value
literal_takes Rest quote t zero us l e = cc
literal_takes Rest quote t (suc m) us l e = go (closing_len quote us == 0) refl (character quote us) refl e (literal_takes Rest quote t m)
  where
    rest : (c : Character) (o : Option Literal) → closing_len quote us ≡ 0 → character quote us ≡ Some c → option_map (before c) o ≡ Some l
        → ((k : Literal) → o ≡ Some k → Rest (take k.units (drop c.units us)) k.value) → Rest (take l.units us) l.value
    rest c None q ce f again = cc
    rest c (Some k) q ce f again =
        of_some (λ (x : Literal). Rest (take x.units us) x.value) (before c k) l f (character_says Rest quote us c t q ce k.units k.value (again k refl))

    go : (b : Bool) → (closing_len quote us == 0) ≡ b → (o : Option Character) → character quote us ≡ o
        → (if b then option_and_then (λ c. option_map (before c) (literal m quote (drop c.units us))) o else Some (record { units = closing_len quote us; value = [] })) ≡ Some l
        → ((us : List ℕ) (k : Literal) → literal m quote us ≡ Some k → Rest (take k.units us) k.value) → Rest (take l.units us) l.value
    go false q o ce f again =
        let n = one_more (closing_len quote us) q in
        of_some (λ (x : Literal). Rest (take x.units us) x.value) (record { units = closing_len quote us; value = [] }) l f
        (subst (λ (i : ℕ). Rest (take i us) []) (sym n.1) (t.by_end us n.0 n.1))
    go true q None ce f again = cc
    go true q (Some c) ce f again = rest c (literal m quote (drop c.units us)) (is_zero (closing_len quote us) q) ce f (again (drop c.units us))

take_one : (n a : ℕ) (us : List ℕ) → take (1 + n) (a ∷ us) ≡ a ∷ take n us
take_one n a us = let z : 1 + n ≡ suc n = omega arith in rw z refl

take_two : (n a b : ℕ) (us : List ℕ) → take (2 + n) (a ∷ b ∷ us) ≡ a ∷ b ∷ take n us
take_two n a b us = let z : 2 + n ≡ suc (suc n) = omega arith in rw z refl

-- ---- string literals

pub quote_other : (quote : ℕ) → is_quote quote ≡ true → (quote == backquote) ≡ false
unfolding is_quote
quote_other quote h = elim (or_true (quote == 0x22) (quote == 0x27) h) [
  | inl e ↦ rw (same_number quote 0x22 e) refl
  | inr e ↦ rw (same_number quote 0x27 e) refl
]

quoted_open : (quote u : ℕ) (us : List ℕ) → is_quote quote ≡ true → closing_len quote (u ∷ us) ≡ 0 → (u == quote) ≡ false
unfolding closing_len
quoted_open quote u us h z = go (u == quote) refl
  where
    go : (b : Bool) → (u == quote) ≡ b → (u == quote) ≡ false
    go true e = let k = rw e at z in cc
    go false e = e

quoted_end : (quote n : ℕ) (us : List ℕ) → is_quote quote ≡ true → closing_len quote us ≡ suc n → (us ≡ quote ∷ drop 1 us) × (n ≡ 0)
unfolding closing_len
quoted_end quote n us h e = go (begins_with quote us) refl
  where
    go : (b : Bool) → begins_with quote us ≡ b → (us ≡ quote ∷ drop 1 us) × (n ≡ 0)
    go true t = (begins quote us t, (let k = rw t at e in cc))
    go false t = let k = rw (t, quote_other quote h) at e in cc

plain_unit : (quote u : ℕ) → (u == quote) ≡ false → (u == backslash) ≡ false → (u == line_feed || u == carriage_return) ≡ false → is_plain quote u ≡ true
unfolding is_plain
plain_unit quote u q b l = let p = or_false (u == line_feed) (u == carriage_return) l in rw (q, b, p.0, p.1) refl

plain_says : (quote u : ℕ) (us : List ℕ) (c : Character) → is_quote quote ≡ true → (u == backslash) ≡ false → closing_len quote (u ∷ us) ≡ 0
    → character quote (u ∷ us) ≡ Some c → Continues (StringRest quote) (u ∷ us) c
unfolding character
plain_says quote u us c q b z e = go (u == line_feed || u == carriage_return) refl (rw (b, quote_other quote q) at e)
  where
    go : (l : Bool) → (u == line_feed || u == carriage_return) ≡ l → (if l then None else Some (character_of 1 (CodeUnit u))) ≡ Some c → Continues (StringRest quote) (u ∷ us) c
    go true le f = cc
    go false le f =
        of_some (Continues (StringRest quote) (u ∷ us)) (character_of 1 (CodeUnit u)) c f
        (λ n vs r. subst (λ (xs : List ℕ). StringRest quote xs (u ∷ vs)) (sym (take_one n u us)) (string.plain (plain_unit quote u (quoted_open quote u us q z) b le) r))

quoted_takes : (quote : ℕ) → is_quote quote ≡ true → Takes (StringRest quote) quote
quoted_takes quote q = record {
  by_escape = λ e r. string.escaped e r;
  by_unit = λ u us c b z e. plain_says quote u us c q b z e;
  by_end = λ us n e.
      let p = quoted_end quote n us q e in
      subst (λ (i : ℕ). StringRest quote (take (suc i) us) []) (sym p.1)
      (subst (λ (xs : List ℕ). StringRest quote (take 1 xs) []) (sym p.0) string.closing_quote);
}

pub literal_says : (m quote : ℕ) (us : List ℕ) (l : Literal) → is_quote quote ≡ true → literal m quote us ≡ Some l → StringRest quote (take l.units us) l.value
literal_says m quote us l q e = literal_takes (StringRest quote) quote (quoted_takes quote q) m us l e

-- ---- template pieces

piece_open : (u : ℕ) (us : List ℕ) → closing_len backquote (u ∷ us) ≡ 0 → ((u == backquote) ≡ false) × ((u == dollar_sign && begins_with left_brace us) ≡ false)
unfolding closing_len
piece_open u us z = go (u == backquote) (u == dollar_sign && begins_with left_brace us) refl refl
  where
    go : (b d : Bool) → (u == backquote) ≡ b → (u == dollar_sign && begins_with left_brace us) ≡ d
        → ((u == backquote) ≡ false) × ((u == dollar_sign && begins_with left_brace us) ≡ false)
    go true d e f = let k = rw e at z in cc
    go false true e f = let k = rw (e, f) at z in cc
    go false false e f = (e, f)

piece_end : (n : ℕ) (us : List ℕ) → closing_len backquote us ≡ suc n → PieceRest (take (suc n) us) []
unfolding closing_len
piece_end n us e = go (begins_with backquote us) refl
  where
    opens : begins_with backquote us ≡ false → (d : Bool) → (begins_with dollar_sign us && begins_with left_brace (drop 1 us)) ≡ d → PieceRest (take (suc n) us) []
    opens b false f = let k = rw (b, f) at e in cc
    opens b true f =
        let p = and_true (begins_with dollar_sign us) (begins_with left_brace (drop 1 us)) f in
        let one : 2 ≡ suc n = rw (b, f) at e in
        let rest : us ≡ dollar_sign ∷ left_brace ∷ drop 1 (drop 1 us) =
        begins dollar_sign us p.0 ∙ ap (λ (xs : List ℕ). dollar_sign ∷ xs) (begins left_brace (drop 1 us) p.1) in
        subst (λ (i : ℕ). PieceRest (take i us) []) one (subst (λ (xs : List ℕ). PieceRest (take 2 xs) []) (sym rest) opening)

    go : (b : Bool) → begins_with backquote us ≡ b → PieceRest (take (suc n) us) []
    go true t =
        let one : 1 ≡ suc n = rw t at e in
        subst (λ (i : ℕ). PieceRest (take i us) []) one (subst (λ (xs : List ℕ). PieceRest (take 1 xs) []) (sym (begins backquote us t)) closing)
    go false t = opens t (begins_with dollar_sign us && begins_with left_brace (drop 1 us)) refl

brace_take : (n : ℕ) (us : List ℕ) → begins_with left_brace us ≡ false → begins_with left_brace (take n us) ≡ false
brace_take zero us h = refl
brace_take (suc n) [] h = refl
brace_take (suc n) (u ∷ us) h = h

template_plain : (u : ℕ) → (u == backquote) ≡ false → (u == backslash) ≡ false → (u == dollar_sign) ≡ false → (u == carriage_return) ≡ false → is_template_plain u ≡ true
unfolding is_template_plain
template_plain u q b d c = rw (q, b, d, c) refl

return_goes : (us : List ℕ) (f : Bool) → begins_with_line_feed us ≡ f
    → Continues PieceRest (carriage_return ∷ us) (character_of (if f then 2 else 1) (CodeUnit line_feed))
return_goes us false h n vs r = subst (λ (xs : List ℕ). PieceRest xs (line_feed ∷ vs)) (sym (take_one n carriage_return us)) (lone_return (line_feed_take n us h) r)
return_goes [] true h n vs r = cc
return_goes (u ∷ us) true h n vs r =
    let is : line_feed ≡ u = sym (same_number u line_feed h) in
    subst (λ (v : ℕ). PieceRest (take (2 + n) (carriage_return ∷ v ∷ us)) (line_feed ∷ vs)) is
    (subst (λ (xs : List ℕ). PieceRest xs (line_feed ∷ vs)) (sym (take_two n carriage_return line_feed us)) (return_feed r))

unit_goes : (u : ℕ) (us : List ℕ) → (u == backslash) ≡ false → closing_len backquote (u ∷ us) ≡ 0 → Continues PieceRest (u ∷ us) (template_unit u us)
unit_goes u us b z = go (u == carriage_return) refl (u == dollar_sign) refl
  where
    after : (a b : Bool) → (a && b) ≡ false → a ≡ true → b ≡ false
    after true b f e = f
    after false b f e = cc

    go : (c : Bool) → (u == carriage_return) ≡ c → (d : Bool) → (u == dollar_sign) ≡ d
        → Continues PieceRest (u ∷ us) (if c then character_of (if begins_with_line_feed us then 2 else 1) (CodeUnit line_feed) else character_of 1 (CodeUnit u))
    go true c d de =
        let is : carriage_return ≡ u = sym (same_number u carriage_return c) in
        subst (λ (v : ℕ). Continues PieceRest (v ∷ us) (character_of (if begins_with_line_feed us then 2 else 1) (CodeUnit line_feed))) is
        (return_goes us (begins_with_line_feed us) refl)
    go false c true de = λ n vs r.
        let is : dollar_sign ≡ u = sym (same_number u dollar_sign de) in
        let shut = after (u == dollar_sign) (begins_with left_brace us) (piece_open u us z).1 de in
        subst (λ (xs : List ℕ). PieceRest xs (u ∷ vs)) (sym (take_one n u us))
        (subst (λ (v : ℕ). PieceRest (v ∷ take n us) (v ∷ vs)) is (dollar (brace_take n us shut) r))
    go false c false de = λ n vs r.
        subst (λ (xs : List ℕ). PieceRest xs (u ∷ vs)) (sym (take_one n u us)) (template.plain (template_plain u (piece_open u us z).0 b de c) r)

template_says : (u : ℕ) (us : List ℕ) (c : Character) → (u == backslash) ≡ false → closing_len backquote (u ∷ us) ≡ 0
    → character backquote (u ∷ us) ≡ Some c → Continues PieceRest (u ∷ us) c
unfolding character
template_says u us c b z e = of_some (Continues PieceRest (u ∷ us)) (template_unit u us) c (rw b at e) (unit_goes u us b z)

piece_takes : Takes PieceRest backquote
piece_takes = record {
  by_escape = λ e r. template.escaped e r;
  by_unit = λ u us c b z e. template_says u us c b z e;
  by_end = λ us n e. piece_end n us e;
}

pub piece_says : (m : ℕ) (us : List ℕ) (l : Literal) → literal m backquote us ≡ Some l → PieceRest (take l.units us) l.value
piece_says m us l e = literal_takes PieceRest backquote piece_takes m us l e
