-- A string literal or a template piece of the relation is found.
use Rattle.std.proofs.Common.{◌≡◌, ℕ, zero, suc, ◌+◌, ◌≤◌, ◌<◌, Bool, true, false, ◌||◌, ◌&&◌, List, [], ◌∷◌, ◌++◌, length, drop, refl, sym, ap, ◌∙◌, subst, arith, append_assoc, inl, inr}
use Rattle.std.specs.Prelude.{if◌then◌else◌, ◌==◌, nat_lt, nat_le, Option, Some, None, is_some, IfSome, slice_index, option_map}
use Rattle.std.specs.List.{list_all}
use Rattle.std.specs.Char.Escape.{encode_utf16}
use Rattle.std.proofs.lemmas.List.{length-append, append-nil}
use Rattle.std.proofs.Math.Seq.{drop-append_seam}
use Rattle.sr_lex.specs.Units.{line_feed, carriage_return, is_line_end, is_digit, begins_with_digit, begins_with}
use Rattle.sr_lex.specs.Strings.{backslash, is_quote, is_plain, single_escape, is_self_escape, is_hex_digit, hex_value, begins_with_line_feed, Escape, single, null, hex, unicode, code_point, line_continuation, crlf_continuation, itself, StringRest, StringLiteral}
use Rattle.sr_lex.specs.Strings as string
use Rattle.sr_lex.specs.Templates.{backquote, dollar_sign, left_brace, is_template_plain, PieceRest, closing, opening, dollar, lone_return, return_feed, TemplatePiece, begun}
use Rattle.sr_lex.specs.Templates as template
use Rattle.sr_lex.specs.Laws.{OneValue, OnePieceValue}
use Rattle.sr_lex.specs.Scan.{hex_from, character_of, hex_escape, braced_escape, unicode_escape, other_escape, escape, character, closing_len, meant_units, Literal, before, literal}
use Rattle.sr_lex.specs.declared.characters.HexRun.{HexRun}
use Rattle.sr_lex.specs.declared.characters.Character.{Character}
use Rattle.sr_lex.specs.declared.characters.Meaning.TheVariants.{Nothing, CodeUnit, CodePoint}
use Rattle.sr_lex.proofs.Truth.{or_true, or_false, and_true, not_true, same_number, is_same, both_ways}
use Rattle.sr_lex.proofs.Hex.{hex_run, cap, two_bound, four_bound}
use Rattle.sr_lex.proofs.LiteralSteps.{goes, closes}
use Rattle.sr_lex.proofs.StringsSound.{below, one_unit, quote_other}

-- ---- the character at the front

single_is : (quote u v : ℕ) (us : List ℕ) → single_escape u ≡ Some v → character quote (backslash ∷ u ∷ us) ≡ Some (character_of 2 (CodeUnit v))
unfolding character escape
single_is quote u v us h = rw h refl

null_is : (quote : ℕ) (us : List ℕ) → begins_with_digit us ≡ false → character quote (backslash ∷ 0x30 ∷ us) ≡ Some (character_of 2 (CodeUnit 0))
unfolding character escape single_escape other_escape is_digit
null_is quote us h = rw h refl

two_digits : (a b : ℕ) → list_all is_hex_digit (a ∷ b ∷ []) ≡ true → hex_from 0 0 (a ∷ b ∷ []) ≡ record { digits = 2; value = cap (hex_value (a ∷ b ∷ [])) }
two_digits a b h = hex_run (a ∷ b ∷ []) [] 0 0 h refl

hex_is : (quote a b : ℕ) (us : List ℕ) → list_all is_hex_digit (a ∷ b ∷ []) ≡ true → character quote (backslash ∷ 0x78 ∷ a ∷ b ∷ us) ≡ Some (character_of 4 (CodePoint (hex_value (a ∷ b ∷ []))))
unfolding character escape single_escape other_escape is_digit hex_escape
hex_is quote a b us h =
    let bound = two_bound a b h in
    ap (λ (r : HexRun). if r.digits == 2 then Some (character_of 4 (CodePoint r.value)) else None) (two_digits a b h)
    ∙ ap (λ (v : ℕ). Some (character_of 4 (CodePoint v))) (below (hex_value (a ∷ b ∷ [])) (omega arith))

four_digits : (a b c d : ℕ) → list_all is_hex_digit (a ∷ b ∷ c ∷ d ∷ []) ≡ true
    → hex_from 0 0 (a ∷ b ∷ c ∷ d ∷ []) ≡ record { digits = 4; value = cap (hex_value (a ∷ b ∷ c ∷ d ∷ [])) }
four_digits a b c d h = hex_run (a ∷ b ∷ c ∷ d ∷ []) [] 0 0 h refl

open_brace : is_hex_digit 0x7B ≡ false
unfolding is_hex_digit
open_brace = refl

no_brace : (u : ℕ) → is_hex_digit u ≡ true → (u == 0x7B) ≡ false
no_brace u h = go (u == 0x7B) refl
  where
    go : (b : Bool) → (u == 0x7B) ≡ b → (u == 0x7B) ≡ false
    go true e = absurd (both_ways (is_hex_digit u) h (ap is_hex_digit (same_number u 0x7B e) ∙ open_brace))
    go false e = e

unicode_is : (quote a b c d : ℕ) (us : List ℕ) → list_all is_hex_digit (a ∷ b ∷ c ∷ d ∷ []) ≡ true
    → character quote (backslash ∷ 0x75 ∷ a ∷ b ∷ c ∷ d ∷ us) ≡ Some (character_of 6 (CodePoint (hex_value (a ∷ b ∷ c ∷ d ∷ []))))
unfolding character escape single_escape other_escape is_digit unicode_escape
unicode_is quote a b c d us h =
    let bound = four_bound a b c d h in
    let shut = no_brace a (and_true (is_hex_digit a) (is_hex_digit b && (is_hex_digit c && (is_hex_digit d && true))) h).0 in
    rw shut (
    ap (λ (r : HexRun). if r.digits == 4 then Some (character_of 6 (CodePoint r.value)) else None) (four_digits a b c d h)
    ∙ ap (λ (v : ℕ). Some (character_of 6 (CodePoint v))) (below (hex_value (a ∷ b ∷ c ∷ d ∷ [])) (omega arith)))

close_brace : is_hex_digit 0x7D ≡ false
unfolding is_hex_digit
close_brace = refl

braced_is : (ds us : List ℕ) → 0 < length ds → list_all is_hex_digit ds ≡ true → hex_value ds ≤ 0x10FFFF
    → braced_escape (ds ++ 0x7D ∷ us) ≡ Some (character_of (length ds + 4) (CodePoint (hex_value ds)))
unfolding braced_escape
braced_is ds us some all most =
    let z : 0 + length ds ≡ length ds = omega arith in
    let c : cap (hex_value ds) ≡ hex_value ds = omega arith in
    let run : hex_from 0 0 (ds ++ 0x7D ∷ us) ≡ record { digits = length ds; value = hex_value ds } =
    hex_run ds (0x7D ∷ us) 0 0 all close_brace ∙ (rw (z, c) refl) in
    let a : nat_lt 0 (length ds) ≡ true = grind arith in
    let b : nat_le (hex_value ds) 0x10FFFF ≡ true = grind arith in
    rw (run, a, b, drop-append_seam ds (0x7D ∷ us)) refl

point_is : (quote : ℕ) (ds us : List ℕ) → 0 < length ds → list_all is_hex_digit ds ≡ true → hex_value ds ≤ 0x10FFFF
    → character quote (backslash ∷ 0x75 ∷ 0x7B ∷ ds ++ 0x7D ∷ us) ≡ Some (character_of (length ds + 4) (CodePoint (hex_value ds)))
unfolding character escape single_escape other_escape is_digit unicode_escape
point_is quote ds us some all most = braced_is ds us some all most

-- what a line end is not
abbrev IsPlainEnd : ℕ → Type 0
IsPlainEnd u = (single_escape u ≡ None) × (is_digit u ≡ false) × ((u == 0x78) ≡ false) × ((u == 0x75) ≡ false)

plain_end : (u : ℕ) → is_line_end u ≡ true → IsPlainEnd u
unfolding is_line_end single_escape is_digit
plain_end u h = elim (or_true (u == 0x0A || u == 0x0D || u == 0x2028) (u == 0x2029) h) [
  | inr e ↦ subst IsPlainEnd (sym (same_number u 0x2029 e)) (refl, refl, refl, refl)
  | inl h ↦ elim (or_true (u == 0x0A || u == 0x0D) (u == 0x2028) h) [
    | inr e ↦ subst IsPlainEnd (sym (same_number u 0x2028 e)) (refl, refl, refl, refl)
    | inl h ↦ elim (or_true (u == 0x0A) (u == 0x0D) h) [
      | inr e ↦ subst IsPlainEnd (sym (same_number u 0x0D e)) (refl, refl, refl, refl)
      | inl e ↦ subst IsPlainEnd (sym (same_number u 0x0A e)) (refl, refl, refl, refl)
    ]
  ]
]

continued_is : (quote u : ℕ) (us : List ℕ) → is_line_end u ≡ true → (u == carriage_return && begins_with_line_feed us) ≡ false → character quote (backslash ∷ u ∷ us) ≡ Some (character_of 2 Nothing)
unfolding character escape other_escape
continued_is quote u us h f = let p = plain_end u h in rw (p.0, p.1, p.2, p.3, h, f) refl

crlf_is : (quote : ℕ) (us : List ℕ) → character quote (backslash ∷ carriage_return ∷ line_feed ∷ us) ≡ Some (character_of 3 Nothing)
unfolding character escape single_escape other_escape is_digit is_line_end
crlf_is quote us = refl

no_some : (o : Option ℕ) → is_some o ≡ false → o ≡ None
no_some None h = refl
no_some (Some n) h = cc

itself_is : (quote u : ℕ) (us : List ℕ) → is_self_escape u ≡ true → character quote (backslash ∷ u ∷ us) ≡ Some (character_of 2 (CodeUnit u))
unfolding character escape other_escape is_self_escape
itself_is quote u us h =
    let p = or_false (is_some (single_escape u) || is_digit u || u == 0x78 || u == 0x75) (is_line_end u) (not_true (is_some (single_escape u) || is_digit u || u == 0x78 || u == 0x75 || is_line_end u) h) in
    let q = or_false (is_some (single_escape u) || is_digit u || u == 0x78) (u == 0x75) p.0 in
    let r = or_false (is_some (single_escape u) || is_digit u) (u == 0x78) q.0 in
    let s = or_false (is_some (single_escape u)) (is_digit u) r.0 in
    let n = no_some (single_escape u) s.0 in
    rw (n, s.1, r.1, q.1, p.1) refl

-- what an escape is read as, before these units
record IsRead (quote : ℕ) (es vs rest : List ℕ) : Type 0 where
  read : Character
  is : character quote (es ++ rest) ≡ Some read
  units : read.units ≡ length es
  some : 0 < length es
  value : vs ≡ meant_units read.meaning
  front : es ≡ backslash ∷ drop 1 es

digit_more : (us more : List ℕ) → 0 < length us → begins_with_digit us ≡ false → begins_with_digit (us ++ more) ≡ false
digit_more [] more l h = absurd (omega arith)
digit_more (u ∷ us) more l h = h

line_feed_more : (us more : List ℕ) → 0 < length us → begins_with_line_feed us ≡ false → begins_with_line_feed (us ++ more) ≡ false
line_feed_more [] more l h = absurd (omega arith)
line_feed_more (u ∷ us) more l h = h

after : (a b : Bool) → (a ≡ true → b ≡ false) → (a && b) ≡ false
after true b h = h refl
after false b h = refl

escape_reads : {es vs us : List ℕ} → Escape es vs us → (quote : ℕ) (more : List ℕ) → 0 < length us → IsRead quote es vs (us ++ more)
escape_reads (single {u} {v} {after = us} h) = λ quote more some. record {
  read = character_of 2 (CodeUnit v);
  is = single_is quote u v (us ++ more) h;
  units = refl;
  some = omega arith;
  value = refl;
  front = refl;
}
escape_reads (null {after = us} h) = λ quote more some. record {
  read = character_of 2 (CodeUnit 0);
  is = null_is quote (us ++ more) (digit_more us more some h);
  units = refl;
  some = omega arith;
  value = refl;
  front = refl;
}
escape_reads (hex {a} {b} {after = us} h) = λ quote more some. record {
  read = character_of 4 (CodePoint (hex_value (a ∷ b ∷ [])));
  is = hex_is quote a b (us ++ more) h;
  units = refl;
  some = omega arith;
  value = sym (one_unit (hex_value (a ∷ b ∷ [])) (let bound = two_bound a b h in omega arith));
  front = refl;
}
escape_reads (unicode {a} {b} {c} {d} {after = us} h) = λ quote more some. record {
  read = character_of 6 (CodePoint (hex_value (a ∷ b ∷ c ∷ d ∷ [])));
  is = unicode_is quote a b c d (us ++ more) h;
  units = refl;
  some = omega arith;
  value = sym (one_unit (hex_value (a ∷ b ∷ c ∷ d ∷ [])) (four_bound a b c d h));
  front = refl;
}
escape_reads (code_point {after = us} ds one all most) = λ quote more some. record {
  read = character_of (length ds + 4) (CodePoint (hex_value ds));
  is = ap (λ (xs : List ℕ). character quote (backslash ∷ 0x75 ∷ 0x7B ∷ xs)) (append_assoc ds (0x7D ∷ []) (us ++ more)) ∙ point_is quote ds (us ++ more) one all most;
  units = omega (arith, length-append ds (0x7D ∷ []));
  some = omega arith;
  value = refl;
  front = refl;
}
escape_reads (line_continuation {u} {after = us} h f) = λ quote more some. record {
  read = character_of 2 Nothing;
  is = continued_is quote u (us ++ more) h
      (after (u == carriage_return) (begins_with_line_feed (us ++ more)) (λ e. line_feed_more us more some (f (same_number u carriage_return e))));
  units = refl;
  some = omega arith;
  value = refl;
  front = refl;
}
escape_reads (crlf_continuation {after = us}) = λ quote more some. record {
  read = character_of 3 Nothing;
  is = crlf_is quote (us ++ more);
  units = refl;
  some = omega arith;
  value = refl;
  front = refl;
}
escape_reads (itself {u} {after = us} h) = λ quote more some. record {
  read = character_of 2 (CodeUnit u);
  is = itself_is quote u (us ++ more) h;
  units = refl;
  some = omega arith;
  value = refl;
  front = refl;
}

-- an escape stands for no more units than it has
escape_len : {es vs us : List ℕ} → Escape es vs us → length vs ≤ length es
escape_len (single {u} {v} {after = us} h) = omega arith
escape_len (null {after = us} h) = omega arith
escape_len (hex {a} {b} {after = us} h) = omega arith
escape_len (unicode {a} {b} {c} {d} {after = us} h) = omega arith
escape_len (code_point {after = us} ds one all most) =
    let p = point_len (hex_value ds) in
    omega (arith, length-append ds (0x7D ∷ []))
  where
    point_len : (n : ℕ) → length (encode_utf16 n) ≤ 2
    point_len n = go (nat_lt n 0x10000) refl
      where
        go : (b : Bool) → nat_lt n 0x10000 ≡ b → length (encode_utf16 n) ≤ 2
        go true e = rw e (omega arith)
        go false e = rw e (omega arith)
escape_len (line_continuation {u} {after = us} h f) = omega arith
escape_len (crlf_continuation {after = us}) = omega arith
escape_len (itself {u} {after = us} h) = omega arith

escape_some : {es vs us : List ℕ} → Escape es vs us → 0 < length es
escape_some (single {u} {v} {after = us} h) = omega arith
escape_some (null {after = us} h) = omega arith
escape_some (hex {a} {b} {after = us} h) = omega arith
escape_some (unicode {a} {b} {c} {d} {after = us} h) = omega arith
escape_some (code_point {after = us} ds one all most) = omega arith
escape_some (line_continuation {u} {after = us} h f) = omega arith
escape_some (crlf_continuation {after = us}) = omega arith
escape_some (itself {u} {after = us} h) = omega arith

-- ---- literals

on : (quote m k : ℕ) (us tail vs : List ℕ) (c : Character) → closing_len quote us ≡ 0 → character quote us ≡ Some c → drop c.units us ≡ tail
    → literal m quote tail ≡ Some (record { units = k; value = vs })
    → literal (suc m) quote us ≡ Some (record { units = c.units + k; value = meant_units c.meaning ++ vs })
on quote m k us tail vs c q e d r =
    goes m quote us c q e ∙ ap (λ (xs : List ℕ). option_map (before c) (literal m quote xs)) d ∙ ap (option_map (before c)) r

step : (quote m k len : ℕ) (us tail vs ws : List ℕ) (c : Character) → closing_len quote us ≡ 0 → character quote us ≡ Some c → drop c.units us ≡ tail
    → 0 < c.units → len ≡ c.units + k → ws ≡ meant_units c.meaning ++ vs → len ≤ m
    → ((j : ℕ) → k ≤ j → literal j quote tail ≡ Some (record { units = k; value = vs }))
    → literal m quote us ≡ Some (record { units = len; value = ws })
step quote zero k len us tail vs ws c q e d some l v most again = absurd (omega arith)
step quote (suc m) k len us tail vs ws c q e d some l v most again =
    on quote m k us tail vs c q e d (again m (omega arith)) ∙ (rw (l, v) refl)

abbrev pub Reads : ℕ → List ℕ → List ℕ → Type 0
Reads quote us vs = (m : ℕ) (more : List ℕ) → length us ≤ m → literal m quote (us ++ more) ≡ Some (record { units = length us; value = vs })

and_nothing : (a : Bool) → (a && false) ≡ false
and_nothing true = refl
and_nothing false = refl

no_end : (quote : ℕ) (us : List ℕ) → (backslash == quote) ≡ false → closing_len quote (backslash ∷ us) ≡ 0
unfolding closing_len
no_end quote us h = rw (h, and_nothing (quote == backquote)) refl

escape_step : {es us vs ws : List ℕ} → (quote : ℕ) → Escape es ws us → (backslash == quote) ≡ false → 0 < length us → Reads quote us vs → Reads quote (es ++ us) (ws ++ vs)
escape_step {es} {us} {vs} {ws} quote e q some again m more l =
    let r = escape_reads e quote more some in
    let len = length-append es us in
    let d : drop r.read.units (es ++ (us ++ more)) ≡ us ++ more = ap (λ (i : ℕ). drop i (es ++ (us ++ more))) r.units ∙ drop-append_seam es (us ++ more) in
    let open_here : closing_len quote (es ++ (us ++ more)) ≡ 0 =
    ap (λ (xs : List ℕ). closing_len quote (xs ++ (us ++ more))) r.front ∙ no_end quote (drop 1 es ++ (us ++ more)) q in
    let whole : (es ++ us) ++ more ≡ es ++ (us ++ more) = append_assoc es us more in
    ap (literal m quote) whole
    ∙ step quote m (length us) (length (es ++ us)) (es ++ (us ++ more)) (us ++ more) vs (ws ++ vs) r.read open_here r.is d
    (omega (arith, r.units, r.some)) (omega (arith, r.units, len)) (ap (λ (xs : List ℕ). xs ++ vs) r.value) l (λ j k. again j more k)

end_reads : (quote m n : ℕ) (us : List ℕ) → suc n ≤ m → closing_len quote us ≡ suc n → literal m quote us ≡ Some (record { units = suc n; value = [] })
end_reads quote zero n us l h = absurd (omega arith)
end_reads quote (suc m) n us l h = closes m n quote us h

more_len : (es us : List ℕ) → 0 < length es → 0 < length (es ++ us)
more_len es us h = omega (arith, length-append es us)

-- ---- string literals

pub nonempty : {quote : ℕ} {us vs : List ℕ} → StringRest quote us vs → 0 < length us
nonempty (string.closing_quote {quote}) = omega arith
nonempty (string.plain {quote} {u} {us} {vs} h r) = omega arith
nonempty (string.escaped {quote} {es} {us} {vs} {ws} e r) = more_len es us (escape_some e)

quoted_end : (quote : ℕ) (more : List ℕ) → closing_len quote (quote ∷ more) ≡ 1
unfolding closing_len
quoted_end quote more = rw (is_same quote quote refl) refl

plain_is : (quote u : ℕ) (us : List ℕ) → is_quote quote ≡ true → is_plain quote u ≡ true
    → (closing_len quote (u ∷ us) ≡ 0) × (character quote (u ∷ us) ≡ Some (character_of 1 (CodeUnit u)))
unfolding is_plain character closing_len
plain_is quote u us k h =
    let p = or_false (u == quote || u == backslash || u == line_feed) (u == carriage_return) (not_true (u == quote || u == backslash || u == line_feed || u == carriage_return) h) in
    let q = or_false (u == quote || u == backslash) (u == line_feed) p.0 in
    let r = or_false (u == quote) (u == backslash) q.0 in
    let o = quote_other quote k in
    ((rw (r.0, o) refl), rw (r.1, o, q.1, p.1) refl)

other_quote : (quote : ℕ) → is_quote quote ≡ true → (backslash == quote) ≡ false
unfolding is_quote
other_quote quote h = elim (or_true (quote == 0x22) (quote == 0x27) h) [
  | inl e ↦ rw (same_number quote 0x22 e) refl
  | inr e ↦ rw (same_number quote 0x27 e) refl
]

pub literal_reads : {quote : ℕ} {us vs : List ℕ} → StringRest quote us vs → is_quote quote ≡ true → Reads quote us vs
literal_reads (string.closing_quote {quote}) = λ q m more l. end_reads quote m 0 (quote ∷ more) l (quoted_end quote more)
literal_reads (string.plain {quote} {u} {us} {vs} h r) = λ q m more l.
    let p = plain_is quote u (us ++ more) q h in
    step quote m (length us) (suc (length us)) (u ∷ (us ++ more)) (us ++ more) vs (u ∷ vs) (character_of 1 (CodeUnit u)) p.0 p.1 refl (omega arith) (omega arith) refl l
    (λ j k. literal_reads r q j more k)
literal_reads (string.escaped {quote} {es} {us} {vs} {ws} e r) = λ q. escape_step quote e (other_quote quote q) (nonempty r) (literal_reads r q)

-- ---- template pieces

pub piece_nonempty : {us vs : List ℕ} → PieceRest us vs → 0 < length us
piece_nonempty closing = omega arith
piece_nonempty opening = omega arith
piece_nonempty (template.plain {u} {us} {vs} h r) = omega arith
piece_nonempty (dollar {us} {vs} h r) = omega arith
piece_nonempty (lone_return {us} {vs} h r) = omega arith
piece_nonempty (return_feed {us} {vs} r) = omega arith
piece_nonempty (template.escaped {es} {us} {vs} {ws} e r) = more_len es us (escape_some e)

template_end : (more : List ℕ) → (closing_len backquote (backquote ∷ more) ≡ 1) × (closing_len backquote (dollar_sign ∷ left_brace ∷ more) ≡ 2)
unfolding closing_len
template_end more = (refl, refl)

template_plain_is : (u : ℕ) (us : List ℕ) → is_template_plain u ≡ true
    → (closing_len backquote (u ∷ us) ≡ 0) × (character backquote (u ∷ us) ≡ Some (character_of 1 (CodeUnit u)))
unfolding is_template_plain character closing_len
template_plain_is u us h =
    let p = or_false (u == backquote || u == backslash || u == dollar_sign) (u == carriage_return) (not_true (u == backquote || u == backslash || u == dollar_sign || u == carriage_return) h) in
    let q = or_false (u == backquote || u == backslash) (u == dollar_sign) p.0 in
    let r = or_false (u == backquote) (u == backslash) q.0 in
    ((rw (r.0, q.1) refl), rw (r.1, p.1) refl)

dollar_is : (us : List ℕ) → begins_with left_brace us ≡ false
    → (closing_len backquote (dollar_sign ∷ us) ≡ 0) × (character backquote (dollar_sign ∷ us) ≡ Some (character_of 1 (CodeUnit dollar_sign)))
unfolding character closing_len
dollar_is us h = ((rw h refl), refl)

return_is : (us : List ℕ) → begins_with_line_feed us ≡ false
    → (closing_len backquote (carriage_return ∷ us) ≡ 0) × (character backquote (carriage_return ∷ us) ≡ Some (character_of 1 (CodeUnit line_feed)))
unfolding character closing_len
return_is us h = (refl, rw h refl)

return_feed_is : (us : List ℕ) → (closing_len backquote (carriage_return ∷ line_feed ∷ us) ≡ 0)
    × (character backquote (carriage_return ∷ line_feed ∷ us) ≡ Some (character_of 2 (CodeUnit line_feed)))
unfolding character closing_len
return_feed_is us = (refl, refl)

brace_more : (us more : List ℕ) → 0 < length us → begins_with left_brace us ≡ false → begins_with left_brace (us ++ more) ≡ false
brace_more [] more l h = absurd (omega arith)
brace_more (u ∷ us) more l h = h

one_step : (us vs : List ℕ) (u v : ℕ) (more : List ℕ) → (closing_len backquote (u ∷ (us ++ more)) ≡ 0) × (character backquote (u ∷ (us ++ more)) ≡ Some (character_of 1 (CodeUnit v)))
    → Reads backquote us vs → (m : ℕ) → suc (length us) ≤ m
    → literal m backquote (u ∷ (us ++ more)) ≡ Some (record { units = suc (length us); value = v ∷ vs })
one_step us vs u v more p again m l =
    step backquote m (length us) (suc (length us)) (u ∷ (us ++ more)) (us ++ more) vs (v ∷ vs) (character_of 1 (CodeUnit v)) p.0 p.1 refl (omega arith) (omega arith) refl l
    (λ j k. again j more k)

pub piece_reads : {us vs : List ℕ} → PieceRest us vs → Reads backquote us vs
piece_reads closing = λ m more l. end_reads backquote m 0 (backquote ∷ more) l (template_end more).0
piece_reads opening = λ m more l. end_reads backquote m 1 (dollar_sign ∷ left_brace ∷ more) l (template_end more).1
piece_reads (template.plain {u} {us} {vs} h r) = λ m more l. one_step us vs u u more (template_plain_is u (us ++ more) h) (piece_reads r) m l
piece_reads (dollar {us} {vs} h r) = λ m more l.
    one_step us vs dollar_sign dollar_sign more (dollar_is (us ++ more) (brace_more us more (piece_nonempty r) h)) (piece_reads r) m l
piece_reads (lone_return {us} {vs} h r) = λ m more l.
    one_step us vs carriage_return line_feed more (return_is (us ++ more) (line_feed_more us more (piece_nonempty r) h)) (piece_reads r) m l
piece_reads (return_feed {us} {vs} r) = λ m more l.
    let p = return_feed_is (us ++ more) in
    step backquote m (length us) (suc (suc (length us))) (carriage_return ∷ line_feed ∷ (us ++ more)) (us ++ more) vs (line_feed ∷ vs) (character_of 2 (CodeUnit line_feed))
    p.0 p.1 refl (omega arith) (omega arith) refl l (λ j k. piece_reads r j more k)
piece_reads (template.escaped {es} {us} {vs} {ws} e r) = escape_step backquote e refl (piece_nonempty r) (piece_reads r)

-- ---- one value

abbrev pub IsReadRest : ℕ → List ℕ → List ℕ → Type 0
IsReadRest quote us value = (first : ℕ) × (rest : List ℕ) × (us ≡ first ∷ rest) × Reads quote rest value

start_reads : {us value : List ℕ} → StringLiteral us value → (quote : ℕ) × (rest : List ℕ) × (us ≡ quote ∷ rest) × Reads quote rest value
start_reads (string.quoted {quote} {us} {value} q r) = (quote, us, refl, literal_reads r q)

begun_reads : {us value : List ℕ} → TemplatePiece us value → (first : ℕ) × (rest : List ℕ) × (us ≡ first ∷ rest) × Reads backquote rest value
begun_reads (begun {first} {us} {value} f r) = (first, us, refl, piece_reads r)

same_value : (l k : Literal) → Some l ≡ Some k → l.value ≡ k.value
same_value l k h = cc

both_read : (q p : ℕ) (a b v w : List ℕ) → q ≡ p → a ≡ b → Reads q a v → Reads p b w → v ≡ w
both_read q p a b v w quote rest x y =
    let same : literal (length a) q (a ++ []) ≡ literal (length b) p (b ++ []) =
    ap (λ (q : ℕ). literal (length a) q (a ++ [])) quote ∙ ap (λ (us : List ℕ). literal (length us) p (us ++ [])) rest in
    same_value (record { units = length a; value = v }) (record { units = length b; value = w }) (sym (x (length a) [] (omega arith)) ∙ same ∙ y (length b) [] (omega arith))

pub one_value_law : OneValue
one_value_law us v w a b =
    let x = start_reads a in
    let y = start_reads b in
    let e = sym x.2 ∙ y.2 in
    both_read x.0 y.0 x.1 y.1 v w (cc) (cc) x.3 y.3

pub one_piece_law : OnePieceValue
one_piece_law us v w a b =
    let x = begun_reads a in
    let y = begun_reads b in
    let e = sym x.2 ∙ y.2 in
    both_read backquote backquote x.1 y.1 v w refl (cc) x.3 y.3

-- a value has no more units than its literal
pub value_len : {quote : ℕ} {us vs : List ℕ} → StringRest quote us vs → length vs ≤ length us
value_len (string.closing_quote {quote}) = omega arith
value_len (string.plain {quote} {u} {us} {vs} h r) = let l = value_len r in omega arith
value_len (string.escaped {quote} {es} {us} {vs} {ws} e r) =
    let l = value_len r in
    let k = escape_len e in
    omega (arith, length-append es us, length-append ws vs)

pub piece_len : {us vs : List ℕ} → PieceRest us vs → length vs ≤ length us
piece_len closing = omega arith
piece_len opening = omega arith
piece_len (template.plain {u} {us} {vs} h r) = let l = piece_len r in omega arith
piece_len (dollar {us} {vs} h r) = let l = piece_len r in omega arith
piece_len (lone_return {us} {vs} h r) = let l = piece_len r in omega arith
piece_len (return_feed {us} {vs} r) = let l = piece_len r in omega arith
piece_len (template.escaped {es} {us} {vs} {ws} e r) =
    let l = piece_len r in
    let k = escape_len e in
    omega (arith, length-append es us, length-append ws vs)

-- what is read is the value
read_is : (quote : ℕ) (us w items : List ℕ) → Reads quote us w → IfSome (literal (length us) quote us) (λ l. items ≡ l.value) → items ≡ w
read_is quote us w items r h =
    let read : literal (length us) quote us ≡ Some (record { units = length us; value = w }) =
    ap (literal (length us) quote) (sym (append-nil us)) ∙ r (length us) [] (omega arith) in
    subst (λ (o : Option Literal). IfSome o (λ l. items ≡ l.value)) read h

pub value_read : {us w : List ℕ} → StringLiteral us w → (items : List ℕ)
    → IfSome (literal (length (drop 1 us)) (slice_index us 0) (drop 1 us)) (λ l. items ≡ l.value) → StringLiteral us items × (length items ≤ length us)
value_read (string.quoted {quote} {us} {value} q r) = λ items h.
    let is = read_is quote us value items (literal_reads r q) h in
    let len = value_len r in
    (subst (StringLiteral (quote ∷ us)) (sym is) (string.quoted q r), omega (arith, ap length is))

pub piece_read : {us w : List ℕ} → TemplatePiece us w → (items : List ℕ)
    → IfSome (literal (length (drop 1 us)) backquote (drop 1 us)) (λ l. items ≡ l.value) → TemplatePiece us items × (length items ≤ length us)
piece_read (begun {first} {us} {value} f r) = λ items h.
    let is = read_is backquote us value items (piece_reads r) h in
    let len = piece_len r in
    (subst (TemplatePiece (first ∷ us)) (sym is) (begun f r), omega (arith, ap length is))
