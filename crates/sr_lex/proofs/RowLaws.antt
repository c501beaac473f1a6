-- The token at the front is the longest.
use Rattle.std.proofs.Common.{◌≡◌, ℕ, zero, suc, ◌+◌, ◌≤◌, ◌<◌, Bool, true, false, ◌||◌, ◌&&◌, List, [], ◌∷◌, length, take, drop, refl, sym, ap, ◌∙◌, subst, arith, inl, inr}
use Rattle.std.specs.Prelude.{not, ◌==◌, if◌then◌else◌, Option, Some, None, option_map}
use Rattle.std.specs.List.{list_all}
use Rattle.std.proofs.lemmas.List.{take-append-drop, length-take-le, length-take}
use Rattle.sr_lex.specs.Units.{is_digit, is_name_start, is_name_part, begins_with}
use Rattle.sr_lex.specs.Strings.{is_quote, StringRest, StringLiteral, quoted}
use Rattle.sr_lex.specs.Templates.{backquote, right_brace, is_piece_start, PieceRest, TemplatePiece, begun}
use Rattle.sr_lex.specs.Numbers.{begins_with_name_part, may_end}
use Rattle.sr_lex.specs.Tokens.{is_name, is_punctuator, IsRow}
use Rattle.sr_lex.specs.Scan.{name_len, Literal, literal, literal_units, punctuator_len, number_value, is_safe_value, row_of, number_row, begins_piece, row}
use Rattle.sr_lex.specs.declared.token.TokenKind.{TokenKind}
use Rattle.sr_lex.specs.declared.token.TokenKind.TheVariants.{Name, Number, Text, Template, Punctuator}
use Rattle.sr_lex.specs.declared.rows.Row.{Row}
use Rattle.sr_lex.proofs.Truth.{or_true, or_false, or_left, and_true, and_in, same_number, not_true, both_ways}
use Rattle.sr_lex.proofs.Punctuators.{punctuator_within}
use Rattle.sr_lex.proofs.PunctuatorLaws.{punctuator_fits, punctuator_most, punctuator_apart, no_punctuator}
use Rattle.sr_lex.proofs.NumberLaws.{literal_begins, literal_parts, literal_safe, safe_literal, number_some}
use Rattle.sr_lex.proofs.StringsSound.{literal_says, piece_says}
use Rattle.sr_lex.proofs.StringsComplete.{Reads, literal_reads, piece_reads}

-- the first n units are a token of this kind
abbrev pub RowAt : Bool → List ℕ → TokenKind → ℕ → Type 0
RowAt inside us kind n = (n ≤ length us) × IsRow inside kind (take n us) (drop n us)

-- the token found is one, and no other is longer or of another kind
pub record IsTheRow (inside : Bool) (us : List ℕ) (r : Row) : Type 0 where
  pub some : 0 < r.units
  pub row : RowAt inside us r.kind r.units
  pub most : (kind : TokenKind) (n : ℕ) → RowAt inside us kind n → n ≤ r.units
  pub kind_is : (kind : TokenKind) (n : ℕ) → RowAt inside us kind n → kind ≡ r.kind

abbrev pub RowSays : Bool → List ℕ → Option Row → Type 0
RowSays inside us None = (kind : TokenKind) (n : ℕ) → ¬ RowAt inside us kind n
RowSays inside us (Some r) = IsTheRow inside us r

-- ---- what a row begins with

-- a literal is its quote and what follows
abbrev pub IsQuoted : List ℕ → List ℕ → Type 0
IsQuoted us value = (quote : ℕ) × (rest : List ℕ) × (us ≡ quote ∷ rest) × (is_quote quote ≡ true) × StringRest quote rest value

pub opened : {us value : List ℕ} → StringLiteral us value → IsQuoted us value
opened (quoted {quote} {us} {value} q r) = (quote, us, refl, q, r)

-- and a template piece its backquote or brace and what follows
abbrev pub IsBegun : List ℕ → List ℕ → Type 0
IsBegun us value = (first : ℕ) × (rest : List ℕ) × (us ≡ first ∷ rest) × (is_piece_start first ≡ true) × PieceRest rest value

pub started : {us value : List ℕ} → TemplatePiece us value → IsBegun us value
started (begun {first} {us} {value} f r) = (first, us, refl, f, r)

pub quote_front : (u quote : ℕ) (us rest : List ℕ) → u ∷ us ≡ quote ∷ rest → (u ≡ quote) × (us ≡ rest)
quote_front u quote us rest e = ((cc), (cc))

pub no_row : (inside : Bool) (kind : TokenKind) (after : List ℕ) → ¬ IsRow inside kind [] after
no_row inside Name after h = cc
no_row inside Number after h = let f = literal_begins h.0.1 in let e = f.2 in cc
no_row inside Text after h = let q = opened h.1 in let e = q.2 in cc
no_row inside Template after h = let q = started h.0.1 in let e = q.2 in cc
no_row inside Punctuator after h = both_ways (is_punctuator [] after) h.0 (no_punctuator after)

-- the kind of a row by its first unit
abbrev kind_of : Bool → ℕ → TokenKind
kind_of inside u =
    if is_name_start u then Name else (if is_quote u then Text else (if is_digit u then Number else (if begins_piece inside u then Template else Punctuator)))

apart : (u : ℕ) → is_quote u ≡ true → is_name_start u ≡ false
unfolding is_quote is_name_start
apart u h = elim (or_true (u == 0x22) (u == 0x27) h) [
  | inl e ↦ ap is_name_start (same_number u 0x22 e)
  | inr e ↦ ap is_name_start (same_number u 0x27 e)
]

pub digit_between : (u : ℕ) → is_digit u ≡ true → (0x30 ≤ u) × (u ≤ 0x39)
unfolding is_digit
digit_between u h = grind arith

digit_apart : (u : ℕ) → is_digit u ≡ true → (is_name_start u ≡ false) × (is_quote u ≡ false)
unfolding is_quote is_name_start
digit_apart u h = let b = digit_between u h in let low = b.0 in let high = b.1 in (grind arith, grind arith)

-- the units that begin a piece
abbrev IsApart : ℕ → Type 0
IsApart u = (is_name_start u ≡ false) × (is_quote u ≡ false) × (is_digit u ≡ false)

start_apart : (u : ℕ) → is_piece_start u ≡ true → IsApart u
unfolding is_piece_start is_name_start is_quote is_digit
start_apart u h = elim (or_true (u == backquote) (u == right_brace) h) [
  | inl e ↦ subst IsApart (sym (same_number u backquote e)) (refl, refl, refl)
  | inr e ↦ subst IsApart (sym (same_number u right_brace e)) (refl, refl, refl)
]

start_fits : (inside : Bool) (u : ℕ) → is_piece_start u ≡ true → (inside || not (u == right_brace)) ≡ true → begins_piece inside u ≡ true
unfolding is_piece_start begins_piece
start_fits true u h k = h
start_fits false u h k = elim (or_true (u == backquote) (u == right_brace) h) [
  | inl e ↦ or_left (u == backquote) false e
  | inr e ↦ absurd (both_ways (u == right_brace) e (not_true (u == right_brace) k))
]

begins_start : (inside : Bool) (u : ℕ) → begins_piece inside u ≡ true → (is_piece_start u ≡ true) × ((inside || not (u == right_brace)) ≡ true)
unfolding is_piece_start begins_piece
begins_start true u h = (h, refl)
begins_start false u h = elim (or_true (u == backquote) false h) [
  | inl e ↦ subst (λ (v : ℕ). ((v == backquote || v == right_brace) ≡ true) × (not (v == right_brace) ≡ true)) (sym (same_number u backquote e)) (refl, refl)
  | inr e ↦ cc
]

no_start : (inside : Bool) (u : ℕ) → (u == backquote) ≡ false → not (inside && u == right_brace) ≡ true → begins_piece inside u ≡ false
unfolding begins_piece
no_start inside u q h = rw (q, not_true (inside && u == right_brace) h) refl

no_brace : (inside : Bool) (u : ℕ) → begins_piece inside u ≡ false → not (inside && u == right_brace) ≡ true
unfolding begins_piece
no_brace inside u h = rw ((or_false (u == backquote) (inside && u == right_brace) h).1) refl

row_kind : (inside : Bool) (kind : TokenKind) (u : ℕ) (us after : List ℕ) → IsRow inside kind (u ∷ us) after → kind ≡ kind_of inside u
row_kind inside Name u us after h = rw ((and_true (is_name_start u) (list_all is_name_part us) h).0) refl
row_kind inside Number u us after h =
    let f = literal_begins h.0.1 in
    let e = quote_front u f.0 us f.1 f.2 in
    let d : is_digit u ≡ true = ap is_digit e.0 ∙ f.3 in
    let n = digit_apart u d in
    rw (n.0, n.1, d) refl
row_kind inside Text u us after h =
    let o = opened h.1 in
    let e = quote_front u o.0 us o.1 o.2 in
    let q : is_quote u ≡ true = ap is_quote e.0 ∙ o.3 in
    let n = apart u q in
    rw (n, q) refl
row_kind inside Template u us after h =
    let o = started h.0.1 in
    let e = quote_front u o.0 us o.1 o.2 in
    let q : is_piece_start u ≡ true = ap is_piece_start e.0 ∙ o.3 in
    let n = start_apart u q in
    let f = start_fits inside u q h.1 in
    rw (n.0, n.1, n.2, f) refl
row_kind inside Punctuator u us after h =
    let o = or_false (is_name_start u || is_quote u || is_digit u) (u == backquote) (punctuator_apart u us after h.0) in
    let p = or_false (is_name_start u || is_quote u) (is_digit u) o.0 in
    let q = or_false (is_name_start u) (is_quote u) p.0 in
    let f = no_start inside u o.1 h.1 in
    rw (q.0, q.1, p.1, f) refl

pub front_kind : (inside : Bool) (kind : TokenKind) (n u : ℕ) (us : List ℕ) → RowAt inside (u ∷ us) kind n → kind ≡ kind_of inside u
front_kind inside kind zero u us h = absurd (no_row inside kind (u ∷ us) h.1)
front_kind inside kind (suc n) u us h = row_kind inside kind u (take n us) (drop n us) h.1

-- ---- names

name_is : (us : List ℕ) → list_all is_name_part (take (name_len us) us) ≡ true
name_is [] = refl
name_is (u ∷ us) = go (is_name_part u) refl (name_is us)
  where
    go : (b : Bool) → is_name_part u ≡ b → list_all is_name_part (take (name_len us) us) ≡ true → list_all is_name_part (take (name_len (u ∷ us)) (u ∷ us)) ≡ true
    go true e ih = rw e (and_in (is_name_part u) (list_all is_name_part (take (name_len us) us)) e ih)
    go false e ih = rw e refl

name_most : (m : ℕ) (us : List ℕ) → m ≤ length us → list_all is_name_part (take m us) ≡ true → m ≤ name_len us
name_most zero us l h = omega arith
name_most (suc m) [] l h = absurd (omega arith)
name_most (suc m) (u ∷ us) l h =
    let p = and_true (is_name_part u) (list_all is_name_part (take m us)) h in
    let ih = name_most m us (omega arith) p.1 in
    let e : name_len (u ∷ us) ≡ suc (name_len us) = rw (p.0) refl in
    omega (arith, e)

name_within : (us : List ℕ) → name_len us ≤ length us
name_within [] = omega arith
name_within (u ∷ us) = go (is_name_part u) refl (name_within us)
  where
    go : (b : Bool) → is_name_part u ≡ b → name_len us ≤ length us → name_len (u ∷ us) ≤ suc (length us)
    go true e ih = rw e (omega arith)
    go false e ih = rw e (omega arith)

name_longest : (inside : Bool) (u : ℕ) (us : List ℕ) (kind : TokenKind) (n : ℕ) → kind ≡ Name → RowAt inside (u ∷ us) kind n → n ≤ name_len us + 1
name_longest inside u us kind zero e h = omega arith
name_longest inside u us kind (suc n) e h =
    let row : is_name (u ∷ take n us) ≡ true = subst (λ (k : TokenKind). IsRow inside k (u ∷ take n us) (drop n us)) e h.1 in
    let m = name_most n us (omega (arith, h.0)) (and_true (is_name_start u) (list_all is_name_part (take n us)) row).1 in
    omega arith

name_row : (inside : Bool) (u : ℕ) (us : List ℕ) → is_name_start u ≡ true → IsTheRow inside (u ∷ us) (row_of Name (name_len us + 1))
name_row inside u us s =
    let w = name_within us in
    let is : kind_of inside u ≡ Name = rw s refl in
    let z : name_len us + 1 ≡ suc (name_len us) = omega arith in
    record {
      some = omega arith;
      row = (omega arith, subst (λ (i : ℕ). is_name (take i (u ∷ us)) ≡ true) (sym z) (and_in (is_name_start u) (list_all is_name_part (take (name_len us) us)) s (name_is us)));
      most = λ kind n h. name_longest inside u us kind n (front_kind inside kind n u us h ∙ is) h;
      kind_is = λ kind n h. front_kind inside kind n u us h ∙ is;
    }

-- ---- numbers

-- units of names, and then none
names_end : (n : ℕ) (us : List ℕ) → n ≤ length us → list_all is_name_part (take n us) ≡ true → begins_with_name_part (drop n us) ≡ false → name_len us ≡ n
names_end zero [] l h s = refl
names_end zero (u ∷ us) l h s = rw s refl
names_end (suc n) [] l h s = absurd (omega arith)
names_end (suc n) (u ∷ us) l h s =
    let p = and_true (is_name_part u) (list_all is_name_part (take n us)) h in
    rw (p.0) (ap suc (names_end n us (omega arith) p.1 s))

names_stop : (us : List ℕ) → begins_with_name_part (drop (name_len us) us) ≡ false
names_stop [] = refl
names_stop (u ∷ us) = go (is_name_part u) refl (names_stop us)
  where
    go : (b : Bool) → is_name_part u ≡ b → begins_with_name_part (drop (name_len us) us) ≡ false → begins_with_name_part (drop (name_len (u ∷ us)) (u ∷ us)) ≡ false
    go true e ih = rw e ih
    go false e ih = rw e e

ends_names : (us after : List ℕ) → may_end us after ≡ true → begins_with_name_part after ≡ false
unfolding may_end
ends_names us after h = not_true (begins_with_name_part after) (and_true (not (begins_with_name_part after)) _ h).0

-- a number ends where the units of names do
number_ends : (inside : Bool) (us : List ℕ) (kind : TokenKind) (n : ℕ) → kind ≡ Number → RowAt inside us kind n
    → (name_len us ≡ n) × ((is_safe_value (number_value (take (name_len us) us)) && may_end (take (name_len us) us) (drop (name_len us) us)) ≡ true)
number_ends inside us kind n e h =
    let row : IsRow inside Number (take n us) (drop n us) = subst (λ (k : TokenKind). IsRow inside k (take n us) (drop n us)) e h.1 in
    let is = names_end n us h.0 (literal_parts row.0.1) (ends_names (take n us) (drop n us) row.1) in
    let fits = and_in (is_safe_value (number_value (take n us))) (may_end (take n us) (drop n us)) (literal_safe (take n us) row.0.0 row.0.1) row.1 in
    (is, subst (λ (i : ℕ). (is_safe_value (number_value (take i us)) && may_end (take i us) (drop i us)) ≡ true) (sym is) fits)

number_found : (inside : Bool) (u : ℕ) (us : List ℕ) → is_digit u ≡ true → RowSays inside (u ∷ us) (number_row (u ∷ us))
unfolding number_row
number_found inside u us d = go (is_safe_value (number_value (take (name_len (u ∷ us)) (u ∷ us))) && may_end (take (name_len (u ∷ us)) (u ∷ us)) (drop (name_len (u ∷ us)) (u ∷ us))) refl
  where
    is : kind_of inside u ≡ Number
    is = let n = digit_apart u d in rw (n.0, n.1, d) refl

    go : (b : Bool) → (is_safe_value (number_value (take (name_len (u ∷ us)) (u ∷ us))) && may_end (take (name_len (u ∷ us)) (u ∷ us)) (drop (name_len (u ∷ us)) (u ∷ us))) ≡ b
        → RowSays inside (u ∷ us) (if b then Some (row_of Number (name_len (u ∷ us))) else None)
    go true e =
        let p = and_true (is_safe_value (number_value (take (name_len (u ∷ us)) (u ∷ us)))) (may_end (take (name_len (u ∷ us)) (u ∷ us)) (drop (name_len (u ∷ us)) (u ∷ us))) e in
        record {
          some = number_some (name_len (u ∷ us)) (u ∷ us) p.0;
          row = (name_within (u ∷ us), (safe_literal (take (name_len (u ∷ us)) (u ∷ us)) p.0, p.1));
          most = λ kind n h. let f = number_ends inside (u ∷ us) kind n (front_kind inside kind n u us h ∙ is) h in let same = f.0 in omega arith;
          kind_is = λ kind n h. front_kind inside kind n u us h ∙ is;
        }
    go false e = λ kind n h. both_ways _ (number_ends inside (u ∷ us) kind n (front_kind inside kind n u us h ∙ is) h).1 e

-- ---- string literals and template pieces

-- a literal of k units
abbrev found : ℕ → List ℕ → Option Literal
found k value = Some (record { units = k; value = value })

front_is : (quote k : ℕ) (us value : List ℕ) → k ≤ length us → Reads quote (take k us) value → literal (length us) quote us ≡ found k value
front_is quote k us value l r =
    let len : length (take k us) ≡ k = length-take-le k us l in
    ap (literal (length us) quote) (sym (take-append-drop k us)) ∙ r (length us) (drop k us) (omega arith) ∙ ap (λ (i : ℕ). found i value) len

some_units : (k : ℕ) (value : List ℕ) (l : Literal) → found k value ≡ Some l → k ≡ l.units
some_units k value l h = cc

literal_within : (quote : ℕ) (us : List ℕ) (l : Literal) → Reads quote (take l.units us) l.value → literal (length us) quote us ≡ Some l → l.units ≤ length us
literal_within quote us l r e =
    let few : length (take l.units us) ≤ length us = grind (arith, length-take) in
    let both : Some l ≡ found (length (take l.units us)) l.value =
    sym e ∙ ap (literal (length us) quote) (sym (take-append-drop l.units us)) ∙ r (length us) (drop l.units us) few in
    let same : length (take l.units us) ≡ l.units = some_units (length (take l.units us)) l.value l (sym both) in
    omega arith

-- a row of this kind is read between these quotes
abbrev IsReadAt : ℕ → List ℕ → ℕ → Type 0
IsReadAt quote us n = (k : ℕ) × (value : List ℕ) × (n ≡ suc k) × (literal (length us) quote us ≡ found k value)

literal_row : (inside : Bool) (kind : TokenKind) (quote u : ℕ) (us : List ℕ) → kind_of inside u ≡ kind
    → ((l : Literal) → literal (length us) quote us ≡ Some l → IsRow inside kind (u ∷ take l.units us) (drop l.units us) × Reads quote (take l.units us) l.value)
    → ((other : TokenKind) (n : ℕ) → other ≡ kind → RowAt inside (u ∷ us) other n → IsReadAt quote us n)
    → RowSays inside (u ∷ us) (option_map (λ len. row_of kind (len + 1)) (literal_units quote us))
literal_row inside kind quote u us is says reads = go (literal (length us) quote us) refl
  where
    go : (o : Option Literal) → literal (length us) quote us ≡ o → RowSays inside (u ∷ us) (option_map (λ len. row_of kind (len + 1)) (option_map (λ l. l.units) o))
    go None e = λ other n h. let f = reads other n (front_kind inside other n u us h ∙ is) h in let k = sym e ∙ f.3 in cc
    go (Some l) e =
        let s = says l e in
        let w = literal_within quote us l s.1 e in
        let z : l.units + 1 ≡ suc l.units = omega arith in
        record {
          some = omega arith;
          row = (omega arith, subst (λ (i : ℕ). IsRow inside kind (take i (u ∷ us)) (drop i (u ∷ us))) (sym z) s.0);
          most = λ other n h.
              let f = reads other n (front_kind inside other n u us h ∙ is) h in
              let same = some_units f.0 f.1 l (sym f.3 ∙ e) in
              let next = f.2 in omega arith;
          kind_is = λ other n h. front_kind inside other n u us h ∙ is;
        }

text_is : (u k : ℕ) (us value : List ℕ) → k ≤ length us → StringLiteral (u ∷ take k us) value → literal (length us) u us ≡ found k value
text_is u k us value l s =
    let o = opened s in
    let e = quote_front u o.0 (take k us) o.1 o.2 in
    let rest : StringRest u (take k us) value =
    subst (λ (q : ℕ). StringRest q (take k us) value) (sym e.0) (subst (λ (xs : List ℕ). StringRest o.0 xs value) (sym e.1) o.4) in
    front_is u k us value l (literal_reads rest (ap is_quote e.0 ∙ o.3))

text_found : (inside : Bool) (u : ℕ) (us : List ℕ) (kind : TokenKind) (n : ℕ) → kind ≡ Text → RowAt inside (u ∷ us) kind n → IsReadAt u us n
text_found inside u us kind zero e h = absurd (no_row inside kind (u ∷ us) h.1)
text_found inside u us kind (suc k) e h =
    let row : IsRow inside Text (u ∷ take k us) (drop k us) = subst (λ (x : TokenKind). IsRow inside x (u ∷ take k us) (drop k us)) e h.1 in
    (k, row.0, refl, text_is u k us row.0 (omega (arith, h.0)) row.1)

text_row : (inside : Bool) (u : ℕ) (us : List ℕ) → is_quote u ≡ true → RowSays inside (u ∷ us) (option_map (λ len. row_of Text (len + 1)) (literal_units u us))
text_row inside u us q =
    let n = apart u q in
    literal_row inside Text u u us (rw (n, q) refl)
    (λ l e. let s = literal_says (length us) u us l q e in ((l.value, quoted q s), literal_reads s q))
    (text_found inside u us)

piece_is : (u k : ℕ) (us value : List ℕ) → k ≤ length us → TemplatePiece (u ∷ take k us) value → literal (length us) backquote us ≡ found k value
piece_is u k us value l s =
    let o = started s in
    let e = quote_front u o.0 (take k us) o.1 o.2 in
    front_is backquote k us value l (piece_reads (subst (λ (xs : List ℕ). PieceRest xs value) (sym e.1) o.4))

piece_found : (inside : Bool) (u : ℕ) (us : List ℕ) (kind : TokenKind) (n : ℕ) → kind ≡ Template → RowAt inside (u ∷ us) kind n → IsReadAt backquote us n
piece_found inside u us kind zero e h = absurd (no_row inside kind (u ∷ us) h.1)
piece_found inside u us kind (suc k) e h =
    let row : IsRow inside Template (u ∷ take k us) (drop k us) = subst (λ (x : TokenKind). IsRow inside x (u ∷ take k us) (drop k us)) e h.1 in
    (k, row.0.0, refl, piece_is u k us row.0.0 (omega (arith, h.0)) row.0.1)

piece_row : (inside : Bool) (u : ℕ) (us : List ℕ) → is_name_start u ≡ false → is_quote u ≡ false → is_digit u ≡ false → begins_piece inside u ≡ true
    → RowSays inside (u ∷ us) (option_map (λ len. row_of Template (len + 1)) (literal_units backquote us))
piece_row inside u us s q d b =
    let f = begins_start inside u b in
    literal_row inside Template backquote u us (rw (s, q, d, b) refl)
    (λ l e. let r = piece_says (length us) us l e in (((l.value, begun f.0 r), f.1), piece_reads r))
    (piece_found inside u us)

-- ---- punctuators

positive : (n : ℕ) → (n == 0) ≡ false → 0 < n
positive n h = grind arith

is_zero : (n : ℕ) → (n == 0) ≡ true → n ≡ 0
is_zero n h = same_number n 0 h

found_most : (inside : Bool) (u : ℕ) (us : List ℕ) (kind : TokenKind) (n : ℕ) → kind ≡ Punctuator → RowAt inside (u ∷ us) kind n → n ≤ punctuator_len (u ∷ us)
found_most inside u us kind n e h =
    let row : IsRow inside Punctuator (take n (u ∷ us)) (drop n (u ∷ us)) = subst (λ (x : TokenKind). IsRow inside x (take n (u ∷ us)) (drop n (u ∷ us))) e h.1 in
    punctuator_most (u ∷ us) n h.0 row.0

some_row : (inside : Bool) (u : ℕ) (us : List ℕ) (kind : TokenKind) (n : ℕ) → RowAt inside (u ∷ us) kind n → 0 < n
some_row inside u us kind zero h = absurd (no_row inside kind (u ∷ us) h.1)
some_row inside u us kind (suc n) h = omega arith

brace_front : (inside : Bool) (u n : ℕ) (us : List ℕ) → begins_piece inside u ≡ false → 0 < n → not (inside && begins_with right_brace (take n (u ∷ us))) ≡ true
brace_front inside u zero us b h = absurd (omega arith)
brace_front inside u (suc n) us b h = no_brace inside u b

punctuator_row : (inside : Bool) (u : ℕ) (us : List ℕ) → is_name_start u ≡ false → is_quote u ≡ false → is_digit u ≡ false → begins_piece inside u ≡ false
    → RowSays inside (u ∷ us) (let n = punctuator_len (u ∷ us) in if n == 0 then None else Some (row_of Punctuator n))
punctuator_row inside u us s q d b = go (punctuator_len (u ∷ us) == 0) refl
  where
    is : kind_of inside u ≡ Punctuator
    is = rw (s, q, d, b) refl

    go : (z : Bool) → (punctuator_len (u ∷ us) == 0) ≡ z → RowSays inside (u ∷ us) (if z then None else Some (row_of Punctuator (punctuator_len (u ∷ us))))
    go true e = λ kind n h.
        let most = found_most inside u us kind n (front_kind inside kind n u us h ∙ is) h in
        let more = some_row inside u us kind n h in
        let none = is_zero (punctuator_len (u ∷ us)) e in
        absurd (omega arith)
    go false e =
        let some = positive (punctuator_len (u ∷ us)) e in
        record {
          some = some;
          row = (punctuator_within (u ∷ us), (punctuator_fits (u ∷ us) (λ z. absurd (omega arith)), brace_front inside u (punctuator_len (u ∷ us)) us b some));
          most = λ kind n h. found_most inside u us kind n (front_kind inside kind n u us h ∙ is) h;
          kind_is = λ kind n h. front_kind inside kind n u us h ∙ is;
        }

none_empty : (inside : Bool) (kind : TokenKind) (n : ℕ) → ¬ RowAt inside [] kind n
none_empty inside kind zero h = no_row inside kind [] h.1
none_empty inside kind (suc n) h = absurd (omega (arith, h.0))

pub row_says : (inside : Bool) (us : List ℕ) → RowSays inside us (row inside us)
unfolding row
row_says inside [] = none_empty inside
row_says inside (u ∷ us) = go (is_name_start u) (is_quote u) (is_digit u) (begins_piece inside u) refl refl refl refl
  where
    go : (s q d b : Bool) → is_name_start u ≡ s → is_quote u ≡ q → is_digit u ≡ d → begins_piece inside u ≡ b
        → RowSays inside (u ∷ us) (if s then Some (row_of Name (name_len us + 1)) else (if q then option_map (λ len. row_of Text (len + 1)) (literal_units u us)
        else (if d then number_row (u ∷ us) else (if b then option_map (λ len. row_of Template (len + 1)) (literal_units backquote us)
        else (let n = punctuator_len (u ∷ us) in if n == 0 then None else Some (row_of Punctuator n))))))
    go true q d b se qe de be = name_row inside u us se
    go false true d b se qe de be = text_row inside u us qe
    go false false true b se qe de be = number_found inside u us de
    go false false false true se qe de be = piece_row inside u us se qe de be
    go false false false false se qe de be = punctuator_row inside u us se qe de be
