-- The tokens of a text: the function that finds them, and the relation.
use Rattle.std.proofs.Common.{◌≡◌, ℕ, zero, suc, ◌+◌, ◌-◌, ◌≤◌, ◌<◌, ◌≢◌, Bool, true, false, ◌||◌, List, [], ◌∷◌, length, take, drop, refl, sym, ap, ◌∙◌, subst, arith, ◌⊎◌, inl, inr}
use Rattle.std.specs.Prelude.{Option, Some, None, IsTrue, MatchOption, ⊤, slice_get, slice_range, slice_index_or, ◌==◌, nat_le}
use Rattle.std.specs.List.{list_all}
use Rattle.std.proofs.lemmas.List.{drop-drop, length-drop}
use Rattle.std.proofs.lemmas.Option.{slice_get_within, slice_get_past}
use Rattle.sr_lex.specs.Units.{is_between, is_line_end, is_white_space, is_digit, is_name_start, is_name_part}
use Rattle.sr_lex.specs.Strings.{is_quote}
use Rattle.sr_lex.specs.Tokens.{Comment, single_line, multi_line, hashbang, IsFirst, LineEnds, Gap, none, white_space, line_end, comment, NoComment, IsRow, HasRow, IsLongest, Spans, last, next, Fails, here, later, Tokens, FailsAfter, FailsAt, IsTokenOf, token_units}
use Rattle.sr_lex.specs.Brackets.{in_substitution, brackets_after}
use Rattle.sr_lex.specs.Templates.{backquote, right_brace, is_piece_start}
use Rattle.sr_lex.specs.Scan.{line_len, piece, row, token_of, Run, with_front, lexed}
use Rattle.sr_lex.specs.Laws.{OneReading, OneFailure, OneFront, TokensOrFailure, EachTextIsRead}
use Rattle.sr_lex.specs.declared.token.Token.{Token}
use Rattle.sr_lex.specs.declared.token.TokenKind.{TokenKind}
use Rattle.sr_lex.specs.declared.token.TokenKind.TheVariants.{Name, Number, Text, Template, Punctuator}
use Rattle.sr_lex.specs.declared.brackets.Bracket.{Bracket}
use Rattle.sr_lex.specs.declared.gaps.Blank.{Blank}
use Rattle.sr_lex.specs.declared.rows.Row.{Row}
use Rattle.sr_lex.proofs.Truth.{or_true, or_false, and_true, same_number, both_ways}
use Rattle.sr_lex.proofs.Places.{get_front, drop_front, range_is}
use Rattle.sr_lex.proofs.Pieces.{IsInk, piece_says, piece_gap}
use Rattle.sr_lex.proofs.GapLaws.{gap_at, piece_at, gap_holds, gap_ends, gap_is, no_comment, start, number, no_piece}
use Rattle.sr_lex.proofs.PunctuatorLaws.{punctuator_ink}
use Rattle.sr_lex.proofs.NumberLaws.{literal_begins}
use Rattle.sr_lex.proofs.RowLaws.{RowAt, IsTheRow, RowSays, row_says, digit_between, opened, started, quote_front, no_row}
use Rattle.sr_lex.proofs.TextSteps.{ends, fails, goes}

-- ---- rows at places

pub has_row_at : (inside : Bool) (text : List ℕ) (kind : TokenKind) (from to : ℕ) → HasRow inside text kind from to → (from < to) × RowAt inside (drop from text) kind (to - from)
has_row_at inside text kind from to h = elim (before from to) [
  | inl less ↦
      let z : from + (to - from) ≡ to = omega arith in
      let rest : drop to text ≡ drop (to - from) (drop from text) = sym (drop-drop (to - from) from text ∙ ap (λ (i : ℕ). drop i text) z) in
      (less, (omega (arith, length-drop from text, h.0), subst (IsRow inside kind (take (to - from) (drop from text))) rest h.1))
  | inr more ↦
      let z : to - from ≡ 0 = omega arith in
      absurd (no_row inside kind (drop to text) (subst (λ (i : ℕ). IsRow inside kind (take i (drop from text)) (drop to text)) z h.1))
]
  where
    before : (a b : ℕ) → (a < b) ⊎ (b ≤ a)
    before a b = grind arith

pub at_has_row : (inside : Bool) (text : List ℕ) (kind : TokenKind) (from n : ℕ) → 0 < n → RowAt inside (drop from text) kind n → HasRow inside text kind from (from + n)
at_has_row inside text kind from n some h = (
  omega (arith, length-drop from text, h.0),
  subst (λ (us : List ℕ). IsRow inside kind us (drop (from + n) text)) (sym (range_is text from n))
      (subst (IsRow inside kind (take n (drop from text))) (drop-drop n from text) h.1),
)

-- the row found is the longest
row_longest : (inside : Bool) (text : List ℕ) (from : ℕ) (r : Row) → IsTheRow inside (drop from text) r → IsLongest inside text r.kind from (from + r.units)
row_longest inside text from r h = record {
  row = at_has_row inside text r.kind from r.units h.some h.row;
  longest = λ other end k. let a = has_row_at inside text other from end k in let m = h.most other (end - from) a.1 in omega (arith, a.0);
}

abbrev IsFound : Bool → List ℕ → TokenKind → ℕ → ℕ → Type 0
IsFound inside text kind from to = (r : Row) × (row inside (drop from text) ≡ Some r) × (kind ≡ r.kind) × (to ≡ from + r.units)

-- and the longest row is found
row_found : (inside : Bool) (text : List ℕ) (kind : TokenKind) (from to : ℕ) → IsLongest inside text kind from to → IsFound inside text kind from to
row_found inside text kind from to l = go (row inside (drop from text)) refl (row_says inside (drop from text))
  where
    go : (o : Option Row) → row inside (drop from text) ≡ o → RowSays inside (drop from text) o → IsFound inside text kind from to
    go None e says = absurd (says kind (to - from) (has_row_at inside text kind from to l.row).1)
    go (Some r) e says =
        let a = has_row_at inside text kind from to l.row in
        let m = says.most kind (to - from) a.1 in
        let k = l.longest r.kind (from + r.units) (at_has_row inside text r.kind from r.units says.some says.row) in
        (r, e, says.kind_is kind (to - from) a.1, omega (arith, a.0))

-- no row begins with white space or a line end
above : (u n : ℕ) → n < u → (u == n) ≡ false
above u n h = grind arith

below : (u n : ℕ) → u < n → (u == n) ≡ false
below u n h = grind arith

short_of : (u n : ℕ) → u < n → nat_le n u ≡ false
short_of u n h = grind arith

at_least : (u n : ℕ) → nat_le n u ≡ true → n ≤ u
at_least u n h = grind arith

name_range : (u : ℕ) → is_name_start u ≡ true → (0x24 ≤ u) × (u ≤ 0x7A)
unfolding is_name_start
name_range u h = elim (or_true (is_between 0x41 0x5A u || is_between 0x61 0x7A u || u == 0x5F) (u == 0x24) h) [
  | inr e ↦ let k = same_number u 0x24 e in (omega arith, omega arith)
  | inl h ↦ elim (or_true (is_between 0x41 0x5A u || is_between 0x61 0x7A u) (u == 0x5F) h) [
    | inr e ↦ let k = same_number u 0x5F e in (omega arith, omega arith)
    | inl h ↦ elim (or_true (is_between 0x41 0x5A u) (is_between 0x61 0x7A u) h) [
      | inr e ↦
          let p = and_true (nat_le 0x61 u) (nat_le u 0x7A) e in
          let a = at_least u 0x61 p.0 in
          let b = at_least 0x7A u p.1 in (omega arith, omega arith)
      | inl e ↦
          let p = and_true (nat_le 0x41 u) (nat_le u 0x5A) e in
          let a = at_least u 0x41 p.0 in
          let b = at_least 0x5A u p.1 in (omega arith, omega arith)
    ]
  ]
]

plain_ink : (u : ℕ) → 0x24 ≤ u → u ≤ 0x7D → IsInk u
unfolding is_white_space is_line_end
plain_ink u a b = (
  rw (
    above u 0x09 (omega arith),
    above u 0x0B (omega arith),
    above u 0x0C (omega arith),
    above u 0x20 (omega arith),
    below u 0xA0 (omega arith),
    below u 0x1680 (omega arith),
    short_of u 0x2000 (omega arith),
    below u 0x202F (omega arith),
    below u 0x205F (omega arith),
    below u 0x3000 (omega arith),
    below u 0xFEFF (omega arith),
  ) refl,
  rw (above u 0x0A (omega arith), above u 0x0D (omega arith), below u 0x2028 (omega arith), below u 0x2029 (omega arith)) refl,
)

name_ink : (u : ℕ) → is_name_start u ≡ true → IsInk u
name_ink u h = let r = name_range u h in let b = r.1 in plain_ink u r.0 (omega arith)

digit_ink : (u : ℕ) → is_digit u ≡ true → IsInk u
digit_ink u h = let r = digit_between u h in let a = r.0 in let b = r.1 in plain_ink u (omega arith) (omega arith)

quote_ink : (u : ℕ) → is_quote u ≡ true → IsInk u
unfolding is_quote is_white_space is_line_end
quote_ink u h = elim (or_true (u == 0x22) (u == 0x27) h) [
  | inl e ↦ subst (λ (v : ℕ). (is_white_space v ≡ false) × (is_line_end v ≡ false)) (sym (same_number u 0x22 e)) (refl, refl)
  | inr e ↦ subst (λ (v : ℕ). (is_white_space v ≡ false) × (is_line_end v ≡ false)) (sym (same_number u 0x27 e)) (refl, refl)
]

start_ink : (u : ℕ) → is_piece_start u ≡ true → IsInk u
unfolding is_piece_start
start_ink u h = elim (or_true (u == backquote) (u == right_brace) h) [
  | inl e ↦ let k = same_number u backquote e in plain_ink u (omega arith) (omega arith)
  | inr e ↦ let k = same_number u right_brace e in plain_ink u (omega arith) (omega arith)
]

row_ink : (inside : Bool) (kind : TokenKind) (u : ℕ) (us after : List ℕ) → IsRow inside kind (u ∷ us) after → IsInk u
row_ink inside Name u us after h = name_ink u (and_true (is_name_start u) (list_all is_name_part us) h).0
row_ink inside Number u us after h =
    let f = literal_begins h.0.1 in
    let e = quote_front u f.0 us f.1 f.2 in
    digit_ink u (ap is_digit e.0 ∙ f.3)
row_ink inside Text u us after h =
    let o = opened h.1 in
    let e = quote_front u o.0 us o.1 o.2 in
    quote_ink u (ap is_quote e.0 ∙ o.3)
row_ink inside Template u us after h =
    let o = started h.0.1 in
    let e = quote_front u o.0 us o.1 o.2 in
    start_ink u (ap is_piece_start e.0 ∙ o.3)
row_ink inside Punctuator u us after h = or_false (is_white_space u) (is_line_end u) (punctuator_ink u us after h.0)

at_ink : (inside : Bool) (kind : TokenKind) (n u : ℕ) (us : List ℕ) → RowAt inside (u ∷ us) kind n → IsInk u
at_ink inside kind zero u us h = absurd (no_row inside kind (u ∷ us) h.1)
at_ink inside kind (suc n) u us h = row_ink inside kind u (take n us) (drop n us) h.1

-- the first unit of a row at a place
has_ink : (inside : Bool) (text : List ℕ) (kind : TokenKind) (from to u : ℕ) → HasRow inside text kind from to → slice_get text from ≡ Some u → IsInk u
has_ink inside text kind from to u h e =
    let a = has_row_at inside text kind from to h in
    at_ink inside kind (to - from) u (drop (from + 1) text) (subst (λ (us : List ℕ). RowAt inside us kind (to - from)) (drop_front text from u e) a.1)

-- ---- where no gap goes on

-- what a gap that goes on begins with
abbrev Begins : List ℕ → ℕ → Type 0
Begins text at = ((u : ℕ) × (slice_get text at ≡ Some u) × ((is_white_space u ≡ true) ⊎ (is_line_end u ≡ true))) ⊎ ((to : ℕ) × Comment text at to)

gap_begins : {text : List ℕ} {at to : ℕ} {line : Bool} → Gap text at to line → (at ≡ to) ⊎ Begins text at
gap_begins (none {text} {at}) = inl refl
gap_begins (white_space {text} {at} {to} {u} {line} e w g) = inr (inl (u, e, inl w))
gap_begins (line_end {text} {at} {to} {u} {line} e w g) = inr (inl (u, e, inr w))
gap_begins (comment {text} {at} {next} {to} {line} c g) = inr (inr (next, c))

-- where no comment begins and no white space and no line end stands, nothing is found
quiet : (text : List ℕ) (at : ℕ) → NoComment text at → ((u : ℕ) → slice_get text at ≡ Some u → IsInk u) → (piece_at text at).units ≡ 0
quiet text at n ink = elim (number (piece_at text at).units) [
  | inl z ↦ z
  | inr e ↦
      let b = piece_at text at in
      let some : b.units ≢ 0 = λ z. absurd (omega (arith, e.1)) in
      let g = piece_gap text at (drop at text) (at == 0) refl (start at) some (at + b.units) false none in
      elim (gap_begins g) [
        | inl same ↦ absurd (omega (arith, e.1))
        | inr begins ↦ elim begins [
          | inl w ↦ let i = ink w.0 w.1 in elim w.2 [ inl h ↦ absurd (both_ways (is_white_space w.0) h i.0) | inr h ↦ absurd (both_ways (is_line_end w.0) h i.1) ]
          | inr c ↦ absurd (n c.0 c.1)
        ]
      ]
]

one_unit : (n : ℕ) → n ≡ 1 → n ≡ 0 → ⊥
one_unit n a b = omega arith

-- and where nothing is found, none stands
quiet_ink : (text : List ℕ) (at u : ℕ) (us : List ℕ) → drop at text ≡ u ∷ us → (piece_at text at).units ≡ 0 → IsInk u
quiet_ink text at u us e z =
    let units : (piece (at == 0) (u ∷ us)).units ≡ 0 = ap (λ (xs : List ℕ). (piece (at == 0) xs).units) (sym e) ∙ z in
    elim (piece_says (at == 0) u us) [
      | inl w ↦ absurd (one_unit (piece (at == 0) (u ∷ us)).units (ap (λ (b : Blank). b.units) w.1) units)
      | inr q ↦ elim q [
        | inl l ↦ absurd (one_unit (piece (at == 0) (u ∷ us)).units (ap (λ (b : Blank). b.units) l.1) units)
        | inr q ↦ elim q [
          | inl s ↦ s.0
          | inr q ↦ elim q [ inl h ↦ h.0 | inr o ↦ o.0 ]
        ]
      ]
    ]

-- ---- a gap lies within the text

line_within : (us : List ℕ) → line_len us ≤ length us
line_within [] = omega arith
line_within (u ∷ us) = go (is_line_end u) refl (line_within us)
  where
    go : (b : Bool) → is_line_end u ≡ b → line_len us ≤ length us → line_len (u ∷ us) ≤ suc (length us)
    go true e ih = rw e (omega arith)
    go false e ih = rw e (omega arith)

two_at_least : (c d : ℕ) (us : List ℕ) → take 2 us ≡ c ∷ d ∷ [] → 2 ≤ length us
two_at_least c d [] e = cc
two_at_least c d (u ∷ []) e = cc
two_at_least c d (u ∷ v ∷ us) e = omega arith

-- a line ends where the text does
line_end_within : (text : List ℕ) (from to : ℕ) → from ≤ length text → IsFirst (LineEnds text) from to → to ≤ length text
line_end_within text from to a f = elim (order to (length text)) [
  | inl l ↦ l
  | inr more ↦
      let end : LineEnds text (length text) =
      subst (λ (o : Option ℕ). MatchOption o ⊤ (λ u. IsTrue (is_line_end u))) (sym (slice_get_past text (length text) (omega arith))) tt in
      absurd (f.earlier (length text) a more end)
]
  where
    order : (a b : ℕ) → (a ≤ b) ⊎ (b < a)
    order a b = grind arith

comment_within : {text : List ℕ} {at to : ℕ} → Comment text at to → to ≤ length text
comment_within (single_line {text} {from} {to} s f) =
    line_end_within text (from + 2) to (let two = two_at_least 0x2F 0x2F (drop from text) s in omega (arith, length-drop from text)) f
comment_within (multi_line {text} {from} {close} s f) =
    let two = two_at_least 0x2A 0x2F (drop close text) f.holds in omega (arith, length-drop close text)
comment_within (hashbang {text} {to} s f) = line_end_within text 2 to (two_at_least 0x23 0x21 text s) f

pub gap_within : {text : List ℕ} {at to : ℕ} {line : Bool} → Gap text at to line → at ≤ length text → to ≤ length text
gap_within (none {text} {at}) = λ l. l
gap_within (white_space {text} {at} {to} {u} {line} e w g) = λ l. gap_within g (let k = slice_get_within text at u e in omega arith)
gap_within (line_end {text} {at} {to} {u} {line} e w g) = λ l. gap_within g (let k = slice_get_within text at u e in omega arith)
gap_within (comment {text} {at} {next} {to} {line} c g) = λ l. gap_within g (comment_within c)

-- ---- what is found, the relation has

abbrev pub HoldsTo : List ℕ → ℕ → List Bracket → List Token → Option ℕ → Type 0
HoldsTo text at bs ts None = Spans text at bs ts
HoldsTo text at bs ts (Some p) = Fails text at bs ts p

abbrev pub Holds : List ℕ → ℕ → List Bracket → Run → Type 0
Holds text at bs r = HoldsTo text at bs r.0 r.1

-- the brackets after a token of the text
abbrev after_token : List ℕ → List Bracket → Token → List Bracket
after_token text bs t = brackets_after bs t.kind (token_units text t)

-- and those after so many units of it
units_are : (text : List ℕ) (t : Token) (n : ℕ) → t.to ≡ t.from + n → token_units text t ≡ take n (drop t.from text)
units_are text t n e = ap (slice_range text t.from) e ∙ range_is text t.from n

front_holds : (text : List ℕ) (at : ℕ) (bs : List Bracket) (t : Token) (ts : List Token) (o : Option ℕ) → Gap text at t.from t.line_before → NoComment text t.from
    → IsLongest (in_substitution bs) text t.kind t.from t.to → HoldsTo text t.to (after_token text bs t) ts o → HoldsTo text at bs (t ∷ ts) o
front_holds text at bs t ts None g n l h = next g n l h
front_holds text at bs t ts (Some p) g n l h = later g n l h

past_end : (text : List ℕ) (at : ℕ) → at ≤ length text → length (drop at text) ≤ 0 → at ≡ length text
past_end text at a l = omega (arith, length-drop at text)

first_unit : (us : List ℕ) → length us ≢ 0 → (u : ℕ) × (us ≡ u ∷ drop 1 us)
first_unit [] n = absurd (n refl)
first_unit (u ∷ us) n = (u, refl)

empty_or : (n : ℕ) → (n ≡ 0) ⊎ (n ≢ 0)
empty_or zero = inl refl
empty_or (suc n) = inr (λ e. absurd (omega arith))

no_row_at : (inside : Bool) (text : List ℕ) (at : ℕ) → row inside (drop at text) ≡ None → (kind : TokenKind) (to : ℕ) → ¬ HasRow inside text kind at to
no_row_at inside text at e kind to h = subst (RowSays inside (drop at text)) e (row_says inside (drop at text)) kind (to - at) (has_row_at inside text kind at to h).1

some_row_at : (inside : Bool) (text : List ℕ) (at : ℕ) (r : Row) → row inside (drop at text) ≡ Some r → IsTheRow inside (drop at text) r
some_row_at inside text at r e = subst (RowSays inside (drop at text)) e (row_says inside (drop at text))

-- one turn, from what the next gives
turn_holds : (m : ℕ) (text : List ℕ) (at : ℕ) (bs : List Bracket) → at ≤ length text → length (drop at text) ≤ suc m
    → ((after : ℕ) (cs : List Bracket) → after ≤ length text → length (drop after text) ≤ m → Holds text after cs (lexed m after cs (drop after text)))
    → Holds text at bs (lexed (suc m) at bs (drop at text))
turn_holds m text at bs a l again =
    go (empty_or (length (drop (gap_at (length (drop at text)) text at).units (drop at text))))
    (row (in_substitution bs) (drop (at + (gap_at (length (drop at text)) text at).units) text)) refl
  where
    go : (length (drop (gap_at (length (drop at text)) text at).units (drop at text)) ≡ 0) ⊎ (length (drop (gap_at (length (drop at text)) text at).units (drop at text)) ≢ 0)
        → (o : Option Row) → row (in_substitution bs) (drop (at + (gap_at (length (drop at text)) text at).units) text) ≡ o → Holds text at bs (lexed (suc m) at bs (drop at text))
    go (inl h) o r =
        let us = drop at text in
        let g = gap_at (length us) text at in
        let found = gap_holds (length us) text at in
        let within = gap_within found a in
        let place : at + g.units ≡ length text = omega (arith, h, length-drop g.units us, length-drop at text) in
        subst (Holds text at bs) (sym (ends m at bs us g refl h)) (last (subst (λ (i : ℕ). Gap text at i g.line) place found))
    go (inr h) None r =
        let us = drop at text in
        let g = gap_at (length us) text at in
        let place = at + g.units in
        let found = gap_holds (length us) text at in
        let there : drop g.units us ≡ drop place text = drop-drop g.units at text in
        let u = first_unit (drop g.units us) h in
        let front : drop place text ≡ u.0 ∷ drop 1 (drop g.units us) = sym there ∙ u.1 in
        let none_there = gap_ends (length us) text at (omega arith) in
        let ink = quiet_ink text place u.0 (drop 1 (drop g.units us)) front none_there in
        subst (Holds text at bs) (sym (fails m at bs us g refl h (ap (row (in_substitution bs)) there ∙ r)))
        (here found (no_comment text place none_there) (get_front text place u.0 (drop 1 (drop g.units us)) front) ink.0 ink.1 (no_row_at (in_substitution bs) text place r))
    go (inr h) (Some x) r =
        let us = drop at text in
        let g = gap_at (length us) text at in
        let place = at + g.units in
        let t = token_of x place g.line in
        let found = gap_holds (length us) text at in
        let there : drop g.units us ≡ drop place text = drop-drop g.units at text in
        let none_there = gap_ends (length us) text at (omega arith) in
        let the = some_row_at (in_substitution bs) text place x r in
        let some = the.some in
        let within : place + x.units ≤ length text = (at_has_row (in_substitution bs) text x.kind place x.units some the.row).0 in
        let rest : drop x.units (drop g.units us) ≡ drop (place + x.units) text = ap (drop x.units) there ∙ drop-drop x.units place text in
        let own : take x.units (drop g.units us) ≡ token_units text t = ap (take x.units) there ∙ sym (units_are text t x.units refl) in
        let fewer : length (drop (place + x.units) text) ≤ m = omega (arith, length-drop (place + x.units) text, length-drop at text) in
        let after = again (place + x.units) (after_token text bs t) within fewer in
        subst (Holds text at bs) (sym (goes m at bs us g x refl h (ap (row (in_substitution bs)) there ∙ r)
        ∙ ap (λ (xs : List ℕ). with_front t (lexed m (place + x.units) (brackets_after bs x.kind (take x.units (drop g.units us))) xs)) rest
        ∙ ap (λ (xs : List ℕ). with_front t (lexed m (place + x.units) (brackets_after bs x.kind xs) (drop (place + x.units) text))) own))
        (front_holds text at bs t (lexed m (place + x.units) (after_token text bs t) (drop (place + x.units) text)).0 (lexed m (place + x.units) (after_token text bs t) (drop (place + x.units) text)).1 found (no_comment text place none_there)
        (row_longest (in_substitution bs) text place x the) after)

pub text_holds : (m : ℕ) (text : List ℕ) (at : ℕ) (bs : List Bracket) → at ≤ length text → length (drop at text) ≤ m → Holds text at bs (lexed m at bs (drop at text))
text_holds zero text at bs a l = let e = past_end text at a l in last (subst (λ (i : ℕ). Gap text at i false) e none)
text_holds (suc m) text at bs a l = turn_holds m text at bs a l (text_holds m text)

-- ---- what the relation has, is found

abbrev token : TokenKind → ℕ → ℕ → Bool → Token
token kind from to line = record { kind = kind; from = from; to = to; line_before = line }

token_is : (t : Token) (r : Row) (from : ℕ) (line : Bool) → t.kind ≡ r.kind → from ≡ t.from → line ≡ t.line_before → t.to ≡ t.from + r.units → token_of r from line ≡ t
token_is t r from line k f l e =
    ap (λ (x : TokenKind). token x from (from + r.units) line) (sym k)
    ∙ ap (λ (x : ℕ). token t.kind x (x + r.units) line) f
    ∙ ap (λ (x : ℕ). token t.kind t.from x line) (sym e)
    ∙ ap (λ (x : Bool). token t.kind t.from t.to x) l

at_token : (inside : Bool) (text : List ℕ) (at : ℕ) (t : Token) → Gap text at t.from t.line_before → NoComment text t.from → IsLongest inside text t.kind t.from t.to
    → (at + (gap_at (length (drop at text)) text at).units ≡ t.from) × ((gap_at (length (drop at text)) text at).line ≡ t.line_before)
at_token inside text at t g n l = gap_is g (length (drop at text)) (omega arith) (quiet text t.from n (λ u e. has_ink inside text t.kind t.from t.to u l.row e))

token_turn : (m : ℕ) (text : List ℕ) (at : ℕ) (bs : List Bracket) (t : Token) (o : Run) → length (drop at text) ≤ m
    → Gap text at t.from t.line_before → NoComment text t.from → IsLongest (in_substitution bs) text t.kind t.from t.to
    → ((j : ℕ) → length (drop t.to text) ≤ j → lexed j t.to (after_token text bs t) (drop t.to text) ≡ o) → lexed m at bs (drop at text) ≡ with_front t o
token_turn zero text at bs t o most g n l again =
    let f = (at_token (in_substitution bs) text at t g n l).0 in
    let less = (has_row_at (in_substitution bs) text t.kind t.from t.to l.row).0 in
    let within = l.row.0 in
    absurd (omega (arith, length-drop at text))
token_turn (suc j) text at bs t o most g n l again =
    let us = drop at text in
    let b = gap_at (length us) text at in
    let f = at_token (in_substitution bs) text at t g n l in
    let place = f.0 in
    let less = (has_row_at (in_substitution bs) text t.kind t.from t.to l.row).0 in
    let within = l.row.0 in
    let r = row_found (in_substitution bs) text t.kind t.from t.to l in
    let x = r.0 in
    let there : drop b.units us ≡ drop t.from text = drop-drop b.units at text ∙ ap (λ (i : ℕ). drop i text) place in
    let more : length (drop b.units us) ≢ 0 = λ e. absurd (omega (arith, length-drop t.from text, ap length there, e)) in
    let is : token_of x (at + b.units) b.line ≡ t = token_is t x (at + b.units) b.line r.2 place f.1 r.3 in
    let to : at + b.units + x.units ≡ t.to = ap (λ (i : ℕ). i + x.units) place ∙ sym r.3 in
    let rest : drop x.units (drop b.units us) ≡ drop t.to text =
    ap (drop x.units) there ∙ drop-drop x.units t.from text ∙ ap (λ (i : ℕ). drop i text) (sym r.3) in
    let own : take x.units (drop b.units us) ≡ token_units text t = ap (take x.units) there ∙ sym (units_are text t x.units r.3) in
    let cs : brackets_after bs x.kind (take x.units (drop b.units us)) ≡ after_token text bs t =
    ap (λ (k : TokenKind). brackets_after bs k (take x.units (drop b.units us))) (sym r.2) ∙ ap (brackets_after bs t.kind) own in
    let fewer : length (drop t.to text) ≤ j = omega (arith, length-drop t.to text, length-drop at text) in
    let after = brackets_after bs x.kind (take x.units (drop b.units us)) in
    goes j at bs us b x refl more (ap (row (in_substitution bs)) there ∙ r.1)
    ∙ ap (λ (k : Token). with_front k (lexed j (at + b.units + x.units) after (drop x.units (drop b.units us)))) is
    ∙ ap (λ (i : ℕ). with_front t (lexed j i after (drop x.units (drop b.units us)))) to
    ∙ ap (λ (ds : List Bracket). with_front t (lexed j t.to ds (drop x.units (drop b.units us)))) cs
    ∙ ap (λ (xs : List ℕ). with_front t (lexed j t.to (after_token text bs t) xs)) rest
    ∙ ap (with_front t) (again j fewer)

end_quiet : (text : List ℕ) → (piece_at text (length text)).units ≡ 0
end_quiet text = no_piece text (length text) (omega (arith, length-drop (length text) text))

last_turn : (m : ℕ) (text : List ℕ) (at : ℕ) (bs : List Bracket) (line : Bool) → length (drop at text) ≤ m → Gap text at (length text) line → lexed m at bs (drop at text) ≡ ([], None)
last_turn zero text at bs line most g = refl
last_turn (suc j) text at bs line most g =
    let us = drop at text in
    let b = gap_at (length us) text at in
    let place = (gap_is g (length us) (omega arith) (end_quiet text)).0 in
    ends j at bs us b refl (omega (arith, length-drop b.units us, length-drop at text))

pub text_reads : {text : List ℕ} {at : ℕ} {bs : List Bracket} {ts : List Token} → Spans text at bs ts → (m : ℕ) → length (drop at text) ≤ m → lexed m at bs (drop at text) ≡ (ts, None)
text_reads (last {text} {at} {brackets = bs} {line} g) = λ m most. last_turn m text at bs line most g
text_reads (next {text} {at} {brackets = bs} {t} {ts} g n l s) = λ m most. token_turn m text at bs t (ts, None) most g n l (text_reads s)

none_found : (inside : Bool) (text : List ℕ) (at : ℕ) → ((kind : TokenKind) (to : ℕ) → ¬ HasRow inside text kind at to) → row inside (drop at text) ≡ None
none_found inside text at h = go (row inside (drop at text)) (row_says inside (drop at text))
  where
    go : (o : Option Row) → RowSays inside (drop at text) o → o ≡ None
    go None says = refl
    go (Some r) says = absurd (h r.kind (at + r.units) (at_has_row inside text r.kind at r.units says.some says.row))

same_unit : (text : List ℕ) (at u v : ℕ) → slice_get text at ≡ Some u → slice_get text at ≡ Some v → u ≡ v
same_unit text at u v a b = let e = sym a ∙ b in cc

stuck_at : (text : List ℕ) (at place u : ℕ) (line : Bool) → Gap text at place line → NoComment text place → slice_get text place ≡ Some u
    → is_white_space u ≡ false → is_line_end u ≡ false → at + (gap_at (length (drop at text)) text at).units ≡ place
stuck_at text at place u line g n e w l =
    (gap_is g (length (drop at text)) (omega arith) (quiet text place n (λ v f. subst IsInk (same_unit text place u v e f) (w, l)))).0

stuck_turn : (m : ℕ) (text : List ℕ) (at place u : ℕ) (bs : List Bracket) (line : Bool) → length (drop at text) ≤ m → Gap text at place line → NoComment text place
    → slice_get text place ≡ Some u → is_white_space u ≡ false → is_line_end u ≡ false
    → ((kind : TokenKind) (to : ℕ) → ¬ HasRow (in_substitution bs) text kind place to) → lexed m at bs (drop at text) ≡ ([], Some place)
stuck_turn zero text at place u bs line most g n e w l none_there =
    let f = stuck_at text at place u line g n e w l in
    let within = slice_get_within text place u e in
    absurd (omega (arith, length-drop at text))
stuck_turn (suc j) text at place u bs line most g n e w l none_there =
    let us = drop at text in
    let b = gap_at (length us) text at in
    let f = stuck_at text at place u line g n e w l in
    let within = slice_get_within text place u e in
    let there : drop b.units us ≡ drop place text = drop-drop b.units at text ∙ ap (λ (i : ℕ). drop i text) f in
    let more : length (drop b.units us) ≢ 0 = λ z. absurd (omega (arith, length-drop place text, ap length there, z)) in
    fails j at bs us b refl more (ap (row (in_substitution bs)) there ∙ none_found (in_substitution bs) text place none_there) ∙ ap (λ (i : ℕ). ([], Some i)) f

pub text_fails : {text : List ℕ} {at place : ℕ} {bs : List Bracket} {ts : List Token} → Fails text at bs ts place → (m : ℕ) → length (drop at text) ≤ m
    → lexed m at bs (drop at text) ≡ (ts, Some place)
text_fails (here {text} {at} {place} {u} {brackets = bs} {line} g n e w l none_there) = λ m most. stuck_turn m text at place u bs line most g n e w l none_there
text_fails (later {text} {at} {place} {brackets = bs} {t} {ts} g n l s) = λ m most. token_turn m text at bs t (ts, Some place) most g n l (text_fails s)

-- ---- the laws

whole : (text : List ℕ) → length (drop 0 text) ≤ length text
whole text = omega arith

pub one_reading_law : OneReading
one_reading_law text ts rs a b =
    let x = text_reads a (length text) (whole text) in
    let y = text_reads b (length text) (whole text) in ap (λ (r : Run). r.0) (sym x ∙ y)

pub one_failure_law : OneFailure
one_failure_law text p q a b =
    let x = text_fails a.1 (length text) (whole text) in
    let y = text_fails b.1 (length text) (whole text) in
    let e : Some p ≡ Some q = ap (λ (r : Run). r.1) (sym x ∙ y) in cc

pub one_front_law : OneFront
one_front_law text ts rs p q a b =
    let x = text_fails a (length text) (whole text) in
    let y = text_fails b (length text) (whole text) in ap (λ (r : Run). r.0) (sym x ∙ y)

pub tokens_or_failure_law : TokensOrFailure
tokens_or_failure_law text ts p a b =
    let x = text_reads a (length text) (whole text) in
    let y = text_fails b.1 (length text) (whole text) in
    let e : None ≡ Some p = ap (λ (r : Run). r.1) (sym x ∙ y) in cc

pub each_text_law : EachTextIsRead
each_text_law text = let r = lexed (length text) 0 [] (drop 0 text) in go r.0 r.1 (text_holds (length text) text 0 [] (omega arith) (whole text))
  where
    go : (ts : List Token) (o : Option ℕ) → HoldsTo text 0 [] ts o → ((ts : List Token) × Tokens text ts) ⊎ ((p : ℕ) × FailsAt text p)
    go ts None h = inl (ts, h)
    go ts (Some p) h = inr (p, (ts, h))

-- ---- what `lex` says

at_index : (inside : Bool) (text : List ℕ) (t : Token) (ts : List Token) → IsLongest inside text t.kind t.from t.to → ((k : ℕ) (d : Token) → k < length ts → IsTokenOf text (slice_index_or ts k d))
    → (k : ℕ) (d : Token) → k < suc (length ts) → IsTokenOf text (slice_index_or (t ∷ ts) k d)
at_index inside text t ts l again zero d less =
    record { nonempty = (has_row_at inside text t.kind t.from t.to l.row).0; in_text = l.row.0; row = (inside, l.row.1) }
at_index inside text t ts l again (suc k) d less = again k d (omega arith)

-- each token of a text is one
pub token_of_text : {text : List ℕ} {at : ℕ} {bs : List Bracket} {ts : List Token} → Spans text at bs ts → (k : ℕ) (t : Token) → k < length ts → IsTokenOf text (slice_index_or ts k t)
token_of_text (last {text} {at} {brackets = bs} {line} g) = λ k t l. absurd (omega arith)
token_of_text (next {text} {at} {brackets = bs} {t} {ts} g n l s) = λ k d less. at_index (in_substitution bs) text t ts l (token_of_text s) k d less

pub fails_token_of : {text : List ℕ} {at place : ℕ} {bs : List Bracket} {ts : List Token} → Fails text at bs ts place → (k : ℕ) (t : Token) → k < length ts → IsTokenOf text (slice_index_or ts k t)
fails_token_of (here {text} {at} {place} {u} {brackets} {line} g n e w l none_there) = λ k t less. absurd (omega arith)
fails_token_of (later {text} {at} {place} {brackets = bs} {t} {ts} g n l s) = λ k d less. at_index (in_substitution bs) text t ts l (fails_token_of s) k d less

pub lexed_is : (text : List ℕ) (ts : List Token) (o : Option ℕ) → lexed (length text) 0 [] text ≡ (ts, o) → HoldsTo text 0 [] ts o
lexed_is text ts o e = subst (Holds text 0 []) e (text_holds (length text) text 0 [] (omega arith) (whole text))
