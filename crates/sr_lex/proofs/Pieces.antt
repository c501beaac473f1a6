-- White space, line ends and comments: the function that finds them, and the relation.
use Rattle.std.proofs.Common.{◌≡◌, ℕ, suc, ◌+◌, ◌≢◌, Bool, true, false, ◌||◌, ◌&&◌, List, [], ◌∷◌, take, drop, refl, sym, ap, ◌∙◌, subst, arith, ◌⊎◌, inl, inr}
use Rattle.std.specs.Prelude.{Option, Some, None, unwrap_or, slice_range, codes, ◌==◌, if◌then◌else◌}
use Rattle.std.specs.List.{list_any}
use Rattle.std.proofs.lemmas.List.{drop-drop}
use Rattle.sr_lex.specs.Units.{is_line_end, is_white_space}
use Rattle.sr_lex.specs.Tokens.{Stands, LineEnds, IsFirst, Comment, single_line, multi_line, hashbang, Gap, white_space, line_end, comment}
use Rattle.sr_lex.specs.Units.{begins_with}
use Rattle.sr_lex.specs.Scan.{nothing, line_len, line_comment, block_from, slash_comment, piece}
use Rattle.sr_lex.specs.declared.gaps.Blank.{Blank}
use Rattle.sr_lex.proofs.Truth.{or_true, and_true, same_number, both_ways}
use Rattle.sr_lex.proofs.Places.{get_front, range_is, two_units, one_first}
use Rattle.sr_lex.proofs.Comments.{line_first, line_none, block_first, block_none}

-- ---- what stands at the front

abbrev pub spacing : Blank
spacing = record { units = 1; line = false }

abbrev pub breaking : Blank
breaking = record { units = 1; line = true }

-- neither white space nor a line end
abbrev pub IsInk : ℕ → Type 0
IsInk u = (is_white_space u ≡ false) × (is_line_end u ≡ false)

abbrev pub PieceSays : Bool → ℕ → List ℕ → Type 0
PieceSays first u us =
    ((is_white_space u ≡ true) × (piece first (u ∷ us) ≡ spacing))
    ⊎ (((is_line_end u ≡ true) × (piece first (u ∷ us) ≡ breaking))
    ⊎ ((IsInk u × (u ≡ 0x2F) × (piece first (u ∷ us) ≡ slash_comment (u ∷ us)))
    ⊎ ((IsInk u × (first ≡ true) × (u ≡ 0x23) × (begins_with 0x21 us ≡ true) × (piece first (u ∷ us) ≡ line_comment (u ∷ us)))
    ⊎ (IsInk u × (u ≢ 0x2F) × ((first && (u == 0x23 && begins_with 0x21 us)) ≡ false) × (piece first (u ∷ us) ≡ nothing)))))

other : (a b : ℕ) → (a == b) ≡ false → a ≢ b
other a b h = grind arith

pub piece_says : (first : Bool) (u : ℕ) (us : List ℕ) → PieceSays first u us
unfolding piece
piece_says first u us = go (is_white_space u) (is_line_end u) (u == 0x2F) (first && (u == 0x23 && begins_with 0x21 us)) refl refl refl refl
  where
    go : (w l s h : Bool) → is_white_space u ≡ w → is_line_end u ≡ l → (u == 0x2F) ≡ s → (first && (u == 0x23 && begins_with 0x21 us)) ≡ h → PieceSays first u us
    go true l s h we le se he = inl (we, rw we refl)
    go false true s h we le se he = inr (inl (le, rw (we, le) refl))
    go false false true h we le se he = inr (inr (inl ((we, le), same_number u 0x2F se, rw (we, le, se) refl)))
    go false false false true we le se he =
        let p = and_true first (u == 0x23 && begins_with 0x21 us) he in
        let q = and_true (u == 0x23) (begins_with 0x21 us) p.1 in
        inr (inr (inr (inl ((we, le), p.0, same_number u 0x23 q.0, q.1, rw (we, le, se, he) refl))))
    go false false false false we le se he = inr (inr (inr (inr ((we, le), other u 0x2F se, he, rw (we, le, se, he) refl))))

-- ---- the relation has what the function finds

comment_gap : (text : List ℕ) (at next to : ℕ) (l line : Bool) → Comment text at next → list_any is_line_end (slice_range text at next) ≡ l
    → Gap text next to line → Gap text at to (l || line)
comment_gap text at next to l line c e g = subst (λ (x : Bool). Gap text at to (x || line)) e (comment c g)

-- a comment to the end of the line, at a place
plain_line : (c d : ℕ) (us : List ℕ) → is_line_end c ≡ false → is_line_end d ≡ false → list_any is_line_end (take (line_len us + 2) (c ∷ d ∷ us)) ≡ false
plain_line c d us a b = let z : line_len us + 2 ≡ suc (suc (line_len us)) = omega arith in rw (z, a, b) (line_none us)

plain_range : (text : List ℕ) (at c d : ℕ) (us : List ℕ) → drop at text ≡ c ∷ d ∷ us → is_line_end c ≡ false → is_line_end d ≡ false
    → list_any is_line_end (slice_range text at (at + (line_len us + 2))) ≡ false
plain_range text at c d us e a b =
    ap (list_any is_line_end) (range_is text at (line_len us + 2) ∙ ap (take (line_len us + 2)) e) ∙ plain_line c d us a b

line_end_place : (text : List ℕ) (at c d : ℕ) (us : List ℕ) → drop at text ≡ c ∷ d ∷ us → IsFirst (LineEnds text) (at + 2) (at + (line_len us + 2))
line_end_place text at c d us e =
    let f = line_first us text (at + 2) (sym (drop-drop 2 at text) ∙ ap (drop 2) e) in
    let z : at + 2 + line_len us ≡ at + (line_len us + 2) = omega arith in
    subst (IsFirst (LineEnds text) (at + 2)) z f

slash : is_line_end 0x2F ≡ false
unfolding is_line_end
slash = refl

asterisk : is_line_end 0x2A ≡ false
unfolding is_line_end
asterisk = refl

number_sign : is_line_end 0x23 ≡ false
unfolding is_line_end
number_sign = refl

exclamation_mark : is_line_end 0x21 ≡ false
unfolding is_line_end
exclamation_mark = refl

begins : (c : ℕ) (us : List ℕ) → begins_with c us ≡ true → us ≡ c ∷ drop 1 us
begins c [] h = cc
begins c (u ∷ us) h = let e = same_number u c h in ap (λ (x : ℕ). x ∷ us) e

abbrev pub GapFrom : List ℕ → ℕ → Blank → Type 0
GapFrom text at b = (to : ℕ) (line : Bool) → Gap text (at + b.units) to line → Gap text at to (b.line || line)

-- the two units at a place
pair : (text : List ℕ) (at c d : ℕ) (us : List ℕ) → drop at text ≡ c ∷ us → begins_with d us ≡ true → drop at text ≡ c ∷ d ∷ drop 1 us
pair text at c d us e h = e ∙ ap (λ (xs : List ℕ). c ∷ xs) (begins d us h)

line_gap : (text : List ℕ) (at : ℕ) (us : List ℕ) → drop at text ≡ 0x2F ∷ us → begins_with 0x2F us ≡ true → GapFrom text at (line_comment (0x2F ∷ us))
line_gap text at us e h to line g =
    let two = pair text at 0x2F 0x2F us e h in
    comment_gap text at (at + (line_len (drop 1 us) + 2)) to false line (single_line (ap (take 2) two) (line_end_place text at 0x2F 0x2F (drop 1 us) two))
    (plain_range text at 0x2F 0x2F (drop 1 us) two slash slash) g

hash_gap : (text : List ℕ) (at : ℕ) (us : List ℕ) → at ≡ 0 → drop at text ≡ 0x23 ∷ us → begins_with 0x21 us ≡ true → GapFrom text at (line_comment (0x23 ∷ us))
hash_gap text at us z e h to line g =
    let two = pair text at 0x23 0x21 us e h in
    let start : drop 0 text ≡ 0x23 ∷ 0x21 ∷ drop 1 us = sym (ap (λ (i : ℕ). drop i text) z) ∙ two in
    let len = line_len (drop 1 us) + 2 in
    let all : Comment text 0 (0 + len) = hashbang (ap (take 2) start) (line_end_place text 0 0x23 0x21 (drop 1 us) start) in
    comment_gap text at (at + len) to false line (subst (λ (i : ℕ). Comment text i (i + len)) (sym z) all)
    (plain_range text at 0x23 0x21 (drop 1 us) two number_sign exclamation_mark) g

block_line : (k : ℕ) (us : List ℕ) → list_any is_line_end (take (k + 4) (0x2F ∷ 0x2A ∷ us)) ≡ list_any is_line_end (take (k + 2) us)
block_line k us = let z : k + 4 ≡ suc (suc (k + 2)) = omega arith in rw (z, slash, asterisk) refl

block_gap : (text : List ℕ) (at : ℕ) (us : List ℕ) (b : Blank) → drop at text ≡ 0x2F ∷ us → begins_with 0x2A us ≡ true → block_from 0 false (drop 1 us) ≡ Some b → GapFrom text at b
block_gap text at us b e h f to line g =
    let two = pair text at 0x2F 0x2A us e h in
    let there : drop (at + 2) text ≡ drop 1 us = sym (drop-drop 2 at text) ∙ ap (drop 2) two in
    let c = block_first (drop 1 us) text (at + 2) 0 false b there f in
    let next : at + b.units ≡ at + 2 + c.body + 2 = omega (arith, c.units) in
    let len : at + (c.body + 4) ≡ at + 2 + c.body + 2 = omega arith in
    let range : list_any is_line_end (slice_range text at (at + 2 + c.body + 2)) ≡ b.line =
    ap (λ (i : ℕ). list_any is_line_end (slice_range text at i)) (sym len)
    ∙ ap (list_any is_line_end) (range_is text at (c.body + 4) ∙ ap (take (c.body + 4)) two)
    ∙ block_line c.body (drop 1 us) ∙ sym c.line_end in
    comment_gap text at (at + 2 + c.body + 2) to b.line line (multi_line (ap (take 2) two) c.first) range
    (subst (λ (i : ℕ). Gap text i to line) next g)

slash_gap : (text : List ℕ) (at : ℕ) (us : List ℕ) → drop at text ≡ 0x2F ∷ us → (slash_comment (0x2F ∷ us)).units ≢ 0 → GapFrom text at (slash_comment (0x2F ∷ us))
unfolding slash_comment
slash_gap text at us e n = go (begins_with 0x2F us) (begins_with 0x2A us) refl refl n
  where
    found : (o : Option Blank) → block_from 0 false (drop 1 us) ≡ o → begins_with 0x2A us ≡ true → (unwrap_or o nothing).units ≢ 0 → GapFrom text at (unwrap_or o nothing)
    found None f h m = absurd (m refl)
    found (Some b) f h m = block_gap text at us b e h f

    go : (l b : Bool) → begins_with 0x2F us ≡ l → begins_with 0x2A us ≡ b
        → (if l then line_comment (0x2F ∷ us) else (if b then unwrap_or (block_from 0 false (drop 1 us)) nothing else nothing)).units ≢ 0
        → GapFrom text at (slash_comment (0x2F ∷ us))
    go true b le be m = rw le (line_gap text at us e le)
    go false true le be m = rw (le, be) (found (block_from 0 false (drop 1 us)) refl be m)
    go false false le be m = absurd (m refl)

pub piece_gap : (text : List ℕ) (at : ℕ) (us : List ℕ) (first : Bool) → drop at text ≡ us → (first ≡ true → at ≡ 0) → (piece first us).units ≢ 0 → GapFrom text at (piece first us)
unfolding piece
piece_gap text at [] first e z n = absurd (n refl)
piece_gap text at (u ∷ us) first e z n = elim (piece_says first u us) [
  | inl w ↦ subst (GapFrom text at) (sym w.1) (λ to line g. white_space (get_front text at u us e) w.0 g)
  | inr q ↦ elim q [
    | inl l ↦ subst (GapFrom text at) (sym l.1) (λ to line g. line_end (get_front text at u us e) l.0 g)
    | inr q ↦ elim q [
      | inl s ↦
          let there : drop at text ≡ 0x2F ∷ us = e ∙ ap (λ (x : ℕ). x ∷ us) s.1 in
          let is : piece first (u ∷ us) ≡ slash_comment (0x2F ∷ us) = s.2 ∙ ap (λ (x : ℕ). slash_comment (x ∷ us)) s.1 in
          subst (GapFrom text at) (sym is) (slash_gap text at us there (λ k. n (ap (λ (b : Blank). b.units) is ∙ k)))
      | inr q ↦ elim q [
        | inl h ↦
            let there : drop at text ≡ 0x23 ∷ us = e ∙ ap (λ (x : ℕ). x ∷ us) h.2 in
            let is : piece first (u ∷ us) ≡ line_comment (0x23 ∷ us) = h.4 ∙ ap (λ (x : ℕ). line_comment (x ∷ us)) h.2 in
            subst (GapFrom text at) (sym is) (hash_gap text at us (z h.1) there h.3)
        | inr o ↦ absurd (n (ap (λ (b : Blank). b.units) o.3))
      ]
    ]
  ]
]

-- ---- the function finds what the relation has

-- a comment from one place to another is the piece found at the first
abbrev pub CommentIs : List ℕ → ℕ → ℕ → Blank → Type 0
CommentIs text at to b = (b.units ≢ 0) × (at + b.units ≡ to) × (b.line ≡ list_any is_line_end (slice_range text at to))

line_found : (first : Bool) (us : List ℕ) → piece first (0x2F ∷ 0x2F ∷ us) ≡ record { units = line_len us + 2; line = false }
unfolding piece slash_comment is_white_space is_line_end
line_found first us = refl

block_found : (first : Bool) (us : List ℕ) → piece first (0x2F ∷ 0x2A ∷ us) ≡ unwrap_or (block_from 0 false us) nothing
unfolding piece slash_comment is_white_space is_line_end
block_found first us = refl

hash_found : (us : List ℕ) → piece true (0x23 ∷ 0x21 ∷ us) ≡ record { units = line_len us + 2; line = false }
unfolding piece is_white_space is_line_end
hash_found us = refl

line_is : (text : List ℕ) (at to c d : ℕ) (us : List ℕ) → drop at text ≡ c ∷ d ∷ us → is_line_end c ≡ false → is_line_end d ≡ false → IsFirst (LineEnds text) (at + 2) to
    → CommentIs text at to (record { units = line_len us + 2; line = false })
line_is text at to c d us e a b f =
    let there : at + (line_len us + 2) ≡ to = one_first (LineEnds text) (at + 2) (at + (line_len us + 2)) to (line_end_place text at c d us e) f in
    ((λ h. absurd (omega arith)), there, sym (plain_range text at c d us e a b) ∙ ap (λ (i : ℕ). list_any is_line_end (slice_range text at i)) there)

block_is : (text : List ℕ) (at close : ℕ) (us : List ℕ) (o : Option Blank) → drop at text ≡ 0x2F ∷ 0x2A ∷ us → block_from 0 false us ≡ o → IsFirst (Stands text (codes "*/")) (at + 2) close
    → CommentIs text at (close + 2) (unwrap_or o nothing)
block_is text at close us None e o f =
    let there : drop (at + 2) text ≡ us = sym (drop-drop 2 at text) ∙ ap (drop 2) e in
    absurd (block_none us text (at + 2) 0 false there o close f.after f.holds)
block_is text at close us (Some b) e o f =
    let there : drop (at + 2) text ≡ us = sym (drop-drop 2 at text) ∙ ap (drop 2) e in
    let c = block_first us text (at + 2) 0 false b there o in
    let same : at + 2 + c.body ≡ close = one_first (Stands text (codes "*/")) (at + 2) (at + 2 + c.body) close c.first f in
    let units = c.units in
    let place : at + b.units ≡ close + 2 = omega arith in
    let len : at + (c.body + 4) ≡ close + 2 = omega arith in
    let range : list_any is_line_end (slice_range text at (close + 2)) ≡ b.line =
    ap (λ (i : ℕ). list_any is_line_end (slice_range text at i)) (sym len)
    ∙ ap (list_any is_line_end) (range_is text at (c.body + 4) ∙ ap (take (c.body + 4)) e)
    ∙ block_line c.body us ∙ sym c.line_end in
    ((λ h. absurd (omega arith)), place, sym range)

pub comment_is : {text : List ℕ} {at to : ℕ} → Comment text at to → (first : Bool) → (at ≡ 0 → first ≡ true) → CommentIs text at to (piece first (drop at text))
comment_is (single_line {text} {from} {to} s f) = λ first z.
    let at = from in
    let two = two_units 0x2F 0x2F (drop at text) s in
    subst (CommentIs text at to) (sym (ap (piece first) two ∙ line_found first (drop 2 (drop at text)))) (line_is text at to 0x2F 0x2F (drop 2 (drop at text)) two slash slash f)
comment_is (multi_line {text} {from} {close} s f) = λ first z.
    let at = from in
    let two = two_units 0x2F 0x2A (drop at text) s in
    let us = drop 2 (drop at text) in
    subst (CommentIs text at (close + 2)) (sym (ap (piece first) two ∙ block_found first us)) (block_is text at close us (block_from 0 false us) two refl f)
comment_is (hashbang {text} {to} s f) = λ first z.
    let two = two_units 0x23 0x21 text s in
    subst (CommentIs text 0 to) (sym (ap (λ (b : Bool). piece b text) (z refl) ∙ ap (piece true) two ∙ hash_found (drop 2 text))) (line_is text 0 to 0x23 0x21 (drop 2 text) two number_sign exclamation_mark f)

pub white_is : (first : Bool) (u : ℕ) (us : List ℕ) → is_white_space u ≡ true → piece first (u ∷ us) ≡ spacing
unfolding piece
white_is first u us h = rw h refl

apart : (u : ℕ) → is_white_space u ≡ true → is_line_end u ≡ true → ⊥
unfolding is_white_space is_line_end
apart u w h = elim (or_true (u == 0x0A || u == 0x0D || u == 0x2028) (u == 0x2029) h) [
  | inr e ↦ wrong 0x2029 (same_number u 0x2029 e) refl
  | inl h ↦ elim (or_true (u == 0x0A || u == 0x0D) (u == 0x2028) h) [
    | inr e ↦ wrong 0x2028 (same_number u 0x2028 e) refl
    | inl h ↦ elim (or_true (u == 0x0A) (u == 0x0D) h) [ inr e ↦ wrong 0x0D (same_number u 0x0D e) refl | inl e ↦ wrong 0x0A (same_number u 0x0A e) refl ]
  ]
]
  where
    wrong : (v : ℕ) → u ≡ v → is_white_space v ≡ false → ⊥
    wrong v e f = both_ways (is_white_space u) w (ap is_white_space e ∙ f)

pub break_is : (first : Bool) (u : ℕ) (us : List ℕ) → is_line_end u ≡ true → piece first (u ∷ us) ≡ breaking
unfolding piece
break_is first u us h = go (is_white_space u) refl
  where
    go : (b : Bool) → is_white_space u ≡ b → piece first (u ∷ us) ≡ breaking
    go true e = absurd (apart u e h)
    go false e = rw (e, h) refl
