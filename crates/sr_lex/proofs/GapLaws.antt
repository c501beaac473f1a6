-- A gap: the function that finds it, and the relation.
use Rattle.std.proofs.Common.{◌≡◌, ℕ, zero, suc, ◌+◌, ◌≤◌, ◌≢◌, Bool, true, false, ◌||◌, List, [], ◌∷◌, length, drop, refl, sym, ap, ◌∙◌, subst, arith, ◌⊎◌, inl, inr}
use Rattle.std.specs.Prelude.{◌==◌}
use Rattle.std.proofs.lemmas.List.{drop-drop, length-drop}
use Rattle.sr_lex.specs.Tokens.{Gap, none, white_space, line_end, comment, NoComment}
use Rattle.sr_lex.specs.Scan.{nothing, join, piece, gap}
use Rattle.sr_lex.specs.declared.gaps.Blank.{Blank}
use Rattle.sr_lex.proofs.Truth.{same_number, is_same}
use Rattle.sr_lex.proofs.Places.{drop_front}
use Rattle.sr_lex.proofs.Pieces.{piece_gap, comment_is, white_is, break_is, spacing, breaking}
use Rattle.sr_lex.proofs.GapSteps.{stopped, went}

-- the gap found at a place of a text, and the piece
abbrev pub gap_at : ℕ → List ℕ → ℕ → Blank
gap_at m text at = gap m (at == 0) (drop at text)

abbrev pub piece_at : List ℕ → ℕ → Blank
piece_at text at = piece (at == 0) (drop at text)

pub start : (at : ℕ) → (at == 0) ≡ true → at ≡ 0
start at h = same_number at 0 h

at_start : (at : ℕ) → at ≡ 0 → (at == 0) ≡ true
at_start at h = is_same at 0 h

not_start : (at n k : ℕ) → n ≡ suc k → (at + n == 0) ≡ false
not_start at n k h = grind arith

-- a number is 0 or the next of one
pub number : (n : ℕ) → (n ≡ 0) ⊎ ((k : ℕ) × (n ≡ suc k))
number zero = inl refl
number (suc k) = inr (k, refl)

-- the rest of a gap after its first piece
after : (m : ℕ) (text : List ℕ) (at k : ℕ) → (piece_at text at).units ≡ suc k
    → gap_at (suc m) text at ≡ join (piece_at text at) (gap_at m text (at + (piece_at text at).units))
after m text at k h =
    went m k (at == 0) (drop at text) h
    ∙ ap (λ (b : Bool). join (piece_at text at) (gap m b (drop (piece_at text at).units (drop at text)))) (sym (not_start at (piece_at text at).units k h))
    ∙ ap (λ (us : List ℕ). join (piece_at text at) (gap m (at + (piece_at text at).units == 0) us)) (drop-drop (piece_at text at).units at text)

some : (n k : ℕ) → n ≡ suc k → n ≢ 0
some n k h = λ e. absurd (omega arith)

-- what is found is a gap
pub gap_holds : (m : ℕ) (text : List ℕ) (at : ℕ) → Gap text at (at + (gap_at m text at).units) (gap_at m text at).line
gap_holds zero text at = let z : at ≡ at + 0 = omega arith in subst (λ (i : ℕ). Gap text at i false) z none
gap_holds (suc m) text at = elim (number (piece_at text at).units) [
  | inl h ↦
      let z : at ≡ at + (gap_at (suc m) text at).units = sym (ap (λ (b : Blank). at + b.units) (stopped (suc m) (at == 0) (drop at text) h) ∙ omega arith) in
      let l : false ≡ (gap_at (suc m) text at).line = sym (ap (λ (b : Blank). b.line) (stopped (suc m) (at == 0) (drop at text) h)) in
      subst (λ (i : ℕ). Gap text at i (gap_at (suc m) text at).line) z (subst (Gap text at at) l none)
  | inr e ↦
      let b = piece_at text at in
      let rest = gap_at m text (at + b.units) in
      let g : Gap text (at + b.units) (at + b.units + rest.units) rest.line = gap_holds m text (at + b.units) in
      let all : Gap text at (at + b.units + rest.units) (b.line || rest.line) =
      piece_gap text at (drop at text) (at == 0) refl (start at) (some b.units e.0 e.1) (at + b.units + rest.units) rest.line g in
      let is : join b rest ≡ gap_at (suc m) text at = sym (after m text at e.0 e.1) in
      let z : at + b.units + rest.units ≡ at + (b.units + rest.units) = omega arith in
      subst (λ (x : Blank). Gap text at (at + x.units) x.line) is (subst (λ (i : ℕ). Gap text at i (b.line || rest.line)) z all)
]

empty : (us : List ℕ) → length us ≤ 0 → us ≡ []
empty [] h = refl
empty (u ∷ us) h = absurd (omega arith)

piece_empty : (first : Bool) → piece first [] ≡ nothing
unfolding piece
piece_empty first = refl

pub no_piece : (text : List ℕ) (at : ℕ) → length (drop at text) ≤ 0 → (piece_at text at).units ≡ 0
no_piece text at h = ap (λ (us : List ℕ). (piece (at == 0) us).units) (empty (drop at text) h) ∙ ap (λ (b : Blank). b.units) (piece_empty (at == 0))

-- and no piece follows it
pub gap_ends : (m : ℕ) (text : List ℕ) (at : ℕ) → length (drop at text) ≤ m → (piece_at text (at + (gap_at m text at).units)).units ≡ 0
gap_ends zero text at l = let z : at ≡ at + 0 = omega arith in subst (λ (i : ℕ). (piece_at text i).units ≡ 0) z (no_piece text at l)
gap_ends (suc m) text at l = elim (number (piece_at text at).units) [
  | inl h ↦
      let z : at ≡ at + (gap_at (suc m) text at).units = sym (ap (λ (b : Blank). at + b.units) (stopped (suc m) (at == 0) (drop at text) h) ∙ omega arith) in
      subst (λ (i : ℕ). (piece_at text i).units ≡ 0) z h
  | inr e ↦
      let b = piece_at text at in
      let is = after m text at e.0 e.1 in
      let one = e.1 in
      let fewer : length (drop (at + b.units) text) ≤ m = omega (arith, length-drop (at + b.units) text, length-drop at text, l, one) in
      let z : at + b.units + (gap_at m text (at + b.units)).units ≡ at + (gap_at (suc m) text at).units =
      omega arith ∙ sym (ap (λ (x : Blank). at + x.units) is) in
      subst (λ (i : ℕ). (piece_at text i).units ≡ 0) z (gap_ends m text (at + b.units) fewer)
]

-- the gap of the relation is found
abbrev pub Found : ℕ → List ℕ → ℕ → ℕ → Bool → Type 0
Found m text at to line = (at + (gap_at m text at).units ≡ to) × ((gap_at m text at).line ≡ line)

on : (m : ℕ) (text : List ℕ) (at to : ℕ) (line : Bool) → (piece_at text at).units ≢ 0 → length (drop at text) ≤ m
    → ((k : ℕ) → length (drop (at + (piece_at text at).units) text) ≤ k → Found k text (at + (piece_at text at).units) to line)
    → Found m text at to ((piece_at text at).line || line)
on zero text at to line n l again = absurd (n (no_piece text at l))
on (suc m) text at to line n l again = elim (number (piece_at text at).units) [
  | inl h ↦ absurd (n h)
  | inr e ↦
      let b = piece_at text at in
      let is = after m text at e.0 e.1 in
      let one = e.1 in
      let fewer : length (drop (at + b.units) text) ≤ m = omega (arith, length-drop (at + b.units) text, length-drop at text, l, one) in
      let f = again m fewer in
      let z : at + (b.units + (gap_at m text (at + b.units)).units) ≡ at + b.units + (gap_at m text (at + b.units)).units = omega arith in
      (ap (λ (x : Blank). at + x.units) is ∙ z ∙ f.0, ap (λ (x : Blank). x.line) is ∙ ap (λ (x : Bool). b.line || x) f.1)
]

found_on : (m : ℕ) (text : List ℕ) (at to : ℕ) (line : Bool) (b : Blank) → piece_at text at ≡ b → b.units ≢ 0 → length (drop at text) ≤ m
    → ((k : ℕ) → length (drop (at + b.units) text) ≤ k → Found k text (at + b.units) to line) → Found m text at to (b.line || line)
found_on m text at to line b e = subst
    (λ (x : Blank). x.units ≢ 0 → length (drop at text) ≤ m → ((k : ℕ) → length (drop (at + x.units) text) ≤ k → Found k text (at + x.units) to line) → Found m text at to (x.line || line))
    e (on m text at to line)

pub gap_is : {text : List ℕ} {at to : ℕ} {line : Bool} → Gap text at to line → (m : ℕ) → length (drop at text) ≤ m → (piece_at text to).units ≡ 0 → Found m text at to line
gap_is (none {text} {at}) = λ m l h.
    let is = stopped m (at == 0) (drop at text) h in
    (ap (λ (b : Blank). at + b.units) is ∙ omega arith, ap (λ (b : Blank). b.line) is)
gap_is (white_space {text} {at} {to} {u} {line} e w g) = λ m l h.
    let is : piece_at text at ≡ spacing = ap (piece (at == 0)) (drop_front text at u e) ∙ white_is (at == 0) u (drop (at + 1) text) w in
    found_on m text at to line spacing is (λ k. absurd (omega arith)) l (λ k fewer. gap_is g k fewer h)
gap_is (line_end {text} {at} {to} {u} {line} e w g) = λ m l h.
    let is : piece_at text at ≡ breaking = ap (piece (at == 0)) (drop_front text at u e) ∙ break_is (at == 0) u (drop (at + 1) text) w in
    found_on m text at to line breaking is (λ k. absurd (omega arith)) l (λ k fewer. gap_is g k fewer h)
gap_is (comment {text} {at} {next} {to} {line} c g) = λ m l h.
    let is = comment_is c (at == 0) (at_start at) in
    let b = piece_at text at in
    subst (λ (x : Bool). Found m text at to (x || line)) is.2
    (on m text at to line is.0 l (λ k fewer. subst (λ (i : ℕ). Found k text i to line) (sym is.1) (gap_is g k (subst (λ (i : ℕ). length (drop i text) ≤ k) is.1 fewer) h)))

-- no comment begins where no piece does
pub no_comment : (text : List ℕ) (at : ℕ) → (piece_at text at).units ≡ 0 → NoComment text at
no_comment text at h to c = (comment_is c (at == 0) (at_start at)).0 h
