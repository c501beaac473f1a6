-- Comments: the function that finds them, and the relation.
use Rattle.std.proofs.Common.{◌≡◌, ℕ, suc, ◌+◌, ◌-◌, ◌≤◌, Bool, true, false, ◌||◌, ◌&&◌, List, [], ◌∷◌, length, take, drop, refl, sym, ap, ◌∙◌, subst, arith, inl, inr}
use Rattle.std.specs.Prelude.{Option, Some, None, MatchOption, ⊤, IsTrue, slice_get, codes, ◌==◌}
use Rattle.std.specs.List.{list_any}
use Rattle.std.proofs.lemmas.List.{length-drop}
use Rattle.std.proofs.Math.ListN.{drop_of_length-le}
use Rattle.sr_lex.specs.Units.{is_line_end}
use Rattle.sr_lex.specs.Tokens.{Stands, LineEnds, IsFirst}
use Rattle.sr_lex.specs.Units.{begins_with}
use Rattle.sr_lex.specs.Scan.{line_len, block_from}
use Rattle.sr_lex.specs.declared.gaps.Blank.{Blank}
use Rattle.sr_lex.proofs.Truth.{or_assoc, or_nothing, and_true, and_in, same_number, is_same, both_ways}
use Rattle.sr_lex.proofs.Places.{get_front, get_past, drop_next, first_here, first_later, later}

-- ---- to the end of the line

ends_past : (text : List ℕ) (at : ℕ) → slice_get text at ≡ None → LineEnds text at
ends_past text at e = subst (λ (o : Option ℕ). MatchOption o ⊤ (λ u. IsTrue (is_line_end u))) (sym e) tt

ends_at : (text : List ℕ) (at u : ℕ) → slice_get text at ≡ Some u → is_line_end u ≡ true → LineEnds text at
ends_at text at u e h = subst (λ (o : Option ℕ). MatchOption o ⊤ (λ u. IsTrue (is_line_end u))) (sym e) h

goes_on : (text : List ℕ) (at u : ℕ) → slice_get text at ≡ Some u → is_line_end u ≡ false → ¬ LineEnds text at
goes_on text at u e h l = both_ways (is_line_end u) (subst (λ (o : Option ℕ). MatchOption o ⊤ (λ u. IsTrue (is_line_end u))) e l) h

pub line_first : (us text : List ℕ) (at : ℕ) → drop at text ≡ us → IsFirst (LineEnds text) at (at + line_len us)
line_first [] text at e =
    let z : at ≡ at + 0 = omega arith in
    subst (IsFirst (LineEnds text) at) z (first_here (LineEnds text) at (ends_past text at (get_past text at e)))
line_first (u ∷ us) text at e = go (is_line_end u) refl (line_first us text (at + 1) (drop_next text at u us e))
  where
    go : (b : Bool) → is_line_end u ≡ b → IsFirst (LineEnds text) (at + 1) (at + 1 + line_len us) → IsFirst (LineEnds text) at (at + line_len (u ∷ us))
    go true h f = rw h (
        let z : at ≡ at + 0 = omega arith in
        subst (IsFirst (LineEnds text) at) z (first_here (LineEnds text) at (ends_at text at u (get_front text at u us e) h)))
    go false h f = rw h (
        let z : at + 1 + line_len us ≡ at + suc (line_len us) = omega arith in
        subst (IsFirst (LineEnds text) at) z (first_later (LineEnds text) at (at + 1 + line_len us) (goes_on text at u (get_front text at u us e) h) f))

-- no line end is among those units
pub line_none : (us : List ℕ) → list_any is_line_end (take (line_len us) us) ≡ false
line_none [] = refl
line_none (u ∷ us) = go (is_line_end u) refl (line_none us)
  where
    go : (b : Bool) → is_line_end u ≡ b → list_any is_line_end (take (line_len us) us) ≡ false → list_any is_line_end (take (line_len (u ∷ us)) (u ∷ us)) ≡ false
    go true h n = rw h refl
    go false h n = rw (h, h, n) refl

-- ---- to the first `*/`

closes : (text : List ℕ) (at u : ℕ) (us : List ℕ) → drop at text ≡ u ∷ us → (u == 0x2A && begins_with 0x2F us) ≡ true → Stands text (codes "*/") at
closes text at u [] e h = let p = and_true (u == 0x2A) false h in cc
closes text at u (v ∷ us) e h =
    let p = and_true (u == 0x2A) (v == 0x2F) h in
    let a = same_number u 0x2A p.0 in
    let b = same_number v 0x2F p.1 in
    ap (take 2) e ∙ (rw (a, b) refl)

stands_at : (u : ℕ) (us : List ℕ) → take 2 (u ∷ us) ≡ codes "*/" → (u == 0x2A && begins_with 0x2F us) ≡ true
stands_at u [] s = cc
stands_at u (v ∷ us) s =
    let a : u ≡ 0x2A = cc in
    let b : v ≡ 0x2F = cc in
    and_in (u == 0x2A) (v == 0x2F) (is_same u 0x2A a) (is_same v 0x2F b)

open_at : (text : List ℕ) (at u : ℕ) (us : List ℕ) → drop at text ≡ u ∷ us → (u == 0x2A && begins_with 0x2F us) ≡ false → ¬ Stands text (codes "*/") at
open_at text at u us e h s = both_ways (u == 0x2A && begins_with 0x2F us) (stands_at u us (sym (ap (take 2) e) ∙ s)) h

none_stands : (text : List ℕ) (at : ℕ) → drop at text ≡ [] → ¬ Stands text (codes "*/") at
none_stands text at e s = let k = sym (ap (take 2) e) ∙ s in cc

-- a line end among the units of a comment's end
no_line : (u : ℕ) (us : List ℕ) → (u == 0x2A && begins_with 0x2F us) ≡ true → list_any is_line_end (take 2 (u ∷ us)) ≡ false
unfolding is_line_end
no_line u [] h = let p = and_true (u == 0x2A) false h in cc
no_line u (v ∷ us) h =
    let p = and_true (u == 0x2A) (v == 0x2F) h in
    rw (same_number u 0x2A p.0, same_number v 0x2F p.1) refl

-- what the comment found says
pub record ClosesAt (text : List ℕ) (us : List ℕ) (at n : ℕ) (line : Bool) (b : Blank) : Type 0 where
  pub body : ℕ
  pub units : b.units ≡ n + body + 4
  pub first : IsFirst (Stands text (codes "*/")) at (at + body)
  pub line_end : b.line ≡ (line || list_any is_line_end (take (body + 2) us))

some_is : (a b : Blank) → Some a ≡ Some b → a ≡ b
some_is a b h = cc

pub block_first : (us text : List ℕ) (at n : ℕ) (line : Bool) (b : Blank) → drop at text ≡ us → block_from n line us ≡ Some b → ClosesAt text us at n line b
block_first [] text at n line b e h = cc
block_first (u ∷ us) text at n line b e h =
    go (u == 0x2A && begins_with 0x2F us) refl (λ l k. block_first us text (at + 1) (n + 1) l b (drop_next text at u us e) k)
  where
    go : (t : Bool) → (u == 0x2A && begins_with 0x2F us) ≡ t
        → ((l : Bool) → block_from (n + 1) l us ≡ Some b → ClosesAt text us (at + 1) (n + 1) l b) → ClosesAt text (u ∷ us) at n line b
    go true t again =
        let is : record { units = n + 4; line = line } ≡ b = some_is (record { units = n + 4; line = line }) b (rw t at h) in
        let z : at ≡ at + 0 = omega arith in
        record {
          body = 0;
          units = sym (ap (λ (x : Blank). x.units) is) ∙ omega arith;
          first = subst (IsFirst (Stands text (codes "*/")) at) z (first_here (Stands text (codes "*/")) at (closes text at u us e t));
          line_end = sym (ap (λ (x : Blank). x.line) is) ∙ sym (or_nothing line) ∙ ap (λ (x : Bool). line || x) (sym (no_line u us t));
        }
    go false t again =
        let f = again (line || is_line_end u) (rw t at h) in
        let z : at + 1 + f.body ≡ at + suc f.body = omega arith in
        record {
          body = suc f.body;
          units = f.units ∙ omega arith;
          first = subst (IsFirst (Stands text (codes "*/")) at) z (first_later (Stands text (codes "*/")) at (at + 1 + f.body) (open_at text at u us e t) f.first);
          line_end = f.line_end ∙ or_assoc line (is_line_end u) (list_any is_line_end (take (f.body + 2) us)) ∙ more (f.body);
        }
      where
        more : (k : ℕ) → (line || (is_line_end u || list_any is_line_end (take (k + 2) us))) ≡ (line || list_any is_line_end (take (suc k + 2) (u ∷ us)))
        more k = let z : suc k + 2 ≡ suc (k + 2) = omega arith in rw z refl

past : (text : List ℕ) (at k : ℕ) → drop at text ≡ [] → at ≤ k → drop k text ≡ []
past text at k e h =
    let n : length text - at ≡ 0 = sym (length-drop at text) ∙ ap length e in
    let m : length text ≤ k = omega arith in
    drop_of_length-le text m

pub block_none : (us text : List ℕ) (at n : ℕ) (line : Bool) → drop at text ≡ us → block_from n line us ≡ None → (k : ℕ) → at ≤ k → ¬ Stands text (codes "*/") k
block_none [] text at n line e h k from_at = none_stands text k (past text at k e from_at)
block_none (u ∷ us) text at n line e h k from_at =
    go (u == 0x2A && begins_with 0x2F us) refl (λ l m. block_none us text (at + 1) (n + 1) l (drop_next text at u us e) m k)
  where
    go : (t : Bool) → (u == 0x2A && begins_with 0x2F us) ≡ t → ((l : Bool) → block_from (n + 1) l us ≡ None → at + 1 ≤ k → ¬ Stands text (codes "*/") k) → ¬ Stands text (codes "*/") k
    go true t again = let z = rw t at h in cc
    go false t again = elim (later at k from_at) [
      | inl same ↦ λ s. open_at text at u us e t (subst (Stands text (codes "*/")) same s)
      | inr after ↦ again (line || is_line_end u) (rw t at h) after
    ]
