-- One turn of a gap.
use Rattle.std.proofs.Common.{◌≡◌, ℕ, zero, suc, ◌+◌, ◌≢◌, Bool, true, false, ◌||◌, List, [], ◌∷◌, drop, refl, sym, ap, ◌∙◌, subst, arith, add_assoc, add-zero}
use Rattle.std.specs.Prelude.{◌==◌, ◌&&◌, None}
use Rattle.std.proofs.lemmas.List.{drop-drop}
use Rattle.sr_lex.specs.Units.{is_line_end}
use Rattle.sr_lex.specs.Closed.{NoClose}
use Rattle.sr_lex.specs.Units.{begins_with}
use Rattle.sr_lex.specs.Scan.{nothing, join, piece, gap, block_from}
use Rattle.sr_lex.specs.declared.gaps.Blank.{Blank}
use Rattle.sr_lex.proofs.Truth.{or_nothing, or_assoc, nonzero}

join_nothing : (a : Blank) → join a nothing ≡ a
join_nothing a = rw (add-zero, or_nothing a.line) refl

join_assoc : (a b c : Blank) → join (join a b) c ≡ join a (join b c)
join_assoc a b c = rw (add_assoc, or_assoc a.line b.line c.line) refl

pub stopped : (m : ℕ) (first : Bool) (us : List ℕ) → (piece first us).units ≡ 0 → gap m first us ≡ nothing
stopped zero first us h = refl
stopped (suc m) first us h = rw h refl

pub gap_stops : (m : ℕ) (first : Bool) (us : List ℕ) (a : Blank) → (piece first us).units ≡ 0 → join a (gap m first us) ≡ a
gap_stops m first us a h = ap (join a) (stopped m first us h) ∙ join_nothing a

pub went : (m n : ℕ) (first : Bool) (us : List ℕ) → (piece first us).units ≡ suc n → gap (suc m) first us ≡ join (piece first us) (gap m false (drop (piece first us).units us))
went m n first us h = rw (h, nonzero n) refl

some : (n : ℕ) → n ≢ 0 → (k : ℕ) × (n ≡ suc k)
some zero h = absurd (h refl)
some (suc n) h = (n, refl)

pub gap_goes : (k m : ℕ) (first : Bool) (us : List ℕ) (a : Blank) → k ≡ suc m → (piece first us).units ≢ 0
    → join a (gap k first us) ≡ join (join a (piece first us)) (gap m false (drop (piece first us).units us))
gap_goes k m first us a e h =
    let n = some (piece first us).units h in
    ap (λ (i : ℕ). join a (gap i first us)) e ∙ ap (join a) (went m n.0 first us n.1) ∙ sym (join_assoc a (piece first us) (gap m false (drop (piece first us).units us)))

-- ---- no comment closes

any_count : (n m : ℕ) (line other : Bool) (us : List ℕ) → block_from n line us ≡ None → block_from m other us ≡ None
any_count n m line other [] h = refl
any_count n m line other (u ∷ us) h = go (u == 0x2A && begins_with 0x2F us) refl (λ line other. any_count (n + 1) (m + 1) line other us)
  where
    go : (b : Bool) → (u == 0x2A && begins_with 0x2F us) ≡ b → ((line other : Bool) → block_from (n + 1) line us ≡ None → block_from (m + 1) other us ≡ None)
        → block_from m other (u ∷ us) ≡ None
    go true e again = let k = rw e at h in cc
    go false e again = rw e (again (line || is_line_end u) (other || is_line_end u) (rw e at h))

close_tail : (u : ℕ) (us : List ℕ) → NoClose (u ∷ us) → NoClose us
close_tail u us h = go (u == 0x2A && begins_with 0x2F us) refl
  where
    go : (b : Bool) → (u == 0x2A && begins_with 0x2F us) ≡ b → NoClose us
    go true e = let k = rw e at h in cc
    go false e = any_count 1 0 (false || is_line_end u) false us (rw e at h)

close_drop : (k : ℕ) (us : List ℕ) → NoClose us → NoClose (drop k us)
close_drop zero us h = h
close_drop (suc k) [] h = h
close_drop (suc k) (u ∷ us) h = close_drop k us (close_tail u us h)

-- and so it is further on
pub closed_on : (a b : ℕ) (us : List ℕ) → NoClose (drop 2 (drop a us)) → NoClose (drop 2 (drop (a + b) us))
closed_on a b us h =
    let e : drop b (drop 2 (drop a us)) ≡ drop 2 (drop (a + b) us) =
    ap (drop b) (drop-drop 2 a us) ∙ drop-drop b (a + 2) us ∙ ap (λ (i : ℕ). drop i us) (omega arith) ∙ sym (drop-drop 2 (a + b) us) in
    subst NoClose e (close_drop b (drop 2 (drop a us)) h)
