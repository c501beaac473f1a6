-- How a parser goes on to another one over some tokens.
use Rattle.std.proofs.Common.{◌≡◌, ℕ, zero, suc, ◌+◌, ◌≤◌, ◌<◌, max, true, false, List, [], ◌∷◌, ◌++◌, length, Ok, Err, refl, sym, ap, subst, append_assoc, length-append, arith, if◌then◌else◌}
use Rattle.sr_ast.specs.declared.tree.Node.{Node}
use Rattle.sr_syntax.specs.declared.sorts.Sort.{Sort}
use Rattle.sr_syntax.specs.declared.sorts.Lexeme.{Lexeme}
use Rattle.sr_syntax.specs.declared.grown.Grown.{Grown}
use Rattle.sr_syntax.specs.Sorts.{same_sort}
use Rattle.sr_syntax.specs.Input.{Input, Outcome, Parser, ◌>>=◌, and_then, pure, eat, expect, left, sort_at, complete}
use Rattle.sr_grammar.specs.Reading.{end_after, head}
use Rattle.sr_grammar.specs.Derivations.{whole}
use Rattle.sr_grammar.proofs.Steps.{inp, done, ending, end_append}
use Rattle.sr_grammar.proofs.Starting.{end_some}
use Rattle.sr_grammar.proofs.Gets.{Gets, gets_is, gets_to, gets_then, gets_trans, gets_now, gets_max, gets_at, gets_whole}
use Rattle.sr_grammar.proofs.Completing.{Turns, expect_goes, eat_yes, eat_no}

-- what is asked of the tokens that follow
abbrev pub Follow : Type 1
Follow = List Lexeme → Type 0

abbrev pub Whatever : Follow
Whatever r = Unit {0}

abbrev pub Like : List Lexeme → Follow
Like ts r = head r ≡ head ts

-- Over these tokens, before what is asked, the parser comes to the other one, with trees of this depth.
pub record Moves {A : Type 0} (P : Parser A) (us : List Lexeme) (h : ℕ) (V : Parser A) (Q : Follow) : Type 0 where
  pub gets : (r : List Lexeme) (l n : ℕ) → Q r → Gets (P (inp (us ++ r) l n)) h (V (inp r (end_after l us) n))

-- and reads this
abbrev pub Takes : {A : Type 0} → Parser A → List Lexeme → ℕ → A → Follow → Type 0
Takes P us h a Q = Moves P us h (pure a) Q

pub moves_then : {A : Type 0} {P V W : Parser A} {us vs : List Lexeme} {h j : ℕ} {Q R : Follow} → Moves P us h V Q → ((r : List Lexeme) → R r → Q (vs ++ r)) → Moves V vs j W R → Moves P (us ++ vs) (max h j) W R
moves_then {P} {V} {W} {us} {vs} {h} {j} m follow k = record {
  gets = λ r l n q.
      subst (λ zs. Gets (P (inp zs l n)) (max h j) (W (inp r (end_after l (us ++ vs)) n))) (sym (append_assoc us vs r))
      (gets_to (gets_max h j (m.gets (vs ++ r) l n (follow r q)) (k.gets r (end_after l us) n q)) (ap (λ a. W (inp r a n)) (sym (end_append l us vs))));
}

-- with no tokens at first, or at last
pub moves_first : {A : Type 0} {P V W : Parser A} {vs : List Lexeme} {h j : ℕ} {Q R : Follow} → Moves P [] h V Q → ((r : List Lexeme) → R r → Q (vs ++ r)) → Moves V vs j W R → Moves P vs (max h j) W R
moves_first {vs} {h} {j} m follow k = record { gets = λ r l n q. gets_max h j (m.gets (vs ++ r) l n (follow r q)) (k.gets r l n q) }

pub moves_last : {A : Type 0} {P V W : Parser A} {us : List Lexeme} {h j : ℕ} {Q R : Follow} → Moves P us h V Q → ((r : List Lexeme) → R r → Q r) → Moves V [] j W R → Moves P us (max h j) W R
moves_last {us} {h} {j} m follow k = record { gets = λ r l n q. gets_max h j (m.gets r l n (follow r q)) (k.gets r (end_after l us) n q) }

-- what is read goes on
pub moves_on : {A B : Type 0} {P : Parser A} {a : A} {us : List Lexeme} {h : ℕ} {Q : Follow} → Moves P us h (pure a) Q → (f : A → Parser B) → Moves (P >>= f) us h (f a) Q
moves_on m f = record { gets = λ r l n q. gets_then (m.gets r l n q) f }

pub moves_at : {A : Type 0} {P V : Parser A} {us : List Lexeme} {Q : Follow} (h j : ℕ) → h ≡ j → Moves P us h V Q → Moves P us j V Q
moves_at h j e m = record { gets = λ r l n q. gets_at h j e (m.gets r l n q) }

pub moves_to : {A : Type 0} {P V W : Parser A} {us : List Lexeme} {h : ℕ} {Q : Follow} → Moves P us h V Q → ((i : Input) → V i ≡ W i) → Moves P us h W Q
moves_to {us} m e = record { gets = λ r l n q. gets_to (m.gets r l n q) (e (inp r (end_after l us) n)) }

pub moves_when : {A : Type 0} {P V : Parser A} {us : List Lexeme} {h : ℕ} {Q R : Follow} → ((r : List Lexeme) → R r → Q r) → Moves P us h V Q → Moves P us h V R
moves_when f m = record { gets = λ r l n q. m.gets r l n (f r q) }

-- by what a parser does before such tokens
pub moves_is : {A : Type 0} {P V W : Parser A} {us : List Lexeme} {h : ℕ} {Q : Follow} → ((r : List Lexeme) (l n : ℕ) → Q r → P (inp (us ++ r) l n) ≡ V (inp (us ++ r) l n)) → Moves V us h W Q → Moves P us h W Q
moves_is {V} {us} e m = record { gets = λ r l n q. gets_is (V (inp (us ++ r) l n)) (e r l n q) (m.gets r l n q) }

-- a step with no tree
pub moves_now : {A : Type 0} {P V : Parser A} {us : List Lexeme} {Q : Follow} → ((r : List Lexeme) (l n : ℕ) → Q r → P (inp (us ++ r) l n) ≡ V (inp r (end_after l us) n)) → Moves P us 0 V Q
moves_now e = record { gets = λ r l n q. gets_now 0 (e r l n q) (omega arith) }

-- a whole tree
pub moves_whole : {P : Parser Grown} {Q : Follow} {us : List Lexeme} {h : ℕ} (nd : Node) (from tall : ℕ) → 0 < length us → h ≤ tall → Moves P us h (complete nd from tall) Q → Takes P us (tall + 1) (whole nd from us tall) Q
moves_whole {us} {h} nd from tall some low m = record {
  gets = λ r l n q.
      gets_to (gets_trans h (tall + 1) (omega (arith, low)) (m.gets r l n q) (gets_whole nd from tall r (end_after l us) n))
      (ap (λ a. done (ending nd from a tall) (inp r (end_after l us) n)) (end_some l 0 us some));
}

-- ---- tokens

pub moves_expect : {A : Type 0} {x : Parser A} (v : Sort) (t : Lexeme) → t.sort ≡ v → same_sort v v ≡ true → Moves (expect v >>= (λ u. x)) (t ∷ []) 0 x Whatever
moves_expect {x} v t c self = moves_now (λ r l n q. expect_goes v t r l n c self (λ u. x))

pub moves_eat : {A : Type 0} (v : Sort) (x y : Parser A) (t : Lexeme) → t.sort ≡ v → same_sort v v ≡ true → Moves (eat v >>= (λ b. if b then x else y)) (t ∷ []) 0 x Whatever
moves_eat v x y t c self = moves_now (λ r l n q. eat_yes v t r l n c self (λ b. if b then x else y))

abbrev pub No : Sort → Follow
No v r = same_sort (sort_at r) v ≡ false

pub moves_over : {A : Type 0} (v : Sort) (x y : Parser A) → Moves (eat v >>= (λ b. if b then x else y)) [] 0 y (No v)
moves_over v x y = moves_now (λ r l n q. eat_no v r l n q (λ b. if b then x else y))

-- ---- loops

-- Over these tokens a parser comes to a state of a loop, with turns enough left.
pub record Enters {S A : Type 0} (P : Parser A) (L : ℕ → S → Parser A) (us : List Lexeme) (h : ℕ) (s : S) (Q : Follow) : Type 0 where
  pub runs : (r : List Lexeme) (l n : ℕ) → Q r → Turns (P (inp (us ++ r) l n)) h (λ m. L m s (inp r (end_after l us) n)) r

-- the loop comes from a state to another one
abbrev pub Loops : {S A : Type 0} → (ℕ → S → Parser A) → List Lexeme → ℕ → S → S → Follow → Type 0
Loops L us h s e Q = Enters (λ i. L (left i + 1) s i) L us h e Q

pub enters_from : {S A : Type 0} {P : Parser A} {us : List Lexeme} {h : ℕ} {Q : Follow} (L : ℕ → S → Parser A) (s : S) → Moves P us h (λ i. L (left i + 1) s i) Q → Enters P L us h s Q
unfolding left
enters_from L s m = record { runs = λ r l n q. record { turns = length r + 1; enough = omega arith; gets = m.gets r l n q } }

pub loops_none : {S A : Type 0} (L : ℕ → S → Parser A) (s : S) (Q : Follow) → Loops L [] 0 s s Q
loops_none L s Q = enters_from L s (moves_now (λ r l n q. refl))

-- a turn
pub loops_more : {S A : Type 0} {P : Parser A} {L : ℕ → S → Parser A} {us vs : List Lexeme} {h j : ℕ} {e f : S} {Q R : Follow} → Enters P L us h e Q → ((r : List Lexeme) → R r → Q (vs ++ r)) → 0 < length vs
    → ((m : ℕ) → Moves (L (suc m) e) vs j (L m f) R) → Enters P L (us ++ vs) (max h j) f R
loops_more {S} {A} {P} {L} {us} {vs} {h} {j} {e} {f} {Q} {R} w follow some turn = record { runs = λ r l n q. go r l n q (w.runs (vs ++ r) l n (follow r q)) }
  where
    next_turn : (r : List Lexeme) (l n m : ℕ) → R r → length (vs ++ r) < m → Turns (L m e (inp (vs ++ r) l n)) j (λ m. L m f (inp r (end_after l vs) n)) r
    next_turn r l n zero q far = absurd (omega (arith, far))
    next_turn r l n (suc m) q far = record { turns = m; enough = omega (arith, far, some, length-append vs r); gets = (turn m).gets r l n q }

    go : (r : List Lexeme) (l n : ℕ) → R r → Turns (P (inp (us ++ (vs ++ r)) l n)) h (λ m. L m e (inp (vs ++ r) (end_after l us) n)) (vs ++ r)
        → Turns (P (inp ((us ++ vs) ++ r) l n)) (max h j) (λ m. L m f (inp r (end_after l (us ++ vs)) n)) r
    go r l n q t =
        let more = next_turn r (end_after l us) n t.turns q t.enough in
        record {
          turns = more.turns;
          enough = more.enough;
          gets = subst (λ zs. Gets (P (inp zs l n)) (max h j) (L more.turns f (inp r (end_after l (us ++ vs)) n))) (sym (append_assoc us vs r))
              (gets_to (gets_max h j t.gets more.gets) (ap (λ a. L more.turns f (inp r a n)) (sym (end_append l us vs))));
        }

-- the last turn
pub loops_last : {S A : Type 0} {P V : Parser A} {L : ℕ → S → Parser A} {us vs : List Lexeme} {h j : ℕ} {e : S} {Q R : Follow} → Enters P L us h e Q → ((r : List Lexeme) → R r → Q (vs ++ r))
    → ((m : ℕ) → Moves (L (suc m) e) vs j V R) → Moves P (us ++ vs) (max h j) V R
loops_last {S} {A} {P} {V} {L} {us} {vs} {h} {j} {e} {Q} {R} w follow turn = record { gets = λ r l n q. go r l n q (w.runs (vs ++ r) l n (follow r q)) }
  where
    last_turn : (r : List Lexeme) (l n m : ℕ) → R r → length (vs ++ r) < m → Gets (L m e (inp (vs ++ r) l n)) j (V (inp r (end_after l vs) n))
    last_turn r l n zero q far = absurd (omega (arith, far))
    last_turn r l n (suc m) q far = (turn m).gets r l n q

    go : (r : List Lexeme) (l n : ℕ) → R r → Turns (P (inp (us ++ (vs ++ r)) l n)) h (λ m. L m e (inp (vs ++ r) (end_after l us) n)) (vs ++ r) → Gets (P (inp ((us ++ vs) ++ r) l n)) (max h j) (V (inp r (end_after l (us ++ vs)) n))
    go r l n q t =
        subst (λ zs. Gets (P (inp zs l n)) (max h j) (V (inp r (end_after l (us ++ vs)) n))) (sym (append_assoc us vs r))
        (gets_to (gets_max h j t.gets (last_turn r (end_after l us) n t.turns q t.enough)) (ap (λ a. V (inp r a n)) (sym (end_append l us vs))))

-- ---- loops of more than one state

-- Over these tokens a loop comes to another one, or to itself in another state, with turns enough left, where it has turns enough.
pub record Goes {A : Type 0} (L K : ℕ → Parser A) (us : List Lexeme) (h : ℕ) (Q : Follow) : Type 0 where
  pub goes : (m : ℕ) (r : List Lexeme) (l n : ℕ) → Q r → length (us ++ r) < m → Turns (L m (inp (us ++ r) l n)) h (λ m. K m (inp r (end_after l us) n)) r

pub goes_none : {A : Type 0} (L : ℕ → Parser A) (Q : Follow) → Goes L L [] 0 Q
goes_none L Q = record { goes = λ m r l n q far. record { turns = m; enough = far; gets = gets_now 0 refl (omega arith) } }

-- a turn
pub goes_turn : {A : Type 0} {L K : ℕ → Parser A} {us : List Lexeme} {h : ℕ} {Q : Follow} → 0 < length us → ((m : ℕ) → Moves (L (suc m)) us h (K m) Q) → Goes L K us h Q
goes_turn {A} {L} {K} {us} {h} {Q} some turn = record { goes = go }
  where
    go : (m : ℕ) (r : List Lexeme) (l n : ℕ) → Q r → length (us ++ r) < m → Turns (L m (inp (us ++ r) l n)) h (λ m. K m (inp r (end_after l us) n)) r
    go zero r l n q far = absurd (omega (arith, far))
    go (suc m) r l n q far = record { turns = m; enough = omega (arith, far, some, length-append us r); gets = (turn m).gets r l n q }

pub goes_then : {A : Type 0} {L K M : ℕ → Parser A} {us vs : List Lexeme} {h j : ℕ} {Q R : Follow} → Goes L K us h Q → ((r : List Lexeme) → R r → Q (vs ++ r)) → Goes K M vs j R → Goes L M (us ++ vs) (max h j) R
goes_then {A} {L} {K} {M} {us} {vs} {h} {j} {Q} {R} first follow second = record { goes = go }
  where
    go : (m : ℕ) (r : List Lexeme) (l n : ℕ) → R r → length ((us ++ vs) ++ r) < m → Turns (L m (inp ((us ++ vs) ++ r) l n)) (max h j) (λ m. M m (inp r (end_after l (us ++ vs)) n)) r
    go m r l n q far =
        let one = first.goes m (vs ++ r) l n (follow r q) (subst (λ zs. length zs < m) (append_assoc us vs r) far) in
        let two = second.goes one.turns r (end_after l us) n q one.enough in
        record {
          turns = two.turns;
          enough = two.enough;
          gets = subst (λ zs. Gets (L m (inp zs l n)) (max h j) (M two.turns (inp r (end_after l (us ++ vs)) n))) (sym (append_assoc us vs r))
              (gets_to (gets_max h j one.gets two.gets) (ap (λ a. M two.turns (inp r a n)) (sym (end_append l us vs))));
        }

-- the last turn
pub goes_last : {A : Type 0} {L K : ℕ → Parser A} {V : Parser A} {us vs : List Lexeme} {h j : ℕ} {Q R : Follow} → Goes L K us h Q → ((r : List Lexeme) → R r → Q (vs ++ r))
    → ((m : ℕ) → Moves (K (suc m)) vs j V R) → Moves (λ i. L (left i + 1) i) (us ++ vs) (max h j) V R
unfolding left
goes_last {A} {L} {K} {V} {us} {vs} {h} {j} {Q} {R} first follow turn = record { gets = go }
  where
    last_turn : (r : List Lexeme) (l n m : ℕ) → R r → length (vs ++ r) < m → Gets (K m (inp (vs ++ r) l n)) j (V (inp r (end_after l vs) n))
    last_turn r l n zero q far = absurd (omega (arith, far))
    last_turn r l n (suc m) q far = (turn m).gets r l n q

    go : (r : List Lexeme) (l n : ℕ) → R r → Gets (L (length ((us ++ vs) ++ r) + 1) (inp ((us ++ vs) ++ r) l n)) (max h j) (V (inp r (end_after l (us ++ vs)) n))
    go r l n q =
        let some = first.goes (length (us ++ (vs ++ r)) + 1) (vs ++ r) l n (follow r q) (omega arith) in
        subst (λ zs. Gets (L (length zs + 1) (inp zs l n)) (max h j) (V (inp r (end_after l (us ++ vs)) n))) (sym (append_assoc us vs r))
        (gets_to (gets_max h j some.gets (last_turn r (end_after l us) n some.turns q some.enough)) (ap (λ a. V (inp r a n)) (sym (end_append l us vs))))

pub goes_at : {A : Type 0} {L K : ℕ → Parser A} {us : List Lexeme} {Q : Follow} (h j : ℕ) → h ≡ j → Goes L K us h Q → Goes L K us j Q
goes_at {L = L} {K} {us} {Q} h j e g = subst (λ a. Goes L K us a Q) e g

pub goes_tokens : {A : Type 0} {L K : ℕ → Parser A} {us vs : List Lexeme} {h : ℕ} {Q : Follow} → us ≡ vs → Goes L K us h Q → Goes L K vs h Q
goes_tokens {L = L} {K} {h = h} {Q} e g = subst (λ zs. Goes L K zs h Q) e g

pub goes_when : {A : Type 0} {L K : ℕ → Parser A} {us : List Lexeme} {h : ℕ} {Q R : Follow} → ((r : List Lexeme) → R r → Q r) → Goes L K us h Q → Goes L K us h R
goes_when f g = record { goes = λ m r l n q far. g.goes m r l n (f r q) far }

-- ---- heights

pub zero_max : (a : ℕ) → max 0 a ≡ a
zero_max a = omega arith

-- a whole tree that is gone on with
pub moves_whole_on : {A : Type 0} {P : Parser A} {Q : Follow} {us : List Lexeme} {h : ℕ} (nd : Node) (from tall : ℕ) → 0 < length us → h ≤ tall → (f : Grown → Parser A) → Moves P us h (complete nd from tall >>= f) Q
    → Moves P us (tall + 1) (f (whole nd from us tall)) Q
moves_whole_on {us} {h} nd from tall some low f m = record {
  gets = λ r l n q.
      gets_to (gets_trans h (tall + 1) (omega (arith, low)) (m.gets r l n q) (gets_then (gets_whole nd from tall r (end_after l us) n) f))
      (ap (λ a. f (ending nd from a tall) (inp r (end_after l us) n)) (end_some l 0 us some));
}

-- ---- the same tokens

pub moves_tokens : {A : Type 0} {P V : Parser A} {us vs : List Lexeme} {h : ℕ} {Q : Follow} → us ≡ vs → Moves P us h V Q → Moves P vs h V Q
moves_tokens {P} {V} {h = h} {Q} e m = subst (λ zs. Moves P zs h V Q) e m

pub enters_tokens : {S A : Type 0} {P : Parser A} {L : ℕ → S → Parser A} {us vs : List Lexeme} {h : ℕ} {s : S} {Q : Follow} → us ≡ vs → Enters P L us h s Q → Enters P L vs h s Q
enters_tokens {P} {L} {h = h} {s} {Q} e m = subst (λ zs. Enters P L zs h s Q) e m

pub enters_at : {S A : Type 0} {P : Parser A} {L : ℕ → S → Parser A} {us : List Lexeme} {s : S} {Q : Follow} (h j : ℕ) → h ≡ j → Enters P L us h s Q → Enters P L us j s Q
enters_at {P} {L} {us} {s} {Q} h j e m = subst (λ a. Enters P L us a s Q) e m

-- ---- parsers that go on

pub moves_through : {A B : Type 0} {P V : Parser A} {us : List Lexeme} {h : ℕ} {Q : Follow} → Moves P us h V Q → (f : A → Parser B) → Moves (P >>= f) us h (V >>= f) Q
moves_through m f = record { gets = λ r l n q. let g = m.gets r l n q in record { fits = λ p. ap (λ o. and_then o f) (g.fits p); deep = λ p. ap (λ o. and_then o f) (g.deep p) } }

both_then : {A B C : Type 0} (o : Outcome A) (f : A → Parser B) (g : B → Parser C) → and_then o (λ x i. and_then (f x i) g) ≡ and_then (and_then o f) g
both_then (Ok p) f g = refl
both_then (Err e) f g = refl

pub moves_both : {A B C : Type 0} (P : Parser A) (f : A → Parser B) {a : B} {us : List Lexeme} {h : ℕ} {Q : Follow} → Takes (P >>= f) us h a Q → (g : B → Parser C) → Moves (P >>= (λ x. f x >>= g)) us h (g a) Q
moves_both P f {us = us} m g = record { gets = λ r l n q. gets_is (and_then (and_then (P (inp (us ++ r) l n)) f) g) (both_then (P (inp (us ++ r) l n)) f g) (gets_then (m.gets r l n q) g) }
