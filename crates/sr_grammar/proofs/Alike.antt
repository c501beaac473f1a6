-- What two parsers do alike, of which the second may have more open, in texts of two lengths.
use Rattle.std.proofs.Common.{◌≡◌, ℕ, ◌+◌, ◌<◌, Bool, true, false, List, [], ◌∷◌, ◌++◌, length, Ok, Err, refl, ap, subst, arith, if◌then◌else◌, nat_lt, ◌||◌}
use Rattle.sr_ast.specs.declared.tree.Node.{Node}
use Rattle.sr_syntax.specs.declared.sorts.Sort.{Sort}
use Rattle.sr_syntax.specs.declared.sorts.Sort.TheVariants.{End}
use Rattle.sr_syntax.specs.declared.sorts.Sort.TheVariants as k
use Rattle.sr_syntax.specs.declared.sorts.Lexeme.{Lexeme}
use Rattle.sr_syntax.specs.declared.refusal.Refusal.TheVariants.{Syntax, TooDeep}
use Rattle.sr_syntax.specs.Sorts.{same_sort}
use Rattle.sr_syntax.specs.Input.{Input, Outcome, Parser, and_then, ◌>>=◌, pure, refuse, peek, here, place, sort, next, left, sees, after, eat, expect, complete, semicolon, take_token, max_depth, line_before}
use Rattle.sr_grammar.specs.Reading.{end_after}
use Rattle.sr_grammar.proofs.Steps.{inp, done}

-- ---- outcomes

-- The first is too deep, or the same is read, or both are refused, wherever.
pub data Like {A : Type 0} (n k : ℕ) : Outcome A → Outcome A → Type 0 where
  deep : {o : Outcome A} → Like n k (Err TooDeep) o
  read : (x : A) (ts : List Lexeme) (l : ℕ) → Like n k (Ok (x, inp ts l n)) (Ok (x, inp ts l k))
  failed : (p q : ℕ) → Like n k (Err (Syntax p)) (Err (Syntax q))

-- Nothing is read.
pub data Stops {A : Type 0} : Outcome A → Outcome A → Type 0 where
  deep_there : {o : Outcome A} → Stops (Err TooDeep) o
  failed_there : (p q : ℕ) → Stops (Err (Syntax p)) (Err (Syntax q))

like_then : {A B : Type 0} {o p : Outcome A} (f g : A → Parser B) (n k : ℕ) → Like n k o p
    → ((x : A) (ts : List Lexeme) (l : ℕ) → Like n k (f x (inp ts l n)) (g x (inp ts l k))) → Like n k (and_then o f) (and_then p g)
like_then f g n k deep h = deep
like_then f g n k (read x ts l) h = h x ts l
like_then f g n k (failed p q) h = failed p q

stops_then : {A B : Type 0} {o p : Outcome A} (f g : A → Parser B) → Stops o p → Stops (and_then o f) (and_then p g)
stops_then f g deep_there = deep_there
stops_then f g (failed_there p q) = failed_there p q

like_stopped : {A : Type 0} {o p : Outcome A} (n k : ℕ) → Stops o p → Like n k o p
like_stopped n k deep_there = deep
like_stopped n k (failed_there p q) = failed p q

-- ---- parsers

-- behind one place
pub record Level {A : Type 0} (p q : Parser A) : Type 0 where
  pub level : (ts : List Lexeme) (l n k : ℕ) → Like n k (p (inp ts l n)) (q (inp ts l k))

-- before a token, behind whatever places
pub record Front {A : Type 0} (p q : Parser A) : Type 0 where
  pub front : (t : Lexeme) (ts : List Lexeme) (l m n k : ℕ) → Like n k (p (inp (t ∷ ts) l n)) (q (inp (t ∷ ts) m k))

-- at the end, where nothing is read
pub record AtEnd {A : Type 0} (p q : Parser A) : Type 0 where
  pub at_end : (l m n k : ℕ) → Stops (p (inp [] l n)) (q (inp [] m k))

-- A token is taken, and what stands before it does not matter.
pub record Takes {A : Type 0} (p q : Parser A) : Type 0 where
  pub first : Front p q
  pub ended : AtEnd p q

pub level_of : {A : Type 0} {p q : Parser A} → Takes p q → Level p q
level_of {A} {p} {q} h = record { level = go }
  where
    go : (ts : List Lexeme) (l n k : ℕ) → Like n k (p (inp ts l n)) (q (inp ts l k))
    go [] l n k = like_stopped n k (h.ended.at_end l l n k)
    go (t ∷ ts) l n k = h.first.front t ts l l n k

-- ---- what is read again

again : {A : Type 0} {o p : Outcome A} (x : A) (ts : List Lexeme) (l n k : ℕ) → Like n k o p → o ≡ done x (inp ts l n) → p ≡ done x (inp ts l k)
again x ts l n k deep h = cc
again {A} x ts l n k (read y rs m) h =
    let s : ◌≡◌ {A = A × Input} (y, inp rs m n) (x, inp ts l n) = cc in
    let a : y ≡ x = ap (λ p. p.0) s in
    let b : rs ≡ ts = ap (λ p. p.1.rest) s in
    let c : m ≡ l = ap (λ p. p.1.last) s in
    rw a (rw b (rw c refl))
again x ts l n k (failed p q) h = cc

pub read_again : {A : Type 0} {p q : Parser A} (us ts : List Lexeme) (x : A) (l m n k : ℕ) → Front p q → 0 < length us
    → p (inp (us ++ ts) l n) ≡ done x (inp ts (end_after l us) n) → q (inp (us ++ ts) m k) ≡ done x (inp ts (end_after m us) k)
read_again [] ts x l m n k f some h = absurd (omega (arith, some))
read_again (u ∷ us) ts x l m n k f some h = again x ts (end_after u.to us) n k (f.front u (us ++ ts) l m n k) h

-- ---- one after the other

pub level_then : {A B : Type 0} {p q : Parser A} {f g : A → Parser B} → Level p q → ((x : A) → Level (f x) (g x)) → Level (p >>= f) (q >>= g)
level_then {f = f} {g = g} h i = record { level = λ ts l n k. like_then f g n k (h.level ts l n k) (λ x rs m. (i x).level rs m n k) }

pub front_then : {A B : Type 0} {p q : Parser A} {f g : A → Parser B} → Front p q → ((x : A) → Level (f x) (g x)) → Front (p >>= f) (q >>= g)
front_then {f = f} {g = g} h i = record { front = λ t ts l m n k. like_then f g n k (h.front t ts l m n k) (λ x rs o. (i x).level rs o n k) }

pub end_then : {A B : Type 0} {p q : Parser A} (f g : A → Parser B) → AtEnd p q → AtEnd (p >>= f) (q >>= g)
end_then f g h = record { at_end = λ l m n k. stops_then f g (h.at_end l m n k) }

pub takes_then : {A B : Type 0} {p q : Parser A} {f g : A → Parser B} → Takes p q → ((x : A) → Level (f x) (g x)) → Takes (p >>= f) (q >>= g)
takes_then {f = f} {g = g} h i = record { first = front_then h.first i; ended = end_then f g h.ended }

-- ---- steps

pub level_pure : {A : Type 0} (x : A) → Level (pure x) (pure x)
level_pure x = record { level = λ ts l n k. read x ts l }

pub takes_refuse : {A : Type 0} → Takes {A = A} refuse refuse
takes_refuse = record { first = record { front = λ t ts l m n k. failed _ _ }; ended = record { at_end = λ l m n k. failed_there _ _ } }

-- what is looked at is a token that is left
abbrev pub Plain : {A : Type 0} → (Input → A) → Type 0
Plain f = (ts : List Lexeme) (l m n k : ℕ) → f (inp ts l n) ≡ f (inp ts m k)

pub level_look : {A : Type 0} (f : Input → A) → Plain f → Level (λ i. Ok (f i, i)) (λ i. Ok (f i, i))
level_look f plain = record { level = λ ts l n k. subst (λ x. Like n k (done (f (inp ts l n)) (inp ts l n)) (done x (inp ts l k))) (plain ts l l n k) (read (f (inp ts l n)) ts l) }

pub front_look : {A B : Type 0} {g h : A → Parser B} (f : Input → A) → Plain f → ((x : A) → Front (g x) (h x)) → Front ((λ i. Ok (f i, i)) >>= g) ((λ i. Ok (f i, i)) >>= h)
front_look {g = g} {h = h} f plain i = record {
  front = λ t ts l m n k.
      subst (λ x. Like n k (g (f (inp (t ∷ ts) l n)) (inp (t ∷ ts) l n)) (h x (inp (t ∷ ts) m k))) (plain (t ∷ ts) l m n k) ((i (f (inp (t ∷ ts) l n))).front t ts l m n k);
}

pub end_look : {A B : Type 0} (g h : A → Parser B) (f : Input → A) (x : A) → ((l n : ℕ) → f (inp [] l n) ≡ x) → AtEnd (g x) (h x)
    → AtEnd ((λ i. Ok (f i, i)) >>= g) ((λ i. Ok (f i, i)) >>= h)
end_look g h f x is i = record { at_end = λ l m n k. rw (is l n) (rw (is m k) (i.at_end l m n k)) }

pub front_take : {A : Type 0} (f : Input → A) → Plain f → Front (λ i. Ok (f i, next i)) (λ i. Ok (f i, next i))
unfolding next
front_take f plain = record {
  front = λ t ts l m n k.
      subst (λ x. Like n k (done (f (inp (t ∷ ts) l n)) (inp ts t.to n)) (done x (inp ts t.to k))) (plain (t ∷ ts) l m n k) (read (f (inp (t ∷ ts) l n)) ts t.to);
}

pub level_take : {A : Type 0} (f : Input → A) → Plain f → Level (λ i. Ok (f i, next i)) (λ i. Ok (f i, next i))
unfolding next
level_take f plain = record { level = go }
  where
    go : (ts : List Lexeme) (l n k : ℕ) → Like n k (done (f (inp ts l n)) (next (inp ts l n))) (done (f (inp ts l k)) (next (inp ts l k)))
    go [] l n k = subst (λ x. Like n k (done (f (inp [] l n)) (inp [] l n)) (done x (inp [] l k))) (plain [] l l n k) (read (f (inp [] l n)) [] l)
    go (t ∷ ts) l n k = (front_take f plain).front t ts l l n k

-- by what is looked at
pub level_by : {A X : Type 0} (c : Input → X) → Plain c → (f g : X → Parser A) → ((x : X) → Level (f x) (g x)) → Level (λ i. f (c i) i) (λ i. g (c i) i)
level_by c plain f g h = record {
  level = λ ts l n k.
      subst (λ x. Like n k (f (c (inp ts l n)) (inp ts l n)) (g x (inp ts l k))) (plain ts l l n k) ((h (c (inp ts l n))).level ts l n k);
}

pub takes_by : {A X : Type 0} (c : Input → X) → Plain c → (f g : X → Parser A) → ((x : X) → Takes (f x) (g x)) → Takes (λ i. f (c i) i) (λ i. g (c i) i)
takes_by c plain f g h = record {
  first = record {
    front = λ t ts l m n k.
        subst (λ x. Like n k (f (c (inp (t ∷ ts) l n)) (inp (t ∷ ts) l n)) (g x (inp (t ∷ ts) m k))) (plain (t ∷ ts) l m n k) ((h (c (inp (t ∷ ts) l n))).first.front t ts l m n k);
  };
  ended = record {
    at_end = λ l m n k.
        subst (λ x. Stops (f (c (inp [] l n)) (inp [] l n)) (g x (inp [] m k))) (plain [] l m n k) ((h (c (inp [] l n))).ended.at_end l m n k);
  };
}

-- by how many tokens are left
plain_left : Plain left
unfolding left
plain_left ts l m n k = refl

plain_turns : Plain (λ i. left i + 1)
unfolding left
plain_turns ts l m n k = refl

pub level_left : {A : Type 0} (f g : ℕ → Parser A) → ((m : ℕ) → Level (f m) (g m)) → Level (λ i. f (left i) i) (λ i. g (left i) i)
level_left f g h = level_by left plain_left f g h

pub level_turns : {A : Type 0} (f g : ℕ → Parser A) → ((m : ℕ) → Level (f m) (g m)) → Level (λ i. f (left i + 1) i) (λ i. g (left i + 1) i)
level_turns f g h = level_by (λ i. left i + 1) plain_turns f g h

pub takes_turns : {A : Type 0} (f g : ℕ → Parser A) → ((m : ℕ) → Takes (f m) (g m)) → Takes (λ i. f (left i + 1) i) (λ i. g (left i + 1) i)
takes_turns f g h = takes_by (λ i. left i + 1) plain_turns f g h

-- ---- one or the other

pub level_if : {A : Type 0} {p q r s : Parser A} (b : Bool) → Level p q → Level r s → Level (if b then p else r) (if b then q else s)
level_if true h i = h
level_if false h i = i

pub front_if : {A : Type 0} {p q r s : Parser A} (b : Bool) → Front p q → Front r s → Front (if b then p else r) (if b then q else s)
front_if true h i = h
front_if false h i = i

like_if : {A : Type 0} {o p r s : Outcome A} (n k : ℕ) (b c : Bool) → b ≡ c → Like n k o p → Like n k r s → Like n k (if b then o else r) (if c then p else s)
like_if n k true true e h i = h
like_if n k false false e h i = i
like_if n k true false e h i = cc
like_if n k false true e h i = cc

pub level_choose : {A : Type 0} {p q r s : Parser A} (c : Input → Bool) → Plain c → Level p q → Level r s → Level (λ i. if c i then p i else r i) (λ i. if c i then q i else s i)
level_choose c plain h i = record { level = λ ts l n k. like_if n k (c (inp ts l n)) (c (inp ts l k)) (plain ts l l n k) (h.level ts l n k) (i.level ts l n k) }

pub front_choose : {A : Type 0} {p q r s : Parser A} (c : Input → Bool) → Plain c → Front p q → Front r s → Front (λ i. if c i then p i else r i) (λ i. if c i then q i else s i)
front_choose c plain h i = record {
  front = λ t ts l m n k.
      like_if n k (c (inp (t ∷ ts) l n)) (c (inp (t ∷ ts) m k)) (plain (t ∷ ts) l m n k) (h.front t ts l m n k) (i.front t ts l m n k);
}

-- at the end it is the other one
pub end_choose : {A : Type 0} {r s : Parser A} (p q : Parser A) (c : Input → Bool) → ((l n : ℕ) → c (inp [] l n) ≡ false) → AtEnd r s → AtEnd (λ i. if c i then p i else r i) (λ i. if c i then q i else s i)
end_choose p q c none h = record {
  at_end = λ l m n k.
      go (c (inp [] l n)) (c (inp [] m k)) (p (inp [] l n)) (q (inp [] m k)) (none l n) (none m k) (h.at_end l m n k);
}
  where
    go : {A : Type 0} {o w : Outcome A} (a b : Bool) (u v : Outcome A) → a ≡ false → b ≡ false → Stops o w → Stops (if a then u else o) (if b then v else w)
    go false false u v e f i = i
    go true b u v e f i = cc
    go false true u v e f i = cc

pub takes_choose : {A : Type 0} {p q r s : Parser A} (c : Input → Bool) → Plain c → ((l n : ℕ) → c (inp [] l n) ≡ false) → Front p q → Takes r s
    → Takes (λ i. if c i then p i else r i) (λ i. if c i then q i else s i)
takes_choose {p = p} {q = q} c plain none h i = record { first = front_choose c plain h i.first; ended = end_choose p q c none i.ended }

-- ---- places

pub front_here : {A : Type 0} {f g : ℕ → Parser A} → ((from : ℕ) → Front (f from) (g from)) → Front (here >>= f) (here >>= g)
unfolding place
front_here h = record { front = λ t ts l m n k. (h t.from).front t ts l m n k }

pub takes_here : {A : Type 0} {f g : ℕ → Parser A} → ((from : ℕ) → Front (f from) (g from)) → ((from to : ℕ) → AtEnd (f from) (g to)) → Takes (here >>= f) (here >>= g)
unfolding place
takes_here h i = record { first = front_here h; ended = record { at_end = λ l m n k. (i n k).at_end l m n k } }

-- by the first token
pub front_peek : {A : Type 0} {f g : Sort → Parser A} → ((s : Sort) → Front (f s) (g s)) → Front (peek >>= f) (peek >>= g)
unfolding sort
front_peek h = front_look sort (λ ts l m n k. refl) h

pub level_peek : Level peek peek
unfolding sort
level_peek = level_look sort (λ ts l m n k. refl)

pub end_peek : {A : Type 0} (f g : Sort → Parser A) → AtEnd (f End) (g End) → AtEnd (peek >>= f) (peek >>= g)
unfolding sort
end_peek f g h = record { at_end = λ l m n k. h.at_end l m n k }

pub takes_by_first : {A : Type 0} {f g : ℕ → Sort → Parser A} → ((from : ℕ) (s : Sort) → Front (f from s) (g from s)) → ((from to : ℕ) → AtEnd (f from End) (g to End))
    → Takes (here >>= (λ from. peek >>= f from)) (here >>= (λ from. peek >>= g from))
takes_by_first {f = f} {g = g} h i = takes_here (λ from. front_peek (h from)) (λ from to. end_peek (f from) (g to) (i from to))

-- ---- tokens

pub plain_sees : (s : Sort) → Plain (sees s)
unfolding sees sort
plain_sees s ts l m n k = refl

pub level_eat : (s : Sort) → Level (eat s) (eat s)
unfolding sees sort after next
level_eat s = record { level = λ ts l n k. go ts l n k (same_sort (sort (inp ts l n)) s) refl }
  where
    go : (ts : List Lexeme) (l n k : ℕ) (b : Bool) → same_sort (sort (inp ts l n)) s ≡ b → Like n k (eat s (inp ts l n)) (eat s (inp ts l k))
    go [] l n k true e = rw e (read true [] l)
    go (t ∷ ts) l n k true e = rw e (read true ts t.to)
    go ts l n k false e = rw e (read false ts l)

abbrev pub unit_of : Input → Unit {0}
unit_of i = tt

pub takes_expect : (s : Sort) → same_sort End s ≡ false → Takes (expect s) (expect s)
unfolding expect sees sort
takes_expect s other = takes_choose (sees s) (plain_sees s) (λ l n. other) (front_take unit_of (λ ts l m n k. refl)) takes_refuse

pub level_expect : (s : Sort) → Level (expect s) (expect s)
unfolding expect
level_expect s = level_choose (sees s) (plain_sees s) (level_take unit_of (λ ts l m n k. refl)) (level_of takes_refuse)

pub level_token : Level take_token take_token
level_token = level_take unit_of (λ ts l m n k. refl)

pub front_token : Front take_token take_token
front_token = front_take unit_of (λ ts l m n k. refl)

pub plain_line : Plain line_before
unfolding line_before
plain_line ts l m n k = refl

semicolon_left_out : Plain (λ i. sees k.RightBrace i || line_before i)
unfolding sees sort line_before
semicolon_left_out ts l m n k = refl

pub level_semicolon : Level semicolon semicolon
unfolding semicolon
level_semicolon = level_choose (sees k.Semicolon) (plain_sees k.Semicolon) level_token
    (level_choose (λ i. sees k.RightBrace i || line_before i) semicolon_left_out (level_pure tt) (level_of takes_refuse))

pub unseen : (s : Sort) → same_sort End s ≡ false → (l n : ℕ) → sees s (inp [] l n) ≡ false
unfolding sees sort
unseen s other l n = other

-- ---- trees

pub level_complete : (node : Node) (from tall : ℕ) → Level (complete node from tall) (complete node from tall)
unfolding complete
level_complete node from tall = record { level = λ ts l n k. like_if n k (nat_lt tall max_depth) (nat_lt tall max_depth) refl (read _ ts l) deep }
