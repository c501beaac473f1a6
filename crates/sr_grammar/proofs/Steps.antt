-- What the steps of a parser read, where they fail, and that they look at no more than one token behind what they read.
use Rattle.std.proofs.Common.{◌≡◌, ℕ, zero, suc, ◌+◌, ◌≤◌, Bool, true, false, List, [], ◌∷◌, ◌++◌, length, Result, Ok, Err, refl, sym, ap, ◌∙◌, subst, append_assoc, length-append, arith, rules, ◌⊎◌, inl, inr, if◌then◌else◌, nat_lt, ◌<◌, ◌&&◌, Some}
use Rattle.sr_syntax.specs.declared.sorts.Lexeme.{Lexeme}
use Rattle.sr_syntax.specs.declared.refusal.Refusal.{Refusal}
use Rattle.sr_syntax.specs.declared.refusal.Refusal.TheVariants.{Memory, Syntax, TooDeep}
use Rattle.sr_syntax.specs.Input.{Input, Outcome, Parser, and_then, ◌>>=◌, place_at, sort_at, line_at, content_at, place, next, refuse, eat, sees, after, sort, expect, complete, max_depth}
use Rattle.sr_syntax.specs.declared.sorts.Sort.{Sort}
use Rattle.sr_syntax.specs.declared.sorts.Sort.TheVariants.{End}
use Rattle.sr_syntax.specs.contracts.sorts.Sort.{the_type}
use Rattle.sr_syntax.specs.Sorts.{same_sort}
use denote.Enum.Bare.{same_true}
use Rattle.sr_syntax.specs.declared.grown.Grown.{Grown}
use Rattle.sr_ast.specs.declared.tree.Tree.{roll-Tree}
use Rattle.sr_ast.specs.declared.tree.Node.{Node}
use Rattle.std.proofs.lemmas.Bool.{ltb-true}
use Rattle.sr_grammar.specs.Reading.{end_after, head}

-- ---- inputs

abbrev pub inp : List Lexeme → ℕ → ℕ → Input
inp rest last size = record { rest = rest; last = last; size = size }

pub head_append : (us ts rs : List Lexeme) → head rs ≡ head ts → head (us ++ rs) ≡ head (us ++ ts)
head_append [] ts rs h = h
head_append (u ∷ us) ts rs h = refl

pub end_append : (l : ℕ) (us vs : List Lexeme) → end_after l (us ++ vs) ≡ end_after (end_after l us) vs
end_append l [] vs = refl
end_append l (u ∷ us) vs = end_append u.to us vs

pub split_again : {all : List Lexeme} (us vs ts rs : List Lexeme) → all ≡ us ++ ts → ts ≡ vs ++ rs → all ≡ (us ++ vs) ++ rs
split_again us vs ts rs h k = h ∙ ap (λ zs. us ++ zs) k ∙ sym (append_assoc us vs rs)

-- ---- outcomes

abbrev pub answer : {A : Type 0} → A → Result A Refusal
answer a = Ok a

abbrev pub done : {A : Type 0} → A → Input → Outcome A
done a i = Ok (a, i)

abbrev pub refusal : {A : Type 0} → Refusal → Outcome A
refusal e = Err e

abbrev pub fault_at : {A : Type 0} → ℕ → Outcome A
fault_at place = Err (Syntax place)

pub along : {A : Type 0} {a b : A} (P : A → Type 0) → answer a ≡ answer b → P a → P b
along {A} {a} {b} P h p = let e : a ≡ b = cc in subst P e p

pub bind_ok : {A B : Type 0} (o : Outcome A) (f : A → Parser B) (y : B × Input) → and_then o f ≡ Ok y
    → (x : A) × (i : Input) × (o ≡ Ok (x, i)) × (f x i ≡ Ok y)
bind_ok (Ok p) f y h = (p.0, p.1, refl, h)
bind_ok (Err e) f y h = cc

pub bind_err : {A B : Type 0} (o : Outcome A) (f : A → Parser B) (e : Refusal) → and_then o f ≡ Err e
    → (o ≡ Err e) ⊎ ((x : A) × (i : Input) × (o ≡ Ok (x, i)) × (f x i ≡ Err e))
bind_err (Ok p) f e h = inr (p.0, p.1, refl, h)
bind_err (Err c) f e h = let s : c ≡ e = cc in inl (ap Err s)

-- ---- parsers with so many rules that may be open

-- what holds, at a place before which the last token ended and in a text of a length, of what was read, of what is left
-- and of what was made
abbrev pub Fact : Type 0 → Type 1
Fact A = ℕ → ℕ → List Lexeme → List Lexeme → A → Type 0

abbrev pub Fault : Type 1
Fault = ℕ → ℕ → List Lexeme → List Lexeme → Type 0

pub record Read {A : Type 0} (P : ℕ → Parser A) (d : ℕ) (R : Fact A) (l n : ℕ) (all : List Lexeme) (x : A) (j : Input) : Type 0 where
  pub us : List Lexeme
  pub ts : List Lexeme
  pub split : all ≡ us ++ ts
  pub left : j ≡ inp ts (end_after l us) n
  pub fact : R l n us ts x
  -- the same is read before whatever begins alike, with more that may be open
  pub again : (e : ℕ) (rs : List Lexeme) → d ≤ e → head rs ≡ head ts → P e (inp (us ++ rs) l n) ≡ Ok (x, inp rs (end_after l us) n)

pub record Failed {A : Type 0} (P : ℕ → Parser A) (d : ℕ) (B : Fault) (l n : ℕ) (all : List Lexeme) (place : ℕ) : Type 0 where
  pub us : List Lexeme
  pub ts : List Lexeme
  pub split : all ≡ us ++ ts
  pub at : place ≡ place_at n ts
  pub fault : B l n us ts
  pub again : (e : ℕ) (rs : List Lexeme) → d ≤ e → head rs ≡ head ts → P e (inp (us ++ rs) l n) ≡ Err (Syntax (place_at n rs))

-- what is asked of the tokens that are left
abbrev pub Need : Type 1
Need = List Lexeme → Type 0

pub record Parses {A : Type 0} (P : ℕ → Parser A) (d : ℕ) (Q : Need) (R : Fact A) (B : Fault) : Type 0 where
  pub reads : (l n : ℕ) (all : List Lexeme) (x : A) (j : Input) → Q all → P d (inp all l n) ≡ Ok (x, j) → Read P d R l n all x j
  pub fails : (l n : ℕ) (all : List Lexeme) (place : ℕ) → Q all → P d (inp all l n) ≡ Err (Syntax place) → Failed P d B l n all place
  -- memory is no reason here
  pub safe : (l n : ℕ) (all : List Lexeme) → Q all → P d (inp all l n) ≡ Err Memory → ⊥

-- ---- weaker facts, and more that is asked

pub map : {A : Type 0} {P : ℕ → Parser A} {d : ℕ} {Q : Need} {R S : Fact A} {B F : Fault}
    → ((l n : ℕ) (us ts : List Lexeme) (x : A) → R l n us ts x → S l n us ts x)
    → ((l n : ℕ) (us ts : List Lexeme) → B l n us ts → F l n us ts)
    → Parses P d Q R B → Parses P d Q S F
map f g p = record {
  reads = λ l n all x j q h. let r = p.reads l n all x j q h in record { us = r.us; ts = r.ts; split = r.split; left = r.left; fact = f l n r.us r.ts x r.fact; again = r.again };
  fails = λ l n all place q h. let r = p.fails l n all place q h in record { us = r.us; ts = r.ts; split = r.split; at = r.at; fault = g l n r.us r.ts r.fault; again = r.again };
  safe = p.safe;
}

-- with what was asked
pub map_given : {A : Type 0} {P : ℕ → Parser A} {d : ℕ} {Q : Need} {R S : Fact A} {B F : Fault}
    → ((l n : ℕ) (us ts : List Lexeme) (x : A) → Q (us ++ ts) → R l n us ts x → S l n us ts x)
    → ((l n : ℕ) (us ts : List Lexeme) → Q (us ++ ts) → B l n us ts → F l n us ts)
    → Parses P d Q R B → Parses P d Q S F
map_given {Q} f g p = record {
  reads = λ l n all x j q h. let r = p.reads l n all x j q h in record { us = r.us; ts = r.ts; split = r.split; left = r.left; fact = f l n r.us r.ts x (subst Q r.split q) r.fact; again = r.again };
  fails = λ l n all place q h. let r = p.fails l n all place q h in record { us = r.us; ts = r.ts; split = r.split; at = r.at; fault = g l n r.us r.ts (subst Q r.split q) r.fault; again = r.again };
  safe = p.safe;
}

pub given : {A : Type 0} {P : ℕ → Parser A} {d : ℕ} {Q M : Need} {R : Fact A} {B : Fault}
    → ((ts : List Lexeme) → M ts → Q ts) → Parses P d Q R B → Parses P d M R B
given f p = record { reads = λ l n all x j q h. p.reads l n all x j (f all q) h; fails = λ l n all place q h. p.fails l n all place (f all q) h; safe = λ l n all q h. p.safe l n all (f all q) h }

-- with what is read again before whatever begins alike
pub map_again : {A : Type 0} {P : ℕ → Parser A} {d : ℕ} {Q : Need} {R S : Fact A} {B : Fault}
    → ((l n : ℕ) (us ts : List Lexeme) (x : A) → R l n us ts x → ((rs : List Lexeme) → head rs ≡ head ts → P d (inp (us ++ rs) l n) ≡ Ok (x, inp rs (end_after l us) n)) → S l n us ts x)
    → Parses P d Q R B → Parses P d Q S B
map_again {d = d} f p = record {
  reads = λ l n all x j q h. let r = p.reads l n all x j q h in record {
    us = r.us;
    ts = r.ts;
    split = r.split;
    left = r.left;
    fact = f l n r.us r.ts x r.fact (λ rs same. r.again d rs (omega arith) same);
    again = r.again;
  };
  fails = p.fails;
  safe = p.safe;
}

-- ---- one after the other

pub data Both {A C : Type 0} (R : Fact A) (S : A → Fact C) (l n : ℕ) : List Lexeme → List Lexeme → C → Type 0 where
  both : {us vs ts : List Lexeme} {x : A} {y : C} → R l n us (vs ++ ts) x → S x (end_after l us) n vs ts y → Both R S l n (us ++ vs) ts y

pub data Either {A : Type 0} (B : Fault) (R : Fact A) (C : A → Fault) (l n : ℕ) : List Lexeme → List Lexeme → Type 0 where
  first : {us ts : List Lexeme} → B l n us ts → Either B R C l n us ts
  second : {us vs ts : List Lexeme} {x : A} → R l n us (vs ++ ts) x → C x (end_after l us) n vs ts → Either B R C l n (us ++ vs) ts

bind_again : {A C : Type 0} (P : ℕ → Parser A) (Q : ℕ → A → Parser C) (e l n : ℕ) (us vs rs : List Lexeme) (x : A) (o : Outcome C)
    → P e (inp (us ++ (vs ++ rs)) l n) ≡ Ok (x, inp (vs ++ rs) (end_after l us) n)
    → Q e x (inp (vs ++ rs) (end_after l us) n) ≡ o
    → (P e >>= Q e) (inp ((us ++ vs) ++ rs) l n) ≡ o
bind_again P Q e l n us vs rs x o h k = rw (append_assoc us vs rs) (ap (λ p. and_then p (Q e)) h ∙ k)

module _ {A C : Type 0} {P : ℕ → Parser A} {Q : ℕ → A → Parser C} {d : ℕ} {N : Need} {M : A → Need} {R : Fact A} {B : Fault} {S : A → Fact C} {F : A → Fault}
    (need : (l n : ℕ) (us ts : List Lexeme) (x : A) → N (us ++ ts) → R l n us ts x → M x ts) where
  bind_reads : Parses P d N R B → ((x : A) → Parses (λ e. Q e x) d (M x) (S x) (F x))
      → (l n : ℕ) (all : List Lexeme) (y : C) (j : Input) → N all → (P d >>= Q d) (inp all l n) ≡ Ok (y, j) → Read (λ e. P e >>= Q e) d (Both R S) l n all y j
  bind_reads p q l n all y j m h =
      let b = bind_ok (P d (inp all l n)) (Q d) (y, j) h in
      let one = p.reads l n all b.0 b.1 m b.2 in
      let two = (q b.0).reads (end_after l one.us) n one.ts y j (need l n one.us one.ts b.0 (subst N one.split m) one.fact) (subst (λ i. Q d b.0 i ≡ Ok (y, j)) one.left b.3) in
      record {
        us = one.us ++ two.us;
        ts = two.ts;
        split = split_again one.us two.us one.ts two.ts one.split two.split;
        left = two.left ∙ ap (λ m. inp two.ts m n) (sym (end_append l one.us two.us));
        fact = both (subst (λ zs. R l n one.us zs b.0) two.split one.fact) two.fact;
        again = λ e rs more same.
            let first = one.again e (two.us ++ rs) more (head_append two.us two.ts rs same ∙ ap head (sym two.split)) in
            let then_ = two.again e rs more same in
            bind_again P Q e l n one.us two.us rs b.0 (Ok (y, inp rs (end_after l (one.us ++ two.us)) n)) first
            (then_ ∙ ap (λ m. Ok (y, inp rs m n)) (sym (end_append l one.us two.us)));
      }

  bind_fails : Parses P d N R B → ((x : A) → Parses (λ e. Q e x) d (M x) (S x) (F x))
      → (l n : ℕ) (all : List Lexeme) (place : ℕ) → N all → (P d >>= Q d) (inp all l n) ≡ Err (Syntax place) → Failed (λ e. P e >>= Q e) d (Either B R F) l n all place
  bind_fails p q l n all place m h = pick (bind_err (P d (inp all l n)) (Q d) (Syntax place) h)
    where
      pick : (P d (inp all l n) ≡ Err (Syntax place)) ⊎ ((x : A) × (i : Input) × (P d (inp all l n) ≡ Ok (x, i)) × (Q d x i ≡ Err (Syntax place)))
          → Failed (λ e. P e >>= Q e) d (Either B R F) l n all place
      pick (inl h) = let one = p.fails l n all place m h in record {
        us = one.us;
        ts = one.ts;
        split = one.split;
        at = one.at;
        fault = first one.fault;
        again = λ e rs more same. ap (λ o. and_then o (Q e)) (one.again e rs more same);
      }
      pick (inr b) =
          let one = p.reads l n all b.0 b.1 m b.2 in
          let two = (q b.0).fails (end_after l one.us) n one.ts place (need l n one.us one.ts b.0 (subst N one.split m) one.fact) (subst (λ i. Q d b.0 i ≡ Err (Syntax place)) one.left b.3) in
          record {
            us = one.us ++ two.us;
            ts = two.ts;
            split = split_again one.us two.us one.ts two.ts one.split two.split;
            at = two.at;
            fault = second (subst (λ zs. R l n one.us zs b.0) two.split one.fact) two.fault;
            again = λ e rs more same.
                bind_again P Q e l n one.us two.us rs b.0 (Err (Syntax (place_at n rs)))
                (one.again e (two.us ++ rs) more (head_append two.us two.ts rs same ∙ ap head (sym two.split))) (two.again e rs more same);
          }

  pub bind : Parses P d N R B → ((x : A) → Parses (λ e. Q e x) d (M x) (S x) (F x)) → Parses (λ e. P e >>= Q e) d N (Both R S) (Either B R F)
  bind p q = record { reads = bind_reads p q; fails = bind_fails p q; safe = safe }
    where
      safe : (l n : ℕ) (all : List Lexeme) → N all → (P d >>= Q d) (inp all l n) ≡ Err Memory → ⊥
      safe l n all m h = pick (bind_err (P d (inp all l n)) (Q d) Memory h)
        where
          pick : (P d (inp all l n) ≡ Err Memory) ⊎ ((x : A) × (i : Input) × (P d (inp all l n) ≡ Ok (x, i)) × (Q d x i ≡ Err Memory)) → ⊥
          pick (inl h) = p.safe l n all m h
          pick (inr b) = let one = p.reads l n all b.0 b.1 m b.2 in
              (q b.0).safe (end_after l one.us) n one.ts (need l n one.us one.ts b.0 (subst N one.split m) one.fact) (subst (λ i. Q d b.0 i ≡ Err Memory) one.left b.3)

-- nothing is asked
abbrev pub Any : Need
Any ts = Unit {0}

-- and the second asks nothing
pub then_any : {A C : Type 0} {P : ℕ → Parser A} {Q : ℕ → A → Parser C} {d : ℕ} {N : Need} {R : Fact A} {B : Fault} {S : A → Fact C} {F : A → Fault}
    → Parses P d N R B → ((x : A) → Parses (λ e. Q e x) d Any (S x) (F x)) → Parses (λ e. P e >>= Q e) d N (Both R S) (Either B R F)
then_any p q = bind (λ l n us ts x m r. tt) p q

-- ---- steps that take nothing

-- nothing fails
pub data Never (l n : ℕ) : List Lexeme → List Lexeme → Type 0 where

-- what was seen of the next token
pub data Looked {A : Type 0} (f : Input → A) (l n : ℕ) : List Lexeme → List Lexeme → A → Type 0 where
  looked : {ts : List Lexeme} {x : A} → x ≡ f (inp ts l n) → Looked f l n [] ts x

-- it shows of no more than the next token
abbrev pub Shallow : {A : Type 0} → (Input → A) → Type 0
Shallow f = (l n : ℕ) (ts rs : List Lexeme) → head rs ≡ head ts → f (inp rs l n) ≡ f (inp ts l n)

pub look : {A : Type 0} (f : Input → A) {d : ℕ} → Shallow f → Parses (λ e i. Ok (f i, i)) d Any (Looked f) Never
look f shallow = record {
  reads = λ l n all x j q h. record {
    us = [];
    ts = all;
    split = refl;
    left = along (λ p. p.1 ≡ inp all l n) h refl;
    fact = along (λ p. Looked f l n [] all p.0) h (looked refl);
    again = λ e rs more same. along (λ p. done (f (inp rs l n)) (inp rs l n) ≡ done p.0 (inp rs l n)) h (ap (λ x. done x (inp rs l n)) (shallow l n all rs same));
  };
  fails = λ l n all place q h. cc;
  safe = λ l n all q h. cc;
}

pub data Pure {A : Type 0} (a : A) (l n : ℕ) : List Lexeme → List Lexeme → A → Type 0 where
  nothing : {ts : List Lexeme} {x : A} → x ≡ a → Pure a l n [] ts x

pub purely : {A : Type 0} (a : A) {d : ℕ} → Parses (λ e i. Ok (a, i)) d Any (Pure a) Never
purely a = record {
  reads = λ l n all x j q h. record {
    us = [];
    ts = all;
    split = refl;
    left = along (λ p. p.1 ≡ inp all l n) h refl;
    fact = along (λ p. Pure a l n [] all p.0) h (nothing refl);
    again = λ e rs more same. along (λ p. done a (inp rs l n) ≡ done p.0 (inp rs l n)) h refl;
  };
  fails = λ l n all place q h. cc;
  safe = λ l n all q h. cc;
}

pub data Nowhere {A : Type 0} (l n : ℕ) : List Lexeme → List Lexeme → A → Type 0 where

pub data Here (l n : ℕ) : List Lexeme → List Lexeme → Type 0 where
  here : {ts : List Lexeme} → Here l n [] ts

pub failed_here : {A : Type 0} {P : ℕ → Parser A} {d l n : ℕ} (all : List Lexeme) (place : ℕ) → fault_at {A = A} (place_at n all) ≡ fault_at place
    → ((e : ℕ) (rs : List Lexeme) → d ≤ e → head rs ≡ head all → P e (inp rs l n) ≡ fault_at (place_at n rs)) → Failed P d Here l n all place
failed_here {n = n} all place is again = record {
  us = [];
  ts = all;
  split = refl;
  at = let e : place_at n all ≡ place = cc in sym e;
  fault = here;
  again = again;
}

pub place_alike : (n : ℕ) (ts rs : List Lexeme) → head rs ≡ head ts → place_at n rs ≡ place_at n ts
place_alike n [] [] h = refl
place_alike n [] (r ∷ rs) h = cc
place_alike n (t ∷ ts) [] h = cc
place_alike n (t ∷ ts) (r ∷ rs) h = let e : r ≡ t = cc in ap (λ u. u.from) e

pub sort_alike : (ts rs : List Lexeme) → head rs ≡ head ts → sort_at rs ≡ sort_at ts
sort_alike [] [] h = refl
sort_alike [] (r ∷ rs) h = cc
sort_alike (t ∷ ts) [] h = cc
sort_alike (t ∷ ts) (r ∷ rs) h = let e : r ≡ t = cc in ap (λ u. u.sort) e

pub line_alike : (ts rs : List Lexeme) → head rs ≡ head ts → line_at rs ≡ line_at ts
line_alike [] [] h = refl
line_alike [] (r ∷ rs) h = cc
line_alike (t ∷ ts) [] h = cc
line_alike (t ∷ ts) (r ∷ rs) h = let e : r ≡ t = cc in ap (λ u. u.line_before) e

pub content_alike : (ts rs : List Lexeme) → head rs ≡ head ts → content_at rs ≡ content_at ts
content_alike [] [] h = refl
content_alike [] (r ∷ rs) h = cc
content_alike (t ∷ ts) [] h = cc
content_alike (t ∷ ts) (r ∷ rs) h = let e : r ≡ t = cc in ap (λ u. u.content) e

pub other_refusal : {place : ℕ} → ◌≡◌ {A = Refusal} (Syntax place) Memory → ⊥
other_refusal h = cc

pub deep_memory : ◌≡◌ {A = Refusal} TooDeep Memory → ⊥
deep_memory h = cc

pub refusal_is : {A : Type 0} (a b : Refusal) → refusal {A = A} a ≡ refusal b → a ≡ b
refusal_is a b h = cc

pub refused : {A : Type 0} {d : ℕ} → Parses {A = A} (λ e. refuse) d Any Nowhere Here
unfolding place
refused = record {
  reads = λ l n all x j q h. cc;
  fails = λ l n all place q h. failed_here all place h (λ e rs more same. refl);
  safe = λ l n all q h. other_refusal (refusal_is (Syntax (place_at n all)) Memory h);
}

-- ---- steps that take a token

abbrev pub Some_left : Need
Some_left [] = ⊥
Some_left (t ∷ ts) = Unit {0}

-- a token was taken, for what it holds
pub data Taken {A : Type 0} (f : Input → A) (l n : ℕ) : List Lexeme → List Lexeme → A → Type 0 where
  taken : {ts : List Lexeme} {x : A} (t : Lexeme) → x ≡ f (inp (t ∷ ts) l n) → Taken f l n (t ∷ []) ts x

pub take : {A : Type 0} (f : Input → A) {d : ℕ} → Shallow f → Parses (λ e i. Ok (f i, next i)) d Some_left (Taken f) Never
unfolding next
take {A} f {d} shallow = record { reads = reading; fails = λ l n all place q h. cc; safe = λ l n all q h. cc }
  where
    reading : (l n : ℕ) (all : List Lexeme) (x : A) (j : Input) → Some_left all → done (f (inp all l n)) (next (inp all l n)) ≡ done x j → Read (λ e i. Ok (f i, next i)) d (Taken f) l n all x j
    reading l n [] x j q h = absurd q
    reading l n (t ∷ ts) x j q h = record {
      us = t ∷ [];
      ts = ts;
      split = refl;
      left = along (λ p. p.1 ≡ inp ts t.to n) h refl;
      fact = along (λ p. Taken f l n (t ∷ []) ts p.0) h (taken t refl);
      again = λ e rs more same. along (λ p. done (f (inp (t ∷ rs) l n)) (inp rs t.to n) ≡ done p.0 (inp rs t.to n)) h (ap (λ x. done x (inp rs t.to n)) (shallow l n (t ∷ ts) (t ∷ rs) refl));
    }

-- ---- tests of the next token

pub same_sort_true : (a b : Sort) → same_sort a b ≡ true → a ≡ b
unfolding same_sort
same_sort_true a b h = same_true the_type (search rules) a b h

pub not_both : {b : Bool} → b ≡ true → b ≡ false → ⊥
not_both h k = cc

pub and_is : (a b : Bool) → (a && b) ≡ true → (a ≡ true) × (b ≡ true)
and_is true b h = (refl, h)
and_is false b h = cc

pub some_is : {A : Type 0} {a b : A} (P : A → Type 0) → Some a ≡ Some b → P a → P b
some_is {A} {a} {b} P h p = let e : a ≡ b = cc in subst P e p

pub sort_shallow : Shallow sort
unfolding sort
sort_shallow l n ts rs h = sort_alike ts rs h

pub place_shallow : Shallow place
unfolding place
place_shallow l n ts rs h = place_alike n ts rs h

-- The next token is of this kind, and begins here.
abbrev pub At : {X : Type 0} → (Sort → X) → X → ℕ → Need
At f v from [] = f End ≡ v
At f v from (t ∷ ts) = (f t.sort ≡ v) × (t.from ≡ from)

abbrev pub Begins_at : ℕ → Need
Begins_at from [] = Unit {0}
Begins_at from (t ∷ ts) = t.from ≡ from

-- what is read by the kind of the first token, and with its place
pub by_first : {A X : Type 0} {d : ℕ} {R : Fact A} {B : Fault} (f : Sort → X) (body : ℕ → ℕ → X → Parser A)
    → ((from : ℕ) (v : X) → Parses (λ e. body e from v) d (At f v from) R B)
    → Parses (λ e. (λ i. done (place i) i) >>= (λ from. (λ i. done (sort i) i) >>= (λ s. body e from (f s)))) d Any R B
unfolding place sort
by_first {A} {X} {d} {R} {B} f body parses = map (λ l n us ts x r. fact r) (λ l n us ts r. fault r)
    (bind (λ l n us ts from m r. begun r) (look place place_shallow)
    (λ from. bind (λ l n us ts s m r. at from m r) (given {M = Begins_at from} (λ ts m. tt) (look sort sort_shallow)) (λ s. parses from (f s))))
  where
    fact : {l n : ℕ} {us ts : List Lexeme} {x : A} → Both (Looked place) (λ from. Both (Looked sort) (λ s. R)) l n us ts x → R l n us ts x
    fact (both (looked e) (both (looked f) r)) = r

    fault : {l n : ℕ} {us ts : List Lexeme} → Either Never (Looked place) (λ from. Either Never (Looked sort) (λ s. B)) l n us ts → B l n us ts
    fault (first c) = elim c [ ]
    fault (second (looked e) (first c)) = elim c [ ]
    fault (second (looked e) (second (looked f) b)) = b

    begun : {l n from : ℕ} {us ts : List Lexeme} → Looked place l n us ts from → Begins_at from ts
    begun {l} {n} {from} (looked {ts} e) = go ts e
      where
        go : (ts : List Lexeme) → from ≡ place_at n ts → Begins_at from ts
        go [] e = tt
        go (t ∷ ts) e = sym e

    at : {l n : ℕ} {us ts : List Lexeme} {s : Sort} (from : ℕ) → Begins_at from (us ++ ts) → Looked sort l n us ts s → At f (f s) from ts
    at {s} from m (looked {ts} e) = go ts m e
      where
        go : (ts : List Lexeme) → Begins_at from ts → s ≡ sort_at ts → At f (f s) from ts
        go [] m e = ap f (sym e)
        go (t ∷ ts) m e = (ap f (sym e), m)

pub data Eaten (k : Sort) (l n : ℕ) : List Lexeme → List Lexeme → Bool → Type 0 where
  ate : {ts : List Lexeme} {b : Bool} (t : Lexeme) → t.sort ≡ k → b ≡ true → Eaten k l n (t ∷ []) ts b
  absent : {ts : List Lexeme} {b : Bool} → b ≡ false → same_sort (sort_at ts) k ≡ false → Eaten k l n [] ts b

pub eat_is : (k : Sort) (ts : List Lexeme) (l n : ℕ) (b : Bool) → same_sort (sort_at ts) k ≡ b
    → eat k (inp ts l n) ≡ done b (if b then next (inp ts l n) else inp ts l n)
unfolding sees after sort
eat_is k ts l n b is = ap (λ c. done c (if c then next (inp ts l n) else inp ts l n)) is

pub eaten : (k : Sort) {d : ℕ} → same_sort End k ≡ false → Parses (λ e. eat k) d Any (Eaten k) Never
unfolding next
eaten k {d} other = record { reads = λ l n all x j q h. reading l n all (same_sort (sort_at all) k) refl x j h; fails = λ l n all place q h. cc; safe = λ l n all q h. cc }
  where
    reading : (l n : ℕ) (all : List Lexeme) (b : Bool) → same_sort (sort_at all) k ≡ b → (x : Bool) (j : Input) → eat k (inp all l n) ≡ done x j → Read (λ e. eat k) d (Eaten k) l n all x j
    reading l n [] true is x j h = absurd (not_both is other)
    reading l n (t ∷ ts) true is x j h =
        let got : done true (inp ts t.to n) ≡ done x j = sym (eat_is k (t ∷ ts) l n true is) ∙ h in
        record {
          us = t ∷ [];
          ts = ts;
          split = refl;
          left = along (λ p. p.1 ≡ inp ts t.to n) got refl;
          fact = ate t (same_sort_true t.sort k is) (along (λ p. p.0 ≡ true) got refl);
          again = λ e rs more same. eat_is k (t ∷ rs) l n true is ∙ along (λ p. done true (inp rs t.to n) ≡ done p.0 (inp rs t.to n)) got refl;
        }
    reading l n all false is x j h =
        let got : done false (inp all l n) ≡ done x j = sym (eat_is k all l n false is) ∙ h in
        record {
          us = [];
          ts = all;
          split = refl;
          left = along (λ p. p.1 ≡ inp all l n) got refl;
          fact = absent (along (λ p. p.0 ≡ false) got refl) is;
          again = λ e rs more same.
              eat_is k rs l n false (ap (λ s. same_sort s k) (sort_alike all rs same) ∙ is) ∙ along (λ p. done false (inp rs l n) ≡ done p.0 (inp rs l n)) got refl;
        }

pub data Expected (k : Sort) (l n : ℕ) : List Lexeme → List Lexeme → Unit {0} → Type 0 where
  expected : {ts : List Lexeme} {x : Unit {0}} (t : Lexeme) → t.sort ≡ k → Expected k l n (t ∷ []) ts x

pub expect_is : (k : Sort) (ts : List Lexeme) (l n : ℕ) (b : Bool) → same_sort (sort_at ts) k ≡ b
    → expect k (inp ts l n) ≡ (if b then done tt (next (inp ts l n)) else Err (Syntax (place_at n ts)))
unfolding expect sees sort place
expect_is k ts l n b is = ap (λ c. if c then done tt (next (inp ts l n)) else Err (Syntax (place_at n ts))) is

pub expecting : (k : Sort) {d : ℕ} → same_sort End k ≡ false → Parses (λ e. expect k) d Any (Expected k) Here
unfolding next
expecting k {d} other = record { reads = λ l n all x j q h. reading l n all (same_sort (sort_at all) k) refl x j h; fails = λ l n all place q h. failing l n all place (same_sort (sort_at all) k) refl h; safe = λ l n all q h. safe l n all (same_sort (sort_at all) k) refl h }
  where
    reading : (l n : ℕ) (all : List Lexeme) (b : Bool) → same_sort (sort_at all) k ≡ b → (x : Unit {0}) (j : Input) → expect k (inp all l n) ≡ done x j → Read (λ e. expect k) d (Expected k) l n all x j
    reading l n [] true is x j h = absurd (not_both is other)
    reading l n (t ∷ ts) true is x j h =
        let got : done tt (inp ts t.to n) ≡ done x j = sym (expect_is k (t ∷ ts) l n true is) ∙ h in
        record {
          us = t ∷ [];
          ts = ts;
          split = refl;
          left = along (λ p. p.1 ≡ inp ts t.to n) got refl;
          fact = expected t (same_sort_true t.sort k is);
          again = λ e rs more same. expect_is k (t ∷ rs) l n true is ∙ along (λ p. done tt (inp rs t.to n) ≡ done p.0 (inp rs t.to n)) got refl;
        }
    reading l n all false is x j h = let got : Err (Syntax (place_at n all)) ≡ done x j = sym (expect_is k all l n false is) ∙ h in cc

    safe : (l n : ℕ) (all : List Lexeme) (b : Bool) → same_sort (sort_at all) k ≡ b → expect k (inp all l n) ≡ Err Memory → ⊥
    safe l n all true is h = let got : done tt (next (inp all l n)) ≡ Err Memory = sym (expect_is k all l n true is) ∙ h in cc
    safe l n all false is h = other_refusal (refusal_is {A = Unit {0}} (Syntax (place_at n all)) Memory (sym (expect_is k all l n false is) ∙ h))

    failing : (l n : ℕ) (all : List Lexeme) (place : ℕ) (b : Bool) → same_sort (sort_at all) k ≡ b → expect k (inp all l n) ≡ Err (Syntax place) → Failed (λ e. expect k) d Here l n all place
    failing l n all place true is h = let got : done tt (next (inp all l n)) ≡ Err (Syntax place) = sym (expect_is k all l n true is) ∙ h in cc
    failing l n all place false is h =
        failed_here all place (sym (expect_is k all l n false is) ∙ h) (λ e rs more same. expect_is k rs l n false (ap (λ s. same_sort s k) (sort_alike all rs same) ∙ is))

-- ---- a whole tree

-- with this as its end
abbrev pub ending : Node → ℕ → ℕ → ℕ → Grown
ending node from last tall = record { tree = roll-Tree (record { node = node; from = from; to = last; number = 0 }); height = tall + 1 }

pub data Completed (node : Node) (from tall l n : ℕ) : List Lexeme → List Lexeme → Grown → Type 0 where
  completed : {ts : List Lexeme} {x : Grown} → tall < max_depth → x ≡ ending node from l tall → Completed node from tall l n [] ts x

pub complete_is : (node : Node) (from tall : ℕ) (ts : List Lexeme) (l n : ℕ) (b : Bool) → nat_lt tall max_depth ≡ b
    → complete node from tall (inp ts l n) ≡ (if b then done (ending node from l tall) (inp ts l n) else Err TooDeep)
unfolding complete
complete_is node from tall ts l n b is = ap (λ c. if c then done (ending node from l tall) (inp ts l n) else Err TooDeep) is

pub completing : (node : Node) (from tall : ℕ) {d : ℕ} → Parses (λ e. complete node from tall) d Any (Completed node from tall) Never
completing node from tall {d} = record { reads = λ l n all x j q h. reading l n all (nat_lt tall max_depth) refl x j h; fails = λ l n all place q h. failing l n all place (nat_lt tall max_depth) refl h; safe = λ l n all q h. safe l n all (nat_lt tall max_depth) refl h }
  where
    reading : (l n : ℕ) (all : List Lexeme) (b : Bool) → nat_lt tall max_depth ≡ b → (x : Grown) (j : Input) → complete node from tall (inp all l n) ≡ done x j
        → Read (λ e. complete node from tall) d (Completed node from tall) l n all x j
    reading l n all true is x j h =
        let got : done (ending node from l tall) (inp all l n) ≡ done x j = sym (complete_is node from tall all l n true is) ∙ h in
        record {
          us = [];
          ts = all;
          split = refl;
          left = along (λ p. p.1 ≡ inp all l n) got refl;
          fact = completed (ltb-true tall max_depth is) (along (λ p. p.0 ≡ ending node from l tall) got refl);
          again = λ e rs more same. complete_is node from tall rs l n true is ∙ along (λ p. done (ending node from l tall) (inp rs l n) ≡ done p.0 (inp rs l n)) got refl;
        }
    reading l n all false is x j h = let got : Err TooDeep ≡ done x j = sym (complete_is node from tall all l n false is) ∙ h in cc

    safe : (l n : ℕ) (all : List Lexeme) (b : Bool) → nat_lt tall max_depth ≡ b → complete node from tall (inp all l n) ≡ Err Memory → ⊥
    safe l n all true is h = let got : done (ending node from l tall) (inp all l n) ≡ Err Memory = sym (complete_is node from tall all l n true is) ∙ h in cc
    safe l n all false is h = deep_memory (refusal_is {A = Grown} TooDeep Memory (sym (complete_is node from tall all l n false is) ∙ h))

    failing : (l n : ℕ) (all : List Lexeme) (place : ℕ) (b : Bool) → nat_lt tall max_depth ≡ b → complete node from tall (inp all l n) ≡ Err (Syntax place)
        → Failed (λ e. complete node from tall) d Never l n all place
    failing l n all place true is h = let got : done (ending node from l tall) (inp all l n) ≡ Err (Syntax place) = sym (complete_is node from tall all l n true is) ∙ h in cc
    failing l n all place false is h = let got : refusal {A = Grown} TooDeep ≡ refusal (Syntax place) = sym (complete_is node from tall all l n false is) ∙ h in cc

-- ---- choices

pub data Chosen {A : Type 0} (b : Bool) (R S : Fact A) (l n : ℕ) (us ts : List Lexeme) (x : A) : Type 0 where
  yes : b ≡ true → R l n us ts x → Chosen b R S l n us ts x
  no : b ≡ false → S l n us ts x → Chosen b R S l n us ts x

pub data ChosenFault (b : Bool) (B F : Fault) (l n : ℕ) (us ts : List Lexeme) : Type 0 where
  yes_fault : b ≡ true → B l n us ts → ChosenFault b B F l n us ts
  no_fault : b ≡ false → F l n us ts → ChosenFault b B F l n us ts

pub choose : {A : Type 0} {P Q : ℕ → Parser A} {d : ℕ} {N M : Need} {R S : Fact A} {B F : Fault} (b : Bool) → Parses P d N R B → Parses Q d M S F
    → Parses (λ e. if b then P e else Q e) d (λ ts. (b ≡ true → N ts) × (b ≡ false → M ts)) (Chosen b R S) (ChosenFault b B F)
choose true p q = given (λ ts h. h.0 refl) (map (λ l n us ts x r. yes refl r) (λ l n us ts r. yes_fault refl r) p)
choose false p q = given (λ ts h. h.1 refl) (map (λ l n us ts x r. no refl r) (λ l n us ts r. no_fault refl r) q)

pub choose_any : {A : Type 0} {P Q : ℕ → Parser A} {d : ℕ} {R S : Fact A} {B F : Fault} (b : Bool) → Parses P d Any R B → Parses Q d Any S F
    → Parses (λ e. if b then P e else Q e) d Any (Chosen b R S) (ChosenFault b B F)
choose_any b p q = given (λ ts h. (λ e. tt, λ e. tt)) (choose b p q)

-- ---- turns

abbrev pub pred : ℕ → ℕ
pred zero = zero
pred (suc k) = k

pub data Runs {X A : Type 0} (R : X → Fact (X ⊎ A)) : X → ℕ → ℕ → List Lexeme → List Lexeme → A → Type 0 where
  stop : {x : X} {l n : ℕ} {us ts : List Lexeme} {a : A} → R x l n us ts (inr a) → Runs R x l n us ts a
  go : {x y : X} {l n : ℕ} {us vs ts : List Lexeme} {a : A} → R x l n us (vs ++ ts) (inl y) → Runs R y (end_after l us) n vs ts a → Runs R x l n (us ++ vs) ts a

pub data Breaks {X A : Type 0} (R : X → Fact (X ⊎ A)) (B : X → Fault) : X → ℕ → ℕ → List Lexeme → List Lexeme → Type 0 where
  break : {x : X} {l n : ℕ} {us ts : List Lexeme} → B x l n us ts → Breaks R B x l n us ts
  later : {x y : X} {l n : ℕ} {us vs ts : List Lexeme} → R x l n us (vs ++ ts) (inl y) → Breaks R B y (end_after l us) n vs ts → Breaks R B x l n (us ++ vs) ts

module _ {X A : Type 0} (L : ℕ → ℕ → X → Parser A) (step : ℕ → X → Parser (X ⊎ A)) (c d : ℕ) (R : X → Fact (X ⊎ A)) (B : X → Fault) where
  abbrev pub finish : ℕ → ℕ → X ⊎ A → Parser A
  finish k e (inl y) = L k e y
  finish k e (inr a) = λ i. Ok (a, i)

  record Ran (x : X) (l n : ℕ) (all : List Lexeme) (a : A) (j : Input) : Type 0 where
    us : List Lexeme
    ts : List Lexeme
    split : all ≡ us ++ ts
    left : j ≡ inp ts (end_after l us) n
    fact : Runs R x l n us ts a
    again : (e k : ℕ) (rs : List Lexeme) → d ≤ e → head rs ≡ head ts → c + length (us ++ rs) ≤ k → L k e x (inp (us ++ rs) l n) ≡ done a (inp rs (end_after l us) n)

  record Broke (x : X) (l n : ℕ) (all : List Lexeme) (place : ℕ) : Type 0 where
    us : List Lexeme
    ts : List Lexeme
    split : all ≡ us ++ ts
    at : place ≡ place_at n ts
    fault : Breaks R B x l n us ts
    again : (e k : ℕ) (rs : List Lexeme) → d ≤ e → head rs ≡ head ts → c + length (us ++ rs) ≤ k → L k e x (inp (us ++ rs) l n) ≡ fault_at (place_at n rs)

  module _ (unroll : (k e : ℕ) (x : X) (all : List Lexeme) (l n : ℕ) → c + length all ≤ k → L k e x (inp all l n) ≡ and_then (step e x (inp all l n)) (finish (pred k) e))
      (steps : (x : X) → Parses (λ e. step e x) d Any (R x) (B x))
      (grows : (x y : X) (l n : ℕ) (us ts : List Lexeme) → R x l n us ts (inl y) → 0 < length us) where
    fewer_turns : (k a u t : ℕ) → c + a ≤ k → 0 < u → a ≡ u + t → c + t ≤ pred k
    fewer_turns zero a u t far some e = absurd (omega arith)
    fewer_turns (suc k) a u t far some e = omega arith

    again_after : (e k l n : ℕ) (x y : X) (us vs rs : List Lexeme) (o : Outcome A) → 0 < length us → c + length ((us ++ vs) ++ rs) ≤ k
        → step e x (inp (us ++ (vs ++ rs)) l n) ≡ done (inl y) (inp (vs ++ rs) (end_after l us) n)
        → (c + length (vs ++ rs) ≤ pred k → L (pred k) e y (inp (vs ++ rs) (end_after l us) n) ≡ o)
        → L k e x (inp ((us ++ vs) ++ rs) l n) ≡ o
    again_after e zero l n x y us vs rs o some fits h g = absurd (omega (arith, length-append (us ++ vs) rs, length-append us vs))
    again_after e (suc k) l n x y us vs rs o some fits h g =
        unroll (suc k) e x ((us ++ vs) ++ rs) l n fits
        ∙ bind_again (λ e. step e x) (λ e. finish k e) e l n us vs rs (inl y) o h (g (omega (arith, length-append (us ++ vs) rs, length-append us vs, length-append vs rs)))

    turned : (k : ℕ) (x : X) (l n : ℕ) (all : List Lexeme) (a : A) (j : Input) → c + length all ≤ k
        → (0 < k → (y : X) (l n : ℕ) (all : List Lexeme) (a : A) (j : Input) → c + length all ≤ pred k → L (pred k) d y (inp all l n) ≡ done a j → Ran y l n all a j)
        → (o : X ⊎ A) (i : Input) → Read (λ e. step e x) d (R x) l n all o i → finish (pred k) d o i ≡ done a j → Ran x l n all a j
    turned k x l n all a j far recur (inr b) i one h = record {
      us = one.us;
      ts = one.ts;
      split = one.split;
      left = along (λ p. p.1 ≡ inp one.ts (end_after l one.us) n) h one.left;
      fact = along (λ p. Runs R x l n one.us one.ts p.0) h (stop one.fact);
      again = λ e k rs more same fits.
          unroll k e x (one.us ++ rs) l n fits ∙ ap (λ o. and_then o (finish (pred k) e)) (one.again e rs more same)
          ∙ along (λ p. done b (inp rs (end_after l one.us) n) ≡ done p.0 (inp rs (end_after l one.us) n)) h refl;
    }
    turned k x l n all a j far recur (inl y) i one h =
        let some = grows x y l n one.us one.ts one.fact in
        let sizes : length all ≡ length one.us + length one.ts = ap length one.split ∙ length-append one.us one.ts in
        let fewer : c + length one.ts ≤ pred k = fewer_turns k (length all) (length one.us) (length one.ts) far some sizes in
        let rest = recur (omega arith) y (end_after l one.us) n one.ts a j fewer (subst (λ i. L (pred k) d y i ≡ done a j) one.left h) in
        record {
          us = one.us ++ rest.us;
          ts = rest.ts;
          split = split_again one.us rest.us one.ts rest.ts one.split rest.split;
          left = rest.left ∙ ap (λ m. inp rest.ts m n) (sym (end_append l one.us rest.us));
          fact = go (subst (λ zs. R x l n one.us zs (inl y)) rest.split one.fact) rest.fact;
          again = λ e k rs more same fits.
              again_after e k l n x y one.us rest.us rs (done a (inp rs (end_after l (one.us ++ rest.us)) n)) some fits
              (one.again e (rest.us ++ rs) more (head_append rest.us rest.ts rs same ∙ ap head (sym rest.split)))
              (λ fit. rest.again e (pred k) rs more same fit ∙ ap (λ m. done a (inp rs m n)) (sym (end_append l one.us rest.us)));
        }

    runs : (k : ℕ) (x : X) (l n : ℕ) (all : List Lexeme) (a : A) (j : Input) → c + length all ≤ k → L k d x (inp all l n) ≡ done a j → Ran x l n all a j
    runs zero x l n all a j far h =
        let b = bind_ok (step d x (inp all l n)) (finish zero d) (a, j) (sym (unroll zero d x all l n far) ∙ h) in
        turned zero x l n all a j far (λ none. absurd (omega arith)) b.0 b.1 ((steps x).reads l n all b.0 b.1 tt b.2) b.3
    runs (suc k) x l n all a j far h =
        let b = bind_ok (step d x (inp all l n)) (finish k d) (a, j) (sym (unroll (suc k) d x all l n far) ∙ h) in
        turned (suc k) x l n all a j far (λ more. runs k) b.0 b.1 ((steps x).reads l n all b.0 b.1 tt b.2) b.3

    broken_in : (k : ℕ) (x : X) (l n : ℕ) (all : List Lexeme) (place : ℕ) → Failed (λ e. step e x) d (B x) l n all place → Broke x l n all place
    broken_in k x l n all place one = record {
      us = one.us;
      ts = one.ts;
      split = one.split;
      at = one.at;
      fault = break one.fault;
      again = λ e k rs more same fits. unroll k e x (one.us ++ rs) l n fits ∙ ap (λ o. and_then o (finish (pred k) e)) (one.again e rs more same);
    }

    broken_after : (k : ℕ) (x : X) (l n : ℕ) (all : List Lexeme) (place : ℕ) → c + length all ≤ k
        → (0 < k → (y : X) (l n : ℕ) (all : List Lexeme) (place : ℕ) → c + length all ≤ pred k → L (pred k) d y (inp all l n) ≡ fault_at place → Broke y l n all place)
        → (o : X ⊎ A) (i : Input) → Read (λ e. step e x) d (R x) l n all o i → finish (pred k) d o i ≡ fault_at place → Broke x l n all place
    broken_after k x l n all place far recur (inr b) i one h = cc
    broken_after k x l n all place far recur (inl y) i one h =
        let some = grows x y l n one.us one.ts one.fact in
        let sizes : length all ≡ length one.us + length one.ts = ap length one.split ∙ length-append one.us one.ts in
        let fewer : c + length one.ts ≤ pred k = fewer_turns k (length all) (length one.us) (length one.ts) far some sizes in
        let rest = recur (omega arith) y (end_after l one.us) n one.ts place fewer (subst (λ i. L (pred k) d y i ≡ fault_at place) one.left h) in
        record {
          us = one.us ++ rest.us;
          ts = rest.ts;
          split = split_again one.us rest.us one.ts rest.ts one.split rest.split;
          at = rest.at;
          fault = later (subst (λ zs. R x l n one.us zs (inl y)) rest.split one.fact) rest.fault;
          again = λ e k rs more same fits.
              again_after e k l n x y one.us rest.us rs (fault_at (place_at n rs)) some fits
              (one.again e (rest.us ++ rs) more (head_append rest.us rest.ts rs same ∙ ap head (sym rest.split)))
              (λ fit. rest.again e (pred k) rs more same fit);
        }

    breaks : (k : ℕ) (x : X) (l n : ℕ) (all : List Lexeme) (place : ℕ) → c + length all ≤ k → L k d x (inp all l n) ≡ fault_at place → Broke x l n all place
    breaks zero x l n all place far h = pick (bind_err (step d x (inp all l n)) (finish zero d) (Syntax place) (sym (unroll zero d x all l n far) ∙ h))
      where
        pick : (step d x (inp all l n) ≡ fault_at place) ⊎ ((o : X ⊎ A) × (i : Input) × (step d x (inp all l n) ≡ done o i) × (finish zero d o i ≡ fault_at place)) → Broke x l n all place
        pick (inl f) = broken_in zero x l n all place ((steps x).fails l n all place tt f)
        pick (inr b) = broken_after zero x l n all place far (λ none. absurd (omega arith)) b.0 b.1 ((steps x).reads l n all b.0 b.1 tt b.2) b.3
    breaks (suc k) x l n all place far h = pick (bind_err (step d x (inp all l n)) (finish k d) (Syntax place) (sym (unroll (suc k) d x all l n far) ∙ h)) (breaks k)
      where
        pick : (step d x (inp all l n) ≡ fault_at place) ⊎ ((o : X ⊎ A) × (i : Input) × (step d x (inp all l n) ≡ done o i) × (finish k d o i ≡ fault_at place))
            → ((y : X) (l n : ℕ) (all : List Lexeme) (place : ℕ) → c + length all ≤ k → L k d y (inp all l n) ≡ fault_at place → Broke y l n all place) → Broke x l n all place
        pick (inl f) again = broken_in (suc k) x l n all place ((steps x).fails l n all place tt f)
        pick (inr b) again = broken_after (suc k) x l n all place far (λ more. again) b.0 b.1 ((steps x).reads l n all b.0 b.1 tt b.2) b.3

    safe_after : (k : ℕ) (x : X) (l n : ℕ) (all : List Lexeme) → c + length all ≤ k
        → (0 < k → (y : X) (l n : ℕ) (all : List Lexeme) → c + length all ≤ pred k → L (pred k) d y (inp all l n) ≡ Err Memory → ⊥)
        → (o : X ⊎ A) (i : Input) → Read (λ e. step e x) d (R x) l n all o i → finish (pred k) d o i ≡ Err Memory → ⊥
    safe_after k x l n all far recur (inr b) i one h = cc
    safe_after k x l n all far recur (inl y) i one h =
        let some = grows x y l n one.us one.ts one.fact in
        let sizes : length all ≡ length one.us + length one.ts = ap length one.split ∙ length-append one.us one.ts in
        let fewer : c + length one.ts ≤ pred k = fewer_turns k (length all) (length one.us) (length one.ts) far some sizes in
        recur (omega arith) y (end_after l one.us) n one.ts fewer (subst (λ i. L (pred k) d y i ≡ Err Memory) one.left h)

    safes : (k : ℕ) (x : X) (l n : ℕ) (all : List Lexeme) → c + length all ≤ k → L k d x (inp all l n) ≡ Err Memory → ⊥
    safes zero x l n all far h = pick (bind_err (step d x (inp all l n)) (finish zero d) Memory (sym (unroll zero d x all l n far) ∙ h))
      where
        pick : (step d x (inp all l n) ≡ Err Memory) ⊎ ((o : X ⊎ A) × (i : Input) × (step d x (inp all l n) ≡ done o i) × (finish zero d o i ≡ Err Memory)) → ⊥
        pick (inl f) = (steps x).safe l n all tt f
        pick (inr b) = safe_after zero x l n all far (λ none. absurd (omega arith)) b.0 b.1 ((steps x).reads l n all b.0 b.1 tt b.2) b.3
    safes (suc k) x l n all far h = pick (bind_err (step d x (inp all l n)) (finish k d) Memory (sym (unroll (suc k) d x all l n far) ∙ h)) (safes k)
      where
        pick : (step d x (inp all l n) ≡ Err Memory) ⊎ ((o : X ⊎ A) × (i : Input) × (step d x (inp all l n) ≡ done o i) × (finish k d o i ≡ Err Memory))
            → ((y : X) (l n : ℕ) (all : List Lexeme) → c + length all ≤ k → L k d y (inp all l n) ≡ Err Memory → ⊥) → ⊥
        pick (inl f) again = (steps x).safe l n all tt f
        pick (inr b) again = safe_after (suc k) x l n all far (λ more. again) b.0 b.1 ((steps x).reads l n all b.0 b.1 tt b.2) b.3

    -- with turns enough at first
    pub turns : (fuel : Input → ℕ) → ((all : List Lexeme) (l n : ℕ) → c + length all ≤ fuel (inp all l n)) → (x : X)
        → Parses (λ e i. L (fuel i) e x i) d Any (Runs R x) (Breaks R B x)
    turns fuel enough x = record {
      reads = λ l n all a j q h. let r = runs (fuel (inp all l n)) x l n all a j (enough all l n) h in record {
        us = r.us;
        ts = r.ts;
        split = r.split;
        left = r.left;
        fact = r.fact;
        again = λ e rs more same. r.again e (fuel (inp (r.us ++ rs) l n)) rs more same (enough (r.us ++ rs) l n);
      };
      fails = λ l n all place q h. let r = breaks (fuel (inp all l n)) x l n all place (enough all l n) h in record {
        us = r.us;
        ts = r.ts;
        split = r.split;
        at = r.at;
        fault = r.fault;
        again = λ e rs more same. r.again e (fuel (inp (r.us ++ rs) l n)) rs more same (enough (r.us ++ rs) l n);
      };
      safe = λ l n all q h. safes (fuel (inp all l n)) x l n all (enough all l n) h;
    }
