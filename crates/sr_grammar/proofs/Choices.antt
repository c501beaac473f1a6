-- Parsers that answer alike, and choices by what comes next.
use Rattle.std.proofs.Common.{◌≡◌, ℕ, Bool, true, false, not, List, [], ◌∷◌, ◌++◌, Ok, Err, refl, sym, ap, ◌∙◌, if◌then◌else◌}
use Rattle.sr_syntax.specs.declared.sorts.Sort.{Sort}
use Rattle.sr_syntax.specs.declared.sorts.Sort.TheVariants as k
use Rattle.sr_syntax.specs.declared.sorts.Lexeme.{Lexeme}
use Rattle.sr_syntax.specs.declared.refusal.Refusal.TheVariants.{Memory, Syntax}
use Rattle.sr_syntax.specs.Sorts.{same_sort}
use Rattle.sr_syntax.specs.Input.{Input, Parser, sort_at, ahead_at, sees, sort}
use Rattle.sr_grammar.specs.Reading.{head}
use Rattle.sr_grammar.proofs.Steps.{inp, Fact, Fault, Need, Any, Parses, Read, Failed, Some_left, sort_alike, head_append, not_both}

-- a parser that answers alike
pub alike : {A : Type 0} {P Q : ℕ → Parser A} {d : ℕ} {N : Need} {R : Fact A} {B : Fault} → ((e : ℕ) (i : Input) → P e i ≡ Q e i) → Parses Q d N R B → Parses P d N R B
alike {d} same q = record {
  reads = λ l n all x j m h. let r = q.reads l n all x j m (sym (same d (inp all l n)) ∙ h) in record {
    us = r.us;
    ts = r.ts;
    split = r.split;
    left = r.left;
    fact = r.fact;
    again = λ e rs more alike. same e (inp (r.us ++ rs) l n) ∙ r.again e rs more alike;
  };
  fails = λ l n all place m h. let r = q.fails l n all place m (sym (same d (inp all l n)) ∙ h) in record {
    us = r.us;
    ts = r.ts;
    split = r.split;
    at = r.at;
    fault = r.fault;
    again = λ e rs more alike. same e (inp (r.us ++ rs) l n) ∙ r.again e rs more alike;
  };
  safe = λ l n all m h. q.safe l n all m (sym (same d (inp all l n)) ∙ h);
}

-- ---- a choice by a test of the next token

pub data Decided {A : Type 0} (g : List Lexeme → Bool) (R S : Fact A) (l n : ℕ) (us ts : List Lexeme) (x : A) : Type 0 where
  decided : g (us ++ ts) ≡ true → R l n us ts x → Decided g R S l n us ts x
  denied : g (us ++ ts) ≡ false → S l n us ts x → Decided g R S l n us ts x

pub data DecidedFault (g : List Lexeme → Bool) (B F : Fault) (l n : ℕ) (us ts : List Lexeme) : Type 0 where
  decided_fault : g (us ++ ts) ≡ true → B l n us ts → DecidedFault g B F l n us ts
  denied_fault : g (us ++ ts) ≡ false → F l n us ts → DecidedFault g B F l n us ts

-- it shows of no more than the next token
pub record Test (f : Input → Bool) (g : List Lexeme → Bool) : Type 0 where
  pub shows : (all : List Lexeme) (l n : ℕ) → f (inp all l n) ≡ g all
  pub shallow : (ts rs : List Lexeme) → head rs ≡ head ts → g rs ≡ g ts

abbrev choice : {A : Type 0} → (Input → Bool) → (ℕ → Parser A) → (ℕ → Parser A) → ℕ → Parser A
choice f P Q e i = if f i then P e i else Q e i

module _ {A : Type 0} (f : Input → Bool) (g : List Lexeme → Bool) (t : Test f g) (P Q : ℕ → Parser A) where
  choice_is : (e l n : ℕ) (all : List Lexeme) (b : Bool) → g all ≡ b → choice f P Q e (inp all l n) ≡ (if b then P e (inp all l n) else Q e (inp all l n))
  choice_is e l n all b is = ap (λ c. if c then P e (inp all l n) else Q e (inp all l n)) (t.shows all l n ∙ is)

  choice_again : (e l n : ℕ) (all us ts rs : List Lexeme) (b : Bool) → g all ≡ b → all ≡ us ++ ts → head rs ≡ head ts
      → choice f P Q e (inp (us ++ rs) l n) ≡ (if b then P e (inp (us ++ rs) l n) else Q e (inp (us ++ rs) l n))
  choice_again e l n all us ts rs b is split same = choice_is e l n (us ++ rs) b (t.shallow (us ++ ts) (us ++ rs) (head_append us ts rs same) ∙ ap g (sym split) ∙ is)

pub deciding : {A : Type 0} {P Q : ℕ → Parser A} {d : ℕ} {R S : Fact A} {B F : Fault} (f : Input → Bool) (g : List Lexeme → Bool) → Test f g
    → Parses P d (λ ts. g ts ≡ true) R B → Parses Q d (λ ts. g ts ≡ false) S F → Parses (λ e i. if f i then P e i else Q e i) d Any (Decided g R S) (DecidedFault g B F)
deciding {A} {P} {Q} {d} {R} {S} {B} {F} f g t p q = record { reads = λ l n all x j m h. reading l n all x j (g all) refl h; fails = λ l n all place m h. failing l n all place (g all) refl h; safe = λ l n all m h. safe l n all (g all) refl h }
  where
    reading : (l n : ℕ) (all : List Lexeme) (x : A) (j : Input) (b : Bool) → g all ≡ b → choice f P Q d (inp all l n) ≡ Ok (x, j) → Read (choice f P Q) d (Decided g R S) l n all x j
    reading l n all x j true is h = let r = p.reads l n all x j is (sym (choice_is f g t P Q d l n all true is) ∙ h) in record {
      us = r.us;
      ts = r.ts;
      split = r.split;
      left = r.left;
      fact = decided (ap g (sym r.split) ∙ is) r.fact;
      again = λ e rs more same. choice_again f g t P Q e l n all r.us r.ts rs true is r.split same ∙ r.again e rs more same;
    }
    reading l n all x j false is h = let r = q.reads l n all x j is (sym (choice_is f g t P Q d l n all false is) ∙ h) in record {
      us = r.us;
      ts = r.ts;
      split = r.split;
      left = r.left;
      fact = denied (ap g (sym r.split) ∙ is) r.fact;
      again = λ e rs more same. choice_again f g t P Q e l n all r.us r.ts rs false is r.split same ∙ r.again e rs more same;
    }

    failing : (l n : ℕ) (all : List Lexeme) (place : ℕ) (b : Bool) → g all ≡ b → choice f P Q d (inp all l n) ≡ Err (Syntax place) → Failed (choice f P Q) d (DecidedFault g B F) l n all place
    failing l n all place true is h = let r = p.fails l n all place is (sym (choice_is f g t P Q d l n all true is) ∙ h) in record {
      us = r.us;
      ts = r.ts;
      split = r.split;
      at = r.at;
      fault = decided_fault (ap g (sym r.split) ∙ is) r.fault;
      again = λ e rs more same. choice_again f g t P Q e l n all r.us r.ts rs true is r.split same ∙ r.again e rs more same;
    }
    failing l n all place false is h = let r = q.fails l n all place is (sym (choice_is f g t P Q d l n all false is) ∙ h) in record {
      us = r.us;
      ts = r.ts;
      split = r.split;
      at = r.at;
      fault = denied_fault (ap g (sym r.split) ∙ is) r.fault;
      again = λ e rs more same. choice_again f g t P Q e l n all r.us r.ts rs false is r.split same ∙ r.again e rs more same;
    }

    safe : (l n : ℕ) (all : List Lexeme) (b : Bool) → g all ≡ b → choice f P Q d (inp all l n) ≡ Err Memory → ⊥
    safe l n all true is h = p.safe l n all is (sym (choice_is f g t P Q d l n all true is) ∙ h)
    safe l n all false is h = q.safe l n all is (sym (choice_is f g t P Q d l n all false is) ∙ h)

-- ---- tests of the next token

-- The next token is of this kind.
abbrev pub Sees : Sort → List Lexeme → Bool
Sees s ts = same_sort (sort_at ts) s

pub sees_test : (s : Sort) → Test (sees s) (Sees s)
unfolding sees sort
sees_test s = record { shows = λ all l n. refl; shallow = λ ts rs same. ap (λ a. same_sort a s) (sort_alike ts rs same) }

pub ahead_alike : (ts rs : List Lexeme) → head rs ≡ head ts → ahead_at rs ≡ ahead_at ts
ahead_alike [] [] h = refl
ahead_alike [] (r ∷ rs) h = cc
ahead_alike (t ∷ ts) [] h = cc
ahead_alike (t ∷ ts) (r ∷ rs) h = let e : r ≡ t = cc in ap (λ u. u.ahead) e

-- a token is left where one of a kind is seen
pub seen_left : (s : Sort) → same_sort k.End s ≡ false → (ts : List Lexeme) → Sees s ts ≡ true → Some_left ts
seen_left s other [] is = absurd (not_both is other)
seen_left s other (t ∷ ts) is = tt

pub not_true : (b : Bool) → not b ≡ true → b ≡ false
not_true true h = cc
not_true false h = refl
