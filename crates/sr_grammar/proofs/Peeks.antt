-- What is read by the kind of the next token, with no place taken before it.
use Rattle.std.proofs.Common.{◌≡◌, ℕ, Bool, true, false, List, [], ◌∷◌, ◌++◌, Err, refl, sym, ap, ◌∙◌, if◌then◌else◌}
use Rattle.sr_syntax.specs.declared.sorts.Sort.{Sort}
use Rattle.sr_syntax.specs.declared.sorts.Sort.TheVariants as k
use Rattle.sr_syntax.specs.declared.sorts.Lexeme.{Lexeme}
use Rattle.sr_syntax.specs.declared.refusal.Refusal.TheVariants.{Memory, Syntax}
use Rattle.sr_syntax.specs.Input.{Input, Parser, ◌>>=◌, text, text_of, content_at, is_word, sees_word, sort, sort_at, place, place_at, next, number, number_of}
use Rattle.sr_syntax.specs.Operators.{property_name}
use Rattle.sr_grammar.proofs.Steps.{inp, Fact, Fault, Need, Any, Parses, Read, Failed, Both, both, Either, first, second, Never, Here, failed_here, Looked, looked, Taken, taken, map, map_given, given, bind, look, take, Shallow, Some_left, sort_shallow, sort_alike, content_alike, done, along, not_both, other_refusal, refusal_is}

pub text_shallow : Shallow text
unfolding text
text_shallow l n ts rs h = ap text_of (content_alike ts rs h)

pub number_shallow : Shallow number
unfolding number
number_shallow l n ts rs h = ap number_of (content_alike ts rs h)

-- The next token is of this kind.
abbrev pub Sorted : Sort → Need
Sorted s ts = sort_at ts ≡ s

pub by_sort : {A : Type 0} {d : ℕ} {R : Fact A} {B : Fault} (body : ℕ → Sort → Parser A) → ((s : Sort) → Parses (λ e. body e s) d (Sorted s) R B)
    → Parses (λ e. (λ i. done (sort i) i) >>= (λ s. body e s)) d Any R B
unfolding sort
by_sort {A} {d} {R} {B} body parses = map (λ l n us ts x r. fact r) (λ l n us ts r. fault r) (bind (λ l n us ts s m r. at r) (look sort sort_shallow) parses)
  where
    fact : {l n : ℕ} {us ts : List Lexeme} {x : A} → Both (Looked sort) (λ s. R) l n us ts x → R l n us ts x
    fact (both (looked e) r) = r

    fault : {l n : ℕ} {us ts : List Lexeme} → Either Never (Looked sort) (λ s. B) l n us ts → B l n us ts
    fault (first c) = elim c [ ]
    fault (second (looked e) b) = b

    at : {l n : ℕ} {us ts : List Lexeme} {s : Sort} → Looked sort l n us ts s → Sorted s ts
    at (looked e) = sym e

-- a token of this kind
pub data Token (s : Sort) (l n : ℕ) : List Lexeme → List Lexeme → Unit {0} → Type 0 where
  one_token : {ts : List Lexeme} {x : Unit {0}} (t : Lexeme) → t.sort ≡ s → Token s l n (t ∷ []) ts x

-- and the text that it holds
pub data Texted (s : Sort) (l n : ℕ) : List Lexeme → List Lexeme → List ℕ → Type 0 where
  texted : {ts : List Lexeme} {x : List ℕ} (t : Lexeme) → t.sort ≡ s → x ≡ text_of t.content → Texted s l n (t ∷ []) ts x

abbrev pub unit_of : Input → Unit {0}
unit_of i = tt

pub unit_shallow : Shallow unit_of
unit_shallow l n ts rs h = refl

some_left : (s : Sort) → (k.End ≡ s → ⊥) → (ts : List Lexeme) → Sorted s ts → Some_left ts
some_left s other [] m = absurd (other m)
some_left s other (t ∷ ts) m = tt

pub taking : (s : Sort) {d : ℕ} → (k.End ≡ s → ⊥) → Parses (λ e i. done tt (next i)) d (Sorted s) (Token s) Never
taking s other = map_given (λ l n us ts x m r. fact m r) (λ l n us ts m r. r) (given (some_left s other) (take unit_of unit_shallow))
  where
    fact : {l n : ℕ} {us ts : List Lexeme} {x : Unit {0}} → Sorted s (us ++ ts) → Taken unit_of l n us ts x → Token s l n us ts x
    fact m (taken t e) = one_token t m

pub taking_text : (s : Sort) {d : ℕ} → (k.End ≡ s → ⊥) → Parses (λ e i. done (text i) (next i)) d (Sorted s) (Texted s) Never
unfolding text
taking_text s other = map_given (λ l n us ts x m r. fact m r) (λ l n us ts m r. r) (given (some_left s other) (take text text_shallow))
  where
    fact : {l n : ℕ} {us ts : List Lexeme} {x : List ℕ} → Sorted s (us ++ ts) → Taken text l n us ts x → Texted s l n us ts x
    fact m (taken t e) = texted t m e

-- ---- the name of a property

pub data Named (l n : ℕ) : List Lexeme → List Lexeme → List ℕ → Type 0 where
  named_by : {ts : List Lexeme} {x : List ℕ} (t : Lexeme) → is_word t.sort ≡ true → x ≡ text_of t.content → Named l n (t ∷ []) ts x

name_is : (ts : List Lexeme) (l n : ℕ) (b : Bool) → is_word (sort_at ts) ≡ b
    → property_name (inp ts l n) ≡ (if b then done (text_of (content_at ts)) (next (inp ts l n)) else Err (Syntax (place_at n ts)))
unfolding property_name sees_word sort text place
name_is ts l n b is = ap (λ c. if c then done (text_of (content_at ts)) (next (inp ts l n)) else Err (Syntax (place_at n ts))) is

pub naming : {d : ℕ} → Parses (λ e. property_name) d Any Named Here
unfolding next
naming {d} = record { reads = λ l n all x j q h. reading l n all (is_word (sort_at all)) refl x j h; fails = λ l n all place q h. failing l n all place (is_word (sort_at all)) refl h; safe = λ l n all q h. safe l n all (is_word (sort_at all)) refl h }
  where
    reading : (l n : ℕ) (all : List Lexeme) (b : Bool) → is_word (sort_at all) ≡ b → (x : List ℕ) (j : Input) → property_name (inp all l n) ≡ done x j → Read (λ e. property_name) d Named l n all x j
    reading l n [] true is x j h = absurd (not_both is refl)
    reading l n (t ∷ ts) true is x j h =
        let got : done (text_of t.content) (inp ts t.to n) ≡ done x j = sym (name_is (t ∷ ts) l n true is) ∙ h in
        record {
          us = t ∷ [];
          ts = ts;
          split = refl;
          left = along (λ p. p.1 ≡ inp ts t.to n) got refl;
          fact = named_by t is (along (λ p. p.0 ≡ text_of t.content) got refl);
          again = λ e rs more same. name_is (t ∷ rs) l n true is ∙ along (λ p. done (text_of t.content) (inp rs t.to n) ≡ done p.0 (inp rs t.to n)) got refl;
        }
    reading l n all false is x j h = let got : Err (Syntax (place_at n all)) ≡ done x j = sym (name_is all l n false is) ∙ h in cc

    safe : (l n : ℕ) (all : List Lexeme) (b : Bool) → is_word (sort_at all) ≡ b → property_name (inp all l n) ≡ Err Memory → ⊥
    safe l n all true is h = let got : done (text_of (content_at all)) (next (inp all l n)) ≡ Err Memory = sym (name_is all l n true is) ∙ h in cc
    safe l n all false is h = other_refusal (refusal_is {A = List ℕ} (Syntax (place_at n all)) Memory (sym (name_is all l n false is) ∙ h))

    failing : (l n : ℕ) (all : List Lexeme) (place : ℕ) (b : Bool) → is_word (sort_at all) ≡ b → property_name (inp all l n) ≡ Err (Syntax place) → Failed (λ e. property_name) d Here l n all place
    failing l n all place true is h = let got : done (text_of (content_at all)) (next (inp all l n)) ≡ Err (Syntax place) = sym (name_is all l n true is) ∙ h in cc
    failing l n all place false is h =
        failed_here all place (sym (name_is all l n false is) ∙ h) (λ e rs more same. name_is rs l n false (ap is_word (sort_alike all rs same) ∙ is))
