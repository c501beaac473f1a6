-- Sets of names.
use Rattle.std.proofs.Common.{◌≡◌, ℕ, Bool, true, false, ◌&&◌, ◌||◌, nat_eq, List, [], ◌∷◌, ◌++◌, refl, sym, ap, ◌∙◌, subst, if◌then◌else◌}
use Rattle.std.specs.Prelude.{◌==◌}
use Rattle.std.specs.Cmp.Lexicographic.{pointwise}
use Rattle.std.specs.List.{list_any}
use Rattle.indexmap.specs.IndexSet.{insert_key}
use Rattle.sr_model.specs.Values.{same}
use Rattle.sr_model.proofs.Same.{same_tells}
use Rattle.sr_script.specs.Names.{Names}
use Rattle.sr_script.specs.Form.{is_one_of}
use Rattle.sr_script.specs.Table.{SameNames}

same_is : (xs ys : List ℕ) → pointwise ◌==◌ xs ys ≡ same xs ys
same_is [] [] = refl
same_is [] (y ∷ ys) = refl
same_is (x ∷ xs) [] = refl
same_is (x ∷ xs) (y ∷ ys) = ap (λ b. nat_eq x y && b) (same_is xs ys)

any_is : (x : List ℕ) (names : Names) → list_any (pointwise ◌==◌ x) names ≡ is_one_of names x
any_is x [] = refl
any_is x (y ∷ names) = ap (λ b. b || list_any (pointwise ◌==◌ x) names) (same_is x y) ∙ ap (λ b. same x y || b) (any_is x names)

or_false : (b : Bool) → (b || false) ≡ b
or_false true = refl
or_false false = refl

or_true : (b : Bool) → (b || true) ≡ true
or_true true = refl
or_true false = refl

or_assoc : (a b c : Bool) → (a || (b || c)) ≡ ((a || b) || c)
or_assoc true b c = refl
or_assoc false b c = refl

with_last : (names : Names) (k x : List ℕ) → is_one_of (names ++ k ∷ []) x ≡ (is_one_of names x || same x k)
with_last [] k x = or_false (same x k)
with_last (y ∷ names) k x = ap (λ b. same x y || b) (with_last names k x) ∙ or_assoc (same x y) (is_one_of names x) (same x k)

there : (ks names : Names) (k x : List ℕ) (b : Bool) → same x k ≡ b → is_one_of ks k ≡ true → is_one_of ks x ≡ is_one_of names x
    → is_one_of ks x ≡ (is_one_of names x || b)
there ks names k x true e has h = ap (is_one_of ks) (same_tells x k e) ∙ has ∙ sym (or_true (is_one_of names x))
there ks names k x false e has h = h ∙ sym (or_false (is_one_of names x))

inserted : (ks names : Names) (k : List ℕ) (b : Bool) → is_one_of ks k ≡ b → SameNames ks names
    → SameNames (if b then ks else ks ++ k ∷ []) (names ++ k ∷ [])
inserted ks names k true e h x = there ks names k x (same x k) refl e (h x) ∙ sym (with_last names k x)
inserted ks names k false e h x = with_last ks k x ∙ ap (λ b. b || same x k) (h x) ∙ sym (with_last names k x)

one_more : (ks names : Names) (k : List ℕ) → SameNames ks names → SameNames (insert_key (pointwise ◌==◌) ks k) (names ++ k ∷ [])
one_more ks names k h = inserted ks names k (list_any (pointwise ◌==◌ k) ks) (sym (any_is k ks)) h

-- one more name, in a set and in a list
pub turn : (old new list more : Names) (k name : List ℕ) → SameNames old list → new ≡ insert_key (pointwise ◌==◌) old k → k ≡ name
    → more ≡ list ++ name ∷ [] → SameNames new more
turn old new list more k name h is copied longer =
    let same_set : SameNames (insert_key (pointwise ◌==◌) old k) (list ++ k ∷ []) = one_more old list k h in
    let e : list ++ k ∷ [] ≡ more = ap (λ (x : List ℕ). list ++ x ∷ []) copied ∙ sym longer in
    subst (λ ks. SameNames ks more) (sym is) (subst (SameNames (insert_key (pointwise ◌==◌) old k)) e same_set)
