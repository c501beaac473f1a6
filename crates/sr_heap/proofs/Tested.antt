-- Tables whose keys are tested in two ways that agree; and the test for names.
use Rattle.std.proofs.Common.{◌≡◌, refl, ap, ◌∙◌, ℕ, Bool, true, false, ◌&&◌, ◌||◌, cond, nat_eq, List, [], ◌∷◌, ◌++◌, Option, Some, None}
use Rattle.std.specs.Prelude.{◌==◌, is_some}
use Rattle.std.specs.Map.{lookup, set_value, keys_of}
use Rattle.std.specs.Cmp.Lexicographic.{pointwise}
use Rattle.indexmap.specs.IndexMap.{IndexMap, insert_entry}
use Rattle.indexmap.proofs.CallerLemmas.{insert_entry-new}
use Rattle.sr_model.specs.Values.{same, member}

module _ {K V : Type 0} (test image : K → Bool) (alike : (k : K) → test k ≡ image k) where
  pub lookup_alike : (ps : List (K × V)) → lookup test ps ≡ lookup image ps
  lookup_alike [] = refl
  lookup_alike (p ∷ ps) = rw (← alike p.0) (ap (λ o. cond (test p.0) (Some p.1) o) (lookup_alike ps))

  pub set_value_alike : (ps : List (K × V)) (v : V) → set_value test ps v ≡ set_value image ps v
  set_value_alike [] v = refl
  set_value_alike (p ∷ ps) v = rw (← alike p.0) (ap (λ qs. cond (test p.0) ((p.0, v) ∷ ps) (p ∷ qs)) (set_value_alike ps v))

-- the test of a table, for a name
abbrev pub is_name : List ℕ → List ℕ → Bool
is_name = pointwise ◌==◌

pub name_test : (xs ys : List ℕ) → is_name xs ys ≡ same xs ys
name_test [] [] = refl
name_test [] (y ∷ ys) = refl
name_test (x ∷ xs) [] = refl
name_test (x ∷ xs) (y ∷ ys) = ap (λ b. nat_eq x y && b) (name_test xs ys)

module _ {V : Type 0} (x : List ℕ) (es : List (List ℕ × V)) where
  -- what a look-up finds
  pub found_is : lookup (is_name x) es ≡ lookup (same x) es
  found_is = lookup_alike (is_name x) (same x) (λ y. name_test x y) es

  -- what a value in the place of another one leaves
  pub put_is : (v : V) → set_value (is_name x) es v ≡ set_value (same x) es v
  put_is v = set_value_alike (is_name x) (same x) (λ y. name_test x y) es v

-- what an addition leaves
pub added_is : {V S : Type 0} (m : IndexMap (List ℕ) V S) (x : List ℕ) (v : V) → lookup (same x) m.entries ≡ None → insert_entry is_name m.entries x v ≡ m.entries ++ (x, v) ∷ []
added_is m x v none = insert_entry-new is_name m x v (found_is x m.entries ∙ none)

member_step : {V : Type 0} (b : Bool) (v : V) (found : Option V) (later : Bool) → is_some found ≡ later → is_some (cond b (Some v) found) ≡ (b || later)
member_step true v found later e = refl
member_step false v found later e = e

-- whether a name is there
pub member_is : {V : Type 0} (x : List ℕ) (es : List (List ℕ × V)) → is_some (lookup (same x) es) ≡ member x (keys_of es)
member_is x [] = refl
member_is x (e ∷ es) = member_step (same x e.0) e.1 (lookup (same x) es) (member x (keys_of es)) (member_is x es)

none_is : {V : Type 0} (o : Option V) → is_some o ≡ false → o ≡ None
none_is None e = refl
none_is (Some v) e = cc

pub absent_name : {V : Type 0} (x : List ℕ) (es : List (List ℕ × V)) → member x (keys_of es) ≡ false → lookup (same x) es ≡ None
absent_name x es e = none_is (lookup (same x) es) (member_is x es ∙ e)

pub keys_added : {V : Type 0} (es : List (List ℕ × V)) (x : List ℕ) (v : V) → keys_of (es ++ (x, v) ∷ []) ≡ keys_of es ++ x ∷ []
keys_added [] x v = refl
keys_added (e ∷ es) x v = ap (λ ks. e.0 ∷ ks) (keys_added es x v)
