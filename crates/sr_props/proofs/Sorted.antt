-- A list that ascends, in which what ties stands in the order of another list, is that other list, sorted by insertion.
use Rattle.std.proofs.Common.{◌≡◌, ℕ, zero, suc, add-one, ◌<◌, ◌≤◌, Bool, true, false, not, cond, ◌&&◌, List, [], ◌∷◌, length, get_or, filter, refl, sym, ap, ◌∙◌, arith, true≢false, if◌then◌else◌}
use Rattle.std.specs.Cmp.{IsStrictWeakOrder}
use Rattle.std.specs.List.Sorted.{IsPermutation, IsSortedBy, IsStableBy, ties}
use Rattle.std.proofs.lemmas.List.Sorted.{sorted_far, IsPermutation-refl, IsPermutation-sym, IsPermutation-cons, IsPermutation-middle, IsPermutation-trans}

module _ {X : Type 0} (lt : X → X → Bool) where
  -- one more element of a list that ascends: behind those that are before it
  abbrev pub insert_sorted : X → List X → List X
  insert_sorted x [] = x ∷ []
  insert_sorted x (y ∷ ys) = if lt y x then y ∷ insert_sorted x ys else x ∷ y ∷ ys

  abbrev pub sort : List X → List X
  sort [] = []
  sort (x ∷ xs) = insert_sorted x (sort xs)

  -- none of the list is before x
  abbrev NoneBefore : X → List X → Type 0
  NoneBefore x [] = Unit {0}
  NoneBefore x (y ∷ ys) = (lt y x ≡ false) × NoneBefore x ys

  abbrev Ascends : List X → Type 0
  Ascends [] = Unit {0}
  Ascends (x ∷ xs) = NoneBefore x xs × Ascends xs

  none_before : (x : X) (ys : List X) → ((k : ℕ) → k < length ys → lt (get_or ys k x) x ≡ false) → NoneBefore x ys
  none_before x [] h = tt
  none_before x (y ∷ ys) h = (h 0 (omega arith), none_before x ys (λ k l. h (suc k) (omega arith)))

  ascends : (xs : List X) → ((i j : ℕ) (d : X) → i ≤ j → j < length xs → lt (get_or xs j d) (get_or xs i d) ≡ false) → Ascends xs
  ascends [] h = tt
  ascends (x ∷ xs) h =
      (none_before x xs (λ k l. h 0 (suc k) x (omega arith) (omega arith)), ascends xs (λ i j d p q. h (suc i) (suc j) d (omega arith) (omega arith)))

  at_front : (x : X) (xs : List X) (d : X) → 0 < length xs → NoneBefore x xs → lt (get_or xs 0 d) x ≡ false
  at_front x [] d some above = absurd (omega arith)
  at_front x (y ∷ xs) d some above = above.0

  -- no element is before the one at the place before it
  neighbours : (xs : List X) → Ascends xs → (k : ℕ) (d : X) → suc k < length xs → lt (get_or xs (suc k) d) (get_or xs k d) ≡ false
  neighbours [] up k d within = absurd (omega arith)
  neighbours (x ∷ xs) up zero d within = at_front x xs d (omega arith) up.0
  neighbours (x ∷ xs) up (suc k) d within = neighbours xs up.1 k d (omega arith)

  is_sorted : (xs : List X) → Ascends xs → IsSortedBy lt xs
  is_sorted xs up k d from within = rw add-one (neighbours xs up k d (omega arith))

  IsPermutation-insert : (x : X) (ys : List X) → IsPermutation (x ∷ ys) (insert_sorted x ys)
  IsPermutation-insert x [] = IsPermutation-refl (x ∷ [])
  IsPermutation-insert x (y ∷ ys) =
      elim (lt y x) as (λ b. IsPermutation (x ∷ y ∷ ys) (if b then y ∷ insert_sorted x ys else x ∷ y ∷ ys)) [
        | true ↦ IsPermutation-trans _ (y ∷ x ∷ ys) _ (IsPermutation-sym (y ∷ x ∷ ys) (x ∷ y ∷ ys) (IsPermutation-middle (y ∷ []) x ys)) (IsPermutation-cons y (x ∷ ys) (insert_sorted x ys) (IsPermutation-insert x ys))
        | false ↦ IsPermutation-refl (x ∷ y ∷ ys)
      ]

  pub IsPermutation-sort : (xs : List X) → IsPermutation xs (sort xs)
  IsPermutation-sort [] = IsPermutation-refl []
  IsPermutation-sort (x ∷ xs) = IsPermutation-trans _ (x ∷ sort xs) _ (IsPermutation-cons x xs (sort xs) (IsPermutation-sort xs)) (IsPermutation-insert x (sort xs))

module _ {X : Type 0} (lt : X → X → Bool) (order : IsStrictWeakOrder lt) where
  not_before_itself : (x : X) → lt x x ≡ false
  not_before_itself x = by (lt x x) refl
    where
      by : (b : Bool) → lt x x ≡ b → lt x x ≡ false
      by true e = order.one_way x x e
      by false e = e

  ties_itself : (x : X) → ties lt x x ≡ true
  ties_itself x = rw (not_before_itself x) refl

  -- what is not before y is behind what is before y
  behind : (x y z : X) → lt x y ≡ true → lt z y ≡ false → lt x z ≡ true
  behind x y z first later = by (lt x z) refl
    where
      by : (b : Bool) → lt x z ≡ b → lt x z ≡ true
      by true e = e
      by false e = absurd (true≢false (sym first ∙ order.chain x z y e later))

  no_tie : (x y : X) → lt x y ≡ true → ties lt x y ≡ false
  no_tie x y e = rw e refl

  none_ties : (x y : X) (ys : List X) → lt x y ≡ true → NoneBefore lt y ys → filter (ties lt x) ys ≡ []
  none_ties x y [] first above = refl
  none_ties x y (z ∷ ys) first above = rw (no_tie x z (behind x y z first above.0)) (none_ties x y ys first above.1)

  none_ties_there : (x y : X) (ys : List X) → lt x y ≡ true → NoneBefore lt y ys → filter (ties lt x) (y ∷ ys) ≡ []
  none_ties_there x y ys first above = rw (no_tie x y first) (none_ties x y ys first above)

  still_none_before : (x y : X) (ys : List X) → lt y x ≡ false → NoneBefore lt y ys → NoneBefore lt x ys
  still_none_before x y [] e above = tt
  still_none_before x y (z ∷ ys) e above = (order.chain z y x above.0 e, still_none_before x y ys e above.1)

  -- ---- insertion keeps the order

  none_before-insert : (x y : X) (ys : List X) → lt x y ≡ false → NoneBefore lt y ys → NoneBefore lt y (insert_sorted lt x ys)
  none_before-insert x y [] e above = (e, tt)
  none_before-insert x y (z ∷ ys) e above =
      elim (lt z x) as (λ b. NoneBefore lt y (if b then z ∷ insert_sorted lt x ys else x ∷ z ∷ ys)) [ true ↦ (above.0, none_before-insert x y ys e above.1) | false ↦ (e, above) ]

  ascends-insert : (x : X) (ys : List X) → Ascends lt ys → Ascends lt (insert_sorted lt x ys)
  ascends-insert x [] up = (tt, tt)
  ascends-insert x (y ∷ ys) up = by (lt y x) refl (ascends-insert x ys up.1)
    where
      by : (b : Bool) → lt y x ≡ b → Ascends lt (insert_sorted lt x ys) → Ascends lt (if b then y ∷ insert_sorted lt x ys else x ∷ y ∷ ys)
      by true e more = (none_before-insert x y ys (order.one_way y x e) up.0, more)
      by false e more = ((e, still_none_before x y ys e up.0), up)

  ascends-sort : (xs : List X) → Ascends lt (sort lt xs)
  ascends-sort [] = tt
  ascends-sort (x ∷ xs) = ascends-insert x (sort lt xs) (ascends-sort xs)

  pub IsSortedBy-sort : (xs : List X) → IsSortedBy lt (sort lt xs)
  IsSortedBy-sort xs = is_sorted lt (sort lt xs) (ascends-sort xs)

  -- ---- and leaves what ties as it stood

  -- what ties with v is not before what ties with v
  ties_both : (v x y : X) → lt y x ≡ true → ties lt v x ≡ true → ties lt v y ≡ true → ⊥
  ties_both v x y e p q = true≢false (sym e ∙ order.chain y v x (right (lt v y) (lt y v) q) (left (lt v x) (lt x v) p))
    where
      left : (a b : Bool) → not a && not b ≡ true → a ≡ false
      left true b h = absurd (true≢false (sym h))
      left false b h = refl

      right : (a b : Bool) → not a && not b ≡ true → b ≡ false
      right true b h = absurd (true≢false (sym h))
      right false true h = absurd (true≢false (sym h))
      right false false h = refl

  ties-insert : (v x : X) (ys : List X) → filter (ties lt v) (insert_sorted lt x ys) ≡ filter (ties lt v) (x ∷ ys)
  ties-insert v x [] = refl
  ties-insert v x (y ∷ ys) = by (lt y x) refl (ties-insert v x ys)
    where
      two : (s t : Bool) → ties lt v x ≡ s → ties lt v y ≡ t → lt y x ≡ true
          → cond t (y ∷ cond s (x ∷ filter (ties lt v) ys) (filter (ties lt v) ys)) (cond s (x ∷ filter (ties lt v) ys) (filter (ties lt v) ys))
          ≡ cond s (x ∷ cond t (y ∷ filter (ties lt v) ys) (filter (ties lt v) ys)) (cond t (y ∷ filter (ties lt v) ys) (filter (ties lt v) ys))
      two true true p q e = absurd (ties_both v x y e p q)
      two true false p q e = refl
      two false true p q e = refl
      two false false p q e = refl

      by : (b : Bool) → lt y x ≡ b → filter (ties lt v) (insert_sorted lt x ys) ≡ filter (ties lt v) (x ∷ ys)
          → filter (ties lt v) (if b then y ∷ insert_sorted lt x ys else x ∷ y ∷ ys) ≡ filter (ties lt v) (x ∷ y ∷ ys)
      by true e more = (λ i. cond (ties lt v y) (y ∷ more i) (more i)) ∙ two (ties lt v x) (ties lt v y) refl refl e
      by false e more = refl

  ties-sort : (v : X) (xs : List X) → filter (ties lt v) (sort lt xs) ≡ filter (ties lt v) xs
  ties-sort v [] = refl
  ties-sort v (x ∷ xs) =
      let more = ties-sort v xs in
      ties-insert v x (sort lt xs) ∙ (λ i. cond (ties lt v x) (x ∷ more i) (more i))

  -- ---- there is one such list

  one_ties : (x : X) (xs : List X) → filter (ties lt x) (x ∷ xs) ≡ x ∷ filter (ties lt x) xs
  one_ties x xs = rw (ties_itself x) refl

  rest_ties : (v x y : X) (xs ys : List X) → x ≡ y → filter (ties lt v) (x ∷ xs) ≡ filter (ties lt v) (y ∷ ys) → filter (ties lt v) xs ≡ filter (ties lt v) ys
  rest_ties v x y xs ys same h = by (ties lt v x) (ties lt v y) (ap (ties lt v) same) h
    where
      by : (s t : Bool) → s ≡ t → cond s (x ∷ filter (ties lt v) xs) (filter (ties lt v) xs) ≡ cond t (y ∷ filter (ties lt v) ys) (filter (ties lt v) ys)
          → filter (ties lt v) xs ≡ filter (ties lt v) ys
      by true true e k = cc
      by true false e k = absurd (true≢false e)
      by false true e k = absurd (true≢false (sym e))
      by false false e k = k

  one_list : (xs ys : List X) → Ascends lt xs → Ascends lt ys → ((v : X) → filter (ties lt v) xs ≡ filter (ties lt v) ys) → xs ≡ ys
  one_list [] [] up vp h = refl
  one_list [] (y ∷ ys) up vp h = let bad : [] ≡ y ∷ filter (ties lt y) ys = h y ∙ one_ties y ys in cc
  one_list (x ∷ xs) [] up vp h = let bad : x ∷ filter (ties lt x) xs ≡ [] = sym (one_ties x xs) ∙ h x in cc
  one_list (x ∷ xs) (y ∷ ys) up vp h = by (lt x y) (lt y x) refl refl (λ same. one_list xs ys up.1 vp.1 (λ v. rest_ties v x y xs ys same (h v)))
    where
      by : (s t : Bool) → lt x y ≡ s → lt y x ≡ t → (x ≡ y → xs ≡ ys) → x ∷ xs ≡ y ∷ ys
      by true t p q more = let bad : x ∷ filter (ties lt x) xs ≡ [] = sym (one_ties x xs) ∙ h x ∙ none_ties_there x y ys p vp.0 in cc
      by false true p q more = let bad : y ∷ filter (ties lt y) ys ≡ [] = sym (one_ties y ys) ∙ sym (h y) ∙ none_ties_there y x xs q up.0 in cc
      by false false p q more =
          let tie : ties lt x y ≡ true = rw (p, q) refl in
          let fronts : x ∷ filter (ties lt x) xs ≡ y ∷ filter (ties lt x) ys = sym (one_ties x xs) ∙ h x ∙ rw tie refl in
          let same : x ≡ y = cc in
          let rest = more same in
          cc

  pub sorted_is : (xs ys : List X) → IsSortedBy lt ys → IsStableBy lt xs ys → ys ≡ sort lt xs
  sorted_is xs ys up stable = one_list ys (sort lt xs) (ascends lt ys (sorted_far lt order ys up)) (ascends-sort xs) (λ v. stable v ∙ sym (ties-sort v xs))
