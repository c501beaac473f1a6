-- The own keys are the keys, sorted by their ranks.
use Rattle.std.proofs.Common.{◌≡◌, ℕ, ◌+◌, get_or, ◌==◌, Bool, true, false, cond, List, [], ◌∷◌, ◌++◌, filter, nat_lt, nat_cmp, is_lt, Less, Equal, Greater, refl, sym, ap, ap₂, ◌∙◌, append_assoc, true≢false, if◌then◌else◌}
use Rattle.std.specs.List.{AllByRecursion}
use Rattle.std.specs.List.Sorted.{IsPermutation, IsSortedBy, IsStableBy}
use Rattle.std.proofs.lemmas.List.Sorted.{ranks_by}
use Rattle.sr_props.specs.declared.key.Rank.{Rank}
use Rattle.sr_props.specs.declared.key.Rank.TheVariants.{Index, Text, Symbol}
use Rattle.sr_props.specs.contracts.key.RankOrd.TheImpl as rank_ord
use Rattle.sr_props.specs.contracts.key.RankOrd.TheImpl.Laws.{total-law}
use Rattle.sr_props.specs.OwnKeys.{is_index, is_text, is_symbol, number_of, insert_index, ascending, own_keys, is_listed_before}
use Rattle.sr_props.proofs.Sorted.{insert_sorted, sort, sorted_is, IsPermutation-sort, IsSortedBy-sort}

-- whether keys of the first rank are listed before those of the second
abbrev before : Rank → Rank → Bool
before r s = is_lt ((rank_ord.ghosts).cmp r s)

lower : (m n : ℕ) → is_lt (nat_cmp m n) ≡ nat_lt m n
lower m n =
    elim (nat_lt m n) as (λ b. is_lt (cond b Less (cond (m == n) Equal Greater)) ≡ b) [
      | true ↦ refl
      | false ↦ elim (m == n) as (λ b. is_lt (cond b Equal Greater) ≡ false) [ true ↦ refl | false ↦ refl ]
    ]

before_is : (r s : Rank) → before r s ≡ is_listed_before r s
before_is (Index m) (Index n) = lower m n
before_is (Index m) Text = refl
before_is (Index m) Symbol = refl
before_is Text (Index n) = refl
before_is Text Text = refl
before_is Text Symbol = refl
before_is Symbol (Index n) = refl
before_is Symbol Text = refl
before_is Symbol Symbol = refl

index_is : (r : Rank) → is_index r ≡ true → r ≡ Index (number_of r)
index_is (Index n) p = refl
index_is Text p = absurd (true≢false (sym p))
index_is Symbol p = absurd (true≢false (sym p))

text_is : (r : Rank) → is_text r ≡ true → r ≡ Text
text_is (Index n) p = absurd (true≢false (sym p))
text_is Text p = refl
text_is Symbol p = absurd (true≢false (sym p))

symbol_is : (r : Rank) → is_symbol r ≡ true → r ≡ Symbol
symbol_is (Index n) p = absurd (true≢false (sym p))
symbol_is Text p = absurd (true≢false (sym p))
symbol_is Symbol p = refl

module _ {X : Type 0} where
  all_so : {P Q : X → Type 0} → ((x : X) → P x → Q x) → (xs : List X) → AllByRecursion P xs → AllByRecursion Q xs
  all_so h [] all = tt
  all_so h (x ∷ xs) all = (h x all.0, all_so h xs all.1)

  all_pass : (test : X → Bool) (xs : List X) → AllByRecursion (λ x. test x ≡ true) (filter test xs)
  all_pass test [] = tt
  all_pass test (x ∷ xs) = by (test x) refl (all_pass test xs)
    where
      by : (b : Bool) → test x ≡ b → AllByRecursion (λ y. test y ≡ true) (filter test xs) → AllByRecursion (λ y. test y ≡ true) (cond b (x ∷ filter test xs) (filter test xs))
      by true e more = (e, more)
      by false e more = more

module _ {X : Type 0} (lt : X → X → Bool) (x : X) where
  -- x goes behind all that are before it
  passes : (ys zs : List X) → AllByRecursion (λ y. lt y x ≡ true) ys → insert_sorted lt x (ys ++ zs) ≡ ys ++ insert_sorted lt x zs
  passes [] zs all = refl
  passes (y ∷ ys) zs all = rw all.0 (ap (λ l. y ∷ l) (passes ys zs all.1))

  -- and not behind any other
  stops_before : (ys zs : List X) → AllByRecursion (λ y. lt y x ≡ false) ys → AllByRecursion (λ z. lt z x ≡ false) zs → insert_sorted lt x (ys ++ zs) ≡ x ∷ (ys ++ zs)
  stops_before [] [] some all = refl
  stops_before [] (z ∷ zs) some all = rw all.0 refl
  stops_before (y ∷ ys) zs some all = rw some.0 refl

module _ {K : Type 0} (rank : K → Rank) where
  abbrev listed_before : K → K → Bool
  listed_before x y = before (rank x) (rank y)

  abbrev AreIndices : List K → Type 0
  AreIndices ks = AllByRecursion (λ k. is_index (rank k) ≡ true) ks

  indices-insert : (k : K) (ls : List K) → is_index (rank k) ≡ true → AreIndices ls → AreIndices (insert_index rank k ls)
  indices-insert k [] p all = (p, tt)
  indices-insert k (l ∷ ls) p all =
      elim (nat_lt (number_of (rank l)) (number_of (rank k))) as (λ b. AreIndices (if b then l ∷ insert_index rank k ls else k ∷ l ∷ ls)) [
        | true ↦ (all.0, indices-insert k ls p all.1)
        | false ↦ (p, all)
      ]

  indices-ascending : (ks : List K) → AreIndices ks → AreIndices (ascending rank ks)
  indices-ascending [] all = tt
  indices-ascending (k ∷ ks) all = indices-insert k (ascending rank ks) all.0 (indices-ascending ks all.1)

  -- an array index goes among the array indices
  insert_among : (k : K) (is rest : List K) → is_index (rank k) ≡ true → AreIndices is → insert_sorted listed_before k rest ≡ k ∷ rest
      → insert_sorted listed_before k (is ++ rest) ≡ insert_index rank k is ++ rest
  insert_among k [] rest p all more = more
  insert_among k (i ∷ is) rest p all more =
      let order : listed_before i k ≡ nat_lt (number_of (rank i)) (number_of (rank k)) =
      ap₂ before (index_is (rank i) all.0) (index_is (rank k) p) ∙ lower (number_of (rank i)) (number_of (rank k)) in
      let deeper = insert_among k is rest p all.1 more in
      rw order
      (elim (nat_lt (number_of (rank i)) (number_of (rank k))) as (λ b. (if b then i ∷ insert_sorted listed_before k (is ++ rest) else k ∷ i ∷ (is ++ rest)) ≡ (if b then i ∷ insert_index rank k is else k ∷ i ∷ is) ++ rest) [
        | true ↦ ap (λ l. i ∷ l) deeper
        | false ↦ refl
      ])

  module _ (ks : List K) (k : K) where
    abbrev indices : List K
    indices = filter (λ l. is_index (rank l)) ks

    abbrev texts : List K
    texts = filter (λ l. is_text (rank l)) ks

    abbrev symbols : List K
    symbols = filter (λ l. is_symbol (rank l)) ks

    -- where k stands to the keys of each rank
    to_indices : (r : Rank) → rank k ≡ r → AllByRecursion (λ i. listed_before i k ≡ before (Index (number_of (rank i))) r) (ascending rank indices)
    to_indices r e = all_so (λ i p. ap₂ before (index_is (rank i) p) e) (ascending rank indices) (indices-ascending indices (all_pass (λ l. is_index (rank l)) ks))

    to_texts : (r : Rank) → rank k ≡ r → AllByRecursion (λ t. listed_before t k ≡ before Text r) texts
    to_texts r e = all_so (λ t p. ap₂ before (text_is (rank t) p) e) texts (all_pass (λ l. is_text (rank l)) ks)

    to_symbols : (r : Rank) → rank k ≡ r → AllByRecursion (λ s. listed_before s k ≡ before Symbol r) symbols
    to_symbols r e = all_so (λ s p. ap₂ before (symbol_is (rank s) p) e) symbols (all_pass (λ l. is_symbol (rank l)) ks)

    -- the own keys with k, where k was created before the others
    abbrev WithFirst : Rank → Type 0
    WithFirst r =
        insert_sorted listed_before k (own_keys rank ks)
        ≡ (ascending rank (cond (is_index r) (k ∷ indices) indices) ++ cond (is_text r) (k ∷ texts) texts) ++ cond (is_symbol r) (k ∷ symbols) symbols

    with_first : (r : Rank) → rank k ≡ r → WithFirst r
    with_first (Index n) e =
        let is = ascending rank indices in
        ap (insert_sorted listed_before k) (append_assoc is texts symbols)
        ∙ insert_among k is (texts ++ symbols) (ap is_index e) (indices-ascending indices (all_pass (λ l. is_index (rank l)) ks))
        (stops_before listed_before k texts symbols (to_texts (Index n) e) (to_symbols (Index n) e))
        ∙ sym (append_assoc (insert_index rank k is) texts symbols)
    with_first Text e =
        let is = ascending rank indices in
        ap (insert_sorted listed_before k) (append_assoc is texts symbols)
        ∙ passes listed_before k is (texts ++ symbols) (to_indices Text e)
        ∙ ap (λ l. is ++ l) (stops_before listed_before k texts symbols (to_texts Text e) (to_symbols Text e))
        ∙ sym (append_assoc is (k ∷ texts) symbols)
    with_first Symbol e =
        let is = ascending rank indices in
        ap (insert_sorted listed_before k) (append_assoc is texts symbols)
        ∙ passes listed_before k is (texts ++ symbols) (to_indices Symbol e)
        ∙ ap (λ l. is ++ l)
        (passes listed_before k texts symbols (to_texts Symbol e) ∙ ap (λ l. texts ++ l) (stops_before listed_before k [] symbols tt (to_symbols Symbol e)))
        ∙ sym (append_assoc is texts (k ∷ symbols))

  sorted_by_rank : (ks : List K) → own_keys rank ks ≡ sort listed_before ks
  sorted_by_rank [] = refl
  sorted_by_rank (k ∷ ks) = sym (with_first ks k (rank k) refl) ∙ ap (insert_sorted listed_before k) (sorted_by_rank ks)

  pub listed : (ks ls : List K) → IsSortedBy listed_before ls → IsStableBy listed_before ks ls → ls ≡ own_keys rank ks
  listed ks ls up stable = sorted_is listed_before (ranks_by total-law rank) ks ls up stable ∙ sym (sorted_by_rank ks)

  pub are_the_keys : (ks : List K) → IsPermutation ks (own_keys rank ks)
  are_the_keys ks = rw (sorted_by_rank ks) (IsPermutation-sort listed_before ks)

  pub ascend : (ks : List K) → IsSortedBy (λ k l. is_listed_before (rank k) (rank l)) (own_keys rank ks)
  ascend ks k d from within =
      let up : IsSortedBy listed_before (own_keys rank ks) = rw (sorted_by_rank ks) (IsSortedBy-sort listed_before (ranks_by total-law rank) ks) in
      sym (before_is (rank (get_or (own_keys rank ks) (k + 1) d)) (rank (get_or (own_keys rank ks) k d))) ∙ up k d from within
