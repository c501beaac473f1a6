-- The own keys of an object: OrdinaryOwnPropertyKeys (ECMA-262 10.1.11.1).
use Rattle.std.specs.Prelude.{ℕ, Bool, true, false, List, [], ◌∷◌, ◌++◌, filter, nat_lt, if◌then◌else◌}
use Rattle.sr_props.specs.declared.key.Rank.{Rank}
use Rattle.sr_props.specs.declared.key.Rank.TheVariants.{Index, Text, Symbol}

abbrev pub is_index : Rank → Bool
is_index (Index n) = true
is_index Text = false
is_index Symbol = false

abbrev pub is_text : Rank → Bool
is_text (Index n) = false
is_text Text = true
is_text Symbol = false

abbrev pub is_symbol : Rank → Bool
is_symbol (Index n) = false
is_symbol Text = false
is_symbol Symbol = true

-- the number of an array index
abbrev pub number_of : Rank → ℕ
number_of (Index n) = n
number_of Text = 0
number_of Symbol = 0

-- whether keys of the first rank are listed before those of the second: an array index before one of a greater number, array
-- indices before other strings, and these before symbols
abbrev pub is_listed_before : Rank → Rank → Bool
is_listed_before (Index m) (Index n) = nat_lt m n
is_listed_before (Index m) Text = true
is_listed_before (Index m) Symbol = true
is_listed_before Text (Index n) = false
is_listed_before Text Text = false
is_listed_before Text Symbol = true
is_listed_before Symbol r = false

module _ {K : Type 0} (rank : K → Rank) where
  -- one more array index among some that ascend: behind those whose numbers are lower
  abbrev pub insert_index : K → List K → List K
  insert_index k [] = k ∷ []
  insert_index k (l ∷ ls) = if nat_lt (number_of (rank l)) (number_of (rank k)) then l ∷ insert_index k ls else k ∷ l ∷ ls

  -- array indices in ascending numeric order
  abbrev pub ascending : List K → List K
  ascending [] = []
  ascending (k ∷ ks) = insert_index k (ascending ks)

  -- of keys in the order of their creation: the array indices in ascending numeric order, then the strings that are no
  -- array indices in the order of creation, then the symbols in the order of creation
  abbrev pub own_keys : List K → List K
  own_keys keys =
      ascending (filter (λ k. is_index (rank k)) keys)
      ++ filter (λ k. is_text (rank k)) keys
      ++ filter (λ k. is_symbol (rank k)) keys
