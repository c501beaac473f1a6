-- A table of the code, and the list of its plain pairs.
use Rattle.std.proofs.Common.{◌≡◌, Bool, true, false, cond, List, [], ◌∷◌, ◌++◌, map, Some, refl, ap, ◌∙◌, filter}
use Rattle.std.specs.Prelude.{option_map, nat_lt, if◌then◌else◌}
use Rattle.std.specs.Map.{lookup, set_value, remove_entry, keys_of}
use Rattle.std.proofs.lemmas.List.{map-append}
use Rattle.sr_props.specs.declared.key.Rank.{Rank}
use Rattle.sr_props.specs.OwnKeys.{is_index, is_text, is_symbol, number_of, insert_index, ascending, own_keys}

-- keys and values, each under a function; a key passes its test exactly where its image passes the other one
module _ {K J V W : Type 0} (f : K → J) (g : V → W) (test : K → Bool) (image : J → Bool) (alike : (k : K) → test k ≡ image (f k)) where
  lookup_step : (p : K × V) (ps : List (K × V)) (b : Bool) → lookup image (map (λ q. (f q.0, g q.1)) ps) ≡ option_map g (lookup test ps)
      → cond b (Some (g p.1)) (lookup image (map (λ q. (f q.0, g q.1)) ps)) ≡ option_map g (cond b (Some p.1) (lookup test ps))
  lookup_step p ps true e = refl
  lookup_step p ps false e = e

  pub lookup_map : (ps : List (K × V)) → lookup image (map (λ q. (f q.0, g q.1)) ps) ≡ option_map g (lookup test ps)
  lookup_map [] = refl
  lookup_map (p ∷ ps) = rw (← alike p.0) (lookup_step p ps (test p.0) (lookup_map ps))

  set_step : (p : K × V) (ps : List (K × V)) (v : V) (b : Bool) → set_value image (map (λ q. (f q.0, g q.1)) ps) (g v) ≡ map (λ q. (f q.0, g q.1)) (set_value test ps v)
      → cond b ((f p.0, g v) ∷ map (λ q. (f q.0, g q.1)) ps) ((f p.0, g p.1) ∷ set_value image (map (λ q. (f q.0, g q.1)) ps) (g v))
      ≡ map (λ q. (f q.0, g q.1)) (cond b ((p.0, v) ∷ ps) (p ∷ set_value test ps v))
  set_step p ps v true e = refl
  set_step p ps v false e = ap (λ qs. (f p.0, g p.1) ∷ qs) e

  pub set_value_map : (ps : List (K × V)) (v : V) → set_value image (map (λ q. (f q.0, g q.1)) ps) (g v) ≡ map (λ q. (f q.0, g q.1)) (set_value test ps v)
  set_value_map [] v = refl
  set_value_map (p ∷ ps) v = rw (← alike p.0) (set_step p ps v (test p.0) (set_value_map ps v))

  remove_step : (p : K × V) (ps : List (K × V)) (b : Bool) → remove_entry image (map (λ q. (f q.0, g q.1)) ps) ≡ map (λ q. (f q.0, g q.1)) (remove_entry test ps)
      → cond b (map (λ q. (f q.0, g q.1)) ps) ((f p.0, g p.1) ∷ remove_entry image (map (λ q. (f q.0, g q.1)) ps))
      ≡ map (λ q. (f q.0, g q.1)) (cond b ps (p ∷ remove_entry test ps))
  remove_step p ps true e = refl
  remove_step p ps false e = ap (λ qs. (f p.0, g p.1) ∷ qs) e

  pub remove_entry_map : (ps : List (K × V)) → remove_entry image (map (λ q. (f q.0, g q.1)) ps) ≡ map (λ q. (f q.0, g q.1)) (remove_entry test ps)
  remove_entry_map [] = refl
  remove_entry_map (p ∷ ps) = rw (← alike p.0) (remove_step p ps (test p.0) (remove_entry_map ps))

module _ {K J V W : Type 0} (f : K → J) (g : V → W) where
  pub keys_map : (ps : List (K × V)) → keys_of (map (λ q. (f q.0, g q.1)) ps) ≡ map f (keys_of ps)
  keys_map [] = refl
  keys_map (p ∷ ps) = ap (λ ks. f p.0 ∷ ks) (keys_map ps)

-- own keys under a function that keeps their rank
module _ {K J : Type 0} (f : K → J) (rank : J → Rank) where
  filter_step : (test : Rank → Bool) (k : K) (ks : List K) (b : Bool) → map f (filter (λ k. test (rank (f k))) ks) ≡ filter (λ j. test (rank j)) (map f ks)
      → map f (cond b (k ∷ filter (λ k. test (rank (f k))) ks) (filter (λ k. test (rank (f k))) ks))
      ≡ cond b (f k ∷ filter (λ j. test (rank j)) (map f ks)) (filter (λ j. test (rank j)) (map f ks))
  filter_step test k ks true e = ap (λ js. f k ∷ js) e
  filter_step test k ks false e = e

  filter_map_keys : (test : Rank → Bool) (ks : List K) → map f (filter (λ k. test (rank (f k))) ks) ≡ filter (λ j. test (rank j)) (map f ks)
  filter_map_keys test [] = refl
  filter_map_keys test (k ∷ ks) = filter_step test k ks (test (rank (f k))) (filter_map_keys test ks)

  insert_step : (k l : K) (ls : List K) (b : Bool) → map f (insert_index (λ k. rank (f k)) k ls) ≡ insert_index rank (f k) (map f ls)
      → map f (if b then l ∷ insert_index (λ k. rank (f k)) k ls else k ∷ l ∷ ls) ≡ (if b then f l ∷ insert_index rank (f k) (map f ls) else f k ∷ f l ∷ map f ls)
  insert_step k l ls true e = ap (λ js. f l ∷ js) e
  insert_step k l ls false e = refl

  insert_map : (k : K) (ls : List K) → map f (insert_index (λ k. rank (f k)) k ls) ≡ insert_index rank (f k) (map f ls)
  insert_map k [] = refl
  insert_map k (l ∷ ls) = insert_step k l ls (nat_lt (number_of (rank (f l))) (number_of (rank (f k)))) (insert_map k ls)

  ascending_map : (ks : List K) → map f (ascending (λ k. rank (f k)) ks) ≡ ascending rank (map f ks)
  ascending_map [] = refl
  ascending_map (k ∷ ks) = insert_map k (ascending (λ k. rank (f k)) ks) ∙ ap (insert_index rank (f k)) (ascending_map ks)

  pub own_keys_map : (ks : List K) → map f (own_keys (λ k. rank (f k)) ks) ≡ own_keys rank (map f ks)
  own_keys_map ks =
      let indices = filter (λ k. is_index (rank (f k))) ks in
      let texts = filter (λ k. is_text (rank (f k))) ks in
      let symbols = filter (λ k. is_symbol (rank (f k))) ks in
      let first = ascending (λ k. rank (f k)) indices in
      map-append f (first ++ texts) symbols
      ∙ ap (λ js. js ++ map f symbols) (map-append f first texts)
      ∙ ap (λ js. (js ++ map f texts) ++ map f symbols) (ascending_map indices ∙ ap (ascending rank) (filter_map_keys is_index ks))
      ∙ ap (λ js. (ascending rank (filter (λ j. is_index (rank j)) (map f ks)) ++ js) ++ map f symbols) (filter_map_keys is_text ks)
      ∙ ap (λ js. (ascending rank (filter (λ j. is_index (rank j)) (map f ks)) ++ filter (λ j. is_text (rank j)) (map f ks)) ++ js) (filter_map_keys is_symbol ks)
