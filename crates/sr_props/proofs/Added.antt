-- What `add` leaves, in the words of its contract.
use Rattle.std.proofs.Common.{◌≡◌, Bool, [], ◌∷◌, ◌++◌, None}
use Rattle.std.specs.Map.{lookup}
use Rattle.indexmap.specs.IndexMap.{IndexMap, insert_entry}
use Rattle.indexmap.proofs.CallerLemmas.{insert_entry-new}

pub added : {K V S : Type 0} (eq : K → K → Bool) (m : IndexMap K V S) (k : K) (v : V) → lookup (eq k) m.entries ≡ None → insert_entry eq m.entries k v ≡ m.entries ++ (k, v) ∷ []
added eq m k v none = insert_entry-new eq m k v none
