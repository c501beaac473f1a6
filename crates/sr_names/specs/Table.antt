-- Names in memory.
use Rattle.std.specs.Prelude.{◌≡◌, ℕ, List}
use Rattle.indexmap.specs.IndexMap.{IndexMap, get}
use Rattle.sr_names.specs.Names.{Names}
use Rattle.sr_names.specs.Scopes.{same_name, place_of}

-- the map has the first place of each of these names, and no other name
abbrev pub Finds : {S : Type 0} → IndexMap (List ℕ) ℕ S → Names → Type 0
Finds places names = (x : List ℕ) → get same_name places x ≡ place_of names x
