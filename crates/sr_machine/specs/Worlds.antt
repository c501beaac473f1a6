-- The world of a state, with paths in place of the places of the table. The tapes are told beside it, since the state keeps none yet.
use Rattle.std.specs.Prelude.{◌≡◌, ℕ, zero, suc, false, List, [], ◌∷◌, map}
use Rattle.sr_model.specs.Values.{Path, root, same}
use Rattle.sr_model.specs.Events.{Event}
use Rattle.sr_model.specs.Realm.{Realm, fresh}
use Rattle.sr_model.specs.World as worlds
use Rattle.sr_model.specs.World.{Write, World, Place, choose}
use Rattle.sr_state.specs.declared.realm.Link.{Link}
use Rattle.sr_state.specs.Held.{Own, Side, Outer, Held, path_of, table}
use Rattle.sr_state.specs.Work.{Holds, born}

-- the tape of each path
abbrev pub Tapes : Type 0
Tapes = Path → List Event

-- the realm of a path: the first that has it, and a fresh one where none has
abbrev pub realm_at : List Own → Path → Realm Holds
realm_at [] q = fresh born q
realm_at (x ∷ xs) q = choose (same q (path_of x)) x.realm (realm_at xs q)

-- the paths of the realms, and one of them
abbrev pub paths : List Own → List Path
paths xs = map path_of xs

abbrev pub path_at : List Path → ℕ → Path
path_at [] n = []
path_at (p ∷ ps) zero = p
path_at (p ∷ ps) (suc n) = path_at ps n

abbrev pub link_of : List Path → Link → worlds.Link
link_of ps row = record { realm = path_at ps row.realm; wrapper = row.wrapper; owner = path_at ps row.owner; export = row.export }

-- the world of a state, where v was written
abbrev pub world_in : Tapes → List Write → Outer → Side → World Holds
world_in z v o x = record {
  slots = λ q. record { realm = realm_at (table o x) q; tape = z q };
  made = paths (table o x);
  links = map (link_of (paths (table o x))) o.links;
  pending = [];
  told = [];
  tickets = [];
  answers = [];
  used = x.used;
  writes = v;
}

abbrev pub world_of : Tapes → List Write → Held → World Holds
world_of z v h = world_in z v h.outer h.side

-- the i-th realm is the first that has the path p
abbrev pub First : List Own → ℕ → Path → Type 0
First [] i p = ⊥
First (x ∷ xs) zero p = path_of x ≡ p
First (x ∷ xs) (suc i) p = (same p (path_of x) ≡ false) × First xs i p

-- the realm that runs is the first that has its path. As yet it is the first realm
abbrev pub Here : Outer → Side → Type 0
Here o x = First (table o x) o.here (path_of x.own) × (path_of x.own ≡ root)

-- the place of a frame with so many active calls: the realm that runs, and all that have an event under way
abbrev pub place_in : Outer → Side → ℕ → Place
place_in o x k =
    let path = path_at (paths (table o x)) in
    record { realm = path o.here; calls = k; under = path o.here ∷ map (λ l. path l.realm) o.below }

abbrev pub place_of : Held → ℕ → Place
place_of h k = place_in h.outer h.side k
