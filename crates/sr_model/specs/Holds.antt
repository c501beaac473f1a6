-- What the rows of the language keep in a realm, beside what worlds know of.
use Rattle.std.specs.Prelude.{ℕ, suc, length, Bool, true, false}
use Rattle.sr_model.specs.Realm.{Inner, Realm}
use Rattle.sr_model.specs.Stores.{Store}

-- a source and a place in it
pub record Spot : Type 0 where
  pub source : ℕ
  pub at : ℕ

-- the store, and the start of the last tree whose charge the realm paid, which is 0 in source 0 at first
pub record Holds (Code BuiltIn : Type 0) : Type 0 where
  pub store : Store Code BuiltIn
  pub last : Spot

-- one or the other, by a test
abbrev pub either : {A : Type 0} → Bool → A → A → A
either true a b = a
either false a b = b

module _ {Code BuiltIn : Type 0} where
  -- a realm with this store, which has paid no charge
  abbrev pub starting : Store Code BuiltIn → Holds Code BuiltIn
  starting s = record { store = s; last = record { source = 0; at = 0 } }

  -- after a tree of the source that begins at this place has paid its charge
  abbrev pub marked : ℕ → ℕ → Inner (Holds Code BuiltIn) → Inner (Holds Code BuiltIn)
  marked source at i = (let h = i.rest in record i { rest = record h { last = record { source = source; at = at } } })

  -- with this store
  abbrev pub storing : Store Code BuiltIn → Inner (Holds Code BuiltIn) → Inner (Holds Code BuiltIn)
  storing s i = (let h = i.rest in record i { rest = record h { store = s } })

  -- the store of a realm
  abbrev pub store_in : Realm (Holds Code BuiltIn) → Store Code BuiltIn
  store_in r = (let i = r.inner in let h = i.rest in h.store)

  -- the numbers of the object and of the environment that are made next, and of the source that is accepted next
  abbrev pub next_object : Realm (Holds Code BuiltIn) → ℕ
  next_object r = (let s = store_in r in suc (length s.objects))

  abbrev pub next_environment : Realm (Holds Code BuiltIn) → ℕ
  next_environment r = (let s = store_in r in suc (length s.environments))

  abbrev pub next_source : Realm (Holds Code BuiltIn) → ℕ
  next_source r = (let s = store_in r in suc (length s.sources))
