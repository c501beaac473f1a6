-- A realm as the code keeps it.
use Rattle.std.specs.Prelude.{◌∷◌}
use Rattle.sr_model.specs.Realm.{fresh}
use Rattle.sr_state.specs.declared.state.Kept.{Kept}
use Rattle.sr_state.specs.Held.{Own}
use Rattle.sr_state.specs.Work.{Holds, born}

-- what a realm holds
abbrev pub holds_of : Kept → Holds
holds_of k = (let h = k.heap in record { store = h.store; last = record { source = k.last_source; at = k.last_at } })

-- a realm: what is not kept is as in a fresh one
abbrev pub own_of : Kept → Own
own_of k =
    (let h = k.heap in let r = fresh born (0 ∷ k.path) in let i = r.inner in
    record { realm = record r { inner = record i { rest = holds_of k }; lines = k.lines; own = k.own }; tag = h.tag; kids = k.kids })
