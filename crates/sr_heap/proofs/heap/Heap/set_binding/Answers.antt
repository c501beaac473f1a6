use Rattle.std.proofs.Common.{subst, ap}
use Rattle.sr_model.specs.Environments.{rebound}
use Rattle.sr_heap.specs.Plain.{binding_of}
use Rattle.sr_heap.specs.Live.{Extent, IsLiveBinding}
use Rattle.sr_heap.specs.Records.{extent_of, environment_of}
use Rattle.sr_heap.proofs.Inside.{parts}
use Rattle.sr_heap.proofs.Lives.{environment_at, environment_set}
use Rattle.sr_heap.proofs.Objects.{extent_is}
use Rattle.sr_heap.proofs.EnvironmentRecords.{within, changed_environments, with_bindings}
use Rattle.sr_heap.proofs.heap.Heap.set_binding.Goals as goal

pub invariant_of-self : goal.invariant_of-self
invariant_of-self g c =
    let x = parts c.self.inside in
    let here = within x c.args.self.now c.self.view_is c.args.at.now c.requires.live in
    let old = environment_at x c.self.invariant c.place.result c.index_mut.result.now (rw c.place.ensures here) c.index_mut.ensures.value in
    let own = subst (λ (e : Extent). IsLiveBinding e c.args.binding) (extent_is x c.args.self.now c.self.view_is) c.requires.own in
    environment_set x c.self.invariant c.place.result _
    (record { bindings = c.rebind.ensures.live (extent_of x) own old.bindings; this = old.this; outer = old.outer })

pub returns-clause-after : goal.returns-clause-after
returns-clause-after g c =
    let old = c.index_mut.result.now in
    changed_environments (parts c.self.inside) c.args.self.now c.self.view_is c.args.at.now c.requires.live c.place.result old c.place.ensures c.index_mut.ensures.value
    (record old { bindings = c.rebind.new.bindings }) (λ e. record e { bindings = rebound c.args.name.now (binding_of c.args.binding) e.bindings })
    (ap (with_bindings (environment_of old)) c.rebind.ensures.after)
