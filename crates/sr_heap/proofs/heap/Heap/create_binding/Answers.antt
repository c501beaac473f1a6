use Rattle.std.proofs.Common.{ap}
use Rattle.std.proofs.lemmas.Result.{on_ok_weaker, on_err_weaker}
use Rattle.sr_model.specs.Environments.{created}
use Rattle.sr_heap.specs.Records.{extent_of, environment_of}
use Rattle.sr_heap.proofs.Inside.{parts}
use Rattle.sr_heap.proofs.Lives.{environment_at, environment_set}
use Rattle.sr_heap.proofs.EnvironmentRecords.{within, changed_environments, kept_environments, with_bindings}
use Rattle.sr_heap.proofs.heap.Heap.create_binding.Goals as goal

pub invariant_of-self : goal.invariant_of-self
invariant_of-self g c =
    let x = parts c.self.inside in
    let here = within x c.args.self.now c.self.view_is c.args.at.now c.requires.live in
    let old = environment_at x c.self.invariant c.place.result c.index_mut.result.now (rw c.place.ensures here) c.index_mut.ensures.value in
    environment_set x c.self.invariant c.place.result _
    (record { bindings = c.create.ensures.live (extent_of x) old.bindings; this = old.this; outer = old.outer })

pub returns-clause-after : goal.returns-clause-after
returns-clause-after g c =
    let old = c.index_mut.result.now in
    on_ok_weaker c.create.result
    (λ after. changed_environments (parts c.self.inside) c.args.self.now c.self.view_is c.args.at.now c.requires.live c.place.result old c.place.ensures c.index_mut.ensures.value
    (record old { bindings = c.create.new.bindings }) (λ e. record e { bindings = created c.args.name e.bindings }) (ap (with_bindings (environment_of old)) after))
    c.create.ensures.after

pub returns-clause-unchanged : goal.returns-clause-unchanged
returns-clause-unchanged g c =
    let old = c.index_mut.result.now in
    on_err_weaker c.create.result
    (λ same. kept_environments (parts c.self.inside) c.args.self.now c.self.view_is c.args.at.now c.requires.live c.place.result old c.place.ensures c.index_mut.ensures.value
    (record old { bindings = c.create.new.bindings }) (ap (λ bs. record old { bindings = bs }) same))
    c.create.ensures.unchanged
