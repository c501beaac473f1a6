use Rattle.std.proofs.Common.{sym, ap, ◌∙◌}
use Rattle.sr_model.specs.Values.{same}
use Rattle.sr_heap.specs.Plain.{bindings_of}
use Rattle.sr_heap.specs.Live.{IsLiveBinding}
use Rattle.sr_heap.proofs.Lives.{set_have}
use Rattle.sr_heap.proofs.EnvironmentRecords.{bound_there, rebound_is}
use Rattle.sr_heap.proofs.bindings.rebind.Goals as goal

pub set-requires : goal.set-requires
set-requires c = bound_there c.args.name.now c.args.bindings.now c.requires

pub returns-clause-after : goal.returns-clause-after
returns-clause-after c = ap bindings_of c.set.ensures ∙ sym (rebound_is c.args.name.now c.args.bindings.now c.args.binding)

pub returns-clause-live : goal.returns-clause-live
returns-clause-live c = λ e new live. rw c.set.ensures (set_have (IsLiveBinding e) (same c.args.name.now) c.args.bindings.now c.args.binding new live)
