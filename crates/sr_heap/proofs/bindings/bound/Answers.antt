use Rattle.std.proofs.Common.{sym, ap, subst, ◌∙◌, Option}
use Rattle.std.specs.Prelude.{option_map, IfSome}
use Rattle.sr_model.specs.Values.{same}
use Rattle.sr_heap.specs.declared.bindings.Binding.{Binding}
use Rattle.sr_heap.specs.Plain.{binding_of}
use Rattle.sr_heap.specs.Live.{IsLiveBinding}
use Rattle.sr_heap.proofs.Lives.{found_has}
use Rattle.sr_heap.proofs.EnvironmentRecords.{bound_is}
use Rattle.sr_heap.proofs.bindings.bound.Goals as goal

pub returns-clause-same : goal.returns-clause-same
returns-clause-same c = ap (option_map binding_of) c.get.ensures ∙ sym (bound_is c.args.name.now c.args.bindings.now)

pub returns-clause-live : goal.returns-clause-live
returns-clause-live c = λ e live.
    subst (λ (o : Option Binding). IfSome o (IsLiveBinding e)) (sym c.get.ensures) (found_has (IsLiveBinding e) (same c.args.name.now) c.args.bindings.now live)
