use Rattle.std.proofs.Common.{sym, ap, subst, ◌∙◌, Option}
use Rattle.std.specs.Prelude.{option_map, IfSome}
use Rattle.sr_value.specs.Plain.{property_of}
use Rattle.sr_value.specs.declared.property.Property.{Property}
use Rattle.sr_value.specs.contracts.value.KeyPartialEq.TheImpl as key_eq
use Rattle.sr_heap.specs.Live.{IsLiveProperty}
use Rattle.sr_heap.proofs.Objects.{lookup_pairs}
use Rattle.sr_heap.proofs.Lives.{found_has}
use Rattle.sr_heap.proofs.object.Object.own.Goals as goal

pub returns-clause-same : goal.returns-clause-same
returns-clause-same g c = ap (option_map property_of) c.get.ensures ∙ sym (lookup_pairs c.args.key.now c.args.self.now.properties)

pub returns-clause-live : goal.returns-clause-live
returns-clause-live g c = λ e live.
    subst (λ (o : Option Property). IfSome o (IsLiveProperty e)) (sym c.get.ensures) (found_has (IsLiveProperty e) (key_eq.ghosts.eq c.args.key.now) c.args.self.now.properties live.properties)
