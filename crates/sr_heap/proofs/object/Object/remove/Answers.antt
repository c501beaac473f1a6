use Rattle.std.proofs.Common.{ap, sym, ◌∙◌, map}
use Rattle.sr_value.specs.contracts.value.KeyPartialEq.TheImpl as key_eq
use Rattle.sr_heap.specs.Records.{object_of, pair_of, with_properties}
use Rattle.sr_heap.specs.Live.{IsLiveProperty}
use Rattle.sr_heap.proofs.Objects.{remove_pairs}
use Rattle.sr_heap.proofs.Lives.{remove_have}
use Rattle.sr_heap.proofs.object.Object.remove.Goals as goal

pub returns-clause-after : goal.returns-clause-after
returns-clause-after g c =
    ap (with_properties (object_of c.args.self.now)) (ap (map pair_of) c.remove.ensures.after ∙ sym (remove_pairs c.args.key.now c.args.self.now.properties))

pub returns-clause-live : goal.returns-clause-live
returns-clause-live g c = λ e live. record {
  kind = live.kind;
  prototype = live.prototype;
  properties = rw c.remove.ensures.after (remove_have (IsLiveProperty e) (key_eq.ghosts.eq c.args.key.now) c.args.self.now.properties live.properties);
}
