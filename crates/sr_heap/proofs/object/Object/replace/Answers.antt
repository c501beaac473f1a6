use Rattle.std.proofs.Common.{ap, sym, ◌∙◌, map}
use Rattle.sr_value.specs.contracts.value.KeyPartialEq.TheImpl as key_eq
use Rattle.sr_heap.specs.Records.{object_of, pair_of, with_properties}
use Rattle.sr_heap.specs.Live.{IsLiveProperty}
use Rattle.sr_heap.proofs.Objects.{set_pairs, present}
use Rattle.sr_heap.proofs.Lives.{set_have}
use Rattle.sr_heap.proofs.object.Object.replace.Goals as goal

pub set-requires : goal.set-requires
set-requires g c = present c.args.key.now c.args.self.now.properties c.requires

pub returns-clause-after : goal.returns-clause-after
returns-clause-after g c =
    ap (with_properties (object_of c.args.self.now)) (ap (map pair_of) c.set.ensures.after ∙ sym (set_pairs c.args.key.now c.args.self.now.properties c.args.property))

pub returns-clause-live : goal.returns-clause-live
returns-clause-live g c = λ e new live. record {
  kind = live.kind;
  prototype = live.prototype;
  properties = rw c.set.ensures.after (set_have (IsLiveProperty e) (key_eq.ghosts.eq c.args.key.now) c.args.self.now.properties c.args.property new live.properties);
}
