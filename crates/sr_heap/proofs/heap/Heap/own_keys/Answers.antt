use Rattle.std.proofs.Common.{◌≡◌, map}
use Rattle.std.specs.Map.{keys_of}
use Rattle.std.proofs.lemmas.Result.{IfOk-weaker}
use Rattle.sr_value.specs.Plain.{key_of, number_of}
use Rattle.sr_props.specs.OwnKeys.{own_keys}
use Rattle.sr_model.specs.Keys as keys
use Rattle.sr_model.specs.Objects as spec
use Rattle.sr_heap.proofs.Inside.{parts}
use Rattle.sr_heap.proofs.Methods.{own_keys_is}
use Rattle.sr_heap.proofs.heap.Heap.own_keys.Goals as goal

pub returns : goal.returns
returns g c =
    IfOk-weaker c.own_keys.result
    (λ v. v.items ≡ own_keys (λ k. keys.rank_of (key_of k)) (keys_of c.index.result.now.properties))
    (λ v. map key_of v.items ≡ spec.own_keys c.args.self.now.store.objects (number_of c.args.at.now))
    (λ v. own_keys_is (parts c.self.inside) c.args.self.now c.self.view_is c.args.at.now c.requires c.place.result c.index.result.now
    c.place.ensures c.index.ensures v.items)
    c.own_keys.ensures
