use Rattle.std.proofs.Common.{ap, ◌∙◌, sym, Option, arith}
use Rattle.sr_tag.specs.Reference.{Reference}
use Rattle.sr_value.specs.Plain.{number_of}
use Rattle.sr_model.specs.Objects as spec
use Rattle.sr_heap.specs.Records.{objects_of}
use Rattle.std.specs.Prelude.{option_map}
use Rattle.std.specs.Option.{option_copied}
use Rattle.sr_value.specs.Plain.{property_of, key_of}
use Rattle.sr_heap.proofs.Ways.{first_here, first_later, first_nowhere, along_none}
use Rattle.sr_heap.proofs.prototypes.first_property.Goals as goal

pub returns-in_err-object-clause-same : goal.returns-in_err-object-clause-same
returns-in_err-object-clause-same g c =
    let past = c.in_err-object.ensures.lookup in
    ap (λ r. option_map property_of (option_copied r)) c.from_residual-in_err-object.ensures
    ∙ first_nowhere c.args.objects.now c.place.result c.in_ok-next.field-0 c.place.ensures
    c.loop-left.left (key_of c.args.key.now) c.loop-left.next _ c.loop-left.invariant c.in_ok-next.was (omega (arith, c.loop-left-test.true)) past.3

pub returns-in-Some-clause-same : goal.returns-in-Some-clause-same
returns-in-Some-clause-same g c =
    let found = c.in_ok-object.ensures.lookup in
    first_here c.args.objects.now c.place.result c.in_ok-next.field-0 c.place.ensures
    c.loop-left.left (key_of c.args.key.now) c.loop-left.next _ c.loop-left.invariant c.in_ok-next.was (omega (arith, c.loop-left-test.true))
    c.in_ok-object.object.now (property_of c.in-Some.property.now) found.3.0 found.1 c.in-Some.ensures.same

pub loop-left-preserved : goal.loop-left-preserved
loop-left-preserved g c =
    let found = c.in_ok-object.ensures.lookup in
    first_later c.args.objects.now c.place.result c.in_ok-next.field-0 c.place.ensures
    c.loop-left.left (key_of c.args.key.now) c.loop-left.next _ c.loop-left.invariant c.in_ok-next.was (omega (arith, c.loop-left-test.true))
    c.in_ok-object.object.now found.3.0 found.1 c.in_default.ensures.same

pub returns-in_err-next-clause-same : goal.returns-in_err-next-clause-same
returns-in_err-next-clause-same g c =
    let way : Option Reference → _ = λ o. spec.property_along c.loop-left.left (objects_of c.args.objects.now) (option_map number_of o) (key_of c.args.key.now) in
    ap (λ r. option_map property_of (option_copied r)) c.from_residual.ensures
    ∙ along_none (objects_of c.args.objects.now) c.loop-left.left (key_of c.args.key.now) _ (sym (ap way c.in_err-next.was) ∙ c.loop-left.invariant)
