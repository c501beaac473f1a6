use Rattle.std.proofs.Common.{◌≡◌, ap, ◌∙◌, sym, Option, arith}
use Rattle.std.specs.Prelude.{option_map}
use Rattle.sr_tag.specs.Reference.{Reference}
use Rattle.sr_model.specs.Objects as spec
use Rattle.sr_heap.specs.Records.{objects_of}
use Rattle.sr_value.specs.Plain.{number_of}
use Rattle.sr_heap.proofs.Ways.{leads_on, leads_nowhere, leads_from_none, leads_here}
use Rattle.sr_heap.proofs.prototypes.leads_to.Goals as goal

pub loop-left-preserved-in-Some-get : goal.loop-left-preserved-in-Some-get
loop-left-preserved-in-Some-get g c =
    let found = c.in-Some-get.ensures.lookup in
    let apart : number_of c.in-Some.here ≡ number_of c.args.to.now → ⊥ = λ e. c.if-place.false (omega (arith, e, c.place.ensures, c.place-in-loop-left.ensures)) in
    leads_on c.args.objects.now c.place-in-loop-left-2.result c.in-Some.here c.place-in-loop-left-2.ensures
    c.loop-left.left (number_of c.args.to.now) c.loop-left.next _ c.loop-left.invariant c.in-Some.is (omega (arith, c.loop-left-test.true)) apart
    c.in-Some-get.object.now found.3.0 found.1

pub loop-left-preserved : goal.loop-left-preserved
loop-left-preserved g c =
    let past = c.in-None.ensures.lookup in
    let apart : number_of c.in-Some.here ≡ number_of c.args.to.now → ⊥ = λ e. c.if-place.false (omega (arith, e, c.place.ensures, c.place-in-loop-left.ensures)) in
    leads_nowhere c.args.objects.now c.place-in-loop-left-2.result c.in-Some.here c.place-in-loop-left-2.ensures
    c.loop-left.left (number_of c.args.to.now) c.loop-left.next _ c.loop-left.invariant c.in-Some.is (omega (arith, c.loop-left-test.true)) apart
    past.3

pub returns-in_default : goal.returns-in_default
returns-in_default g c =
    let way : Option Reference → _ = λ o. spec.leads_to c.loop-left.left (objects_of c.args.objects.now) (option_map number_of o) (number_of c.args.to.now) in
    leads_from_none (objects_of c.args.objects.now) c.loop-left.left (number_of c.args.to.now) _ (sym (ap way c.in_default.is) ∙ c.loop-left.invariant)

pub returns-then-place : goal.returns-then-place
returns-then-place g c =
    let way : Option Reference → _ = λ o. spec.leads_to c.loop-left.left (objects_of c.args.objects.now) (option_map number_of o) (number_of c.args.to.now) in
    leads_here (objects_of c.args.objects.now) c.loop-left.left (number_of c.in-Some.here) (number_of c.args.to.now) _ (omega (arith, c.loop-left-test.true))
    (omega (arith, c.if-place.true, c.place.ensures, c.place-in-loop-left.ensures)) (sym (ap way c.in-Some.is) ∙ c.loop-left.invariant)
