use Rattle.std.proofs.Common.{subst, refl, ap, arith, length, length-append, [], ◌∷◌}
use Rattle.std.specs.Prelude.{IfSome}
use Rattle.sr_heap.specs.Live.{Extent, IsLiveScope, IsLiveValue}
use Rattle.sr_heap.specs.Records.{extent_of}
use Rattle.sr_heap.proofs.Inside.{parts}
use Rattle.sr_heap.proofs.Lives.{environment_pushed}
use Rattle.sr_heap.proofs.Objects.{extent_is, kept_by}
use Rattle.sr_heap.proofs.heap.Heap.make_environment.Goals as goal

pub invariant_of-self-2 : goal.invariant_of-self-2
invariant_of-self-2 g c =
    let x = parts c.self.inside in
    let same = extent_is x c.args.self.now c.self.view_is in
    let this = subst (λ (e : Extent). IfSome c.args.this (IsLiveValue e)) same c.requires.this in
    let outer = subst (λ (e : Extent). IfSome c.args.outer (IsLiveScope e)) same c.requires.outer in
    rw c.in_ok-push.ensures.items (environment_pushed x c.self.invariant c.new-environment.result (c.new-environment.ensures.live (extent_of x) this outer))

pub returns-clause-kept : goal.returns-clause-kept
returns-clause-kept g c =
    let x = parts c.self.inside in
    kept_by x c.args.self.now c.self.view_is (record x { environments = c.push.new.self.items }) refl (omega arith)
    (omega (arith, ap length c.in_ok-push.ensures.items, length-append x.environments (c.new-environment.result ∷ [])))
