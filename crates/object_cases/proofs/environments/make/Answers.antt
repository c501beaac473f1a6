use Rattle.std.proofs.lemmas.List.Elements.{All-weaker, All-push}
use Rattle.sr_heap.specs.Live.{IsLiveScope, extent}
use Rattle.object_cases.proofs.environments.make.Goals as goal

pub make_environment-requires-clause-this : goal.make_environment-requires-clause-this
make_environment-requires-clause-this c = c.in_ok-number.ensures _

pub loop-word-preserved : goal.loop-word-preserved
loop-word-preserved c =
    let before = IsLiveScope (extent c.loop-word.heap) in
    let after = IsLiveScope (extent c.make_environment.new.self) in
    let made = c.loop-word.made.items in (
      tt,
      tt,
      rw c.in_ok-push.ensures.items
          (All-push after made c.in_ok-at.at (All-weaker before after c.in_ok-at.ensures.kept.environments made c.loop-word.invariant.2) c.in_ok-at.ensures.live),
    )
