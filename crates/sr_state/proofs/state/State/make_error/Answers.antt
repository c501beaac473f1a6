use Rattle.std.proofs.Common.{reverse}
use Rattle.sr_heap.specs.Live.{extent}
use Rattle.sr_state.proofs.Lives.{sound_kept}
use Rattle.sr_state.proofs.state.State.make_error.Goals as goal

pub invariant_of-self : goal.invariant_of-self
invariant_of-self c =
    let s = c.self.inside in
    (c.self.invariant.0, c.self.invariant.1, sound_kept (extent s.here.heap) (extent c.make_error.new.heap) c.make_error.ensures.kept s.answer s.top (reverse s.frames) c.self.invariant.2)

pub invariant_of-self-2 : goal.invariant_of-self-2
invariant_of-self-2 c =
    let s = c.self.inside in
    (c.self.invariant.0, c.self.invariant.1, sound_kept (extent s.here.heap) (extent c.make_error.new.heap) c.make_error.ensures.kept s.answer s.top (reverse s.frames) c.self.invariant.2)
