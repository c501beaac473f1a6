use Rattle.std.proofs.Common.{reverse}
use Rattle.sr_heap.specs.Live.{extent}
use Rattle.sr_state.proofs.Lives.{sound_kept}
use Rattle.sr_state.proofs.state.State.enter_scope.Goals as goal

pub invariant_of-self : goal.invariant_of-self
invariant_of-self c =
    let s = c.self.inside in
    (c.self.invariant.0, c.self.invariant.1, sound_kept (extent s.here.heap) (extent c.make_scope.new.heap) c.make_scope.ensures.kept s.answer s.top (reverse s.frames) c.self.invariant.2)

pub invariant_of-self-in-len1-up : goal.invariant_of-self-in-len1-up
invariant_of-self-in-len1-up c =
    let s = c.self.inside in
    let sound = sound_kept (extent s.here.heap) (extent c.make_scope.new.heap) c.make_scope.ensures.kept s.answer s.top (reverse s.frames) c.self.invariant.2 in
    let top = sound.top in (
      c.self.invariant.0,
      c.self.invariant.1,
      record {
        answer = sound.answer;
        top = record { environment = c.in_ok-scope-in-len1-up.ensures.live; value = top.value; list = top.list; base = top.base };
        frames = sound.frames;
        built = sound.built;
      },
    )
