use Rattle.std.proofs.Common.{◌≡◌, ◌-◌}
use Rattle.sr_syntax.specs.Bodies.{parameters, parameters_from}
use Rattle.sr_syntax.proofs.bodies.parameters.Given as goal

abbrev pub invariant-loop-turn : goal.invariant-loop-turn
invariant-loop-turn l = parameters l.fn.tokens ≡ parameters_from (l._turn-end - l._turn) l.names l.tokens
