use Rattle.std.proofs.Common.{◌≡◌, ◌-◌}
use Rattle.sr_syntax.specs.Grammar.{script, script_from}
use Rattle.sr_parse.proofs.reading.script.Given as goal

abbrev pub invariant-loop-turn : goal.invariant-loop-turn
invariant-loop-turn l = script l.fn.tokens ≡ script_from (l._turn-end - l._turn) l.found l.tokens
