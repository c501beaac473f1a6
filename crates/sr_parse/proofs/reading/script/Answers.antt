use Rattle.std.proofs.Common.{rules, arith}
use Rattle.std.proofs.lemmas.Grind.{common_steps}
use Rattle.sr_syntax.specs.Grammar.{script_from}
use Rattle.sr_syntax.proofs.Turns.{one_more}
use Rattle.sr_parse.proofs.reading.script.Goals as goal

pub loop-turn-preserved : goal.loop-turn-preserved
unfolding script_from
loop-turn-preserved c =
    let e = one_more (λ n. script_from n c.loop-turn.found c.loop-turn.tokens) _ c.loop-turn._turn c.loop-turn-test.true c.loop-turn.invariant in
    first_of (search rules, grind (arith, common_steps))
