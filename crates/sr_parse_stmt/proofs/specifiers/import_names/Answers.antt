use Rattle.std.proofs.Common.{rules, arith}
use Rattle.std.proofs.lemmas.Grind.{common_steps}
use Rattle.sr_syntax.specs.Modules.{import_names_from}
use Rattle.sr_syntax.proofs.Turns.{one_more}
use Rattle.sr_parse_stmt.proofs.specifiers.import_names.Goals as goal

pub loop-turn-preserved : goal.loop-turn-preserved
unfolding import_names_from
loop-turn-preserved c =
    let e = one_more (λ n. import_names_from n c.loop-turn.found c.loop-turn.tokens) _ c.loop-turn._turn c.loop-turn-test.true c.loop-turn.invariant in
    first_of (search rules, grind (arith, common_steps))

pub returns-then-eat : goal.returns-then-eat
unfolding import_names_from
returns-then-eat c =
    let e = one_more (λ n. import_names_from n c.loop-turn.found c.loop-turn.tokens) _ c.loop-turn._turn c.loop-turn-test.true c.loop-turn.invariant in
    first_of (search rules, grind (arith, common_steps))

pub returns-in_err-expect : goal.returns-in_err-expect
unfolding import_names_from
returns-in_err-expect c =
    let e = one_more (λ n. import_names_from n c.loop-turn.found c.loop-turn.tokens) _ c.loop-turn._turn c.loop-turn-test.true c.loop-turn.invariant in
    first_of (search rules, grind (arith, common_steps))
