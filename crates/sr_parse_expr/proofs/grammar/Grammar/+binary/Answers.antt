use Rattle.std.proofs.Common.{rules, arith}
use Rattle.std.proofs.lemmas.Grind.{common_steps}
use Rattle.sr_syntax.specs.Operators.{row_from}
use Rattle.sr_syntax.specs.Expressions.{binary_}
use Rattle.sr_syntax.specs.Grammar.{tree}
use Rattle.sr_syntax.proofs.Turns.{one_more}
use Rattle.sr_parse_expr.proofs.Rows.{rows_fail, row_fails}
use Rattle.sr_parse_expr.proofs.grammar.Grammar.+binary.Goals as goal

pub binary-returns-in_err-x : goal.binary-returns-in_err-x
unfolding binary_
binary-returns-in_err-x g t c =
    let e = rows_fail (tree c.args.self.now.depth) c.args.has_in 0 c.args.level c.args.tokens.now _ (omega arith) c.in_err-x.ensures in
    first_of (search rules, grind (arith, common_steps))

pub binary-returns-in_err-x-2 : goal.binary-returns-in_err-x-2
unfolding binary_
binary-returns-in_err-x-2 g t c =
    let e = row_fails (tree c.args.self.now.depth) c.args.has_in c.loop-tighter.tighter c.args.level c.args.tokens.now c.loop-tighter.x c.loop-tighter.tokens _ c.loop-tighter-test.true c.loop-tighter.invariant c.in_err-x-2.ensures in
    first_of (search rules, grind (arith, common_steps))

pub row-returns-in_err-x : goal.row-returns-in_err-x
unfolding row_from
row-returns-in_err-x g t c =
    let e = one_more (λ n. row_from c.args.has_in (binary_ (tree c.args.self.now.depth) c.args.has_in c.args.tighter) c.args.level n c.loop-turn.x c.loop-turn.tokens) _ c.loop-turn._turn c.loop-turn-test.true c.loop-turn.invariant in
    first_of (search (rules, c.in_ok-y.ensures), grind (arith, common_steps, c.in_ok-y.ensures))

pub row-loop-turn-preserved : goal.row-loop-turn-preserved
unfolding row_from
row-loop-turn-preserved g t c =
    let e = one_more (λ n. row_from c.args.has_in (binary_ (tree c.args.self.now.depth) c.args.has_in c.args.tighter) c.args.level n c.loop-turn.x c.loop-turn.tokens) _ c.loop-turn._turn c.loop-turn-test.true c.loop-turn.invariant in
    first_of (search (rules, c.in_ok-y.ensures), grind (arith, common_steps, c.in_ok-y.ensures))
