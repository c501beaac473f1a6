use Rattle.std.proofs.Common.{rules, arith}
use Rattle.std.proofs.lemmas.Grind.{common_steps}
use Rattle.sr_syntax.specs.Expressions.{member_parts_from}
use Rattle.sr_syntax.specs.Grammar.{tree}
use Rattle.sr_syntax.proofs.Turns.{one_more}
use Rattle.sr_parse_expr.proofs.grammar.Grammar.member_parts.Goals as goal

pub loop-turn-preserved : goal.loop-turn-preserved
unfolding member_parts_from
loop-turn-preserved g c =
    let e = one_more (λ n. member_parts_from (tree c.args.self.now.depth) n c.loop-turn.of c.loop-turn.tokens) _ c.loop-turn._turn c.loop-turn-test.true c.loop-turn.invariant in
    first_of (search rules, grind (arith, common_steps))

pub returns-in_err-of-in-Dot : goal.returns-in_err-of-in-Dot
unfolding member_parts_from
returns-in_err-of-in-Dot g c =
    let e = one_more (λ n. member_parts_from (tree c.args.self.now.depth) n c.loop-turn.of c.loop-turn.tokens) _ c.loop-turn._turn c.loop-turn-test.true c.loop-turn.invariant in
    first_of (search rules, grind (arith, common_steps))

pub returns-in_err-of-in-LeftBracket : goal.returns-in_err-of-in-LeftBracket
unfolding member_parts_from
returns-in_err-of-in-LeftBracket g c =
    let e = one_more (λ n. member_parts_from (tree c.args.self.now.depth) n c.loop-turn.of c.loop-turn.tokens) _ c.loop-turn._turn c.loop-turn-test.true c.loop-turn.invariant in
    first_of (search rules, grind (arith, common_steps))

pub returns-in_default : goal.returns-in_default
unfolding member_parts_from
returns-in_default g c =
    let e = one_more (λ n. member_parts_from (tree c.args.self.now.depth) n c.loop-turn.of c.loop-turn.tokens) _ c.loop-turn._turn c.loop-turn-test.true c.loop-turn.invariant in
    first_of (search rules, grind (arith, common_steps))
