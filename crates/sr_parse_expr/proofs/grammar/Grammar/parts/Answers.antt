use Rattle.std.proofs.Common.{rules, arith}
use Rattle.std.proofs.lemmas.Grind.{common_steps}
use Rattle.sr_syntax.specs.Expressions.{parts_from}
use Rattle.sr_syntax.specs.Grammar.{tree}
use Rattle.sr_syntax.proofs.Turns.{one_more}
use Rattle.sr_parse_expr.proofs.grammar.Grammar.parts.Goals as goal

pub loop-turn-preserved : goal.loop-turn-preserved
unfolding parts_from
loop-turn-preserved g c =
    let e = one_more (λ n. parts_from (tree c.args.self.now.depth) c.args.has_optional n c.loop-turn.in_chain c.loop-turn.of c.loop-turn.tokens) _ c.loop-turn._turn c.loop-turn-test.true c.loop-turn.invariant in
    first_of (search rules, grind (arith, common_steps))

pub returns-in_err-of-in-Member : goal.returns-in_err-of-in-Member
unfolding parts_from
returns-in_err-of-in-Member g c =
    let e = one_more (λ n. parts_from (tree c.args.self.now.depth) c.args.has_optional n c.loop-turn.in_chain c.loop-turn.of c.loop-turn.tokens) _ c.loop-turn._turn c.loop-turn-test.true c.loop-turn.invariant in
    first_of (search rules, grind (arith, common_steps))

pub returns-in_err-of-in-Index : goal.returns-in_err-of-in-Index
unfolding parts_from
returns-in_err-of-in-Index g c =
    let e = one_more (λ n. parts_from (tree c.args.self.now.depth) c.args.has_optional n c.loop-turn.in_chain c.loop-turn.of c.loop-turn.tokens) _ c.loop-turn._turn c.loop-turn-test.true c.loop-turn.invariant in
    first_of (search rules, grind (arith, common_steps))

pub returns-in_err-of-in-Call : goal.returns-in_err-of-in-Call
unfolding parts_from
returns-in_err-of-in-Call g c =
    let e = one_more (λ n. parts_from (tree c.args.self.now.depth) c.args.has_optional n c.loop-turn.in_chain c.loop-turn.of c.loop-turn.tokens) _ c.loop-turn._turn c.loop-turn-test.true c.loop-turn.invariant in
    first_of (search rules, grind (arith, common_steps))

pub returns-in_err-of-in-Optional : goal.returns-in_err-of-in-Optional
unfolding parts_from
returns-in_err-of-in-Optional g c =
    let e = one_more (λ n. parts_from (tree c.args.self.now.depth) c.args.has_optional n c.loop-turn.in_chain c.loop-turn.of c.loop-turn.tokens) _ c.loop-turn._turn c.loop-turn-test.true c.loop-turn.invariant in
    first_of (search rules, grind (arith, common_steps))
