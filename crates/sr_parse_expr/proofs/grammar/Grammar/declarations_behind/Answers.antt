use Rattle.std.proofs.Common.{rules, arith}
use Rattle.std.proofs.lemmas.Grind.{common_steps}
use Rattle.sr_syntax.specs.Grammar.{tree}
use Rattle.sr_syntax.specs.Declarations.{declarations_from}
use Rattle.sr_syntax.proofs.Turns.{one_more}
use Rattle.sr_parse_expr.proofs.grammar.Grammar.declarations_behind.Goals as goal

pub loop-turn-preserved : goal.loop-turn-preserved
unfolding declarations_from
loop-turn-preserved g c =
    let e = one_more (λ n. declarations_from (tree c.args.self.now.depth) c.args.has_in n c.loop-turn.found c.loop-turn.tall c.loop-turn.tokens) _ c.loop-turn._turn c.loop-turn-test.true c.loop-turn.invariant in
    first_of (search rules, grind (arith, common_steps))
