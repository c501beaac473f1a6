use Rattle.std.proofs.Common.{◌≡◌, ap, arith}
use Rattle.sr_syntax.specs.Grammar.{tree}
use Rattle.sr_syntax.proofs.Turns.{deeper}
use Rattle.sr_parse.proofs.grammar.+tree.Goals as goal

pub returns-then-depth-eq0 : goal.returns-then-depth-eq0
unfolding tree
returns-then-depth-eq0 t c _ = let none : c.args.depth ≡ 0 = omega arith in ap (λ n. tree n c.args.goal c.args.tokens.now) none

pub returns : goal.returns
unfolding tree
returns t c = rw (deeper (λ n. tree n c.args.goal c.args.tokens.now) c.args.depth (omega arith)) c.goal.ensures
