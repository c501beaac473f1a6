use Rattle.std.proofs.Common.{drop}
use Rattle.sr_syntax.specs.Lexemes.{sorts_of}
use Rattle.sr_syntax.proofs.Aheads.{one_before}
use Rattle.sr_syntax.proofs.lexemes.look_ahead.Goals as goal

pub loop-index-preserved : goal.loop-index-preserved
loop-index-preserved c =
    one_before c.args.lexemes.now c.loop-index.lexemes c.loop-index.index c.index-lexemes-index-in-loop-index.result c.index-lexemes-index.result
    c.in_ok-lexemes.field-0 c.ahead.new.closed.items c.loop-index-test.true c.loop-index.invariant.0 c.loop-index.invariant.1.0
    (c.in_ok-lexemes.ensures (sorts_of (drop c.loop-index.index c.args.lexemes.now)) c.loop-index.invariant.1.1)
