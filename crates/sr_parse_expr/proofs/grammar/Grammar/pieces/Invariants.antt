use Rattle.std.proofs.Common.{◌≡◌, ◌-◌}
use Rattle.sr_syntax.specs.Expressions.{pieces, pieces_from}
use Rattle.sr_syntax.specs.Grammar.{tree}
use Rattle.sr_parse_expr.proofs.grammar.Grammar.pieces.Given as goal

abbrev pub invariant-loop-turn : goal.invariant-loop-turn
invariant-loop-turn g l = pieces (tree l.self.depth) l.fn.first l.fn.tokens ≡ pieces_from (tree l.self.depth) (l._turn-end - l._turn) l.all l.tokens
