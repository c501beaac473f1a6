use Rattle.std.proofs.Common.{◌≡◌, ◌-◌}
use Rattle.sr_syntax.specs.Expressions.{sequence, sequence_from}
use Rattle.sr_syntax.specs.Grammar.{tree}
use Rattle.sr_parse_expr.proofs.grammar.Grammar.sequence.Given as goal

abbrev pub invariant-loop-turn : goal.invariant-loop-turn
invariant-loop-turn g l = sequence (tree l.self.depth) l.has_in l.fn.found l.fn.tokens ≡ sequence_from (tree l.self.depth) l.has_in (l._turn-end - l._turn) l.found l.tokens
