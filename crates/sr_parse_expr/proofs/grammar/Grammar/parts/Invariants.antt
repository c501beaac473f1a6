use Rattle.std.proofs.Common.{◌≡◌, ◌-◌}
use Rattle.sr_syntax.specs.Expressions.{parts, parts_from}
use Rattle.sr_syntax.specs.Grammar.{tree}
use Rattle.sr_parse_expr.proofs.grammar.Grammar.parts.Given as goal

abbrev pub invariant-loop-turn : goal.invariant-loop-turn
invariant-loop-turn g l = parts (tree l.self.depth) l.has_optional l.fn.of l.fn.tokens ≡ parts_from (tree l.self.depth) l.has_optional (l._turn-end - l._turn) l.in_chain l.of l.tokens
