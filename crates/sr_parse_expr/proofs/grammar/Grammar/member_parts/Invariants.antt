use Rattle.std.proofs.Common.{◌≡◌, ◌-◌}
use Rattle.sr_syntax.specs.Expressions.{member_parts, member_parts_from}
use Rattle.sr_syntax.specs.Grammar.{tree}
use Rattle.sr_parse_expr.proofs.grammar.Grammar.member_parts.Given as goal

abbrev pub invariant-loop-turn : goal.invariant-loop-turn
invariant-loop-turn g l = member_parts (tree l.self.depth) l.fn.of l.fn.tokens ≡ member_parts_from (tree l.self.depth) (l._turn-end - l._turn) l.of l.tokens
