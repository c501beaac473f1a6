use Rattle.std.proofs.Common.{◌≡◌, ◌-◌}
use Rattle.sr_syntax.specs.Expressions.{elements, array_from}
use Rattle.sr_syntax.specs.Grammar.{tree}
use Rattle.sr_parse_expr.proofs.grammar.Grammar.elements.Given as goal

abbrev pub invariant-loop-turn : goal.invariant-loop-turn
invariant-loop-turn g l = elements (tree l.self.depth) l.fn.tokens ≡ array_from (tree l.self.depth) (l._turn-end - l._turn) l.found l.tokens
