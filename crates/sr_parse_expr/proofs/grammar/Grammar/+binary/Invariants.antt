use Rattle.std.proofs.Common.{◌≡◌, ◌+◌, ◌-◌, ◌*◌, Ok}
use Rattle.sr_syntax.specs.Operators.{row_of, row_from}
use Rattle.sr_syntax.specs.Expressions.{binary_}
use Rattle.sr_syntax.specs.Grammar.{tree}
use Rattle.sr_parse_expr.proofs.grammar.Grammar.+binary.Given as goal

abbrev pub decreases-binary : goal.decreases-binary
decreases-binary g l = 2 * l.level

abbrev pub decreases-row : goal.decreases-row
decreases-row g l = 2 * l.tighter + 1

abbrev pub invariant-binary-loop-tighter : goal.invariant-binary-loop-tighter
invariant-binary-loop-tighter g l = binary_ (tree l.self.depth) l.has_in l.tighter l.fn.tokens ≡ Ok (l.x, l.tokens)

abbrev pub invariant-row-loop-turn : goal.invariant-row-loop-turn
invariant-row-loop-turn g l =
    row_of l.has_in (binary_ (tree l.self.depth) l.has_in l.tighter) l.level l.fn.x l.fn.tokens
    ≡ row_from l.has_in (binary_ (tree l.self.depth) l.has_in l.tighter) l.level (l._turn-end - l._turn) l.x l.tokens
