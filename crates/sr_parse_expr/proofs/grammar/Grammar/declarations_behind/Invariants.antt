use Rattle.std.proofs.Common.{◌≡◌, ◌-◌}
use Rattle.sr_syntax.specs.Grammar.{tree}
use Rattle.sr_syntax.specs.Declarations.{declarations_behind, declarations_from}
use Rattle.sr_parse_expr.proofs.grammar.Grammar.declarations_behind.Given as goal

abbrev pub invariant-loop-turn : goal.invariant-loop-turn
invariant-loop-turn g l = declarations_behind (tree l.self.depth) l.has_in l.fn.found l.fn.tall l.fn.tokens ≡ declarations_from (tree l.self.depth) l.has_in (l._turn-end - l._turn) l.found l.tall l.tokens
