use Rattle.std.proofs.Common.{◌≡◌, ◌-◌}
use Rattle.sr_syntax.specs.Grammar.{tree}
use Rattle.sr_syntax.specs.Statements.{cases, cases_from}
use Rattle.sr_parse_stmt.proofs.statements.Statements.cases.Given as goal

abbrev pub invariant-loop-turn : goal.invariant-loop-turn
invariant-loop-turn g l = cases (tree l.self.grammar.depth) l.fn.tokens ≡ cases_from (tree l.self.grammar.depth) (l._turn-end - l._turn) l.found l.tokens
