use Rattle.std.proofs.Common.{◌≡◌, ◌-◌}
use Rattle.sr_syntax.specs.Grammar.{tree}
use Rattle.sr_syntax.specs.Statements.{clause_items, clause_from}
use Rattle.sr_parse_stmt.proofs.statements.Statements.clause_items.Given as goal

abbrev pub invariant-loop-turn : goal.invariant-loop-turn
invariant-loop-turn g l = clause_items (tree l.self.grammar.depth) l.fn.tokens ≡ clause_from (tree l.self.grammar.depth) (l._turn-end - l._turn) l.found l.tokens
