use Rattle.std.proofs.Common.{◌≡◌, ◌-◌, reverse}
use Rattle.sr_syntax.specs.Bodies.{items, items_from}
use Rattle.sr_syntax.specs.Grammar.{tree}
use Rattle.sr_parse_expr.proofs.grammar.Grammar.items.Given as goal

abbrev pub invariant-loop-turn : goal.invariant-loop-turn
invariant-loop-turn g l = items (tree l.self.depth) l.fn.tokens ≡ items_from (tree l.self.depth) (l._turn-end - l._turn) (reverse l.around) l.found l.tokens
