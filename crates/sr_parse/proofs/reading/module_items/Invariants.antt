use Rattle.std.proofs.Common.{◌≡◌, ◌-◌}
use Rattle.sr_syntax.specs.Grammar.{module_items, module_from}
use Rattle.sr_parse.proofs.reading.module_items.Given as goal

abbrev pub invariant-loop-turn : goal.invariant-loop-turn
invariant-loop-turn l = module_items l.fn.tokens ≡ module_from (l._turn-end - l._turn) l.found l.tokens
