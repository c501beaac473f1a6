use Rattle.std.proofs.Common.{take}
use Rattle.sr_syntax.specs.Lexemes.{Sorted}
use Rattle.sr_syntax.proofs.lexemes.sorted.Given as goal

abbrev pub invariant-loop-token : goal.invariant-loop-token
invariant-loop-token l = Sorted l.text (take l.token-index l.tokens) l.found.items
