use Rattle.std.proofs.Common.{◌≡◌, ◌≤◌, ◌++◌, take, drop, length}
use Rattle.sr_syntax.specs.Lexemes.{Behind, sorts_of, with_aheads}
use Rattle.sr_syntax.proofs.lexemes.look_ahead.Given as goal

abbrev pub invariant-loop-index : goal.invariant-loop-index
invariant-loop-index l =
    (l.index ≤ length l.fn.lexemes)
    × ((l.lexemes ≡ take l.index l.fn.lexemes ++ with_aheads (drop l.index l.fn.lexemes))
    × Behind (sorts_of (drop l.index l.fn.lexemes)) l.closed.items l.next)
