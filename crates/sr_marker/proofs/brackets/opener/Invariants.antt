use Rattle.std.proofs.Common.{◌≡◌, ◌≤◌, ◌+◌, length}
use Rattle.sr_marker.specs.Places.{opener}
use Rattle.sr_marker.proofs.brackets.opener.Given as goal

abbrev pub invariant-loop-number : goal.invariant-loop-number
invariant-loop-number l = record {
  told : opener l.lexemes (length l.lexemes) 0 ≡ opener l.lexemes l.number l.closed;
  few : l.closed + l.number ≤ length l.lexemes;
}
