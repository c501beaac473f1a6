use Rattle.std.proofs.Common.{◌≡◌, drop}
use Rattle.std.specs.Prelude.{None, IfSome}
use Rattle.sr_lex.specs.Tokens.{IsTokenOf}
use Rattle.sr_marker.specs.Tokens.{markers_behind}
use Rattle.sr_marker.proofs.tokens.token_marker.Given as goal

abbrev pub invariant-loop-i : goal.invariant-loop-i
invariant-loop-i l = record {
  told : markers_behind l.text None l.tokens ≡ markers_behind l.text l.before (drop l.i l.tokens);
  before : IfSome l.before (IsTokenOf l.text);
}
