use Rattle.std.proofs.Common.{◌≡◌, ◌-◌, ◌≤◌, drop, length, reverse, []}
use Rattle.std.specs.Prelude.{IsTrue}
use Rattle.sr_lex.specs.Scan.{lexed}
use Rattle.sr_lex.specs.Closed.{NoClose}
use Rattle.sr_lex.proofs.TextSteps.{behind}
use Rattle.sr_lex.proofs.reading.tokens_of.Given as goal

abbrev pub invariant-loop-turn : goal.invariant-loop-turn
invariant-loop-turn l = record {
  told : behind l.tokens.items (lexed (l._turn-end - l._turn) l.at (reverse l.brackets.items) (drop l.at l.text)) ≡ lexed (length l.text) 0 [] l.text;
  within : l.at ≤ length l.text;
  unclosed : IsTrue l.unclosed → NoClose (drop 2 (drop l.at l.text));
}
