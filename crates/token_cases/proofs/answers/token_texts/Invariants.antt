use Rattle.std.proofs.Common.{All}
use Rattle.sr_lex.specs.Tokens.{IsTokenOf}
use Rattle.token_cases.proofs.answers.token_texts.Given as goal

abbrev pub invariant-loop-token : goal.invariant-loop-token
invariant-loop-token l = All (IsTokenOf l.text) l.token-items
