-- What the readings of a text, and its refusals, say of it.
use Rattle.std.specs.Prelude.{ℕ, List, Option, Some, None, ⊤}
use Rattle.sr_lex.specs.Tokens.{Tokens, FailsAfter, FailsAt}
use Rattle.sr_lex.specs.declared.token.Token.{Token}
use Rattle.sr_lex.specs.declared.token.LexRefusal.{LexRefusal}
use Rattle.sr_lex.specs.declared.token.LexRefusal.TheVariants.{Syntax, Memory}

-- the tokens of a text, or those before its failure at this place
abbrev pub LexesTo : List ℕ → List Token → Option ℕ → Type 0
LexesTo text ts None = Tokens text ts
LexesTo text ts (Some place) = FailsAfter text ts place

-- `Syntax` names the place of failure; memory may always run out
abbrev pub Refuses : List ℕ → LexRefusal → Type 0
Refuses text (Syntax place) = FailsAt text place
Refuses text Memory = ⊤
