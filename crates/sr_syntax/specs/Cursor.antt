-- What the cursor over the tokens shows.
use Rattle.sr_syntax.specs.declared.tokens.Tokens.TheInside.{Inside}
use Rattle.sr_syntax.specs.Input.{Input}

abbrev pub input_of : Inside → Input
input_of t = record { rest = t.rest.now; last = t.last; size = t.size }
