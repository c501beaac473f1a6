-- Where no name is declared, nothing is wrong.
use Rattle.sr_names.proofs.Tables.{no_scope}
use Rattle.sr_names.proofs.scopes.scope.Goals as goal

pub returns-then-is_empty : goal.returns-then-is_empty
returns-then-is_empty c =
    no_scope c.args.places.now c.args.names c.args.by_var.now (c.is_empty.ensures.0 c.if-is_empty.true)
