-- Where no name is declared, nothing is wrong.
use Rattle.sr_names.proofs.Tables.{no_loop}
use Rattle.sr_names.proofs.scopes.loop_scope.Goals as goal

pub returns-then-is_empty : goal.returns-then-is_empty
returns-then-is_empty c =
    no_loop c.args.places.now c.args.names c.args.by_var.now (c.is_empty.ensures.0 c.if-is_empty.true)
