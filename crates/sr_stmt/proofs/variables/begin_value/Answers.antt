use Rattle.std.proofs.Common.{rules}
use Rattle.sr_state.specs.Contexts.{context_of}
use Rattle.sr_stmt.proofs.variables.begin_value.Goals as goal

pub returns-in-None : goal.returns-in-None
returns-in-None c = (let next = c.in_ok-next_initializer.ensures (context_of c.args.state.now.top.context) in search rules)

pub returns-in_ok-after-in-Some : goal.returns-in_ok-after-in-Some
returns-in_ok-after-in-Some c = (let next = c.in_ok-next_initializer.ensures (context_of c.args.state.now.top.context) in search rules)
