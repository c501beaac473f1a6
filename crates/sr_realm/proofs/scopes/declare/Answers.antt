use Rattle.std.proofs.Common.{rules}
use Rattle.sr_realm.proofs.BoundThere.{bound_there}
use Rattle.sr_realm.proofs.scopes.declare.Goals as goal

pub returns-clause-there : goal.returns-clause-there
returns-clause-there g c =
    let here = bound_there c.args.heap.now.store.environments c.args.at.now.place c.in_ok-clone.field-0 c.requires.number in
    search rules
