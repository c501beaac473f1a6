use Rattle.std.proofs.Common.{take, ◌+◌, rules, arith}
use Rattle.std.proofs.lemmas.Grind.{common_steps}
use Rattle.sr_script.proofs.Sets.{turn}
use Rattle.sr_script.proofs.declared.set_of.Goals as goal

pub loop-name-preserved : goal.loop-name-preserved
loop-name-preserved c =
    turn c.loop-name.set.keys c.insert.new.self.keys (take c.loop-name.name-index c.args.list.now) (take (c.loop-name.name-index + 1) c.args.list.now) c.in_ok-clone.field-0 c.name-item.result
    c.loop-name.invariant c.in_ok-insert.ensures.keys (first_of (search rules, grind (arith, common_steps))) (first_of (search rules, grind (arith, common_steps)))
