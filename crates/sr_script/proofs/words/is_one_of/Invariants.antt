use Rattle.std.proofs.Common.{◌≡◌, drop}
use Rattle.sr_script.specs.Form.{is_one_of}
use Rattle.sr_script.specs.Table.{table_of}
use Rattle.sr_script.proofs.words.is_one_of.Given as goal

abbrev pub invariant-loop-text : goal.invariant-loop-text
invariant-loop-text l = is_one_of (table_of l.texts) l.units ≡ is_one_of (table_of (drop l.text-index l.texts)) l.units
