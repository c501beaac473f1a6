use Rattle.std.proofs.Common.{◌≡◌, drop}
use Rattle.sr_syntax.specs.Sorts.{find, table_of}
use Rattle.sr_syntax.proofs.words.find.Given as goal

abbrev pub invariant-loop-text : goal.invariant-loop-text
invariant-loop-text l = find (table_of l.table) l.other l.units ≡ find (table_of (drop l.text-index l.table)) l.other l.units
