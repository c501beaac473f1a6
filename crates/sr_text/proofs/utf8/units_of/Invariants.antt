use Rattle.sr_text.proofs.Texts.{IsReadTo}
use Rattle.sr_text.proofs.utf8.units_of.Given as goal

abbrev pub invariant-loop-c : goal.invariant-loop-c
invariant-loop-c l = IsReadTo l.text l.c-iterator.rest.now l.units.items
