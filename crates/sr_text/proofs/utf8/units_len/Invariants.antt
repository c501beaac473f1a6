use Rattle.sr_text.proofs.Texts.{IsCountedTo}
use Rattle.sr_text.proofs.utf8.units_len.Given as goal

abbrev pub invariant-loop-c : goal.invariant-loop-c
invariant-loop-c l = IsCountedTo l.text l.c-iterator.rest.now l.len
