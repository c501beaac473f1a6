use Rattle.std.proofs.Common.{length}
use Rattle.sr_text.proofs.words.+spells.Given as goal

abbrev pub decreases-spells : goal.decreases-spells
decreases-spells l = length l.units.now
