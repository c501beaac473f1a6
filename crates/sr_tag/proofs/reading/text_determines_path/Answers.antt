use Rattle.sr_tag.proofs.Texts.{TextDeterminesPath_lem}
use Rattle.sr_tag.proofs.reading.text_determines_path.Goals as goal

pub returns : goal.returns
returns c = TextDeterminesPath_lem
