use Rattle.std.proofs.Common.{◌≡◌, take, string_bytes}
use Rattle.sr_tag.specs.Path.{path_text}
use Rattle.sr_tag.proofs.path.Path.show.Given as goal

abbrev pub invariant-loop-number : goal.invariant-loop-number
invariant-loop-number l = string_bytes l.text ≡ path_text (take l.number-index l.number-items)
