-- What the refusal of a text names.
use Rattle.std.specs.Prelude.{ℕ, nat_lt, if◌then◌else◌, Option, None, Some}
use Rattle.sr_text.specs.declared.marker.Marker.{Marker}
use Rattle.sr_ast.specs.declared.refused.Refused.{Refused}
use Rattle.sr_ast.specs.declared.refused.Refused.TheVariants.{Syntax, Unsupported}

-- of two markers the one at the lesser place, the first one at the same
abbrev pub least : Option (Marker × ℕ) → Option (Marker × ℕ) → Option (Marker × ℕ)
least None b = b
least (Some a) None = Some a
least (Some a) (Some b) = if nat_lt b.1 a.1 then Some b else Some a

-- the refusal of a text that is no script and no module at this place, and has this marker
abbrev pub refusal_at : ℕ → Option (Marker × ℕ) → Refused
refusal_at place None = Syntax place
refusal_at place (Some marked) = Unsupported marked.0 marked.1
