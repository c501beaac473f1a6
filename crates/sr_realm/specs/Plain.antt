-- Where names are bound and what they come to, as the definitions have it.
use Rattle.sr_value.specs.Plain.{number_of, value_of}
use Rattle.sr_model.specs.Names as model
use Rattle.sr_realm.specs.declared.accepting.Acceptance.{Acceptance}
use Rattle.sr_realm.specs.declared.accepting.Acceptance.TheVariants as acceptance
use Rattle.sr_realm.specs.declared.accepting.Declarations.{Declarations}
use Rattle.sr_realm.specs.declared.names.Base.{Base}
use Rattle.sr_realm.specs.declared.names.Base.TheVariants as base
use Rattle.sr_realm.specs.declared.names.Known.{Known}
use Rattle.sr_realm.specs.declared.names.Known.TheVariants as known
use Rattle.sr_realm.specs.declared.names.Write.{Write}
use Rattle.sr_realm.specs.declared.names.Write.TheVariants as write

-- where a name is bound
abbrev pub base_of : Base → model.Base
base_of base.Unresolvable = model.Unresolvable
base_of base.Property = model.Property
base_of base.Lexical = model.Lexical
base_of (base.Local r) = model.Local (number_of r)

-- what it comes to
abbrev pub known_of : Known → model.Known
known_of (known.Has v) = model.Has (value_of v)
known_of (known.Getter g) = model.Getter (value_of g)
known_of known.NoValue = model.NoValue
known_of known.NotBound = model.NotBound

-- what a write of it comes to
abbrev pub write_of : Write → model.Write
write_of write.Written = model.Written
write_of (write.Setter f) = model.Setter (value_of f)
write_of write.TooEarly = model.TooEarly
write_of write.Fixed = model.Fixed
write_of write.Unbound = model.Unbound
write_of write.Rejected = model.Rejected

-- the names that a script declares, and what comes of them
abbrev pub declarations_of : Declarations → model.Declarations
declarations_of d = record { vars = d.vars.now; lexical = d.lexical.now }

abbrev pub acceptance_of : Acceptance → model.Acceptance
acceptance_of acceptance.Accepted = model.Accepted
acceptance_of acceptance.Clash = model.Clash
acceptance_of acceptance.Closed = model.Closed
