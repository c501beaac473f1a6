-- The references in what names come to are live.
use Rattle.sr_value.specs.Live.{Extent, IsLiveScope, IsLiveValue}
use Rattle.sr_realm.specs.declared.names.Base.{Base}
use Rattle.sr_realm.specs.declared.names.Base.TheVariants as base
use Rattle.sr_realm.specs.declared.names.Known.{Known}
use Rattle.sr_realm.specs.declared.names.Known.TheVariants as known
use Rattle.sr_realm.specs.declared.names.Write.{Write}
use Rattle.sr_realm.specs.declared.names.Write.TheVariants as write

abbrev pub IsLiveBase : Extent → Base → Type 0
IsLiveBase e (base.Local r) = IsLiveScope e r
IsLiveBase e b = Unit {0}

abbrev pub IsLiveKnown : Extent → Known → Type 0
IsLiveKnown e (known.Has v) = IsLiveValue e v
IsLiveKnown e (known.Getter g) = IsLiveValue e g
IsLiveKnown e k = Unit {0}

abbrev pub IsLiveWrite : Extent → Write → Type 0
IsLiveWrite e (write.Setter f) = IsLiveValue e f
IsLiveWrite e w = Unit {0}
