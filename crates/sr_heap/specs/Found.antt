-- What the code finds along the prototypes, and what comes of a write, as the definitions have it.
use Rattle.std.specs.Prelude.{◌≡◌, true, false, Option, None, Some}
use Rattle.sr_model.specs.Properties.{Property}
use Rattle.sr_value.specs.Plain.{value_of}
use Rattle.sr_model.specs.Objects as model
use Rattle.sr_heap.specs.declared.found.Found.{Found}
use Rattle.sr_heap.specs.declared.found.Found.TheVariants as found
use Rattle.sr_heap.specs.declared.settings.Setting.{Setting}
use Rattle.sr_heap.specs.declared.settings.Setting.TheVariants as setting

abbrev pub found_of : Found → model.Found
found_of (found.Data v) = model.FoundData (value_of v)
found_of (found.Accessor g s) = model.FoundAccessor (value_of g) (value_of s)
found_of found.Missing = model.Missing

abbrev pub setting_of : Setting → model.Setting
setting_of setting.Assigned = model.Assigned
setting_of setting.Refused = model.Refused
setting_of (setting.Setter f) = model.CallsSetter (value_of f)

-- a property lets a write pass, or this comes of it
abbrev pub Stops : Option Property → Option Setting → Type 0
Stops p None = model.passes p ≡ true
Stops p (Some s) = (model.passes p ≡ false) × (setting_of s ≡ model.stopped p)
