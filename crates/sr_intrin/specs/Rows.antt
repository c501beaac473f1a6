-- The table of the code as that of the definitions.
use Rattle.std.specs.Prelude.{ℕ, List, Bool, true, false, option_map, None, Some}
use Rattle.sr_model.specs.Values.{Text, Value, Simple, Undefined, Num}
use Rattle.sr_intrin.specs.declared.names.BuiltIn.{BuiltIn}
use Rattle.sr_intrin.specs.declared.table.Row.{Row}
use Rattle.sr_intrin.specs.declared.table.Entry.{Entry}
use Rattle.sr_intrin.specs.declared.table.Content.{Content}
use Rattle.sr_intrin.specs.declared.table.Content.TheVariants as content
use Rattle.sr_intrin.specs.declared.table.Sort.{Sort}
use Rattle.sr_intrin.specs.declared.table.Sort.TheVariants as sort
use Rattle.sr_intrin.specs.Table as table

abbrev pub row_of : Row → table.Row
row_of r = record { function = option_map (λ f. (f.0, f.1.now)) r.function; prototype = r.prototype }

abbrev pub value_of : Content → Value
value_of content.Undefined = Simple Undefined
value_of content.Nan = Simple (Num None)
value_of (content.Number n) = table.number n
value_of (content.Text s) = table.text s.now
value_of (content.Object o) = table.object o

abbrev pub is_writable : Sort → Bool
is_writable sort.Hidden = true
is_writable s = false

abbrev pub is_configurable : Sort → Bool
is_configurable sort.Fixed = false
is_configurable s = true

abbrev pub entry_of : Entry → table.Entry
entry_of e = record { object = e.object; key = e.key.now; value = value_of e.value; writable = is_writable e.sort; configurable = is_configurable e.sort }
