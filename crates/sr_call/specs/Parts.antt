-- What the parts of a step leave.
use Rattle.std.specs.Prelude.{◌≡◌, ◌⊎◌, ◌<◌, ℕ, suc, true, false, nat_le, List, length, Option, None, Some, Ok, Err}
use Rattle.sr_value.specs.declared.value.Value.{Value}
use Rattle.sr_model.specs.Values as model
use Rattle.sr_model.specs.Outcomes.{Stop}
use Rattle.sr_model.specs.Scripts.{Halt, Pay}
use Rattle.sr_conv.specs.declared.answers.Computed.{Computed}
use Rattle.sr_conv.specs.declared.answers.Computed.TheVariants as computed
use Rattle.sr_state.specs.declared.ends.Next.{Next}
use Rattle.sr_state.specs.declared.ends.Next.TheVariants as next
use Rattle.sr_state.specs.declared.ends.StopName.TheVariants as stop
use Rattle.sr_state.specs.Ends.{HaltsBy}
use Rattle.sr_state.specs.Held.{Held, staged, listing}
use Rattle.sr_realm.specs.Errors.{type_error}
use Rattle.sr_state.specs.Errors.{throw_new}
use Rattle.sr_state.specs.Parts.{Makes, Throws, emptied}
use Rattle.sr_state.specs.Step.{plain}
use Rattle.sr_state.specs.Work.{Steps}
use Rattle.sr_state.specs.Trees.{text_limit}
use Rattle.sr_call.specs.Rows.{joined, print_joined}
use Rattle.sr_call.specs.Stages.{texts_in, rest_at, turn_at}

-- the line of the texts that some values are
abbrev pub line_of : List Value → model.Text
line_of vs = joined (texts_in (plain vs))

-- this text as a string, or none where it is too long for one
abbrev pub IsString : model.Text → Option model.Text → Type 0
IsString text None = text_limit < length text
IsString text (Some s) = s ≡ text

-- a line is printed
abbrev pub PrintsLine : model.Text → Held → Next → Held → Type 0
PrintsLine text old n new = (n ≡ next.Print text) × (new ≡ staged 1 (emptied old))

-- what comes of a line: it is too long for a string, or it is made and printed
abbrev pub PrintsAll : model.Text → Held → Next → Held → Type 0
PrintsAll text old n new =
    ((nat_le (length text) text_limit ≡ false) × (n ≡ next.Halt stop.StringLength) × (new ≡ old))
    ⊎ ((nat_le (length text) text_limit ≡ true)
    × (Makes 2 text old (Err n) new ⊎ ((mid : Held) × Makes 2 text old (Ok text) mid × PrintsLine text mid n new)))

-- what comes next, from the argument of this number on: it waits for its turn, or none is left, and the line is made
abbrev pub GoesOn : ℕ → Held → Next → Held → Type 0
GoesOn at old n new =
    (let f = old.top in
    ((rest_at at (plain f.list) ≡ Pay 0 (turn_at at (plain f.list))) × (n ≡ next.Going) × (new ≡ staged (suc (suc (suc at))) old))
    ⊎ ((text : model.Text) × (rest_at at (plain f.list) ≡ print_joined text) × PrintsAll text old n new))

-- the argument of this number has given way to its text, after which this script is left
abbrev pub PutsText : ℕ → Steps → Held → Held → Type 0
PutsText at s old new = (let f = new.top in (new ≡ listing f.list old) × (rest_at (suc at) (plain f.list) ≡ s))

-- what comes of the turn of the argument of this number: a listed stop, a throw, or a text, which takes its place
abbrev pub Turns : ℕ → Held → Next → Held → Type 0
Turns at old n new =
    (let f = old.top in
    ((y : Stop) × (turn_at at (plain f.list) ≡ Halt y) × HaltsBy n y × (new ≡ old))
    ⊎ (((turn_at at (plain f.list) ≡ throw_new type_error) × Throws type_error old n new)
    ⊎ ((mid : Held) × PutsText at (turn_at at (plain f.list)) old mid × GoesOn (suc at) mid n new)))

-- a place of some values, where a text came of it
abbrev pub IsWithin : ℕ → List Value → Computed model.Text → Type 0
IsWithin n vs (computed.Is s) = n < length vs
IsWithin n vs (computed.Stops x) = Unit {0}
IsWithin n vs computed.Fails = Unit {0}
