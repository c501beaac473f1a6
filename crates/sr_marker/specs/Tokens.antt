-- The markers of tokens: what a token or two next to each other show to be left out of the language by name.
use Rattle.std.specs.Prelude.{ℕ, Bool, true, false, not, ◌||◌, if◌then◌else◌, List, [], ◌∷◌, Option, None, Some, codes}
use Rattle.std.specs.Option.{option_map_or}
use Rattle.std.specs.Str.{bytes_eq}
use Rattle.sr_text.specs.declared.marker.Marker.{Marker}
use Rattle.sr_text.specs.declared.marker.Marker.TheVariants as m
use Rattle.sr_lex.specs.declared.token.Token.{Token}
use Rattle.sr_lex.specs.Tokens.{token_units}
use Rattle.sr_syntax.specs.declared.sorts.Sort.{Sort}
use Rattle.sr_syntax.specs.declared.sorts.Sort.TheVariants as k
use Rattle.sr_syntax.specs.Sorts.{sort_of}
use Rattle.sr_syntax.specs.Input.{is_word}

-- the names that are markers wherever they stand
abbrev pub marked_names : List (List ℕ × Marker)
marked_names =
    (codes "class", m.Class) ∷ (codes "async", m.Async) ∷ (codes "await", m.Await) ∷ (codes "yield", m.Yield) ∷
    (codes "super", m.Super) ∷ (codes "with", m.With) ∷ (codes "arguments", m.Arguments) ∷ (codes "__proto__", m.Proto) ∷ []

-- the marker that the first row with these units gives
abbrev pub find : List (List ℕ × Marker) → List ℕ → Option Marker
find [] units = None
find (row ∷ rows) units = if bytes_eq units row.0 then Some row.1 else find rows units

unfoldable pub name_marker : List ℕ → Option Marker
name_marker units = find marked_names units

-- `import` before `(` or `.`, as a call or `import.meta` (ECMA-262 13.3.10, 13.3.12)
abbrev pub import_marker : Sort → Option Marker
import_marker k.LeftParenthesis = Some m.ImportCall
import_marker k.Dot = Some m.ImportCall
import_marker _ = None

-- `new` before `.` (13.3.12)
abbrev pub new_marker : Sort → Option Marker
new_marker k.Dot = Some m.NewTarget
new_marker _ = None

-- `function` before `*` (15.5)
abbrev pub function_marker : Sort → Option Marker
function_marker k.Multiply = Some m.Generator
function_marker _ = None

-- `*` behind `{` or `,`, as before the name of a method (15.5)
abbrev pub star_marker : Sort → Option Marker
star_marker k.LeftBrace = Some m.Generator
star_marker k.Comma = Some m.Generator
star_marker _ = None

-- Behind a token of this sort, or at the start, `/` begins no operator (12.9.5): behind punctuators but those that end an operand,
-- and behind words that an operand follows.
abbrev pub wants_operand : Sort → Bool
wants_operand k.RightParenthesis = false
wants_operand k.RightBracket = false
wants_operand k.RightBrace = false
wants_operand k.Increment = false
wants_operand k.Decrement = false
wants_operand k.Number = false
wants_operand k.Text = false
wants_operand k.TemplateWhole = false
wants_operand k.TemplateHead = false
wants_operand k.TemplateMiddle = false
wants_operand k.TemplateTail = false
wants_operand k.Return = true
wants_operand k.Typeof = true
wants_operand k.Case = true
wants_operand k.In = true
wants_operand k.Delete = true
wants_operand k.Void = true
wants_operand k.Throw = true
wants_operand k.Else = true
wants_operand k.Do = true
wants_operand s = not (is_word s)

-- a template behind a name that is not reserved, `)`, `]` or the end of a template (13.3.11)
abbrev pub tagged_marker : Sort → Option Marker
tagged_marker k.Identifier = Some m.TaggedTemplate
tagged_marker k.RightParenthesis = Some m.TaggedTemplate
tagged_marker k.RightBracket = Some m.TaggedTemplate
tagged_marker k.TemplateWhole = Some m.TaggedTemplate
tagged_marker k.TemplateTail = Some m.TaggedTemplate
tagged_marker _ = None

-- what a token is to the grammar, and the end or the start where there is none
abbrev pub sort_in : List ℕ → Option Token → Sort
sort_in text None = k.End
sort_in text (Some t) = sort_of t.kind (token_units text t)

-- the token is the name `of`, behind which an operand stands too
abbrev pub is_of : List ℕ → Option Token → Bool
is_of text None = false
is_of text (Some t) = bytes_eq (token_units text t) (codes "of")

-- `/` or `/=` where no operator may stand
unfoldable pub slash_marker : List ℕ → Option Token → Option Marker
slash_marker text before = if wants_operand (sort_in text before) || is_of text before then Some m.RegularExpression else None

-- the marker of a token of this sort, between these two
abbrev pub marker_by : List ℕ → Option Token → Token → Sort → Option Token → Option Marker
marker_by text before t k.Identifier after = name_marker (token_units text t)
marker_by text before t k.Reserved after = name_marker (token_units text t)
marker_by text before t k.Import after = import_marker (sort_in text after)
marker_by text before t k.New after = new_marker (sort_in text after)
marker_by text before t k.Function after = function_marker (sort_in text after)
marker_by text before t k.Multiply after = star_marker (sort_in text before)
marker_by text before t k.Divide after = slash_marker text before
marker_by text before t k.AssignDivide after = slash_marker text before
marker_by text before t k.TemplateWhole after = tagged_marker (sort_in text before)
marker_by text before t k.TemplateHead after = tagged_marker (sort_in text before)
marker_by text before t _ after = None

-- the marker of a token, between these two
unfoldable pub marker_of : List ℕ → Option Token → Token → Option Token → Option Marker
marker_of text before t after = marker_by text before t (sort_of t.kind (token_units text t)) after

abbrev pub first : List Token → Option Token
first [] = None
first (t ∷ ts) = Some t

-- the first marker of tokens behind this one, with its place
abbrev pub markers_behind : List ℕ → Option Token → List Token → Option (Marker × ℕ)
markers_behind text before [] = None
markers_behind text before (t ∷ ts) =
    option_map_or (λ marker. Some (marker, t.from)) (marker_of text before t (first ts)) (markers_behind text (Some t) ts)

-- the first marker of the tokens, with its place
abbrev pub token_marker : List ℕ → List Token → Option (Marker × ℕ)
token_marker text tokens = markers_behind text None tokens
