-- The markers of the place where the grammar goes on with no token: what is left out of the language by name there. They are told by
-- what could stand there instead.
use Rattle.std.specs.Prelude.{◌≡◌, ℕ, zero, suc, ◌+◌, ◌-◌, ◌==◌, Bool, true, false, not, ◌||◌, ◌&&◌, if◌then◌else◌, nat_lt, List, [], ◌∷◌, ◌++◌, length, take, slice_get, Option, None, Some, Result, Err, codes}
use Rattle.std.specs.Str.{bytes_eq}
use Rattle.sr_text.specs.declared.goal.Goal.{Goal}
use Rattle.sr_text.specs.declared.goal.Goal.TheVariants.{Script, Module}
use Rattle.sr_text.specs.declared.marker.Marker.{Marker}
use Rattle.sr_text.specs.declared.marker.Marker.TheVariants as m
use Rattle.sr_ast.specs.declared.tree.Tree.{Tree}
use Rattle.sr_lex.specs.declared.token.Token.{Token}
use Rattle.sr_syntax.specs.declared.refusal.Refusal.{Refusal}
use Rattle.sr_syntax.specs.declared.refusal.Refusal.TheVariants.{Syntax}
use Rattle.sr_syntax.specs.declared.sorts.Content.TheVariants.{Nothing}
use Rattle.sr_syntax.specs.declared.sorts.Lexeme.{Lexeme}
use Rattle.sr_syntax.specs.declared.sorts.Sort.{Sort}
use Rattle.sr_syntax.specs.declared.sorts.Sort.TheVariants as k
use Rattle.sr_syntax.specs.Sorts.{same_sort}
use Rattle.sr_syntax.specs.Input.{text_of}
use Rattle.sr_syntax.specs.Lexemes.{Lexemes}
use Rattle.sr_syntax.specs.Grammar.{script_of, module_of}
use Rattle.sr_marker.specs.declared.reading.Reading.{Reading}
use Rattle.sr_marker.specs.declared.reading.Spot.{Spot}
use Rattle.sr_marker.specs.declared.brackets.Side.{Side}
use Rattle.sr_marker.specs.declared.brackets.Side.TheVariants.{Opens, Closes, Neither}

-- ---- what could stand at a place

-- a token of this sort at a place; a name that it is has no characters, so it is none of the words that only some places know
abbrev pub stand_in : Sort → Spot → Lexeme
stand_in s at = record { sort = s; content = Nothing; from = at.from; to = at.to; line_before = at.line_before; ahead = k.End }

-- where a token stands
abbrev pub spot_of : Lexeme → Spot
spot_of l = record { from = l.from; to = l.to; line_before = l.line_before }

-- the tokens of a text of this length as a script or a module
abbrev pub read_by : Goal → List Lexeme → ℕ → Result (List Tree) Refusal
read_by Script = script_of
read_by Module = module_of

-- reading goes behind a place
abbrev pub goes_behind : ℕ → Result (List Tree) Refusal → Bool
goes_behind place (Err (Syntax p)) = nat_lt place p
goes_behind place _ = true

-- Behind these tokens one of this sort could stand: reading takes it.
unfoldable pub could_stand : Reading → List Lexeme → Spot → Sort → Bool
could_stand r before at s = goes_behind at.from (read_by r.goal (before ++ stand_in s at ∷ []) r.size)

-- ---- the tokens before

abbrev pub last_of : List Lexeme → Option Lexeme
last_of ls = slice_get ls (length ls - 1)

abbrev pub sort_in : Option Lexeme → Sort
sort_in None = k.End
sort_in (Some l) = l.sort

abbrev pub is_get_or_set : List ℕ → Bool
is_get_or_set units = bytes_eq units (codes "get") || bytes_eq units (codes "set")

-- the name `get` or `set`
abbrev pub is_accessor_word : Option Lexeme → Bool
is_accessor_word None = false
is_accessor_word (Some l) = same_sort l.sort k.Identifier && is_get_or_set (text_of l.content)

-- the words that a label follows
abbrev pub takes_label : Sort → Bool
takes_label k.Break = true
takes_label k.Continue = true
takes_label _ = false

-- brackets of all kinds, `${` and the `}` that closes it in a template among them; a piece between two expressions closes one
-- and opens one
abbrev pub side_of : Sort → Side
side_of k.LeftParenthesis = Opens
side_of k.LeftBracket = Opens
side_of k.LeftBrace = Opens
side_of k.TemplateHead = Opens
side_of k.RightParenthesis = Closes
side_of k.RightBracket = Closes
side_of k.RightBrace = Closes
side_of k.TemplateTail = Closes
side_of _ = Neither

-- how many brackets are to be opened before a token, where so many are behind it; none where it opens the last of them
abbrev pub to_open : Side → ℕ → Option ℕ
to_open Closes closed = Some (closed + 1)
to_open Opens closed = if nat_lt 1 closed then Some (closed - 1) else None
to_open Neither closed = Some closed

abbrev pub opener_by : (ℕ → Option ℕ) → ℕ → Option ℕ → Option ℕ
opener_by back n None = Some n
opener_by back n (Some closed) = back closed

-- back from the n-th token, behind which so many brackets close: the number of the one that opens the last of them
abbrev pub opener : List Lexeme → ℕ → ℕ → Option ℕ
opener ls zero closed = None
opener ls (suc n) closed = opener_by (opener ls n) n (to_open (side_of (sort_in (slice_get ls n))) closed)

-- ---- the markers

-- A name that is bound is wanted: a name could stand here that is not reserved, and no reserved one, and it is no label
-- (ECMA-262 14.3.3).
unfoldable pub wants_binding : Reading → List Lexeme → Spot → Bool
wants_binding r before at =
    not (takes_label (sort_in (last_of before))) && (could_stand r before at k.Identifier && not (could_stand r before at k.Reserved))

-- `[` behind `get` or `set`, which is a key, since `:` could stand here (15.4)
unfoldable pub is_computed_accessor : Reading → List Lexeme → Spot → Bool
is_computed_accessor r before at = is_accessor_word (last_of before) && could_stand r before at k.Colon

-- `=` behind the name of a parameter: `)` could stand here, and no part of an expression (15.1)
unfoldable pub is_default_parameter : Reading → List Lexeme → Spot → Bool
is_default_parameter r before at =
    same_sort (sort_in (last_of before)) k.Identifier && (could_stand r before at k.RightParenthesis && not (could_stand r before at k.Dot))

-- the last token closes an array or a block, an object or a body
abbrev pub may_end_literal : Sort → Bool
may_end_literal k.RightBracket = true
may_end_literal k.RightBrace = true
may_end_literal _ = false

-- What begins at a place behind these tokens, and ends before a `=`, is a target: no part of an expression could begin there, and
-- behind a name in its place the `=` could stand (13.15.5).
unfoldable pub is_target_place : Reading → List Lexeme → Spot → Spot → Bool
is_target_place r before from at =
    not (could_stand r before from k.Dot) && could_stand r (before ++ stand_in k.Identifier from ∷ []) at k.Assign

abbrev pub target_from : Reading → List Lexeme → Spot → Option Lexeme → Option (Marker × ℕ)
target_from r before at None = None
target_from r before at (Some l) = if is_target_place r before (spot_of l) at then Some (m.Pattern, l.from) else None

abbrev pub target_by : Reading → List Lexeme → Spot → Option ℕ → Option (Marker × ℕ)
target_by r before at None = None
target_by r before at (Some n) = if could_stand r before at k.Dot then target_from r (take n before) at (slice_get before n) else None

-- An array or an object as the target of the `=` here, at its start: it ends with the last token, and is an expression, since a part
-- of one could stand behind it.
unfoldable pub target_pattern : Reading → List Lexeme → Spot → Option (Marker × ℕ)
target_pattern r before at =
    if may_end_literal (sort_in (last_of before)) then target_by r before at (opener before (length before) 0) else None

abbrev pub at_brace : Reading → List Lexeme → Spot → Option (Marker × ℕ)
at_brace r before at = if wants_binding r before at then Some (m.Pattern, at.from) else None

abbrev pub at_bracket : Reading → List Lexeme → Spot → Option (Marker × ℕ)
at_bracket r before at =
    if wants_binding r before at then Some (m.Pattern, at.from)
    else (if is_computed_accessor r before at then Some (m.ComputedAccessor, at.from) else None)

abbrev pub at_equals : Reading → List Lexeme → Spot → Option (Marker × ℕ)
at_equals r before at = if is_default_parameter r before at then Some (m.DefaultParameter, at.from) else target_pattern r before at

-- the marker of a token of this sort with which nothing goes on behind these
abbrev pub marker_by : Reading → List Lexeme → Spot → Sort → Option (Marker × ℕ)
marker_by r before at k.LeftBrace = at_brace r before at
marker_by r before at k.LeftBracket = at_bracket r before at
marker_by r before at k.Assign = at_equals r before at
marker_by r before at _ = None

-- how many tokens stand before the one at a place
abbrev pub tokens_before : ℕ → List Lexeme → ℕ
tokens_before at [] = 0
tokens_before at (l ∷ ls) = if l.from == at then 0 else suc (tokens_before at ls)

abbrev pub marker_of : Reading → List Lexeme → Option Lexeme → Option (Marker × ℕ)
marker_of r before None = None
marker_of r before (Some l) = marker_by r before (spot_of l) l.sort

-- the marker of the token at a place where nothing goes on with it
abbrev pub place_marker : Reading → List Lexeme → ℕ → Option (Marker × ℕ)
place_marker r ls at = let n = tokens_before at ls in marker_of r (take n ls) (slice_get ls n)

-- The tokens of the text have this marker at a place where nothing goes on with the token there.
abbrev pub HasPlaceMarker : Goal → List ℕ → List Token → ℕ → Option (Marker × ℕ) → Type 0
HasPlaceMarker goal text tokens at marker =
    (ls : List Lexeme) × Lexemes text tokens ls × (marker ≡ place_marker (record { goal = goal; size = length text }) ls at)
