-- The tokens of a text (ECMA-262 12), as a relation on whole texts. Places are counted in code units.
use Rattle.std.specs.Prelude.{◌≡◌, ℕ, ◌+◌, ◌<◌, ◌≤◌, Bool, true, false, not, ◌||◌, ◌&&◌, List, [], ◌∷◌, length, take, drop, Some, IsTrue, MatchOption, ⊤, slice_get, slice_range, codes}
use Rattle.std.specs.List.{list_all, list_any}
use Rattle.std.specs.Str.{bytes_eq}
use Rattle.sr_lex.specs.Units.{is_line_end, is_white_space, is_name_start, is_name_part, begins_with_digit, begins_with}
use Rattle.sr_lex.specs.Strings.{IsLiteral}
use Rattle.sr_lex.specs.Numbers.{IsNumber, may_end}
use Rattle.sr_lex.specs.Templates.{right_brace, IsPiece}
use Rattle.sr_lex.specs.Brackets.{in_substitution, brackets_after}
use Rattle.sr_lex.specs.declared.token.Token.{Token}
use Rattle.sr_lex.specs.declared.token.TokenKind.{TokenKind}
use Rattle.sr_lex.specs.declared.token.TokenKind.TheVariants.{Name, Number, Text, Template, Punctuator}
use Rattle.sr_lex.specs.declared.brackets.Bracket.{Bracket}

-- ---- comments and white space

-- these units stand at a place of the text
abbrev pub Stands : List ℕ → List ℕ → ℕ → Type 0
Stands text us at = take (length us) (drop at text) ≡ us

-- the text ends at a place, or a line end stands there
abbrev pub LineEnds : List ℕ → ℕ → Type 0
LineEnds text at = MatchOption (slice_get text at) ⊤ (λ u. IsTrue (is_line_end u))

-- the first place, from a place on, at which a fact holds
pub record IsFirst (Fact : ℕ → Type 0) (from at : ℕ) : Type 0 where
  pub after : from ≤ at
  pub holds : Fact at
  pub earlier : (k : ℕ) → from ≤ k → k < at → ¬ Fact k

-- A comment goes from one place to another (12.4, 12.5).
pub data Comment : List ℕ → ℕ → ℕ → Type 0 where
  single_line : {text : List ℕ} {from to : ℕ}
      → Stands text (codes "//") from → IsFirst (LineEnds text) (from + 2) to → Comment text from to
  multi_line : {text : List ℕ} {from close : ℕ}
      → Stands text (codes "/*") from → IsFirst (Stands text (codes "*/")) (from + 2) close
      → Comment text from (close + 2)
  hashbang : {text : List ℕ} {to : ℕ}
      → Stands text (codes "#!") 0 → IsFirst (LineEnds text) 2 to → Comment text 0 to

-- From one place to another stand white space, line ends and comments alone; and whether a line end is among them, or in
-- one of the comments.
pub data Gap : List ℕ → ℕ → ℕ → Bool → Type 0 where
  none : {text : List ℕ} {at : ℕ} → Gap text at at false
  white_space : {text : List ℕ} {at to u : ℕ} {line : Bool}
      → slice_get text at ≡ Some u → IsTrue (is_white_space u) → Gap text (at + 1) to line
      → Gap text at to line
  line_end : {text : List ℕ} {at to u : ℕ} {line : Bool}
      → slice_get text at ≡ Some u → IsTrue (is_line_end u) → Gap text (at + 1) to line
      → Gap text at to true
  comment : {text : List ℕ} {at next to : ℕ} {line : Bool}
      → Comment text at next → Gap text next to line
      → Gap text at to (list_any is_line_end (slice_range text at next) || line)

-- ---- the rows

-- a letter A to Z or a to z, `_` or `$`, then these or digits
abbrev pub is_name : List ℕ → Bool
is_name [] = false
is_name (u ∷ us) = is_name_start u && list_all is_name_part us

abbrev pub punctuators : List (List ℕ)
punctuators =
    codes "{" ∷ codes "}" ∷ codes "(" ∷ codes ")" ∷ codes "[" ∷ codes "]" ∷ codes "." ∷ codes "..." ∷ codes ";" ∷ codes ","
    ∷ codes "<" ∷ codes ">" ∷ codes "<=" ∷ codes ">=" ∷ codes "==" ∷ codes "!=" ∷ codes "===" ∷ codes "!=="
    ∷ codes "+" ∷ codes "-" ∷ codes "*" ∷ codes "/" ∷ codes "%" ∷ codes "**" ∷ codes "++" ∷ codes "--"
    ∷ codes "<<" ∷ codes ">>" ∷ codes ">>>" ∷ codes "&" ∷ codes "|" ∷ codes "^" ∷ codes "!" ∷ codes "~"
    ∷ codes "&&" ∷ codes "||" ∷ codes "??" ∷ codes "?" ∷ codes "?." ∷ codes ":"
    ∷ codes "=" ∷ codes "+=" ∷ codes "-=" ∷ codes "*=" ∷ codes "/=" ∷ codes "%=" ∷ codes "**=" ∷ codes "<<=" ∷ codes ">>=" ∷ codes ">>>="
    ∷ codes "&=" ∷ codes "|=" ∷ codes "^=" ∷ codes "&&=" ∷ codes "||=" ∷ codes "??=" ∷ codes "=>" ∷ []

-- the units are one of these texts
abbrev pub is_one_of : List ℕ → List (List ℕ) → Bool
is_one_of us texts = list_any (bytes_eq us) texts

-- a punctuator of the table, before these units; `.` and `?.` stand before no digit
unfoldable pub is_punctuator : List ℕ → List ℕ → Bool
is_punctuator us after = is_one_of us punctuators && not (is_one_of us (codes "." ∷ codes "?." ∷ []) && begins_with_digit after)

-- Whether the units are a token of this kind, before these units. The flag says that the innermost open bracket is a `${`:
-- there alone a piece begins with `}`, and no punctuator does.
abbrev pub IsRow : Bool → TokenKind → List ℕ → List ℕ → Type 0
IsRow inside Name us after = IsTrue (is_name us)
IsRow inside Number us after = IsNumber us × IsTrue (may_end us after)
IsRow inside Text us after = IsLiteral us
IsRow inside Template us after = IsPiece us × IsTrue (inside || not (begins_with right_brace us))
IsRow inside Punctuator us after = IsTrue (is_punctuator us after) × IsTrue (not (inside && begins_with right_brace us))

-- the units from one place of the text to another are a token of this kind
abbrev pub HasRow : Bool → List ℕ → TokenKind → ℕ → ℕ → Type 0
HasRow inside text kind from to = (to ≤ length text) × IsRow inside kind (slice_range text from to) (drop to text)

-- and no token that begins there is longer
pub record IsLongest (inside : Bool) (text : List ℕ) (kind : TokenKind) (from to : ℕ) : Type 0 where
  pub row : HasRow inside text kind from to
  pub longest : (other : TokenKind) (end : ℕ) → HasRow inside text other from end → end ≤ to

-- ---- tokens

-- no comment begins at a place
abbrev pub NoComment : List ℕ → ℕ → Type 0
NoComment text at = (to : ℕ) → ¬ Comment text at to

-- the units of a token
abbrev pub token_units : List ℕ → Token → List ℕ
token_units text t = slice_range text t.from t.to

-- From a place on, where these brackets are open, the text has these tokens: before each and after the last a gap, none begins
-- where a comment begins, and each is the longest.
pub data Spans : List ℕ → ℕ → List Bracket → List Token → Type 0 where
  last : {text : List ℕ} {at : ℕ} {brackets : List Bracket} {line : Bool} → Gap text at (length text) line → Spans text at brackets []
  next : {text : List ℕ} {at : ℕ} {brackets : List Bracket} {t : Token} {ts : List Token}
      → Gap text at t.from t.line_before → NoComment text t.from → IsLongest (in_substitution brackets) text t.kind t.from t.to
      → Spans text t.to (brackets_after brackets t.kind (token_units text t)) ts → Spans text at brackets (t ∷ ts)

-- the tokens of a text
abbrev pub Tokens : List ℕ → List Token → Type 0
Tokens text ts = Spans text 0 [] ts

-- From a place on, the text has these tokens up to a place at which no gap goes on and no token begins.
pub data Fails : List ℕ → ℕ → List Bracket → List Token → ℕ → Type 0 where
  here : {text : List ℕ} {at place u : ℕ} {brackets : List Bracket} {line : Bool}
      → Gap text at place line → NoComment text place → slice_get text place ≡ Some u
      → is_white_space u ≡ false → is_line_end u ≡ false
      → ((kind : TokenKind) (to : ℕ) → ¬ HasRow (in_substitution brackets) text kind place to) → Fails text at brackets [] place
  later : {text : List ℕ} {at place : ℕ} {brackets : List Bracket} {t : Token} {ts : List Token}
      → Gap text at t.from t.line_before → NoComment text t.from → IsLongest (in_substitution brackets) text t.kind t.from t.to
      → Fails text t.to (brackets_after brackets t.kind (token_units text t)) ts place → Fails text at brackets (t ∷ ts) place

-- the first place of a text at which no token fits, and the tokens before it
abbrev pub FailsAfter : List ℕ → List Token → ℕ → Type 0
FailsAfter text ts place = Fails text 0 [] ts place

-- that place alone
abbrev pub FailsAt : List ℕ → ℕ → Type 0
FailsAt text place = (ts : List Token) × FailsAfter text ts place

-- ---- one token

-- the token's units stand in the text and have a row of its kind, inside a substitution or outside
pub record IsTokenOf (text : List ℕ) (t : Token) : Type 0 where
  pub nonempty : t.from < t.to
  pub in_text : t.to ≤ length text
  pub row : (inside : Bool) × IsRow inside t.kind (token_units text t) (drop t.to text)
