-- The tokens of a text, with what the grammar asks of them.
use Rattle.std.specs.Prelude.{◌≡◌, ℕ, zero, suc, ℤ, List, [], ◌∷◌, reverse, Option}
use Rattle.sr_lex.specs.declared.token.Token.{Token}
use Rattle.sr_lex.specs.declared.token.TokenKind.{TokenKind}
use Rattle.sr_lex.specs.declared.token.TokenKind.TheVariants as kind
use Rattle.sr_lex.specs.Tokens.{token_units}
use Rattle.sr_lex.specs.Strings.{StringLiteral}
use Rattle.sr_lex.specs.Templates.{TemplatePiece}
use Rattle.sr_lex.specs.Numbers.{NumberLiteral}
use Rattle.sr_syntax.specs.declared.sorts.Content.{Content}
use Rattle.sr_syntax.specs.declared.sorts.Content.TheVariants.{Nothing, Name, Text, Number}
use Rattle.sr_syntax.specs.declared.sorts.Lexeme.{Lexeme}
use Rattle.sr_syntax.specs.declared.sorts.Sort.{Sort}
use Rattle.sr_syntax.specs.declared.sorts.Sort.TheVariants as k
use Rattle.sr_syntax.specs.Sorts.{sort_of}

-- A token of this kind with these units holds its name, or the value of its literal or piece of a template
-- (ECMA-262 12.7, 12.9.3, 12.9.4, 12.9.6).
abbrev pub Holds : TokenKind → List ℕ → Content → Type 0
Holds kind.Name units content = content ≡ Name units
Holds kind.Number units content = (value : Option ℤ) × NumberLiteral units value × (content ≡ Number value)
Holds kind.Text units content = (value : List ℕ) × StringLiteral units value × (content ≡ Text value)
Holds kind.Template units content = (value : List ℕ) × TemplatePiece units value × (content ≡ Text value)
Holds kind.Punctuator units content = content ≡ Nothing

-- what a token of the text is to the grammar
pub record IsLexeme (text : List ℕ) (t : Token) (l : Lexeme) : Type 0 where
  pub sort : l.sort ≡ sort_of t.kind (token_units text t)
  pub content : Holds t.kind (token_units text t) l.content
  pub from : l.from ≡ t.from
  pub to : l.to ≡ t.to
  pub line_before : l.line_before ≡ t.line_before

-- what the first of some tokens is, or the end
abbrev pub first_sort : List Sort → Sort
first_sort [] = k.End
first_sort (s ∷ ss) = s

-- what stands behind the parenthesis that closes the innermost open one, with so many more open in it
abbrev pub behind_close : ℕ → List Sort → Sort
behind_close n [] = k.End
behind_close n (k.LeftParenthesis ∷ ss) = behind_close (suc n) ss
behind_close zero (k.RightParenthesis ∷ ss) = first_sort ss
behind_close (suc n) (k.RightParenthesis ∷ ss) = behind_close n ss
behind_close n (s ∷ ss) = behind_close n ss

abbrev pub but_first : List Sort → List Sort
but_first [] = []
but_first (s ∷ ss) = ss

abbrev pub sorts_of : List Lexeme → List Sort
sorts_of [] = []
sorts_of (l ∷ ls) = l.sort ∷ sorts_of ls

-- what stands behind a token, or behind the parenthesis that closes it where it opens one
abbrev pub ahead_of : Sort → List Sort → Sort
ahead_of k.LeftParenthesis ss = behind_close 0 ss
ahead_of s ss = first_sort ss

-- what stands behind each closing parenthesis that is not opened before it, the first one first
abbrev pub closings : List Sort → List Sort
closings [] = []
closings (k.LeftParenthesis ∷ ss) = but_first (closings ss)
closings (k.RightParenthesis ∷ ss) = first_sort ss ∷ closings ss
closings (s ∷ ss) = closings ss

-- these, the first one last, and the first of the tokens
abbrev pub Behind : List Sort → List Sort → Sort → Type 0
Behind ss closed next = (closed ≡ reverse (closings ss)) × (next ≡ first_sort ss)

-- what tokens of a text are to the grammar, one by one
pub data Sorted (text : List ℕ) : List Token → List Lexeme → Type 0 where
  no_more : Sorted text [] []
  one_more : {t : Token} {l : Lexeme} {ts : List Token} {ls : List Lexeme} → IsLexeme text t l → Sorted text ts ls → Sorted text (t ∷ ts) (l ∷ ls)

-- with what stands ahead of each
abbrev pub with_aheads : List Lexeme → List Lexeme
with_aheads [] = []
with_aheads (l ∷ ls) = record l { ahead = ahead_of l.sort (sorts_of ls) } ∷ with_aheads ls

-- and the same of all its tokens, with what stands ahead of each
pub data Lexemes (text : List ℕ) : List Token → List Lexeme → Type 0 where
  none : Lexemes text [] []
  one : {t : Token} {l : Lexeme} {ts : List Token} {ls : List Lexeme}
      → IsLexeme text t l → l.ahead ≡ ahead_of l.sort (sorts_of ls) → Lexemes text ts ls → Lexemes text (t ∷ ts) (l ∷ ls)
