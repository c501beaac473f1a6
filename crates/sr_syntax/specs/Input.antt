-- What a parser reads from, and the steps that every rule is made of.
use Rattle.std.specs.Prelude.{◌≡◌, ◌≢◌, ℕ, ◌+◌, ℤ, Bool, true, false, ◌||◌, ◌&&◌, if◌then◌else◌, nat_lt, List, [], ◌∷◌, length, Option, None, Result, Ok, Err}
use Rattle.std.specs.Str.{bytes_eq}
use Rattle.sr_ast.specs.declared.tree.Tree.{roll-Tree}
use Rattle.sr_ast.specs.declared.tree.Node.{Node}
use Rattle.sr_syntax.specs.declared.sorts.Sort.{Sort}
use Rattle.sr_syntax.specs.declared.sorts.Sort.TheVariants as k
use Rattle.sr_syntax.specs.declared.sorts.Content.{Content}
use Rattle.sr_syntax.specs.declared.sorts.Content.TheVariants.{Nothing, Name, Text, Number}
use Rattle.sr_syntax.specs.declared.sorts.Lexeme.{Lexeme}
use Rattle.sr_syntax.specs.declared.refusal.Refusal.{Refusal}
use Rattle.sr_syntax.specs.declared.refusal.Refusal.TheVariants.{Memory, Syntax, TooDeep}
use Rattle.sr_syntax.specs.declared.grown.Grown.{Grown}
use Rattle.sr_syntax.specs.Sorts.{same_sort}

pub record Input : Type 0 where
  -- the tokens that are left
  pub rest : List Lexeme
  -- the place after the last token that was read
  pub last : ℕ
  -- the text's length
  pub size : ℕ

-- the tokens of a text of this length
abbrev pub start : List Lexeme → ℕ → Input
start tokens size = record { rest = tokens; last = 0; size = size }

-- ---- the next token

abbrev pub sort_at : List Lexeme → Sort
sort_at [] = k.End
sort_at (t ∷ ts) = t.sort

abbrev pub line_at : List Lexeme → Bool
line_at [] = true
line_at (t ∷ ts) = t.line_before

abbrev pub place_at : ℕ → List Lexeme → ℕ
place_at size [] = size
place_at size (t ∷ ts) = t.from

abbrev pub end_at : ℕ → List Lexeme → ℕ
end_at last [] = last
end_at last (t ∷ ts) = t.to

abbrev pub rest_at : List Lexeme → List Lexeme
rest_at [] = []
rest_at (t ∷ ts) = ts

abbrev pub content_at : List Lexeme → Content
content_at [] = Nothing
content_at (t ∷ ts) = t.content

abbrev pub text_of : Content → List ℕ
text_of (Name units) = units
text_of (Text units) = units
text_of _ = []

abbrev pub number_of : Content → Option ℤ
number_of (Number value) = value
number_of _ = None

-- whether a token is a name, reserved or not (ECMA-262 12.7)
abbrev pub is_word : Sort → Bool
is_word k.Identifier = true
is_word k.Break = true
is_word k.Case = true
is_word k.Catch = true
is_word k.Const = true
is_word k.Continue = true
is_word k.Debugger = true
is_word k.Default = true
is_word k.Delete = true
is_word k.Do = true
is_word k.Else = true
is_word k.Export = true
is_word k.False = true
is_word k.Finally = true
is_word k.For = true
is_word k.Function = true
is_word k.If = true
is_word k.Import = true
is_word k.In = true
is_word k.InstanceOf = true
is_word k.Let = true
is_word k.New = true
is_word k.Null = true
is_word k.Return = true
is_word k.Switch = true
is_word k.This = true
is_word k.Throw = true
is_word k.True = true
is_word k.Try = true
is_word k.Typeof = true
is_word k.Var = true
is_word k.Void = true
is_word k.While = true
is_word k.Reserved = true
is_word _ = false

-- what the next token is
unfoldable pub sort : Input → Sort
sort i = sort_at i.rest

-- the name that the next token is, or the value of the string literal or the piece of a template
unfoldable pub text : Input → List ℕ
text i = text_of (content_at i.rest)

abbrev pub ahead_at : List Lexeme → Sort
ahead_at [] = k.End
ahead_at (t ∷ ts) = t.ahead

-- what stands behind the next token, or behind the parenthesis that closes it where it opens one
unfoldable pub ahead : Input → Sort
ahead i = ahead_at i.rest

-- whether the next token is this name, which is not reserved
unfoldable pub sees_text : List ℕ → Input → Bool
sees_text word i = same_sort (sort_at i.rest) k.Identifier && bytes_eq (text_of (content_at i.rest)) word

-- whether the next token is a name, reserved or not
unfoldable pub sees_word : Input → Bool
sees_word i = is_word (sort i)

-- the value of the number literal that the next token is
unfoldable pub number : Input → Option ℤ
number i = number_of (content_at i.rest)

-- whether a line end stands before the next token, or the text ends
unfoldable pub line_before : Input → Bool
line_before i = line_at i.rest

-- where the next token begins
unfoldable pub place : Input → ℕ
place i = place_at i.size i.rest

-- behind the next token
unfoldable pub next : Input → Input
next i = record i { rest = rest_at i.rest; last = end_at i.last i.rest }

-- how many tokens are left, which bounds the turns of a loop
unfoldable pub left : Input → ℕ
left i = length i.rest

-- ---- parsers

abbrev pub Outcome : Type 0 → Type 0
Outcome A = Result (A × Input) Refusal

abbrev pub Parser : Type 0 → Type 0
Parser A = Input → Outcome A

abbrev pub and_then : {A B : Type 0} → Outcome A → (A → Parser B) → Outcome B
and_then (Ok p) f = f p.0 p.1
and_then (Err e) f = Err e

infixl 10 ◌>>=◌
abbrev pub ◌>>=◌ : {A B : Type 0} → Parser A → (A → Parser B) → Parser B
p >>= f = λ i. and_then (p i) f

infixl 10 ◌>>◌
abbrev pub ◌>>◌ : {A B : Type 0} → Parser A → Parser B → Parser B
p >> q = p >>= (λ _. q)

abbrev pub pure : {A : Type 0} → A → Parser A
pure a = λ i. Ok (a, i)

-- the next token cannot continue
abbrev pub refuse : {A : Type 0} → Parser A
refuse = λ i. Err (Syntax (place i))

abbrev pub peek : Parser Sort
peek = λ i. Ok (sort i, i)

abbrev pub here : Parser ℕ
here = λ i. Ok (place i, i)

abbrev pub take_token : Parser (Unit {0})
take_token = λ i. Ok (tt, next i)

-- takes the next token for the text that it holds
abbrev pub take_text : Parser (List ℕ)
take_text = λ i. Ok (text i, next i)

-- takes the next token for the number that it holds
abbrev pub take_number : Parser (Option ℤ)
take_number = λ i. Ok (number i, next i)

unfoldable pub sees : Sort → Input → Bool
sees k i = same_sort (sort i) k

-- behind the next token, if it is this one
unfoldable pub after : Sort → Input → Input
after k i = if sees k i then next i else i

-- takes this token, if it comes next
abbrev pub eat : Sort → Parser Bool
eat k = λ i. Ok (sees k i, after k i)

unfoldable pub expect : Sort → Parser (Unit {0})
expect k = λ i. if sees k i then Ok (tt, next i) else refuse i

unfoldable pub expect_text : List ℕ → Parser (Unit {0})
expect_text word = λ i. if sees_text word i then Ok (tt, next i) else refuse i

abbrev pub max_depth : ℕ
max_depth = 1000

-- a whole tree, from its start to the end of the last token that was read, above parts of this depth
unfoldable pub complete : Node → ℕ → ℕ → Parser Grown
complete node from tall = λ i.
    if nat_lt tall max_depth
    then Ok (record { tree = roll-Tree (record { node = node; from = from; to = i.last; number = 0 }); height = tall + 1 }, i)
    else Err TooDeep

-- a semicolon, or its insertion before a `}`, before a token on a new line, or at the end (ECMA-262 12.10)
unfoldable pub semicolon : Parser (Unit {0})
semicolon = λ i.
    if sees k.Semicolon i then Ok (tt, next i)
    else (if sees k.RightBrace i || line_before i then Ok (tt, i) else refuse i)

-- ---- what a function that parses ensures: the parser's outcome, unless memory runs out

abbrev pub Reads : {A : Type 0} → Outcome A → Result A Refusal → Input → Type 0
Reads outcome (Ok a) new = outcome ≡ Ok (a, new)
Reads outcome (Err e) new = e ≢ Memory → outcome ≡ Err e
