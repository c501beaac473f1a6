-- The names, parameters and keys of the grammar (ECMA-262 13.1, 13.2.5, 15.1).
use Rattle.std.specs.Prelude.{◌≡◌, ℕ, Bool, true, false, ◌&&◌, ◌||◌, List, [], ◌∷◌, ◌++◌, Option, Some, None}
use Rattle.std.specs.Str.{bytes_eq}
use Rattle.sr_ast.specs.declared.binding.Binding.{Binding}
use Rattle.sr_ast.specs.declared.binding.Parameters.{Parameters}
use Rattle.sr_ast.specs.declared.binding.HeadKind.{HeadKind}
use Rattle.sr_ast.specs.declared.binding.HeadKind.TheVariants as head
use Rattle.sr_ast.specs.declared.binding.PropertyName.{PropertyName}
use Rattle.sr_ast.specs.declared.binding.PropertyName.TheVariants as property_name
use Rattle.sr_syntax.specs.declared.sorts.Sort.{Sort}
use Rattle.sr_syntax.specs.declared.sorts.Sort.TheVariants as k
use Rattle.sr_syntax.specs.declared.sorts.Lexeme.{Lexeme}
use Rattle.sr_syntax.specs.Sorts.{same_sort}
use Rattle.sr_syntax.specs.Input.{sort_at, ahead_at, text_of, number_of, is_word}
use Rattle.sr_syntax.specs.Bodies.{parameters_of}

-- the name that a token holds, with its place
abbrev pub binding_of : Lexeme → Binding
binding_of t = record { name = text_of t.content; from = t.from }

-- whether a token is this name, which is not reserved
abbrev pub is_text : List ℕ → Lexeme → Bool
is_text word t = same_sort t.sort k.Identifier && bytes_eq (text_of t.content) word

-- whether the tokens begin as an arrow function does, with a name before `=>` or a parenthesis whose closing one stands before it (15.3)
abbrev pub is_arrow : List Lexeme → Bool
is_arrow us = (same_sort (sort_at us) k.Identifier || same_sort (sort_at us) k.LeftParenthesis) && same_sort (ahead_at us) k.Arrow

-- whether the tokens begin as a labelled statement does, with a name before `:` (14.13)
abbrev pub is_label : List Lexeme → Bool
is_label us = same_sort (sort_at us) k.Identifier && same_sort (ahead_at us) k.Colon

-- how a declaration declares that begins with `var`, `let` or `const` (14.3)
abbrev pub declaring_word : Sort → Option HeadKind
declaring_word k.Var = Some head.Var
declaring_word k.Let = Some head.Let
declaring_word k.Const = Some head.Const
declaring_word _ = None

-- how a lexical declaration declares, which begins with `let` or `const` (14.3.1)
abbrev pub lexical_word : Sort → Option HeadKind
lexical_word k.Let = Some head.Let
lexical_word k.Const = Some head.Const
lexical_word _ = None

-- names, each with a comma behind it
pub data NamesWithCommas : List Lexeme → List Binding → Type 0 where
  no_names : NamesWithCommas [] []
  one_more_name : {us : List Lexeme} {xs : List Binding} → NamesWithCommas us xs → (t : Lexeme) → t.sort ≡ k.Identifier → (u : Lexeme) → u.sort ≡ k.Comma
      → NamesWithCommas (us ++ t ∷ u ∷ []) (xs ++ binding_of t ∷ [])

-- the tokens behind "(" in "(" Params ")": names with commas between, and at last perhaps a comma, or one more name behind "..." (15.1)
pub data Params : List Lexeme → Parameters → Type 0 where
  comma_before : {us : List Lexeme} {xs : List Binding} → NamesWithCommas us xs → (u : Lexeme) → u.sort ≡ k.RightParenthesis
      → Params (us ++ u ∷ []) (parameters_of xs None)
  name_before : {us : List Lexeme} {xs : List Binding} → NamesWithCommas us xs → (t : Lexeme) → t.sort ≡ k.Identifier → (u : Lexeme) → u.sort ≡ k.RightParenthesis
      → Params (us ++ t ∷ u ∷ []) (parameters_of (xs ++ binding_of t ∷ []) None)
  rest_before : {us : List Lexeme} {xs : List Binding} → NamesWithCommas us xs → (e : Lexeme) → e.sort ≡ k.Ellipsis → (t : Lexeme) → t.sort ≡ k.Identifier
      → (u : Lexeme) → u.sort ≡ k.RightParenthesis → Params (us ++ e ∷ t ∷ u ∷ []) (parameters_of xs (Some (binding_of t)))

-- what stands before "=>": a name, or "(" Params ")" (15.3)
pub data ArrowHead : List Lexeme → Parameters → Type 0 where
  one_name : (t : Lexeme) → t.sort ≡ k.Identifier → same_sort t.ahead k.Arrow ≡ true → ArrowHead (t ∷ []) (parameters_of (binding_of t ∷ []) None)
  in_parentheses : {us : List Lexeme} {ps : Parameters} (t : Lexeme) → t.sort ≡ k.LeftParenthesis → same_sort t.ahead k.Arrow ≡ true → Params us ps → ArrowHead (t ∷ us) ps

-- the key that a token is that is no name: a string or a number
abbrev pub other_key : Sort → Lexeme → Option PropertyName
other_key k.Text t = Some (property_name.Text (text_of t.content))
other_key k.Number t = Some (property_name.Number (number_of t.content))
other_key _ t = None

-- the key that a token is, where it is a name and where it is none
abbrev pub key_by_word : Bool → Lexeme → Option PropertyName
key_by_word true t = Some (property_name.Text (text_of t.content))
key_by_word false t = other_key t.sort t

-- the key of a property that a token is: a name, reserved or not, a string or a number (13.2.5)
abbrev pub key_of : Lexeme → Option PropertyName
key_of t = key_by_word (is_word t.sort) t

-- what stands between `catch` and its block: "(" name ")", or nothing (14.15)
pub data CatchParameter : List Lexeme → Option Binding → Type 0 where
  no_parameter : CatchParameter [] None
  one_parameter : (t : Lexeme) → t.sort ≡ k.LeftParenthesis → (u : Lexeme) → u.sort ≡ k.Identifier → (v : Lexeme) → v.sort ≡ k.RightParenthesis
      → CatchParameter (t ∷ u ∷ v ∷ []) (Some (binding_of u))
