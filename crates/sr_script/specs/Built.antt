-- The scripts that are built, and the texts of which they are.
use Rattle.std.specs.Prelude.{◌≡◌, ℕ, Bool, true, false, List, [], ◌∷◌, length, Ok, IsTrue}
use Rattle.sr_lex.specs.declared.token.Token.{Token}
use Rattle.sr_lex.specs.declared.token.TokenKind.{TokenKind}
use Rattle.sr_lex.specs.declared.token.TokenKind.TheVariants.{Text}
use Rattle.sr_lex.specs.Tokens.{Tokens}
use Rattle.sr_ast.specs.declared.tree.Tree.{Tree}
use Rattle.sr_ast.specs.declared.reading.Reading.{Reading}
use Rattle.sr_ast.specs.declared.reading.Reading.TheVariants as reading
use Rattle.sr_ast.specs.declared.reading.SourceCode.{SourceCode}
use Rattle.sr_ast.specs.declared.refused.Refused.{Refused}
use Rattle.sr_ast.specs.Script.{Script}
use Rattle.sr_text.specs.declared.goal.Goal.TheVariants as goal
use Rattle.sr_unit.specs.Refusals.{Reads}
use Rattle.sr_script.specs.Names.{script_names}
use Rattle.sr_script.specs.Form.{script_fits}
use Rattle.sr_script.specs.Refusals.{IsRefused}

abbrev pub is_string : TokenKind → Bool
is_string Text = true
is_string kind = false

-- whether the first token is a string literal, so that it may be a directive (ECMA-262 11.2.1)
abbrev pub begins_with_string : List Token → Bool
begins_with_string [] = false
begins_with_string (t ∷ ts) = is_string t.kind

-- a script of these tokens and statements: it begins with no string literal, and is of the form, with the names that the statements
-- declare
pub record HasBody (tokens : List Token) (statements : List Tree) (x : Script) : Type 0 where
  pub no_directive : begins_with_string tokens ≡ false
  pub body : x.body ≡ statements
  pub names : x.names ≡ script_names statements
  pub form : IsTrue (script_fits (script_names statements) statements)

-- A text is this script, and it is built: it is read as the statements, does not begin with a string literal, and is of the form.
-- The script has the names that the statements declare.
pub record IsBuilt (text : List ℕ) (x : Script) : Type 0 where
  pub reads : Reads goal.Script text (Ok x.body)
  pub no_directive : (ts : List Token) → Tokens text ts → begins_with_string ts ≡ false
  pub names : x.names ≡ script_names x.body
  pub form : IsTrue (script_fits x.names x.body)

-- What a text is as it is read: a script that is built, or none. A script that is not built has no reading.
pub data IsReading (text : List ℕ) : Reading → Type 0 where
  script : {x : Script} → IsBuilt text x → IsReading text (reading.Script x)
  refused : {why : Refused} → IsRefused text why → IsReading text (reading.Refused why)

-- the source of a text: what that is, and how many code units it has
pub record IsSource (text : List ℕ) (s : SourceCode) : Type 0 where
  pub reads : IsReading text s.reading
  pub units : s.units ≡ length text

-- a text has one reading at most
abbrev pub OneReading : Type 0
OneReading = (text : List ℕ) (a b : Reading) → IsReading text a → IsReading text b → a ≡ b
