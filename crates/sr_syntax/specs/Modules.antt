-- Imports and exports, rule by rule (ECMA-262 16.2).
use Rattle.std.specs.Prelude.{ℕ, zero, suc, ◌+◌, Bool, true, not, ◌&&◌, ◌||◌, if◌then◌else◌, List, [], ◌∷◌, ◌++◌, Option, Some, None, Ok, codes}
use Rattle.sr_ast.specs.declared.tree.Node.TheVariants as n
use Rattle.sr_ast.specs.declared.binding.Binding.{Binding}
use Rattle.sr_ast.specs.declared.binding.HeadKind.{HeadKind}
use Rattle.sr_ast.specs.declared.binding.HeadKind.TheVariants as head
use Rattle.sr_ast.specs.declared.module.ImportName.{ImportName}
use Rattle.sr_ast.specs.declared.module.Imports.{Imports}
use Rattle.sr_ast.specs.declared.module.Imports.TheVariants as imports
use Rattle.sr_ast.specs.declared.module.ExportName.{ExportName}
use Rattle.sr_syntax.specs.declared.sorts.Sort.{Sort}
use Rattle.sr_syntax.specs.declared.sorts.Sort.TheVariants as k
use Rattle.sr_syntax.specs.declared.grown.Grown.{Grown}
use Rattle.sr_syntax.specs.declared.grown.Goal.{Goal}
use Rattle.sr_syntax.specs.declared.grown.Goal.TheVariants as goal
use Rattle.sr_syntax.specs.Input.{Parser, ◌>>=◌, ◌>>◌, pure, refuse, left, peek, here, take_token, take_text, sees, sees_word, sees_text, eat, expect, expect_text, complete, semicolon, start}
use Rattle.sr_syntax.specs.Declarations.{declared_by}
use Rattle.sr_syntax.specs.Bodies.{binding, binding_if_there, declared_function, function_declaration}
use Rattle.sr_syntax.specs.Statements.{item}

-- the string literal that names a module
unfoldable pub module_name : Parser (List ℕ)
module_name = λ i. if sees k.Text i then take_text i else refuse i

-- "from" String
unfoldable pub from_clause : Parser (List ℕ)
from_clause = expect_text (codes "from") >> module_name

-- a name, reserved or not, or a string literal, with its place
unfoldable pub export_name : Parser Binding
export_name = λ i. if sees_word i || sees k.Text i then (do from ← here; called ← take_text; pure (record { name = called; from = from })) i else refuse i

-- "as" and the name here
unfoldable pub local_name : Parser Binding
local_name = expect_text (codes "as") >> binding

-- nm ["as" Name]; without "as", the name here is the same and is not reserved
unfoldable pub import_name : Parser ImportName
import_name = do
  is_name ← (λ i. Ok (sees k.Identifier i, i))
  outer ← export_name
  renames ← (λ i. Ok (sees_text (codes "as") i || not is_name, i))
  if renames then (do inner ← local_name; pure (record { imported = outer; local = inner }))
      else pure (record { imported = outer; local = outer })

unfoldable pub import_names_from : ℕ → List ImportName → Parser (List ImportName)
import_names_from zero found = refuse
import_names_from (suc m) found = do
  is_over ← eat k.RightBrace
  if is_over then pure found else (do
    x ← import_name
    more ← eat k.Comma
    if more then import_names_from m (found ++ x ∷ []) else expect k.RightBrace >> pure (found ++ x ∷ []))

unfoldable pub import_names : Parser (List ImportName)
import_names = λ i. import_names_from (left i + 1) [] i

abbrev pub imported_by : Sort → Parser Imports
imported_by k.Multiply = take_token >> local_name >>= (λ x. pure (imports.Namespace x))
imported_by k.LeftBrace = take_token >> import_names >>= (λ xs. pure (imports.Names xs))
imported_by _ = refuse

-- Imported = "* as" Name | "{" specs "}"
unfoldable pub imported : Parser Imports
imported = peek >>= imported_by

-- "from" String ";"
unfoldable pub import_end : ℕ → Option Binding → Imports → Parser Grown
import_end from first others = do
  called ← from_clause
  semicolon
  complete (n.Import first others called) from 0

-- behind the name of the default export: "," Imported, or nothing
unfoldable pub import_default : ℕ → Parser Grown
import_default from = do
  first ← binding
  more ← eat k.Comma
  if more then imported >>= import_end from (Some first) else import_end from (Some first) imports.Nothing

-- String ";"
unfoldable pub import_module : ℕ → Parser Grown
import_module from = do
  called ← take_text
  semicolon
  complete (n.Import None imports.Nothing called) from 0

abbrev pub import_by : ℕ → Sort → Parser Grown
import_by from k.Text = import_module from
import_by from k.Identifier = import_default from
import_by from _ = imported >>= import_end from None

-- Import = "import" (Name ["," Imported] | Imported) "from" String ; | "import" String ;, behind the first token (16.2.2)
unfoldable pub import_ : ℕ → Parser Grown
import_ from = peek >>= import_by from

-- nm ["as" nm], and whether the first one is a name that is not reserved
unfoldable pub export_spec : Parser (ExportName × Bool)
export_spec = do
  is_name ← (λ i. Ok (sees k.Identifier i, i))
  inner ← export_name
  renames ← (λ i. Ok (sees_text (codes "as") i, i))
  if renames then (do take_token; outer ← export_name; pure (record { local = inner; exported = outer }, is_name))
      else pure (record { local = inner; exported = inner }, is_name)

unfoldable pub export_specs_from : ℕ → List ExportName → Bool → Parser (List ExportName × Bool)
export_specs_from zero found all_names = refuse
export_specs_from (suc m) found all_names = do
  is_over ← eat k.RightBrace
  if is_over then pure (found, all_names) else (do
    x ← export_spec
    more ← eat k.Comma
    if more then export_specs_from m (found ++ x.0 ∷ []) (all_names && x.1) else expect k.RightBrace >> pure (found ++ x.0 ∷ [], all_names && x.1))

unfoldable pub export_specs : Parser (List ExportName × Bool)
export_specs = λ i. export_specs_from (left i + 1) [] true i

-- "{" specs "}" ["from" String] ";", behind the brace: without "from" each name here is a name that is not reserved (16.2.3)
unfoldable pub export_names : ℕ → Parser Grown
export_names from = do
  all ← export_specs
  is_from ← (λ i. Ok (sees_text (codes "from") i || not all.1, i))
  if is_from then (do called ← from_clause; semicolon; complete (n.ExportNames all.0 (Some called)) from 0)
      else (do semicolon; complete (n.ExportNames all.0 None) from 0)

-- ["as" nm]
unfoldable pub exported_as : Parser (Option Binding)
exported_as = λ i. if sees_text (codes "as") i then (take_token >> export_name >>= (λ x. pure (Some x))) i else Ok (None, i)

-- ["as" nm] "from" String ";", behind "*"
unfoldable pub export_all : ℕ → Parser Grown
export_all from = do
  outer ← exported_as
  called ← from_clause
  semicolon
  complete (n.ExportAll outer called) from 0

-- The parser of what is open while it is read, one level down.
module _ (nest : Goal → Parser Grown) where
  -- an exported Var or Lexical, behind its first token
  unfoldable pub exported_by : HeadKind → ℕ → ℕ → Parser Grown
  exported_by how from start = do
    x ← declared_by nest how start
    complete (n.Export x.tree) from x.height

  -- an exported Function, behind its first token
  unfoldable pub exported_function : ℕ → ℕ → Parser Grown
  exported_function from start = do
    x ← function_declaration nest start
    complete (n.Export x.tree) from x.height

  -- "default" (Function, its Name optional | Assign ";"), behind the first token
  unfoldable pub default_function : ℕ → Parser Grown
  default_function from = do
    start ← here
    take_token
    called ← binding_if_there
    x ← declared_function nest start called
    complete (n.ExportDefault x.tree) from x.height

  unfoldable pub default_value : ℕ → Parser Grown
  default_value from = do
    x ← nest goal.Assign
    semicolon
    complete (n.ExportDefault x.tree) from x.height

  unfoldable pub export_default : ℕ → Parser Grown
  export_default from = λ i. if sees k.Function i then default_function from i else default_value from i

  abbrev pub export_by : ℕ → ℕ → Sort → Parser Grown
  export_by from start k.Multiply = take_token >> export_all from
  export_by from start k.LeftBrace = take_token >> export_names from
  export_by from start k.Var = take_token >> exported_by head.Var from start
  export_by from start k.Let = take_token >> exported_by head.Let from start
  export_by from start k.Const = take_token >> exported_by head.Const from start
  export_by from start k.Function = take_token >> exported_function from start
  export_by from start k.Default = take_token >> export_default from
  export_by from start _ = refuse

  -- Export, behind the first token (16.2.3)
  unfoldable pub export_ : ℕ → Parser Grown
  export_ from = do
    start ← here
    s ← peek
    export_by from start s

  abbrev pub module_item_by : ℕ → Sort → Parser Grown
  module_item_by from k.Import = take_token >> import_ from
  module_item_by from k.Export = take_token >> export_ from
  module_item_by from _ = item nest

  -- Import | Export | Item
  unfoldable pub module_item : Parser Grown
  module_item = do
    from ← here
    s ← peek
    module_item_by from s
