-- The grammar of imports and exports (ECMA-262 16.2), as a relation between tokens, those that follow, and trees.
use Rattle.std.specs.Prelude.{◌≡◌, ℕ, suc, Bool, true, false, ◌&&◌, ◌||◌, List, [], ◌∷◌, ◌++◌, Option, Some, None, codes}
use Rattle.sr_ast.specs.declared.binding.Binding.{Binding}
use Rattle.sr_ast.specs.declared.binding.HeadKind.{HeadKind}
use Rattle.sr_ast.specs.declared.binding.Parameters.{Parameters}
use Rattle.sr_ast.specs.declared.module.ImportName.{ImportName}
use Rattle.sr_ast.specs.declared.module.Imports.{Imports}
use Rattle.sr_ast.specs.declared.module.Imports.TheVariants as imports
use Rattle.sr_ast.specs.declared.module.ExportName.{ExportName}
use Rattle.sr_ast.specs.declared.tree.Node.TheVariants as n
use Rattle.sr_ast.specs.declared.tree.Declaration.{Declaration}
use Rattle.sr_syntax.specs.declared.sorts.Sort.TheVariants as k
use Rattle.sr_syntax.specs.declared.sorts.Lexeme.{Lexeme}
use Rattle.sr_syntax.specs.declared.grown.Grown.{Grown}
use Rattle.sr_syntax.specs.declared.grown.Grove.{Grove}
use Rattle.sr_syntax.specs.Sorts.{same_sort}
use Rattle.sr_syntax.specs.Input.{text_of, is_word, sort_at}
use Rattle.sr_syntax.specs.Expressions.{assign}
use Rattle.sr_syntax.specs.Declarations.{declaring, declarations}
use Rattle.sr_syntax.specs.Grammar.{tree}
use Rattle.sr_grammar.specs.Reading.{EndsThere}
use Rattle.sr_grammar.specs.Names.{binding_of, is_text, declaring_word}
use Rattle.sr_grammar.specs.Derivations.{Derives, Assign, Declarations, Function, Semicolon, IsItem, whole}

-- whether a token is a name, reserved or not, or a string
abbrev pub is_export_name : Lexeme → Bool
is_export_name t = is_word t.sort || same_sort t.sort k.Text

-- whether the first token is this name, which is not reserved
abbrev pub starts_with : List ℕ → List Lexeme → Bool
starts_with word [] = false
starts_with word (t ∷ ts) = is_text word t

-- "from" String (16.2.2)
pub data FromClause : List Lexeme → List ℕ → Type 0 where
  from_module : (f : Lexeme) → is_text (codes "from") f ≡ true → (s : Lexeme) → s.sort ≡ k.Text → FromClause (f ∷ s ∷ []) (text_of s.content)

-- Name | nm "as" Name, where nm is a name, reserved or not, or a string (16.2.2)
pub data OneImport : List Lexeme → ImportName → Type 0 where
  by_its_name : (t : Lexeme) → t.sort ≡ k.Identifier → OneImport (t ∷ []) (record { imported = binding_of t; local = binding_of t })
  renamed_here : (t : Lexeme) → is_export_name t ≡ true → (a : Lexeme) → is_text (codes "as") a ≡ true → (u : Lexeme) → u.sort ≡ k.Identifier
      → OneImport (t ∷ a ∷ u ∷ []) (record { imported = binding_of t; local = binding_of u })

-- names that are imported, each with a comma behind it
pub data ImportsWithCommas : List Lexeme → List ImportName → Type 0 where
  no_imports : ImportsWithCommas [] []
  one_more_import : {us vs : List Lexeme} {xs : List ImportName} {x : ImportName} → ImportsWithCommas us xs → OneImport vs x → (t : Lexeme) → t.sort ≡ k.Comma
      → ImportsWithCommas (us ++ (vs ++ t ∷ [])) (xs ++ x ∷ [])

-- the tokens behind the brace of "{" names, with commas between and perhaps at last, "}"
pub data ImportNames : List Lexeme → List ImportName → Type 0 where
  import_comma_at_last : {us : List Lexeme} {xs : List ImportName} → ImportsWithCommas us xs → (u : Lexeme) → u.sort ≡ k.RightBrace → ImportNames (us ++ u ∷ []) xs
  import_at_last : {us vs : List Lexeme} {xs : List ImportName} {x : ImportName} → ImportsWithCommas us xs → OneImport vs x → (u : Lexeme) → u.sort ≡ k.RightBrace
      → ImportNames (us ++ (vs ++ u ∷ [])) (xs ++ x ∷ [])

-- Imported = "*" "as" Name | "{" names "}" (16.2.2)
pub data Imported : List Lexeme → Imports → Type 0 where
  namespace : (t : Lexeme) → t.sort ≡ k.Multiply → (a : Lexeme) → is_text (codes "as") a ≡ true → (u : Lexeme) → u.sort ≡ k.Identifier
      → Imported (t ∷ a ∷ u ∷ []) (imports.Namespace (binding_of u))
  names : {us : List Lexeme} {xs : List ImportName} (t : Lexeme) → t.sort ≡ k.LeftBrace → ImportNames us xs → Imported (t ∷ us) (imports.Names xs)

-- nm ["as" nm], and whether the first one is a name that is not reserved (16.2.3)
pub data OneExport : List Lexeme → ExportName → Bool → Type 0 where
  exported : (t : Lexeme) → is_export_name t ≡ true → OneExport (t ∷ []) (record { local = binding_of t; exported = binding_of t }) (same_sort t.sort k.Identifier)
  renamed_there : (t : Lexeme) → is_export_name t ≡ true → (a : Lexeme) → is_text (codes "as") a ≡ true → (u : Lexeme) → is_export_name u ≡ true
      → OneExport (t ∷ a ∷ u ∷ []) (record { local = binding_of t; exported = binding_of u }) (same_sort t.sort k.Identifier)

-- exports, each with a comma behind it, and whether all their names here are names that are not reserved
pub data ExportsWithCommas : List Lexeme → List ExportName → Bool → Type 0 where
  no_exports : ExportsWithCommas [] [] true
  one_more_export : {us vs : List Lexeme} {xs : List ExportName} {x : ExportName} {all one : Bool} → ExportsWithCommas us xs all → OneExport vs x one
      → (t : Lexeme) → t.sort ≡ k.Comma → ExportsWithCommas (us ++ (vs ++ t ∷ [])) (xs ++ x ∷ []) (all && one)

-- the tokens behind the brace of "{" exports, with commas between and perhaps at last, "}"
pub data ExportNames : List Lexeme → List ExportName → Bool → Type 0 where
  export_comma_at_last : {us : List Lexeme} {xs : List ExportName} {all : Bool} → ExportsWithCommas us xs all → (u : Lexeme) → u.sort ≡ k.RightBrace → ExportNames (us ++ u ∷ []) xs all
  export_at_last : {us vs : List Lexeme} {xs : List ExportName} {x : ExportName} {all one : Bool} → ExportsWithCommas us xs all → OneExport vs x one
      → (u : Lexeme) → u.sort ≡ k.RightBrace → ExportNames (us ++ (vs ++ u ∷ [])) (xs ++ x ∷ []) (all && one)

-- ["as" nm] (16.2.3)
pub data ExportedAs : List Lexeme → Option Binding → Type 0 where
  under_no_name : ExportedAs [] None
  under_a_name : (a : Lexeme) → is_text (codes "as") a ≡ true → (u : Lexeme) → is_export_name u ≡ true → ExportedAs (a ∷ u ∷ []) (Some (binding_of u))

-- Import | Export | Item, before those tokens that follow, where so many more rules may be open at once (16.2)
pub data IsModuleItem : ℕ → List Lexeme → List Lexeme → Grown → Type 0 where
  item : {d : ℕ} {us ts : List Lexeme} {x : Grown} → IsItem d us ts x → IsModuleItem d us ts x
  -- "import" String ";" (16.2.2)
  import_module : {d : ℕ} {vs ts : List Lexeme} (t : Lexeme) → t.sort ≡ k.Import → (s : Lexeme) → s.sort ≡ k.Text → Semicolon (Unit {0}) vs ts
      → IsModuleItem d (t ∷ s ∷ vs) ts (whole (n.Import None imports.Nothing (text_of s.content)) t.from (t ∷ s ∷ vs) 0)
  -- "import" Name "from" String ";"
  import_default : {d : ℕ} {us vs ts : List Lexeme} {called : List ℕ} (t : Lexeme) → t.sort ≡ k.Import → (u : Lexeme) → u.sort ≡ k.Identifier
      → FromClause us called → Semicolon (Unit {0}) vs ts
      → IsModuleItem d (t ∷ u ∷ (us ++ vs)) ts (whole (n.Import (Some (binding_of u)) imports.Nothing called) t.from (t ∷ u ∷ (us ++ vs)) 0)
  -- "import" Name "," Imported "from" String ";"
  import_default_and : {d : ℕ} {us ws vs ts : List Lexeme} {others : Imports} {called : List ℕ} (t : Lexeme) → t.sort ≡ k.Import → (u : Lexeme) → u.sort ≡ k.Identifier
      → (c : Lexeme) → c.sort ≡ k.Comma → Imported us others → FromClause ws called → Semicolon (Unit {0}) vs ts
      → IsModuleItem d (t ∷ u ∷ c ∷ (us ++ (ws ++ vs))) ts (whole (n.Import (Some (binding_of u)) others called) t.from (t ∷ u ∷ c ∷ (us ++ (ws ++ vs))) 0)
  -- "import" Imported "from" String ";"
  import_names : {d : ℕ} {us ws vs ts : List Lexeme} {others : Imports} {called : List ℕ} (t : Lexeme) → t.sort ≡ k.Import → Imported us others
      → FromClause ws called → Semicolon (Unit {0}) vs ts
      → IsModuleItem d (t ∷ (us ++ (ws ++ vs))) ts (whole (n.Import None others called) t.from (t ∷ (us ++ (ws ++ vs))) 0)
  -- "export" "*" ["as" nm] "from" String ";" (16.2.3)
  export_all : {d : ℕ} {us ws vs ts : List Lexeme} {outer : Option Binding} {called : List ℕ} (t : Lexeme) → t.sort ≡ k.Export → (m : Lexeme) → m.sort ≡ k.Multiply
      → ExportedAs us outer → FromClause ws called → Semicolon (Unit {0}) vs ts
      → IsModuleItem d (t ∷ m ∷ (us ++ (ws ++ vs))) ts (whole (n.ExportAll outer called) t.from (t ∷ m ∷ (us ++ (ws ++ vs))) 0)
  -- "export" "{" exports "}" "from" String ";"
  export_from : {d : ℕ} {us ws vs ts : List Lexeme} {xs : List ExportName} {all : Bool} {called : List ℕ} (t : Lexeme) → t.sort ≡ k.Export → (m : Lexeme) → m.sort ≡ k.LeftBrace
      → ExportNames us xs all → FromClause ws called → Semicolon (Unit {0}) vs ts
      → IsModuleItem d (t ∷ m ∷ (us ++ (ws ++ vs))) ts (whole (n.ExportNames xs (Some called)) t.from (t ∷ m ∷ (us ++ (ws ++ vs))) 0)
  -- "export" "{" exports "}" ";", where each name here is one that is not reserved
  export_names : {d : ℕ} {us vs ts : List Lexeme} {xs : List ExportName} (t : Lexeme) → t.sort ≡ k.Export → (m : Lexeme) → m.sort ≡ k.LeftBrace
      → ExportNames us xs true → Semicolon (starts_with (codes "from") ts ≡ false) vs ts
      → IsModuleItem d (t ∷ m ∷ (us ++ vs)) ts (whole (n.ExportNames xs None) t.from (t ∷ m ∷ (us ++ vs)) 0)
  -- "export" ("var" | "let" | "const") Declarations ";"
  export_declarations : {d tall : ℕ} {us vs ts : List Lexeme} {ds : List Declaration} {how : HeadKind} (t : Lexeme) → t.sort ≡ k.Export
      → (w : Lexeme) → declaring_word w.sort ≡ Some how → Declarations true d us ds tall → Semicolon (EndsThere (declarations (tree d) true) us ts (ds, tall)) vs ts
      → IsModuleItem d (t ∷ w ∷ (us ++ vs)) ts
      (whole (n.Export (whole (declaring how ds) w.from (w ∷ (us ++ vs)) tall).tree) t.from (t ∷ w ∷ (us ++ vs)) (suc tall))
  -- "export" "function" Name "(" Params ")" Body
  export_function : {d : ℕ} {us ts : List Lexeme} {ps : Parameters} {xs : Grove} (t : Lexeme) → t.sort ≡ k.Export
      → (f : Lexeme) → f.sort ≡ k.Function → (u : Lexeme) → u.sort ≡ k.Identifier → Function d us ps xs
      → IsModuleItem d (t ∷ f ∷ u ∷ us) ts
      (whole (n.Export (whole (n.FunctionDeclaration (Some (binding_of u)) ps xs.trees) f.from (f ∷ u ∷ us) xs.tall).tree) t.from (t ∷ f ∷ u ∷ us) (suc xs.tall))
  -- "export" "default" "function" [Name] "(" Params ")" Body
  export_default_function : {d : ℕ} {us ts : List Lexeme} {ps : Parameters} {xs : Grove} (t : Lexeme) → t.sort ≡ k.Export
      → (e : Lexeme) → e.sort ≡ k.Default → (f : Lexeme) → f.sort ≡ k.Function → Function d us ps xs
      → IsModuleItem d (t ∷ e ∷ f ∷ us) ts
      (whole (n.ExportDefault (whole (n.FunctionDeclaration None ps xs.trees) f.from (f ∷ us) xs.tall).tree) t.from (t ∷ e ∷ f ∷ us) (suc xs.tall))
  export_default_named : {d : ℕ} {us ts : List Lexeme} {ps : Parameters} {xs : Grove} (t : Lexeme) → t.sort ≡ k.Export
      → (e : Lexeme) → e.sort ≡ k.Default → (f : Lexeme) → f.sort ≡ k.Function → (u : Lexeme) → u.sort ≡ k.Identifier → Function d us ps xs
      → IsModuleItem d (t ∷ e ∷ f ∷ u ∷ us) ts
      (whole (n.ExportDefault (whole (n.FunctionDeclaration (Some (binding_of u)) ps xs.trees) f.from (f ∷ u ∷ us) xs.tall).tree) t.from (t ∷ e ∷ f ∷ u ∷ us) (suc xs.tall))
  -- "export" "default" Assign ";", where the Assign begins with no "function"
  export_default_value : {d : ℕ} {us vs ts : List Lexeme} {x : Grown} (t : Lexeme) → t.sort ≡ k.Export
      → (e : Lexeme) → e.sort ≡ k.Default → same_sort (sort_at us) k.Function ≡ false → Derives d (Assign true) us x
      → Semicolon (EndsThere (assign (tree d) true) us ts x) vs ts
      → IsModuleItem (suc d) (t ∷ e ∷ (us ++ vs)) ts (whole (n.ExportDefault x.tree) t.from (t ∷ e ∷ (us ++ vs)) x.height)
