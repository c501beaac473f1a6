-- Declarations of names (ECMA-262 14.3).
use Rattle.std.specs.Prelude.{ℕ, zero, suc, ◌+◌, max, Bool, true, if◌then◌else◌, List, [], ◌∷◌, ◌++◌, Some, None}
use Rattle.sr_ast.specs.declared.tree.Node.{Node}
use Rattle.sr_ast.specs.declared.tree.Node.TheVariants as n
use Rattle.sr_ast.specs.declared.binding.HeadKind.{HeadKind}
use Rattle.sr_ast.specs.declared.binding.HeadKind.TheVariants as head
use Rattle.sr_ast.specs.declared.binding.LexicalKind.TheVariants as lexical
use Rattle.sr_ast.specs.declared.tree.Declaration.{Declaration, roll-Declaration}
use Rattle.sr_syntax.specs.declared.sorts.Sort.TheVariants as k
use Rattle.sr_syntax.specs.declared.grown.Grown.{Grown}
use Rattle.sr_syntax.specs.declared.grown.Goal.{Goal}
use Rattle.sr_syntax.specs.Input.{Parser, ◌>>=◌, ◌>>◌, pure, refuse, left, here, eat, complete, semicolon}
use Rattle.sr_syntax.specs.Operators.{name, assign_goal}

-- the declarations of `var`, `let` and `const`
abbrev pub declaring : HeadKind → List Declaration → Node
declaring head.Var ds = n.Var ds
declaring head.Let ds = n.Lexical lexical.Let ds
declaring head.Const ds = n.Lexical lexical.Const ds

-- The parser of what is open while it is read, one level down.
module _ (nest : Goal → Parser Grown) where
  -- a value of a declared name, and its depth (14.3)
  unfoldable pub declared : Bool → ℕ → List ℕ → Parser (Declaration × ℕ)
  declared has_in from called = do
    is_given ← eat k.Assign
    if is_given
        then (do x ← nest (assign_goal has_in); pure (roll-Declaration (record { name = called; from = from; value = Some x.tree }), x.height))
        else pure (roll-Declaration (record { name = called; from = from; value = None }), 0)

  -- Decl = Name ["=" Assign]
  unfoldable pub declaration : Bool → Parser (Declaration × ℕ)
  declaration has_in = do
    from ← here
    called ← name
    declared has_in from called

  unfoldable pub declarations_from : Bool → ℕ → List Declaration → ℕ → Parser (List Declaration × ℕ)
  declarations_from has_in zero found tall = refuse
  declarations_from has_in (suc m) found tall = do
    x ← declaration has_in
    more ← eat k.Comma
    if more then declarations_from has_in m (found ++ x.0 ∷ []) (max tall x.1) else pure (found ++ x.0 ∷ [], max tall x.1)

  -- Decl ("," Decl)*, behind those that are found
  unfoldable pub declarations_behind : Bool → List Declaration → ℕ → Parser (List Declaration × ℕ)
  declarations_behind has_in found tall = λ i. declarations_from has_in (left i + 1) found tall i

  -- Decl ("," Decl)*
  unfoldable pub declarations : Bool → Parser (List Declaration × ℕ)
  declarations has_in = declarations_behind has_in [] 0

  -- "var" or "let" or "const", declarations and a semicolon, behind the first token (14.3)
  unfoldable pub declared_by : HeadKind → ℕ → Parser Grown
  declared_by how from = do
    all ← declarations true
    semicolon
    complete (declaring how all.0) from all.1
