-- Declarations are read alike where the rules below them are.
use Rattle.std.proofs.Common.{ℕ, zero, suc, max, Bool, true, List, [], ◌∷◌, ◌++◌, None, Some}
use Rattle.sr_ast.specs.declared.binding.HeadKind.{HeadKind}
use Rattle.sr_ast.specs.declared.tree.Declaration.{Declaration, roll-Declaration}
use Rattle.sr_syntax.specs.declared.sorts.Sort.TheVariants as k
use Rattle.sr_syntax.specs.declared.grown.Goal.{Goal}
use Rattle.sr_syntax.specs.declared.grown.Goal.TheVariants as goal
use Rattle.sr_syntax.specs.declared.grown.Grown.{Grown}
use Rattle.sr_syntax.specs.Input.{Parser}
use Rattle.sr_syntax.specs.Operators.{assign_goal}
use Rattle.sr_syntax.specs.Declarations.{declaring, declared, declaration, declarations_from, declarations_behind, declarations, declared_by}
use Rattle.sr_grammar.proofs.Alike.{Level, Takes, level_of, level_then, front_then, end_then, takes_then, level_pure, takes_refuse, takes_turns, level_if, takes_here, level_eat, level_semicolon, level_complete}
use Rattle.sr_grammar.proofs.AlikeNames.{takes_name}

-- the rules one level down
pub record Rules (less more : Goal → Parser Grown) : Type 0 where
  pub assign : (b : Bool) → Takes (less (assign_goal b)) (more (assign_goal b))
  pub power : Takes (less goal.Power) (more goal.Power)
  pub unary : Takes (less goal.Unary) (more goal.Unary)
  pub new : Takes (less goal.New) (more goal.New)
  pub statement : Takes (less goal.Statement) (more goal.Statement)

module _ (less more : Goal → Parser Grown) (rules : Rules less more) where
  pub level_declared : (b : Bool) (from : ℕ) (called : List ℕ) → Level (declared less b from called) (declared more b from called)
  unfolding declared
  level_declared b from called = level_then (level_eat k.Assign) (λ given. level_if given
      (level_then (level_of (rules.assign b)) (λ x. level_pure (roll-Declaration (record { name = called; from = from; value = Some x.tree }), x.height)))
      (level_pure (roll-Declaration (record { name = called; from = from; value = None }), 0)))

  takes_declaration : (b : Bool) → Takes (declaration less b) (declaration more b)
  unfolding declaration
  takes_declaration b = takes_here (λ from. front_then takes_name.first (λ called. level_declared b from called))
      (λ from to. end_then (declared less b from) (declared more b to) takes_name.ended)

  takes_declarations_from : (b : Bool) (m : ℕ) (found : List Declaration) (tall : ℕ) → Takes (declarations_from less b m found tall) (declarations_from more b m found tall)
  unfolding declarations_from
  takes_declarations_from b zero found tall = takes_refuse
  takes_declarations_from b (suc m) found tall = takes_then (takes_declaration b) (λ x. level_then (level_eat k.Comma) (λ again. level_if again
      (level_of (takes_declarations_from b m (found ++ x.0 ∷ []) (max tall x.1))) (level_pure (found ++ x.0 ∷ [], max tall x.1))))

  pub takes_declarations_behind : (b : Bool) (found : List Declaration) (tall : ℕ) → Takes (declarations_behind less b found tall) (declarations_behind more b found tall)
  unfolding declarations_behind
  takes_declarations_behind b found tall =
      takes_turns (λ m. declarations_from less b m found tall) (λ m. declarations_from more b m found tall) (λ m. takes_declarations_from b m found tall)

  pub takes_declarations : (b : Bool) → Takes (declarations less b) (declarations more b)
  unfolding declarations
  takes_declarations b = takes_declarations_behind b [] 0

  pub level_declared_by : (how : HeadKind) (from : ℕ) → Level (declared_by less how from) (declared_by more how from)
  unfolding declared_by
  level_declared_by how from = level_then (level_of (takes_declarations true)) (λ all. level_then level_semicolon (λ u. level_complete (declaring how all.0) from all.1))
