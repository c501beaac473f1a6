-- A device of the proof: what a frame of a statement or a source stands for at each stage. At stage 0 it is the row. Nobody who reads the
-- language needs this file.
use Rattle.std.specs.Prelude.{ℕ, ◌/◌, zero, suc, Bool, true, false, List, [], ◌∷◌, Option, None, Some, drop}
use Rattle.sr_ast.specs.declared.tree.Tree.{Tree}
use Rattle.sr_ast.specs.declared.tree.Declaration.{Declaration, out-Declaration}
use Rattle.sr_ast.specs.declared.tree.Element.TheOpen as layer
use Rattle.sr_ast.specs.Layer.{Layer, layer_of}
use Rattle.sr_ast.specs.declared.reading.Reading.{Reading}
use Rattle.sr_ast.specs.declared.reading.Reading.TheVariants as reading
use Rattle.sr_ast.specs.declared.reading.SourceCode.{SourceCode}
use Rattle.sr_model.specs.Values.{Text, Value, Simple, Undefined}
use Rattle.sr_model.specs.Outcomes.{Normal}
use Rattle.sr_model.specs.Scripts.{Give}
use Rattle.sr_model.specs.Holds.{either}
use Rattle.sr_model.specs.Names.{Base}
use Rattle.sr_model.specs.Tasks.{Context}
use Rattle.sr_state.specs.declared.frame.Source.{Source}
use Rattle.sr_state.specs.Work.{Steps, Place, Body, Loop}
use Rattle.sr_state.specs.declared.ends.Next.{Next}
use Rattle.sr_state.specs.Held.{Held}
use Rattle.sr_state.specs.Step.{Given, At, StepsWith}
use Rattle.sr_state.specs.Trees.{value_in, give_value, throw_error, begin, evaluated_at, valued_at, paid_at}
use Rattle.sr_stmt.specs.Rows.{updated, put_then, anyway, at_test, tree_or, plain_loop, expression, declare, variables, statements, block, empty, throw_value, throw, chosen, choice, again, turned, tested, loop, for_first, read_text, operation, source}

-- the declarations that are left, of which the first has a value and is under way
abbrev pub declare_one_at : Context → Given → Base → Text → Option Tree → Steps → Steps
declare_one_at s g b x None k = throw_error
declare_one_at s g b x (Some t) k = valued_at s g t (put_then s b x k)

abbrev pub declare_at : Context → Given → Base → List Declaration → Steps
declare_at s g b [] = Give (Normal None)
declare_at s g b (d ∷ ds) = (let o = out-Declaration d in declare_one_at s g b o.name o.value (declare s ds))

-- the statements that are left, of which the first is under way, with the value so far
abbrev pub statements_at : Context → Given → List Tree → Option Value → Steps
statements_at s g [] v = Give (Normal v)
statements_at s g (t ∷ ts) v = evaluated_at s g t (updated (statements s ts) v)

abbrev pub branch_at : Context → Given → Option Tree → Steps
branch_at s g None = give_value (Simple Undefined)
branch_at s g (Some t) = valued_at s g t give_value

-- where the first turn of a loop begins
abbrev pub first_place : Bool → Loop → Place
first_place body_first l = either body_first Body (at_test l.test)

abbrev pub first_at : Context → Given → Option Tree → Steps → Steps
first_at s g None k = throw_error
first_at s g (Some t) k = evaluated_at s g t (anyway k)

module _ (at : ℕ) where
  abbrev pub expression_at : Tree → At
  expression_at t s zero kept g = expression s at t
  expression_at t s (suc n) kept g = throw_error

  -- at stage n + 1 the n-th declaration is under way
  abbrev pub variables_at : List Declaration → At
  variables_at ds s zero kept g = variables s at ds
  variables_at ds s (suc n) kept g = declare_at s g kept.base (drop n ds)

  -- at stage n + 1 the n-th statement is under way
  abbrev pub block_at : List Tree → At
  block_at ts s zero kept g = block s at ts
  block_at ts s (suc n) kept g = statements_at s g (drop n ts) kept.value

  abbrev pub empty_at : At
  empty_at s zero kept g = empty s at
  empty_at s (suc n) kept g = throw_error

  abbrev pub throw_at : Tree → At
  throw_at t s zero kept g = throw s at t
  throw_at t s (suc n) kept g = valued_at s g t (throw_value s)

  abbrev pub choice_at : Tree → Tree → Option Tree → At
  choice_at c a b s zero kept g = choice s at c a b
  choice_at c a b s (suc zero) kept g = valued_at s g c (chosen s a b)
  choice_at c a b s (suc (suc zero)) kept g = branch_at s g (Some a)
  choice_at c a b s (suc (suc (suc n))) kept g = branch_at s g b

  -- a loop is at its condition at stage 1, at its body at stage 2, and after a turn at stage 3; at stage 4 it is at what comes before the
  -- first turn. The value so far is kept
  abbrev pub loop_at : Bool → Option Tree → Loop → At
  loop_at b first l s zero kept g = begin s at (for_first s first (loop s l (first_place b l) (Simple Undefined)))
  loop_at b first l s (suc zero) kept g = valued_at s g (tree_or l.test l.body) (tested s l (value_in kept.value))
  loop_at b first l s (suc (suc zero)) kept g = evaluated_at s g l.body (turned s l (value_in kept.value))
  loop_at b first l s (suc (suc (suc zero))) kept g = evaluated_at s g (tree_or l.update l.body) (anyway (again s l (at_test l.test) (value_in kept.value)))
  loop_at b first l s (suc (suc (suc (suc zero)))) kept g = first_at s g first (loop s l (first_place b l) (Simple Undefined))
  loop_at b first l s (suc (suc (suc (suc (suc n))))) kept g = throw_error

  abbrev pub while_at : Bool → Tree → Tree → At
  while_at b test body = loop_at b None (plain_loop test body)

  abbrev pub layer_at : Layer → At
  layer_at (layer.Expression t) = expression_at t
  layer_at (layer.Directive t) = expression_at t
  layer_at (layer.Var ds) = variables_at ds
  layer_at (layer.Block ts) = block_at ts
  layer_at layer.Empty = empty_at
  layer_at (layer.If c a b) = choice_at c a b
  layer_at (layer.Do body test) = while_at true test body
  layer_at (layer.While test body) = while_at false test body
  layer_at (layer.For first test update body) = loop_at false first (record { test = test; update = update; body = body })
  layer_at (layer.Throw t) = throw_at t
  layer_at layer.Debugger = empty_at
  layer_at l = empty_at

abbrev pub statement_at : Tree → At
statement_at t = layer_at t.from (layer_of t)

-- a source that has been read: the statements from the n-th on are left
abbrev pub script_at : Reading → Context → ℕ → Given → Option Value → Steps
script_at (reading.Script x) s n g v = statements_at s g (drop n x.body) v
script_at (reading.Refused e) s n g v = throw_error

-- at stage 1 the text is to be paid, and at stage n + 2 the n-th statement is under way
abbrev pub code_at : Text → SourceCode → At
code_at text x s zero kept g = source text x
code_at text x s (suc zero) kept g = paid_at (x.units / 256) (read_text text x.reading)
code_at text x s (suc (suc n)) kept g = script_at x.reading s n g kept.value

abbrev pub source_at : Source → At
source_at x = code_at x.text x.code

-- from old, a step of a statement goes on with what at says, with loops as the further tasks. It is a function, so that the prover
-- takes it as it stands where it knows of it already
abbrev pub StepsOn : At → Held → Next → Held → Type 0
StepsOn at old n new = (u : Unit {0}) → StepsWith operation at old n new
