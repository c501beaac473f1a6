-- The rows of the statements (ECMA-262 14) and of a script (16.1): what the evaluation of each does, step by step, with its charge.
use Rattle.std.specs.Prelude.{ℕ, ◌/◌, Bool, true, false, List, [], ◌∷◌, Option, None, Some}
use Rattle.sr_ast.specs.declared.tree.Tree.{Tree}
use Rattle.sr_ast.specs.declared.tree.Declaration.{Declaration, out-Declaration}
use Rattle.sr_ast.specs.declared.tree.Element.TheOpen as layer
use Rattle.sr_ast.specs.Layer.{Layer}
use Rattle.sr_ast.specs.Script.{Script}
use Rattle.sr_ast.specs.declared.reading.Reading.{Reading}
use Rattle.sr_ast.specs.declared.reading.Reading.TheVariants as reading
use Rattle.sr_ast.specs.declared.reading.SourceCode.{SourceCode}
use Rattle.sr_ast.specs.declared.refused.Refused.TheVariants as refused
use Rattle.sr_model.specs.Values.{Text, Value, Simple, Undefined}
use Rattle.sr_model.specs.Outcomes.{Normal, Abrupt, Throw, Unsupported, SyntaxDepth}
use Rattle.sr_model.specs.Tasks.{Context, Run, Operate}
use Rattle.sr_model.specs.Scripts.{Give, Halt, Look, Change, Become, Pay, pay}
use Rattle.sr_model.specs.Holds.{either, next_source, store_in, storing}
use Rattle.sr_model.specs.Names.{Base, Declarations, Acceptance, Accepted, Clash, Closed, accept_answer, with_source, accepted}
use Rattle.sr_conv.specs.Conversions.{to_boolean}
use Rattle.sr_state.specs.Work.{Steps, Place, Test, Body, Update, Loop, Operation, Repeat}
use Rattle.sr_realm.specs.Errors.{syntax_error, declaration_error, type_error}
use Rattle.sr_state.specs.Errors.{based, put_there, throw_new}
use Rattle.sr_state.specs.Trees.{value_in, give_value, begin, evaluated, valued}

-- 6.2.4.3 UpdateEmpty: an empty value leaves the one before it
abbrev pub update_empty : Option Value → Option Value → Option Value
update_empty None before = before
update_empty (Some v) before = Some v

-- a condition that is left out holds
abbrev pub at_test : Option Tree → Place
at_test None = Body
at_test (Some t) = Test

-- after the body comes the expression after each turn, where there is one, and then the condition
abbrev pub after_body : Option Tree → Option Tree → Place
after_body None test = at_test test
after_body (Some t) test = Update

-- the tree that is evaluated there; no loop is at a place that it does not have
abbrev pub tree_or : Option Tree → Tree → Tree
tree_or None body = body
tree_or (Some t) body = t

-- a loop with a condition and a body alone
abbrev pub plain_loop : Tree → Tree → Loop
plain_loop test body = record { test = Some test; update = None; body = body }

-- goes on with the value so far, after a part with this value
abbrev pub updated : (Option Value → Steps) → Option Value → Option Value → Steps
updated k v w = k (update_empty w v)

-- goes on whatever the value is
abbrev pub anyway : Steps → Option Value → Steps
anyway k v = k

module _ (c : Context) where
  -- 14.5: the value of the expression
  abbrev pub expression : ℕ → Tree → Steps
  expression at t = begin c at (Become (Run c t))

  -- 14.3.2: the declarations in order. One without a value does nothing, since the name is declared before the script runs
  abbrev pub put_then : Base → Text → Steps → Value → Steps
  put_then b x k v = put_there c b x v k

  abbrev pub value_for : Text → Tree → Steps → Base → Steps
  value_for x t k b = valued c t (put_then b x k)

  abbrev pub declare_one : Text → Option Tree → Steps → Steps
  declare_one x None k = k
  declare_one x (Some t) k = based c x (value_for x t k)

  abbrev pub declare : List Declaration → Steps
  declare [] = Give (Normal None)
  declare (d ∷ ds) = (let o = out-Declaration d in declare_one o.name o.value (declare ds))

  abbrev pub variables : ℕ → List Declaration → Steps
  variables at ds = begin c at (declare ds)

  -- 14.2.2: the statements in order. Their value is that of the last one that has a value
  abbrev pub statements : List Tree → Option Value → Steps
  statements [] v = Give (Normal v)
  statements (t ∷ ts) v = evaluated c t (updated (statements ts) v)

  abbrev pub block : ℕ → List Tree → Steps
  block at ts = begin c at (statements ts None)

  -- 14.4
  abbrev pub empty : ℕ → Steps
  empty at = begin c at (Give (Normal None))

  -- 14.6.2: the statement that is chosen; its empty value counts as undefined
  abbrev pub branch : Option Tree → Steps
  branch None = give_value (Simple Undefined)
  branch (Some t) = valued c t give_value

  abbrev pub chosen : Tree → Option Tree → Value → Steps
  chosen a b x = either (to_boolean x) (branch (Some a)) (branch b)

  abbrev pub choice : ℕ → Tree → Tree → Option Tree → Steps
  choice at test a b = begin c at (valued c test (chosen a b))

  -- 14.14: the value is thrown
  abbrev pub throw_value : Value → Steps
  throw_value v = Give (Abrupt (Throw v))

  abbrev pub throw : ℕ → Tree → Steps
  throw at t = begin c at (valued c t throw_value)

  -- 14.7.2 to 14.7.4: a loop that is at a place, with the value so far. After a turn it goes on as a task of its own
  abbrev pub again : Loop → Place → Value → Steps
  again l place v = Become (Operate (Repeat c l place v))

  abbrev pub turned : Loop → Value → Option Value → Steps
  turned l v w = again l (after_body l.update l.test) (value_in (update_empty w (Some v)))

  abbrev pub turn : Loop → Value → Steps
  turn l v = evaluated c l.body (turned l v)

  abbrev pub tested : Loop → Value → Value → Steps
  tested l v x = either (to_boolean x) (turn l v) (give_value v)

  abbrev pub loop : Loop → Place → Value → Steps
  loop l Test v = valued c (tree_or l.test l.body) (tested l v)
  loop l Body v = turn l v
  loop l Update v = evaluated c (tree_or l.update l.body) (anyway (again l (at_test l.test) v))

  -- `do`: the body comes first
  abbrev pub do_loop : ℕ → Tree → Tree → Steps
  do_loop at body test = begin c at (loop (plain_loop test body) Body (Simple Undefined))

  -- `while`
  abbrev pub while_loop : ℕ → Tree → Tree → Steps
  while_loop at test body = begin c at (loop (plain_loop test body) Test (Simple Undefined))

  -- `for`: what comes first, and the loop
  abbrev pub for_first : Option Tree → Steps → Steps
  for_first None k = k
  for_first (Some t) k = evaluated c t (anyway k)

  abbrev pub for_loop : ℕ → Option Tree → Loop → Steps
  for_loop at first l = begin c at (for_first first (loop l (at_test l.test) (Simple Undefined)))

-- a loop as a task
abbrev pub operation : Operation → Steps
operation (Repeat c l place v) = loop c l place v

-- whether a tree is a statement that is built. All other trees go by the rows of the expressions, which say what is not built
abbrev pub is_statement : Layer → Bool
is_statement (layer.Expression t) = true
is_statement (layer.Directive t) = true
is_statement (layer.Var ds) = true
is_statement (layer.Block ts) = true
is_statement layer.Empty = true
is_statement (layer.If c a b) = true
is_statement (layer.Do body test) = true
is_statement (layer.While test body) = true
is_statement (layer.For first test update body) = true
is_statement (layer.Throw t) = true
is_statement layer.Debugger = true
is_statement l = false

-- the table of the statements, by kind. A directive is evaluated as any expression (14.5), and without a debugger `debugger` does nothing
-- (14.16). What is no statement that is built has no row
-- here
abbrev pub statement : Context → ℕ → Layer → Steps
statement c at (layer.Expression t) = expression c at t
statement c at (layer.Directive t) = expression c at t
statement c at (layer.Var ds) = variables c at ds
statement c at (layer.Block ts) = block c at ts
statement c at layer.Empty = empty c at
statement c at (layer.If test a b) = choice c at test a b
statement c at (layer.Do body test) = do_loop c at body test
statement c at (layer.While test body) = while_loop c at test body
statement c at (layer.For first test update body) = for_loop c at first (record { test = test; update = update; body = body })
statement c at (layer.Throw t) = throw c at t
statement c at layer.Debugger = empty c at
statement c at l = empty c at

-- where the statements of a script are evaluated. A script that is built has no directives, so its code is not strict
abbrev pub script_context : ℕ → Context
script_context source = record { source = source; environment = 0; strict = false }

-- the names that a script declares. One that is built declares none by `let` or `const`
abbrev pub declarations : Script → Declarations
declarations x = record { vars = x.names; lexical = [] }

-- 16.1.7: the names are declared, and the statements evaluated; or a name clashes with what is declared already, or the global object
-- takes no property more
abbrev pub evaluate : Script → Context → Acceptance → Steps
evaluate x c Accepted = statements c x.body None
evaluate x c Clash = throw_new declaration_error
evaluate x c Closed = throw_new type_error

abbrev pub accept : Text → Script → Steps
accept text x =
    Look (λ r. let s = store_in r in
    Change (storing (accepted (declarations x) text s)) (evaluate x (script_context (next_source r)) (accept_answer (declarations x) (with_source text s))))

-- 16.1.6: a text that is no script ends by a SyntaxError, or by a stop
abbrev pub read_text : Text → Reading → Steps
read_text text (reading.Script x) = accept text x
read_text text (reading.Refused (refused.Syntax at)) = throw_new (syntax_error at)
read_text text (reading.Refused (refused.Unsupported marker at)) = Halt (Unsupported marker at)
read_text text (reading.Refused refused.TooDeep) = Halt SyntaxDepth

-- a source is taken: a step for the event, one for each 256 code units of its text before it is read, and what it is
abbrev pub read_source : Text → SourceCode → Steps
read_source text x = pay (x.units / 256) (read_text text x.reading)

abbrev pub source : Text → SourceCode → Steps
source text x = Pay 0 (read_source text x)
