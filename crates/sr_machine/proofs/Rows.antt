-- Each row pays first, and a frame that begins a task stands for its row.
use Rattle.std.proofs.Common.{◌≡◌, refl, sym, ap, ◌∙◌, ℕ, Bool, true, false, List, Some}
use Rattle.sr_ast.specs.declared.tree.Tree.{Tree}
use Rattle.sr_ast.specs.declared.tree.Element.TheOpen as layer
use Rattle.sr_ast.specs.Layer.{Layer, layer_of}
use Rattle.sr_ast.specs.declared.operators.Link.TheVariants as link
use Rattle.sr_ast.specs.declared.operators.AssignOp.TheVariants as assign
use Rattle.sr_model.specs.Values.{Text, Value}
use Rattle.sr_model.specs.Tasks.{Context, Run, Perform}
use Rattle.sr_model.specs.Scripts.{Part, Change, Pay}
use Rattle.sr_model.specs.Holds.{either, marked}
use Rattle.sr_ast.specs.declared.reading.Reading.{Reading}
use Rattle.sr_intrin.specs.declared.names.BuiltIn.{BuiltIn}
use Rattle.sr_intrin.specs.declared.names.BuiltIn.TheVariants as built_in
use Rattle.sr_state.specs.Contexts.{context_of}
use Rattle.sr_state.specs.Errors.{name_value}
use Rattle.sr_state.specs.Trees.{give_value}
use Rattle.sr_state.specs.declared.frame.Frame.{Frame}
use Rattle.sr_state.specs.Held.{is_idle}
use Rattle.sr_state.specs.Step.{At, Began, Given, Kept, Operand, Literal, Name, operand_in, operand_of, IsFresh, kept_of}
use Rattle.sr_state.specs.Work as language
use Rattle.sr_state.specs.Work.{Steps}
use Rattle.sr_expr.specs.Rows.{is_built, is_prefix_built, expression}
use Rattle.sr_expr.specs.Stages as expressions
use Rattle.sr_stmt.specs.Rows.{is_statement, statement}
use Rattle.sr_stmt.specs.Stages as statements
use Rattle.sr_call.specs.Rows.{built_in_row}
use Rattle.sr_machine.specs.Language.{tree_row, row}
use Rattle.sr_machine.specs.Stages.{tree_at, at_of, script_of}
use Rattle.sr_machine.specs.Going.{PaysFirst, IsReady, part_weight}

on_either : (P : Steps → Type 0) (b : Bool) (s t : Steps) → P s → P t → P (either b s t)
on_either P true s t p q = p
on_either P false s t p q = q

expression_pays : (c : Context) (at : ℕ) (l : Layer) → PaysFirst (expression c at l)
expression_pays c at (layer.Assign assign.Plain t b named) = tt
expression_pays c at (layer.Binary op a b) = on_either PaysFirst (is_built op) _ _ tt tt
expression_pays c at (layer.Unary op a) = on_either PaysFirst (is_prefix_built op) _ _ tt tt
expression_pays c at (layer.Call link.Plain callee xs) = tt
expression_pays c at l = tt

statement_pays : (c : Context) (at : ℕ) (l : Layer) → PaysFirst (statement c at l)
statement_pays c at layer.Empty = tt
statement_pays c at l = tt

pub tree_pays : (c : Context) (t : Tree) → PaysFirst (tree_row c t)
tree_pays c t = on_either PaysFirst (is_statement (layer_of t)) _ _ (statement_pays c t.from (layer_of t)) (expression_pays c t.from (layer_of t))

-- what pays first begins with no part, and is ready
pub pays_light : (s : Steps) → PaysFirst s → part_weight s ≡ 0
pays_light (Part t k) h = absurd h
pays_light s h = refl

pub pays_ready : (s : Steps) → PaysFirst s → IsReady s
pays_ready (Part t k) h = absurd h
pays_ready s h = h

-- one of two scripts, and one of two stages
either_at : (b : Bool) (p q : At) (s : Context) (k : ℕ) (kept : Kept) (g : Given) (y z : Steps) → p s k kept g ≡ y → q s k kept g ≡ z → either b p q s k kept g ≡ either b y z
either_at true p q s k kept g y z e e' = e
either_at false p q s k kept g y z e e' = e'

module _ (s : Context) (at : ℕ) (kept : Kept) (g : Given) where
  expression_begins : (l : Layer) → expressions.layer_at at l s 0 kept g ≡ expression s at l
  expression_begins (layer.Assign assign.Plain t b named) = refl
  expression_begins (layer.Binary op a b) = either_at (is_built op) _ _ s 0 kept g _ _ refl refl
  expression_begins (layer.Unary op a) = either_at (is_prefix_built op) _ _ s 0 kept g _ _ refl refl
  expression_begins (layer.Call link.Plain callee xs) = refl
  expression_begins l = refl

  statement_begins : (l : Layer) → statements.layer_at at l s 0 kept g ≡ statement s at l
  statement_begins layer.Empty = refl
  statement_begins l = refl

tree_begins : (t : Tree) (s : Context) (kept : Kept) (g : Given) → tree_at t s 0 kept g ≡ tree_row s t
tree_begins t s kept g =
    either_at (is_statement (layer_of t)) _ _ s 0 kept g _ _ (statement_begins s t.from kept g (layer_of t)) (expression_begins s t.from kept g (layer_of t))

pub built_in_pays : (b : BuiltIn) (this : Value) (args : List Value) → PaysFirst (built_in_row b this args)
built_in_pays built_in.FunctionPrototype this args = tt
built_in_pays (built_in.Error name) this args = tt
built_in_pays built_in.Print this args = tt

-- no function that is built asks for the this value
built_in_same : (b : BuiltIn) (this that : Value) (args : List Value) → built_in_row b this args ≡ built_in_row b that args
built_in_same built_in.FunctionPrototype this that args = refl
built_in_same (built_in.Error name) this that args = refl
built_in_same built_in.Print this that args = refl

-- a literal and a name end by their first step
abbrev pub operand_script : Context → Operand → Steps
operand_script c (Literal v) = give_value v
operand_script c (Name x) = name_value c x give_value

abbrev pub operand_row : Context → Operand → ℕ → Steps
operand_row c z at = Pay 0 (Change (marked c.source at) (operand_script c z))

operand_layer : (c : Context) (at : ℕ) (l : Layer) (z : Operand) → operand_in l ≡ Some z → either (is_statement l) (statement c at l) (expression c at l) ≡ operand_row c z at
operand_layer c at layer.Null z h = cc
operand_layer c at l z h = cc

module _ (read : Text → Reading) where
  pub operand_is : (c : Context) (t : Tree) (z : Operand) → operand_of t ≡ Some z → row read (Run c t) ≡ operand_row c z t.from
  operand_is c t z h = operand_layer c t.from (layer_of t) z h

  pub fresh_pays : (t : language.Work) (k : ℕ) (f : Frame) → IsFresh t k f → PaysFirst (row read t)
  fresh_pays (Run c t) k f h = tree_pays c t
  fresh_pays (Perform b this args target) k f h = built_in_pays b this args
  fresh_pays t k f h = absurd h

  -- a frame that begins a task
  pub record IsBegun (t : language.Work) (k : ℕ) (f : Frame) : Type 0 where
    pub script : script_of f Began ≡ row read t
    pub calls : f.calls ≡ k
    pub busy : is_idle f.activity ≡ false

  pub begun : (t : language.Work) (k : ℕ) (f : Frame) → IsFresh t k f → IsBegun t k f
  begun (Run c t) k f h = record {
    script = ap (λ (f : Frame). script_of f Began) h.1 ∙ tree_begins t (context_of f.context) _ Began ∙ ap (λ c. tree_row c t) h.0;
    calls = ap (λ (f : Frame). f.calls) h.1;
    busy = ap (λ (f : Frame). is_idle f.activity) h.1;
  }
  begun (Perform b this args target) k f h = record {
    script = (λ i. let k : Kept = kept_of f in at_of (h.0 i) (context_of f.context) (h.1 i) k Began) ∙ built_in_same b _ this _ ∙ ap (built_in_row b this) h.3;
    calls = h.2;
    busy = ap is_idle h.0;
  }
  begun t k f h = absurd h
