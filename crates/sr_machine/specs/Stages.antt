-- A device of the proof: what a frame stands for, by what it carries out.
use Rattle.sr_ast.specs.Layer.{layer_of}
use Rattle.sr_ast.specs.declared.tree.Tree.{Tree}
use Rattle.sr_model.specs.Scripts.{Give}
use Rattle.sr_model.specs.Holds.{either}
use Rattle.sr_state.specs.declared.frame.Activity.{Activity}
use Rattle.sr_state.specs.declared.frame.Activity.TheVariants as activity
use Rattle.sr_state.specs.declared.frame.Frame.{Frame}
use Rattle.sr_state.specs.declared.ends.Next.{Next}
use Rattle.sr_state.specs.Held.{Held}
use Rattle.sr_state.specs.Contexts.{context_of}
use Rattle.sr_state.specs.Step.{At, Given, Began, Ended, kept_of, StepsWith, StepsBy, StepsAnywhere}
use Rattle.sr_state.specs.Work.{Steps}
use Rattle.sr_expr.specs.Stages.{expression_at}
use Rattle.sr_stmt.specs.Rows.{is_statement, operation}
use Rattle.sr_stmt.specs.Stages.{statement_at, source_at}
use Rattle.sr_call.specs.Stages.{built_in_at}
use Rattle.sr_machine.specs.Language.{nothing}

abbrev pub tree_at : Tree → At
tree_at t = either (is_statement (layer_of t)) (statement_at t) (expression_at t)

-- an idle frame passes on what it is given
abbrev pub passed : Given → Steps
passed Began = nothing
passed (Ended o) = Give o

abbrev pub at_of : Activity → At
at_of activity.Idle s n kept g = passed g
at_of (activity.Tree t) s n kept g = tree_at t s n kept g
at_of (activity.Source x) s n kept g = source_at x s n kept g
at_of (activity.BuiltIn b) s n kept g = built_in_at b s n kept g

-- the script that a frame stands for, by what it is given
abbrev pub script_of : Frame → Given → Steps
script_of f g = at_of f.activity (context_of f.context) f.stage (kept_of f) g

-- from old, a step of the frame on top, which carries out this
abbrev pub StepsOf : Activity → Held → Next → Held → Type 0
StepsOf activity.Idle old n new = ⊥
StepsOf (activity.Tree t) old n new = StepsWith operation (tree_at t) old n new
StepsOf (activity.Source x) old n new = StepsAnywhere operation (source_at x) old n new
StepsOf (activity.BuiltIn b) old n new = StepsBy (built_in_at b) old n new

abbrev pub FrameSteps : Held → Next → Held → Type 0
FrameSteps old n new = StepsOf old.top.activity old n new
