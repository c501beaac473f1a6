-- The language that is built: its rows, put together from those of the expressions, the statements and the built-in functions.
use Rattle.std.specs.Prelude.{None, false, length}
use Rattle.sr_ast.specs.declared.tree.Tree.{Tree}
use Rattle.sr_ast.specs.Layer.{layer_of}
use Rattle.sr_ast.specs.declared.reading.Reading.{Reading}
use Rattle.sr_ast.specs.declared.reading.SourceCode.{SourceCode}
use Rattle.sr_model.specs.Values.{Text, Value}
use Rattle.sr_model.specs.Outcomes.{Normal}
use Rattle.sr_model.specs.Events.{Message, Source, Evaluate, Import, Call, Settle, Turn}
use Rattle.sr_model.specs.Tasks.{Context, Run, RunLabelled, Apply, Construct, Perform, Convert, Operate, Read}
use Rattle.sr_model.specs.Tasks as tasks
use Rattle.sr_model.specs.Scripts.{Give, Language}
use Rattle.sr_model.specs.Realm.{Realm}
use Rattle.sr_model.specs.Holds.{either, store_in}
use Rattle.sr_realm.specs.Reports.{object_report}
use Rattle.sr_state.specs.Work.{Holds, Work, Steps, born}
use Rattle.sr_expr.specs.Rows.{expression}
use Rattle.sr_stmt.specs.Rows.{is_statement, statement, operation, source}
use Rattle.sr_call.specs.Rows.{built_in_row}
use Rattle.sr_conv.specs.Reports.{report}

-- the row of a tree: a statement that is built, or any other tree by the table of the expressions, which says what is not built
abbrev pub tree_row : Context → Tree → Steps
tree_row c t = either (is_statement (layer_of t)) (statement c t.from (layer_of t)) (expression c t.from (layer_of t))

-- what is not built ends at once
abbrev pub nothing : Steps
nothing = Give (Normal None)

-- what is told of a value that a realm throws
abbrev pub throw_report : Realm Holds → Value → Text
throw_report r v = (let s = store_in r in report (object_report s.objects) v)

-- read gives what a text is as it is read
abbrev pub source_of : (Text → Reading) → Text → SourceCode
source_of read text = record { reading = read text; units = length text }

module _ (read : Text → Reading) where
  -- the work of a message
  abbrev pub work_row : Message → Steps
  work_row (Source goal name text) = source text (source_of read text)
  work_row (Evaluate text) = nothing
  work_row (Import specifier name) = nothing
  work_row (Call export args this) = nothing
  work_row (Settle n o) = nothing
  work_row Turn = nothing

  -- the row of a task
  abbrev pub row : Work → Steps
  row (Run c t) = tree_row c t
  row (Perform b this args target) = built_in_row b this args
  row (Operate z) = operation z
  row (tasks.Work m) = work_row m
  row (Apply f this args) = nothing
  row (Construct f args target) = nothing
  row (Convert to v) = nothing
  row (Read goal text) = nothing
  row (RunLabelled c labels t) = nothing

  -- the language
  abbrev pub language : Language Work Holds
  language = record { row = row; work = tasks.Work; born = born; readable = λ text. false; report = throw_report }
