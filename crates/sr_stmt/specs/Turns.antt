-- A device of the proof: what the calls that several statements use leave of a step.
use Rattle.std.specs.Prelude.{◌≡◌, ◌⊎◌, ℕ, suc, Bool, true, false, List, ◌∷◌, drop, Option, None, Some, Result, Ok, Err}
use Rattle.std.specs.Option.{option_copied}
use Rattle.sr_ast.specs.declared.tree.Tree.{Tree}
use Rattle.sr_ast.specs.declared.tree.Declaration.{Declaration, out-Declaration}
use Rattle.sr_ast.specs.Script.{Script}
use Rattle.sr_ast.specs.declared.reading.Reading.{Reading}
use Rattle.sr_ast.specs.declared.reading.Reading.TheVariants as reading
use Rattle.sr_ast.specs.declared.refused.Refused.{Refused}
use Rattle.sr_ast.specs.declared.refused.Refused.TheVariants as refused
use Rattle.sr_value.specs.declared.value.Value.{Value}
use Rattle.sr_model.specs.Outcomes.{Normal}
use Rattle.sr_model.specs.Scripts.{Give}
use Rattle.sr_model.specs.Holds.{next_source}
use Rattle.sr_model.specs.Names.{Acceptance, Accepted, Clash, Closed, accept_answer, with_source, accepted, base_of}
use Rattle.sr_model.specs.Tasks.{Context}
use Rattle.sr_realm.specs.declared.names.Base as code
use Rattle.sr_realm.specs.Plain as plain
use Rattle.sr_realm.specs.Errors.{syntax_error, declaration_error, type_error}
use Rattle.sr_state.specs.Contexts.{context_of}
use Rattle.sr_state.specs.Work.{Loop}
use Rattle.sr_state.specs.declared.ends.Completion.TheVariants as completion
use Rattle.sr_state.specs.declared.ends.Next.{Next}
use Rattle.sr_state.specs.declared.ends.Next.TheVariants as next
use Rattle.sr_state.specs.declared.ends.Over.{Over}
use Rattle.sr_state.specs.declared.ends.Over.TheVariants as over
use Rattle.sr_state.specs.declared.ends.StopName.TheVariants as stop
use Rattle.sr_state.specs.Held.{Held, realm_in, with_side, basing, placed, staged, keeping, store_as, stored_in}
use Rattle.sr_state.specs.Lists.{Here}
use Rattle.sr_state.specs.Parts.{Resumes, BeginsPart, EndsWith, Throws}
use Rattle.sr_state.specs.Step.{At}
use Rattle.sr_stmt.specs.declared.loops.Looping.{Looping}
use Rattle.sr_stmt.specs.declared.variables.Initializer.{Initializer}
use Rattle.sr_stmt.specs.Rows.{declare, declarations}
use Rattle.sr_stmt.specs.Stages.{loop_at}

-- the parts of a loop, and what a frame of it stands for
abbrev pub loop_of : Looping → Loop
loop_of p = record { test = option_copied p.test; update = option_copied p.update; body = p.body.now }

abbrev pub turn_at : Looping → At
turn_at p = loop_at p.at p.body_first (option_copied p.first) (loop_of p)

-- a part whose value is kept, where it has one
abbrev pub Keeps : Tree → Held → Result (Unit {0}) Over → Held → Type 0
Keeps t old (Ok u) new =
    Resumes t old (Ok None) new
    ⊎ ((v : Value) × (mid : Held) × Resumes t old (Ok (Some v)) mid × (new ≡ keeping (Some v) mid))
Keeps t old (Err e) new = Resumes t old (Err e) new

-- the condition of a loop is next, or the body where it has none
abbrev pub ToTest : Option Tree → Tree → Held → Next → Held → Type 0
ToTest (Some t) body old n new = BeginsPart t (staged 1 old) n new
ToTest None body old n new = BeginsPart body (staged 2 old) n new

-- the first turn of a loop is next
abbrev pub BeginsTurns : Bool → Loop → Held → Next → Held → Type 0
BeginsTurns true l old n new = BeginsPart l.body (staged 2 old) n new
BeginsTurns false l old n new = ToTest l.test l.body old n new

-- the next statement, at which the frame is at this stage, or the end with the value so far
abbrev pub Continues : ℕ → Option Tree → Held → Next → Held → Type 0
Continues stage (Some t) old n new = BeginsPart t (staged stage old) n new
Continues stage None old n new = (let f = old.top in EndsWith (completion.Normal f.value) (keeping None old) n new)

-- the statement that is under way, and then the next one
abbrev pub Statement : Option Tree → Option Tree → Held → Next → Held → Type 0
Statement None next old n new = Continues 0 None old n new
Statement (Some t) next old n new =
    Keeps t old (Err (over.Next n)) new ⊎ ((mid : Held) × Keeps t old (Ok tt) mid × (let f = mid.top in Continues (suc f.stage) next mid n new))

-- those from a place on do what those from a later place on do, which begin with one that has a value; or there is none
abbrev pub IsNext : Context → ℕ → List Declaration → Option Initializer → Type 0
IsNext c from ds None = declare c (drop from ds) ≡ Give (Normal None)
IsNext c from ds (Some v) =
    ((d : Declaration) × (drop v.place ds ≡ d ∷ drop (suc v.place) ds) × (let o = out-Declaration d in (o.value ≡ Some v.value.now) × (o.name ≡ v.name.now)))
    × (declare c (drop from ds) ≡ declare c (drop v.place ds))

-- a value is next, and the frame keeps where its name is bound; or where there is none the end
abbrev pub begins : Option Initializer → Held → Next → Held → Type 0
begins None old n new = EndsWith (completion.Normal None) old n new
begins (Some v) old n new =
    (let f = old.top in let c = context_of f.context in
    (b : code.Base) × (plain.base_of b ≡ base_of (stored_in old.side) c.environment v.name.now) × BeginsPart v.value.now (staged (suc v.place) (basing b old)) n new)

-- the first value from a place on is next, or the end
abbrev pub BeginsValue : ℕ → List Declaration → Held → Next → Held → Type 0
BeginsValue from ds old n new = (let f = old.top in (found : Option Initializer) × IsNext (context_of f.context) from ds found × begins found old n new)

-- after the source of a script is kept, with its names where nothing hinders it
abbrev pub accepted_in : List ℕ → Script → Held → Held
accepted_in text x h = with_side h (store_as (accepted (declarations x) text (stored_in h.side)) h.side)

-- and what comes of its names
abbrev pub acceptance_in : List ℕ → Script → Held → Acceptance
acceptance_in text x h = accept_answer (declarations x) (with_source text (stored_in h.side))

-- its first statement is next, in the context of the script; or an error is thrown
abbrev pub Evaluates : ℕ → Script → Acceptance → Held → Next → Held → Type 0
Evaluates source x Accepted old n new =
    (first : Option Tree) × Here 0 x.body first × Continues 2 first (keeping None (placed (record { source = source; strict = false; environment = None }) old)) n new
Evaluates source x Clash old n new = Throws declaration_error old n new
Evaluates source x Closed old n new = Throws type_error old n new

abbrev pub Accepts : List ℕ → Script → Held → Next → Held → Type 0
Accepts text x old n new = Evaluates (next_source (realm_in old.side)) x (acceptance_in text x old) (accepted_in text x old) n new

-- what is no script ends by a SyntaxError or by a stop
abbrev pub Refuses : Refused → Held → Next → Held → Type 0
Refuses (refused.Syntax at) old n new = Throws (syntax_error at) old n new
Refuses (refused.Unsupported marker at) old n new = (n ≡ next.Halt (stop.Unsupported marker at)) × (new ≡ old)
Refuses refused.TooDeep old n new = (n ≡ next.Halt stop.SyntaxDepth) × (new ≡ old)

abbrev pub Reads : List ℕ → Reading → Held → Next → Held → Type 0
Reads text (reading.Script x) old n new = Accepts text x old n new
Reads text (reading.Refused why) old n new = Refuses why old n new
