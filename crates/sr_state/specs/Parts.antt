-- What the calls that all rows use leave of a step.
use Rattle.std.specs.Prelude.{◌≡◌, ◌⊎◌, ◌++◌, ◌/◌, ℕ, suc, true, false, nat_le, List, [], ◌∷◌, length, Option, None, Some, Result, Ok, Err}
use Rattle.sr_ast.specs.declared.tree.Tree.{Tree}
use Rattle.sr_value.specs.declared.value.Value.{Value}
use Rattle.sr_value.specs.declared.value.Value.TheVariants as value
use Rattle.sr_model.specs.Values as model
use Rattle.sr_model.specs.Outcomes.{Stop}
use Rattle.sr_model.specs.World.{may_enter}
use Rattle.sr_conv.specs.Plain.{value_of, option_of}
use Rattle.sr_conv.specs.Operators.{Operated, Gives, Joins, Halts, Rejects}
use Rattle.sr_tag.specs.Reference.{Reference}
use Rattle.sr_value.specs.Plain.{number_of}
use Rattle.sr_heap.specs.Plain.{scope_of}
use Rattle.sr_model.specs.Holds.{next_object, next_environment}
use Rattle.sr_realm.specs.Errors.{ErrorParts, with_error, type_error}
use Rattle.sr_intrin.specs.declared.names.BuiltIn.{BuiltIn}
use Rattle.sr_state.specs.declared.frame.Frame.{Frame}
use Rattle.sr_state.specs.declared.frame.Activity.TheVariants as activity
use Rattle.sr_state.specs.declared.ends.Abrupt.{Abrupt}
use Rattle.sr_state.specs.declared.ends.Abrupt.TheVariants as abrupt
use Rattle.sr_state.specs.declared.ends.Completion.{Completion}
use Rattle.sr_state.specs.declared.ends.Completion.TheVariants as completion
use Rattle.sr_state.specs.declared.ends.Answer.TheVariants as answer
use Rattle.sr_state.specs.declared.ends.Next.{Next}
use Rattle.sr_state.specs.declared.ends.Next.TheVariants as next
use Rattle.sr_state.specs.declared.ends.Over.{Over}
use Rattle.sr_state.specs.declared.ends.Over.TheVariants as over
use Rattle.sr_state.specs.declared.ends.StopName.TheVariants as stop
use Rattle.sr_model.specs.Names.{Known, Write, write, write_answer, with_scope}
use Rattle.sr_realm.specs.Plain as plain
use Rattle.sr_state.specs.Errors.{Raises, NotBuilt, value_or_failure, write_or_failure}
use Rattle.sr_state.specs.Contexts.{context_of}
use Rattle.sr_state.specs.Ends.{HaltsBy}
use Rattle.sr_state.specs.Held.{Held, Side, fresh_frame, no_source, store_as, stored_in, realm_in, pay_in, begun_in, room_in, cut_in, with_side, answered, staged, keeping, placed, topped, deeper, above}
use Rattle.sr_state.specs.Step.{Operand, operand_of, tree_now}
use Rattle.sr_state.specs.Trees.{value_in, text_in, text_limit, text_cost}

-- the bound has room for a charge, and no cut is next
abbrev pub IsPayable : ℕ → Held → Type 0
IsPayable c h = (let o = h.outer in (cut_in o h.side ≡ false) × (room_in o.bound h.side c ≡ true))

-- a charge is refused: a cut is next, or the bound has no room for it
abbrev pub IsRefused : ℕ → Held → Next → Type 0
IsRefused c h n =
    (let o = h.outer in let x = h.side in
    ((cut_in o x ≡ true) × (n ≡ next.CutOff)) ⊎ ((cut_in o x ≡ false) × (room_in o.bound x c ≡ false) × (n ≡ next.Halt (stop.Steps x.used c))))

-- the state without its answer
abbrev pub emptied : Held → Held
emptied h = answered answer.Empty h

-- a step begins: one that was given an end is over
abbrev pub Starts : Held → Result (Unit {0}) Next → Held → Type 0
Starts old (Ok u) new = (old.answer ≡ answer.Empty) × (new ≡ emptied old)
Starts old (Err n) new = (o : Completion) × (old.answer ≡ answer.Done o) × (n ≡ next.Going) × (new ≡ emptied old)

-- a charge, after which the side is the one that f makes: paid, or the step is over
abbrev pub Spends : ℕ → (Side → Side) → Held → Result (Unit {0}) Next → Held → Type 0
Spends c f old (Ok u) new = IsPayable c old × (new ≡ with_side old (f old.side))
Spends c f old (Err n) new = IsRefused c old n × (new ≡ old)

-- the same as a step begins
abbrev pub Paying : ℕ → (Side → Side) → Held → Result (Unit {0}) Next → Held → Type 0
Paying c f old (Ok u) new = (old.answer ≡ answer.Empty) × IsPayable c old × (new ≡ with_side (emptied old) (f old.side))
Paying c f old (Err n) new = Starts old (Err n) new ⊎ ((old.answer ≡ answer.Empty) × IsRefused c old n × (new ≡ emptied old))

-- the entry of a function is refused: one call more is too many, or its step cannot be paid
abbrev pub IsShut : Held → Next → Type 0
IsShut h n = (let f = h.top in ((may_enter f.calls ≡ false) × (n ≡ next.Halt stop.CallDepth)) ⊎ ((may_enter f.calls ≡ true) × IsRefused 1 h n))

-- the entry of a function as a step begins: it is entered, or the step is over
abbrev pub Enters : Held → Result (Unit {0}) Next → Held → Type 0
Enters old (Ok u) new =
    (let f = old.top in (old.answer ≡ answer.Empty) × (may_enter f.calls ≡ true) × IsPayable 1 old × (new ≡ deeper (with_side (emptied old) (pay_in 1 old.side))))
Enters old (Err n) new = Starts old (Err n) new ⊎ ((old.answer ≡ answer.Empty) × IsShut old n × (new ≡ emptied old))

-- a frame of a part of what a frame carries out
abbrev pub part_frame : Tree → Frame → Frame
part_frame t f = fresh_frame (activity.Tree t) f.context f.calls []

-- such a frame above the one on top, and in its place
abbrev pub part_begun : Tree → Held → Held
part_begun t h = above (part_frame t h.top) h

abbrev pub Becomes : Tree → Held → Next → Held → Type 0
Becomes t old n new = (n ≡ next.Going) × (new ≡ topped (part_frame t old.top) old)

-- the state once a literal or a name of the frame on top has paid its step
abbrev pub operand_paid : Tree → Held → Held
operand_paid t h = (let f = h.top in with_side h (let c = f.context in begun_in c.source t.from h.side))

-- the value that a tree has now, in the context of the frame on top
abbrev pub value_now : Tree → Held → Option model.Value
value_now t h = (let f = h.top in tree_now (context_of f.context) t (realm_in h.side))

-- what came of a part that begins a step: one that has a value now pays its step, and for any other a frame is made
abbrev pub Opens : Tree → Held → Result Value Over → Held → Type 0
Opens t old (Ok v) new = (value_now t old ≡ Some (value_of v)) × IsPayable 1 old × (new ≡ operand_paid t old)
Opens t old (Err (over.Next n)) new =
    ((value_now t old ≡ None) × (n ≡ next.Going) × (new ≡ part_begun t old))
    ⊎ ((v : model.Value) × (value_now t old ≡ Some v) × IsRefused 1 old n × (new ≡ old))
Opens t old (Err over.Memory) new = Unit {0}

-- what came of a part: it had ended, or it begins
abbrev pub Resumes : Tree → Held → Result (Option Value) Over → Held → Type 0
Resumes t old (Ok v) new =
    ((old.answer ≡ answer.Done (completion.Normal v)) × (new ≡ emptied old))
    ⊎ ((w : Value) × (v ≡ Some w) × (old.answer ≡ answer.Empty) × Opens t (emptied old) (Ok w) new)
Resumes t old (Err (over.Next n)) new =
    ((x : Abrupt) × (old.answer ≡ answer.Done (completion.Abrupt x)) × (n ≡ next.Ended) × (new ≡ answered (answer.Done (completion.Abrupt x)) old))
    ⊎ ((old.answer ≡ answer.Empty) × Opens t (emptied old) (Err (over.Next n)) new)
Resumes t old (Err over.Memory) new = Unit {0}

-- the same of a part by its value
abbrev pub ResumesValue : Tree → Held → Result Value Over → Held → Type 0
ResumesValue t old (Ok w) new = (v : Option Value) × (value_of w ≡ value_in (option_of v)) × Resumes t old (Ok v) new
ResumesValue t old (Err e) new = Resumes t old (Err e) new

-- a part that comes later in a step: a frame is made for it, but for a literal or a name, before which the step ends
abbrev pub BeginsPart : Tree → Held → Next → Held → Type 0
BeginsPart t old n new =
    (n ≡ next.Going)
    × (((operand_of t ≡ None) × (new ≡ part_begun t old)) ⊎ ((z : Operand) × (operand_of t ≡ Some z) × (new ≡ old)))

-- the charge of a tree, and its first part, at which the frame is at stage 1
abbrev pub BeginsWith : ℕ → Tree → Held → Next → Held → Type 0
BeginsWith at t old n new =
    (let f = old.top in let c = f.context in
    Paying 1 (begun_in c.source at) old (Err n) new
    ⊎ ((mid : Held) × Paying 1 (begun_in c.source at) old (Ok tt) mid × BeginsPart t (staged 1 mid) n new))

-- the end of the frame on top
abbrev pub EndsWith : Completion → Held → Next → Held → Type 0
EndsWith o old n new = (n ≡ next.Ended) × (new ≡ answered (answer.Done o) old)

-- the error that is thrown where an error object is not built
abbrev pub no_error : Completion
no_error = completion.Abrupt (abrupt.Throw value.Undefined)

-- the frame on top ends by the throw of a new error
abbrev pub Throws : ErrorParts → Held → Next → Held → Type 0
Throws e old n new =
    (v : Value) × (value_of v ≡ model.Object (next_object (realm_in old.side)))
    × EndsWith (completion.Abrupt (abrupt.Throw v)) (with_side old (store_as (with_error e (stored_in old.side)) old.side)) n new

-- a name gave a value; or the frame on top ended, since it has none that is at hand
abbrev pub Uses : model.Text → Known → Held → Result Value Over → Held → Type 0
Uses x k old (Ok v) new = (value_or_failure x k ≡ Ok (value_of v)) × (new ≡ old)
Uses x k old (Err (over.Next n)) new =
    ((e : ErrorParts) × (value_or_failure x k ≡ Err (Raises e)) × Throws e old n new)
    ⊎ ((value_or_failure x k ≡ Err NotBuilt) × EndsWith no_error old n new)
Uses x k old (Err over.Memory) new = Unit {0}

-- the frame on top goes on in an environment inside that of its context, in which these names have no value yet; where there are none it
-- stays in its own
abbrev pub EntersScope : List model.Text → Held → Held → Type 0
EntersScope [] old new = new ≡ old
EntersScope (x ∷ xs) old new =
    (let f = old.top in let c = f.context in
    (r : Reference) × (number_of r ≡ next_environment (realm_in old.side))
    × (new ≡ placed (record c { environment = Some r }) (with_side old (store_as (with_scope (scope_of c.environment) (x ∷ xs) (stored_in old.side)) old.side))))

-- a name took a value; or the frame on top ended, since it takes none
abbrev pub Checks : model.Text → Write → Held → Result (Unit {0}) Over → Held → Type 0
Checks x w old (Ok u) new = (write_or_failure x w ≡ Ok tt) × (new ≡ old)
Checks x w old (Err (over.Next n)) new =
    ((e : ErrorParts) × (write_or_failure x w ≡ Err (Raises e)) × Throws e old n new)
    ⊎ ((write_or_failure x w ≡ Err NotBuilt) × EndsWith no_error old n new)
Checks x w old (Err over.Memory) new = Unit {0}

-- the state after a write of a name that is bound where the frame on top keeps it, and what comes of the write
abbrev pub written_in : model.Text → Value → Held → Held
written_in x v h = (let f = h.top in let c = f.context in with_side h (store_as (write c.strict (stored_in h.side) (plain.base_of f.base) x (value_of v)) h.side))

abbrev pub answer_in : model.Text → Value → Held → Write
answer_in x v h = (let f = h.top in let c = f.context in write_answer c.strict (stored_in h.side) (plain.base_of f.base) x (value_of v))

-- the name has the value now; or the frame on top ended, since the name does not take it
abbrev pub PutsName : model.Text → Value → Held → Result (Unit {0}) Over → Held → Type 0
PutsName x v old (Ok u) new = (write_or_failure x (answer_in x v old) ≡ Ok tt) × (new ≡ written_in x v old)
PutsName x v old (Err e) new = Checks x (answer_in x v old) (written_in x v old) (Err e) new

-- what a string of so many code units costs: one step more than this number, or none
abbrev pub IsCost : ℕ → Option ℕ → Type 0
IsCost n None = n / 256 ≡ 0
IsCost n (Some c) = n / 256 ≡ suc c

-- a string that was made: it costs nothing, or it is kept, and the frame waits at a stage at which it is paid
abbrev pub Makes : ℕ → model.Text → Held → Result model.Text Next → Held → Type 0
Makes stage text old (Ok s) new = (text_cost text ≡ 0) × (s ≡ text) × (new ≡ old)
Makes stage text old (Err n) new =
    (c : ℕ) × (v : Value) × (text_cost text ≡ suc c) × (value_of v ≡ model.Simple (model.Str text)) × (n ≡ next.Going) × (new ≡ keeping (Some v) (staged stage old))

-- a string that waits is paid for. One that costs nothing never waits
abbrev pub PaysFor : ℕ → Held → Result (Unit {0}) Next → Held → Type 0
PaysFor units old (Ok u) new = (c : ℕ) × (units / 256 ≡ suc c) × Paying (suc c) (pay_in (suc c)) old (Ok u) new
PaysFor units old (Err n) new =
    ((units / 256 ≡ 0) × EndsWith no_error old n new) ⊎ ((c : ℕ) × (units / 256 ≡ suc c) × Paying (suc c) (pay_in (suc c)) old (Err n) new)

-- what an operator came to, where the step is over: it is refused, it stops the run, the string that it joins is too long, or it waits
-- to be paid
abbrev pub Fails : ℕ → Operated → Held → Next → Held → Type 0
Fails stage w old n new =
    ((w ≡ Rejects) × Throws type_error old n new)
    ⊎ (((y : Stop) × (w ≡ Halts y) × HaltsBy n y × (new ≡ old))
    ⊎ (((s t : model.Text) × (w ≡ Joins s t) × (nat_le (length (s ++ t)) text_limit ≡ false) × (n ≡ next.Halt stop.StringLength) × (new ≡ old))
    ⊎ ((s t : model.Text) × (w ≡ Joins s t) × (nat_le (length (s ++ t)) text_limit ≡ true) × Makes stage (s ++ t) old (Err n) new)))

-- the value that it came to; a string that it joined costs nothing
abbrev pub IsResult : Operated → Value → Type 0
IsResult w v =
    (w ≡ Gives (value_of v))
    ⊎ ((s t : model.Text) × (w ≡ Joins s t) × (nat_le (length (s ++ t)) text_limit ≡ true) × (text_cost (s ++ t) ≡ 0) × (value_of v ≡ model.Simple (model.Str (s ++ t))))

abbrev pub Operates : ℕ → Operated → Held → Result Value Over → Held → Type 0
Operates stage w old (Ok v) new = IsResult w v × (new ≡ old)
Operates stage w old (Err (over.Next n)) new = Fails stage w old n new
Operates stage w old (Err over.Memory) new = Unit {0}

-- the value that the frame on top keeps
abbrev pub kept_in : Held → model.Value
kept_in h = (let f = h.top in value_in (option_of f.value))

-- a string that is kept is paid for
abbrev pub PaysKept : Held → Result Value Next → Held → Type 0
PaysKept old (Ok v) new =
    (value_of v ≡ kept_in old) × (mid : Held) × PaysFor (length (text_in (kept_in old))) old (Ok tt) mid × (new ≡ keeping None mid)
PaysKept old (Err n) new = PaysFor (length (text_in (kept_in old))) old (Err n) new

-- the frame on top goes on as a call of a built-in function
abbrev pub performing : BuiltIn → Held → Held
performing b h = (let f = h.top in topped (fresh_frame (activity.BuiltIn b) no_source f.calls f.list) h)
