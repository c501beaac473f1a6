-- What one step of the frame on top does, against the script that the frame stands for.
use Rattle.std.specs.Prelude.{◌≡◌, ℕ, suc, Bool, true, false, List, [], ◌∷◌, Option, None, Some, is_some, map}
use Rattle.sr_ast.specs.declared.tree.Tree.{Tree}
use Rattle.sr_ast.specs.declared.tree.Element.TheOpen as layer
use Rattle.sr_ast.specs.Layer.{Layer, layer_of}
use Rattle.sr_value.specs.declared.value.Value.{Value}
use Rattle.sr_model.specs.Values as model
use Rattle.sr_model.specs.Outcomes.{Completion, Normal, Abrupt, Throw}
use Rattle.sr_model.specs.Realm.{Realm}
use Rattle.sr_model.specs.Tasks.{Context, Run, Perform, Operate}
use Rattle.sr_model.specs.Scripts.{Give, Halt, Look, Change, Part, Become, Pay, Enter, Line}
use Rattle.sr_model.specs.World.{may_enter}
use Rattle.sr_model.specs.Names.{Base, Known, Has, value_of_name}
use Rattle.sr_model.specs.Holds.{store_in}
use Rattle.sr_conv.specs.Plain.{value_of, option_of}
use Rattle.sr_state.specs.declared.frame.Context as code
use Rattle.sr_state.specs.declared.frame.Frame.{Frame}
use Rattle.sr_state.specs.declared.frame.Activity.{Activity}
use Rattle.sr_state.specs.declared.frame.Activity.TheVariants as activity
use Rattle.sr_state.specs.declared.ends.Answer.{Answer}
use Rattle.sr_state.specs.declared.ends.Answer.TheVariants as answer
use Rattle.sr_state.specs.declared.ends.Next.{Next}
use Rattle.sr_state.specs.declared.ends.Next.TheVariants as next
use Rattle.sr_state.specs.declared.ends.StopName.TheVariants as stop
use Rattle.sr_state.specs.Work as language
use Rattle.sr_realm.specs.Plain.{base_of}
use Rattle.sr_state.specs.Contexts.{context_of}
use Rattle.sr_state.specs.Ends.{completion_of, IsEnd, HaltsBy}
use Rattle.sr_state.specs.Held.{Held, Side, Outer, fresh_frame, realm_in, change_in, pay_in, begun_in, room_in, cut_in}

-- what a frame keeps between its steps: a value, a list of values, and where the name of a target is bound
pub record Kept : Type 0 where
  pub value : Option model.Value
  pub list : List model.Value
  pub base : Base

-- values as plain data
abbrev pub plain : List Value → List model.Value
plain vs = map value_of vs

abbrev pub kept_of : Frame → Kept
kept_of f = record { value = option_of f.value; list = plain f.list; base = base_of f.base }

-- what a frame is given: nothing, where its part has not begun, or the end of its part
pub data Given : Type 0 where
  Began : Given
  Ended : Completion → Given

abbrev pub given_of : Answer → Given
given_of answer.Empty = Began
given_of (answer.Done o) = Ended (completion_of o)

-- what frames of an activity stand for: a script, by the context, the stage, what is kept, and what the frame is given
abbrev pub At : Type 0
At = Context → ℕ → Kept → Given → language.Steps

-- a literal or a name, which is evaluated where it stands, with no frame of its own
pub data Operand : Type 0 where
  Literal : model.Value → Operand
  Name : model.Text → Operand

abbrev pub operand_in : Layer → Option Operand
operand_in layer.Null = Some (Literal (model.Simple model.Null))
operand_in (layer.Bool b) = Some (Literal (model.Simple (model.Truth b)))
operand_in (layer.Num n) = Some (Literal (model.Simple (model.Num n)))
operand_in (layer.Text text) = Some (Literal (model.Simple (model.Str text)))
operand_in (layer.Name x) = Some (Name x)
operand_in l = None

abbrev pub operand_of : Tree → Option Operand
operand_of t = operand_in (layer_of t)

-- the value that a name has, if it has one that is at hand
abbrev pub at_hand : Known → Option model.Value
at_hand (Has v) = Some v
at_hand k = None

-- the value that a literal or a name has now, in a context. A name has none where it throws an error or calls a getter
abbrev pub value_now : Context → Operand → Realm language.Holds → Option model.Value
value_now c (Literal v) r = Some v
value_now c (Name x) r = at_hand (value_of_name (store_in r) c.environment x)

-- the same of any tree: one that is no literal and no name has none before it is evaluated
abbrev pub operand_now : Context → Option Operand → Realm language.Holds → Option model.Value
operand_now c None r = None
operand_now c (Some z) r = value_now c z r

abbrev pub tree_now : Context → Tree → Realm language.Holds → Option model.Value
tree_now c t r = operand_now c (operand_of t) r

-- how far a step is: it was given nothing and has done nothing; it was given an end; it has paid. It pays in the first case alone
pub data Far : Type 0 where
  Fresh : Far
  Resumed : Far
  Paid : Far

abbrev pub far_of : Answer → Far
far_of answer.Empty = Fresh
far_of (answer.Done o) = Resumed

-- a frame that begins a task with k active calls
abbrev pub IsFresh : language.Work → ℕ → Frame → Type 0
IsFresh (Run c tree) k f = (context_of f.context ≡ c) × (f ≡ fresh_frame (activity.Tree tree) f.context k [])
IsFresh (Perform b this args target) k f = (f.activity ≡ activity.BuiltIn b) × (f.stage ≡ 0) × (f.calls ≡ k) × (let x = kept_of f in x.list ≡ args)
IsFresh t k f = ⊥

-- one or the other, by a test
abbrev pub Where : Bool → Type 0 → Type 0 → Type 0
Where true A B = A
Where false A B = B

-- the run is over
abbrev pub Stops : Next → Outer → Side → Next → Held → Type 0
Stops why o x n new = (n ≡ why) × (new.side ≡ x) × (new.outer ≡ o)

-- a charge: the cut and the bound are tested, and where it is paid A holds
abbrev pub Charged : ℕ → Outer → Side → Next → Held → Type 0 → Type 0
Charged c o x n new A = Where (cut_in o x) (Stops next.CutOff o x n new) (Where (room_in o.bound x c) A (Stops (next.Halt (stop.Steps x.used c)) o x n new))

-- of the script that the frame f stands for with k active calls, by what it is given, this holds
abbrev pub Stay : Type 1
Stay = ℕ → Frame → Given → (language.Steps → Type 0) → Type 0

-- it is this script; and it is a part and what follows its end
abbrev pub Is : language.Steps → language.Steps → Type 0
Is s y = y ≡ s

abbrev pub IsPart : language.Work → (Completion → language.Steps) → language.Steps → Type 0
IsPart t s (Part u j) = (u ≡ t) × ((e : Completion) → j e ≡ s e)
IsPart t s y = ⊥

-- what a step of a frame above others leaves beside the frame: the side x, and no answer
abbrev pub Left : Outer → Side → Held → Type 0
Left o x new = (new.side ≡ x) × (new.answer ≡ answer.Empty) × (new.outer ≡ o)

-- the frame on top goes on by a script of which this holds, with the same frames under it
abbrev pub Goes : Stay → List Frame → Outer → Side → ℕ → (language.Steps → Type 0) → Next → Held → Type 0
Goes stays under o x k P n new = (n ≡ next.Going) × Left o x new × stays k new.top Began P × (new.frames ≡ under)

-- a fact of the first of some frames, and of those below it
abbrev pub OnOne : List Frame → (Frame → List Frame → Type 0) → Type 0
OnOne [] P = ⊥
OnOne (f ∷ fs) P = P f fs

-- a frame for the part is on top, and the one that waits for its end below it
abbrev pub Begins : Stay → List Frame → Outer → Side → ℕ → language.Work → (Completion → language.Steps) → Next → Held → Type 0
Begins stays under o x k t s n new =
    (n ≡ next.Going) × Left o x new × IsFresh t k new.top
    × OnOne new.frames (λ f fs. ((e : Completion) → stays k f (Ended e) (Is (s e))) × (fs ≡ under))

-- the frame on top goes on as another task
abbrev pub Becomes : List Frame → Outer → Side → ℕ → language.Work → Next → Held → Type 0
Becomes under o x k t n new = (n ≡ next.Going) × Left o x new × IsFresh t k new.top × (new.frames ≡ under)

-- one or the other, by whether there is a value
abbrev pub on_value : Option model.Value → (model.Value → Type 0) → Type 0 → Type 0
on_value None evaluates begins = begins
on_value (Some v) evaluates begins = evaluates v

-- a part that has a value now is evaluated by a step that begins with it. A step that comes later to a literal or a name ends there.
-- For any other part a frame is made
abbrev pub on_part : Context → Tree → Realm language.Holds → Far → (model.Value → Type 0) → Type 0 → Type 0 → Type 0
on_part c t r Fresh evaluates stays begins = on_value (tree_now c t r) evaluates begins
on_part c t r b evaluates stays begins = Where (is_some (operand_of t)) stays begins

-- a step pays only as it begins: where it comes to a payment later it ends, and the frame stands for the rest
abbrev pub on_pay : Far → Type 0 → Type 0 → Type 0
on_pay Fresh pays stays = pays
on_pay b pays stays = stays

-- a step prints only after it has paid
abbrev pub on_line : Far → Type 0 → Type 0
on_line Paid prints = prints
on_line b prints = ⊥

-- what a step does that goes on with a task other than a tree
abbrev pub Further : Type 1
Further = Far → Side → ℕ → language.Operation → Next → Held → Type 0

-- A step goes on with a script. stays tells of frames that are put back, and the frames under it stand below; x is the side so far, and
-- k counts the active calls. No step goes on with a script of what joins realms
abbrev pub goes : Further → Far → language.Steps → Stay → List Frame → Outer → Side → ℕ → Next → Held → Type 0
goes m b (Give y) stays under o x k n new = (n ≡ next.Ended) × IsEnd new.answer y × (new.side ≡ x) × (new.outer ≡ o) × (new.frames ≡ under)
goes m b (Halt y) stays under o x k n new = HaltsBy n y × (new.side ≡ x) × (new.outer ≡ o)
goes m b (Look f) stays under o x k n new = goes m b (f (realm_in x)) stays under o x k n new
goes m b (Change f s) stays under o x k n new = goes m b s stays under o (change_in f x) k n new
goes m b (Pay c s) stays under o x k n new =
    on_pay b (Charged (suc c) o x n new (goes m Paid s stays under o (pay_in (suc c) x) k n new)) (Goes stays under o x k (Is (Pay c s)) n new)
goes m b (Enter s) stays under o x k n new =
    on_pay b (Where (may_enter k) (Charged 1 o x n new (goes m Paid s stays under o (pay_in 1 x) (suc k) n new)) (Stops (next.Halt stop.CallDepth) o x n new))
    (Goes stays under o x k (Is (Enter s)) n new)
goes m b (Line text s) stays under o x k n new =
    on_line b ((n ≡ next.Print text) × Left o x new × ((e : Completion) → stays k new.top (Ended e) (Is s)) × (new.frames ≡ under))
goes m b (Part (Run c t) s) stays under o x k n new =
    on_part c t (realm_in x) b
    (λ v. Charged 1 o x n new (goes m Paid (s (Normal (Some v))) stays under o (begun_in c.source t.from x) k n new))
    (Goes stays under o x k (IsPart (Run c t) s) n new)
    (Begins stays under o x k (Run c t) s n new)
goes m b (Part t s) stays under o x k n new = Begins stays under o x k t s n new
goes m b (Become (Operate z)) stays under o x k n new = m b x k z n new
goes m b (Become t) stays under o x k n new = Becomes under o x k t n new
goes m b s stays under o x k n new = ⊥

-- no step goes on with a second such task
abbrev pub nowhere : Further
nowhere b x k z n new = ⊥

-- what such tasks do
abbrev pub Rows : Type 0
Rows = language.Operation → language.Steps

abbrev pub further : Rows → Stay → List Frame → Outer → Further
further rows stays under o b x k z n new = goes nowhere b (rows z) stays under o x k n new

-- a frame of this activity, in a context, stands for what at says
abbrev pub Stays : At → Activity → code.Context → Stay
Stays at what context k f g P = (f.activity ≡ what) × (f.context ≡ context) × (f.calls ≡ k) × P (at (context_of context) f.stage (kept_of f) g)

-- the same of a frame that may get another context
abbrev pub StaysAnywhere : At → Activity → Stay
StaysAnywhere at what k f g P = (f.activity ≡ what) × (f.calls ≡ k) × P (at (context_of f.context) f.stage (kept_of f) g)

-- from old, a step of the frame on top goes on with what at says. stays tells how a frame that is put back goes on, and rows what further
-- tasks do
abbrev pub StepsFor : Stay → Rows → At → Held → Next → Held → Type 0
StepsFor stays rows at old n new =
    (let f = old.top in
    goes (further rows stays old.frames old.outer) (far_of old.answer) (at (context_of f.context) f.stage (kept_of f) (given_of old.answer)) stays old.frames old.outer old.side f.calls n new)

-- the frame on top does what at says
abbrev pub StepsWith : Rows → At → Held → Next → Held → Type 0
StepsWith rows at old n new = (let f = old.top in StepsFor (Stays at f.activity f.context) rows at old n new)

-- the same of a frame that may get another context
abbrev pub StepsAnywhere : Rows → At → Held → Next → Held → Type 0
StepsAnywhere rows at old n new = (let f = old.top in StepsFor (StaysAnywhere at f.activity) rows at old n new)

-- the same as the first where no further task comes
abbrev pub StepsBy : At → Held → Next → Held → Type 0
StepsBy at old n new = (rows : Rows) → StepsWith rows at old n new
