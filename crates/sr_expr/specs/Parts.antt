-- A device of the proof: what the calls that several expressions use leave of a step.
use Rattle.std.specs.Prelude.{◌≡◌, ◌⊎◌, ℕ, suc, List, [], ◌∷◌, drop, None, Some, Result, Ok, Err}
use Rattle.sr_ast.specs.declared.tree.Tree.{Tree}
use Rattle.sr_ast.specs.declared.tree.Element.{Element}
use Rattle.sr_value.specs.declared.value.Value.{Value}
use Rattle.sr_model.specs.Names.{Base, Known, base_of, value_at}
use Rattle.sr_realm.specs.declared.names.Base as code
use Rattle.sr_realm.specs.Plain as plain
use Rattle.sr_state.specs.declared.ends.Completion.TheVariants as completion
use Rattle.sr_state.specs.declared.ends.Next.{Next}
use Rattle.sr_state.specs.declared.ends.Next.TheVariants as next
use Rattle.sr_state.specs.declared.ends.Over.{Over}
use Rattle.sr_state.specs.declared.ends.Over.TheVariants as over
use Rattle.sr_intrin.specs.declared.names.BuiltIn.TheVariants as built_in
use Rattle.sr_state.specs.Contexts.{context_of}
use Rattle.sr_state.specs.Held.{Held, basing, begun_in, staged, stored_in}
use Rattle.sr_state.specs.Parts.{BeginsPart, EndsWith, Paying, PutsName, Uses, no_error, performing}
use Rattle.sr_expr.specs.declared.call.Argument.{Argument}
use Rattle.sr_expr.specs.declared.call.Argument.TheVariants as argument
use Rattle.sr_expr.specs.Rows.{expression_of, name_in}

-- the charge of an assignment, at whose target the frame is then
abbrev pub BeginsAssignment : ℕ → Held → Next → Held → Type 0
BeginsAssignment at old n new =
    (let f = old.top in let c = f.context in
    Paying 1 (begun_in c.source at) old (Err n) new
    ⊎ ((mid : Held) × Paying 1 (begun_in c.source at) old (Ok tt) mid × (n ≡ next.Going) × (new ≡ staged 1 mid)))

-- where the name of a target is bound, in the context of the frame on top
abbrev pub base_in : Tree → Held → Base
base_in t h = (let f = h.top in let c = context_of f.context in base_of (stored_in h.side) c.environment (name_in t))

-- the charge of a target, after which the frame keeps where it is bound
abbrev pub BeginsTarget : Tree → Held → Result (Unit {0}) Over → Held → Type 0
BeginsTarget t old (Ok u) new =
    (let f = old.top in let c = f.context in
    (mid : Held) × Paying 1 (begun_in c.source t.from) old (Ok tt) mid × (b : code.Base) × (plain.base_of b ≡ base_in t mid) × (new ≡ basing b mid))
BeginsTarget t old (Err (over.Next n)) new = (let f = old.top in let c = f.context in Paying 1 (begun_in c.source t.from) old (Err n) new)
BeginsTarget t old (Err over.Memory) new = Unit {0}

-- what the target comes to, by where the frame keeps that it is bound
abbrev pub known_in : Tree → Held → Known
known_in t h = (let f = h.top in value_at (stored_in h.side) (plain.base_of f.base) (name_in t))

-- the same, and its old value
abbrev pub ReadsTarget : Tree → Held → Result Value Over → Held → Type 0
ReadsTarget t old (Ok v) new = (mid : Held) × BeginsTarget t old (Ok tt) mid × Uses (name_in t) (known_in t mid) mid (Ok v) new
ReadsTarget t old (Err (over.Next n)) new =
    BeginsTarget t old (Err (over.Next n)) new ⊎ ((mid : Held) × BeginsTarget t old (Ok tt) mid × Uses (name_in t) (known_in t mid) mid (Err (over.Next n)) new)
ReadsTarget t old (Err over.Memory) new = Unit {0}

-- a target is given a value, and the frame on top ends with another one
abbrev pub Puts : Tree → Value → Value → Held → Next → Held → Type 0
Puts t v given old n new =
    PutsName (name_in t) v old (Err (over.Next n)) new
    ⊎ ((mid : Held) × PutsName (name_in t) v old (Ok tt) mid × EndsWith (completion.Normal (Some given)) mid n new)

-- what is left of the arguments from a place on begins with this one, or nothing is left
abbrev pub IsArgument : ℕ → List Element → Argument → Type 0
IsArgument n xs argument.End = drop n xs ≡ []
IsArgument n xs (argument.Expression t) = (x : Element) × (drop n xs ≡ x ∷ drop (suc n) xs) × (expression_of x ≡ Some t.now)
IsArgument n xs argument.NotBuilt = (x : Element) × (drop n xs ≡ x ∷ drop (suc n) xs) × (expression_of x ≡ None)

-- an argument is next, at which the frame is at this stage, or where none is left the call
abbrev pub BeginsArgument : ℕ → Argument → Held → Next → Held → Type 0
BeginsArgument stage argument.End old n new = (n ≡ next.Going) × (new ≡ performing built_in.Print old)
BeginsArgument stage (argument.Expression t) old n new = BeginsPart t.now (staged stage old) n new
BeginsArgument stage argument.NotBuilt old n new = EndsWith no_error old n new
