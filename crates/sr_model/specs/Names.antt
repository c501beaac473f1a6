-- Names: where a name is bound, the value that it has there, and what it is to give it one (ECMA-262 6.2.5, 9.1). None of this runs code.
use Rattle.std.specs.Prelude.{ℕ, zero, suc, List, [], ◌∷◌, ◌++◌, length, Bool, true, false, ◌||◌, not, Option, None, Some, is_some, cond}
use Rattle.std.specs.List.{list_any, list_all}
use Rattle.std.specs.Option.{option_map_or}
use Rattle.sr_model.specs.Values.{Text, member, Value, Simple, Undefined}
use Rattle.sr_model.specs.Keys.{TextKey}
use Rattle.sr_model.specs.Properties.{Descriptor, is_configurable}
use Rattle.sr_model.specs.Objects.{Found, FoundData, FoundAccessor, Missing, Setting, Assigned, Refused, CallsSetter, extensible, get_own, find, define, set_answer, set}
use Rattle.sr_model.specs.Environments.{Binding, Uninitialized, Mutable, Constant, OwnName, bound, created, rebound, make_environment, outer, binding, set_binding, with_bindings, with_copies, holder, with_var_name}
use Rattle.sr_model.specs.Stores.{Store}

-- 6.2.5: where a name is bound: nowhere; as a property of the global object, or by a lexical binding of the global environment (9.1.1.4);
-- or in the environment with this number
pub data Base : Type 0 where
  Unresolvable : Base
  Property : Base
  Lexical : Base
  Local : ℕ → Base

-- what a name comes to: a value; the getter of a property, which is to be called; or it has no value yet, or is not bound
pub data Known : Type 0 where
  Has : Value → Known
  Getter : Value → Known
  NoValue : Known
  NotBound : Known

-- what it comes to to give a name a value: it has the value now, or the write does nothing; the setter of a property is to be called; or
-- it fails: the name has no value yet, is constant or is not bound, or the property does not take the value
pub data Write : Type 0 where
  Written : Write
  Setter : Value → Write
  TooEarly : Write
  Fixed : Write
  Unbound : Write
  Rejected : Write

-- the names that a script declares: by `var`, and by `let` or `const` (ECMA-262 8.2.4, 8.2.6)
pub record Declarations : Type 0 where
  pub vars : List Text
  pub lexical : List Text

-- what comes of them: they are declared; one clashes with what is declared already, which is a SyntaxError; or the global object takes no
-- property more, which is a TypeError
pub data Acceptance : Type 0 where
  Accepted : Acceptance
  Clash : Acceptance
  Closed : Acceptance

-- the number of the global object
abbrev pub global_object : ℕ
global_object = 1

-- 9.1.1.1.6 GetBindingValue
abbrev pub known : Option Binding → Known
known None = NotBound
known (Some Uninitialized) = NoValue
known (Some (Mutable v)) = Has v
known (Some (Constant v)) = Has v
known (Some (OwnName v)) = Has v

-- the value of a property: 9.1.1.2.6 GetBindingValue of an object record
abbrev pub known_property : Found → Known
known_property (FoundData v) = Has v
known_property (FoundAccessor (Simple Undefined) s) = Has (Simple Undefined)
known_property (FoundAccessor g s) = Getter g
known_property Missing = NotBound

-- 9.1.1.1.5 SetMutableBinding, in strict code or not
abbrev pub written : Bool → Option Binding → Write
written strict None = Unbound
written strict (Some Uninitialized) = TooEarly
written strict (Some (Mutable v)) = Written
written strict (Some (Constant v)) = Fixed
written strict (Some (OwnName v)) = cond strict Fixed Written

-- the binding after it: only one that may be changed does
abbrev pub rewritten : Value → Option Binding → Option Binding
rewritten v (Some (Mutable w)) = Some (Mutable v)
rewritten v b = None

-- 9.1.1.1.4 InitializeBinding: a binding that has no value yet becomes this one
abbrev pub initialized : Binding → Option Binding → Option Binding
initialized b (Some Uninitialized) = Some b
initialized b c = None

-- 9.1.1.2.5 SetMutableBinding of an object record: a write that is refused fails in strict code alone
abbrev pub written_property : Bool → Setting → Write
written_property strict Assigned = Written
written_property strict Refused = cond strict Rejected Written
written_property strict (CallsSetter f) = Setter f

-- whether something stands along the prototypes (10.1.7.1 OrdinaryHasProperty)
abbrev pub is_there : Found → Bool
is_there Missing = false
is_there f = true

-- what `var` makes of a name of the global object: a property that may not be deleted
abbrev pub var_property : Descriptor
var_property = record { value = Some (Simple Undefined); writable = Some true; get = None; set = None; enumerable = Some true; configurable = Some false }

module _ {Code BuiltIn : Type 0} where
  -- the property of the global object, or of its prototypes, with this name
  abbrev pub global_property : Store Code BuiltIn → Text → Found
  global_property s x = find s.objects global_object (TextKey x)

  -- 9.1.1.4.1 HasBinding of the global environment: its lexical bindings come first
  abbrev pub global_base : Store Code BuiltIn → Text → Base
  global_base s x = cond (is_some (bound x s.lexical)) Lexical (cond (is_there (global_property s x)) Property Unresolvable)

  -- 9.1.2.1 GetIdentifierReference, from an environment outward
  abbrev pub based : Store Code BuiltIn → Text → ℕ → Base
  based s x zero = global_base s x
  based s x (suc n) = Local (suc n)

  abbrev pub base_of : Store Code BuiltIn → ℕ → Text → Base
  base_of s environment x = based s x (holder s.environments environment x)

  -- 6.2.5.5 GetValue of a name that is bound there
  abbrev pub value_at : Store Code BuiltIn → Base → Text → Known
  value_at s Unresolvable x = NotBound
  value_at s Property x = known_property (global_property s x)
  value_at s Lexical x = known (bound x s.lexical)
  value_at s (Local n) x = known (binding s.environments n x)

  -- and of one that is looked up at once
  abbrev pub value_of_name : Store Code BuiltIn → ℕ → Text → Known
  value_of_name s environment x = value_at s (base_of s environment x) x

  -- a write to the property of the global object
  abbrev pub global_answer : Bool → Store Code BuiltIn → Text → Value → Write
  global_answer strict s x v = written_property strict (set_answer s.objects global_object (TextKey x) v)

  -- 6.2.5.6 PutValue to a name that is bound there: what it comes to in strict code or not, and the store after it. What is nowhere bound
  -- becomes a property of the global object, but in strict code, and so with a property that has gone since it was found
  abbrev pub write_answer : Bool → Store Code BuiltIn → Base → Text → Value → Write
  write_answer strict s Unresolvable x v =
      cond strict Unbound (global_answer false s x v)
  write_answer strict s Property x v =
      cond (not strict || is_there (global_property s x)) (global_answer strict s x v) Unbound
  write_answer strict s Lexical x v = written strict (bound x s.lexical)
  write_answer strict s (Local n) x v = written strict (binding s.environments n x)

  -- the global object has the property with the value, if it takes it
  abbrev pub with_global : Store Code BuiltIn → Text → Value → Store Code BuiltIn
  with_global s x v = record s { objects = set s.objects global_object (TextKey x) v }

  -- a name has another binding, or keeps the one that it has
  abbrev pub with_lexical : Store Code BuiltIn → Text → Option Binding → Store Code BuiltIn
  with_lexical s x None = s
  with_lexical s x (Some b) = record s { lexical = rebound x b s.lexical }

  abbrev pub with_local : Store Code BuiltIn → ℕ → Text → Option Binding → Store Code BuiltIn
  with_local s n x None = s
  with_local s n x (Some b) = record s { environments = set_binding s.environments n x b }

  abbrev pub write : Bool → Store Code BuiltIn → Base → Text → Value → Store Code BuiltIn
  write strict s Unresolvable x v = cond strict s (with_global s x v)
  write strict s Property x v = cond (not strict || is_there (global_property s x)) (with_global s x v) s
  write strict s Lexical x v = with_lexical s x (rewritten v (bound x s.lexical))
  write strict s (Local n) x v = with_local s n x (rewritten v (binding s.environments n x))

  -- 6.2.5.8 InitializeReferencedBinding, of a name that is bound there
  abbrev pub initialize : Store Code BuiltIn → Base → Text → Binding → Store Code BuiltIn
  initialize s Lexical x b = with_lexical s x (initialized b (bound x s.lexical))
  initialize s (Local n) x b = with_local s n x (initialized b (binding s.environments n x))
  initialize s base x b = s

  -- 14.2.3 BlockDeclarationInstantiation: an environment inside another one, in which these names have no value yet. It is the last one
  abbrev pub with_scope : ℕ → List Text → Store Code BuiltIn → Store Code BuiltIn
  with_scope outer names s = (let es = make_environment s.environments None outer in record s { environments = with_bindings es (length es) names })

  -- 14.7.4.4 CreatePerIterationEnvironment: an environment beside that of the turn before, in which these names have the values that they
  -- have there. It is the last one
  abbrev pub with_turn : ℕ → List Text → Store Code BuiltIn → Store Code BuiltIn
  with_turn before names s =
      (let es = make_environment s.environments None (outer s.environments before) in record s { environments = with_copies es before (length es) names })

  -- 14.15.2 CatchClauseEvaluation, steps 1 to 5: an environment inside another one, in which the parameter has the value that was thrown
  abbrev pub with_caught : ℕ → Text → Value → Store Code BuiltIn → Store Code BuiltIn
  with_caught outer x v s = (let t = with_scope outer (x ∷ []) s in initialize t (Local (length t.environments)) x (Mutable v))

  -- 9.1.1.4.17 CreateGlobalVarBinding, of a binding that may not be deleted: where the global object has no such property, it gets one
  abbrev pub with_var_property : Store Code BuiltIn → Text → Store Code BuiltIn
  with_var_property s x =
      cond (is_some (get_own s.objects global_object (TextKey x))) s (record s { objects = define s.objects global_object (TextKey x) var_property })

  -- and the name is noted
  abbrev pub with_var : Store Code BuiltIn → Text → Store Code BuiltIn
  with_var s x = (let t = with_var_property s x in record t { var_names = with_var_name x t.var_names })

  -- several in order
  abbrev pub with_vars : List Text → Store Code BuiltIn → Store Code BuiltIn
  with_vars [] s = s
  with_vars (x ∷ xs) s = with_vars xs (with_var s x)

  -- 9.1.1.1.2 CreateMutableBinding and 9.1.1.1.3 CreateImmutableBinding of the global environment: several in order
  abbrev pub with_lexical_name : Store Code BuiltIn → Text → Store Code BuiltIn
  with_lexical_name s x = cond (is_some (bound x s.lexical)) s (record s { lexical = created x s.lexical })

  abbrev pub with_lexical_names : List Text → Store Code BuiltIn → Store Code BuiltIn
  with_lexical_names [] s = s
  with_lexical_names (x ∷ xs) s = with_lexical_names xs (with_lexical_name s x)

  -- 9.1.1.4.14 HasRestrictedGlobalProperty
  abbrev pub is_restricted : Store Code BuiltIn → Text → Bool
  is_restricted s x = option_map_or (λ p. not (is_configurable p)) (get_own s.objects global_object (TextKey x)) false

  -- 16.1.7, steps 3 and 4: a name that a script declares lexically is declared already, or is a fixed property of the global object; and
  -- one that it declares by `var` is declared lexically already
  abbrev pub is_taken : Store Code BuiltIn → Text → Bool
  is_taken s x = member x s.var_names || is_some (bound x s.lexical) || is_restricted s x

  abbrev pub is_lexical : Store Code BuiltIn → Text → Bool
  is_lexical s x = is_some (bound x s.lexical)

  -- 9.1.1.4.15 CanDeclareGlobalVar
  abbrev pub may_declare_var : Store Code BuiltIn → Text → Bool
  may_declare_var s x = is_some (get_own s.objects global_object (TextKey x)) || extensible s.objects global_object

  -- 16.1.7, up to step 10: what comes of the names that a script declares
  abbrev pub accept_answer : Declarations → Store Code BuiltIn → Acceptance
  accept_answer d s =
      cond (list_any (is_taken s) d.lexical || list_any (is_lexical s) d.vars) Clash (cond (list_all (may_declare_var s) d.vars) Accepted Closed)

  -- and from step 16 on: where nothing hinders it they are declared
  abbrev pub with_declarations : Acceptance → Declarations → Store Code BuiltIn → Store Code BuiltIn
  with_declarations Accepted d s = with_vars d.vars (with_lexical_names d.lexical s)
  with_declarations a d s = s

  -- 16.1.7 GlobalDeclarationInstantiation of a script with this text, which is kept in any case
  abbrev pub with_source : Text → Store Code BuiltIn → Store Code BuiltIn
  with_source text s = record s { sources = s.sources ++ text ∷ [] }

  abbrev pub accepted : Declarations → Text → Store Code BuiltIn → Store Code BuiltIn
  accepted d text s = (let t = with_source text s in with_declarations (accept_answer d t) d t)
