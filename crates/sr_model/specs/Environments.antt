-- Environment records (ECMA-262 9.1). Those of a realm are a list, in the order in which they were made, and the first one has the number
-- 1. The number 0 is that of the global environment, whose parts are kept apart. A method of a number that no environment of the list has
-- finds and changes nothing.
use Rattle.std.specs.Prelude.{ℕ, zero, suc, List, [], ◌∷◌, ◌++◌, length, Option, is_some, option_and_then, cond}
use Rattle.std.specs.Option.{option_map_or}
use Rattle.std.specs.Map.{lookup, set_value}
use Rattle.sr_model.specs.Values.{Text, same, member, Value}
use Rattle.sr_model.specs.Numbered.{item, change}

-- 9.1.1.1: the binding of a name has no value yet, or a value that may be changed, or one that stays; or it is the name of a function
-- expression in the environment around its own body (15.2.5), which stays, and which only strict code may not write
pub data Binding : Type 0 where
  Uninitialized : Binding
  Mutable : Value → Binding
  Constant : Value → Binding
  OwnName : Value → Binding

-- names with their bindings, in the order in which they were made
abbrev pub Bindings : Type 0
Bindings = List (Text × Binding)

-- the binding of a name, if it has one (9.1.1.1.1 HasBinding tells whether it has)
abbrev pub bound : Text → Bindings → Option Binding
bound x bs = lookup (same x) bs

-- 9.1.1.1.2 CreateMutableBinding and 9.1.1.1.3 CreateImmutableBinding: a new name comes last, and has no value yet
abbrev pub created : Text → Bindings → Bindings
created x bs = bs ++ (x, Uninitialized) ∷ []

-- 9.1.1.1.4 InitializeBinding and 9.1.1.1.5 SetMutableBinding: another binding takes the place of the one that is there
abbrev pub rebound : Text → Binding → Bindings → Bindings
rebound x b bs = set_value (same x) bs b

-- 9.1.1.1 a declarative environment record, and 9.1.1.3 that of a function, which may have a this value of its own; and the number of the
-- environment around it
pub record Environment : Type 0 where
  pub bindings : Bindings
  pub this : Option Value
  pub outer : ℕ

-- 9.1.2.2 NewDeclarativeEnvironment and 9.1.2.4 NewFunctionEnvironment: the new one comes last, and has no bindings
abbrev pub make_environment : List Environment → Option Value → ℕ → List Environment
make_environment es this outer = es ++ record { bindings = []; this = this; outer = outer } ∷ []

-- the environment around one. Around the global environment there is none, and no number but 0 leads out of the list
abbrev pub outer : List Environment → ℕ → ℕ
outer es n = option_map_or (λ e. e.outer) (item es n) 0

-- 9.1.1.3.4 GetThisBinding, of an environment that has one
abbrev pub this : List Environment → ℕ → Option Value
this es n = option_and_then (λ e. e.this) (item es n)

-- the binding of a name there, and the environments after a name is created there, and after its binding is another one
abbrev pub binding : List Environment → ℕ → Text → Option Binding
binding es n x = option_and_then (λ e. bound x e.bindings) (item es n)

abbrev pub create_binding : List Environment → ℕ → Text → List Environment
create_binding es n x = change es n (λ e. record e { bindings = created x e.bindings })

abbrev pub set_binding : List Environment → ℕ → Text → Binding → List Environment
set_binding es n x b = change es n (λ e. record e { bindings = rebound x b e.bindings })

-- the environments after each of these names that is not bound there has got a binding that has no value yet
abbrev pub with_binding : List Environment → ℕ → Text → List Environment
with_binding es n x = cond (is_some (binding es n x)) es (create_binding es n x)

abbrev pub with_bindings : List Environment → ℕ → List Text → List Environment
with_bindings es n [] = es
with_bindings es n (x ∷ xs) = with_bindings (with_binding es n x) n xs

-- and after each has got the binding there that it has in another environment
abbrev pub with_copy : List Environment → ℕ → ℕ → Text → List Environment
with_copy es from to x = (let fs = with_binding es to x in option_map_or (set_binding fs to x) (binding es from x) fs)

abbrev pub with_copies : List Environment → ℕ → ℕ → List Text → List Environment
with_copies es from to [] = es
with_copies es from to (x ∷ xs) = with_copies (with_copy es from to x) from to xs

-- 9.1.2.1 GetIdentifierReference: the environment in which a name is bound, from one outward; and the number 0, that of the global
-- environment, where none of the list has it. No environment comes twice on the way, so no way is longer than the list
abbrev pub holder_along : ℕ → List Environment → ℕ → Text → ℕ
holder_along zero es n x = 0
holder_along (suc d) es n x = cond (is_some (binding es n x)) n (holder_along d es (outer es n) x)

abbrev pub holder : List Environment → ℕ → Text → ℕ
holder es n x = holder_along (length es) es n x

-- 9.1.1.4.17 CreateGlobalVarBinding, step 6: a name that `var` declares is noted once
abbrev pub with_var_name : Text → List Text → List Text
with_var_name x xs = cond (member x xs) xs (xs ++ x ∷ [])
