-- How errors are thrown, and how scripts go on with names.
use Rattle.std.specs.Prelude.{List, [], ◌∷◌, Result, Ok, Err}
use Rattle.sr_model.specs.Values.{Text, Value, Simple, Undefined, Object}
use Rattle.sr_model.specs.Outcomes.{Abrupt, Throw}
use Rattle.sr_model.specs.Scripts.{Give, Look, Change}
use Rattle.sr_model.specs.Tasks.{Context}
use Rattle.sr_model.specs.Holds.{storing, store_in, next_object, next_environment}
use Rattle.sr_model.specs.Environments.{Binding}
use Rattle.sr_model.specs.Names.{Base, base_of, Known, Has, Getter, NoValue, NotBound, value_at, value_of_name, Write, Written, Setter, TooEarly, Fixed, Unbound, Rejected, write_answer, write, initialize, with_scope}
use Rattle.sr_realm.specs.Errors.{ErrorParts, with_error, not_defined, not_initialized, is_constant, type_error}
use Rattle.sr_state.specs.Work.{Steps}

-- an error is made and thrown
abbrev pub throw_new : ErrorParts → Steps
throw_new e = Look (λ r. Change (storing (with_error e (store_in r))) (Give (Abrupt (Throw (Object (next_object r))))))

-- why a name gives no value, or takes none: an error is to be thrown; or a function is to be called, which is not built
pub data Failure : Type 0 where
  Raises : ErrorParts → Failure
  NotBuilt : Failure

-- where a function is to be called, the value undefined is thrown
abbrev pub fail : Failure → Steps
fail (Raises e) = throw_new e
fail NotBuilt = Give (Abrupt (Throw (Simple Undefined)))

-- goes on, or fails
abbrev pub or_fail : {A : Type 0} → (A → Steps) → Result A Failure → Steps
or_fail k (Ok v) = k v
or_fail k (Err e) = fail e

-- the value that a name comes to (6.2.5.5 GetValue)
abbrev pub value_or_failure : Text → Known → Result Value Failure
value_or_failure x (Has v) = Ok v
value_or_failure x (Getter g) = Err NotBuilt
value_or_failure x NoValue = Err (Raises (not_initialized x))
value_or_failure x NotBound = Err (Raises (not_defined x))

-- what a write of a name comes to (6.2.5.6 PutValue)
abbrev pub write_or_failure : Text → Write → Result (Unit {0}) Failure
write_or_failure x Written = Ok tt
write_or_failure x (Setter f) = Err NotBuilt
write_or_failure x TooEarly = Err (Raises (not_initialized x))
write_or_failure x Fixed = Err (Raises (is_constant x))
write_or_failure x Unbound = Err (Raises (not_defined x))
write_or_failure x Rejected = Err (Raises type_error)

-- a name that is bound there gets its first value
abbrev pub initialize_there : Base → Text → Binding → Steps → Steps
initialize_there b x w k = Look (λ r. Change (storing (initialize (store_in r) b x w)) k)

module _ (c : Context) where
  -- goes on in an environment inside that of the context, in which these names have no value yet. Where there are none it goes on as it is,
  -- since no name would be found in such an environment
  abbrev pub in_scope : List Text → (Context → Steps) → Steps
  in_scope [] k = k c
  in_scope (x ∷ xs) k =
      Look (λ r. Change (storing (with_scope c.environment (x ∷ xs) (store_in r))) (k (record c { environment = next_environment r })))

  -- 9.1.2.1: where a name is bound
  abbrev pub based : Text → (Base → Steps) → Steps
  based x k = Look (λ r. k (base_of (store_in r) c.environment x))

  -- the value of a name that is bound there, and of one that is looked up at once
  abbrev pub value_there : Base → Text → (Value → Steps) → Steps
  value_there b x k = Look (λ r. or_fail k (value_or_failure x (value_at (store_in r) b x)))

  abbrev pub name_value : Text → (Value → Steps) → Steps
  name_value x k = Look (λ r. or_fail k (value_or_failure x (value_of_name (store_in r) c.environment x)))

  -- a name that is bound there is given a value
  abbrev pub put_there : Base → Text → Value → Steps → Steps
  put_there b x v k =
      Look (λ r. let s = store_in r in Change (storing (write c.strict s b x v)) (or_fail (λ u. k) (write_or_failure x (write_answer c.strict s b x v))))
