-- Tasks.
use Rattle.std.specs.Prelude.{ℕ, Bool, List, Option}
use Rattle.sr_model.specs.Values.{Text, Value}
use Rattle.sr_model.specs.Events.{Goal, Message}

-- ECMA-262 7.1.1 ToPrimitive and the conversions that rest on it, where user code may run
pub data Conversion : Type 0 where
  ToPrimitive : Conversion
  ToNumber : Conversion
  ToString : Conversion
  ToPropertyKey : Conversion

-- where a tree is evaluated (ECMA-262 9.4, an execution context): the number of its source, that of its environment, and whether its code
-- is strict
pub record Context : Type 0 where
  pub source : ℕ
  pub environment : ℕ
  pub strict : Bool

-- the tasks of a language, by kind, with its own types of trees, of built-in functions and of operations
pub data Task (Tree BuiltIn Operation : Type 0) : Type 0 where
  Run : Context → Tree → Task Tree BuiltIn Operation
  RunLabelled : Context → List Text → Tree → Task Tree BuiltIn Operation  -- a statement with these labels before it (ECMA-262 14.13.4, the label set)
  Apply : ℕ → Value → List Value → Task Tree BuiltIn Operation  -- calls an object, with this and arguments (ECMA-262 7.3.14)
  Construct : ℕ → List Value → ℕ → Task Tree BuiltIn Operation  -- with the new target (ECMA-262 7.3.15)
  Perform : BuiltIn → Value → List Value → Option ℕ → Task Tree BuiltIn Operation  -- a built-in function, with this, arguments and new target
  Convert : Conversion → Value → Task Tree BuiltIn Operation
  Operate : Operation → Task Tree BuiltIn Operation
  Read : Goal → Text → Task Tree BuiltIn Operation  -- reads a text
  Work : Message → Task Tree BuiltIn Operation
