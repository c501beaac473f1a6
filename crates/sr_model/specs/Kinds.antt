-- The kinds of objects: what an object holds besides its prototype, its properties and whether it is extensible.
use Rattle.std.specs.Prelude.{ℕ, List}
use Rattle.sr_model.specs.Values.{Text, Value}

-- what a user function holds (ECMA-262 10.2): its code, the number of the source that has the code, and the number of the environment in
-- which it was made
pub record Closure (Code : Type 0) : Type 0 where
  pub code : Code
  pub source : ℕ
  pub environment : ℕ

-- what a built-in function holds (ECMA-262 10.3): which one it is, the name that it was made with, and the values that it keeps
pub record Native (BuiltIn : Type 0) : Type 0 where
  pub function : BuiltIn
  pub name : Text
  pub kept : List Value

-- what a bound function holds (ECMA-262 10.4.1): its target, the this value that it passes on, and its first arguments
pub record Bound : Type 0 where
  pub target : ℕ
  pub this : Value
  pub arguments : List Value

-- the kinds, with the types of the code of functions and of the built-in functions
pub data Kind (Code BuiltIn : Type 0) : Type 0 where
  Ordinary : Kind Code BuiltIn
  Function : Closure Code → Kind Code BuiltIn
  BuiltInFunction : Native BuiltIn → Kind Code BuiltIn
  BoundFunction : Bound → Kind Code BuiltIn
  Error : Kind Code BuiltIn
