-- What the rows of the language read and change in a realm, as far as values, functions and names go.
use Rattle.std.specs.Prelude.{List, []}
use Rattle.sr_model.specs.Values.{Text}
use Rattle.sr_model.specs.Kinds.{Kind}
use Rattle.sr_model.specs.Objects.{Object}
use Rattle.sr_model.specs.Environments.{Environment, Bindings}

-- its objects, the environments but the global one, and the texts of its sources, each in the order in which they were made; and of the
-- global environment (ECMA-262 9.1.1.4) the lexical bindings, and the names that `var` declared. The rest of the global environment is
-- the object with the number 1
pub record Store (Code BuiltIn : Type 0) : Type 0 where
  pub objects : List (Object (Kind Code BuiltIn))
  pub environments : List Environment
  pub sources : List Text
  pub lexical : Bindings
  pub var_names : List Text

-- with nothing made yet
abbrev pub empty_store : {Code BuiltIn : Type 0} → Store Code BuiltIn
empty_store = record { objects = []; environments = []; sources = []; lexical = []; var_names = [] }
