-- What a made symbol is: the path of the realm that made it, its number there, from 1, and its description.
use Rattle.std.specs.Prelude.{ℕ, List, Option}

pub record Made : Type 0 where
  pub maker : List ℕ
  pub number : ℕ
  pub description : Option (List ℕ)
