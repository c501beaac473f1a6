-- What is told of an object that was thrown and not caught.
use Rattle.std.specs.Prelude.{ℕ, List, [], ◌∷◌, ◌++◌, codes}
use Rattle.sr_model.specs.Values.{Text, Simple, Str}
use Rattle.sr_model.specs.Keys.{TextKey}
use Rattle.sr_model.specs.Objects.{Object, Found, FoundData, find}

-- the first own property of a key, of the object and then of its prototypes, where it is a data property that holds a string; else nothing
abbrev pub text_found : Found → Text
text_found (FoundData (Simple (Str text))) = text
text_found f = []

abbrev pub look : {K : Type 0} → List (Object K) → ℕ → Text → Text
look os n key = text_found (find os n (TextKey key))

-- the name and the message, where both are there; or the one that is; or a word for an object
abbrev pub joined : Text → Text → Text
joined [] [] = codes "object"
joined [] (u ∷ message) = u ∷ message
joined (u ∷ name) [] = u ∷ name
joined (u ∷ name) (v ∷ message) = (u ∷ name) ++ codes ": " ++ v ∷ message

abbrev pub object_report : {K : Type 0} → List (Object K) → ℕ → Text
object_report os n = joined (look os n (codes "name")) (look os n (codes "message"))
