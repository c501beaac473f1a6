use Rattle.sr_model.proofs.Indices.{index_of_key, key_of_index}
use Rattle.sr_model.proofs.array_indices_are_numerals.Goals as goal

pub returns : goal.returns
returns c = λ units n. (key_of_index units n, index_of_key units n)
