-- The rank of a key by the array index that its string is.
use Rattle.std.proofs.Common.{◌≡◌, ℕ, List, ap}
use Rattle.sr_props.specs.declared.key.Rank.TheVariants.{Index, Text as OtherText}
use Rattle.sr_text.specs.Numerals.{IsIndexKey}
use Rattle.sr_model.specs.Keys.{TextKey, rank_of, rank_of_text}
use Rattle.sr_model.proofs.Indices.{index_of_key, no_index}

pub rank_of_index : (units : List ℕ) (n : ℕ) → IsIndexKey units n → rank_of (TextKey units) ≡ Index n
rank_of_index units n key = ap rank_of_text (index_of_key units n key)

pub rank_of_other : (units : List ℕ) → ((n : ℕ) → ¬ (IsIndexKey units n)) → rank_of (TextKey units) ≡ OtherText
rank_of_other units none = ap rank_of_text (no_index units none)
