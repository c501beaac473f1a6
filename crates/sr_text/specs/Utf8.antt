-- UTF-8 as a relation, by the table of well-formed byte sequences (The Unicode Standard, section 3.9, table 3-7).
use Rattle.std.specs.Prelude.{◌≡◌, ℕ, ◌+◌, ◌-◌, ◌*◌, ◌<◌, List, [], ◌∷◌, ◌++◌, length, take, drop}
use Rattle.std.specs.Int.{IsInRange}
use Rattle.sr_text.specs.Encoding.{utf16_of}

-- the code point of a sequence, by the bits that each of its bytes holds
abbrev pub of_two : ℕ → ℕ → ℕ
of_two a b = (a - 0xC0) * 0x40 + (b - 0x80)

abbrev pub of_three : ℕ → ℕ → ℕ → ℕ
of_three a b c = (a - 0xE0) * 0x1000 + (b - 0x80) * 0x40 + (c - 0x80)

abbrev pub of_four : ℕ → ℕ → ℕ → ℕ → ℕ
of_four a b c d = (a - 0xF0) * 0x40000 + (b - 0x80) * 0x1000 + (c - 0x80) * 0x40 + (d - 0x80)

-- One well-formed sequence and its code point. Each constructor is a row of the table, called by its least code
-- point, with the least and the greatest value of each byte.
pub data IsSequence : List ℕ → ℕ → Type 0 where
  from_0 : {a : ℕ} → IsInRange 0x00 0x7F a → IsSequence (a ∷ []) a
  from_80 : {a b : ℕ} → IsInRange 0xC2 0xDF a → IsInRange 0x80 0xBF b → IsSequence (a ∷ b ∷ []) (of_two a b)
  from_800 : {a b c : ℕ} → IsInRange 0xE0 0xE0 a → IsInRange 0xA0 0xBF b → IsInRange 0x80 0xBF c
      → IsSequence (a ∷ b ∷ c ∷ []) (of_three a b c)
  from_1000 : {a b c : ℕ} → IsInRange 0xE1 0xEC a → IsInRange 0x80 0xBF b → IsInRange 0x80 0xBF c
      → IsSequence (a ∷ b ∷ c ∷ []) (of_three a b c)
  from_d000 : {a b c : ℕ} → IsInRange 0xED 0xED a → IsInRange 0x80 0x9F b → IsInRange 0x80 0xBF c
      → IsSequence (a ∷ b ∷ c ∷ []) (of_three a b c)
  from_e000 : {a b c : ℕ} → IsInRange 0xEE 0xEF a → IsInRange 0x80 0xBF b → IsInRange 0x80 0xBF c
      → IsSequence (a ∷ b ∷ c ∷ []) (of_three a b c)
  from_10000 : {a b c d : ℕ} → IsInRange 0xF0 0xF0 a → IsInRange 0x90 0xBF b → IsInRange 0x80 0xBF c → IsInRange 0x80 0xBF d
      → IsSequence (a ∷ b ∷ c ∷ d ∷ []) (of_four a b c d)
  from_40000 : {a b c d : ℕ} → IsInRange 0xF1 0xF3 a → IsInRange 0x80 0xBF b → IsInRange 0x80 0xBF c → IsInRange 0x80 0xBF d
      → IsSequence (a ∷ b ∷ c ∷ d ∷ []) (of_four a b c d)
  from_100000 : {a b c d : ℕ} → IsInRange 0xF4 0xF4 a → IsInRange 0x80 0x8F b → IsInRange 0x80 0xBF c → IsInRange 0x80 0xBF d
      → IsSequence (a ∷ b ∷ c ∷ d ∷ []) (of_four a b c d)

-- well-formed sequences, one after another, and their code points
pub data IsUtf8Of : List ℕ → List ℕ → Type 0 where
  nothing : IsUtf8Of [] []
  one_more : {sequence bytes points : List ℕ} {point : ℕ} → IsSequence sequence point → IsUtf8Of bytes points
      → IsUtf8Of (sequence ++ bytes) (point ∷ points)

-- the bytes are UTF-8, and the code units are those of their code points
pub record Decodes (bytes units : List ℕ) : Type 0 where
  pub points : List ℕ
  pub utf8 : IsUtf8Of bytes points
  pub spelled : units ≡ utf16_of points

-- the bytes are UTF-8, of more code units than a string may have
abbrev pub IsTooLong : List ℕ → Type 0
IsTooLong bytes = (units : List ℕ) × Decodes bytes units × (16777216 < length units)

-- the bytes before this place are UTF-8, and no well-formed sequence stands there
pub record FirstFault (bytes : List ℕ) (at : ℕ) : Type 0 where
  pub within : at < length bytes
  pub before : (points : List ℕ) × IsUtf8Of (take at bytes) points
  pub ill_formed : (sequence rest : List ℕ) (point : ℕ) → drop at bytes ≡ sequence ++ rest → ¬ (IsSequence sequence point)
