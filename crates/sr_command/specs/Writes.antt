-- What a run writes on its two streams.
use Rattle.std.specs.Prelude.{◌≡◌, ℕ, List, [], ◌∷◌, ◌++◌, take, Option}
use Rattle.std.specs.Io.KnownBytes.{Appends}

-- bytes for the output, or for the errors
pub data Write : Type 0 where
  out : List ℕ → Write
  err : List ℕ → Write

-- the first n bytes of a write
abbrev pub first_bytes : ℕ → Write → Write
first_bytes n (out bytes) = out (take n bytes)
first_bytes n (err bytes) = err (take n bytes)

-- all that writes put on the output
abbrev pub out_bytes : List Write → List ℕ
out_bytes [] = []
out_bytes (out bytes ∷ writes) = bytes ++ out_bytes writes
out_bytes (err bytes ∷ writes) = out_bytes writes

-- all that they put on the errors
abbrev pub err_bytes : List Write → List ℕ
err_bytes [] = []
err_bytes (out bytes ∷ writes) = err_bytes writes
err_bytes (err bytes ∷ writes) = bytes ++ err_bytes writes

-- what the two streams have written, where they tell
pub record Streams : Type 0 where
  pub out_written : Option (List ℕ)
  pub err_written : Option (List ℕ)

-- the two streams gained exactly these writes
pub record Gains (before after : Streams) (writes : List Write) : Type 0 where
  pub out_gained : Appends before.out_written after.out_written (out_bytes writes)
  pub err_gained : Appends before.err_written after.err_written (err_bytes writes)

-- the first of the writes whole, and a first part of the next one
pub data IsCut : List Write → List Write → Type 0 where
  here : {write : Write} {writes : List Write} (n : ℕ) → IsCut (first_bytes n write ∷ []) (write ∷ writes)
  later : {write : Write} {cut writes : List Write} → IsCut cut writes → IsCut (write ∷ cut) (write ∷ writes)

-- the first of the writes whole, at the least none, and nothing more
abbrev pub IsStart : List Write → List Write → Type 0
IsStart start writes = (rest : List Write) × (writes ≡ start ++ rest)

-- the streams, by what each has written
abbrev pub streams : Option (List ℕ) → Option (List ℕ) → Streams
streams out_written err_written = record { out_written = out_written; err_written = err_written }
