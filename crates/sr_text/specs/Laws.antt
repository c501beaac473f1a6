-- What holds of UTF-8 and of numerals as they are defined here.
use Rattle.std.specs.Prelude.{◌≡◌, ℕ, ◌≤◌, ◌⊎◌, List}
use Rattle.sr_text.specs.Utf8.{Decodes, FirstFault}
use Rattle.sr_text.specs.Encoding.{utf8_of}
use Rattle.sr_text.specs.Numerals.{IsNumeral, numeral_of}

-- bytes are decoded as one list of code units alone
abbrev pub DecodedOnce : Type 0
DecodedOnce = (bytes units others : List ℕ) → Decodes bytes units → Decodes bytes others → units ≡ others

-- bytes that are decoded have no fault
abbrev pub NoFaultWhereDecoded : Type 0
NoFaultWhereDecoded = (bytes units : List ℕ) (at : ℕ) → Decodes bytes units → ¬ (FirstFault bytes at)

-- bytes have one first fault at most
abbrev pub OneFirstFault : Type 0
OneFirstFault = (bytes : List ℕ) (at other : ℕ) → FirstFault bytes at → FirstFault bytes other → at ≡ other

-- and either a first fault or code units that they are decoded as
abbrev pub DecodedOrFaulty : Type 0
DecodedOrFaulty = (bytes : List ℕ) → ((units : List ℕ) × Decodes bytes units) ⊎ ((at : ℕ) × FirstFault bytes at)

-- encoding what was decoded gives the bytes back
abbrev pub EncodesBack : Type 0
EncodesBack = (bytes units : List ℕ) → Decodes bytes units → utf8_of units ≡ bytes

-- a number is written in digits of the radix that are worth it, with no `0` before another digit
abbrev pub NumeralsAreRight : Type 0
NumeralsAreRight = (n radix : ℕ) → 2 ≤ radix → radix ≤ 36 → IsNumeral (numeral_of n radix) n radix
