-- The marker of a failure: what stands at its place, where that is something that is left out of the language by name. Each
-- definition is of the units from that place on.
use Rattle.std.specs.Prelude.{ℕ, suc, ◌+◌, ◌*◌, Bool, true, false, not, ◌||◌, ◌&&◌, ◌==◌, nat_lt, if◌then◌else◌, List, [], ◌∷◌, take, drop, Option, Some, None}
use Rattle.std.specs.Char.{digit_value}
use Rattle.sr_num.specs.StringToNumber.{named_base}
use Rattle.sr_text.specs.declared.marker.Marker.{Marker}
use Rattle.sr_text.specs.declared.marker.Marker.TheVariants.{NumberForm, Bigint, UnsafeLiteral, IdentifierEscape, NonAscii, Hash, At}
use Rattle.sr_lex.specs.Units.{begins_with_digit, begins_with}
use Rattle.sr_lex.specs.Strings.{backslash}
use Rattle.sr_lex.specs.Numbers.{digit_zero, separator, begins_with_name_part, begins_with_full_stop}

-- the first of the units is a digit of the base
abbrev pub begins_with_digit_of : ℕ → List ℕ → Bool
begins_with_digit_of base [] = false
begins_with_digit_of base (u ∷ us) = nat_lt (digit_value u) base

-- how many units the digits of the base at the front have, with one `_` between two of them; the flag says that a digit stands
-- before these units
abbrev pub run_len : ℕ → Bool → List ℕ → ℕ
run_len base after [] = 0
run_len base after (u ∷ us) =
    if nat_lt (digit_value u) base then suc (run_len base true us)
    else (if after && (u == separator && begins_with_digit_of base us) then suc (run_len base false us) else 0)

-- these digits, and the units behind them
abbrev pub run_at : ℕ → List ℕ → List ℕ
run_at base us = take (run_len base false us) us

abbrev pub behind_run : ℕ → List ℕ → List ℕ
behind_run base us = drop (run_len base false us) us

-- the value of such digits, after digits of this value
abbrev pub run_value : ℕ → ℕ → List ℕ → ℕ
run_value base v [] = v
run_value base v (u ∷ us) = if u == separator then run_value base v us else run_value base (v * base + digit_value u) us

-- decimal digits before `.`, `e` or `E`, or `.` before a digit (ECMA-262 12.9.3 DecimalLiteral)
unfoldable pub is_number_form : List ℕ → Bool
is_number_form us =
    let after = behind_run 10 us in
    (begins_with_digit us && (begins_with 0x2E after || (begins_with 0x65 after || begins_with 0x45 after)))
    || (begins_with 0x2E us && begins_with_digit (drop 1 us))

-- digits of the base before `n` (12.9.3 BigIntLiteralSuffix)
unfoldable pub is_bigint_in : ℕ → List ℕ → Bool
is_bigint_in base us = begins_with_digit_of base us && begins_with 0x6E (behind_run base us)

-- those of a base that is named, or decimal ones
abbrev pub is_bigint_of : Option ℕ → List ℕ → Bool
is_bigint_of None us = is_bigint_in 10 us
is_bigint_of (Some base) us = is_bigint_in base (drop 2 us)

-- digits of the base above 2^53 - 1, before no unit of a name
unfoldable pub is_unsafe_in : ℕ → List ℕ → Bool
is_unsafe_in base us = nat_lt 9007199254740991 (run_value base 0 (run_at base us)) && not (begins_with_name_part (behind_run base us))

-- those of a base that is named, or decimal ones without a leading 0, before no full stop
abbrev pub is_unsafe_of : Option ℕ → List ℕ → Bool
is_unsafe_of None us = is_unsafe_in 10 us && not (begins_with digit_zero us || begins_with_full_stop (behind_run 10 us))
is_unsafe_of (Some base) us = is_unsafe_in base (drop 2 us)

-- the marker of a character that begins no token
unfoldable pub marker_of_unit : ℕ → Option Marker
marker_of_unit u =
    if u == backslash then Some IdentifierEscape
    else (if nat_lt 0x7F u then Some NonAscii
    else (if u == 0x23 then Some Hash
    else (if u == 0x40 then Some At else None)))

-- the marker of what stands at the front
unfoldable pub marker_of : List ℕ → Option Marker
marker_of [] = None
marker_of (u ∷ us) =
    if is_number_form (u ∷ us) then Some NumberForm
    else (if is_bigint_of (named_base (u ∷ us)) (u ∷ us) then Some Bigint
    else (if is_unsafe_of (named_base (u ∷ us)) (u ∷ us) then Some UnsafeLiteral
    else marker_of_unit u))

-- the marker of the failure at a place of a text
abbrev pub failure_marker : List ℕ → ℕ → Option Marker
failure_marker text at = marker_of (drop at text)
