-- The bit operators: ToInt32 or ToUint32 of each operand, then the bits of the two's complement. They never stop.
use Rattle.std.specs.Prelude.{ℕ, ℤ, pos, ◌-ℤ◌, ◌/◌, ◌%◌, ◌^◌, nat_le, if◌then◌else◌, Option, None, Some, unsigned_abs}
use Rattle.std.specs.Int.{w32, int_rem_euclid, int_bit_and, int_bit_or, int_bit_xor, int_bit_not, int_shl, int_shr}

-- 7.1.7 ToUint32: NaN gives 0, an integer its value modulo 2^32
unfoldable pub to_uint32 : Option ℤ → ℕ
to_uint32 None = 0
to_uint32 (Some z) = unsigned_abs (int_rem_euclid z (pos (2 ^ 32)))

-- 7.1.6 ToInt32: the same modulo 2^32, from -2^31 to 2^31 - 1
unfoldable pub to_int32 : Option ℤ → ℤ
to_int32 x = if nat_le (2 ^ 31) (to_uint32 x) then pos (to_uint32 x) -ℤ pos (2 ^ 32) else pos (to_uint32 x)

-- how far a shift goes: its count modulo 32
abbrev pub shift_count : Option ℤ → ℕ
shift_count y = to_uint32 y % 32

-- 6.1.6.1.16 NumberBitwiseOp: Number::bitwiseAND, bitwiseXOR and bitwiseOR (6.1.6.1.17 to 6.1.6.1.19)
unfoldable pub bitwise_and : Option ℤ → Option ℤ → Option ℤ
bitwise_and x y = Some (int_bit_and w32 (to_int32 x) (to_int32 y))

unfoldable pub bitwise_or : Option ℤ → Option ℤ → Option ℤ
bitwise_or x y = Some (int_bit_or w32 (to_int32 x) (to_int32 y))

unfoldable pub bitwise_xor : Option ℤ → Option ℤ → Option ℤ
bitwise_xor x y = Some (int_bit_xor w32 (to_int32 x) (to_int32 y))

-- 6.1.6.1.2 Number::bitwiseNOT
unfoldable pub bitwise_not : Option ℤ → Option ℤ
bitwise_not x = Some (int_bit_not w32 (to_int32 x))

-- 6.1.6.1.9 Number::leftShift: the low 32 bits of what is shifted, read as a signed number
unfoldable pub left_shift : Option ℤ → Option ℤ → Option ℤ
left_shift x y = Some (int_shl w32 (to_int32 x) (shift_count y))

-- 6.1.6.1.10 Number::signedRightShift
unfoldable pub signed_right_shift : Option ℤ → Option ℤ → Option ℤ
signed_right_shift x y = Some (int_shr (to_int32 x) (shift_count y))

-- 6.1.6.1.11 Number::unsignedRightShift
unfoldable pub unsigned_right_shift : Option ℤ → Option ℤ → Option ℤ
unsigned_right_shift x y = Some (pos (to_uint32 x / 2 ^ shift_count y))
