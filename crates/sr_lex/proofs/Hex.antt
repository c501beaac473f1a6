-- Hexadecimal digits at the front of some units.
use Rattle.std.proofs.Common.{◌≡◌, ℕ, suc, ◌+◌, ◌*◌, ◌<◌, Bool, true, false, ◌&&◌, List, [], ◌∷◌, ◌++◌, length, refl, ap, ◌∙◌, arith}
use Rattle.std.specs.Prelude.{min, fold}
use Rattle.std.specs.List.{list_all}
use Rattle.std.specs.Char.{digit_value}
use Rattle.sr_lex.specs.Strings.{is_hex_digit, hex_value}
use Rattle.sr_lex.specs.Scan.{hex_from}
use Rattle.sr_lex.proofs.Truth.{and_true, and_in}

abbrev pub begins_with_hex : List ℕ → Bool
begins_with_hex [] = false
begins_with_hex (u ∷ us) = is_hex_digit u

-- the value of the digits after those of this value
abbrev pub hex_after : ℕ → List ℕ → ℕ
hex_after v ds = fold (λ n d. n * 16 + digit_value d) v ds

abbrev pub cap : ℕ → ℕ
cap n = min n 0x110000

cap_step : (v d : ℕ) → cap (cap v * 16 + d) ≡ cap (v * 16 + d)
cap_step v d = omega arith

-- the digits at the front are counted, with their value
pub hex_run : (ds rest : List ℕ) (n v : ℕ) → list_all is_hex_digit ds ≡ true → begins_with_hex rest ≡ false
    → hex_from n (cap v) (ds ++ rest) ≡ record { digits = n + length ds; value = cap (hex_after v ds) }
hex_run [] [] n v a b = let z : n ≡ n + 0 = omega arith in rw (← z) refl
hex_run [] (u ∷ rest) n v a b = let z : n ≡ n + 0 = omega arith in rw b (rw (← z) refl)
hex_run (d ∷ ds) rest n v a b =
    let p = and_true (is_hex_digit d) (list_all is_hex_digit ds) a in
    let z : n + 1 + length ds ≡ n + suc (length ds) = omega arith in
    let ih = hex_run ds rest (n + 1) (v * 16 + digit_value d) p.1 b in
    rw (p.0) (ap (λ (x : ℕ). hex_from (n + 1) x (ds ++ rest)) (cap_step v (digit_value d)) ∙ ih
    ∙ ap (λ (i : ℕ). record { digits = i; value = cap (hex_after (v * 16 + digit_value d) ds) }) z)

-- all of them
pub record Split (us : List ℕ) : Type 0 where
  pub digits : List ℕ
  pub rest : List ℕ
  pub is : us ≡ digits ++ rest
  pub hex : list_all is_hex_digit digits ≡ true
  pub ends : begins_with_hex rest ≡ false

pub split : (us : List ℕ) → Split us
split [] = record { digits = []; rest = []; is = refl; hex = refl; ends = refl }
split (u ∷ us) = go (is_hex_digit u) refl (split us)
  where
    go : (b : Bool) → is_hex_digit u ≡ b → Split us → Split (u ∷ us)
    go true e s = record { digits = u ∷ s.digits; rest = s.rest; is = ap (λ (xs : List ℕ). u ∷ xs) s.is; hex = and_in (is_hex_digit u) (list_all is_hex_digit s.digits) e s.hex; ends = s.ends }
    go false e s = record { digits = []; rest = u ∷ us; is = refl; hex = refl; ends = e }

pub hex_split : (us : List ℕ) (s : Split us) → hex_from 0 0 us ≡ record { digits = length s.digits; value = cap (hex_value s.digits) }
hex_split us s =
    let z : 0 ≡ cap 0 = refl in
    let e : 0 + length s.digits ≡ length s.digits = omega arith in
    ap (hex_from 0 0) s.is ∙ hex_run s.digits s.rest 0 0 s.hex s.ends ∙ ap (λ (i : ℕ). record { digits = i; value = cap (hex_value s.digits) }) e

digit_bound : (u : ℕ) → is_hex_digit u ≡ true → digit_value u < 16
unfolding is_hex_digit
digit_bound u h = grind arith

pub two_bound : (a b : ℕ) → list_all is_hex_digit (a ∷ b ∷ []) ≡ true → hex_value (a ∷ b ∷ []) < 0x100
two_bound a b h =
    let p = and_true (is_hex_digit a) (is_hex_digit b && true) h in
    let q = and_true (is_hex_digit b) true p.1 in
    let x = digit_bound a p.0 in
    let y = digit_bound b q.0 in omega arith

pub four_bound : (a b c d : ℕ) → list_all is_hex_digit (a ∷ b ∷ c ∷ d ∷ []) ≡ true → hex_value (a ∷ b ∷ c ∷ d ∷ []) < 0x10000
four_bound a b c d h =
    let p = and_true (is_hex_digit a) (is_hex_digit b && (is_hex_digit c && (is_hex_digit d && true))) h in
    let q = and_true (is_hex_digit b) (is_hex_digit c && (is_hex_digit d && true)) p.1 in
    let r = and_true (is_hex_digit c) (is_hex_digit d && true) q.1 in
    let s = and_true (is_hex_digit d) true r.1 in
    let x = digit_bound a p.0 in
    let y = digit_bound b q.0 in
    let z = digit_bound c r.0 in
    let w = digit_bound d s.0 in omega arith
