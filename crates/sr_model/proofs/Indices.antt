-- A string is an array index exactly where it is the decimal numeral of one.
use Rattle.std.proofs.Common.{◌≡◌, ℕ, Bool, true, false, ◌&&◌, List, Option, None, Some, refl, ap, subst, ◌∙◌, lit≤, cond}
use Rattle.std.specs.Prelude.{nat_le}
use Rattle.std.specs.Str.Parse.{digits_value}
use Rattle.std.proofs.lemmas.Option.{cond_some}
use borrow.Author.Tests.{leb-true, le-leb}
use Rattle.sr_text.specs.Numerals.{IsIndexKey, numeral_of}
use Rattle.sr_text.proofs.IndexKeys.{numerals}
use Rattle.sr_model.specs.Values.{same}
use Rattle.sr_model.specs.Keys.{array_index}
use Rattle.sr_model.proofs.Same.{same_from, same_tells}

both_true : (a b : Bool) → (a && b) ≡ true → (a ≡ true) × (b ≡ true)
both_true true b h = (refl, h)
both_true false b h = cc

-- the answer for the value of the digits
answer : List ℕ → ℕ → Option ℕ
answer units n = cond (nat_le n 4294967294 && same units (numeral_of n 10)) (Some n) None

answer_known : (units : List ℕ) (n : ℕ) → IsIndexKey units n → answer units n ≡ Some n
unfolding answer
answer_known units n key =
    let within : nat_le n 4294967294 ≡ true = le-leb n 4294967294 key.within in
    let numeral : same units (numeral_of n 10) ≡ true = same_from units (numeral_of n 10) key.numeral in
    rw (within, numeral) refl

pub index_of_key : (units : List ℕ) (n : ℕ) → IsIndexKey units n → array_index units ≡ Some n
unfolding array_index answer
index_of_key units n key =
    let value : digits_value 10 units ≡ n = ap (digits_value 10) key.numeral ∙ (numerals n 10 (lit≤ tt) (lit≤ tt)).value in
    ap (answer units) value ∙ answer_known units n key

pub key_of_index : (units : List ℕ) (n : ℕ) → array_index units ≡ Some n → IsIndexKey units n
unfolding array_index
key_of_index units n e =
    let value = digits_value 10 units in
    let parts = cond_some (nat_le value 4294967294 && same units (numeral_of value 10)) value n e in
    let tests = both_true (nat_le value 4294967294) (same units (numeral_of value 10)) parts.0 in
    subst (IsIndexKey units) parts.1
    (record { within = leb-true value 4294967294 tests.0; numeral = same_tells units (numeral_of value 10) tests.1 })

none_found : (units : List ℕ) (o : Option ℕ) → array_index units ≡ o → ((n : ℕ) → ¬ (IsIndexKey units n)) → o ≡ None
none_found units None e none = refl
none_found units (Some n) e none = absurd (none n (key_of_index units n e))

pub no_index : (units : List ℕ) → ((n : ℕ) → ¬ (IsIndexKey units n)) → array_index units ≡ None
no_index units none = none_found units (array_index units) refl none
