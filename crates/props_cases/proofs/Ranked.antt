-- A text is ranked as the array index that it is the numeral of, or as a text.
use Rattle.std.proofs.Common.{◌≡◌, ℕ, Bool, true, false, ◌&&◌, List, nat_le, ◌==◌, refl, sym, ap, ◌∙◌, true≢false, if◌then◌else◌, le-leb, leb-true, lit≤}
use Rattle.std.specs.Cmp.Lexicographic.{pointwise}
use Rattle.std.specs.Str.Parse.{digits_value}
use Rattle.std.proofs.lemmas.Slice.Eq.{bytes_eq-Decides}
use Rattle.sr_text.specs.Numerals.{IsIndexKey, numeral_of}
use Rattle.sr_text.proofs.IndexKeys.{numerals}
use Rattle.sr_props.specs.declared.key.Rank.TheVariants.{Index, Text}
use Rattle.props_cases.specs.Ranks.{rank_of_text}

abbrev is_numeral : List ℕ → ℕ → Bool
is_numeral units n = nat_le n 4294967294 && pointwise ◌==◌ units (numeral_of n 10)

both : (a b : Bool) → a ≡ true → b ≡ true → a && b ≡ true
both a b p q = rw (p, q) refl

first_of : (a b : Bool) → a && b ≡ true → a ≡ true
first_of true b e = refl
first_of false b e = e

second_of : (a b : Bool) → a && b ≡ true → b ≡ true
second_of true b e = e
second_of false b e = absurd (true≢false (sym e))

pub ranked_index : (units : List ℕ) (n : ℕ) → IsIndexKey units n → rank_of_text units ≡ Index n
ranked_index units n key =
    let value : digits_value 10 units ≡ n = ap (digits_value 10) key.numeral ∙ (numerals n 10 (lit≤ tt) (lit≤ tt)).value in
    let whole : is_numeral units n ≡ true = both _ _ (le-leb n 4294967294 key.within) ((bytes_eq-Decides units (numeral_of n 10)).1 key.numeral) in
    rw (value, whole) refl

pub ranked_text : (units : List ℕ) → ((n : ℕ) → IsIndexKey units n → ⊥) → rank_of_text units ≡ Text
ranked_text units none = by (is_numeral units (digits_value 10 units)) refl
  where
    by : (b : Bool) → is_numeral units (digits_value 10 units) ≡ b → (if b then Index (digits_value 10 units) else Text) ≡ Text
    by true e =
        absurd (none (digits_value 10 units) (record {
          within = leb-true _ _ (first_of _ _ e);
          numeral = (bytes_eq-Decides units (numeral_of (digits_value 10 units) 10)).0 (second_of _ _ e);
        }))
    by false e = refl
