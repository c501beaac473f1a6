-- Two values are strictly equal exactly where the plain data of both are.
use Rattle.std.proofs.Common.{◌≡◌, ◌≢◌, Bool, true, false, Option, None, Some, refl, ap, subst}
use Rattle.std.specs.Prelude.{ℤ, IsTrue, ◌↔◌}
use Rattle.std.proofs.lemmas.Bool.Decides.{Decides-int_eq}
use borrow.Author.Tests.{eq-eqb}
use Rattle.sr_model.proofs.Same.{same_self, same_tells}
use Rattle.sr_value.specs.declared.value.Value.{Value}
use Rattle.sr_value.specs.declared.value.Value.TheVariants.{Undefined, Null, Bool as Truth, Num, Str, Sym, Obj}
use Rattle.sr_value.specs.Equality.{IsStrictlyEqual}
use Rattle.sr_value.specs.Exact.{symbols_one}
use Rattle.sr_value.proofs.Sameness.{symbol_self, truths_one, same_test}
use Rattle.sr_tag.specs.Reference.{Reference}
use Rattle.sr_conv.specs.Plain.{value_of}
use Rattle.sr_conv.specs.Comparison.{numbers_equal, is_strictly_equal}

-- ---- what is one is equal

equal_self : (x : Value) → x ≢ Num None → is_strictly_equal (value_of x) (value_of x) ≡ true
equal_self Undefined h = refl
equal_self Null h = refl
equal_self (Truth true) h = refl
equal_self (Truth false) h = refl
equal_self (Num None) h = absurd (h refl)
equal_self (Num (Some z)) h = (Decides-int_eq z z).1 refl
equal_self (Str t) h = same_self t
equal_self (Sym s) h = symbol_self s
equal_self (Obj r) h = eq-eqb _ _ refl

-- ---- what is equal is one

numbers_one : (m n : Option ℤ) → numbers_equal m n ≡ true → (m ≡ n) × (m ≢ None)
numbers_one None n h = cc
numbers_one (Some a) None h = cc
numbers_one (Some a) (Some b) h = (ap Some ((Decides-int_eq a b).0 h), λ e. cc)

equal_one : (x y : Value) → ((r : Reference) → x ≢ Obj r) → is_strictly_equal (value_of x) (value_of y) ≡ true → IsStrictlyEqual x y
equal_one (Obj r) y n h = absurd (n r refl)
equal_one Undefined Undefined n h = (refl, λ e. cc)
equal_one Null Null n h = (refl, λ e. cc)
equal_one (Truth a) (Truth b) n h = (ap Truth (truths_one a b h), λ e. cc)
equal_one (Num a) (Num b) n h = let o = numbers_one a b h in (ap Num o.0, λ e. o.1 (cc))
equal_one (Str s) (Str t) n h = (ap Str (same_tells s t h), λ e. cc)
equal_one (Sym a) (Sym b) n h = (ap Sym (symbols_one a b h), λ e. cc)
equal_one x y n h = cc

pub strictly_equal_is : (x y : Value) (b : Bool) → ((r : Reference) → x ≢ Obj r) → (IsTrue b ↔ IsStrictlyEqual x y) → b ≡ is_strictly_equal (value_of x) (value_of y)
strictly_equal_is x y b n h =
    same_test b (is_strictly_equal (value_of x) (value_of y))
    (λ t. let e = h.0 t in subst (λ (z : Value). is_strictly_equal (value_of x) (value_of z) ≡ true) e.0 (equal_self x e.1))
    (λ t. h.1 (equal_one x y n t))
