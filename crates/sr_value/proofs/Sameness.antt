-- Values are the same exactly where the plain data of both are.
use Rattle.std.proofs.Common.{◌≡◌, ◌≢◌, ℕ, Bool, true, false, ◌&&◌, List, Option, None, Some, refl, sym, ap, subst, nat_eq}
use Rattle.std.specs.Prelude.{ℤ, IsTrue, ◌↔◌}
use Rattle.std.proofs.lemmas.Bool.Decides.{Decides-int_eq}
use borrow.Author.Tests.{eq-eqb}
use Rattle.sr_model.proofs.Same.{same_self, same_tells}
use Rattle.sr_model.specs.Values.{same}
use Rattle.sr_model.specs.Sameness.{same_truth, same_description, same_symbol, same_number, same_value}
use Rattle.sr_value.specs.declared.value.Value.{Value}
use Rattle.sr_value.specs.declared.value.Value.TheVariants.{Undefined, Null, Bool as Truth, Num, Str, Sym, Obj}
use Rattle.sr_value.specs.declared.symbol.Symbol.{Symbol}
use Rattle.sr_value.specs.declared.symbol.Symbol.TheVariants.{WellKnown, Registered, Made}
use Rattle.sr_value.specs.declared.symbol.MadeSymbol.{MadeSymbol}
use Rattle.sr_value.specs.declared.symbol.WellKnown.TheVariants.{Iterator, ToPrimitive, ToStringTag}
use Rattle.sr_value.specs.Equality.{IsSameValue}
use Rattle.sr_value.specs.Exact.{symbols_one}
use Rattle.sr_value.specs.Plain.{symbol_of, value_of}
use Rattle.sr_tag.specs.Reference.{Reference}

and_in : (a b : Bool) → a ≡ true → b ≡ true → (a && b) ≡ true
and_in true b h k = k
and_in false b h k = cc

-- the test of the one is the test of the other
pub same_test : (a b : Bool) → (a ≡ true → b ≡ true) → (b ≡ true → a ≡ true) → a ≡ b
same_test true b f g = sym (f refl)
same_test false true f g = cc (g refl)
same_test false false f g = refl

-- ---- what is one is the same

description_self : (d : Option (List ℕ)) → same_description d d ≡ true
description_self None = refl
description_self (Some t) = same_self t

made_symbol_self : (m : MadeSymbol) → same_symbol (symbol_of (Made m)) (symbol_of (Made m)) ≡ true
made_symbol_self m =
    let path = same_self m.maker in
    let number = eq-eqb m.number m.number refl in
    and_in (same m.maker m.maker && nat_eq m.number m.number) (same_description m.description m.description)
    (and_in (same m.maker m.maker) (nat_eq m.number m.number) path number)
    (description_self m.description)

pub symbol_self : (s : Symbol) → same_symbol (symbol_of s) (symbol_of s) ≡ true
symbol_self (WellKnown Iterator) = refl
symbol_self (WellKnown ToPrimitive) = refl
symbol_self (WellKnown ToStringTag) = refl
symbol_self (Registered t) = same_self t
symbol_self (Made m) = made_symbol_self m

value_self : (x : Value) → same_value (value_of x) (value_of x) ≡ true
value_self Undefined = refl
value_self Null = refl
value_self (Truth true) = refl
value_self (Truth false) = refl
value_self (Num None) = refl
value_self (Num (Some z)) = (Decides-int_eq z z).1 refl
value_self (Str t) = same_self t
value_self (Sym s) = symbol_self s
value_self (Obj r) = eq-eqb _ _ refl

-- ---- what is the same is one

pub truths_one : (a b : Bool) → same_truth a b ≡ true → a ≡ b
truths_one true true h = refl
truths_one true false h = cc
truths_one false true h = cc
truths_one false false h = refl

numbers_one : (m n : Option ℤ) → same_number m n ≡ true → m ≡ n
numbers_one None None h = refl
numbers_one None (Some b) h = cc
numbers_one (Some a) None h = cc
numbers_one (Some a) (Some b) h = ap Some ((Decides-int_eq a b).0 h)

values_one : (x y : Value) → ((r : Reference) → x ≢ Obj r) → same_value (value_of x) (value_of y) ≡ true → x ≡ y
values_one (Obj r) y n h = absurd (n r refl)
values_one Undefined Undefined n h = refl
values_one Null Null n h = refl
values_one (Truth a) (Truth b) n h = ap Truth (truths_one a b h)
values_one (Num a) (Num b) n h = ap Num (numbers_one a b h)
values_one (Str s) (Str t) n h = ap Str (same_tells s t h)
values_one (Sym a) (Sym b) n h = ap Sym (symbols_one a b h)
values_one x y n h = cc

-- what is no object is the same as another value exactly where both are one
pub same_value_is : (x y : Value) (b : Bool) → ((r : Reference) → x ≢ Obj r) → (IsTrue b ↔ IsSameValue x y) → b ≡ same_value (value_of x) (value_of y)
same_value_is x y b n h =
    same_test b (same_value (value_of x) (value_of y))
    (λ t. subst (λ (z : Value). same_value (value_of x) (value_of z) ≡ true) (h.0 t) (value_self x))
    (λ t. h.1 (values_one x y n t))
