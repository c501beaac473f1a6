-- Keys that compare equal in a table are one: the test of keys is the test of their plain data, and keys with the same plain data are one.
use Rattle.std.proofs.Common.{◌≡◌, ℕ, Bool, true, false, ◌&&◌, List, [], ◌∷◌, Option, None, Some, refl, sym, ap, ◌∙◌, nat_eq}
use Rattle.std.specs.Prelude.{◌==◌}
use Rattle.std.specs.Option.{option_eq}
use Rattle.std.specs.Cmp.Lexicographic.{pointwise}
use borrow.Author.Tests.{eqb-true}
use Rattle.sr_model.proofs.Same.{same_tells}
use Rattle.sr_model.specs.Values.{same}
use Rattle.sr_model.specs.Sameness.{same_description, same_symbol}
use Rattle.sr_model.specs.Keys.{same_key}
use Rattle.sr_value.specs.declared.value.Key.{Key}
use Rattle.sr_value.specs.declared.value.Key.TheVariants as key
use Rattle.sr_value.specs.declared.symbol.Symbol.{Symbol}
use Rattle.sr_value.specs.declared.symbol.Symbol.TheVariants.{WellKnown, Registered, Made}
use Rattle.sr_value.specs.declared.symbol.MadeSymbol.{MadeSymbol}
use Rattle.sr_value.specs.declared.symbol.WellKnown.TheVariants.{Iterator, ToPrimitive, ToStringTag}
use Rattle.sr_value.specs.contracts.value.KeyPartialEq.TheImpl as key_eq
use Rattle.sr_value.specs.contracts.symbol.SymbolPartialEq.TheImpl as symbol_eq
use Rattle.sr_value.specs.Plain.{symbol_of, key_of}

pub and_out : (a b : Bool) → (a && b) ≡ true → (a ≡ true) × (b ≡ true)
and_out true b h = (refl, h)
and_out false b h = cc

-- ---- what has the same plain data is one

descriptions_one : (d e : Option (List ℕ)) → same_description d e ≡ true → d ≡ e
descriptions_one None None h = refl
descriptions_one None (Some t) h = cc
descriptions_one (Some s) None h = cc
descriptions_one (Some s) (Some t) h = ap Some (same_tells s t h)

made_symbols_one : (m n : MadeSymbol) → same_symbol (symbol_of (Made m)) (symbol_of (Made n)) ≡ true → m ≡ n
made_symbols_one m n h =
    let a = and_out (same m.maker n.maker && nat_eq m.number n.number) (same_description m.description n.description) h in
    let b = and_out (same m.maker n.maker) (nat_eq m.number n.number) a.0 in
    let path = same_tells m.maker n.maker b.0 in
    let number = eqb-true m.number n.number b.1 in
    let description = descriptions_one m.description n.description a.1 in
    λ i. record { maker = path i; number = number i; description = description i }

pub symbols_one : (a b : Symbol) → same_symbol (symbol_of a) (symbol_of b) ≡ true → a ≡ b
symbols_one (WellKnown Iterator) (WellKnown Iterator) h = refl
symbols_one (WellKnown ToPrimitive) (WellKnown ToPrimitive) h = refl
symbols_one (WellKnown ToStringTag) (WellKnown ToStringTag) h = refl
symbols_one (Registered s) (Registered t) h = ap Registered (same_tells s t h)
symbols_one (Made m) (Made n) h = ap Made (made_symbols_one m n h)
symbols_one (WellKnown Iterator) b h = cc
symbols_one (WellKnown ToPrimitive) b h = cc
symbols_one (WellKnown ToStringTag) b h = cc
symbols_one (Registered s) (WellKnown Iterator) h = cc
symbols_one (Registered s) (WellKnown ToPrimitive) h = cc
symbols_one (Registered s) (WellKnown ToStringTag) h = cc
symbols_one (Registered s) (Made n) h = cc
symbols_one (Made m) (WellKnown Iterator) h = cc
symbols_one (Made m) (WellKnown ToPrimitive) h = cc
symbols_one (Made m) (WellKnown ToStringTag) h = cc
symbols_one (Made m) (Registered t) h = cc

keys_one : (a b : Key) → same_key (key_of a) (key_of b) ≡ true → a ≡ b
keys_one (key.Text s) (key.Text t) h = ap key.Text (same_tells s t h)
keys_one (key.Sym a) (key.Sym b) h = ap key.Sym (symbols_one a b h)
keys_one (key.Text s) (key.Sym b) h = cc
keys_one (key.Sym a) (key.Text t) h = cc

-- ---- the test of keys in tables is the test of their plain data

pointwise_same : (xs ys : List ℕ) → pointwise ◌==◌ xs ys ≡ same xs ys
pointwise_same [] [] = refl
pointwise_same [] (y ∷ ys) = refl
pointwise_same (x ∷ xs) [] = refl
pointwise_same (x ∷ xs) (y ∷ ys) = ap (λ b. nat_eq x y && b) (pointwise_same xs ys)

description_test : (d e : Option (List ℕ)) → option_eq (pointwise ◌==◌) d e ≡ same_description d e
description_test None None = refl
description_test None (Some t) = refl
description_test (Some s) None = refl
description_test (Some s) (Some t) = pointwise_same s t

in_order : (a b c : Bool) → (a && (b && c)) ≡ ((b && a) && c)
in_order true true c = refl
in_order true false c = refl
in_order false true c = refl
in_order false false c = refl

symbol_test : (a b : Symbol) → symbol_eq.ghosts.eq a b ≡ same_symbol (symbol_of a) (symbol_of b)
symbol_test (WellKnown Iterator) (WellKnown Iterator) = refl
symbol_test (WellKnown Iterator) (WellKnown ToPrimitive) = refl
symbol_test (WellKnown Iterator) (WellKnown ToStringTag) = refl
symbol_test (WellKnown ToPrimitive) (WellKnown Iterator) = refl
symbol_test (WellKnown ToPrimitive) (WellKnown ToPrimitive) = refl
symbol_test (WellKnown ToPrimitive) (WellKnown ToStringTag) = refl
symbol_test (WellKnown ToStringTag) (WellKnown Iterator) = refl
symbol_test (WellKnown ToStringTag) (WellKnown ToPrimitive) = refl
symbol_test (WellKnown ToStringTag) (WellKnown ToStringTag) = refl
symbol_test (Registered s) (Registered t) = pointwise_same s t
symbol_test (Made m) (Made n) =
    ap (λ b. nat_eq m.number n.number && (b && option_eq (pointwise ◌==◌) m.description n.description)) (pointwise_same m.maker n.maker)
    ∙ ap (λ b. nat_eq m.number n.number && (same m.maker n.maker && b)) (description_test m.description n.description)
    ∙ in_order (nat_eq m.number n.number) (same m.maker n.maker) (same_description m.description n.description)
symbol_test (WellKnown Iterator) (Registered t) = refl
symbol_test (WellKnown ToPrimitive) (Registered t) = refl
symbol_test (WellKnown ToStringTag) (Registered t) = refl
symbol_test (WellKnown Iterator) (Made n) = refl
symbol_test (WellKnown ToPrimitive) (Made n) = refl
symbol_test (WellKnown ToStringTag) (Made n) = refl
symbol_test (Registered s) (WellKnown Iterator) = refl
symbol_test (Registered s) (WellKnown ToPrimitive) = refl
symbol_test (Registered s) (WellKnown ToStringTag) = refl
symbol_test (Registered s) (Made n) = refl
symbol_test (Made m) (WellKnown Iterator) = refl
symbol_test (Made m) (WellKnown ToPrimitive) = refl
symbol_test (Made m) (WellKnown ToStringTag) = refl
symbol_test (Made m) (Registered t) = refl

pub key_test : (a b : Key) → key_eq.ghosts.eq a b ≡ same_key (key_of a) (key_of b)
key_test (key.Text s) (key.Text t) = pointwise_same s t
key_test (key.Sym a) (key.Sym b) = symbol_test a b
key_test (key.Text s) (key.Sym b) = refl
key_test (key.Sym a) (key.Text t) = refl

-- keys that compare equal are one
pub exact_key : (a b : Key) → key_eq.ghosts.eq a b ≡ true → a ≡ b
exact_key a b e = keys_one a b (sym (key_test a b) ∙ e)
