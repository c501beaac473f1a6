-- The line of `print`.
use Rattle.std.proofs.Common.{◌≡◌, sym, ap, ◌∙◌, ◌≤◌, ℕ, zero, suc, List, [], ◌∷◌, ◌++◌, length, take, arith, append-nil, length-append}
use Rattle.std.proofs.lemmas.List.{take_all}
use Rattle.std.specs.List.{flat_map}
use Rattle.sr_value.specs.declared.value.Value.{Value}
use Rattle.sr_model.specs.Values.{Text}
use Rattle.sr_conv.specs.Plain.{value_of}
use Rattle.sr_state.specs.Trees.{text_in}
use Rattle.sr_call.specs.Parts.{line_of}

-- a space, and the text that a value is
abbrev pub spaced : Value → Text
spaced v = 0x20 ∷ text_in (value_of v)

-- the line of a value and the first of some others
abbrev pub line_to : Value → List Value → ℕ → Text
line_to v vs n = text_in (value_of v) ++ flat_map spaced (take n vs)

joined_is : (v : Value) (vs : List Value) → line_of (v ∷ vs) ≡ text_in (value_of v) ++ flat_map spaced vs
joined_is v [] = sym (append-nil (text_in (value_of v)))
joined_is v (w ∷ vs) = ap (λ x. text_in (value_of v) ++ 0x20 ∷ x) (joined_is w vs)

fewer : (vs : List Value) (n : ℕ) → length (flat_map spaced (take n vs)) ≤ length (flat_map spaced vs)
fewer vs zero = omega arith
fewer [] (suc n) = omega arith
fewer (v ∷ vs) (suc n) = let h = fewer vs n in omega (arith, length-append (spaced v) (flat_map spaced (take n vs)), length-append (spaced v) (flat_map spaced vs))

-- it is no longer than that of all
pub line_within : (all : List Value) (v : Value) (vs : List Value) (n : ℕ) (line : Text) → all ≡ v ∷ vs → line ≡ line_to v vs n → length line ≤ length (line_of all)
line_within all v vs n line e is =
    let s = text_in (value_of v) in
    let h = fewer vs n in
    let same : line_of all ≡ s ++ flat_map spaced vs = ap (λ (x : List Value). line_of x) e ∙ joined_is v vs in
    omega (arith, ap length same, ap length is, length-append s (flat_map spaced (take n vs)), length-append s (flat_map spaced vs))

-- with none left it is that of all
pub line_whole : (v : Value) (vs : List Value) (n : ℕ) → length vs ≤ n → line_to v vs n ≡ line_of (v ∷ vs)
line_whole v vs n p = ap (λ x. text_in (value_of v) ++ flat_map spaced x) (take_all n vs p) ∙ sym (joined_is v vs)
