-- The arguments of `print`, one after another.
use Rattle.std.proofs.Common.{◌≡◌, refl, ap, ap₂, ◌<◌, ◌≤◌, ℕ, zero, suc, List, [], ◌∷◌, ◌++◌, length, take, drop, length-drop, arith, slice_set, None, Some}
use Rattle.std.specs.Prelude.{slice_get}
use Rattle.std.proofs.lemmas.List.{length-map, drop_all, take_all}
use Rattle.sr_value.specs.declared.value.Value.{Value}
use Rattle.sr_value.specs.declared.value.Value.TheVariants.{Str}
use Rattle.sr_model.specs.Values as model
use Rattle.sr_model.specs.Scripts.{Pay}
use Rattle.sr_conv.specs.Conversions.{to_text}
use Rattle.sr_conv.specs.Plain.{value_of}
use Rattle.sr_state.specs.Step.{plain}
use Rattle.sr_realm.specs.Errors.{type_error}
use Rattle.sr_state.specs.Errors.{throw_new}
use Rattle.sr_state.specs.Trees.{computed, text_in}
use Rattle.sr_call.specs.Parts.{line_of}
use Rattle.sr_call.specs.Rows.{print_joined, print_rest}
use Rattle.sr_call.specs.Stages.{texts_in, rest_at, after_turn, turn, turn_at}

drop_there : (vs : List Value) (n : ℕ) (v : Value) → Some v ≡ slice_get vs n → drop n (plain vs) ≡ value_of v ∷ drop (suc n) (plain vs)
drop_there [] zero v e = cc
drop_there [] (suc n) v e = cc
drop_there (w ∷ vs) zero v e = let same : w ≡ v = cc in ap (λ x. value_of x ∷ plain vs) same
drop_there (w ∷ vs) (suc n) v e = drop_there vs n v e

drop_past : (vs : List Value) (n : ℕ) → None ≡ slice_get vs n → drop n (plain vs) ≡ []
drop_past [] zero e = refl
drop_past [] (suc n) e = refl
drop_past (w ∷ vs) zero e = cc
drop_past (w ∷ vs) (suc n) e = drop_past vs n e

-- the turn of an argument that is there, and of one that is not
pub turn_there : (vs : List Value) (n : ℕ) (v : Value) → Some v ≡ slice_get vs n → turn_at n (plain vs) ≡ computed (to_text (value_of v)) (after_turn n (plain vs))
turn_there vs n v e = ap (λ x. turn x (texts_in (take n (plain vs)))) (drop_there vs n v e)

pub turn_past : (vs : List Value) (n : ℕ) → None ≡ slice_get vs n → turn_at n (plain vs) ≡ throw_new type_error
turn_past vs n e = ap (λ x. turn x (texts_in (take n (plain vs)))) (drop_past vs n e)

rest_pays : (vs : List model.Value) (texts : List model.Text) → 0 < length vs → print_rest vs texts ≡ Pay 0 (turn vs texts)
rest_pays [] texts p = absurd (omega arith)
rest_pays (v ∷ vs) texts p = refl

-- with an argument left it pays, and with none the line is made
pub rest_there : (vs : List Value) (n : ℕ) → n < length vs → rest_at n (plain vs) ≡ Pay 0 (turn_at n (plain vs))
rest_there vs n p = rest_pays (drop n (plain vs)) (texts_in (take n (plain vs))) (omega (arith, length-map vs value_of, length-drop n (plain vs)))

pub rest_past : (vs : List Value) (n : ℕ) → length vs ≤ n → rest_at n (plain vs) ≡ print_joined (line_of vs)
rest_past vs n p =
    let q : length (plain vs) ≤ n = omega (arith, length-map vs value_of) in
    ap₂ (λ x y. print_rest x (texts_in y)) (drop_all n (plain vs) q) (take_all n (plain vs) q)

drop_put : (vs : List Value) (n : ℕ) (w : Value) → drop (suc n) (plain (slice_set vs n w)) ≡ drop (suc n) (plain vs)
drop_put [] n w = refl
drop_put (v ∷ vs) zero w = refl
drop_put (v ∷ vs) (suc n) w = drop_put vs n w

texts_put : (vs : List Value) (n : ℕ) (s : model.Text) → n < length vs → texts_in (take (suc n) (plain (slice_set vs n (Str s)))) ≡ texts_in (take n (plain vs)) ++ s ∷ []
texts_put [] n s p = absurd (omega arith)
texts_put (v ∷ vs) zero s p = refl
texts_put (v ∷ vs) (suc n) s p = ap (λ x. text_in (value_of v) ∷ x) (texts_put vs n s (omega arith))

-- an argument gives way to its text
pub rest_put : (vs : List Value) (n : ℕ) (s : model.Text) → n < length vs → rest_at (suc n) (plain (slice_set vs n (Str s))) ≡ after_turn n (plain vs) s
rest_put vs n s p = ap₂ print_rest (drop_put vs n (Str s)) (texts_put vs n s p)
