-- One character of a string literal or a template piece.
use Rattle.std.proofs.Common.{◌≡◌, ℕ, zero, suc, ◌+◌, ◌≢◌, List, [], ◌++◌, drop, refl, sym, ap, ◌∙◌, arith, append_assoc}
use Rattle.std.specs.Prelude.{Option, Some, None, option_map, IfSome}
use Rattle.sr_lex.proofs.Truth.{nonzero}
use Rattle.sr_lex.specs.Scan.{closing_len, character, Literal, before, literal, meant_units}
use Rattle.sr_lex.specs.declared.characters.Character.{Character}

-- the units of a literal after so many, and its value after this one
abbrev pub len_from : ℕ → Option Literal → Option ℕ
len_from at None = None
len_from at (Some l) = Some (at + l.units)

abbrev pub value_from : List ℕ → Option Literal → Option (List ℕ)
value_from vs None = None
value_from vs (Some l) = Some (vs ++ l.value)

-- what is known of a literal's value says it of the literal
pub value_some : (o : Option Literal) (vs : List ℕ) → option_map (λ l. l.value) o ≡ Some vs → IfSome o (λ l. vs ≡ l.value)
value_some None vs h = cc
value_some (Some l) vs h = cc

pub value_none : (o : Option Literal) (vs : List ℕ) → option_map (λ l. l.value) o ≡ None → IfSome o (λ l. vs ≡ l.value)
value_none None vs h = tt
value_none (Some l) vs h = cc

pub closes : (m n quote : ℕ) (us : List ℕ) → closing_len quote us ≡ suc n → literal (suc m) quote us ≡ Some (record { units = suc n; value = [] })
closes m n quote us h = rw (h, nonzero n) refl

pub goes : (m quote : ℕ) (us : List ℕ) (c : Character) → closing_len quote us ≡ 0 → character quote us ≡ Some c
    → literal (suc m) quote us ≡ option_map (before c) (literal m quote (drop c.units us))
goes m quote us c h e = rw (h, e) refl

pub ends : (m quote : ℕ) (us : List ℕ) → closing_len quote us ≡ 0 → character quote us ≡ None → literal (suc m) quote us ≡ None
ends m quote us h e = rw (h, e) refl

some : (n : ℕ) → n ≢ 0 → (k : ℕ) × (n ≡ suc k)
some zero h = absurd (h refl)
some (suc n) h = (n, refl)

pub literal_closes : (k m quote : ℕ) (us : List ℕ) → k ≡ suc m → closing_len quote us ≢ 0
    → literal k quote us ≡ Some (record { units = closing_len quote us; value = [] })
literal_closes k m quote us e h =
    let n = some (closing_len quote us) h in
    ap (λ (i : ℕ). literal i quote us) e ∙ closes m n.0 quote us n.1 ∙ ap (λ (i : ℕ). Some (record { units = i; value = [] })) (sym n.1)

pub literal_ends : (k m quote : ℕ) (us : List ℕ) → k ≡ suc m → closing_len quote us ≡ 0 → character quote us ≡ None → literal k quote us ≡ None
literal_ends k m quote us e h n = ap (λ (i : ℕ). literal i quote us) e ∙ ends m quote us h n

len_before : (at : ℕ) (c : Character) (o : Option Literal) → len_from at (option_map (before c) o) ≡ len_from (at + c.units) o
len_before at c None = refl
len_before at c (Some l) = ap Some (omega arith)

value_before : (vs : List ℕ) (c : Character) (o : Option Literal) → value_from vs (option_map (before c) o) ≡ value_from (vs ++ meant_units c.meaning) o
value_before vs c None = refl
value_before vs c (Some l) = ap Some (sym (append_assoc vs (meant_units c.meaning) l.value))

pub len_goes : (k m quote at : ℕ) (us : List ℕ) (c : Character) → k ≡ suc m → closing_len quote us ≡ 0 → character quote us ≡ Some c
    → len_from at (literal k quote us) ≡ len_from (at + c.units) (literal m quote (drop c.units us))
len_goes k m quote at us c e h n =
    ap (λ (i : ℕ). len_from at (literal i quote us)) e ∙ ap (len_from at) (goes m quote us c h n) ∙ len_before at c (literal m quote (drop c.units us))

pub value_goes : (k m quote : ℕ) (vs us : List ℕ) (c : Character) → k ≡ suc m → closing_len quote us ≡ 0 → character quote us ≡ Some c
    → value_from vs (literal k quote us) ≡ value_from (vs ++ meant_units c.meaning) (literal m quote (drop c.units us))
value_goes k m quote vs us c e h n =
    ap (λ (i : ℕ). value_from vs (literal i quote us)) e ∙ ap (value_from vs) (goes m quote us c h n) ∙ value_before vs c (literal m quote (drop c.units us))
