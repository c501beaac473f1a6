-- A name that was declared in an environment is bound there.
use Rattle.std.proofs.Common.{◌≡◌, refl, ap, ◌∙◌, sym, ℕ, zero, suc, ◌≤◌, ◌<◌, Bool, true, false, cond, List, [], ◌∷◌, Option, None, Some, arith, length}
use Rattle.std.specs.Prelude.{is_some, IsSome}
use Rattle.std.specs.Option.{option_map_or}
use Rattle.std.specs.Prelude.{slice_get, slice_set}
use Rattle.sr_model.specs.Values.{Text, same}
use Rattle.sr_model.specs.Environments.{Binding, Bindings, Environment, Uninitialized, bound, created, binding, create_binding}
use Rattle.sr_model.proofs.Same.{same_self}

found : (b : Bool) (y : Binding) (o : Option Binding) → IsSome o → IsSome (cond b (Some y) o)
found true y o h = refl
found false y o h = h

bound_last : (x : Text) (bs : Bindings) → IsSome (bound x (created x bs))
bound_last x [] = rw (same_self x) refl
bound_last x (b ∷ bs) = found (same x b.0) b.1 (bound x (created x bs)) (bound_last x bs)

abbrev pub with_name : Text → Environment → Environment
with_name x e = record e { bindings = created x e.bindings }

later : (x : Text) (e : Environment) (es : List Environment) (i : ℕ) (o : Option Environment)
    → IsSome (binding (option_map_or (λ y. slice_set es i (with_name x y)) o es) (suc i) x)
    → IsSome (binding (option_map_or (λ y. slice_set (e ∷ es) (suc i) (with_name x y)) o (e ∷ es)) (suc (suc i)) x)
later x e es i None h = h
later x e es i (Some y) h = h

bound_at : (es : List Environment) (i : ℕ) (x : Text) → i < length es → IsSome (binding (create_binding es (suc i) x) (suc i) x)
bound_at [] i x p = absurd (omega (arith, p))
bound_at (e ∷ es) zero x p = bound_last x e.bindings
bound_at (e ∷ es) (suc i) x p = later x e es i (slice_get es i) (bound_at es i x (omega (arith, p)))

pub bound_there : (es : List Environment) (n : ℕ) (x : Text) → suc n ≤ length es → IsSome (binding (create_binding es (suc n) x) (suc n) x)
bound_there es n x p = bound_at es n x (omega (arith, p))
