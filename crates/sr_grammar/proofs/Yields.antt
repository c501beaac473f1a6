-- What holds of whatever a parser reads.
use Rattle.std.proofs.Common.{◌≡◌, ℕ, ◌≤◌, Bool, true, false, Err, refl, sym, ◌∙◌, arith, if◌then◌else◌, nat_lt}
use Rattle.std.proofs.lemmas.Bool.{ltb-true}
use Rattle.sr_ast.specs.declared.tree.Node.{Node}
use Rattle.sr_syntax.specs.declared.grown.Grown.{Grown}
use Rattle.sr_syntax.specs.declared.refusal.Refusal.TheVariants.{TooDeep}
use Rattle.sr_syntax.specs.Input.{Input, Parser, ◌>>=◌, pure, refuse, complete, max_depth}
use Rattle.sr_grammar.proofs.Steps.{done, along, ending, bind_ok, complete_is}

pub record Yields {A : Type 0} (P : Parser A) (Q : A → Type 0) : Type 0 where
  pub yields : (i j : Input) (x : A) → P i ≡ done x j → Q x

abbrev pub Low : Grown → Type 0
Low x = x.height ≤ max_depth

abbrev pub Whichever : {A : Type 0} → A → Type 0
Whichever x = Unit {0}

pub yields_any : {A : Type 0} (P : Parser A) → Yields P Whichever
yields_any P = record { yields = λ i j x h. tt }

pub yields_pure : {A : Type 0} {a : A} (Q : A → Type 0) → Q a → Yields (pure a) Q
yields_pure Q q = record { yields = λ i j x h. along (λ p. Q p.0) h q }

pub yields_none : {A : Type 0} (Q : A → Type 0) → Yields (refuse {A = A}) Q
yields_none Q = record { yields = λ i j x h. cc }

pub yields_bind : {A B : Type 0} {P : Parser A} {f : A → Parser B} {Q : A → Type 0} {R : B → Type 0} → Yields P Q → ((x : A) → Q x → Yields (f x) R) → Yields (P >>= f) R
yields_bind {P} {f} p g = record { yields = λ i j x h. let b = bind_ok (P i) f (x, j) h in (g b.0 (p.yields i b.1 b.0 b.2)).yields b.1 j x b.3 }

-- behind whatever is read
pub yields_behind : {A B : Type 0} (P : Parser A) {f : A → Parser B} {R : B → Type 0} → ((x : A) → Yields (f x) R) → Yields (P >>= f) R
yields_behind P g = yields_bind (yields_any P) (λ x u. g x)

pub yields_if : {A : Type 0} {p q : Parser A} {Q : A → Type 0} (b : Bool) → Yields p Q → Yields q Q → Yields (if b then p else q) Q
yields_if true p q = p
yields_if false p q = q

pub yields_whole : (node : Node) (from tall : ℕ) → Yields (complete node from tall) Low
yields_whole node from tall = record { yields = λ i j x h. go i j x (nat_lt tall max_depth) refl h }
  where
    go : (i j : Input) (x : Grown) (b : Bool) → nat_lt tall max_depth ≡ b → complete node from tall i ≡ done x j → Low x
    go i j x true is h =
        let got : done (ending node from i.last tall) i ≡ done x j = sym (complete_is node from tall i.rest i.last i.size true is) ∙ h in
        along (λ p. Low p.0) got (omega (arith, ltb-true tall max_depth is))
    go i j x false is h = let got : Err TooDeep ≡ done x j = sym (complete_is node from tall i.rest i.last i.size false is) ∙ h in cc
