-- How what an operator stands before or after begins.
use Rattle.std.proofs.Common.{◌≡◌, ℕ, Bool, false, List, [], ◌∷◌, ◌++◌, None, Some, refl, sym, subst, append_assoc}
use Rattle.sr_ast.specs.declared.operators.UpdateOp.{UpdateOp}
use Rattle.sr_syntax.specs.declared.sorts.Sort.{Sort}
use Rattle.sr_syntax.specs.declared.sorts.Sort.TheVariants as k
use Rattle.sr_syntax.specs.declared.sorts.Lexeme.{Lexeme}
use Rattle.sr_syntax.specs.declared.grown.Grown.{Grown}
use Rattle.sr_syntax.specs.Sorts.{same_sort}
use Rattle.sr_syntax.specs.Input.{sort_at}
use Rattle.sr_syntax.specs.Operators.{prefix, update_before}
use Rattle.sr_grammar.specs.Derivations.{Derives, New, Chain, Primary, Left, Update}
use Rattle.sr_grammar.specs.Derivations as g

-- what a token is that begins no Left
pub record NoOperator (s : Sort) : Type 0 where
  pub prefix : prefix s ≡ None
  pub update : update_before s ≡ None

like : (s t : Sort) → t ≡ s → NoOperator s → NoOperator t
like s t e h = subst NoOperator (sym e) h

-- and what one is that begins a Primary
pub record NoNew (s : Sort) : Type 0 where
  pub operator : NoOperator s
  pub new : same_sort s k.New ≡ false

first_of : (s t : Sort) → t ≡ s → NoNew s → NoNew t
first_of s t e h = subst NoNew (sym e) h

pub primary_head : {d : ℕ} {us : List Lexeme} {x : Grown} → Derives d Primary us x → (r : List Lexeme) → NoNew (sort_at (us ++ r))
unfolding same_sort
primary_head (g.this {t} c) r = first_of k.This t.sort c (record { operator = record { prefix = refl; update = refl }; new = refl })
primary_head (g.name {t} c) r = first_of k.Identifier t.sort c (record { operator = record { prefix = refl; update = refl }; new = refl })
primary_head (g.null {t} c) r = first_of k.Null t.sort c (record { operator = record { prefix = refl; update = refl }; new = refl })
primary_head (g.true_literal {t} c) r = first_of k.True t.sort c (record { operator = record { prefix = refl; update = refl }; new = refl })
primary_head (g.false_literal {t} c) r = first_of k.False t.sort c (record { operator = record { prefix = refl; update = refl }; new = refl })
primary_head (g.number {t} c) r = first_of k.Number t.sort c (record { operator = record { prefix = refl; update = refl }; new = refl })
primary_head (g.text {t} c) r = first_of k.Text t.sort c (record { operator = record { prefix = refl; update = refl }; new = refl })
primary_head (g.plain_template {t} c) r = first_of k.TemplateWhole t.sort c (record { operator = record { prefix = refl; update = refl }; new = refl })
primary_head (g.template {t} c w h u e) r = first_of k.TemplateHead t.sort c (record { operator = record { prefix = refl; update = refl }; new = refl })
primary_head (g.array {t} c a) r = first_of k.LeftBracket t.sort c (record { operator = record { prefix = refl; update = refl }; new = refl })
primary_head (g.object {t} c a) r = first_of k.LeftBrace t.sort c (record { operator = record { prefix = refl; update = refl }; new = refl })
primary_head (g.function_alone {t} c a) r = first_of k.Function t.sort c (record { operator = record { prefix = refl; update = refl }; new = refl })
primary_head (g.function_named {t} c e a) r = first_of k.Function t.sort c (record { operator = record { prefix = refl; update = refl }; new = refl })
primary_head (g.parenthesized {t} c h u e) r = first_of k.LeftParenthesis t.sort c (record { operator = record { prefix = refl; update = refl }; new = refl })

-- a New begins with `new`
pub new_first : {d : ℕ} {us : List Lexeme} {x : Grown} → Derives d New us x → (r : List Lexeme) → sort_at (us ++ r) ≡ k.New
new_first (g.new_called {t} c h u e a) r = c
new_first (g.new_bare {t} c h) r = c

new_head : {d : ℕ} {us : List Lexeme} {x : Grown} → Derives d New us x → (r : List Lexeme) → NoOperator (sort_at (us ++ r))
new_head {us} h r = like k.New (sort_at (us ++ r)) (new_first h r) (record { prefix = refl; update = refl })

behind : (us vs r : List Lexeme) → NoOperator (sort_at (us ++ (vs ++ r))) → NoOperator (sort_at ((us ++ vs) ++ r))
behind us vs r h = subst (λ zs. NoOperator (sort_at zs)) (sym (append_assoc us vs r)) h

chain_head : {d : ℕ} {c : Bool} {us : List Lexeme} {x : Grown} → Derives d (Chain c) us x → (r : List Lexeme) → NoOperator (sort_at (us ++ r))
chain_head (g.one_primary h) r = (primary_head h r).operator
chain_head (g.one_new h is) r = new_head h r
chain_head (g.named {us} h t c u e) r = behind us (t ∷ u ∷ []) r (chain_head h (t ∷ u ∷ r))
chain_head (g.indexed {us} {vs} h t c i u e) r = behind us (t ∷ (vs ++ u ∷ [])) r (chain_head h (t ∷ ((vs ++ u ∷ []) ++ r)))
chain_head (g.called {us} {vs} h t c a) r = behind us (t ∷ vs) r (chain_head h (t ∷ (vs ++ r)))
chain_head (g.optional_named {us} h t c u e) r = behind us (t ∷ u ∷ []) r (chain_head h (t ∷ u ∷ r))
chain_head (g.optional_indexed {us} {vs} h t c w e i u q) r = behind us (t ∷ w ∷ (vs ++ u ∷ [])) r (chain_head h (t ∷ w ∷ ((vs ++ u ∷ []) ++ r)))
chain_head (g.optional_called {us} {vs} h t c w e a) r = behind us (t ∷ w ∷ vs) r (chain_head h (t ∷ w ∷ (vs ++ r)))

pub left_head : {d : ℕ} {us : List Lexeme} {x : Grown} → Derives d Left us x → (r : List Lexeme) → NoOperator (sort_at (us ++ r))
left_head (g.bare h is) r = new_head h r
left_head (g.chain h) r = chain_head h r

no_prefix : (s : Sort) (op : UpdateOp) → update_before s ≡ Some op → prefix s ≡ None
no_prefix k.Increment op h = refl
no_prefix k.Decrement op h = refl
no_prefix _ op h = cc

pub update_head : {d : ℕ} {us : List Lexeme} {x : Grown} → Derives d Update us x → (r : List Lexeme) → prefix (sort_at (us ++ r)) ≡ None
update_head (g.before {t} {op} c h is) r = no_prefix t.sort op c
update_head (g.after {us} h is t c l) r = subst (λ zs. prefix (sort_at zs) ≡ None) (sym (append_assoc us (t ∷ []) r)) ((left_head h (t ∷ r)).prefix)
update_head (g.no_step h) r = (left_head h r).prefix
