-- How expressions begin.
use Rattle.std.proofs.Common.{◌≡◌, ℕ, ◌<◌, Bool, true, false, List, [], ◌∷◌, ◌++◌, length, Some, refl, sym, ap, ◌∙◌, subst, append_assoc, append-nil, arith}
use Rattle.sr_ast.specs.declared.operators.UnaryOp.{UnaryOp}
use Rattle.sr_ast.specs.declared.operators.UpdateOp.{UpdateOp}
use Rattle.sr_syntax.specs.declared.sorts.Sort.{Sort}
use Rattle.sr_syntax.specs.declared.sorts.Sort.TheVariants as k
use Rattle.sr_syntax.specs.declared.sorts.Lexeme.{Lexeme}
use Rattle.sr_syntax.specs.declared.grown.Grown.{Grown}
use Rattle.sr_syntax.specs.declared.grown.Grove.{Grove}
use Rattle.sr_syntax.specs.Sorts.{same_sort}
use Rattle.sr_syntax.specs.Input.{sort_at, place_at}
use Rattle.sr_syntax.specs.Operators.{prefix, update_before}
use Rattle.sr_ast.specs.declared.binding.Parameters.{Parameters}
use Rattle.sr_grammar.specs.Names.{ArrowHead, one_name, in_parentheses}
use Rattle.sr_grammar.specs.Derivations.{Symbol, Derives, Lists, start_of}
use Rattle.sr_grammar.specs.Derivations as g
use Rattle.sr_grammar.proofs.Steps.{not_both, same_sort_true}
use Rattle.sr_grammar.specs.Reading.{end_after}

-- the tokens that expressions begin with
abbrev pub starting : Sort → Bool
starting k.Identifier = true
starting k.Number = true
starting k.Text = true
starting k.TemplateWhole = true
starting k.TemplateHead = true
starting k.False = true
starting k.Null = true
starting k.True = true
starting k.This = true
starting k.New = true
starting k.LeftBracket = true
starting k.LeftBrace = true
starting k.Function = true
starting k.Delete = true
starting k.Typeof = true
starting k.Void = true
starting k.LeftParenthesis = true
starting k.Plus = true
starting k.Minus = true
starting k.Increment = true
starting k.Decrement = true
starting k.Not = true
starting k.BitNot = true
starting _ = false

abbrev pub Starting : List Lexeme → Type 0
Starting us = starting (sort_at us) ≡ true

starts_as : (s t : Sort) → t ≡ s → starting s ≡ true → starting t ≡ true
starts_as s t e h = ap starting e ∙ h

starting_prefix : (s : Sort) (op : UnaryOp) → prefix s ≡ Some op → starting s ≡ true
starting_prefix k.Delete op h = refl
starting_prefix k.Typeof op h = refl
starting_prefix k.Void op h = refl
starting_prefix k.Plus op h = refl
starting_prefix k.Minus op h = refl
starting_prefix k.Not op h = refl
starting_prefix k.BitNot op h = refl
starting_prefix _ op h = cc

starting_update : (s : Sort) (op : UpdateOp) → update_before s ≡ Some op → starting s ≡ true
starting_update k.Increment op h = refl
starting_update k.Decrement op h = refl
starting_update _ op h = cc

behind : (us vs r : List Lexeme) (t : Lexeme) → Starting (us ++ t ∷ (vs ++ r)) → Starting ((us ++ t ∷ vs) ++ r)
behind us vs r t h = subst Starting (sym (append_assoc us (t ∷ vs) r)) h

pub starts_head : {us : List Lexeme} {ps : Parameters} → ArrowHead us ps → (r : List Lexeme) → Starting (us ++ r)
starts_head (one_name t c a) r = starts_as k.Identifier t.sort c refl
starts_head (in_parentheses t c a p) r = starts_as k.LeftParenthesis t.sort c refl

mutual
  pub starts : {d : ℕ} {s : Symbol} {us : List Lexeme} {x : Grown} → Derives d s us x → (r : List Lexeme) → Starting (us ++ r)
  starts (g.single h) = λ r. starts h r
  starts (g.sequence {us} {vs} h t c i) = λ r. behind us vs r t (starts_list h (t ∷ (vs ++ r)))
  starts (g.unassigned h a) = λ r. starts h r
  starts (g.assigned {us} {vs} h a is t c i) = λ r. behind us vs r t (starts h (t ∷ (vs ++ r)))
  starts (g.arrow {us} {vs} h t c l i) = λ r. behind us vs r t (starts_head h (t ∷ (vs ++ r)))
  starts (g.expression_arrow {us} {vs} h t c l o i) = λ r. behind us vs r t (starts_head h (t ∷ (vs ++ r)))
  starts (g.unchosen h) = λ r. starts h r
  starts (g.chosen {us} {vs} {ws} h t c i u e j) = λ r. behind us (vs ++ u ∷ ws) r t (starts h (t ∷ ((vs ++ u ∷ ws) ++ r)))
  starts (g.logical h) = λ r. starts h r
  starts (g.coalesced h) = λ r. starts h r
  starts (g.coalesce {us} {vs} h t c i) = λ r. behind us vs r t (starts h (t ∷ (vs ++ r)))
  starts (g.head_more h) = λ r. starts h r
  starts (g.head_first h) = λ r. starts h r
  starts (g.operand h) = λ r. starts h r
  starts (g.tighter h) = λ r. starts h r
  starts (g.binary {us} {vs} h t c a i) = λ r. behind us vs r t (starts h (t ∷ (vs ++ r)))
  starts (g.unraised h) = λ r. starts h r
  starts (g.raised {us} {vs} h t c i) = λ r. behind us vs r t (starts h (t ∷ (vs ++ r)))
  starts (g.unary {t} {op} c h) = λ r. starting_prefix t.sort op c
  starts (g.no_operator h) = λ r. starts h r
  starts (g.before {t} {op} c h is) = λ r. starting_update t.sort op c
  starts (g.after {us} h is t c l) = λ r. behind us [] r t (starts h (t ∷ r))
  starts (g.no_step h) = λ r. starts h r
  starts (g.bare h is) = λ r. starts h r
  starts (g.chain h) = λ r. starts h r
  starts (g.one_primary h) = λ r. starts h r
  starts (g.one_new h is) = λ r. starts h r
  starts (g.named {us} h t c u e) = λ r. behind us (u ∷ []) r t (starts h (t ∷ u ∷ r))
  starts (g.indexed {us} {vs} h t c i u e) = λ r. behind us (vs ++ u ∷ []) r t (starts h (t ∷ ((vs ++ u ∷ []) ++ r)))
  starts (g.called {us} {vs} h t c a) = λ r. behind us vs r t (starts h (t ∷ (vs ++ r)))
  starts (g.optional_named {us} h t c u e) = λ r. behind us (u ∷ []) r t (starts h (t ∷ u ∷ r))
  starts (g.optional_indexed {us} {vs} h t c w e i u q) = λ r. behind us (w ∷ (vs ++ u ∷ [])) r t (starts h (t ∷ w ∷ ((vs ++ u ∷ []) ++ r)))
  starts (g.optional_called {us} {vs} h t c w e a) = λ r. behind us (w ∷ vs) r t (starts h (t ∷ w ∷ (vs ++ r)))
  starts (g.new_called {t} c h u e a) = λ r. starts_as k.New t.sort c refl
  starts (g.new_bare {t} c h) = λ r. starts_as k.New t.sort c refl
  starts (g.of_member h) = λ r. starts h r
  starts (g.of_bare h is) = λ r. starts h r
  starts (g.member_primary h) = λ r. starts h r
  starts (g.member_new h is) = λ r. starts h r
  starts (g.member_named {us} h t c u e) = λ r. behind us (u ∷ []) r t (starts h (t ∷ u ∷ r))
  starts (g.member_indexed {us} {vs} h t c i u e) = λ r. behind us (vs ++ u ∷ []) r t (starts h (t ∷ ((vs ++ u ∷ []) ++ r)))
  starts (g.this {t} c) = λ r. starts_as k.This t.sort c refl
  starts (g.name {t} c) = λ r. starts_as k.Identifier t.sort c refl
  starts (g.null {t} c) = λ r. starts_as k.Null t.sort c refl
  starts (g.true_literal {t} c) = λ r. starts_as k.True t.sort c refl
  starts (g.false_literal {t} c) = λ r. starts_as k.False t.sort c refl
  starts (g.number {t} c) = λ r. starts_as k.Number t.sort c refl
  starts (g.text {t} c) = λ r. starts_as k.Text t.sort c refl
  starts (g.plain_template {t} c) = λ r. starts_as k.TemplateWhole t.sort c refl
  starts (g.template {t} c w h u e) = λ r. starts_as k.TemplateHead t.sort c refl
  starts (g.array {t} c a) = λ r. starts_as k.LeftBracket t.sort c refl
  starts (g.object {t} c a) = λ r. starts_as k.LeftBrace t.sort c refl
  starts (g.function_alone {t} c a) = λ r. starts_as k.Function t.sort c refl
  starts (g.function_named {t} c e a) = λ r. starts_as k.Function t.sort c refl
  starts (g.parenthesized {t} c h u e) = λ r. starts_as k.LeftParenthesis t.sort c refl

  starts_list : {d : ℕ} {b : Bool} {us : List Lexeme} {from : ℕ} {xs : Grove} → Lists b d us from xs → (r : List Lexeme) → Starting (us ++ r)
  starts_list (g.one h) = λ r. starts h r
  starts_list (g.one_more {us} {vs} h t c i) = λ r. behind us vs r t (starts_list h (t ∷ (vs ++ r)))

-- a token with which expressions begin is not one with which they do not
pub not_close : (v t : Sort) → starting v ≡ false → starting t ≡ true → same_sort t v ≡ false
not_close v t e f = go (same_sort t v) refl
  where
    go : (b : Bool) → same_sort t v ≡ b → same_sort t v ≡ false
    go true is = absurd (not_both f (ap starting (same_sort_true t v is) ∙ e))
    go false is = is

-- what begins has a token
starts_some : (us : List Lexeme) → Starting us → 0 < length us
starts_some [] e = absurd (not_both e refl)
starts_some (t ∷ us) e = omega arith

pub some_tokens : {d : ℕ} {s : Symbol} {us : List Lexeme} {x : Grown} → Derives d s us x → 0 < length us
some_tokens {us} h = subst (λ zs. 0 < length zs) (append-nil us) (starts_some (us ++ []) (starts h []))

-- where it begins
place_in : (n : ℕ) (us r : List Lexeme) → 0 < length us → place_at n (us ++ r) ≡ start_of us
place_in n [] r some = absurd (omega (arith, some))
place_in n (t ∷ us) r some = refl

pub place_of : {d : ℕ} {s : Symbol} {us : List Lexeme} {x : Grown} → Derives d s us x → (n : ℕ) (r : List Lexeme) → place_at n (us ++ r) ≡ start_of us
place_of {us} h n r = place_in n us r (some_tokens h)

-- and ends
pub end_some : (l m : ℕ) (us : List Lexeme) → 0 < length us → end_after l us ≡ end_after m us
end_some l m [] some = absurd (omega (arith, some))
end_some l m (t ∷ us) some = refl
