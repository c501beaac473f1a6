-- How statements and items begin.
use Rattle.std.proofs.Common.{◌≡◌, ℕ, ◌<◌, Bool, true, false, List, [], ◌∷◌, ◌++◌, length, Some, refl, sym, ap, ◌∙◌, subst, append_assoc, append-nil, arith}
use Rattle.sr_ast.specs.declared.binding.HeadKind.{HeadKind}
use Rattle.sr_syntax.specs.declared.sorts.Sort.TheVariants as k
use Rattle.sr_syntax.specs.declared.sorts.Sort.{Sort}
use Rattle.sr_syntax.specs.declared.sorts.Lexeme.{Lexeme}
use Rattle.sr_syntax.specs.declared.grown.Grown.{Grown}
use Rattle.sr_syntax.specs.Sorts.{same_sort}
use Rattle.sr_syntax.specs.Input.{sort_at}
use Rattle.sr_grammar.specs.Names.{lexical_word}
use Rattle.sr_grammar.specs.Derivations.{States, IsItem, items_in_braces, begins_statement}
use Rattle.sr_grammar.specs.Derivations as g
use Rattle.sr_grammar.proofs.Steps.{not_both, same_sort_true}
use Rattle.sr_grammar.proofs.Starting.{starting, starts}

-- the tokens that statements begin with
abbrev pub stating : Sort → Bool
stating k.Function = false
stating k.Var = true
stating k.Semicolon = true
stating k.If = true
stating k.Do = true
stating k.While = true
stating k.For = true
stating k.Continue = true
stating k.Break = true
stating k.Return = true
stating k.Throw = true
stating k.Debugger = true
stating k.Switch = true
stating k.Try = true
stating s = starting s

-- and those that items begin with
abbrev pub itemizing : Sort → Bool
itemizing k.Function = true
itemizing k.Let = true
itemizing k.Const = true
itemizing s = stating s

expression_stating : (s : Sort) → starting s ≡ true → begins_statement s ≡ false → stating s ≡ true
expression_stating k.Function e f = cc
expression_stating k.Var e f = refl
expression_stating k.Semicolon e f = refl
expression_stating k.If e f = refl
expression_stating k.Do e f = refl
expression_stating k.While e f = refl
expression_stating k.For e f = refl
expression_stating k.Continue e f = refl
expression_stating k.Break e f = refl
expression_stating k.Return e f = refl
expression_stating k.Throw e f = refl
expression_stating k.Debugger e f = refl
expression_stating k.Switch e f = refl
expression_stating k.Try e f = refl
expression_stating _ e f = e

-- the first of some tokens is that of those and more
first_of : (us r : List Lexeme) → starting (sort_at us) ≡ true → sort_at (us ++ r) ≡ sort_at us
first_of [] r e = cc
first_of (t ∷ us) r e = refl

pub states_begin : {d : ℕ} {us ts : List Lexeme} {x : Grown} → States d us ts x → (r : List Lexeme) → stating (sort_at (us ++ r)) ≡ true
states_begin (g.expression_statement {us} {vs} b a h e) r =
    let begun : starting (sort_at us) ≡ true = subst (λ zs. starting (sort_at zs) ≡ true) (append-nil us) (starts h []) in
    subst (λ zs. stating (sort_at zs) ≡ true) (sym (append_assoc us vs r)) (ap stating (first_of us (vs ++ r) begun) ∙ expression_stating (sort_at us) begun b)
states_begin (g.block (items_in_braces t c u e w)) r = ap stating c
states_begin (g.empty t c) r = ap stating c
states_begin (g.var t c w e) r = ap stating c
states_begin (g.if_alone t c i h e) r = ap stating c
states_begin (g.if_else t c i u h e j) r = ap stating c
states_begin (g.do_alone t c u h e i j) r = ap stating c
states_begin (g.do_ended t c u v h e i j) r = ap stating c
states_begin (g.while t c i h) r = ap stating c
states_begin (g.for t u c e f p q h) r = ap stating c
states_begin (g.for_in t u v w i c e f o p h q m j) r = ap stating c
states_begin (g.for_of t u v w i c e f o p h q m j) r = ap stating c
states_begin (g.for_in_target t u c e z is i p h q m j) r = ap stating c
states_begin (g.for_of_target t u c e z is i p h q m j) r = ap stating c
states_begin (g.continue_alone t c e) r = ap stating c
states_begin (g.continue_to t u c i l e) r = ap stating c
states_begin (g.break_alone t c e) r = ap stating c
states_begin (g.break_from t u c i l e) r = ap stating c
states_begin (g.return_alone t c e) r = ap stating c
states_begin (g.return_value t c l h e) r = ap stating c
states_begin (g.throw t c l h e) r = ap stating c
states_begin (g.debugger t c e) r = ap stating c
states_begin (g.switch t c i u e v f w) r = ap stating c
states_begin (g.try_catch t c b h e) r = ap stating c
states_begin (g.try_finally t c b h) r = ap stating c
states_begin (g.try_both t c b h f) r = ap stating c
states_begin (g.labelled t u c a e h) r = ap stating c

stating_item : (s : Sort) → stating s ≡ true → itemizing s ≡ true
stating_item k.Function e = refl
stating_item k.Let e = refl
stating_item k.Const e = refl
stating_item _ e = e

lexical_item : (s : Sort) (how : HeadKind) → lexical_word s ≡ Some how → itemizing s ≡ true
lexical_item k.Let how e = refl
lexical_item k.Const how e = refl
lexical_item _ how e = cc

pub item_begins : {d : ℕ} {us ts : List Lexeme} {x : Grown} → IsItem d us ts x → (r : List Lexeme) → itemizing (sort_at (us ++ r)) ≡ true
item_begins (g.statement {us} h) r = stating_item (sort_at (us ++ r)) (states_begin h r)
item_begins (g.function_item t u c e w) r = ap itemizing c
item_begins (g.lexical {how} t c w e) r = lexical_item t.sort how c

-- a token with which items begin is not one with which they do not
pub not_item : (v s : Sort) → itemizing v ≡ false → itemizing s ≡ true → same_sort s v ≡ false
not_item v s e f = go (same_sort s v) refl
  where
    go : (b : Bool) → same_sort s v ≡ b → same_sort s v ≡ false
    go true is = absurd (not_both f (ap itemizing (same_sort_true s v is) ∙ e))
    go false is = is

some_begin : (us : List Lexeme) → itemizing (sort_at us) ≡ true → 0 < length us
some_begin [] e = absurd (not_both e refl)
some_begin (t ∷ us) e = omega arith

pub item_some : {d : ℕ} {us ts : List Lexeme} {x : Grown} → IsItem d us ts x → 0 < length us
item_some {us} h = subst (λ zs. 0 < length zs) (append-nil us) (some_begin (us ++ []) (item_begins h []))
