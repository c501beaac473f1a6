-- What stands between braces, what begins it, and what begins a function.
use Rattle.std.proofs.Common.{◌≡◌, ℕ, ◌+◌, ◌≤◌, max, List, [], ◌∷◌, ◌++◌, None, refl, ap, ◌∙◌, subst, append_assoc, arith}
use Rattle.sr_ast.specs.declared.binding.Parameters.{Parameters}
use Rattle.sr_syntax.specs.declared.sorts.Sort.TheVariants as k
use Rattle.sr_syntax.specs.declared.sorts.Lexeme.{Lexeme}
use Rattle.sr_syntax.specs.declared.grown.Grove.{Grove}
use Rattle.sr_syntax.specs.Input.{max_depth}
use Rattle.sr_syntax.specs.Operators.{none, with}
use Rattle.sr_syntax.specs.Bodies.{parameters_of}
use Rattle.sr_grammar.specs.Names.{comma_before, no_names}
use Rattle.sr_grammar.specs.Derivations.{IsItem, Items, Body, Function}
use Rattle.sr_grammar.specs.Derivations as g
use Rattle.sr_grammar.proofs.Depths.{lift_item, lift_items}
use Rattle.sr_grammar.proofs.Facts.{token, BeginsOne}
use Rattle.sr_grammar.proofs.Followed.{same_first, closing_brace, items_before}
use Rattle.sr_grammar.proofs.Beginnings.{Begun, begun_more, begun_whole, carry}
use Rattle.sr_grammar.proofs.ParameterFacts.{ParamList, param_list}

-- ---- items up to a brace

-- what stands behind a brace: items, and the brace that closes them
pub data Braced : ℕ → List Lexeme → Grove → Type 0 where
  braced : {d : ℕ} {us ts : List Lexeme} {xs : Grove} (u : Lexeme) → u.sort ≡ k.RightBrace → Items d us (u ∷ ts) xs → Braced d (us ++ u ∷ []) xs

pub max_fits : (a b : ℕ) → a ≤ max_depth → b ≤ max_depth → max a b ≤ max_depth
max_fits a b h k = omega (arith, h, k)

-- a brace may close what stands there
pub close_items : {d : ℕ} {vs ts : List Lexeme} {found : Grove} → Items d vs ts found → Begun Braced (vs ++ [])
close_items {d} {vs} {ts} {found} w = begun_more d vs [] (token k.RightBrace ∷ []) found (braced {ts = []} (token k.RightBrace) refl (items_before (closing_brace refl) w))

-- one more that is begun
pub begun_item : {d : ℕ} {vs : List Lexeme} {found : Grove} (us ts : List Lexeme) → Items d vs (us ++ ts) found → BeginsOne IsItem us → Begun Braced (vs ++ us)
begun_item [] ts w b = close_items w
begun_item {d} {vs} {found} (t ∷ us) ts w b =
    let m : ℕ = d + b.depth in
    let brace : List Lexeme = token k.RightBrace ∷ [] in
    let before : Items m vs (((t ∷ us) ++ b.more) ++ brace) found = lift_items d m (omega arith) (items_before (same_first refl) w) in
    begun_more m vs (t ∷ us) (b.more ++ brace) (with found b.made)
    (subst (λ zs. Braced m zs (with found b.made)) (append_assoc vs ((t ∷ us) ++ b.more) brace ∙ ap (λ zs. vs ++ zs) (append_assoc (t ∷ us) b.more brace))
    (braced {ts = []} (token k.RightBrace) refl (g.one_more_item before (lift_item b.depth m (omega arith) (b.is brace refl)))))

-- ---- bodies

pub body_of : {d : ℕ} {us : List Lexeme} {xs : Grove} (t : Lexeme) → t.sort ≡ k.LeftBrace → Braced d us xs → Body d (t ∷ us) xs
body_of t c (braced u e h) = g.body t c u e h

-- no items at all
pub empty_body : {d : ℕ} → Body d (token k.LeftBrace ∷ token k.RightBrace ∷ []) none
empty_body = g.body {ts = []} (token k.LeftBrace) refl (token k.RightBrace) refl g.no_items

-- ---- functions, behind their names

-- the parameters and the items of the body
abbrev pub Parts : Type 0
Parts = Parameters × Grove

abbrev pub FunctionOf : ℕ → List Lexeme → Parts → Type 0
FunctionOf d us p = Function d us p.0 p.1

pub function_from : {d e : ℕ} {us vs : List Lexeme} {ps : Parameters} {xs : Grove} → ParamList e us ps → Body d vs xs → Function d (us ++ vs) ps xs
function_from (param_list t c p) h = g.function t c p h

-- parameters that are begun, with no items
pub parameters_begin : {us : List Lexeme} → Begun ParamList us → Begun FunctionOf us
parameters_begin b = carry [] (λ e vs ps h. record { depth = 0; more = token k.LeftBrace ∷ token k.RightBrace ∷ []; made = (ps, none); has = function_from h empty_body }) b

pub body_begins : {d : ℕ} {us vs : List Lexeme} {ps : Parameters} → ParamList d us ps → Begun Body vs → Begun FunctionOf (us ++ vs)
body_begins {us = us} {ps = ps} h b = carry us (λ e vs xs i. begun_whole e (us ++ vs) (ps, xs) (function_from h i)) b

-- no parameters, and no items
abbrev pub empty_tokens : List Lexeme
empty_tokens = token k.LeftParenthesis ∷ token k.RightParenthesis ∷ token k.LeftBrace ∷ token k.RightBrace ∷ []

pub empty_function : {d : ℕ} → Function d empty_tokens (parameters_of [] None) none
empty_function = g.function (token k.LeftParenthesis) refl (comma_before no_names (token k.RightParenthesis) refl) empty_body

-- a name and a function
pub data NamedFunction : ℕ → List Lexeme → Parts → Type 0 where
  named_function : {e : ℕ} {us : List Lexeme} {p : Parts} (u : Lexeme) → u.sort ≡ k.Identifier → Function e us p.0 p.1 → NamedFunction e (u ∷ us) p

-- no name
pub unnamed : Begun NamedFunction []
unnamed = begun_more 0 [] [] _ (parameters_of [] None, none) (named_function (token k.Identifier) refl empty_function)

-- a name, and what begins a function
pub name_begins : {us : List Lexeme} (u : Lexeme) → u.sort ≡ k.Identifier → Begun FunctionOf us → Begun NamedFunction (u ∷ us)
name_begins u c b = carry (u ∷ []) (λ e vs p h. begun_whole e (u ∷ vs) p (named_function u c h)) b
