-- What the rules of arrow functions read, and where they fail.
use Rattle.std.proofs.Common.{◌≡◌, ℕ, suc, ◌<◌, Bool, true, false, not, ◌&&◌, ◌||◌, List, [], ◌∷◌, ◌++◌, length, None, refl, sym, ap, ◌∙◌, subst, append_assoc, append-nil, arith}
use Rattle.sr_ast.specs.declared.tree.Node.TheVariants as node
use Rattle.sr_ast.specs.declared.binding.Parameters.{Parameters}
use Rattle.sr_syntax.specs.declared.sorts.Sort.TheVariants as k
use Rattle.sr_syntax.specs.declared.sorts.Lexeme.{Lexeme}
use Rattle.sr_syntax.specs.declared.grown.Grown.{Grown}
use Rattle.sr_syntax.specs.Sorts.{same_sort}
use Rattle.sr_syntax.specs.Input.{Input, sees, sort, sort_at, ahead, ahead_at, line_before, line_at, place, place_at}
use Rattle.sr_syntax.specs.Bodies.{parameters_of, arrow_token, arrow_parameter, arrow_parameters, arrow_body, arrow_end, arrow, begins_arrow}
use Rattle.sr_syntax.specs.Grammar.{tree}
use Rattle.sr_grammar.specs.Names.{is_arrow, ArrowHead, one_name, in_parentheses}
use Rattle.sr_grammar.specs.Derivations.{Derives, Assign, start_of, whole}
use Rattle.sr_grammar.specs.Derivations as g
use Rattle.sr_grammar.specs.Faults.{Begins}
use Rattle.sr_grammar.specs.Reading.{end_after}
use Rattle.sr_grammar.proofs.Steps.{Fact, Fault, Any, Parses, Both, both, Either, first, second, Never, Nowhere, Looked, looked, Taken, taken, Eaten, ate, absent, Here, here, Chosen, yes, no, ChosenFault, yes_fault, no_fault, map, map_given, given, then_any, bind, look, take, Some_left, place_shallow, eaten, refused, choose_any, not_both, same_sort_true, sort_alike, line_alike, ending, end_append, and_is}
use Rattle.sr_grammar.proofs.Facts.{Derived, Opened, opened, Mapped, mapped, mapping, Closed, closed, closing, finished, end_behind, Start, start, token}
use Rattle.sr_grammar.proofs.Starting.{some_tokens}
use Rattle.sr_grammar.proofs.Lists.{Nested}
use Rattle.sr_grammar.proofs.Targets.{some_assign}
use Rattle.sr_grammar.proofs.Beginnings.{Begun, begun_more, Of, carry, onward, begun_whole, begins_of, Wholly, wholly, Partly, partly}
use Rattle.sr_grammar.proofs.Peeks.{unit_of, unit_shallow}
use Rattle.sr_grammar.proofs.Choices.{not_true, Decided, decided, denied, DecidedFault, decided_fault, denied_fault, deciding, Test, Sees, sees_test, ahead_alike}
use Rattle.sr_grammar.proofs.ParameterFacts.{Bound, bound, bindings, ParamList, param_list, parameter_lists}
use Rattle.sr_grammar.proofs.PlainFunctions.{Braced, body_of, empty_body}
use Rattle.sr_grammar.proofs.OpenFunctions.{Itemed, BeginsItems, begins_items, items_read, braced_of}
use Rattle.sr_grammar.proofs.Sorts.{end_no_left_brace}

-- ---- which tokens begin an arrow function

pub arrow_test : Test begins_arrow is_arrow
unfolding begins_arrow sees sort ahead
arrow_test = record { shows = λ all l n. refl; shallow = λ ts rs same. rw (sort_alike ts rs same) (rw (ahead_alike ts rs same) refl) }

-- ---- what stands before `=>`

abbrev pub HeadOf : ℕ → List Lexeme → Parameters → Type 0
HeadOf e us ps = ArrowHead us ps

-- a name or a parenthesis, with `=>` ahead
arrow_ahead : (ts : List Lexeme) → is_arrow ts ≡ true → same_sort (ahead_at ts) k.Arrow ≡ true
arrow_ahead ts h = (and_is (same_sort (sort_at ts) k.Identifier || same_sort (sort_at ts) k.LeftParenthesis) (same_sort (ahead_at ts) k.Arrow) h).1

head_fact : {d l n : ℕ} {us ts : List Lexeme} {ps : Parameters} → is_arrow (us ++ ts) ≡ true
    → Decided (Sees k.LeftParenthesis) (Wholly ParamList d) (Mapped Bound (λ x. parameters_of (x ∷ []) None)) l n us ts ps → Wholly HeadOf d l n us ts ps
head_fact {ts = ts} h (decided is (wholly (param_list {us = us} t c p))) = wholly (in_parentheses t c (arrow_ahead (t ∷ (us ++ ts)) h) p)
head_fact {d} {l} {n} h (denied is (mapped x (bound {ts} t c e) f)) =
    subst (λ ps. Wholly HeadOf d l n (t ∷ []) ts ps) (sym (f ∙ ap (λ x. parameters_of (x ∷ []) None) e)) (wholly (one_name t c (arrow_ahead (t ∷ ts) h)))

-- a name before `=>`
abbrev arrow_name : Lexeme
arrow_name = record (token k.Identifier) { ahead = k.Arrow }

head_begins : Begun HeadOf []
unfolding same_sort
head_begins = begun_more 0 [] [] (arrow_name ∷ []) _ (one_name arrow_name refl refl)

-- the first token of a list has `=>` ahead
list_begins : (us ts : List Lexeme) → is_arrow (us ++ ts) ≡ true → Begun ParamList us → Begun HeadOf us
list_begins [] ts h b = head_begins
list_begins (u ∷ us) ts h b = go b.has
  where
    go : ParamList b.depth (u ∷ (us ++ b.more)) b.made → Begun HeadOf (u ∷ us)
    go (param_list t c p) = record { depth = 0; more = b.more; made = b.made; has = in_parentheses t c (arrow_ahead (t ∷ (us ++ ts)) h) p }

head_fault : {l n : ℕ} {us ts : List Lexeme} → is_arrow (us ++ ts) ≡ true → DecidedFault (Sees k.LeftParenthesis) (Partly ParamList) Here l n us ts → Partly HeadOf l n us ts
head_fault {us = us} {ts = ts} h (decided_fault is (partly b)) = partly (list_begins us ts h b)
head_fault h (denied_fault is here) = partly head_begins

abbrev Arrowed : List Lexeme → Type 0
Arrowed ts = is_arrow ts ≡ true

pub heads : {d : ℕ} → Parses (λ e. arrow_parameters) d Arrowed (Wholly HeadOf d) (Partly HeadOf)
unfolding arrow_parameters arrow_parameter
heads = map_given (λ l n us ts x m r. head_fact m r) (λ l n us ts m r. head_fault m r) (given (λ ts m. tt)
    (deciding (sees k.LeftParenthesis) (Sees k.LeftParenthesis) (sees_test k.LeftParenthesis) (given (λ ts m. tt) parameter_lists)
    (given (λ ts m. tt) (mapping bindings (λ x. parameters_of (x ∷ []) None)))))

-- where it begins
head_place : {us : List Lexeme} {ps : Parameters} → ArrowHead us ps → (n : ℕ) (r : List Lexeme) → place_at n (us ++ r) ≡ start_of us
head_place (one_name t c a) n r = refl
head_place (in_parentheses t c a p) n r = refl

-- ---- `=>`

abbrev sees_arrow : Input → Bool
sees_arrow i = sees k.Arrow i && not (line_before i)

abbrev SeesArrow : List Lexeme → Bool
SeesArrow ts = same_sort (sort_at ts) k.Arrow && not (line_at ts)

token_test : Test sees_arrow SeesArrow
unfolding sees sort line_before
token_test = record { shows = λ all l n. refl; shallow = λ ts rs same. rw (sort_alike ts rs same) (rw (line_alike ts rs same) refl) }

token_left : (ts : List Lexeme) → SeesArrow ts ≡ true → Some_left ts
token_left [] h = absurd (not_both (and_is (same_sort k.End k.Arrow) false h).1 refl)
token_left (t ∷ ts) h = tt

-- `=>`, with no line end before it
pub data ArrowToken (l n : ℕ) : List Lexeme → List Lexeme → Unit {0} → Type 0 where
  arrow_is : {ts : List Lexeme} {x : Unit {0}} (t : Lexeme) → t.sort ≡ k.Arrow → t.line_before ≡ false → ArrowToken l n (t ∷ []) ts x

token_fact : {l n : ℕ} {us ts : List Lexeme} {x : Unit {0}} → Decided SeesArrow (Taken unit_of) Nowhere l n us ts x → ArrowToken l n us ts x
token_fact (decided is (taken t e)) =
    let both_are = and_is (same_sort t.sort k.Arrow) (not t.line_before) is in
    arrow_is t (same_sort_true t.sort k.Arrow both_are.0) (not_true t.line_before both_are.1)
token_fact (denied is r) = elim r [ ]

token_fault : {l n : ℕ} {us ts : List Lexeme} → DecidedFault SeesArrow Never Here l n us ts → Here l n us ts
token_fault (decided_fault is c) = elim c [ ]
token_fault (denied_fault is h) = h

arrow_tokens : {d : ℕ} → Parses (λ e. arrow_token) d Any ArrowToken Here
unfolding arrow_token
arrow_tokens = map (λ l n us ts x r. token_fact r) (λ l n us ts r. token_fault r)
    (deciding sees_arrow SeesArrow token_test (given token_left (take unit_of unit_shallow)) (given (λ ts m. tt) refused))

-- ---- the whole

abbrev EndFact : Bool → ℕ → ℕ → Parameters → Fact Grown
EndFact has d from ps = Both (Eaten k.LeftBrace) (λ b. Chosen b (Closed (Itemed d) (λ xs. node.Arrow ps xs.trees) (λ xs. from) (λ xs. xs.tall))
    (Closed (Opened (Assign has) d) (λ x. node.ExpressionArrow ps x.tree) (λ x. from) (λ x. x.height)))

abbrev ArrowFact : Bool → ℕ → Fact Grown
ArrowFact has d = Both (Looked place) (λ from. Both (Wholly HeadOf d) (λ ps. Both ArrowToken (λ u. EndFact has d from ps)))

-- the first token of what is not empty
sort_in : (us r : List Lexeme) → 0 < length us → sort_at (us ++ r) ≡ sort_at us
sort_in [] r some = absurd (omega (arith, some))
sort_in (u ∷ us) r some = refl

arrow_fact : {has : Bool} {d l n : ℕ} {us ts : List Lexeme} {x : Grown} → ArrowFact has d l n us ts x → Derived d (Assign has) l n us ts x
unfolding place
arrow_fact {l = l} {n = n} (both {x = from} (looked at) (both {us = us} {x = ps} (wholly h) (both (arrow_is t c line) (both {vs = vs} {ts = ts} (ate u e i) (yes f (closed xs r fits is)))))) =
    let begun : from ≡ start_of us = at ∙ ap (λ zs. place_at n zs) (append_assoc us (t ∷ u ∷ vs) ts) ∙ head_place h n (t ∷ u ∷ (vs ++ ts)) in
    finished fits
    (is ∙ ap (λ a. ending (node.Arrow ps xs.trees) a (end_after u.to vs) xs.tall) begun
    ∙ ap (λ a. ending (node.Arrow ps xs.trees) (start_of us) a xs.tall) (sym (end_append l us (t ∷ u ∷ vs))))
    (end_behind l 0 us (u ∷ vs) t) (g.arrow h t c line (body_of u e (braced_of r)))
arrow_fact (both (looked at) (both (wholly h) (both (arrow_is t c line) (both (ate u e i) (no f r))))) = absurd (not_both i f)
arrow_fact (both (looked at) (both (wholly h) (both (arrow_is t c line) (both (absent e o) (yes f r))))) = absurd (not_both f e)
arrow_fact {l = l} {n = n} (both {x = from} (looked at) (both {us = us} {x = ps} (wholly h) (both (arrow_is t c line) (both {vs = vs} {ts = ts} (absent e o) (no f (closed x (opened i b) fits is)))))) =
    let begun : from ≡ start_of us = at ∙ ap (λ zs. place_at n zs) (append_assoc us (t ∷ vs) ts) ∙ head_place h n (t ∷ (vs ++ ts)) in
    finished fits
    (is ∙ ap (λ a. ending (node.ExpressionArrow ps x.tree) a (end_after t.to vs) x.height) begun
    ∙ ap (λ a. ending (node.ExpressionArrow ps x.tree) (start_of us) a x.height) (sym (end_append l us (t ∷ vs))))
    (end_behind l 0 us vs t) (g.expression_arrow h t c line (ap (λ s. same_sort s k.LeftBrace) (sym (sort_in vs ts (some_tokens i))) ∙ o) i)

-- ---- where it fails

head_of_arrow : {has : Bool} {us : List Lexeme} → Begun HeadOf us → Begun (Of (Assign has)) us
head_of_arrow b = onward (λ e vs ps h. record { depth = 0; more = token k.Arrow ∷ token k.LeftBrace ∷ token k.RightBrace ∷ []; made = _; has = g.arrow h (token k.Arrow) refl refl empty_body }) b

items_of_arrow : {has : Bool} {us vs : List Lexeme} {ps : Parameters} (t u : Lexeme) → ArrowHead us ps → t.sort ≡ k.Arrow → t.line_before ≡ false → u.sort ≡ k.LeftBrace
    → Begun Braced vs → Begun (Of (Assign has)) (us ++ t ∷ u ∷ vs)
items_of_arrow {has} {us} {vs} {ps} t u h c line e b = subst (λ zs. Begun (Of (Assign has)) zs) (append_assoc us (t ∷ u ∷ []) vs)
    (carry (us ++ t ∷ u ∷ []) (λ m ws xs w.
    let z : Grown = whole (node.Arrow ps xs.trees) (start_of us) (us ++ t ∷ u ∷ ws) xs.tall in
    begun_whole m ((us ++ t ∷ u ∷ []) ++ ws) z (subst (λ zs. Derives m (Assign has) zs z) (sym (append_assoc us (t ∷ u ∷ []) ws)) (g.arrow h t c line (body_of u e w)))) b)

value_of_arrow : {has : Bool} {us : List Lexeme} {ps : Parameters} (vs ts : List Lexeme) (t : Lexeme) → ArrowHead us ps → t.sort ≡ k.Arrow → t.line_before ≡ false
    → same_sort (sort_at (vs ++ ts)) k.LeftBrace ≡ false → Begins (Assign has) vs → Begun (Of (Assign has)) (us ++ t ∷ vs)
unfolding same_sort
value_of_arrow {has} {us} [] ts t h c line o s = begun_more 4 us (t ∷ []) (token k.Identifier ∷ []) _ (g.expression_arrow h t c line refl (some_assign has))
value_of_arrow {us = us} (v ∷ vs) ts t h c line o s = begun_more (suc s.open_at_most) us (t ∷ v ∷ vs) s.more _ (g.expression_arrow h t c line o s.derives)

abbrev ArrowFault : Bool → ℕ → Fault
ArrowFault has d = Either Never (Looked place) (λ from. Either (Partly HeadOf) (Wholly HeadOf d) (λ ps. Either Here ArrowToken (λ u. Either Never (Eaten k.LeftBrace) (λ b. ChosenFault b BeginsItems (Start (Assign has))))))

arrow_fault : {has : Bool} {d l n : ℕ} {us ts : List Lexeme} → ArrowFault has d l n us ts → Start (Assign has) l n us ts
arrow_fault (first c) = elim c [ ]
arrow_fault (second (looked at) (first (partly b))) = start (begins_of (head_of_arrow b))
arrow_fault (second (looked at) (second {us} {x = ps} (wholly h) (first here))) = start (begins_of (head_of_arrow (begun_whole 0 (us ++ []) ps (subst (λ zs. ArrowHead zs ps) (sym (append-nil us)) h))))
arrow_fault (second (looked at) (second (wholly h) (second (arrow_is t c line) (first r)))) = elim r [ ]
arrow_fault (second (looked at) (second (wholly h) (second (arrow_is t c line) (second (ate u e i) (yes_fault f (begins_items b)))))) = start (begins_of (items_of_arrow t u h c line e b))
arrow_fault (second (looked at) (second (wholly h) (second (arrow_is t c line) (second (ate u e i) (no_fault f r))))) = absurd (not_both i f)
arrow_fault (second (looked at) (second (wholly h) (second (arrow_is t c line) (second (absent e o) (yes_fault f r))))) = absurd (not_both f e)
arrow_fault {ts = ts} (second (looked at) (second (wholly h) (second (arrow_is t c line) (second {vs = vs} (absent e o) (no_fault f (start s)))))) = start (begins_of (value_of_arrow vs ts t h c line o s))

pub arrows : (has : Bool) (d : ℕ) → Nested d → Parses (λ e. arrow (tree e) has) d Arrowed (Derived d (Assign has)) (Start (Assign has))
unfolding arrow arrow_end arrow_body
arrows has d nest = map (λ l n us ts x r. arrow_fact r) (λ l n us ts r. arrow_fault r)
    (bind (λ l n us ts from m r. still m r) (given {M = Arrowed} (λ ts m. tt) (look place place_shallow)) (λ from.
    then_any heads (λ ps. then_any arrow_tokens (λ u. then_any (eaten k.LeftBrace end_no_left_brace) (λ b. choose_any b
    (closing (items_read d nest) (λ xs. node.Arrow ps xs.trees) (λ xs. from) (λ xs. xs.tall))
    (closing (nest.assign has) (λ x. node.ExpressionArrow ps x.tree) (λ x. from) (λ x. x.height)))))))
  where
    still : {l n from : ℕ} {us ts : List Lexeme} → Arrowed (us ++ ts) → Looked place l n us ts from → Arrowed ts
    still m (looked e) = m
