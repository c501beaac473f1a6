-- What the rules of conditions and assignments read, and where they fail.
use Rattle.std.proofs.Common.{◌≡◌, ℕ, suc, ◌+◌, ◌<◌, max, length, Bool, true, false, List, [], ◌∷◌, ◌++◌, Option, None, Some, refl, sym, ap, ◌∙◌, subst, append_assoc, append-nil, arith, if◌then◌else◌}
use Rattle.sr_ast.specs.declared.operators.AssignOp.{AssignOp}
use Rattle.sr_ast.specs.declared.tree.Node.TheVariants as node
use Rattle.sr_syntax.specs.declared.sorts.Sort.TheVariants as k
use Rattle.sr_syntax.specs.declared.sorts.Lexeme.{Lexeme}
use Rattle.sr_syntax.specs.declared.grown.Grown.{Grown}
use Rattle.sr_syntax.specs.Input.{Input, sort, sort_at, place, place_at}
use Rattle.sr_syntax.specs.Operators.{assignment, is_target, gives_name, from_of, tallest, assigns}
use Rattle.sr_syntax.specs.Expressions.{assign_by, assign_or_cond, assign, cond_, chosen, otherwise}
use Rattle.sr_syntax.specs.Bodies.{begins_arrow}
use Rattle.sr_syntax.specs.Grammar.{tree}
use Rattle.sr_grammar.specs.Names.{is_arrow}
use Rattle.sr_grammar.specs.Derivations.{Symbol, Derives, Cond, Short, Assign, start_of, whole}
use Rattle.sr_grammar.specs.Derivations as g
use Rattle.sr_grammar.specs.Faults.{Begins}
use Rattle.sr_grammar.proofs.Steps.{inp, Fact, Fault, Any, Parses, Both, both, Either, first, second, Never, Pure, nothing, Looked, looked, Taken, taken, Eaten, ate, absent, Expected, expected, Here, here, Chosen, yes, no, ChosenFault, yes_fault, no_fault, map, map_given, given, then_any, bind, look, take, Shallow, Some_left, place_shallow, eaten, expecting, purely, choose_any, not_both, ending, end_append, sort_alike}
use Rattle.sr_grammar.proofs.Depths.{lift}
use Rattle.sr_grammar.proofs.Facts.{Derived, derived, Opened, opened, Closed, closed, closing, bare, known_as, finished, end_behind, Start, start, Fill, begins_of_fill, begin_in, begin_as, begin_behind, filled, token}
use Rattle.sr_grammar.proofs.Starting.{place_of, some_tokens}
use Rattle.sr_grammar.proofs.Choices.{Decided, decided, denied, DecidedFault, decided_fault, denied_fault, deciding}
use Rattle.sr_grammar.proofs.ArrowFacts.{arrow_test, arrows}
use Rattle.sr_grammar.proofs.Lists.{Nested}
use Rattle.sr_grammar.proofs.Targets.{a_name, some_assign}
use Rattle.sr_grammar.proofs.Sides.{unit_of, unit_shallow}
use Rattle.sr_grammar.proofs.Rows.{shorts}
use Rattle.sr_grammar.specs.Reading.{end_after}
use Rattle.sr_grammar.proofs.Sorts.{end_no_colon, end_no_question}

-- ---- conditions

abbrev ChosenOneFact : Bool → ℕ → Grown → Fact Grown
ChosenOneFact has d x = Both (Opened (Assign true) d) (λ y. Both (Expected k.Colon) (λ u. Closed (Opened (Assign has) d) (λ z. node.Cond x.tree y.tree z.tree) (λ z. from_of x) (λ z. tallest x.height y.height z.height)))

abbrev CondFact : Bool → ℕ → Fact Grown
CondFact has d = Both (Derived d (Short has)) (λ x. Both (Eaten k.Question) (λ b. Chosen b (ChosenOneFact has d x) (Pure x)))

end_of_cond : (l : ℕ) (us vs ws : List Lexeme) (t u : Lexeme) → end_after u.to ws ≡ end_after l (us ++ t ∷ (vs ++ u ∷ ws))
end_of_cond l us vs ws t u = sym (end_append l us (t ∷ (vs ++ u ∷ ws)) ∙ end_append t.to vs (u ∷ ws))

cond_fact : {has : Bool} {d l n : ℕ} {us ts : List Lexeme} {x : Grown} → CondFact has d l n us ts x → Derived d (Cond has) l n us ts x
cond_fact (both (derived h b) (both (ate t c e) (no f r))) = absurd (not_both e f)
cond_fact (both (derived h b) (both (absent e o) (yes f r))) = absurd (not_both f e)
cond_fact (both (derived h b) (both (absent e o) (no f (nothing is)))) = bare (known_as is (derived (g.unchosen h) b))
cond_fact {l = l} (both {us = us} {x = x} (derived h b) (both (ate t c e) (yes f (both {us = vs} {x = y} (opened i p) (both {vs = ws} (expected u q) (closed z (opened j r) fits is)))))) =
    finished fits (is ∙ ap (λ a. ending (node.Cond x.tree y.tree z.tree) (from_of x) a (tallest x.height y.height z.height)) (end_of_cond l us vs ws t u))
    (sym (end_of_cond l us vs ws t u) ∙ end_of_cond 0 us vs ws t u) (g.chosen h t c i u q j)

-- a condition with any second and third part
fill_cond : {has : Bool} {d e f : ℕ} {us vs ws : List Lexeme} {x y z : Grown} → Derives d (Short has) us x → (t : Lexeme) → t.sort ≡ k.Question → Derives e (Assign true) vs y → (u : Lexeme) → u.sort ≡ k.Colon
    → Derives f (Assign has) ws z → Derives (suc (d + (e + f))) (Cond has) (us ++ t ∷ (vs ++ u ∷ ws)) (whole (node.Cond x.tree y.tree z.tree) (from_of x) (us ++ t ∷ (vs ++ u ∷ ws)) (tallest x.height y.height z.height))
fill_cond {d = d} {e = e} {f = f} h t c i u q j =
    g.chosen (lift d (suc (d + (e + f))) (omega arith) h) t c (lift e (d + (e + f)) (omega arith) i) u q (lift f (d + (e + f)) (omega arith) j)

abbrev CondFault : Bool → ℕ → Fault
CondFault has d = Either (Start (Short has)) (Derived d (Short has)) (λ x. Either Never (Eaten k.Question) (λ b. ChosenFault b
    (Either (Start (Assign true)) (Opened (Assign true) d) (λ y. Either Here (Expected k.Colon) (λ u. Start (Assign has)))) Never))

-- a condition with any third part
cond_middle : {has : Bool} {d e : ℕ} {us vs : List Lexeme} {x y : Grown} → Derives d (Short has) us x → (t : Lexeme) → t.sort ≡ k.Question → Derives e (Assign true) vs y → Fill (Cond has) (us ++ t ∷ vs)
cond_middle {has} {d} {e} {us} {vs} {x} {y} h t c i =
    let u : Lexeme = token k.Colon in
    let ws : List Lexeme = token k.Identifier ∷ [] in
    let z : Grown = whole (node.Cond x.tree y.tree a_name.tree) (from_of x) (us ++ t ∷ (vs ++ u ∷ ws)) (tallest x.height y.height a_name.height) in
    record {
      depth = suc (d + (e + 3));
      more = u ∷ ws;
      made = z;
      derives = subst (λ zs. Derives (suc (d + (e + 3))) (Cond has) zs z) (sym (append_assoc us (t ∷ vs) (u ∷ ws))) (fill_cond h t c i u refl (some_assign has));
    }

behind_more : (us vs ws zs : List Lexeme) (t u : Lexeme) → (us ++ t ∷ (vs ++ u ∷ ws)) ++ zs ≡ us ++ t ∷ (vs ++ u ∷ (ws ++ zs))
behind_more us vs ws zs t u = append_assoc us (t ∷ (vs ++ u ∷ ws)) zs ∙ ap (λ xs. us ++ t ∷ xs) (append_assoc vs (u ∷ ws) zs)

cond_fault : {has : Bool} {d l n : ℕ} {us ts : List Lexeme} → CondFault has d l n us ts → Begins (Cond has) us
cond_fault (first (start s)) = begin_as (λ e vs x h. filled e vs x (g.unchosen h)) s
cond_fault (second h (first c)) = elim c [ ]
cond_fault (second {us = us} (derived h b) (second (ate t c e) (yes_fault f (first (start s))))) = begin_behind us t (λ m vs y i. cond_middle h t c i) s
cond_fault {has} (second {us = us} (derived h b) (second (ate t c e) (yes_fault f (second {us = vs} (opened i p) (first here))))) =
    begins_of_fill (subst (λ zs. Fill (Cond has) (us ++ t ∷ zs)) (sym (append-nil vs)) (cond_middle h t c i))
cond_fault (second {us = us} {x = x} (derived h b) (second (ate t c e) (yes_fault f (second {us = vs} {x = y} (opened i p) (second {vs = ws} (expected u q) (start s)))))) =
    begin_in (λ zs. us ++ t ∷ (vs ++ u ∷ zs)) (λ ws zs. sym (behind_more us vs ws zs t u)) (λ m zs z j. filled _ _ _ (fill_cond h t c i u q j)) ws s
cond_fault (second (derived h b) (second (ate t c e) (no_fault f r))) = elim r [ ]
cond_fault (second (derived h b) (second (absent e o) (yes_fault f r))) = absurd (not_both f e)
cond_fault (second (derived h b) (second (absent e o) (no_fault f r))) = elim r [ ]

conds : (has : Bool) (d : ℕ) → Nested d → Parses (λ e. cond_ (tree e) has) d Any (Derived d (Cond has)) (Start (Cond has))
unfolding cond_ chosen otherwise
conds has d nest = map (λ l n us ts x r. cond_fact r) (λ l n us ts r. start (cond_fault r))
    (then_any (shorts has d nest) (λ x. then_any (eaten k.Question end_no_question) (λ b. choose_any b
    (then_any (nest.assign true) (λ y. then_any (expecting k.Colon end_no_colon) (λ u. closing (nest.assign has) (λ z. node.Cond x.tree y.tree z.tree) (λ z. from_of x) (λ z. tallest x.height y.height z.height))))
    (purely x))))

-- ---- assignments

abbrev look_assigns : Grown → Input → Option AssignOp
look_assigns x i = assigns x i

assigns_shallow : (x : Grown) → Shallow (look_assigns x)
unfolding assigns sort
assigns_shallow x l n ts rs h = rw (sort_alike ts rs h) refl

-- what stands behind a target
record Assigns (x : Grown) (op : AssignOp) (ts : List Lexeme) : Type 0 where
  target : is_target x ≡ true
  sort : assignment (sort_at ts) ≡ Some op

assigns_are : (x : Grown) (op : AssignOp) (ts : List Lexeme) (l n : ℕ) → Some op ≡ assigns x (inp ts l n) → Assigns x op ts
unfolding assigns sort
assigns_are x op ts l n h = go (is_target x) refl h
  where
    go : (a : Bool) → is_target x ≡ a → Some op ≡ (if a then assignment (sort_at ts) else None) → Assigns x op ts
    go true e h = record { target = e; sort = sym h }
    go false e h = cc

assign_needs : (x : Grown) (op : AssignOp) (ts : List Lexeme) → Assigns x op ts → Some_left ts
assign_needs x op [] s = let e = s.sort in cc
assign_needs x op (t ∷ ts) s = tt

abbrev Seen : Grown → Option AssignOp → List Lexeme → Type 0
Seen x None ts = Unit {0}
Seen x (Some op) ts = Assigns x op ts

abbrev AssignBy : Bool → ℕ → ℕ → Grown → Option AssignOp → Fact Grown
AssignBy has d from x None = Pure x
AssignBy has d from x (Some op) =
    Both (Taken unit_of) (λ u. Closed (Opened (Assign has) d) (λ y. node.Assign op x.tree y.tree (gives_name from x)) (λ y. from_of x) (λ y. max x.height y.height))

abbrev AssignByFault : Bool → Option AssignOp → Fault
AssignByFault has None = Never
AssignByFault has (Some op) = Either Never (Taken unit_of) (λ u. Start (Assign has))

assign_bys : (has : Bool) (d : ℕ) → Nested d → (from : ℕ) (x : Grown) (o : Option AssignOp) → Parses (λ e. assign_by (tree e) has from x o) d (Seen x o) (AssignBy has d from x o) (AssignByFault has o)
assign_bys has d nest from x None = given (λ ts m. tt) (purely x)
assign_bys has d nest from x (Some op) = then_any (given (assign_needs x op) (take unit_of unit_shallow))
    (λ u. closing (nest.assign has) (λ y. node.Assign op x.tree y.tree (gives_name from x)) (λ y. from_of x) (λ y. max x.height y.height))

-- the place where it begins was seen before
abbrev AssignFact : Bool → ℕ → Fact Grown
AssignFact has d = Both (Looked place) (λ from. Both (Derived d (Cond has)) (λ x. Both (Looked (look_assigns x)) (λ o. AssignBy has d from x o)))

abbrev AssignFault : Bool → ℕ → Fault
AssignFault has d = Either Never (Looked place) (λ from. Either (Start (Cond has)) (Derived d (Cond has)) (λ x. Either Never (Looked (look_assigns x)) (λ o. AssignByFault has o)))

-- what begins no arrow function
abbrev Plain : List Lexeme → Type 0
Plain ts = is_arrow ts ≡ false

plain_in : (us r : List Lexeme) → 0 < length us → Plain (us ++ r) → Plain us
plain_in [] r some m = absurd (omega (arith, some))
plain_in (u ∷ us) r some m = m

-- nor does its beginning
plain_first : {d : ℕ} {s : Symbol} {us : List Lexeme} {x : Grown} (vs ts : List Lexeme) → Derives d s us x → Plain ((us ++ vs) ++ ts) → Plain us
plain_first {us = us} vs ts h m = plain_in us (vs ++ ts) (some_tokens h) (subst Plain (append_assoc us vs ts) m)

assign_fact : {has : Bool} {d l n : ℕ} {us ts : List Lexeme} {x : Grown} → Plain (us ++ ts) → AssignFact has d l n us ts x → Derived d (Assign has) l n us ts x
unfolding place
assign_fact {ts = ts} m (both (looked at) (both (derived h b) (both {x = None} (looked e) (nothing is)))) = bare (known_as is (derived (g.unassigned h (plain_first [] ts h m)) b))
assign_fact {l = l} {n = n} m (both {x = from} (looked at) (both {us = us} {x = x} (derived h b) (both {ts = ts} {x = Some op} (looked e) (both {vs = vs} (taken t f) (closed y (opened i p) fits is))))) =
    let s = assigns_are x op (t ∷ (vs ++ ts)) (end_after l us) n e in
    let begun : from ≡ start_of us = at ∙ ap (λ zs. place_at n zs) (append_assoc us (t ∷ vs) ts) ∙ place_of h n (t ∷ (vs ++ ts)) in
    finished fits
    (is ∙ ap (λ a. ending (node.Assign op x.tree y.tree (gives_name a x)) (from_of x) (end_after t.to vs) (max x.height y.height)) begun
    ∙ ap (λ a. ending (node.Assign op x.tree y.tree (gives_name (start_of us) x)) (from_of x) a (max x.height y.height)) (sym (end_append l us (t ∷ vs))))
    (end_behind l 0 us vs t) (g.assigned h (plain_first (t ∷ vs) ts h m) s.target t s.sort i)

-- An Assign from a Cond that is begun: where no token is read yet, a name is one.
assign_of_cond : {has : Bool} (us ts : List Lexeme) → Plain (us ++ ts) → Begins (Cond has) us → Begins (Assign has) us
assign_of_cond {has} [] ts m s = record { open_at_most = 3; more = token k.Identifier ∷ []; made = a_name; derives = some_assign has }
assign_of_cond (u ∷ us) ts m s = record { open_at_most = s.open_at_most; more = s.more; made = s.made; derives = g.unassigned s.derives m }

assign_fault : {has : Bool} {d l n : ℕ} {us ts : List Lexeme} → Plain (us ++ ts) → AssignFault has d l n us ts → Start (Assign has) l n us ts
assign_fault m (first c) = elim c [ ]
assign_fault {ts = ts} m (second {vs = us} (looked at) (first (start s))) = start (assign_of_cond us ts m s)
assign_fault m (second (looked at) (second h (first c))) = elim c [ ]
assign_fault m (second (looked at) (second h (second {x = None} (looked e) c))) = elim c [ ]
assign_fault m (second (looked at) (second h (second {x = Some op} (looked e) (first c)))) = elim c [ ]
assign_fault {d = d} {l = l} {n = n} m (second (looked at) (second {us = us} {x = x} (derived h b) (second {ts = ts} {x = Some op} (looked e) (second {vs = vs} (taken t f) (start r))))) =
    let s = assigns_are x op (t ∷ (vs ++ ts)) (end_after l us) n e in
    let plain : Plain us = plain_first (t ∷ vs) ts h m in
    start (begin_behind us t (λ m zs y i. filled (suc (d + m)) (us ++ t ∷ zs) _ (g.assigned (lift d (suc (d + m)) (omega arith) h) plain s.target t s.sort (lift m (d + m) (omega arith) i))) r)

assign_or_conds : (has : Bool) (d : ℕ) → Nested d → Parses (λ e. assign_or_cond (tree e) has) d Plain (Derived d (Assign has)) (Start (Assign has))
unfolding assign_or_cond
assign_or_conds has d nest = map_given (λ l n us ts x m r. assign_fact m r) (λ l n us ts m r. assign_fault m r) (given (λ ts m. tt)
    (then_any (look place place_shallow) (λ from. then_any (conds has d nest)
    (λ x. bind (λ l n us ts o m r. seen x o r) (look (look_assigns x) (assigns_shallow x)) (λ o. assign_bys has d nest from x o)))))
  where
    seen : {l n : ℕ} {us ts : List Lexeme} (x : Grown) (o : Option AssignOp) → Looked (look_assigns x) l n us ts o → Seen x o ts
    seen x None r = tt
    seen {l} {n} x (Some op) (looked {ts} e) = assigns_are x op ts l n e

either_fact : {has : Bool} {d l n : ℕ} {us ts : List Lexeme} {x : Grown} → Decided is_arrow (Derived d (Assign has)) (Derived d (Assign has)) l n us ts x → Derived d (Assign has) l n us ts x
either_fact (decided is r) = r
either_fact (denied is r) = r

either_fault : {has : Bool} {l n : ℕ} {us ts : List Lexeme} → DecidedFault is_arrow (Start (Assign has)) (Start (Assign has)) l n us ts → Start (Assign has) l n us ts
either_fault (decided_fault is r) = r
either_fault (denied_fault is r) = r

pub assigneds : (has : Bool) (d : ℕ) → Nested d → Parses (λ e. assign (tree e) has) d Any (Derived d (Assign has)) (Start (Assign has))
unfolding assign
assigneds has d nest = map (λ l n us ts x r. either_fact r) (λ l n us ts r. either_fault r)
    (deciding begins_arrow is_arrow arrow_test (arrows has d nest) (assign_or_conds has d nest))
