-- What the rules of operators with one operand and of `**` read, and where they fail.
use Rattle.std.proofs.Common.{◌≡◌, ℕ, suc, ◌+◌, max, Bool, true, false, not, ◌&&◌, List, [], ◌∷◌, ◌++◌, Option, None, Some, refl, sym, ap, ◌∙◌, subst, append_assoc, append-nil, arith, if◌then◌else◌}
use Rattle.sr_ast.specs.declared.operators.UnaryOp.{UnaryOp}
use Rattle.sr_ast.specs.declared.operators.UpdateOp.{UpdateOp}
use Rattle.sr_ast.specs.declared.tree.Node.TheVariants as node
use Rattle.sr_syntax.specs.declared.sorts.Sort.TheVariants as k
use Rattle.sr_syntax.specs.declared.sorts.Sort.{Sort}
use Rattle.sr_syntax.specs.declared.sorts.Lexeme.{Lexeme}
use Rattle.sr_syntax.specs.declared.grown.Grown.{Grown}
use Rattle.sr_syntax.specs.Input.{Input, sort, sort_at, line_before, line_at}
use Rattle.sr_syntax.specs.Operators.{prefix, is_prefix, is_prefix_of, update_before, update_after, from_of, is_target, steps, joined, joined_node}
use Rattle.sr_syntax.specs.Expressions.{stepped, step_by, step_after, update_by, update, unary_by, unary_, raised, power}
use Rattle.sr_syntax.specs.Grammar.{tree}
use Rattle.sr_grammar.specs.Derivations.{Derives, Left, Chain, Update, Unary, Power}
use Rattle.sr_grammar.specs.Derivations as g
use Rattle.sr_grammar.specs.Faults.{Begins}
use Rattle.sr_grammar.proofs.Steps.{inp, Fact, Any, Parses, Both, both, Either, first, second, Never, Nowhere, Pure, nothing, Looked, looked, Taken, taken, Eaten, ate, absent, Here, here, Completed, completed, Chosen, yes, no, ChosenFault, yes_fault, no_fault, map, map_given, given, then_any, bind, look, take, Shallow, Some_left, At, by_first, sort_shallow, eaten, purely, refused, completing, choose_any, not_both, ending, end_append, sort_alike, line_alike}
use Rattle.sr_grammar.proofs.Depths.{lift}
use Rattle.sr_grammar.proofs.Facts.{Derived, derived, Opened, opened, Closed, closed, closing, bare, known_as, finished, end_behind, Start, start, begins_of_fill, begin_in, begin_as, begin_behind, filled}
use Rattle.sr_grammar.proofs.Lists.{Nested}
use Rattle.sr_grammar.proofs.Targets.{Plain, plain, chain_of_plain, left_of_plain, step_of_chain}
use Rattle.sr_grammar.proofs.Sides.{left_sides, unit_of, unit_shallow}
use Rattle.sr_grammar.specs.Reading.{end_after}
use Rattle.sr_grammar.proofs.Sorts.{end_no_power}

-- the next token has the kind that was seen
abbrev some_left : {X : Type 0} (f : Sort → X) (v : X) (from : ℕ) → (f k.End ≡ v → ⊥) → (ts : List Lexeme) → At f v from ts → Some_left ts
some_left f v from other [] m = absurd (other m)
some_left f v from other (t ∷ ts) m = tt

-- ---- `++` and `--` before an operand

abbrev SteppedFact : ℕ → UpdateOp → ℕ → Fact Grown
SteppedFact d op from = Both (Taken unit_of) (λ u. Both (Plain d) (λ x. Chosen (is_target x) (Completed (node.Update op x.tree) from x.height) Nowhere))

stepped_fact : {d l n : ℕ} {us ts : List Lexeme} {x : Grown} (op : UpdateOp) (from : ℕ) → At update_before (Some op) from (us ++ ts) → SteppedFact d op from l n us ts x → Derived d Update l n us ts x
stepped_fact op from m (both (taken t e) (both {us} {x} (plain h b) (yes f (completed fits is)))) =
    bare (finished fits (is ∙ ap (λ a. ending (node.Update op x.tree) a (end_after t.to us) x.height) (sym m.1)) refl (g.before m.0 (left_of_plain h) f))
stepped_fact op from m (both (taken t e) (both (plain h b) (no f r))) = elim r [ ]

-- a Chain behind the operator goes on to a target
step_begins : (op : UpdateOp) (t : Lexeme) → update_before t.sort ≡ Some op → {us : List Lexeme} → Begins (Chain false) us → Begins Update (t ∷ us)
step_begins op t c {us} b = begin_in (λ zs. t ∷ zs) (λ us vs. refl) (step_of_chain op t c) us b

stepped_fault : {d l n : ℕ} {us ts : List Lexeme} (op : UpdateOp) (from : ℕ) → At update_before (Some op) from (us ++ ts)
    → Either Never (Taken unit_of) (λ u. Either (Start (Chain false)) (Plain d) (λ x. ChosenFault (is_target x) Never Here)) l n us ts → Start Update l n us ts
stepped_fault op from m (first c) = elim c [ ]
stepped_fault op from m (second (taken t e) (first (start b))) = start (step_begins op t m.0 b)
stepped_fault op from m (second (taken t e) (second (plain h b) (yes_fault f c))) = elim c [ ]
stepped_fault op from m (second (taken t e) (second {us = us} (plain h b) (no_fault f here))) =
    start (subst (λ zs. Begins Update (t ∷ zs)) (sym (append-nil us)) (step_begins op t m.0 (begins_of_fill (chain_of_plain h))))

-- ---- `++` and `--` behind an operand

abbrev look_steps : Grown → Input → Option UpdateOp
look_steps of i = steps of i

steps_shallow : (of : Grown) → Shallow (look_steps of)
unfolding steps line_before sort
steps_shallow of l n ts rs h = rw (line_alike ts rs h) (rw (sort_alike ts rs h) refl)

-- what stands behind a target
record Steps (of : Grown) (op : UpdateOp) (ts : List Lexeme) : Type 0 where
  target : is_target of ≡ true
  line : line_at ts ≡ false
  sort : update_after (sort_at ts) ≡ Some op

steps_are : (of : Grown) (op : UpdateOp) (ts : List Lexeme) (l n : ℕ) → Some op ≡ steps of (inp ts l n) → Steps of op ts
unfolding steps line_before sort
steps_are of op ts l n h = go (is_target of) (line_at ts) refl refl h
  where
    go : (a b : Bool) → is_target of ≡ a → line_at ts ≡ b → Some op ≡ (if a && not b then update_after (sort_at ts) else None) → Steps of op ts
    go true false e f h = record { target = e; line = f; sort = sym h }
    go true true e f h = cc
    go false b e f h = cc

step_needs : (of : Grown) (op : UpdateOp) (ts : List Lexeme) → Steps of op ts → Some_left ts
step_needs of op [] s = let e = s.sort in cc
step_needs of op (t ∷ ts) s = tt

abbrev StepFact : Grown → UpdateOp → Fact Grown
StepFact of op = Closed (Taken unit_of) (λ u. node.Update op of.tree) (λ u. from_of of) (λ u. of.height)

-- what is to be known of the operator seen
abbrev Seen : Grown → Option UpdateOp → List Lexeme → Type 0
Seen of None ts = Unit {0}
Seen of (Some op) ts = Steps of op ts

abbrev StepBy : Grown → Option UpdateOp → Fact Grown
StepBy of None = Pure of
StepBy of (Some op) = StepFact of op

step_bys : (d : ℕ) (of : Grown) (o : Option UpdateOp) → Parses (λ e. step_by (tree e) of o) d (Seen of o) (StepBy of o) Never
step_bys d of None = given (λ ts m. tt) (purely of)
step_bys d of (Some op) = closing (given (step_needs of op) (take unit_of unit_shallow)) (λ u. node.Update op of.tree) (λ u. from_of of) (λ u. of.height)

step_fact : {d l n : ℕ} {us ts : List Lexeme} {x : Grown} → Both (Derived d Left) (λ of. Both (Looked (look_steps of)) (λ o. StepBy of o)) l n us ts x → Derived d Update l n us ts x
step_fact (both (derived h b) (both {x = None} (looked e) (nothing is))) = bare (known_as is (derived (g.no_step h) b))
step_fact {l = l} {n = n} (both {us = vs} {x = of} (derived h b) (both {ts = ts} {x = Some op} (looked e) (closed u (taken t f) fits is))) =
    let s = steps_are of op (t ∷ ts) (end_after l vs) n e in
    finished fits (is ∙ ap (λ a. ending (node.Update op of.tree) (from_of of) a of.height) (sym (end_append l vs (t ∷ [])))) (end_behind l 0 vs [] t) (g.after h s.target t s.sort s.line)

step_fault : {d l n : ℕ} {us ts : List Lexeme} → Either (Start Left) (Derived d Left) (λ of. Either Never (Looked (look_steps of)) (λ o. Never)) l n us ts → Start Update l n us ts
step_fault (first (start s)) = start (begin_as (λ e vs x h. filled e vs x (g.no_step h)) s)
step_fault (second h (first c)) = elim c [ ]
step_fault (second h (second e c)) = elim c [ ]

module _ (d : ℕ) (nest : Nested d) where
  steps_after : Parses (λ e. step_after (tree e)) d Any (Derived d Update) (Start Update)
  unfolding step_after
  steps_after = map (λ l n us ts x r. step_fact r) (λ l n us ts r. step_fault r)
      (then_any (left_sides true d nest) (λ of. bind (λ l n us ts o m r. seen of o r) (look (look_steps of) (steps_shallow of)) (λ o. step_bys d of o)))
    where
      seen : {l n : ℕ} {us ts : List Lexeme} (of : Grown) (o : Option UpdateOp) → Looked (look_steps of) l n us ts o → Seen of o ts
      seen of None r = tt
      seen {l} {n} of (Some op) (looked {ts} e) = steps_are of op ts l n e

  updates_by : (from : ℕ) (o : Option UpdateOp) → Parses (λ e. update_by (tree e) from o) d (At update_before o from) (Derived d Update) (Start Update)
  unfolding stepped
  updates_by from None = given (λ ts m. tt) steps_after
  updates_by from (Some op) = map_given (λ l n us ts x m r. stepped_fact op from m r) (λ l n us ts m r. stepped_fault op from m r)
      (then_any (given (some_left update_before (Some op) from (λ e. cc)) (take unit_of unit_shallow))
      (λ u. then_any (left_sides false d nest) (λ of. choose_any (is_target of) (completing (node.Update op of.tree) from of.height) refused)))

  pub updates : Parses (λ e. update (tree e)) d Any (Derived d Update) (Start Update)
  unfolding update
  updates = by_first update_before (λ e from o. update_by (tree e) from o) updates_by

-- ---- operators before their operands

abbrev UnaryFact : ℕ → UnaryOp → ℕ → Fact Grown
UnaryFact d op from = Both (Taken unit_of) (λ u. Closed (Opened Unary d) (λ x. node.Unary op x.tree) (λ x. from) (λ x. x.height))

unary_fact : {d l n : ℕ} {us ts : List Lexeme} {x : Grown} (op : UnaryOp) (from : ℕ) → At prefix (Some op) from (us ++ ts) → UnaryFact d op from l n us ts x → Derived d Unary l n us ts x
unary_fact op from m (both {vs = us} (taken t e) (closed x (opened h b) fits is)) =
    finished fits (is ∙ ap (λ a. ending (node.Unary op x.tree) a (end_after t.to us) x.height) (sym m.1)) refl (g.unary m.0 h)

unary_fault : {l n : ℕ} {us ts : List Lexeme} (op : UnaryOp) (from : ℕ) → At prefix (Some op) from (us ++ ts)
    → Either Never (Taken unit_of) (λ u. Start Unary) l n us ts → Start Unary l n us ts
unary_fault op from m (first c) = elim c [ ]
unary_fault op from m (second (taken t e) (start s)) = start (begin_behind [] t (λ e vs x h. filled (suc e) (t ∷ vs) _ (g.unary m.0 h)) s)

module _ (d : ℕ) (nest : Nested d) where
  unaries_by : (from : ℕ) (o : Option UnaryOp) → Parses (λ e. unary_by (tree e) from o) d (At prefix o from) (Derived d Unary) (Start Unary)
  unaries_by from None = given (λ ts m. tt) (map (λ l n us ts x r. elim r [ derived h b ↦ derived (g.no_operator h) b ]) (λ l n us ts r. elim r [ start s ↦ start (begin_as (λ e vs x h. filled e vs x (g.no_operator h)) s) ])
      (updates d nest))
  unaries_by from (Some op) = map_given (λ l n us ts x m r. unary_fact op from m r) (λ l n us ts m r. unary_fault op from m r)
      (then_any (given (some_left prefix (Some op) from (λ e. cc)) (take unit_of unit_shallow)) (λ u. closing nest.unary (λ x. node.Unary op x.tree) (λ x. from) (λ x. x.height)))

  pub unaries : Parses (λ e. unary_ (tree e)) d Any (Derived d Unary) (Start Unary)
  unfolding unary_
  unaries = by_first prefix (λ e from o. unary_by (tree e) from o) unaries_by

-- ---- powers

abbrev RaisedFact : ℕ → Grown → Fact Grown
RaisedFact d base = Both (Eaten k.Power) (λ b. Chosen b (Closed (Opened Power d) (λ x. joined_node k.Power base.tree x.tree) (λ x. from_of base) (λ x. max base.height x.height)) (Pure base))

abbrev PowerFact : ℕ → Fact Grown
PowerFact d = Both (Looked sort) (λ s. Both (Opened Unary d) (λ base. Chosen (is_prefix s) (Pure base) (RaisedFact d base)))

-- what begins with no operator is an Update
update_of : {d : ℕ} {us : List Lexeme} {x : Grown} → Derives d Unary us x → (ts : List Lexeme) → is_prefix (sort_at (us ++ ts)) ≡ false → Derives d Update us x
unfolding is_prefix
update_of (g.unary {t} c h) ts f = absurd (not_both {b = is_prefix_of (prefix t.sort)} (ap is_prefix_of c) f)
update_of (g.no_operator h) ts f = h

power_fact : {d l n : ℕ} {us ts : List Lexeme} {x : Grown} → PowerFact d l n us ts x → Derived d Power l n us ts x
unfolding sort
power_fact (both (looked e) (both (opened h b) (yes f (nothing is)))) = bare (known_as is (derived (g.unraised h) b))
power_fact (both (looked e) (both (opened h b) (no f (both (ate t c i) (no j r))))) = absurd (not_both i j)
power_fact {l} (both (looked e) (both {us = vs} {x = base} (opened h b) (no f (both {vs = ws} {ts = ts} (ate t c i) (yes j (closed x (opened p o) fits is)))))) =
    let first_ = update_of h ((t ∷ ws) ++ ts) (ap is_prefix (ap sort_at (sym (append_assoc vs (t ∷ ws) ts)) ∙ sym e) ∙ f) in
    let known : joined_node t.sort base.tree x.tree ≡ joined_node k.Power base.tree x.tree = ap (λ s. joined_node s base.tree x.tree) c in
    finished fits (is ∙ ap (λ a. ending a (from_of base) (end_after t.to ws) (max base.height x.height)) (sym known) ∙ ap (λ m. ending (joined_node t.sort base.tree x.tree) (from_of base) m (max base.height x.height)) (sym (end_append l vs (t ∷ ws))))
    (end_behind l 0 vs ws t) (g.raised first_ t c p)
power_fact (both (looked e) (both (opened h b) (no f (both (absent i p) (yes j r))))) = absurd (not_both j i)
power_fact (both (looked e) (both (opened h b) (no f (both (absent i p) (no j (nothing is)))))) = bare (known_as is (derived (g.unraised h) b))

power_fault : {d l n : ℕ} {us ts : List Lexeme}
    → Either Never (Looked sort) (λ s. Either (Start Unary) (Opened Unary d) (λ base. ChosenFault (is_prefix s) Never (Either Never (Eaten k.Power) (λ b. ChosenFault b (Start Power) Never)))) l n us ts
    → Start Power l n us ts
unfolding sort
power_fault (first c) = elim c [ ]
power_fault (second (looked e) (first (start s))) = start (begin_as (λ e vs x h. filled (suc e) vs x (g.unraised h)) s)
power_fault (second (looked e) (second h (yes_fault f c))) = elim c [ ]
power_fault (second (looked e) (second h (no_fault f (first c)))) = elim c [ ]
power_fault (second (looked e) (second {us = vs} {x = base} (opened {d} h b) (no_fault f (second {vs = ws} {ts = ts} (ate t c i) (yes_fault j (start s)))))) =
    let first_ = update_of h ((t ∷ ws) ++ ts) (ap is_prefix (ap sort_at (sym (append_assoc vs (t ∷ ws) ts)) ∙ sym e) ∙ f) in
    start (begin_behind vs t (λ e zs x p. filled (suc (d + e)) (vs ++ t ∷ zs) _ (g.raised (lift d (d + e) (omega arith) first_) t c (lift e (d + e) (omega arith) p))) s)
power_fault (second (looked e) (second h (no_fault f (second (ate t c i) (no_fault j r))))) = elim r [ ]
power_fault (second (looked e) (second h (no_fault f (second (absent i p) (yes_fault j r))))) = absurd (not_both j i)
power_fault (second (looked e) (second h (no_fault f (second (absent i p) (no_fault j r))))) = elim r [ ]

pub powers : (d : ℕ) → Nested d → Parses (λ e. power (tree e)) d Any (Derived d Power) (Start Power)
unfolding power raised joined
powers d nest = map (λ l n us ts x r. power_fact r) (λ l n us ts r. power_fault r)
    (then_any (look sort sort_shallow) (λ s. then_any nest.unary (λ base. choose_any (is_prefix s) (purely base)
    (then_any (eaten k.Power end_no_power) (λ b. choose_any b (closing nest.power (λ x. joined_node k.Power base.tree x.tree) (λ x. from_of base) (λ x. max base.height x.height)) (purely base))))))
