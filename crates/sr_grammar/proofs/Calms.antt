-- What is a statement begins one before whatever is calm.
use Rattle.std.proofs.Common.{◌≡◌, ℕ, suc, ◌+◌, List, [], ◌∷◌, ◌++◌, refl, sym, ap, ◌∙◌, append_assoc, arith}
use Rattle.sr_syntax.specs.declared.sorts.Sort.TheVariants as k
use Rattle.sr_syntax.specs.declared.sorts.Lexeme.{Lexeme}
use Rattle.sr_syntax.specs.declared.grown.Grown.{Grown}
use Rattle.sr_grammar.specs.Derivations.{Semicolon, written, before_brace, before_line, States, IsItem}
use Rattle.sr_grammar.specs.Derivations as g
use Rattle.sr_grammar.proofs.Facts.{token}
use Rattle.sr_grammar.proofs.Depths.{lift, lift_condition, lift_first, lift_perhaps, lift_states}
use Rattle.sr_grammar.proofs.Followed.{same_first, states_before, clauses_before}
use Rattle.sr_grammar.proofs.Beginnings.{Begun, carry, onward, begun_whole, begun_more}
use Rattle.sr_grammar.proofs.Standing.{Calm, carry_in, calm_no}
use Rattle.sr_grammar.proofs.Semicolons.{ended}

-- a semicolon, whatever follows it
record Closes (vs : List Lexeme) : Type 1 where
  more : List Lexeme
  closes : (E : Type 0) (ts : List Lexeme) → Semicolon E (vs ++ more) ts

closed_by : {ends : Type 0} {vs ts : List Lexeme} → Semicolon ends vs ts → Closes vs
closed_by (written t c) = record { more = []; closes = λ E ts. written t c }
closed_by (before_brace c) = record { more = token k.Semicolon ∷ []; closes = λ E ts. ended }
closed_by (before_line c o e) = record { more = token k.Semicolon ∷ []; closes = λ E ts. ended }

pub behind_two : (us vs ws zs : List Lexeme) (t u : Lexeme) → t ∷ (us ++ (vs ++ u ∷ (ws ++ zs))) ≡ (t ∷ (us ++ (vs ++ u ∷ ws))) ++ zs
behind_two us vs ws zs t u = ap (λ ys. t ∷ ys) (sym (append_assoc us (vs ++ u ∷ ws) zs ∙ ap (λ ys. us ++ ys) (append_assoc vs (u ∷ ws) zs)))

pub behind_four : (us vs ws ys zs : List Lexeme) → us ++ (vs ++ (ws ++ (ys ++ zs))) ≡ (us ++ (vs ++ (ws ++ ys))) ++ zs
behind_four us vs ws ys zs =
    sym (append_assoc us (vs ++ (ws ++ ys)) zs ∙ ap (λ qs. us ++ qs) (append_assoc vs (ws ++ ys) zs ∙ ap (λ qs. vs ++ qs) (append_assoc ws ys zs)))

behind_three : (us vs ws zs : List Lexeme) (i p : Lexeme) → us ++ i ∷ (vs ++ p ∷ (ws ++ zs)) ≡ (us ++ i ∷ (vs ++ p ∷ ws)) ++ zs
behind_three us vs ws zs i p = sym (append_assoc us (i ∷ (vs ++ p ∷ ws)) zs ∙ ap (λ qs. us ++ i ∷ qs) (append_assoc vs (p ∷ ws) zs))

pub calms : {d : ℕ} {us ts : List Lexeme} {x : Grown} → States d us ts x → Begun (Calm States) us
calms (g.expression_statement {d} {us} {vs} b o h s) = let c = closed_by s in begun_more d us vs c.more _ (λ ts calm. g.expression_statement b o h (c.closes _ ts))
calms (g.block {d} {us} h) = begun_whole d us _ (λ ts calm. g.block h)
calms (g.empty {d} t c) = begun_whole d (t ∷ []) _ (λ ts calm. g.empty t c)
calms (g.var {d} {us = us} {vs = vs} t c i s) = let e = closed_by s in begun_more d (t ∷ us) vs e.more _ (λ ts calm. g.var t c i (e.closes _ ts))
calms (g.if_alone {d} {us} t c i h o) =
    carry (t ∷ us) (λ e ws y j. begun_whole (suc (d + e)) (t ∷ (us ++ ws)) _ (λ ts calm.
    g.if_alone t c (lift_condition (suc d) (suc (d + e)) (omega arith) i) (lift_states e (d + e) (omega arith) (j ts calm)) (calm_no k.Else refl ts calm))) (calms h)
calms (g.if_else {d} {us} {vs} t c i u h e j) =
    carry_in (λ zs. t ∷ (us ++ (vs ++ u ∷ zs))) (λ ws zs. behind_two us vs ws zs t u) (λ m zs z q. begun_whole (suc (d + m)) (t ∷ (us ++ (vs ++ u ∷ zs))) _ (λ ts calm.
    g.if_else t c (lift_condition (suc d) (suc (d + m)) (omega arith) i) u (lift_states d (d + m) (omega arith) (states_before (same_first refl) h)) e (lift_states m (d + m) (omega arith) (q ts calm)))) (calms j)
calms (g.do_alone {d} {us} {vs} t c u h e i o) = begun_whole (suc d) (t ∷ (us ++ u ∷ vs)) _ (λ ts calm. g.do_alone t c u (states_before (same_first refl) h) e i (calm_no k.Semicolon refl ts calm))
calms (g.do_ended {d} {us} {vs} t c u v h e i q) = begun_whole (suc d) (t ∷ (us ++ u ∷ (vs ++ v ∷ []))) _ (λ ts calm. g.do_ended t c u v (states_before (same_first refl) h) e i q)
calms (g.while {d} {us} t c i h) =
    carry (t ∷ us) (λ e ws y j. begun_whole (suc (d + e)) (t ∷ (us ++ ws)) _ (λ ts calm.
    g.while t c (lift_condition (suc d) (suc (d + e)) (omega arith) i) (lift_states e (d + e) (omega arith) (j ts calm)))) (calms h)
calms (g.for {d} {us} {vs} {ws} t u c e f p q h) =
    carry_in (λ zs. t ∷ u ∷ (us ++ (vs ++ (ws ++ zs)))) (λ ys zs. ap (λ qs. t ∷ u ∷ qs) (behind_four us vs ws ys zs)) (λ m zs y j. begun_whole (suc (d + m)) (t ∷ u ∷ (us ++ (vs ++ (ws ++ zs)))) _ (λ ts calm.
    g.for t u c e (lift_first (suc d) (suc (d + m)) (omega arith) f) (lift_perhaps (suc d) (suc (d + m)) (omega arith) p) (lift_perhaps (suc d) (suc (d + m)) (omega arith) q)
    (lift_states m (d + m) (omega arith) (j ts calm)))) (calms h)
calms (g.for_in {d} {us} t u v w i c e f o j h p q y) =
    carry_in (λ zs. t ∷ u ∷ v ∷ w ∷ i ∷ (us ++ p ∷ zs)) (λ ys zs. ap (λ qs. t ∷ u ∷ v ∷ w ∷ i ∷ qs) (sym (append_assoc us (p ∷ ys) zs))) (λ m zs y r. begun_whole (suc (d + m)) (t ∷ u ∷ v ∷ w ∷ i ∷ (us ++ p ∷ zs)) _ (λ ts calm.
    g.for_in t u v w i c e f o j (lift (suc d) (suc (d + m)) (omega arith) h) p q (lift_states m (d + m) (omega arith) (r ts calm)))) (calms y)
calms (g.for_of {d} {us} t u v w i c e f o j h p q y) =
    carry_in (λ zs. t ∷ u ∷ v ∷ w ∷ i ∷ (us ++ p ∷ zs)) (λ ys zs. ap (λ qs. t ∷ u ∷ v ∷ w ∷ i ∷ qs) (sym (append_assoc us (p ∷ ys) zs))) (λ m zs y r. begun_whole (suc (d + m)) (t ∷ u ∷ v ∷ w ∷ i ∷ (us ++ p ∷ zs)) _ (λ ts calm.
    g.for_of t u v w i c e f o j (lift d (d + m) (omega arith) h) p q (lift_states m (d + m) (omega arith) (r ts calm)))) (calms y)
calms (g.for_in_target {d} {us} {vs} t u c e z is i j h p q y) =
    carry_in (λ zs. t ∷ u ∷ (us ++ i ∷ (vs ++ p ∷ zs))) (λ ys zs. ap (λ qs. t ∷ u ∷ qs) (behind_three us vs ys zs i p)) (λ m zs y r. begun_whole (suc (d + m)) (t ∷ u ∷ (us ++ i ∷ (vs ++ p ∷ zs))) _ (λ ts calm.
    g.for_in_target t u c e (lift (suc d) (suc (d + m)) (omega arith) z) is i j (lift (suc d) (suc (d + m)) (omega arith) h) p q (lift_states m (d + m) (omega arith) (r ts calm)))) (calms y)
calms (g.for_of_target {d} {us} {vs} t u c e z is i j h p q y) =
    carry_in (λ zs. t ∷ u ∷ (us ++ i ∷ (vs ++ p ∷ zs))) (λ ys zs. ap (λ qs. t ∷ u ∷ qs) (behind_three us vs ys zs i p)) (λ m zs y r. begun_whole (suc (d + m)) (t ∷ u ∷ (us ++ i ∷ (vs ++ p ∷ zs))) _ (λ ts calm.
    g.for_of_target t u c e (lift (suc d) (suc (d + m)) (omega arith) z) is i j (lift d (d + m) (omega arith) h) p q (lift_states m (d + m) (omega arith) (r ts calm)))) (calms y)
calms (g.continue_alone {d} {vs} t c s) = let e = closed_by s in begun_more d (t ∷ []) vs e.more _ (λ ts calm. g.continue_alone t c (e.closes _ ts))
calms (g.continue_to {d} {vs} t u c e l s) = let f = closed_by s in begun_more d (t ∷ u ∷ []) vs f.more _ (λ ts calm. g.continue_to t u c e l (f.closes _ ts))
calms (g.break_alone {d} {vs} t c s) = let e = closed_by s in begun_more d (t ∷ []) vs e.more _ (λ ts calm. g.break_alone t c (e.closes _ ts))
calms (g.break_from {d} {vs} t u c e l s) = let f = closed_by s in begun_more d (t ∷ u ∷ []) vs f.more _ (λ ts calm. g.break_from t u c e l (f.closes _ ts))
calms (g.return_alone {d} {vs} t c s) = let e = closed_by s in begun_more d (t ∷ []) vs e.more _ (λ ts calm. g.return_alone t c (e.closes _ ts))
calms (g.return_value {d} {us} {vs} t c l h s) = let e = closed_by s in begun_more d (t ∷ us) vs e.more _ (λ ts calm. g.return_value t c l h (e.closes _ ts))
calms (g.throw {d} {us} {vs} t c l h s) = let e = closed_by s in begun_more d (t ∷ us) vs e.more _ (λ ts calm. g.throw t c l h (e.closes _ ts))
calms (g.debugger {d} {vs} t c s) = let e = closed_by s in begun_more d (t ∷ []) vs e.more _ (λ ts calm. g.debugger t c (e.closes _ ts))
calms (g.switch {d} {us} {vs} t c i u e v q h) = begun_whole d (t ∷ (us ++ u ∷ (vs ++ v ∷ []))) _ (λ ts calm. g.switch t c i u e v q (clauses_before (same_first refl) h))
calms (g.try_catch {d} {us} {vs} t c h i o) = begun_whole d (t ∷ (us ++ vs)) _ (λ ts calm. g.try_catch t c h i (calm_no k.Finally refl ts calm))
calms (g.try_finally {d} {us} {vs} t c h i) = begun_whole d (t ∷ (us ++ vs)) _ (λ ts calm. g.try_finally t c h i)
calms (g.try_both {d} {us} {vs} {ws} t c h i j) = begun_whole d (t ∷ (us ++ (vs ++ ws))) _ (λ ts calm. g.try_both t c h i j)
calms (g.labelled {d} t u c a e h) = carry (t ∷ u ∷ []) (λ m ws y j. begun_whole (suc m) (t ∷ u ∷ ws) _ (λ ts calm. g.labelled t u c a e (j ts calm))) (calms h)

pub item_of : {us : List Lexeme} → Begun (Calm States) us → Begun (Calm IsItem) us
item_of b = onward (λ e vs x h. begun_whole (suc e) vs x (λ ts calm. g.statement (h ts calm))) b
