-- What `try` is read as, and where reading it fails.
use Rattle.std.proofs.Common.{◌≡◌, ℕ, ◌+◌, max, List, [], ◌∷◌, ◌++◌, Option, Some, None, refl, sym, ap, ◌∙◌, subst, append_assoc, append-nil, arith}
use Rattle.sr_ast.specs.declared.binding.Binding.{Binding}
use Rattle.sr_ast.specs.declared.tree.Node.TheVariants as node
use Rattle.sr_syntax.specs.declared.sorts.Sort.TheVariants as k
use Rattle.sr_syntax.specs.declared.sorts.Lexeme.{Lexeme}
use Rattle.sr_syntax.specs.declared.grown.Grown.{Grown}
use Rattle.sr_syntax.specs.Input.{sees, place}
use Rattle.sr_syntax.specs.Operators.{tallest, none}
use Rattle.sr_syntax.specs.Statements.{catch_parameter, inner_block, finally_, catch_end, catch_, try_}
use Rattle.sr_syntax.specs.Grammar.{tree}
use Rattle.sr_grammar.specs.Names.{CatchParameter, no_parameter, one_parameter}
use Rattle.sr_grammar.specs.Derivations.{Block, Catch, States, whole}
use Rattle.sr_grammar.specs.Derivations as g
use Rattle.sr_grammar.specs.Reading.{end_after}
use Rattle.sr_grammar.proofs.Steps.{Fact, Fault, Any, Parses, Both, both, Either, first, second, Never, Pure, Looked, looked, Eaten, ate, absent, Expected, expected, Here, here, Chosen, yes, no, ChosenFault, yes_fault, no_fault, Completed, completed, completing, map, given, then_any, look, place_shallow, eaten, expecting, purely, choose_any, not_both, end_append}
use Rattle.sr_grammar.proofs.Steps as steps
use Rattle.sr_grammar.proofs.Depths.{lift_block, lift_catch}
use Rattle.sr_grammar.proofs.Facts.{Mapped, mapped, mapping, Closed, closed, closing, token, Stood}
use Rattle.sr_grammar.proofs.Choices.{Decided, decided, denied, DecidedFault, decided_fault, denied_fault, deciding, Sees, sees_test}
use Rattle.sr_grammar.proofs.ParameterFacts.{OneParam, one_param, one_params}
use Rattle.sr_grammar.proofs.FunctionFacts.{Blocked, blocked, NotBlocked, not_blocked, blocks}
use Rattle.sr_grammar.proofs.Lists.{Nested}
use Rattle.sr_grammar.proofs.Beginnings.{Begun, Wholly, wholly, Partly, partly, carry, onward, begun_whole}
use Rattle.sr_grammar.proofs.Standing.{Calm, carry_in, begun_by, calm_no, Wanted, at_nothing, Behind, BehindFault, anywhere, completed_behind}
use Rattle.sr_grammar.proofs.Sorts.{end_no_catch, end_no_finally, end_no_left_brace}

-- ---- blocks

data BlockRead (d l n : ℕ) (us ts : List Lexeme) (x : Grown) : Type 0 where
  block_read : Block d us x → BlockRead d l n us ts x

abbrev braces : List Lexeme
braces = token k.LeftBrace ∷ token k.RightBrace ∷ []

abbrev an_empty_block : Grown
an_empty_block = whole (node.Block none.trees) 0 braces none.tall

empty_block : {d : ℕ} → Block d braces an_empty_block
empty_block = g.items_in_braces {us = []} {ts = []} (token k.LeftBrace) refl (token k.RightBrace) refl g.no_items

block_fact : {d l n : ℕ} {us ts : List Lexeme} {x : Grown} → Both (Looked place) (λ from. Both (Expected k.LeftBrace) (λ u. Blocked from d)) l n us ts x → BlockRead d l n us ts x
unfolding place
block_fact (both (looked e) (both (expected t c) (blocked f b))) = block_read (f t c (sym e))

block_fault : {l n : ℕ} {us ts : List Lexeme} → Either Never (Looked place) (λ from. Either Here (Expected k.LeftBrace) (λ u. NotBlocked)) l n us ts → Begun Block us
block_fault (first c) = elim c [ ]
block_fault (second (looked e) (first here)) = record { depth = 0; more = braces; made = an_empty_block; has = empty_block }
block_fault (second (looked e) (second (expected t c) (not_blocked f))) = f t c

inner_blocks : (d : ℕ) → Nested d → Parses (λ e. inner_block (tree e)) d Any (BlockRead d) (Wanted Block)
unfolding inner_block
inner_blocks d nest = map (λ l n us ts x r. block_fact r) (λ l n us ts r. block_fault r)
    (then_any (look place place_shallow) (λ from. then_any (expecting k.LeftBrace end_no_left_brace) (λ u. blocks from d nest)))

-- ---- the parameter of a `catch`

data ParameterRead (l n : ℕ) (us ts : List Lexeme) (p : Option Binding) : Type 0 where
  parameter_read : CatchParameter us p → ParameterRead l n us ts p

abbrev ParameterOf : ℕ → List Lexeme → Option Binding → Type 0
ParameterOf e us p = CatchParameter us p

some_parameter : {e : ℕ} {us : List Lexeme} {x : Binding} → OneParam e us x → CatchParameter us (Some x)
some_parameter (one_param t c u q v f) = one_parameter t c u q v f

parameter_fact : {d l n : ℕ} {us ts : List Lexeme} {p : Option Binding} → Decided (Sees k.LeftParenthesis) (Mapped (Wholly OneParam d) (λ x. Some x)) (Pure None) l n us ts p → ParameterRead l n us ts p
parameter_fact {us = us} (decided is (mapped x (wholly h) e)) = parameter_read (subst (λ p. CatchParameter us p) (sym e) (some_parameter h))
parameter_fact (denied is (steps.nothing e)) = parameter_read (subst (λ p. CatchParameter [] p) (sym e) no_parameter)

parameter_fault : {l n : ℕ} {us ts : List Lexeme} → DecidedFault (Sees k.LeftParenthesis) (Partly OneParam) Never l n us ts → Begun ParameterOf us
parameter_fault (decided_fault is (partly b)) = onward (λ e vs x h. begun_whole e vs (Some x) (some_parameter h)) b
parameter_fault (denied_fault is c) = elim c [ ]

catch_parameters : (d : ℕ) → Parses (λ e. catch_parameter) d Any ParameterRead (Wanted ParameterOf)
unfolding catch_parameter
catch_parameters d = map (λ l n us ts x r. parameter_fact {d = d} r) (λ l n us ts r. parameter_fault r)
    (deciding (sees k.LeftParenthesis) (Sees k.LeftParenthesis) (sees_test k.LeftParenthesis) (given (λ ts m. tt) (mapping one_params (λ x. Some x))) (given (λ ts m. tt) (purely None)))

-- ---- behind a `catch` and its block

abbrev CatchEnd : ℕ → ℕ → Grown → Option Binding → Grown → Fact Grown
CatchEnd d from of p handler l n zs ts x = (t : Lexeme) (us cs : List Lexeme) → t.sort ≡ k.Try → t.from ≡ from → Block d us of → Catch d cs p handler → end_after (end_after t.to us) cs ≡ l
    → Stood States d l n (t ∷ (us ++ (cs ++ zs))) ts x

abbrev CatchEndFault : ℕ → Grown → Option Binding → Grown → Fault
CatchEndFault d of p handler l n zs ts = (t : Lexeme) (us cs : List Lexeme) → t.sort ≡ k.Try → Block d us of → Catch d cs p handler → Begun (Calm States) (t ∷ (us ++ (cs ++ zs)))

abbrev EndFact : ℕ → ℕ → Grown → Option Binding → Grown → Fact Grown
EndFact d from of p handler = Both (Eaten k.Finally) (λ b. Chosen b
    (Closed (BlockRead d) (λ y. node.Try of.tree p (Some handler.tree) (Some y.tree)) (λ y. from) (λ y. tallest of.height handler.height y.height))
    (Completed (node.Try of.tree p (Some handler.tree) None) from (max of.height handler.height)))

catch_end_fact : {d l n : ℕ} {us ts : List Lexeme} {x : Grown} (from : ℕ) (of : Grown) (p : Option Binding) (handler : Grown) → EndFact d from of p handler l n us ts x → CatchEnd d from of p handler l n us ts x
catch_end_fact from of p handler (both {vs = fs} (ate v e i) (yes f (closed y (block_read h) fits is))) = λ t us cs q o b c at.
    anywhere (completed_behind {n = 0} t o refl fits is (sym (end_append t.to us (cs ++ v ∷ fs) ∙ end_append (end_after t.to us) cs (v ∷ fs))) (g.try_both t q b c (g.finally v e h)))
catch_end_fact from of p handler (both (ate v e i) (no f r)) = absurd (not_both i f)
catch_end_fact from of p handler (both (absent i z) (yes f r)) = absurd (not_both f i)
catch_end_fact {d} {l} {n} {x = x} from of p handler (both (absent i z) (no f (completed {ts} fits is))) = λ t us cs q o b c at.
    subst (λ zs. Stood States d l n (t ∷ (us ++ zs)) ts x) (sym (append-nil cs))
    (anywhere (completed_behind {n = 0} t o refl fits is (sym (end_append t.to us cs ∙ at)) (g.try_catch t q b c z)))

try_three : (us cs ys zs : List Lexeme) (t v : Lexeme) → t ∷ (us ++ (cs ++ v ∷ (ys ++ zs))) ≡ (t ∷ (us ++ (cs ++ v ∷ ys))) ++ zs
try_three us cs ys zs t v = ap (λ qs. t ∷ qs) (sym (append_assoc us (cs ++ v ∷ ys) zs ∙ ap (λ qs. us ++ qs) (append_assoc cs (v ∷ ys) zs)))

catch_end_fault : {d l n : ℕ} {us ts : List Lexeme} (of : Grown) (p : Option Binding) (handler : Grown)
    → Either Never (Eaten k.Finally) (λ b. ChosenFault b (Wanted Block) Never) l n us ts → CatchEndFault d of p handler l n us ts
catch_end_fault of p handler (first r) = elim r [ ]
catch_end_fault {d} of p handler (second (ate v e i) (yes_fault f r)) = λ t us cs q b c.
    carry_in (λ zs. t ∷ (us ++ (cs ++ v ∷ zs))) (λ ys zs. try_three us cs ys zs t v) (λ m zs y h. begun_whole (d + m) (t ∷ (us ++ (cs ++ v ∷ zs))) _ (λ ts calm.
    g.try_both t q (lift_block d (d + m) (omega arith) b) (lift_catch d (d + m) (omega arith) c) (g.finally v e (lift_block m (d + m) (omega arith) h)))) r
catch_end_fault of p handler (second (ate v e i) (no_fault f r)) = elim r [ ]
catch_end_fault of p handler (second (absent i z) (yes_fault f r)) = absurd (not_both f i)
catch_end_fault of p handler (second (absent i z) (no_fault f r)) = elim r [ ]

catch_ends : (d : ℕ) → Nested d → (from : ℕ) (of : Grown) (p : Option Binding) (handler : Grown)
    → Parses (λ e. catch_end (tree e) from of p handler) d Any (CatchEnd d from of p handler) (CatchEndFault d of p handler)
unfolding catch_end finally_
catch_ends d nest from of p handler = map (λ l n us ts x r. catch_end_fact from of p handler r) (λ l n us ts r. catch_end_fault of p handler r)
    (then_any (eaten k.Finally end_no_finally) (λ b. choose_any b
    (closing (inner_blocks d nest) (λ y. node.Try of.tree p (Some handler.tree) (Some y.tree)) (λ y. from) (λ y. tallest of.height handler.height y.height))
    (completing (node.Try of.tree p (Some handler.tree) None) from (max of.height handler.height))))

-- ---- behind `catch`

abbrev CatchTail : ℕ → ℕ → Grown → Fact Grown
CatchTail d from of l n zs ts x = (t : Lexeme) (us : List Lexeme) (w : Lexeme) → t.sort ≡ k.Try → t.from ≡ from → Block d us of → w.sort ≡ k.Catch → w.to ≡ l → Stood States d l n (t ∷ (us ++ w ∷ zs)) ts x

abbrev CatchFault : ℕ → Grown → Fault
CatchFault d of l n zs ts = (t : Lexeme) (us : List Lexeme) (w : Lexeme) → t.sort ≡ k.Try → Block d us of → w.sort ≡ k.Catch → Begun (Calm States) (t ∷ (us ++ w ∷ zs))

catch_fact : {d l n : ℕ} {us ts : List Lexeme} {x : Grown} (from : ℕ) (of : Grown) → Both ParameterRead (λ p. Both (BlockRead d) (λ h. CatchEnd d from of p h)) l n us ts x → CatchTail d from of l n us ts x
catch_fact {d} {l} {n} {x = x} from of (both {us = ps} {ts = ts} (parameter_read p) (both {us = hs} {vs = zs} (block_read h) r)) = λ t us w q o b c at.
    subst (λ ys. Stood States d l n (t ∷ (us ++ w ∷ ys)) ts x) (append_assoc ps hs zs)
    (anywhere (r t us (w ∷ (ps ++ hs)) q o b (g.catch w c p h) (end_append w.to ps hs ∙ ap (λ m. end_after (end_after m ps) hs) at)))

abbrev TailFault : ℕ → ℕ → Grown → Fault
TailFault d from of = Either (Wanted ParameterOf) ParameterRead (λ p. Either (Wanted Block) (BlockRead d) (λ h. CatchEndFault d of p h))

catch_fault : {d l n : ℕ} {us ts : List Lexeme} (from : ℕ) (of : Grown) → TailFault d from of l n us ts → CatchFault d of l n us ts
catch_fault {d} from of (first r) = λ t us w q b c.
    carry_in (λ zs. t ∷ (us ++ w ∷ zs)) (λ ys zs. ap (λ qs. t ∷ qs) (sym (append_assoc us (w ∷ ys) zs))) (λ e ps p h.
    begun_by d (t ∷ (us ++ w ∷ ps)) braces (t ∷ (us ++ w ∷ (ps ++ braces))) _ (ap (λ qs. t ∷ qs) (append_assoc us (w ∷ ps) braces)) (λ ts calm.
    g.try_catch t q b (g.catch w c h empty_block) (calm_no k.Finally refl ts calm))) r
catch_fault {d} from of (second {us = ps} (parameter_read p) (first r)) = λ t us w q b c.
    carry_in (λ zs. t ∷ (us ++ w ∷ (ps ++ zs))) (λ ys zs. ap (λ qs. t ∷ qs) (sym (append_assoc us (w ∷ (ps ++ ys)) zs ∙ ap (λ qs. us ++ w ∷ qs) (append_assoc ps ys zs)))) (λ m zs y h.
    begun_whole (d + m) (t ∷ (us ++ w ∷ (ps ++ zs))) _ (λ ts calm.
    g.try_catch t q (lift_block d (d + m) (omega arith) b) (g.catch w c p (lift_block m (d + m) (omega arith) h)) (calm_no k.Finally refl ts calm))) r
catch_fault from of (second {us = ps} (parameter_read p) (second {us = hs} {vs = zs} (block_read h) r)) = λ t us w q b c.
    subst (λ ys. Begun (Calm States) (t ∷ (us ++ w ∷ ys))) (append_assoc ps hs zs) (r t us (w ∷ (ps ++ hs)) q b (g.catch w c p h))

catches : (d : ℕ) → Nested d → (from : ℕ) (of : Grown) → Parses (λ e. catch_ (tree e) from of) d Any (CatchTail d from of) (CatchFault d of)
unfolding catch_
catches d nest from of = map (λ l n us ts x r. catch_fact from of r) (λ l n us ts r. catch_fault from of r)
    (then_any (catch_parameters d) (λ p. then_any (inner_blocks d nest) (λ h. catch_ends d nest from of p h)))

-- ---- behind `try`

abbrev TryFact : ℕ → ℕ → Fact Grown
TryFact d from = Both (BlockRead d) (λ of. Both (Eaten k.Catch) (λ b. Chosen b (CatchTail d from of)
    (Both (Expected k.Finally) (λ u. Closed (BlockRead d) (λ y. node.Try of.tree None None (Some y.tree)) (λ y. from) (λ y. tallest of.height 0 y.height)))))

try_fact : {d l n : ℕ} {us ts : List Lexeme} {x : Grown} (from : ℕ) → TryFact d from l n us ts x → Behind States d from k.Try l n us ts x
try_fact from (both {us = us} (block_read b) (both (ate w c i) (yes f r))) = λ t q o at. anywhere (r t us w q o b c refl)
try_fact from (both b (both (ate w c i) (no f r))) = absurd (not_both i f)
try_fact from (both b (both (absent i z) (yes f r))) = absurd (not_both f i)
try_fact {l = l} from (both {us = us} (block_read b) (both (absent i z) (no f (both {vs = fs} (expected w c) (closed y (block_read h) fits is))))) = λ t q o at.
    completed_behind t o at fits is (sym (end_append l us (w ∷ fs))) (g.try_finally t q b (g.finally w c h))

abbrev TryFault : ℕ → Fault
TryFault d = Either (Wanted Block) (BlockRead d) (λ of. Either Never (Eaten k.Catch) (λ b. ChosenFault b (CatchFault d of) (Either Here (Expected k.Finally) (λ u. Wanted Block))))

-- a block, and a last one that is empty
try_end : (e : ℕ) (us : List Lexeme) (x : Grown) → Block e us x → (t : Lexeme) → t.sort ≡ k.Try → Begun (Calm States) (t ∷ us)
try_end e us x b t q = record { depth = e; more = token k.Finally ∷ braces; made = _; has = λ ts calm. g.try_finally t q b (g.finally (token k.Finally) refl empty_block) }

try_fault : {d l n : ℕ} {us ts : List Lexeme} → TryFault d l n us ts → BehindFault States k.Try l n us ts
try_fault (first r) = λ t q. carry (t ∷ []) (λ e vs x b. try_end e vs x b t q) r
try_fault (second b (first r)) = elim r [ ]
try_fault (second {us = us} (block_read b) (second (ate w c i) (yes_fault f r))) = λ t q. r t us w q b c
try_fault (second b (second (ate w c i) (no_fault f r))) = absurd (not_both i f)
try_fault (second b (second (absent i z) (yes_fault f r))) = absurd (not_both f i)
try_fault {d} (second {us = us} {x = x} (block_read b) (second (absent i z) (no_fault f (first here)))) = λ t q. at_nothing (try_end d us x b t q)
try_fault {d} (second {us = us} (block_read b) (second (absent i z) (no_fault f (second (expected w c) r)))) = λ t q.
    carry_in (λ zs. t ∷ (us ++ w ∷ zs)) (λ ys zs. ap (λ qs. t ∷ qs) (sym (append_assoc us (w ∷ ys) zs))) (λ m zs y h. begun_whole (d + m) (t ∷ (us ++ w ∷ zs)) _ (λ ts calm.
    g.try_finally t q (lift_block d (d + m) (omega arith) b) (g.finally w c (lift_block m (d + m) (omega arith) h)))) r

pub tries : (d : ℕ) → Nested d → (from : ℕ) → Parses (λ e. try_ (tree e) from) d Any (Behind States d from k.Try) (BehindFault States k.Try)
unfolding try_ finally_
tries d nest from = map (λ l n us ts x r. try_fact from r) (λ l n us ts r. try_fault r)
    (then_any (inner_blocks d nest) (λ of. then_any (eaten k.Catch end_no_catch) (λ b. choose_any b (catches d nest from of)
    (then_any (expecting k.Finally end_no_finally) (λ u. closing (inner_blocks d nest) (λ y. node.Try of.tree None None (Some y.tree)) (λ y. from) (λ y. tallest of.height 0 y.height))))))
