-- What `for` is read as, and where reading it fails.
use Rattle.std.proofs.Common.{◌≡◌, ℕ, zero, suc, ◌+◌, ◌≤◌, max, Bool, true, false, ◌&&◌, List, [], ◌∷◌, ◌++◌, Some, Ok, refl, sym, ap, ◌∙◌, subst, append_assoc, arith}
use Rattle.std.specs.Prelude.{codes}
use Rattle.std.specs.Str.{bytes_eq}
use Rattle.sr_ast.specs.declared.tree.Tree.{Tree}
use Rattle.sr_ast.specs.declared.tree.Node.{Node}
use Rattle.sr_ast.specs.declared.tree.Node.TheVariants as node
use Rattle.sr_ast.specs.declared.binding.Binding.{Binding}
use Rattle.sr_ast.specs.declared.binding.HeadKind.{HeadKind}
use Rattle.sr_ast.specs.declared.binding.HeadKind.TheVariants as head_kind
use Rattle.sr_syntax.specs.declared.sorts.Sort.{Sort}
use Rattle.sr_syntax.specs.declared.sorts.Sort.TheVariants as k
use Rattle.sr_syntax.specs.declared.sorts.Lexeme.{Lexeme}
use Rattle.sr_syntax.specs.declared.grown.Grown.{Grown}
use Rattle.sr_syntax.specs.declared.grown.Part.{Part}
use Rattle.sr_syntax.specs.declared.grown.Goal.TheVariants as goal
use Rattle.sr_syntax.specs.Sorts.{same_sort}
use Rattle.sr_syntax.specs.Input.{Parser, ◌>>=◌, sees, sees_text, sort, sort_at, text_of, content_at, next, complete}
use Rattle.sr_syntax.specs.Operators.{nothing, part_of, tallest, is_target}
use Rattle.sr_syntax.specs.Statements.{for_body, for_rest, for_in, for_of, for_in_target, for_of_target, for_declared, for_named, for_declaring, for_expression, for_by, for_, keys_of, values_of}
use Rattle.sr_syntax.specs.Expressions.{expression}
use Rattle.sr_syntax.specs.Grammar.{tree}
use Rattle.sr_grammar.specs.Names.{binding_of, declaring_word}
use Rattle.sr_grammar.specs.Derivations.{Derives, Expression, Assign, no_expression, an_expression, First, first_expression, States, whole}
use Rattle.sr_grammar.specs.Derivations as g
use Rattle.sr_grammar.specs.Reading.{end_after}
use Rattle.sr_grammar.proofs.Steps.{Fact, Fault, Any, Some_left, Parses, Both, both, Either, first, second, Never, Taken, taken, Expected, expected, Here, here, map, map_given, given, then_any, take, by_first, expecting, same_sort_true, sort_alike, content_alike, end_append, and_is}
use Rattle.sr_grammar.proofs.Depths.{lift, lift_first, lift_perhaps, lift_states}
use Rattle.sr_grammar.proofs.Facts.{Derived, derived, Closed, closed, closing, Start, token, Stood, OpenedOne, opened_one, StartOne}
use Rattle.sr_grammar.proofs.Peeks.{unit_of, unit_shallow}
use Rattle.sr_grammar.proofs.Choices.{Decided, decided, denied, DecidedFault, decided_fault, denied_fault, deciding, Test, Sees, sees_test, seen_left}
use Rattle.sr_grammar.proofs.ParameterFacts.{Bound, bound, bindings}
use Rattle.sr_grammar.proofs.Lists.{Nested, expressions}
use Rattle.sr_grammar.proofs.Beginnings.{Begun, carry, onward, begun_whole, begun_more}
use Rattle.sr_grammar.proofs.Standing.{Calm, carry_in, begun_by, an_empty, no_statement, started, begun_at, Wanted, at_nothing, StartAt, token_needs, Behind, BehindFault, anywhere, completed_behind}
use Rattle.sr_grammar.proofs.Calms.{behind_four}
use Rattle.sr_grammar.proofs.ForHeads.{Maybe, maybe, PerhapsOf, perhapss, Headed, headed, Keys, keys_are, keyss, Values, values_are, valuess, Naming, FirstDeclared, FirstFault, first_named, firsts_declared}
use Rattle.sr_grammar.proofs.Sorts.{end_no_in, end_no_left_parenthesis, end_no_right_parenthesis, end_no_semicolon}

-- ---- the tokens before

-- "for" and "("
abbrev Opening : Lexeme → Lexeme → Type 0
Opening t u = (t.sort ≡ k.For) × (u.sort ≡ k.LeftParenthesis)

-- what is a `for` together with them
abbrev ForTail : ℕ → ℕ → Fact Grown
ForTail d from l n us ts x = (t u : Lexeme) → Opening t u → t.from ≡ from → u.to ≡ l → Stood States d l n (t ∷ u ∷ us) ts x

abbrev ForFault : Fault
ForFault l n us ts = (t u : Lexeme) → Opening t u → Begun (Calm States) (t ∷ u ∷ us)

-- and with a first part
abbrev Rest : ℕ → ℕ → Part → Fact Grown
Rest d from one l n us ts x = (t u : Lexeme) (fs : List Lexeme) → Opening t u → t.from ≡ from → First d fs one → end_after u.to fs ≡ l → Stood States d l n (t ∷ u ∷ (fs ++ us)) ts x

abbrev RestFault : ℕ → Part → Fault
RestFault d one l n us ts = (t u : Lexeme) (fs : List Lexeme) → Opening t u → First d fs one → Begun (Calm States) (t ∷ u ∷ (fs ++ us))

-- ---- a plain one

abbrev RestFact : ℕ → ℕ → Part → Fact Grown
RestFact d from one = Both (Maybe true d k.Semicolon) (λ test. Both (Maybe true d k.RightParenthesis) (λ step.
    Closed (OpenedOne States d) (λ y. node.For one.tree test.tree step.tree y.tree) (λ y. from) (λ y. max one.height (tallest test.height step.height y.height))))

rest_fact : {d l n : ℕ} {us ts : List Lexeme} {x : Grown} (from : ℕ) (one : Part) → RestFact d from one l n us ts x → Rest d from one l n us ts x
rest_fact {l = l} from one (both {us = vs} (maybe p) (both {us = ws} {vs = zs} (maybe q) (closed y (opened_one h b) fits is))) = λ t u fs o o_at f at.
    anywhere (completed_behind {n = 0} t o_at refl fits is
    (sym (end_append u.to fs (vs ++ (ws ++ zs)) ∙ ap (λ m. end_after m (vs ++ (ws ++ zs))) at ∙ end_append l vs (ws ++ zs) ∙ end_append (end_after l vs) ws zs))
    (g.for t u o.0 o.1 f p q h))

-- with nothing else in the head
for_begins : (e : ℕ) (fs : List Lexeme) (one : Part) → First e fs one → (t u : Lexeme) → Opening t u → Begun (Calm States) (t ∷ u ∷ fs)
for_begins e fs one f t u o = record {
  depth = suc e;
  more = token k.Semicolon ∷ token k.RightParenthesis ∷ token k.Semicolon ∷ [];
  made = _;
  has = λ ts calm. g.for {vs = token k.Semicolon ∷ []} {ws = token k.RightParenthesis ∷ []} t u o.0 o.1 (lift_first e (suc e) (omega arith) f)
      (no_expression (token k.Semicolon) refl) (no_expression (token k.RightParenthesis) refl) no_statement;
}

first_begins : {fs : List Lexeme} (t u : Lexeme) → Opening t u → Begun First fs → Begun (Calm States) (t ∷ u ∷ fs)
first_begins t u o b = carry (t ∷ u ∷ []) (λ e vs one f. for_begins e vs one f t u o) b

rest_fault : {d l n : ℕ} {us ts : List Lexeme} (one : Part)
    → Either (Wanted (PerhapsOf true k.Semicolon)) (Maybe true d k.Semicolon) (λ test. Either (Wanted (PerhapsOf true k.RightParenthesis)) (Maybe true d k.RightParenthesis) (λ step. StartOne States)) l n us ts
    → RestFault d one l n us ts
rest_fault {d} one (first b) = λ t u fs o f.
    carry_in (λ zs. t ∷ u ∷ (fs ++ zs)) (λ ys zs. ap (λ qs. t ∷ u ∷ qs) (sym (append_assoc fs ys zs))) (λ e vs test p.
    begun_more (suc (d + e)) (t ∷ u ∷ fs) vs (token k.RightParenthesis ∷ token k.Semicolon ∷ []) _ (λ ts calm.
    g.for {ws = token k.RightParenthesis ∷ []} t u o.0 o.1 (lift_first d (suc (d + e)) (omega arith) f) (lift_perhaps e (suc (d + e)) (omega arith) p)
    (no_expression (token k.RightParenthesis) refl) no_statement)) b
rest_fault {d} one (second {us = vs} (maybe p) (first b)) = λ t u fs o f.
    carry_in (λ zs. t ∷ u ∷ (fs ++ (vs ++ zs))) (λ ys zs. ap (λ qs. t ∷ u ∷ qs) (sym (append_assoc fs (vs ++ ys) zs ∙ ap (λ qs. fs ++ qs) (append_assoc vs ys zs)))) (λ e ws step q.
    begun_by (suc (d + e)) (t ∷ u ∷ (fs ++ (vs ++ ws))) (token k.Semicolon ∷ []) (t ∷ u ∷ (fs ++ (vs ++ (ws ++ token k.Semicolon ∷ [])))) _
    (ap (λ qs. t ∷ u ∷ qs) (append_assoc fs (vs ++ ws) (token k.Semicolon ∷ []) ∙ ap (λ qs. fs ++ qs) (append_assoc vs ws (token k.Semicolon ∷ [])))) (λ ts calm.
    g.for t u o.0 o.1 (lift_first d (suc (d + e)) (omega arith) f) (lift_perhaps d (suc (d + e)) (omega arith) p) (lift_perhaps e (suc (d + e)) (omega arith) q) no_statement)) b
rest_fault {d} one (second {us = vs} (maybe p) (second {us = ws} (maybe q) s)) = λ t u fs o f.
    carry_in (λ zs. t ∷ u ∷ (fs ++ (vs ++ (ws ++ zs)))) (λ ys zs. ap (λ qs. t ∷ u ∷ qs) (behind_four fs vs ws ys zs)) (λ e zs y j.
    begun_whole (suc (d + e)) (t ∷ u ∷ (fs ++ (vs ++ (ws ++ zs)))) _ (λ ts calm.
    g.for t u o.0 o.1 (lift_first d (suc (d + e)) (omega arith) f) (lift_perhaps d (suc (d + e)) (omega arith) p) (lift_perhaps d (suc (d + e)) (omega arith) q)
    (lift_states e (d + e) (omega arith) (j ts calm)))) (started s)

rests : (d : ℕ) → Nested d → (from : ℕ) (one : Part) → Parses (λ e. for_rest (tree e) from one) d Any (Rest d from one) (RestFault d one)
unfolding for_rest for_body
rests d nest from one = map (λ l n us ts x r. rest_fact from one r) (λ l n us ts r. rest_fault one r)
    (then_any (perhapss true d nest k.Semicolon end_no_semicolon) (λ test. then_any (perhapss true d nest k.RightParenthesis end_no_right_parenthesis) (λ step.
    closing nest.statement (λ y. node.For one.tree test.tree step.tree y.tree) (λ y. from) (λ y. max one.height (tallest test.height step.height y.height)))))

-- ---- the token `in`, or the name `of`

abbrev Says_of : List Lexeme → Bool
Says_of ts = same_sort (sort_at ts) k.Identifier && bytes_eq (text_of (content_at ts)) (codes "of")

of_test : Test (sees_text (codes "of")) Says_of
unfolding sees_text
of_test = record { shows = λ all l n. refl; shallow = λ ts rs same. rw (sort_alike ts rs same) (rw (content_alike ts rs same) refl) }

of_left : (ts : List Lexeme) → Says_of ts ≡ true → Some_left ts
unfolding same_sort
of_left [] is = cc
of_left (t ∷ ts) is = tt

-- ---- keys or values

-- the part behind `of`, where an Assign is open
data ValueHead : ℕ → List Lexeme → Grown → Type 0 where
  value_head : {d : ℕ} {us : List Lexeme} {x : Grown} → Headed (Assign true) d us x → ValueHead (suc d) us x

data HeadRead (H : ℕ → List Lexeme → Grown → Type 0) (d l n : ℕ) (us ts : List Lexeme) (x : Grown) : Type 0 where
  head_read : H d us x → HeadRead H d l n us ts x

lift_headed : {s : g.Symbol} {us : List Lexeme} {x : Grown} (d e : ℕ) → d ≤ e → Headed s d us x → Headed s e us x
lift_headed d e far (headed h p q) = headed (lift d e far h) p q

lift_value : {us : List Lexeme} {x : Grown} (d e : ℕ) → d ≤ e → ValueHead d us x → ValueHead e us x
lift_value zero e far h = elim h [ ]
lift_value (suc d) zero far h = absurd (omega (arith, far))
lift_value (suc d) (suc e) far (value_head h) = value_head (lift_headed d e (omega (arith, far)) h)

keys_read : (d : ℕ) → Nested d → Parses (λ e. keys_of (tree e)) d Any (HeadRead (Headed (Expression true)) d) (Wanted (Headed (Expression true)))
keys_read d nest = map (λ l n us ts x r. fact r) (λ l n us ts r. r) (keyss d nest)
  where
    fact : {l n : ℕ} {us ts : List Lexeme} {x : Grown} → Keys d l n us ts x → HeadRead (Headed (Expression true)) d l n us ts x
    fact (keys_are h) = head_read h

values_read : (d : ℕ) → Nested d → Parses (λ e. values_of (tree e)) d Any (HeadRead ValueHead d) (Wanted ValueHead)
values_read d nest = map (λ l n us ts x r. fact r) (λ l n us ts r. onward (λ e vs x h. begun_whole (suc e) vs x (value_head h)) r) (valuess d nest)
  where
    fact : {d l n : ℕ} {us ts : List Lexeme} {x : Grown} → Values d l n us ts x → HeadRead ValueHead d l n us ts x
    fact (values_are h) = head_read (value_head h)

-- What stands between the parenthesis and the token, what stands behind that, the test of it, and the loop of them.
module _ (P : ℕ → List Lexeme → Type 0) (lift_P : (us : List Lexeme) (d e : ℕ) → d ≤ e → P d us → P e us)
    (H : ℕ → List Lexeme → Grown → Type 0) (lift_H : (us : List Lexeme) (x : Grown) (d e : ℕ) → d ≤ e → H d us x → H e us x)
    (test : List Lexeme → Bool) (some : (ts : List Lexeme) → test ts ≡ true → Some_left ts)
    (made : Tree → Tree → Node) (tall : ℕ → ℕ → ℕ)
    (make : (d : ℕ) (t u i : Lexeme) (ps hs vs ts rest : List Lexeme) (x y : Grown) → Opening t u → P (suc d) ps → test (i ∷ rest) ≡ true → H (suc d) hs x → States d vs ts y
    → States (suc d) (t ∷ u ∷ (ps ++ i ∷ (hs ++ vs))) ts (whole (made x.tree y.tree) t.from (t ∷ u ∷ (ps ++ i ∷ (hs ++ vs))) (tall x.height y.height))) where
  abbrev Over : ℕ → ℕ → Fact Grown
  Over d from l n us ts x = (t u : Lexeme) (ps : List Lexeme) → Opening t u → t.from ≡ from → P d ps → Stood States d l n (t ∷ u ∷ (ps ++ us)) ts x

  abbrev OverFault : ℕ → Fault
  OverFault d l n us ts = (t u : Lexeme) (ps : List Lexeme) → Opening t u → P d ps → Begun (Calm States) (t ∷ u ∷ (ps ++ us))

  over_fact : {d l n : ℕ} {us ts : List Lexeme} {x : Grown} (from : ℕ) → test (us ++ ts) ≡ true
      → Both (Taken unit_of) (λ u. Both (HeadRead H d) (λ x. Closed (OpenedOne States d) (λ y. made x.tree y.tree) (λ y. from) (λ y. tall x.height y.height))) l n us ts x → Over d from l n us ts x
  over_fact from is_it (both (taken i e) (both {us = hs} {vs = vs} {ts = ts} {x = x} (head_read h) (closed y (opened_one {d} j b) fits is))) = λ t u ps o o_at p.
      anywhere (completed_behind {n = 0} t o_at refl fits is (sym (end_append u.to ps (i ∷ (hs ++ vs)) ∙ end_append i.to hs vs))
      (make d t u i ps hs vs ts _ x y o p is_it h j))

  over_fault : {d l n : ℕ} {us ts : List Lexeme} → test (us ++ ts) ≡ true
      → Either Never (Taken unit_of) (λ u. Either (Wanted H) (HeadRead H d) (λ x. StartOne States)) l n us ts → OverFault d l n us ts
  over_fault is_it (first c) = elim c [ ]
  over_fault {d} is_it (second (taken i e) (first b)) = λ t u ps o p.
      carry_in (λ zs. t ∷ u ∷ (ps ++ i ∷ zs)) (λ ys zs. ap (λ qs. t ∷ u ∷ qs) (sym (append_assoc ps (i ∷ ys) zs))) (λ e hs x h.
      begun_by (suc (d + e)) (t ∷ u ∷ (ps ++ i ∷ hs)) (token k.Semicolon ∷ []) (t ∷ u ∷ (ps ++ i ∷ (hs ++ token k.Semicolon ∷ []))) _
      (ap (λ qs. t ∷ u ∷ qs) (append_assoc ps (i ∷ hs) (token k.Semicolon ∷ []))) (λ ts calm.
      make (d + e) t u i ps hs (token k.Semicolon ∷ []) ts _ x an_empty o (lift_P ps d (suc (d + e)) (omega arith) p) is_it (lift_H hs x e (suc (d + e)) (omega arith) h) no_statement)) b
  over_fault {d} is_it (second (taken i e) (second {us = hs} {x = x} (head_read h) s)) = λ t u ps o p.
      carry_in (λ zs. t ∷ u ∷ (ps ++ i ∷ (hs ++ zs))) (λ ys zs. ap (λ qs. t ∷ u ∷ qs) (sym (append_assoc ps (i ∷ (hs ++ ys)) zs ∙ ap (λ qs. ps ++ i ∷ qs) (append_assoc hs ys zs)))) (λ e vs y j.
      begun_whole (suc (d + e)) (t ∷ u ∷ (ps ++ i ∷ (hs ++ vs))) _ (λ ts calm.
      make (d + e) t u i ps hs vs ts _ x y o (lift_P ps d (suc (d + e)) (omega arith) p) is_it (lift_H hs x d (suc (d + e)) (omega arith) h) (lift_states e (d + e) (omega arith) (j ts calm)))) (started s)

  overs : {Q : ℕ → Parser Grown} (d : ℕ) → Nested d → (from : ℕ) → Parses Q d Any (HeadRead H d) (Wanted H)
      → Parses (λ e. (λ i. Ok (unit_of i, next i)) >>= (λ u. Q e >>= (λ x. tree e goal.Statement >>= (λ y. complete (made x.tree y.tree) from (tall x.height y.height))))) d (λ ts. test ts ≡ true) (Over d from) (OverFault d)
  overs d nest from q = map_given (λ l n us ts x m r. over_fact from m r) (λ l n us ts m r. over_fault m r)
      (then_any (given some (take unit_of unit_shallow)) (λ u. then_any q (λ x. closing nest.statement (λ y. made x.tree y.tree) (λ y. from) (λ y. tall x.height y.height))))

-- ---- behind a declared name

-- the word and the name that stand before
data Named (how : HeadKind) (b : Binding) (d : ℕ) : List Lexeme → Type 0 where
  named : {v w : Lexeme} → Naming how b v w → Named how b d (v ∷ w ∷ [])

lift_named : {how : HeadKind} {b : Binding} (us : List Lexeme) (d e : ℕ) → d ≤ e → Named how b d us → Named how b e us
lift_named us d e far (named s) = named s

abbrev For_tokens : Lexeme → Lexeme → Lexeme → List Lexeme → List Lexeme → List Lexeme → List Lexeme
For_tokens t u i ps hs vs = t ∷ u ∷ (ps ++ i ∷ (hs ++ vs))

make_in : (how : HeadKind) (b : Binding) (d : ℕ) (t u i : Lexeme) (ps hs vs ts rest : List Lexeme) (x y : Grown) → Opening t u → Named how b (suc d) ps → Sees k.In (i ∷ rest) ≡ true
    → Headed (Expression true) (suc d) hs x → States d vs ts y
    → States (suc d) (For_tokens t u i ps hs vs) ts (whole (node.ForIn (record { kind = how; binding = b }) x.tree y.tree) t.from (For_tokens t u i ps hs vs) (max x.height y.height))
make_in how b d t u i ps hs vs ts rest x y o (named {v} {w} s) is (headed {us = us} h p q) j =
    subst (λ (a : Binding). States (suc d) (For_tokens t u i (v ∷ w ∷ []) (us ++ p ∷ []) vs) ts
    (whole (node.ForIn (record { kind = how; binding = a }) x.tree y.tree) t.from (For_tokens t u i (v ∷ w ∷ []) (us ++ p ∷ []) vs) (max x.height y.height))) (sym s.2)
    (subst (λ zs. States (suc d) (t ∷ u ∷ v ∷ w ∷ i ∷ zs) ts (whole (node.ForIn (record { kind = how; binding = binding_of w }) x.tree y.tree) t.from (t ∷ u ∷ v ∷ w ∷ i ∷ zs) (max x.height y.height)))
    (sym (append_assoc us (p ∷ []) vs)) (g.for_in t u v w i o.0 o.1 s.0 s.1 (same_sort_true i.sort k.In is) h p q j))

make_of : (how : HeadKind) (b : Binding) (d : ℕ) (t u i : Lexeme) (ps hs vs ts rest : List Lexeme) (x y : Grown) → Opening t u → Named how b (suc d) ps → Says_of (i ∷ rest) ≡ true
    → ValueHead (suc d) hs x → States d vs ts y
    → States (suc d) (For_tokens t u i ps hs vs) ts (whole (node.ForOf (record { kind = how; binding = b }) x.tree y.tree) t.from (For_tokens t u i ps hs vs) (max x.height y.height))
make_of how b d t u i ps hs vs ts rest x y o (named {v} {w} s) is (value_head (headed {us = us} h p q)) j =
    subst (λ (a : Binding). States (suc d) (For_tokens t u i (v ∷ w ∷ []) (us ++ p ∷ []) vs) ts
    (whole (node.ForOf (record { kind = how; binding = a }) x.tree y.tree) t.from (For_tokens t u i (v ∷ w ∷ []) (us ++ p ∷ []) vs) (max x.height y.height))) (sym s.2)
    (subst (λ zs. States (suc d) (t ∷ u ∷ v ∷ w ∷ i ∷ zs) ts (whole (node.ForOf (record { kind = how; binding = binding_of w }) x.tree y.tree) t.from (t ∷ u ∷ v ∷ w ∷ i ∷ zs) (max x.height y.height)))
    (sym (append_assoc us (p ∷ []) vs)) (g.for_of t u v w i o.0 o.1 s.0 s.1 is h p q j))

sees_in_left : (ts : List Lexeme) → Sees k.In ts ≡ true → Some_left ts
sees_in_left = seen_left k.In end_no_in

-- what a `for` is behind a declared name
abbrev NameTail : ℕ → ℕ → ℕ → HeadKind → Binding → Fact Grown
NameTail d from place how b l n us ts x = (t u v w : Lexeme) → Opening t u → t.from ≡ from → Naming how b v w → v.from ≡ place → w.to ≡ l → Stood States d l n (t ∷ u ∷ v ∷ w ∷ us) ts x

abbrev NameFault : ℕ → HeadKind → Binding → Fault
NameFault place how b l n us ts = (t u v w : Lexeme) → Opening t u → Naming how b v w → v.from ≡ place → w.to ≡ l → Begun (Calm States) (t ∷ u ∷ v ∷ w ∷ us)

abbrev OverNamed : ℕ → ℕ → HeadKind → Binding → Fact Grown
OverNamed d from how b l n us ts x = (t u : Lexeme) (ps : List Lexeme) → Opening t u → t.from ≡ from → Named how b d ps → Stood States d l n (t ∷ u ∷ (ps ++ us)) ts x

abbrev OverNamedFault : ℕ → HeadKind → Binding → Fault
OverNamedFault d how b l n us ts = (t u : Lexeme) (ps : List Lexeme) → Opening t u → Named how b d ps → Begun (Calm States) (t ∷ u ∷ (ps ++ us))

declared_tail : {d l n : ℕ} {us ts : List Lexeme} {x : Grown} (from place : ℕ) (how : HeadKind) (b : Binding)
    → Both (FirstDeclared d place how b) (λ x. Rest d from (part_of x)) l n us ts x → NameTail d from place how b l n us ts x
declared_tail from place how b (both {us = us} f r) = λ t u v w o o_at s s_at at. anywhere (r t u (v ∷ w ∷ us) o o_at (f v w s s_at at) (ap (λ m. end_after m us) at))

declared_tail_fault : {d l n : ℕ} {us ts : List Lexeme} (place : ℕ) (how : HeadKind) (b : Binding)
    → Either (FirstFault how b) (FirstDeclared d place how b) (λ x. RestFault d (part_of x)) l n us ts → NameFault place how b l n us ts
declared_tail_fault place how b (first r) = λ t u v w o s s_at at. first_begins t u o (r v w s)
declared_tail_fault place how b (second {us = us} f r) = λ t u v w o s s_at at. r t u (v ∷ w ∷ us) o (f v w s s_at at)

named_fact : {d l n : ℕ} {us ts : List Lexeme} {x : Grown} (from place : ℕ) (how : HeadKind) (b : Binding)
    → Decided (Sees k.In) (OverNamed d from how b) (Decided Says_of (OverNamed d from how b) (NameTail d from place how b)) l n us ts x → NameTail d from place how b l n us ts x
named_fact from place how b (decided is r) = λ t u v w o o_at s s_at at. r t u (v ∷ w ∷ []) o o_at (named s)
named_fact from place how b (denied is (decided also r)) = λ t u v w o o_at s s_at at. r t u (v ∷ w ∷ []) o o_at (named s)
named_fact from place how b (denied is (denied also r)) = r

named_fault : {d l n : ℕ} {us ts : List Lexeme} (place : ℕ) (how : HeadKind) (b : Binding)
    → DecidedFault (Sees k.In) (OverNamedFault d how b) (DecidedFault Says_of (OverNamedFault d how b) (NameFault place how b)) l n us ts → NameFault place how b l n us ts
named_fault place how b (decided_fault is r) = λ t u v w o s s_at at. r t u (v ∷ w ∷ []) o (named s)
named_fault place how b (denied_fault is (decided_fault also r)) = λ t u v w o s s_at at. r t u (v ∷ w ∷ []) o (named s)
named_fault place how b (denied_fault is (denied_fault also r)) = r

names_tail : (d : ℕ) → Nested d → (from place : ℕ) (how : HeadKind) (b : Binding)
    → Parses (λ e. for_named (tree e) from place (record { kind = how; binding = b })) d Any (NameTail d from place how b) (NameFault place how b)
unfolding for_named for_in for_of for_declared
names_tail d nest from place how b = map (λ l n us ts x r. named_fact from place how b r) (λ l n us ts r. named_fault {d = d} place how b r)
    (deciding (sees k.In) (Sees k.In) (sees_test k.In)
    (overs (Named how b) lift_named (Headed (Expression true)) (λ us x d e far h. lift_headed d e far h) (Sees k.In) sees_in_left
    (λ x y. node.ForIn (record { kind = how; binding = b }) x y) max (make_in how b) d nest from (keys_read d nest))
    (given (λ ts m. tt) (deciding (sees_text (codes "of")) Says_of of_test
    (overs (Named how b) lift_named ValueHead (λ us x d e far h. lift_value d e far h) Says_of of_left
    (λ x y. node.ForOf (record { kind = how; binding = b }) x y) max (make_of how b) d nest from (values_read d nest))
    (given (λ ts m. tt) (map (λ l n us ts x r. declared_tail from place how b r) (λ l n us ts r. declared_tail_fault place how b r)
    (then_any (firsts_declared d nest place how b) (λ x. rests d nest from (part_of x))))))))

-- ---- behind `var`, `let` or `const`

abbrev WordTail : ℕ → ℕ → ℕ → HeadKind → Fact Grown
WordTail d from place how l n us ts x = (t u v : Lexeme) → Opening t u → t.from ≡ from → declaring_word v.sort ≡ Some how → v.from ≡ place → Stood States d l n (t ∷ u ∷ v ∷ us) ts x

abbrev WordFault : ℕ → HeadKind → Fault
WordFault place how l n us ts = (t u v : Lexeme) → Opening t u → declaring_word v.sort ≡ Some how → v.from ≡ place → Begun (Calm States) (t ∷ u ∷ v ∷ us)

word_fact : {d l n : ℕ} {us ts : List Lexeme} {x : Grown} (from place : ℕ) (how : HeadKind) → Both Bound (λ b. NameTail d from place how b) l n us ts x → WordTail d from place how l n us ts x
word_fact from place how (both (bound w c e) r) = λ t u v o o_at q s_at. anywhere (r t u v w o o_at (q, c, e) s_at refl)

word_fault : {l n : ℕ} {us ts : List Lexeme} (place : ℕ) (how : HeadKind) → Either Here Bound (λ b. NameFault place how b) l n us ts → WordFault place how l n us ts
word_fault place how (first here) = λ t u v o q s_at. first_begins t u o (first_named v q)
word_fault place how (second (bound w c e) r) = λ t u v o q s_at. r t u v w o (q, c, e) s_at refl

words_tail : (d : ℕ) → Nested d → (from place : ℕ) (how : HeadKind) → Parses (λ e. for_declaring (tree e) from place how) d Any (WordTail d from place how) (WordFault place how)
unfolding for_declaring
words_tail d nest from place how = map (λ l n us ts x r. word_fact from place how r) (λ l n us ts r. word_fault place how r) (then_any bindings (λ b. names_tail d nest from place how b))

-- ---- behind an expression

abbrev Target_in : Grown → List Lexeme → Bool
Target_in z ts = is_target z && Sees k.In ts

abbrev Target_of : Grown → List Lexeme → Bool
Target_of z ts = is_target z && Says_of ts

target_in_test : (z : Grown) → Test (λ i. is_target z && sees k.In i) (Target_in z)
unfolding sees sort
target_in_test z = record { shows = λ all l n. refl; shallow = λ ts rs same. ap (λ a. is_target z && same_sort a k.In) (sort_alike ts rs same) }

target_of_test : (z : Grown) → Test (λ i. is_target z && sees_text (codes "of") i) (Target_of z)
unfolding sees_text
target_of_test z = record { shows = λ all l n. refl; shallow = λ ts rs same. rw (sort_alike ts rs same) (rw (content_alike ts rs same) refl) }

make_in_target : (z : Grown) (d : ℕ) (t u i : Lexeme) (ps hs vs ts rest : List Lexeme) (x y : Grown) → Opening t u → Derives (suc d) (Expression false) ps z → Target_in z (i ∷ rest) ≡ true
    → Headed (Expression true) (suc d) hs x → States d vs ts y
    → States (suc d) (For_tokens t u i ps hs vs) ts (whole (node.ForInTarget z.tree x.tree y.tree) t.from (For_tokens t u i ps hs vs) (tallest z.height x.height y.height))
make_in_target z d t u i ps hs vs ts rest x y o h is (headed {us = us} j p q) r =
    let both = and_is (is_target z) (same_sort i.sort k.In) is in
    subst (λ zs. States (suc d) (t ∷ u ∷ (ps ++ i ∷ zs)) ts (whole (node.ForInTarget z.tree x.tree y.tree) t.from (t ∷ u ∷ (ps ++ i ∷ zs)) (tallest z.height x.height y.height)))
    (sym (append_assoc us (p ∷ []) vs)) (g.for_in_target t u o.0 o.1 h both.0 i (same_sort_true i.sort k.In both.1) j p q r)

make_of_target : (z : Grown) (d : ℕ) (t u i : Lexeme) (ps hs vs ts rest : List Lexeme) (x y : Grown) → Opening t u → Derives (suc d) (Expression false) ps z → Target_of z (i ∷ rest) ≡ true
    → ValueHead (suc d) hs x → States d vs ts y
    → States (suc d) (For_tokens t u i ps hs vs) ts (whole (node.ForOfTarget z.tree x.tree y.tree) t.from (For_tokens t u i ps hs vs) (tallest z.height x.height y.height))
make_of_target z d t u i ps hs vs ts rest x y o h is (value_head (headed {us = us} j p q)) r =
    let both = and_is (is_target z) (Says_of (i ∷ rest)) is in
    subst (λ zs. States (suc d) (t ∷ u ∷ (ps ++ i ∷ zs)) ts (whole (node.ForOfTarget z.tree x.tree y.tree) t.from (t ∷ u ∷ (ps ++ i ∷ zs)) (tallest z.height x.height y.height)))
    (sym (append_assoc us (p ∷ []) vs)) (g.for_of_target t u o.0 o.1 h both.0 i both.1 j p q r)

target_in_left : (z : Grown) (ts : List Lexeme) → Target_in z ts ≡ true → Some_left ts
target_in_left z ts is = sees_in_left ts (and_is (is_target z) (Sees k.In ts) is).1

target_of_left : (z : Grown) (ts : List Lexeme) → Target_of z ts ≡ true → Some_left ts
target_of_left z ts is = of_left ts (and_is (is_target z) (Says_of ts) is).1

abbrev TargetTail : ℕ → ℕ → Grown → Fact Grown
TargetTail d from z l n us ts x = (t u : Lexeme) (zs : List Lexeme) → Opening t u → t.from ≡ from → Derives d (Expression false) zs z → Stood States d l n (t ∷ u ∷ (zs ++ us)) ts x

abbrev TargetFault : ℕ → Grown → Fault
TargetFault d z l n us ts = (t u : Lexeme) (zs : List Lexeme) → Opening t u → Derives d (Expression false) zs z → Begun (Calm States) (t ∷ u ∷ (zs ++ us))

plain_tail : {d l n : ℕ} {us ts : List Lexeme} {x : Grown} (from : ℕ) (z : Grown) → Both (Expected k.Semicolon) (λ u. Rest d from (part_of z)) l n us ts x → TargetTail d from z l n us ts x
plain_tail {d} {l} {n} {x = x} from z (both {vs = us} {ts = ts} (expected i c) r) = λ t u zs o o_at h.
    subst (λ qs. Stood States d l n (t ∷ u ∷ qs) ts x) (append_assoc zs (i ∷ []) us)
    (anywhere (r t u (zs ++ i ∷ []) o o_at (first_expression (an_expression h i c)) (end_append u.to zs (i ∷ []))))

expression_first : (e : ℕ) (zs : List Lexeme) (z : Grown) → Derives e (Expression false) zs z → Begun First zs
expression_first e zs z h = record { depth = e; more = token k.Semicolon ∷ []; made = part_of z; has = first_expression (an_expression h (token k.Semicolon) refl) }

plain_tail_fault : {d l n : ℕ} {us ts : List Lexeme} (z : Grown) → Either Here (Expected k.Semicolon) (λ u. RestFault d (part_of z)) l n us ts → TargetFault d z l n us ts
plain_tail_fault {d} z (first here) = λ t u zs o h. at_nothing (first_begins t u o (expression_first d zs z h))
plain_tail_fault z (second {vs = us} (expected i c) r) = λ t u zs o h.
    subst (λ qs. Begun (Calm States) (t ∷ u ∷ qs)) (append_assoc zs (i ∷ []) us) (r t u (zs ++ i ∷ []) o (first_expression (an_expression h i c)))

target_fact : {d l n : ℕ} {us ts : List Lexeme} {x : Grown} (from : ℕ) (z : Grown)
    → Decided (Target_in z) (TargetTail d from z) (Decided (Target_of z) (TargetTail d from z) (TargetTail d from z)) l n us ts x → TargetTail d from z l n us ts x
target_fact from z (decided is r) = r
target_fact from z (denied is (decided also r)) = r
target_fact from z (denied is (denied also r)) = r

target_fault : {d l n : ℕ} {us ts : List Lexeme} (z : Grown)
    → DecidedFault (Target_in z) (TargetFault d z) (DecidedFault (Target_of z) (TargetFault d z) (TargetFault d z)) l n us ts → TargetFault d z l n us ts
target_fault z (decided_fault is r) = r
target_fault z (denied_fault is (decided_fault also r)) = r
target_fault z (denied_fault is (denied_fault also r)) = r

targets_tail : (d : ℕ) → Nested d → (from : ℕ) (z : Grown) → Parses (λ e. for_expression (tree e) from z) d Any (TargetTail d from z) (TargetFault d z)
unfolding for_expression for_in_target for_of_target
targets_tail d nest from z = map (λ l n us ts x r. target_fact from z r) (λ l n us ts r. target_fault z r)
    (deciding (λ i. is_target z && sees k.In i) (Target_in z) (target_in_test z)
    (overs (λ e zs. Derives e (Expression false) zs z) (λ us d e far h. lift d e far h) (Headed (Expression true)) (λ us x d e far h. lift_headed d e far h) (Target_in z) (target_in_left z)
    (λ x y. node.ForInTarget z.tree x y) (λ a b. tallest z.height a b) (make_in_target z) d nest from (keys_read d nest))
    (given (λ ts m. tt) (deciding (λ i. is_target z && sees_text (codes "of") i) (Target_of z) (target_of_test z)
    (overs (λ e zs. Derives e (Expression false) zs z) (λ us d e far h. lift d e far h) ValueHead (λ us x d e far h. lift_value d e far h) (Target_of z) (target_of_left z)
    (λ x y. node.ForOfTarget z.tree x y) (λ a b. tallest z.height a b) (make_of_target z) d nest from (values_read d nest))
    (given (λ ts m. tt) (map (λ l n us ts x r. plain_tail from z r) (λ l n us ts r. plain_tail_fault z r)
    (then_any (expecting k.Semicolon end_no_semicolon) (λ u. rests d nest from (part_of z))))))))

-- ---- by the first token in the head

module _ (d : ℕ) (nest : Nested d) (from : ℕ) where
  by_word : (v : Sort) (place : ℕ) (how : HeadKind) → (k.End ≡ v → ⊥) → declaring_word v ≡ Some how
      → Parses (λ e. (λ i. Ok (unit_of i, next i)) >>= (λ u. for_declaring (tree e) from place how)) d (StartAt v place) (ForTail d from) ForFault
  by_word v place how other q = map_given (λ l n us ts x m r. fact m r) (λ l n us ts m r. fault m r) (then_any (given (token_needs v place other) (take unit_of unit_shallow)) (λ u. words_tail d nest from place how))
    where
      fact : {l n : ℕ} {us ts : List Lexeme} {x : Grown} → StartAt v place (us ++ ts) → Both (Taken unit_of) (λ u. WordTail d from place how) l n us ts x → ForTail d from l n us ts x
      fact m (both (taken w e) r) = λ t u o o_at at. anywhere (r t u w o o_at (ap declaring_word m.0 ∙ q) m.1)

      fault : {l n : ℕ} {us ts : List Lexeme} → StartAt v place (us ++ ts) → Either Never (Taken unit_of) (λ u. WordFault place how) l n us ts → ForFault l n us ts
      fault m (first c) = elim c [ ]
      fault m (second (taken w e) r) = λ t u o. r t u w o (ap declaring_word m.0 ∙ q) m.1

  by_semicolon : (place : ℕ) → Parses (λ e. (λ i. Ok (unit_of i, next i)) >>= (λ u. for_rest (tree e) from nothing)) d (StartAt k.Semicolon place) (ForTail d from) ForFault
  by_semicolon place = map_given (λ l n us ts x m r. fact m r) (λ l n us ts m r. fault m r) (then_any (given (token_needs k.Semicolon place (λ e. cc)) (take unit_of unit_shallow)) (λ u. rests d nest from nothing))
    where
      fact : {l n : ℕ} {us ts : List Lexeme} {x : Grown} → StartAt k.Semicolon place (us ++ ts) → Both (Taken unit_of) (λ u. Rest d from nothing) l n us ts x → ForTail d from l n us ts x
      fact m (both (taken i e) r) = λ t u o o_at at. anywhere (r t u (i ∷ []) o o_at (first_expression (no_expression i m.0)) refl)

      fault : {l n : ℕ} {us ts : List Lexeme} → StartAt k.Semicolon place (us ++ ts) → Either Never (Taken unit_of) (λ u. RestFault d nothing) l n us ts → ForFault l n us ts
      fault m (first c) = elim c [ ]
      fault m (second (taken i e) r) = λ t u o. r t u (i ∷ []) o (first_expression (no_expression i m.0))

  by_expression : Parses (λ e. expression (tree e) false >>= (λ z. for_expression (tree e) from z)) d Any (ForTail d from) ForFault
  by_expression = map (λ l n us ts x r. fact r) (λ l n us ts r. fault r) (then_any (expressions false d nest) (λ z. targets_tail d nest from z))
    where
      fact : {l n : ℕ} {us ts : List Lexeme} {x : Grown} → Both (Derived d (Expression false)) (λ z. TargetTail d from z) l n us ts x → ForTail d from l n us ts x
      fact (both {us = zs} (derived h b) r) = λ t u o o_at at. anywhere (r t u zs o o_at h)

      fault : {l n : ℕ} {us ts : List Lexeme} → Either (Start (Expression false)) (Derived d (Expression false)) (λ z. TargetFault d z) l n us ts → ForFault l n us ts
      fault (first s) = λ t u o. first_begins t u o (onward (λ e vs x h. expression_first e vs x h) (begun_at s))
      fault (second {us = zs} (derived h b) r) = λ t u o. r t u zs o h

  fors_by : (place : ℕ) (v : Sort) → Parses (λ e. for_by (tree e) from place v) d (StartAt v place) (ForTail d from) ForFault
  fors_by place k.Var = by_word k.Var place head_kind.Var (λ e. cc) refl
  fors_by place k.Let = by_word k.Let place head_kind.Let (λ e. cc) refl
  fors_by place k.Const = by_word k.Const place head_kind.Const (λ e. cc) refl
  fors_by place k.Semicolon = by_semicolon place
  fors_by place v = given (λ ts m. tt) by_expression

  for_fact : {l n : ℕ} {us ts : List Lexeme} {x : Grown} → Both (Expected k.LeftParenthesis) (λ u. ForTail d from) l n us ts x → Behind States d from k.For l n us ts x
  for_fact (both (expected u c) r) = λ t v o_at at. anywhere (r t u (v, c) o_at refl)

  for_fault : {l n : ℕ} {us ts : List Lexeme} → Either Here (Expected k.LeftParenthesis) (λ u. ForFault) l n us ts → BehindFault States k.For l n us ts
  for_fault (first here) = λ t v. record {
    depth = 1;
    more = token k.LeftParenthesis ∷ token k.Semicolon ∷ token k.Semicolon ∷ token k.RightParenthesis ∷ token k.Semicolon ∷ [];
    made = _;
    has = λ ts calm. g.for {us = token k.Semicolon ∷ []} {vs = token k.Semicolon ∷ []} {ws = token k.RightParenthesis ∷ []} t (token k.LeftParenthesis) v refl
        (first_expression (no_expression (token k.Semicolon) refl)) (no_expression (token k.Semicolon) refl) (no_expression (token k.RightParenthesis) refl) no_statement;
  }
  for_fault (second (expected u c) r) = λ t v. r t u (v, c)

  pub fors : Parses (λ e. for_ (tree e) from) d Any (Behind States d from k.For) (BehindFault States k.For)
  unfolding for_
  fors = map (λ l n us ts x r. for_fact r) (λ l n us ts r. for_fault r) (then_any (expecting k.LeftParenthesis end_no_left_parenthesis) (λ u. by_first (λ s. s) (λ e place v. for_by (tree e) from place v) fors_by))
