-- What statements are read as, and where reading them fails.
use Rattle.std.proofs.Common.{◌≡◌, ℕ, suc, ◌<◌, Bool, true, false, ◌&&◌, List, [], ◌∷◌, ◌++◌, length, refl, sym, ap, ◌∙◌, subst, append_assoc, append-nil, length-append, arith}
use Rattle.sr_ast.specs.declared.tree.Node.TheVariants as node
use Rattle.sr_ast.specs.declared.binding.HeadKind.TheVariants as head_kind
use Rattle.sr_syntax.specs.declared.sorts.Sort.{Sort}
use Rattle.sr_syntax.specs.declared.sorts.Sort.TheVariants as k
use Rattle.sr_syntax.specs.declared.sorts.Lexeme.{Lexeme}
use Rattle.sr_syntax.specs.declared.grown.Grown.{Grown}
use Rattle.sr_syntax.specs.Sorts.{same_sort}
use Rattle.sr_syntax.specs.Input.{sees, ahead, sort, sort_at, ahead_at, text, refuse}
use Rattle.sr_syntax.specs.Operators.{statement_node, from_of}
use Rattle.sr_syntax.specs.Expressions.{expression}
use Rattle.sr_syntax.specs.Statements.{plain, labelled, begins_label, plain_or_labelled, statement_by, statement}
use Rattle.sr_syntax.specs.Grammar.{tree}
use Rattle.sr_grammar.specs.Names.{is_label}
use Rattle.sr_grammar.specs.Derivations.{Expression, begins_statement, start_of, States, whole}
use Rattle.sr_grammar.specs.Derivations as g
use Rattle.sr_grammar.specs.Reading.{end_after, EndsThere}
use Rattle.sr_grammar.proofs.Steps.{Fact, Fault, Any, Need, Some_left, Parses, Both, both, Either, first, second, Never, Taken, taken, Expected, expected, Here, here, Completed, completed, completing, map, map_given, given, then_any, take, by_first, expecting, refused, same_sort_true, sort_alike, ending, end_append, and_is}
use Rattle.sr_grammar.proofs.Facts.{Closed, closed, closing, token, Stood, stood, OpenedOne, opened_one, StartOne, start_one}
use Rattle.sr_grammar.proofs.Peeks.{text_shallow}
use Rattle.sr_grammar.proofs.Choices.{Decided, decided, denied, DecidedFault, decided_fault, denied_fault, deciding, Test, ahead_alike}
use Rattle.sr_grammar.proofs.SomeTokens.{some_tokens}
use Rattle.sr_grammar.proofs.FunctionFacts.{Blocked, blocked, NotBlocked, not_blocked, blocks}
use Rattle.sr_grammar.proofs.Starting.{end_some}
use Rattle.sr_grammar.proofs.Lists.{Nested}
use Rattle.sr_grammar.proofs.Beginnings.{Begun, Of, carry, onward, begun_whole}
use Rattle.sr_grammar.proofs.Standing.{Calm, begins_one, started, begun_calm, an_empty, no_statement, Wanted, at_nothing, StartAt, start_at, Behind, BehindFault, behind_first, anywhere, completed_behind}
use Rattle.sr_grammar.proofs.Semicolons.{Closing, closing_by, ends_with, ended, semicolons, Entire, entire, entires}
use Rattle.sr_grammar.proofs.Declaring.{declared_bys}
use Rattle.sr_grammar.proofs.Conditions.{ifs, dos, whiles}
use Rattle.sr_grammar.proofs.ForLoops.{fors}
use Rattle.sr_grammar.proofs.Jumps.{continues, breaks_off, returning, throws, debuggers}
use Rattle.sr_grammar.proofs.Switches.{switches}
use Rattle.sr_grammar.proofs.Tries.{tries}
use Rattle.sr_grammar.proofs.Sorts.{end_no_colon}

-- ---- labels

abbrev Labels : List Lexeme → Bool
Labels ts = same_sort (sort_at ts) k.Identifier && same_sort (ahead_at ts) k.Colon

labels_test : Test (λ i. sees k.Identifier i && same_sort (ahead i) k.Colon) Labels
unfolding sees sort ahead
labels_test = record { shows = λ all l n. refl; shallow = λ ts rs same. rw (sort_alike ts rs same) (rw (ahead_alike ts rs same) refl) }

labels_left : (ts : List Lexeme) → Labels ts ≡ true → Some_left ts
unfolding same_sort
labels_left [] is = cc
labels_left (t ∷ ts) is = tt

abbrev LabelFact : ℕ → ℕ → Fact Grown
LabelFact d from = Both (Taken text) (λ called. Both (Expected k.Colon) (λ u. Closed (OpenedOne States d) (λ y. node.Labelled called y.tree) (λ y. from) (λ y. y.height)))

labelled_fact : {d l n : ℕ} {us ts : List Lexeme} {x : Grown} (from : ℕ) (v : Sort) → StartAt v from (us ++ ts) → Labels (us ++ ts) ≡ true → LabelFact d from l n us ts x → Stood States d l n us ts x
unfolding text
labelled_fact from v m is (both {x = called} (taken t e) (both {vs = us} (expected u c) (closed y (opened_one h b) fits r))) =
    let s = and_is (same_sort t.sort k.Identifier) (same_sort t.ahead k.Colon) is in
    anywhere (completed_behind {n = 0} t m.1 refl fits (r ∙ ap (λ a. ending (node.Labelled a y.tree) from (end_after u.to us) y.height) e) refl
    (g.labelled t u (same_sort_true t.sort k.Identifier s.0) s.1 c h))

-- with no colon and no statement
label_alone : (t : Lexeme) → Labels (t ∷ []) ≡ true → Begun (Calm States) (t ∷ [])
label_alone t is =
    let s = and_is (same_sort t.sort k.Identifier) (same_sort t.ahead k.Colon) is in
    begun_calm 1 (t ∷ []) (token k.Colon ∷ token k.Semicolon ∷ []) _ (λ ts calm. g.labelled t (token k.Colon) (same_sort_true t.sort k.Identifier s.0) s.1 refl no_statement)

labelled_fault : {l n : ℕ} {us ts : List Lexeme} → Labels (us ++ ts) ≡ true
    → Either Never (Taken text) (λ called. Either Here (Expected k.Colon) (λ u. StartOne States)) l n us ts → StartOne States l n us ts
labelled_fault is (first c) = elim c [ ]
labelled_fault is (second (taken t e) (first here)) = start_one (begins_one (label_alone t is))
labelled_fault is (second (taken t e) (second (expected u c) r)) =
    let s = and_is (same_sort t.sort k.Identifier) (same_sort t.ahead k.Colon) is in
    start_one (begins_one (carry (t ∷ u ∷ []) (λ e vs y h. begun_whole (suc e) (t ∷ u ∷ vs) _ (λ ts calm. g.labelled t u (same_sort_true t.sort k.Identifier s.0) s.1 c (h ts calm))) (started r)))

-- ---- expressions

same_label : (us ts : List Lexeme) → 0 < length us → Labels (us ++ ts) ≡ is_label us
same_label [] ts some = absurd (omega arith)
same_label (t ∷ us) ts some = refl

begins_as : (v : Sort) (from : ℕ) (us ts : List Lexeme) → 0 < length us → StartAt v from (us ++ ts) → begins_statement v ≡ false → begins_statement (sort_at us) ≡ false
begins_as v from [] ts some m other = absurd (omega arith)
begins_as v from (t ∷ us) ts some m other = ap begins_statement m.0 ∙ other

abbrev PlainFact : ℕ → ℕ → Fact Grown
PlainFact d from = Both (Entire d) (λ x. Closed Closing (λ u. statement_node from x) (λ u. from_of x) (λ u. x.height))

plain_fact : {d l n : ℕ} {us ts : List Lexeme} {x : Grown} (from : ℕ) (v : Sort) → begins_statement v ≡ false → StartAt v from (us ++ ts) → Labels (us ++ ts) ≡ false → PlainFact d from l n us ts x
    → Stood States d l n us ts x
plain_fact {d} {l} {n} {x = y} from v other m is_not (both {us = us} {vs = vs} {ts = ts} {x = x} (entire h b e) (closed u (closing_by c) fits is)) =
    let some : 0 < length us = some_tokens h in
    let begun : StartAt v from (us ++ (vs ++ ts)) = subst (λ zs. StartAt v from zs) (append_assoc us vs ts) m in
    let unlabelled : Labels (us ++ (vs ++ ts)) ≡ false = subst (λ zs. Labels zs ≡ false) (append_assoc us vs ts) is_not in
    let same : y ≡ whole (statement_node (start_of us) x) (from_of x) (us ++ vs) x.height =
    is ∙ ap (λ a. ending (statement_node a x) (from_of x) (end_after (end_after l us) vs) x.height) (sym (start_at v us (vs ++ ts) some begun))
    ∙ ap (λ a. ending (statement_node (start_of us) x) (from_of x) a x.height) (sym (end_append l us vs) ∙ end_some l 0 (us ++ vs) (omega (arith, some, length-append us vs))) in
    subst (λ z. Stood States d l n (us ++ vs) ts z) (sym same)
    (stood (g.expression_statement (begins_as v from us (vs ++ ts) some begun other) (sym (same_label us (vs ++ ts) some) ∙ unlabelled) h (ends_with (λ zs. EndsThere (expression (tree d) true) us zs x) e c)) (omega (arith, fits)))

-- an expression that is begun
begun_plain : (v : Sort) (from : ℕ) (us ts : List Lexeme) → begins_statement v ≡ false → StartAt v from (us ++ ts) → Labels (us ++ ts) ≡ false → Begun (Of (Expression true)) us → Begun (Calm States) us
begun_plain v from [] ts other m is_not b = begun_calm 0 [] (token k.Semicolon ∷ []) an_empty (λ rs calm. no_statement)
begun_plain v from (w ∷ us) ts other m is_not b = record {
  depth = b.depth;
  more = b.more ++ token k.Semicolon ∷ [];
  made = _;
  has = λ rs calm. subst (λ zs. States b.depth zs rs (whole (statement_node w.from b.made) (from_of b.made) zs b.made.height)) (append_assoc (w ∷ us) b.more (token k.Semicolon ∷ []))
      (g.expression_statement {us = (w ∷ us) ++ b.more} {vs = token k.Semicolon ∷ []} (ap begins_statement m.0 ∙ other) is_not b.has ended);
}

plain_fault : {d l n : ℕ} {us ts : List Lexeme} (from : ℕ) (v : Sort) → begins_statement v ≡ false → StartAt v from (us ++ ts) → Labels (us ++ ts) ≡ false
    → Either (Wanted (Of (Expression true))) (Entire d) (λ x. Here) l n us ts → StartOne States l n us ts
plain_fault from v other m is_not (first {us} {ts} b) = start_one (begins_one (begun_plain v from us ts other m is_not b))
plain_fault {d} from v other m is_not (second {us} {ts = ts} {x = x} (entire h b e) here) =
    let some : 0 < length us = some_tokens h in
    let begun : StartAt v from (us ++ ts) = subst (λ zs. StartAt v from (zs ++ ts)) (append-nil us) m in
    let unlabelled : Labels (us ++ ts) ≡ false = subst (λ zs. Labels (zs ++ ts) ≡ false) (append-nil us) is_not in
    start_one (begins_one (at_nothing (begun_calm d us (token k.Semicolon ∷ []) _ (λ rs calm.
    g.expression_statement (begins_as v from us ts some begun other) (sym (same_label us ts some) ∙ unlabelled) h ended))))

-- ---- by the first token

-- what is told where the first token is known
abbrev Told : Need → Fact Grown → Fact Grown
Told N R l n us ts x = N (us ++ ts) → R l n us ts x

abbrev ToldFault : Need → Fault → Fault
ToldFault N B l n us ts = N (us ++ ts) → B l n us ts

module _ (d : ℕ) (nest : Nested d) (from : ℕ) where
  labels_read : (v : Sort) → Parses (λ e. labelled (tree e) from) d (λ ts. Labels ts ≡ true) (Told (StartAt v from) (Stood States d)) (ToldFault (StartAt v from) (StartOne States))
  unfolding labelled
  labels_read v = map_given (λ l n us ts x is r. λ m. labelled_fact from v m is r) (λ l n us ts is r. λ m. labelled_fault is r)
      (then_any (given labels_left (take text text_shallow)) (λ called. then_any (expecting k.Colon end_no_colon) (λ u. closing nest.statement (λ y. node.Labelled called y.tree) (λ y. from) (λ y. y.height))))

  plains : (v : Sort) → begins_statement v ≡ false → Parses (λ e. plain (tree e) from) d (λ ts. Labels ts ≡ false) (Told (StartAt v from) (Stood States d)) (ToldFault (StartAt v from) (StartOne States))
  unfolding plain
  plains v other = map_given (λ l n us ts x is r. λ m. plain_fact from v other m is r) (λ l n us ts is r. λ m. plain_fault from v other m is r)
      (given (λ ts m. tt) (then_any (entires d nest) (λ x. closing (semicolons d) (λ u. statement_node from x) (λ u. from_of x) (λ u. x.height))))

  others : (v : Sort) → begins_statement v ≡ false → Parses (λ e. plain_or_labelled (tree e) from) d (StartAt v from) (Stood States d) (StartOne States)
  unfolding plain_or_labelled begins_label
  others v other = map_given (λ l n us ts x m r. fact r m) (λ l n us ts m r. fault r m) (given (λ ts m. tt) (deciding (λ i. sees k.Identifier i && same_sort (ahead i) k.Colon) Labels labels_test (labels_read v) (plains v other)))
    where
      fact : {l n : ℕ} {us ts : List Lexeme} {x : Grown} → Decided Labels (Told (StartAt v from) (Stood States d)) (Told (StartAt v from) (Stood States d)) l n us ts x → Told (StartAt v from) (Stood States d) l n us ts x
      fact (decided is r) = r
      fact (denied is r) = r

      fault : {l n : ℕ} {us ts : List Lexeme} → DecidedFault Labels (ToldFault (StartAt v from) (StartOne States)) (ToldFault (StartAt v from) (StartOne States)) l n us ts
          → ToldFault (StartAt v from) (StartOne States) l n us ts
      fault (decided_fault is r) = r
      fault (denied_fault is r) = r

  block_fact : {l n : ℕ} {us ts : List Lexeme} {x : Grown} → Blocked from d l n us ts x → Behind States d from k.LeftBrace l n us ts x
  block_fact (blocked f b) = λ t v o at. stood (g.block (f t v o)) b

  block_fault : {l n : ℕ} {us ts : List Lexeme} → NotBlocked l n us ts → BehindFault States k.LeftBrace l n us ts
  block_fault (not_blocked f) = λ t v. onward (λ e vs x h. begun_whole e vs x (λ ts calm. g.block h)) (f t v)

  empty_fact : {l n : ℕ} {us ts : List Lexeme} {x : Grown} → Completed node.Empty from 0 l n us ts x → Behind States d from k.Semicolon l n us ts x
  empty_fact (completed fits is) = λ t v o at. completed_behind t o at fits is refl (g.empty t v)

  refuses : (v : Sort) → Parses (λ e. refuse) d (StartAt v from) (Stood States d) (StartOne States)
  refuses v = given (λ ts m. tt) (map (λ l n us ts x r. elim r [ ]) (λ l n us ts r. fault r) refused)
    where
      fault : {l n : ℕ} {us ts : List Lexeme} → Here l n us ts → StartOne States l n us ts
      fault here = start_one (begins_one (begun_calm 0 [] (token k.Semicolon ∷ []) an_empty (λ rs calm. no_statement)))

  states_by : (v : Sort) → Parses (λ e. statement_by (tree e) from v) d (StartAt v from) (Stood States d) (StartOne States)
  states_by k.LeftBrace = behind_first k.LeftBrace from (λ e. cc) (map (λ l n us ts x r. block_fact r) (λ l n us ts r. block_fault r) (blocks from d nest))
  states_by k.Var = behind_first k.Var from (λ e. cc) (declared_bys States head_kind.Var k.Var (λ d tall us vs ts ds t q h e. g.var t q h e) d nest from)
  states_by k.Semicolon = behind_first k.Semicolon from (λ e. cc) (map (λ l n us ts x r. empty_fact r) (λ l n us ts r. elim r [ ]) (completing node.Empty from 0))
  states_by k.If = behind_first k.If from (λ e. cc) (ifs d nest from)
  states_by k.Do = behind_first k.Do from (λ e. cc) (dos d nest from)
  states_by k.While = behind_first k.While from (λ e. cc) (whiles d nest from)
  states_by k.For = behind_first k.For from (λ e. cc) (fors d nest from)
  states_by k.Continue = behind_first k.Continue from (λ e. cc) (continues d from)
  states_by k.Break = behind_first k.Break from (λ e. cc) (breaks_off d from)
  states_by k.Return = behind_first k.Return from (λ e. cc) (returning d nest from)
  states_by k.Throw = behind_first k.Throw from (λ e. cc) (throws d nest from)
  states_by k.Debugger = behind_first k.Debugger from (λ e. cc) (debuggers d from)
  states_by k.Switch = behind_first k.Switch from (λ e. cc) (switches d nest from)
  states_by k.Try = behind_first k.Try from (λ e. cc) (tries d nest from)
  states_by k.Function = refuses k.Function
  states_by v = others v refl

pub statements : (d : ℕ) → Nested d → Parses (λ e. statement (tree e)) d Any (Stood States d) (StartOne States)
unfolding statement
statements d nest = by_first (λ s. s) (λ e from v. statement_by (tree e) from v) (λ from v. states_by d nest from v)
