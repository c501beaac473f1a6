-- What `continue`, `break`, `return`, `throw` and `debugger` are read as, and where reading them fails.
use Rattle.std.proofs.Common.{◌≡◌, ℕ, ◌<◌, Bool, true, false, not, ◌&&◌, ◌||◌, List, [], ◌∷◌, ◌++◌, length, Option, Some, None, refl, sym, ap, ◌∙◌, subst, append_assoc, append-nil, arith}
use Rattle.sr_ast.specs.declared.tree.Node.{Node}
use Rattle.sr_ast.specs.declared.tree.Node.TheVariants as node
use Rattle.sr_syntax.specs.declared.sorts.Sort.{Sort}
use Rattle.sr_syntax.specs.declared.sorts.Sort.TheVariants as k
use Rattle.sr_syntax.specs.declared.sorts.Lexeme.{Lexeme}
use Rattle.sr_syntax.specs.declared.grown.Grown.{Grown}
use Rattle.sr_syntax.specs.Sorts.{same_sort}
use Rattle.sr_syntax.specs.Input.{◌>>=◌, sees, sort, sort_at, line_at, line_before, text, text_of, semicolon, complete}
use Rattle.sr_syntax.specs.Expressions.{expression}
use Rattle.sr_syntax.specs.Statements.{ends_statement, label_if_there, continue_, break_, debugger_, return_, throw_}
use Rattle.sr_syntax.specs.Grammar.{tree}
use Rattle.sr_grammar.specs.Derivations.{Derives, Expression, Semicolon, States, whole}
use Rattle.sr_grammar.specs.Derivations as g
use Rattle.sr_grammar.specs.Reading.{end_after, EndsThere}
use Rattle.sr_grammar.proofs.Steps.{Fact, Any, Some_left, Parses, Both, both, Either, first, second, Never, Nowhere, Pure, nothing, Taken, taken, Here, here, map, map_given, given, then_any, take, purely, refused, same_sort_true, sort_alike, line_alike, ending, end_append, and_is}
use Rattle.sr_grammar.proofs.Facts.{Mapped, mapped, mapping, Closed, closed, closing, token}
use Rattle.sr_grammar.proofs.Peeks.{text_shallow}
use Rattle.sr_grammar.proofs.Choices.{Decided, decided, denied, DecidedFault, decided_fault, denied_fault, deciding, Test, not_true}
use Rattle.sr_grammar.proofs.SomeTokens.{some_tokens}
use Rattle.sr_grammar.proofs.Lists.{Nested}
use Rattle.sr_grammar.proofs.Beginnings.{Begun, Of}
use Rattle.sr_grammar.proofs.Standing.{Calm, begun_calm, Wanted, at_nothing, some_expression, Behind, BehindFault, completed_behind}
use Rattle.sr_grammar.proofs.Semicolons.{Closing, closing_by, ends_with, ended, semicolons, Entire, entire, entires}

-- ---- a statement of one token and a semicolon

debugger_fact : {d l n : ℕ} {us ts : List Lexeme} {x : Grown} (from : ℕ) → Closed Closing (λ u. node.Debugger) (λ u. from) (λ u. 0) l n us ts x → Behind States d from k.Debugger l n us ts x
debugger_fact from (closed u (closing_by c) fits is) = λ t v o at. completed_behind t o at fits is refl (g.debugger t v c)

debugger_fault : {l n : ℕ} {us ts : List Lexeme} → Here l n us ts → BehindFault States k.Debugger l n us ts
debugger_fault here = λ t v. begun_calm 0 (t ∷ []) (token k.Semicolon ∷ []) _ (λ ts calm. g.debugger t v ended)

pub debuggers : (d from : ℕ) → Parses (λ e. debugger_ from) d Any (Behind States d from k.Debugger) (BehindFault States k.Debugger)
unfolding debugger_
debuggers d from = map (λ l n us ts x r. debugger_fact from r) (λ l n us ts r. debugger_fault r) (closing (semicolons d) (λ u. node.Debugger) (λ u. from) (λ u. 0))

-- ---- labels

data Label (l n : ℕ) : List Lexeme → List Lexeme → Option (List ℕ) → Type 0 where
  one_label : {ts : List Lexeme} {o : Option (List ℕ)} (t : Lexeme) → t.sort ≡ k.Identifier → t.line_before ≡ false → o ≡ Some (text_of t.content) → Label l n (t ∷ []) ts o
  no_label : {ts : List Lexeme} {o : Option (List ℕ)} → o ≡ None → Label l n [] ts o

abbrev Label_there : List Lexeme → Bool
Label_there ts = same_sort (sort_at ts) k.Identifier && not (line_at ts)

label_test : Test (λ i. sees k.Identifier i && not (line_before i)) Label_there
unfolding sees sort line_before
label_test = record { shows = λ all l n. refl; shallow = λ ts rs same. rw (sort_alike ts rs same) (rw (line_alike ts rs same) refl) }

label_left : (ts : List Lexeme) → Label_there ts ≡ true → Some_left ts
unfolding same_sort
label_left [] is = cc
label_left (t ∷ ts) is = tt

label_fact : {l n : ℕ} {us ts : List Lexeme} {o : Option (List ℕ)} → Decided Label_there (Mapped (Taken text) (λ a. Some a)) (Pure None) l n us ts o → Label l n us ts o
unfolding text
label_fact (decided is (mapped a (taken t e) h)) = let s = and_is (same_sort t.sort k.Identifier) (not t.line_before) is in one_label t (same_sort_true t.sort k.Identifier s.0) (not_true t.line_before s.1) (h ∙ ap (λ a. Some a) e)
label_fact (denied is (nothing h)) = no_label h

label_fault : {l n : ℕ} {us ts : List Lexeme} → DecidedFault Label_there Never Never l n us ts → Never l n us ts
label_fault (decided_fault is c) = c
label_fault (denied_fault is c) = c

labels : (d : ℕ) → Parses (λ e. label_if_there) d Any Label Never
unfolding label_if_there
labels d = map (λ l n us ts x r. label_fact r) (λ l n us ts r. label_fault r)
    (deciding (λ i. sees k.Identifier i && not (line_before i)) Label_there label_test (mapping (given label_left (take text text_shallow)) (λ a. Some a)) (given (λ ts m. tt) (purely None)))

-- what goes to a label, or to none
module _ (v : Sort) (made : Option (List ℕ) → Node)
    (make_alone : (d : ℕ) (vs ts : List Lexeme) (t : Lexeme) → t.sort ≡ v → Semicolon (Unit {0}) vs ts → States d (t ∷ vs) ts (whole (made None) t.from (t ∷ vs) 0))
    (make_to : (d : ℕ) (vs ts : List Lexeme) (t u : Lexeme) → t.sort ≡ v → u.sort ≡ k.Identifier → u.line_before ≡ false → Semicolon (Unit {0}) vs ts
    → States d (t ∷ u ∷ vs) ts (whole (made (Some (text_of u.content))) t.from (t ∷ u ∷ vs) 0)) where
  jump_fact : {d l n : ℕ} {us ts : List Lexeme} {x : Grown} (from : ℕ) → Both Label (λ called. Closed Closing (λ u. made called) (λ u. from) (λ u. 0)) l n us ts x → Behind States d from v l n us ts x
  jump_fact {d} from (both {vs = vs} (one_label w c b h) (closed u (closing_by e) fits is)) = λ t q o at.
      completed_behind t o at fits (is ∙ ap (λ a. ending (made a) from (end_after w.to vs) 0) h) refl (make_to d _ _ t w q c b e)
  jump_fact {d} {l} from (both {vs = vs} (no_label h) (closed u (closing_by e) fits is)) = λ t q o at. completed_behind t o at fits (is ∙ ap (λ a. ending (made a) from (end_after l vs) 0) h) refl (make_alone d _ _ t q e)

  jump_fault : {l n : ℕ} {us ts : List Lexeme} → Either Never Label (λ called. Here) l n us ts → BehindFault States v l n us ts
  jump_fault (first c) = elim c [ ]
  jump_fault (second (one_label w c b h) here) = λ t q. begun_calm 0 (t ∷ w ∷ []) (token k.Semicolon ∷ []) _ (λ ts calm. make_to 0 (token k.Semicolon ∷ []) ts t w q c b ended)
  jump_fault (second (no_label h) here) = λ t q. begun_calm 0 (t ∷ []) (token k.Semicolon ∷ []) _ (λ ts calm. make_alone 0 (token k.Semicolon ∷ []) ts t q ended)

  jumps : (d from : ℕ) → Parses (λ e. label_if_there >>= (λ called. semicolon >>= (λ u. complete (made called) from 0))) d Any (Behind States d from v) (BehindFault States v)
  jumps d from = map (λ l n us ts x r. jump_fact from r) (λ l n us ts r. jump_fault r) (then_any (labels d) (λ called. closing (semicolons d) (λ u. made called) (λ u. from) (λ u. 0)))

pub continues : (d from : ℕ) → Parses (λ e. continue_ from) d Any (Behind States d from k.Continue) (BehindFault States k.Continue)
unfolding continue_
continues d from = jumps k.Continue (λ o. node.Continue o) (λ d vs ts t q e. g.continue_alone t q e) (λ d vs ts t u q c b e. g.continue_to t u q c b e) d from

pub breaks_off : (d from : ℕ) → Parses (λ e. break_ from) d Any (Behind States d from k.Break) (BehindFault States k.Break)
unfolding break_
breaks_off d from = jumps k.Break (λ o. node.Break o) (λ d vs ts t q e. g.break_alone t q e) (λ d vs ts t u q c b e. g.break_from t u q c b e) d from

-- ---- an expression on the same line, and a semicolon

module _ (v : Sort) (made : Grown → Node)
    (make : (d : ℕ) (us vs ts : List Lexeme) (x : Grown) (t : Lexeme) → t.sort ≡ v → line_at us ≡ false → Derives d (Expression true) us x
    → Semicolon (EndsThere (expression (tree d) true) us ts x) vs ts → States d (t ∷ (us ++ vs)) ts (whole (made x) t.from (t ∷ (us ++ vs)) x.height)) where
  same_line : (us ts : List Lexeme) → 0 < length us → line_at (us ++ ts) ≡ false → line_at us ≡ false
  same_line [] ts some h = absurd (omega arith)
  same_line (t ∷ us) ts some h = h

  abbrev AfterFact : ℕ → ℕ → Fact Grown
  AfterFact d from = Both (Entire d) (λ x. Closed Closing (λ u. made x) (λ u. from) (λ u. x.height))

  after_fact : {d l n : ℕ} {us ts : List Lexeme} {x : Grown} (from : ℕ) → line_at (us ++ ts) ≡ false → AfterFact d from l n us ts x → Behind States d from v l n us ts x
  after_fact {d} {l} from line (both {us = us} {vs = vs} {ts = ts} {x = x} (entire h b e) (closed u (closing_by c) fits is)) = λ t q o at.
      completed_behind t o at fits is (sym (end_append l us vs))
      (make d us vs ts x t q (same_line us (vs ++ ts) (some_tokens h) (subst (λ zs. line_at zs ≡ false) (append_assoc us vs ts) line)) h (ends_with (λ zs. EndsThere (expression (tree d) true) us zs x) e c))

  -- where nothing was read of the expression it is another that is begun
  module _ (none : (t : Lexeme) → t.sort ≡ v → Begun (Calm States) (t ∷ [])) where
    after_begun : (us ts : List Lexeme) → line_at (us ++ ts) ≡ false → Begun (Of (Expression true)) us → (t : Lexeme) → t.sort ≡ v → Begun (Calm States) (t ∷ us)
    after_begun [] ts line b t q = none t q
    after_begun (w ∷ us) ts line b t q = record {
      depth = b.depth;
      more = b.more ++ token k.Semicolon ∷ [];
      made = _;
      has = λ rs calm. subst (λ zs. States b.depth (t ∷ zs) rs (whole (made b.made) t.from (t ∷ zs) b.made.height)) (append_assoc (w ∷ us) b.more (token k.Semicolon ∷ []))
          (make b.depth ((w ∷ us) ++ b.more) (token k.Semicolon ∷ []) rs b.made t q line b.has ended);
    }

    after_fault : {d l n : ℕ} {us ts : List Lexeme} → line_at (us ++ ts) ≡ false → Either (Wanted (Of (Expression true))) (Entire d) (λ x. Here) l n us ts → BehindFault States v l n us ts
    after_fault line (first {us} {ts} b) = λ t q. after_begun us ts line b t q
    after_fault {d} line (second {us} {ts = ts} {x = x} (entire h b e) here) = λ t q.
        let here_line : line_at us ≡ false = same_line us ts (some_tokens h) (subst (λ zs. line_at (zs ++ ts) ≡ false) (append-nil us) line) in
        at_nothing (begun_calm d (t ∷ us) (token k.Semicolon ∷ []) _ (λ rs calm. make d us (token k.Semicolon ∷ []) rs x t q here_line h ended))

    afters : (d : ℕ) → Nested d → (from : ℕ) → Parses (λ e. expression (tree e) true >>= (λ x. semicolon >>= (λ u. complete (made x) from x.height))) d (λ ts. line_at ts ≡ false)
        (Behind States d from v) (BehindFault States v)
    afters d nest from = map_given (λ l n us ts x m r. after_fact from m r) (λ l n us ts m r. after_fault m r)
        (given (λ ts m. tt) (then_any (entires d nest) (λ x. closing (semicolons d) (λ u. made x) (λ u. from) (λ u. x.height))))

-- ---- return

abbrev Ended_there : List Lexeme → Bool
Ended_there ts = same_sort (sort_at ts) k.Semicolon || (same_sort (sort_at ts) k.RightBrace || line_at ts)

ends_test : Test ends_statement Ended_there
unfolding ends_statement sees sort line_before
ends_test = record { shows = λ all l n. refl; shallow = λ ts rs same. rw (sort_alike ts rs same) (rw (line_alike ts rs same) refl) }

neither : (a b c : Bool) → (a || (b || c)) ≡ false → c ≡ false
neither true b c h = cc
neither false true c h = cc
neither false false c h = h

return_end : (t : Lexeme) → t.sort ≡ k.Return → Begun (Calm States) (t ∷ [])
return_end t v = begun_calm 0 (t ∷ []) (token k.Semicolon ∷ []) _ (λ ts calm. g.return_alone t v ended)

alone_fact : {d l n : ℕ} {us ts : List Lexeme} {x : Grown} (from : ℕ) → Closed Closing (λ u. node.Return None) (λ u. from) (λ u. 0) l n us ts x → Behind States d from k.Return l n us ts x
alone_fact from (closed u (closing_by c) fits is) = λ t v o at. completed_behind t o at fits is refl (g.return_alone t v c)

alone_fault : {l n : ℕ} {us ts : List Lexeme} → Here l n us ts → BehindFault States k.Return l n us ts
alone_fault here = λ t v. return_end t v

return_fact : {d l n : ℕ} {us ts : List Lexeme} {x : Grown} (from : ℕ) → Decided Ended_there (Behind States d from k.Return) (Behind States d from k.Return) l n us ts x → Behind States d from k.Return l n us ts x
return_fact from (decided is r) = r
return_fact from (denied is r) = r

return_fault : {l n : ℕ} {us ts : List Lexeme} → DecidedFault Ended_there (BehindFault States k.Return) (BehindFault States k.Return) l n us ts → BehindFault States k.Return l n us ts
return_fault (decided_fault is r) = r
return_fault (denied_fault is r) = r

pub returning : (d : ℕ) → Nested d → (from : ℕ) → Parses (λ e. return_ (tree e) from) d Any (Behind States d from k.Return) (BehindFault States k.Return)
unfolding return_
returning d nest from = map (λ l n us ts x r. return_fact from r) (λ l n us ts r. return_fault r) (deciding ends_statement Ended_there ends_test
    (given (λ ts m. tt) (map (λ l n us ts x r. alone_fact from r) (λ l n us ts r. alone_fault r) (closing (semicolons d) (λ u. node.Return None) (λ u. from) (λ u. 0))))
    (given (λ ts m. neither (same_sort (sort_at ts) k.Semicolon) (same_sort (sort_at ts) k.RightBrace) (line_at ts) m)
    (afters k.Return (λ x. node.Return (Some x.tree)) (λ d us vs ts x t q line h c. g.return_value t q line h c) return_end d nest from)))

-- ---- throw

line_test : Test line_before line_at
unfolding line_before
line_test = record { shows = λ all l n. refl; shallow = λ ts rs same. line_alike ts rs same }

throw_end : (t : Lexeme) → t.sort ≡ k.Throw → Begun (Calm States) (t ∷ [])
throw_end t v = begun_calm 4 (t ∷ []) (token k.Identifier ∷ token k.Semicolon ∷ []) _ (λ ts calm. g.throw {us = token k.Identifier ∷ []} t v refl (some_expression true) ended)

throw_fact : {d l n : ℕ} {us ts : List Lexeme} {x : Grown} (from : ℕ) → Decided line_at Nowhere (Behind States d from k.Throw) l n us ts x → Behind States d from k.Throw l n us ts x
throw_fact from (decided is r) = elim r [ ]
throw_fact from (denied is r) = r

throw_fault : {l n : ℕ} {us ts : List Lexeme} → DecidedFault line_at Here (BehindFault States k.Throw) l n us ts → BehindFault States k.Throw l n us ts
throw_fault (decided_fault is here) = λ t v. throw_end t v
throw_fault (denied_fault is r) = r

pub throws : (d : ℕ) → Nested d → (from : ℕ) → Parses (λ e. throw_ (tree e) from) d Any (Behind States d from k.Throw) (BehindFault States k.Throw)
unfolding throw_
throws d nest from = map (λ l n us ts x r. throw_fact from r) (λ l n us ts r. throw_fault r) (deciding line_before line_at line_test (given (λ ts m. tt) refused)
    (afters k.Throw (λ x. node.Throw x.tree) (λ d us vs ts x t q line h c. g.throw t q line h c) throw_end d nest from))
