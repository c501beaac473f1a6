-- What semicolons are read as, and expressions before them.
use Rattle.std.proofs.Common.{◌≡◌, ℕ, ◌≤◌, Bool, true, false, ◌||◌, List, [], ◌∷◌, ◌++◌, Ok, refl, sym, ◌∙◌, arith, ◌⊎◌, inl, inr, if◌then◌else◌}
use Rattle.sr_syntax.specs.declared.sorts.Sort.{Sort}
use Rattle.sr_syntax.specs.declared.sorts.Sort.TheVariants as k
use Rattle.sr_syntax.specs.declared.sorts.Lexeme.{Lexeme}
use Rattle.sr_syntax.specs.declared.grown.Grown.{Grown}
use Rattle.sr_syntax.specs.Sorts.{same_sort}
use Rattle.sr_syntax.specs.Input.{Input, ◌>>=◌, pure, refuse, sees, sort, sort_at, line_at, line_before, take_token, semicolon, max_depth}
use Rattle.sr_syntax.specs.Expressions.{expression}
use Rattle.sr_syntax.specs.Grammar.{tree}
use Rattle.sr_grammar.specs.Derivations.{Derives, Expression, Semicolon, written, before_brace, before_line}
use Rattle.sr_grammar.specs.Reading.{end_after, head, EndsThere}
use Rattle.sr_grammar.proofs.Steps.{inp, done, Fact, Fault, Any, Parses, Both, both, Either, first, second, Never, Nowhere, Pure, nothing, Looked, looked, Taken, taken, Here, Chosen, yes, no, ChosenFault, yes_fault, no_fault, map, then_any, bind, look, take, Shallow, Some_left, purely, refused, choose, choose_any, not_both, sort_alike, line_alike, same_sort_true, map_again}
use Rattle.sr_grammar.proofs.Facts.{Derived, derived, token}
use Rattle.sr_grammar.proofs.Peeks.{unit_of, unit_shallow}
use Rattle.sr_grammar.proofs.SomeTokens.{some_tokens}
use Rattle.sr_grammar.proofs.Moves.{expression_moves}
use Rattle.sr_grammar.proofs.Lists.{Nested, expressions}
use Rattle.sr_grammar.proofs.Beginnings.{Of}
use Rattle.sr_grammar.proofs.Choices.{alike}
use Rattle.sr_grammar.proofs.Standing.{if_at, sees_shallow, Wanted, begun_at}
use Rattle.sr_grammar.proofs.Sorts.{end_no_semicolon}

-- ---- semicolons

pub data Closing (l n : ℕ) (us ts : List Lexeme) (u : Unit {0}) : Type 0 where
  closing_by : Semicolon (Unit {0}) us ts → Closing l n us ts u

-- where what stands before it ends, if that is asked
pub ends_with : {vs ts : List Lexeme} (E : List Lexeme → Type 0) → E (vs ++ ts) → Semicolon (Unit {0}) vs ts → Semicolon (E ts) vs ts
ends_with E e (written t c) = written t c
ends_with E e (before_brace c) = before_brace c
ends_with E e (before_line c o u) = before_line c o e

-- a semicolon that is written
pub ended : {ends : Type 0} {ts : List Lexeme} → Semicolon ends (token k.Semicolon ∷ []) ts
ended = written (token k.Semicolon) refl

inserts_shallow : Shallow (λ i. sees k.RightBrace i || line_before i)
unfolding sees sort line_before
inserts_shallow l n ts rs h = rw (sort_alike ts rs h) (rw (line_alike ts rs h) refl)

or_is : (a b : Bool) → (a || b) ≡ true → (a ≡ true) ⊎ (b ≡ true)
or_is true b h = inl refl
or_is false b h = inr h

abbrev SemicolonFact : Fact (Unit {0})
SemicolonFact = Both (Looked (λ i. sees k.Semicolon i)) (λ a. Chosen a (Taken unit_of) (Both (Looked (λ i. sees k.RightBrace i || line_before i)) (λ b. Chosen b (Pure tt) Nowhere)))

semicolon_fact : {l n : ℕ} {us ts : List Lexeme} {u : Unit {0}} → SemicolonFact l n us ts u → Closing l n us ts u
unfolding sees sort line_before
semicolon_fact (both (looked e) (yes f (taken t i))) = closing_by (written t (same_sort_true t.sort k.Semicolon (sym e ∙ f)))
semicolon_fact {ts = ts} (both (looked e) (no f (both (looked i) (yes j (nothing is))))) =
    elim (or_is (same_sort (sort_at ts) k.RightBrace) (line_at ts) (sym i ∙ j)) [ inl c ↦ closing_by (before_brace (same_sort_true (sort_at ts) k.RightBrace c)) | inr c ↦ closing_by (before_line c (sym e ∙ f) tt) ]
semicolon_fact (both (looked e) (no f (both (looked i) (no j r)))) = elim r [ ]

abbrev SemicolonFault : Fault
SemicolonFault = Either Never (Looked (λ i. sees k.Semicolon i)) (λ a. ChosenFault a Never (Either Never (Looked (λ i. sees k.RightBrace i || line_before i)) (λ b. ChosenFault b Never Here)))

semicolon_fault : {l n : ℕ} {us ts : List Lexeme} → SemicolonFault l n us ts → Here l n us ts
semicolon_fault (first c) = elim c [ ]
semicolon_fault (second (looked e) (yes_fault f c)) = elim c [ ]
semicolon_fault (second (looked e) (no_fault f (first c))) = elim c [ ]
semicolon_fault (second (looked e) (no_fault f (second (looked i) (yes_fault j c)))) = elim c [ ]
semicolon_fault (second (looked e) (no_fault f (second (looked i) (no_fault j h)))) = h

-- whether a token of this kind comes next, which is there
pub sees_needs : (v : Sort) → same_sort k.End v ≡ false → {l n : ℕ} {us ts : List Lexeme} (a : Bool) → Looked (λ i. sees v i) l n us ts a → (a ≡ true → Some_left ts) × (a ≡ false → Unit {0})
unfolding sees sort
sees_needs v other a (looked {ts} e) = (some ts e, λ f. tt)
  where
    some : (ts : List Lexeme) → a ≡ same_sort (sort_at ts) v → a ≡ true → Some_left ts
    some [] e f = absurd (not_both f (e ∙ other))
    some (t ∷ ts) e f = tt

pub semicolons : (d : ℕ) → Parses (λ e. semicolon) d Any Closing Here
unfolding semicolon
semicolons d = alike (λ e i. if_at take_token (λ i. if sees k.RightBrace i || line_before i then Ok (tt, i) else refuse i) (sees k.Semicolon i) i ∙ inner i (sees k.Semicolon i))
    (map (λ l n us ts x r. semicolon_fact r) (λ l n us ts r. semicolon_fault r)
    (bind (λ l n us ts a m r. sees_needs k.Semicolon end_no_semicolon a r) (look (λ i. sees k.Semicolon i) (sees_shallow k.Semicolon)) (λ a. choose a (take unit_of unit_shallow)
    (then_any (look (λ i. sees k.RightBrace i || line_before i) inserts_shallow) (λ b. choose_any b (purely tt) refused)))))
  where
    inner : (i : Input) (a : Bool) → (if a then take_token else (λ i. if sees k.RightBrace i || line_before i then Ok (tt, i) else refuse i)) i
        ≡ (if a then take_token else ((λ i. Ok (sees k.RightBrace i || line_before i, i)) >>= (λ b. if b then pure tt else refuse))) i
    inner i true = refl
    inner i false = if_at (pure tt) refuse (sees k.RightBrace i || line_before i) i

-- ---- expressions, as far as they go

pub data Entire (d l n : ℕ) (us ts : List Lexeme) (x : Grown) : Type 0 where
  entire : Derives d (Expression true) us x → x.height ≤ max_depth → EndsThere (expression (tree d) true) us ts x → Entire d l n us ts x

pub entires : (d : ℕ) → Nested d → Parses (λ e. expression (tree e) true) d Any (Entire d) (Wanted (Of (Expression true)))
entires d nest = map_again (λ l n us ts x r again. whole_of us ts x r again) parses
  where
    parses : Parses (λ e. expression (tree e) true) d Any (Derived d (Expression true)) (Wanted (Of (Expression true)))
    parses = map (λ l n us ts x r. r) (λ l n us ts r. begun_at r) (expressions true d nest)

    whole_of : {l n : ℕ} (us ts : List Lexeme) (x : Grown) → Derived d (Expression true) l n us ts x
        → ((rs : List Lexeme) → head rs ≡ head ts → expression (tree d) true (inp (us ++ rs) l n) ≡ done x (inp rs (end_after l us) n)) → Entire d l n us ts x
    whole_of {l} {n} us ts x (derived h b) again = entire h b (λ last size rs same. expression_moves true d d l last n size us rs x (omega arith) (some_tokens h) (again rs same))
