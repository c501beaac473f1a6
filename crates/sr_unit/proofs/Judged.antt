-- What is shown of a text by what its tokens are.
use Rattle.std.proofs.Common.{◌≡◌, ◌≢◌, ℕ, List, Result, Ok, Err, Option, None, Some, ap, ◌∙◌, sym, subst}
use Rattle.sr_text.specs.declared.goal.Goal.{Goal}
use Rattle.sr_text.specs.declared.marker.Marker.{Marker}
use Rattle.sr_ast.specs.declared.refused.Refused as ast
use Rattle.sr_ast.specs.declared.refused.Refused.TheVariants as refused
use Rattle.sr_ast.specs.declared.tree.Tree.{Tree}
use Rattle.sr_early.specs.Early.{early}
use Rattle.sr_lex.specs.declared.token.Token.{Token}
use Rattle.sr_lex.specs.Answers.{LexesTo}
use Rattle.sr_lex.specs.Tokens.{Tokens}
use Rattle.sr_syntax.specs.declared.refusal.Refusal as grammar_refusal
use Rattle.sr_syntax.specs.declared.refusal.Refusal.TheVariants as grammar
use Rattle.sr_marker.specs.Tokens.{token_marker}
use Rattle.sr_marker.specs.Refusals.{least, refusal_at}
use Rattle.sr_marker.specs.Places.{HasPlaceMarker}
use Rattle.sr_unit.specs.declared.refusal.Refusal.{Refusal}
use Rattle.sr_unit.specs.declared.refusal.Refusal.TheVariants.{Refused}
use Rattle.sr_unit.specs.Refusals.{no_token, ReadsTokens, Judges, fault, too_deep, early_error, unit, Reads, no_tokens, tokens}

-- what the grammar tells of tokens
abbrev Told : Goal → List ℕ → List Token → Result (List Tree) grammar_refusal.Refusal → Type 0
Told g text ts r = r ≢ Err grammar.Memory → ReadsTokens g text ts r

pub faulty : (g : Goal) (text : List ℕ) (ts : List Token) (at : ℕ) (m t l : Option (Marker × ℕ)) (why : ast.Refused)
    → HasPlaceMarker g text ts at m → t ≡ token_marker text ts → l ≡ least t m → why ≡ refusal_at at l
    → Judges g text ts (Err (grammar.Syntax at)) (Err (Refused why))
faulty g text ts at m t l why has one both is =
    subst (λ w. Judges g text ts (Err (grammar.Syntax at)) (Err (Refused w))) (sym (is ∙ ap (refusal_at at) (both ∙ ap (λ z. least z m) one))) (fault has)

-- ---- the text

pub failed : (g : Goal) (text : List ℕ) (ts us : List Token) (failure : Option ℕ) (at : ℕ) (e : Refusal)
    → LexesTo text ts failure → failure ≡ Some at → us ≡ ts → e ≡ no_token text us at → Reads g text (Err e)
failed g text ts us failure at e lexed is same told =
    subst (λ x. Reads g text (Err x)) (sym (told ∙ ap (λ vs. no_token text vs at) same)) (no_tokens (subst (LexesTo text ts) is lexed))

pub at_fault : (g : Goal) (text : List ℕ) (ts : List Token) (e : grammar_refusal.Refusal) (at : ℕ) (outcome : Result (List Tree) Refusal)
    → Tokens text ts → Told g text ts (Err e) → e ≡ grammar.Syntax at → Judges g text ts (Err (grammar.Syntax at)) outcome → Reads g text outcome
at_fault g text ts e at outcome read told is judged = tokens read (subst (λ x. ReadsTokens g text ts (Err x)) is (told (λ same. cc))) judged

pub too_far : (g : Goal) (text : List ℕ) (ts : List Token) (e : grammar_refusal.Refusal)
    → Tokens text ts → Told g text ts (Err e) → e ≡ grammar.TooDeep → Reads g text (Err (Refused refused.TooDeep))
too_far g text ts e read told is = tokens read (subst (λ x. ReadsTokens g text ts (Err x)) is (told (λ same. cc))) too_deep

pub items_read : (g : Goal) (text : List ℕ) (ts : List Token) (items : List Tree) (outcome : Result (List Tree) Refusal)
    → Tokens text ts → Told g text ts (Ok items) → Judges g text ts (Ok items) outcome → Reads g text outcome
items_read g text ts items outcome read told judged = tokens read (told (λ same. cc)) judged

-- ---- early errors

pub no_error : (g : Goal) (text : List ℕ) (ts : List Token) (items lent : List Tree) (o : Option ℕ)
    → lent ≡ items → o ≡ early g lent → o ≡ None → Judges g text ts (Ok items) (Ok items)
no_error g text ts items lent o same told is = unit (sym (told ∙ ap (early g) same) ∙ is)

pub an_error : (g : Goal) (text : List ℕ) (ts : List Token) (items lent : List Tree) (o : Option ℕ) (at : ℕ) (t : Option (Marker × ℕ)) (why : ast.Refused)
    → lent ≡ items → o ≡ early g lent → o ≡ Some at → t ≡ token_marker text ts → why ≡ refusal_at at t → Judges g text ts (Ok items) (Err (Refused why))
an_error g text ts items lent o at t why same told is marked w =
    subst (λ x. Judges g text ts (Ok items) (Err (Refused x))) (sym (w ∙ ap (refusal_at at) marked)) (early_error (sym (told ∙ ap (early g) same) ∙ is))
