use Rattle.std.proofs.Common.{◌≡◌, ℕ, List, [], Result, Ok, Err, length, subst}
use Rattle.std.specs.Prelude.{Option, Some, None, IfOk, All}
use Rattle.sr_lex.specs.Tokens.{IsTokenOf}
use Rattle.sr_lex.specs.Scan.{lexed}
use Rattle.sr_lex.specs.Answers.{LexesTo}
use Rattle.sr_lex.specs.declared.token.Token.{Token}
use Rattle.sr_lex.proofs.TextLaws.{HoldsTo, lexed_is, token_of_text, fails_token_of}
use Rattle.sr_lex.proofs.reading.lex_to_failure.Goals as goal

told : (text : List ℕ) (ts : List Token) (o : Option ℕ) → HoldsTo text 0 [] ts o → LexesTo text ts o
told text ts None h = h
told text ts (Some p) h = h

each_one : (text : List ℕ) (ts : List Token) (o : Option ℕ) → HoldsTo text 0 [] ts o → All (IsTokenOf text) ts
each_one text ts None h = token_of_text h
each_one text ts (Some p) h = fails_token_of h

tokens_are : {V E : Type 0} (view : V → List Token) (end : V → Option ℕ) (us : List ℕ) (r : Result V E) → IfOk r (λ v. lexed (length us) 0 [] us ≡ (view v, end v))
    → IfOk r (λ v. LexesTo us (view v) (end v))
tokens_are view end us (Ok v) h = told us (view v) (end v) (lexed_is us (view v) (end v) h)
tokens_are view end us (Err e) h = h

each_is : {V E : Type 0} (view : V → List Token) (end : V → Option ℕ) (us : List ℕ) (r : Result V E) → IfOk r (λ v. lexed (length us) 0 [] us ≡ (view v, end v))
    → IfOk r (λ v. All (IsTokenOf us) (view v))
each_is view end us (Ok v) h = each_one us (view v) (end v) (lexed_is us (view v) (end v) h)
each_is view end us (Err e) h = h

pub returns : goal.returns
returns c =
    let us = c.units.result.now in
    let r = c.tokens_of.result in
    let is = c.units.ensures.value in
    record {
      tokens = subst (λ (us : List ℕ). IfOk r (λ v. LexesTo us v.tokens.items v.failure)) is (tokens_are (λ v. v.tokens.items) (λ v. v.failure) us r c.tokens_of.ensures);
      each = subst (λ (us : List ℕ). IfOk r (λ v. All (IsTokenOf us) v.tokens.items)) is (each_is (λ v. v.tokens.items) (λ v. v.failure) us r c.tokens_of.ensures);
    }
