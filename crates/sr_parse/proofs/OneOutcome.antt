-- Each text has one outcome.
use Rattle.std.proofs.Common.{◌≡◌, ℕ, List, length, Result, Err, refl, ap, ◌∙◌, sym, subst, inl, inr, ◌⊎◌}
use Rattle.sr_lex.specs.declared.token.Token.{Token}
use Rattle.sr_lex.specs.Tokens.{Tokens, FailsAt}
use Rattle.sr_lex.specs.Laws.{OneReading, OneFailure, TokensOrFailure, EachTextIsRead}
use Rattle.sr_ast.specs.declared.tree.Tree.{Tree}
use Rattle.sr_syntax.specs.declared.refusal.Refusal.{Refusal}
use Rattle.sr_syntax.specs.declared.refusal.Refusal.TheVariants.{Syntax}
use Rattle.sr_syntax.specs.Lexemes.{Lexemes}
use Rattle.sr_syntax.specs.Grammar.{script_of, module_of}
use Rattle.sr_parse.specs.Readings.{Whole, IsWhole, no_tokens, tokens}
use Rattle.sr_syntax.specs.Laws.{OneSorting}
use Rattle.sr_syntax.proofs.OneSorting.{sorted}
use Rattle.sr_parse.specs.Laws.{OneScript, EachScript, OneModule, EachModule}

whole_read_once : OneReading → OneFailure → TokensOrFailure → OneSorting
    → (whole : Whole) (text : List ℕ) (a b : Result (List Tree) Refusal) → IsWhole whole text a → IsWhole whole text b → a ≡ b
whole_read_once r f o s whole text a b (no_tokens {place = p} x) (no_tokens {place = q} y) = ap (λ z. Err (Syntax z)) (f text p q x y)
whole_read_once r f o s whole text a b (no_tokens {place = p} x) (tokens {ts = ts} t l e) = absurd (o text ts p t x)
whole_read_once r f o s whole text a b (tokens {ts = ts} t l e) (no_tokens {place = p} x) = absurd (o text ts p t x)
whole_read_once r f o s whole text a b (tokens {ts = ts} {ls = ls} t l e) (tokens {ts = us} {ls = ms} u m g) =
    let same : ls ≡ ms = s text us ls ms (subst (λ vs. Lexemes text vs ls) (r text ts us t u) l) m in
    sym e ∙ (ap (λ vs. whole vs (length text)) same ∙ g)

outcome_of : (whole : Whole) (text : List ℕ) → ((ts : List Token) × Tokens text ts) ⊎ ((p : ℕ) × FailsAt text p) → (outcome : Result (List Tree) Refusal) × IsWhole whole text outcome
outcome_of whole text (inl read) = let l = sorted read.1 in (whole l.0 (length text), tokens read.1 l.1 refl)
outcome_of whole text (inr failed) = (Err (Syntax failed.0), no_tokens failed.1)

pub read_once : OneReading → OneFailure → TokensOrFailure → OneSorting → OneScript
read_once r f o s = whole_read_once r f o s script_of

pub module_read_once : OneReading → OneFailure → TokensOrFailure → OneSorting → OneModule
module_read_once r f o s = whole_read_once r f o s module_of

pub read_or_refused : EachTextIsRead → EachScript
read_or_refused each text = outcome_of script_of text (each text)

pub module_read_or_refused : EachTextIsRead → EachModule
module_read_or_refused each text = outcome_of module_of text (each text)
