-- What functions that read a whole text answer.
use Rattle.std.proofs.Common.{◌≡◌, ◌≢◌, ℕ, List, length, Result, Ok, Err, IsErr, IsErrAnd, refl, ap, ◌∙◌, sym, subst, true≢false}
use Rattle.sr_lex.specs.declared.token.Token.{Token}
use Rattle.sr_lex.specs.declared.token.LexRefusal.{LexRefusal}
use Rattle.sr_lex.specs.declared.token.LexRefusal.TheVariants as lexical
use Rattle.sr_lex.specs.Answers.{Refuses}
use Rattle.sr_lex.specs.Tokens.{Tokens}
use Rattle.sr_ast.specs.declared.tree.Tree.{Tree}
use Rattle.sr_syntax.specs.declared.sorts.Lexeme.{Lexeme}
use Rattle.sr_syntax.specs.declared.refusal.Refusal.{Refusal}
use Rattle.sr_syntax.specs.declared.refusal.Refusal.TheVariants.{Memory}
use Rattle.sr_syntax.specs.Lexemes.{Lexemes}
use Rattle.sr_syntax.specs.Input.{Input, Outcome, Parser, Reads, start}
use Rattle.sr_syntax.specs.Grammar.{script, script_of, module_items, module_of, value_of}
use Rattle.sr_syntax.specs.Refused.{refused}
use Rattle.sr_parse.specs.Readings.{Whole, ReadsWhole, ReadsStatements, ReadsModule, IsWhole, no_tokens, tokens}

pub value_read : {A : Type 0} (o : Outcome A) (r : Result A Refusal) (new : Input) → Reads o r new → r ≢ Err Memory → value_of o ≡ r
value_read o (Ok a) new e known = ap value_of e
value_read o (Err refusal) new e known = ap value_of (e (λ is. known (ap Err is)))

script_is : (ls : List Lexeme) (size : ℕ) → script_of ls size ≡ value_of (script (start ls size))
unfolding script_of
script_is ls size = refl

module_is : (ls : List Lexeme) (size : ℕ) → module_of ls size ≡ value_of (module_items (start ls size))
unfolding module_of
module_is ls size = refl

whole_read : (whole : Whole) (rule : Parser (List Tree)) → ((ls : List Lexeme) (size : ℕ) → whole ls size ≡ value_of (rule (start ls size)))
    → (text units : List ℕ) (ts : List Token) (ls ms : List Lexeme) (i new : Input) (r : Result (List Tree) Refusal)
    → Lexemes text ts ls → ms ≡ ls → units ≡ text → i ≡ start ms (length units) → Reads (rule i) r new → r ≢ Err Memory
    → ReadsWhole whole text ts r
whole_read whole rule is text units ts ls ms i new r sorted same all at e known =
    let here : i ≡ start ls (length text) = at ∙ (ap (λ ns. start ns (length units)) same ∙ ap (λ vs. start ls (length vs)) all) in
    (ls, sorted, is ls (length text) ∙ (ap (λ j. value_of (rule j)) (sym here) ∙ value_read (rule i) r new e known))

pub statements_read : (text units : List ℕ) (ts : List Token) (ls ms : List Lexeme) (i new : Input) (r : Result (List Tree) Refusal)
    → Lexemes text ts ls → ms ≡ ls → units ≡ text → i ≡ start ms (length units) → Reads (script i) r new → r ≢ Err Memory
    → ReadsStatements text ts r
statements_read = whole_read script_of script script_is

pub module_read : (text units : List ℕ) (ts : List Token) (ls ms : List Lexeme) (i new : Input) (r : Result (List Tree) Refusal)
    → Lexemes text ts ls → ms ≡ ls → units ≡ text → i ≡ start ms (length units) → Reads (module_items i) r new → r ≢ Err Memory
    → ReadsModule text ts r
module_read = whole_read module_of module_items module_is

pub text_read : (whole : Whole) (text : List ℕ) (ts us : List Token) (r : Result (List Tree) Refusal)
    → Tokens text ts → us ≡ ts → (r ≢ Err Memory → ReadsWhole whole text us r) → r ≢ Err Memory → IsWhole whole text r
text_read whole text ts us r reading here told known =
    let read : ReadsWhole whole text ts r = subst (λ vs. ReadsWhole whole text vs r) here (told known) in
    tokens reading read.1 read.2

refused_is : (whole : Whole) (text : List ℕ) (refusal : LexRefusal) → Refuses text refusal → refused refusal ≢ Memory → IsWhole whole text (Err (refused refusal))
refused_is whole text (lexical.Syntax place) fails known = no_tokens fails
refused_is whole text lexical.Memory fails known = absurd (known refl)

pub text_refused : (whole : Whole) (text : List ℕ) (refusal : LexRefusal) (r : Result (List Tree) Refusal) → Refuses text refusal
    → IsErr r × IsErrAnd r (λ e. e ≡ refused refusal) → r ≢ Err Memory → IsWhole whole text r
text_refused whole text refusal (Ok statements) fails given known = absurd (true≢false (sym given.0))
text_refused whole text refusal (Err e) fails given known =
    let known' : refused refusal ≢ Memory = λ is. known (ap Err (given.1 ∙ is)) in
    subst (λ q. IsWhole whole text (Err q)) (sym given.1) (refused_is whole text refusal fails known')
