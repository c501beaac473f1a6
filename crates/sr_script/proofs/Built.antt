-- What holds of what texts are read as.
use Rattle.std.proofs.Common.{◌≡◌, ◌≢◌, ℕ, Bool, true, false, List, Result, Ok, Err, Option, None, Some, IsTrue, sym, ap, ◌∙◌, subst, true≢false}
use Rattle.sr_text.specs.declared.goal.Goal.TheVariants as goal
use Rattle.sr_lex.specs.declared.token.Token.{Token}
use Rattle.sr_lex.specs.Answers.{LexesTo}
use Rattle.sr_lex.specs.Laws.{OneReading as OneList, OneFailure, OneFront, TokensOrFailure}
use Rattle.sr_lex.specs.Tokens.{Tokens}
use Rattle.sr_lex.proofs.TextLaws.{one_reading_law, one_failure_law, one_front_law, tokens_or_failure_law}
use Rattle.sr_lex.proofs.StringsComplete.{one_value_law, one_piece_law}
use Rattle.sr_lex.proofs.NumberLaws.{one_number_law}
use Rattle.sr_ast.specs.declared.tree.Tree.{Tree}
use Rattle.sr_ast.specs.declared.reading.Reading.{Reading}
use Rattle.sr_ast.specs.declared.reading.Reading.TheVariants as reading
use Rattle.sr_ast.specs.declared.refused.Refused.{Refused}
use Rattle.sr_ast.specs.Script.{Script}
use Rattle.sr_syntax.specs.Laws.{OneSorting}
use Rattle.sr_syntax.proofs.OneSorting.{sorted_once}
use Rattle.sr_unit.specs.declared.refusal.Refusal.{Refusal}
use Rattle.sr_unit.specs.declared.refusal.Refusal.TheVariants as unit
use Rattle.sr_unit.specs.Refusals.{Reads, tokens}
use Rattle.sr_unit.proofs.Outcomes.{text_once}
use Rattle.sr_script.specs.Names.{Names, script_names}
use Rattle.sr_script.specs.Form.{script_fits}
use Rattle.sr_script.specs.Built.{begins_with_string, HasBody, IsBuilt, IsReading, script, refused, OneReading}

ok_is : {A E : Type 0} (a b : A) → (let r : Result A E = Ok a in r) ≡ Ok b → a ≡ b
ok_is a b e = cc

no_err : {A E : Type 0} (e : E) (a : A) → (let r : Result A E = Err e in r) ≡ Ok a → ⊥
no_err e a h = cc

why_is : (a b : Refused) → (let r : Result (List Tree) Refusal = Err (unit.Refused a) in r) ≡ Err (unit.Refused b) → a ≡ b
why_is a b e = cc

script_is : (x y : Script) → x.body ≡ y.body → x.names ≡ y.names → x ≡ y
script_is x y b n = ap (λ z. record x { body = z }) b ∙ ap (λ z. record y { names = z }) n

-- what a text is as a script is one thing
abbrev OneText : Type 0
OneText = (text : List ℕ) (a b : Result (List Tree) Refusal) → Reads goal.Script text a → Reads goal.Script text b → a ≡ b

-- ---- one reading at most

one_script_built : OneText → (text : List ℕ) (x y : Script) → IsBuilt text x → IsBuilt text y → x ≡ y
one_script_built one text x y a b =
    let body : x.body ≡ y.body = ok_is x.body y.body (one text (Ok x.body) (Ok y.body) a.reads b.reads) in
    script_is x y body (a.names ∙ (ap script_names body ∙ sym b.names))

not_both : OneText → (text : List ℕ) (why : Refused) (body : List Tree) → Reads goal.Script text (Err (unit.Refused why)) → Reads goal.Script text (Ok body) → ⊥
not_both one text why body x y = no_err (unit.Refused why) body (one text (Err (unit.Refused why)) (Ok body) x y)

both : OneText → {text : List ℕ} {a b : Reading} → IsReading text a → IsReading text b → a ≡ b
both one {text = text} (script {x = x} p) (script {x = y} q) = ap reading.Script (one_script_built one text x y p q)
both one {text = text} (script {x = x} p) (refused {why = why} q) = absurd (not_both one text why x.body q p.reads)
both one {text = text} (refused {why = why} p) (script {x = y} q) = absurd (not_both one text why y.body p q.reads)
both one {text = text} (refused {why = a} p) (refused {why = b} q) = ap reading.Refused (why_is a b (one text (Err (unit.Refused a)) (Err (unit.Refused b)) p q))

pub one_built : OneList → OneFailure → OneFront → TokensOrFailure → OneSorting → OneReading
one_built r f h o s text a b p q = both (λ t. text_once r f h o s goal.Script t) p q

-- ---- what is read

read_law : OneText
read_law text = text_once one_reading_law one_failure_law one_front_law tokens_or_failure_law (sorted_once one_value_law one_number_law one_piece_law) goal.Script text

-- what reading tells of an outcome
abbrev Told : List ℕ → Result (List Tree) Refusal → Type 0
Told text r = r ≢ Err unit.Memory → Reads goal.Script text r

told_ok : (text : List ℕ) (body : List Tree) → Told text (Ok body) → Reads goal.Script text (Ok body)
told_ok text body told = told (λ same. cc)

-- a text that is a script has the tokens to its end
has_tokens : (text : List ℕ) (ts : List Token) (failure : Option ℕ) (body : List Tree) → LexesTo text ts failure → Reads goal.Script text (Ok body) → Tokens text ts
has_tokens text ts None body lexed reads = lexed
has_tokens text ts (Some p) body lexed (tokens {ts = us} t read judged) = absurd (tokens_or_failure_law text us p t (ts, lexed))

pub is_refused : (text : List ℕ) (e : Refusal) (why : Refused) → Told text (Err e) → e ≡ unit.Refused why → IsReading text (reading.Refused why)
is_refused text e why told is =
    refused (subst (λ (x : Refusal). Reads goal.Script text (Err x)) is (told (λ same. memory (sym is ∙ err_is same))))
  where
    err_is : (let r : Result (List Tree) Refusal = Err e in r) ≡ Err unit.Memory → e ≡ unit.Memory
    err_is same = cc

    memory : unit.Refused why ≡ unit.Memory → ⊥
    memory same = cc

-- the script of its tokens and statements is built
is_built : (text : List ℕ) (ts : List Token) (body : List Tree) (x : Script) → Tokens text ts → Reads goal.Script text (Ok body) → HasBody ts body x → IsBuilt text x
is_built text ts body x read told has = record {
  reads = subst (λ b. Reads goal.Script text (Ok b)) (sym has.body) told;
  no_directive = λ us other. ap begins_with_string (one_reading_law text us ts other read) ∙ has.no_directive;
  names = has.names ∙ ap script_names (sym has.body);
  form = subst (λ b. IsTrue (script_fits x.names b)) (sym has.body) (subst (λ ns. IsTrue (script_fits ns body)) (sym has.names) has.form);
}

-- and each script that is built is that of its tokens and statements
has_its_body : (text : List ℕ) (ts : List Token) (body : List Tree) (x : Script) → Tokens text ts → Reads goal.Script text (Ok body) → IsBuilt text x → HasBody ts body x
has_its_body text ts body x read told built =
    let same : x.body ≡ body = ok_is x.body body (read_law text (Ok x.body) (Ok body) built.reads told) in
    let form : IsTrue (script_fits (script_names x.body) x.body) = subst (λ ns. IsTrue (script_fits ns x.body)) built.names built.form in
    record {
      no_directive = built.no_directive ts read;
      body = same;
      names = built.names ∙ ap script_names same;
      form = subst (λ b. IsTrue (script_fits (script_names b) b)) same form;
    }

pub script_read : (text : List ℕ) (ts : List Token) (failure : Option ℕ) (body : List Tree) (x : Script) → LexesTo text ts failure → Told text (Ok body) → HasBody ts body x
    → IsReading text (reading.Script x)
script_read text ts failure body x lexed told has =
    let reads : Reads goal.Script text (Ok body) = told_ok text body told in
    script (is_built text ts body x (has_tokens text ts failure body lexed reads) reads has)

no_script : (text : List ℕ) (ts : List Token) (body : List Tree) → Tokens text ts → Reads goal.Script text (Ok body) → ((x : Script) → ¬ (HasBody ts body x))
    → {r : Reading} → IsReading text r → ⊥
no_script text ts body read told not (script {x = x} built) = not x (has_its_body text ts body x read told built)
no_script text ts body read told not (refused {why = why} q) = not_both read_law text why body q told

pub nothing_read : (text : List ℕ) (ts : List Token) (failure : Option ℕ) (body : List Tree) → LexesTo text ts failure → Told text (Ok body) → ((x : Script) → ¬ (HasBody ts body x))
    → (r : Reading) → ¬ (IsReading text r)
nothing_read text ts failure body lexed told not r is =
    let reads : Reads goal.Script text (Ok body) = told_ok text body told in
    no_script text ts body (has_tokens text ts failure body lexed reads) reads not is

-- ---- the form of statements

form_is : (body first second : List Tree) (names : Names) (b : Bool) → first ≡ body → names ≡ script_names first → second ≡ body → b ≡ script_fits names second
    → b ≡ script_fits (script_names body) body
form_is body first second names b f n s e =
    e ∙ (ap (script_fits names) s ∙ ap (λ ns. script_fits ns body) (n ∙ ap script_names f))

pub has_body : (ts : List Token) (body first second : List Tree) (names into : Names) (b : Bool) (x : Script) → begins_with_string ts ≡ false → first ≡ body
    → names ≡ script_names first → second ≡ body → b ≡ script_fits names second → b ≡ true → into ≡ names
    → x ≡ (let y : Script = record { body = body; names = into } in y) → HasBody ts body x
has_body ts body first second names into b x plain f n s e is i made = record {
  no_directive = plain;
  body = ap (λ (y : Script). y.body) made;
  names = ap (λ (y : Script). y.names) made ∙ (i ∙ (n ∙ ap script_names f));
  form = sym (form_is body first second names b f n s e) ∙ is;
}

pub has_no_form : (ts : List Token) (body first second : List Tree) (names : Names) (b : Bool) → first ≡ body → names ≡ script_names first → second ≡ body
    → b ≡ script_fits names second → b ≡ false → (x : Script) → ¬ (HasBody ts body x)
has_no_form ts body first second names b f n s e is x has = true≢false (sym has.form ∙ (sym (form_is body first second names b f n s e) ∙ is))

pub has_directive : (ts : List Token) (body : List Tree) (b : Bool) → b ≡ begins_with_string ts → b ≡ true → (x : Script) → ¬ (HasBody ts body x)
has_directive ts body b e is x has = true≢false (sym is ∙ (e ∙ has.no_directive))
