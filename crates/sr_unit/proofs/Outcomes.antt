-- What functions that read a text answer, and that each text has one outcome.
use Rattle.std.proofs.Common.{◌≡◌, ◌≢◌, ℕ, List, length, Result, Ok, Err, Option, None, Some, refl, ap, ◌∙◌, sym, subst, inl, inr, ◌⊎◌}
use Rattle.sr_text.specs.declared.goal.Goal.{Goal}
use Rattle.sr_text.specs.declared.goal.Goal.TheVariants as goal
use Rattle.sr_text.specs.declared.marker.Marker.{Marker}
use Rattle.sr_ast.specs.declared.tree.Tree.{Tree}
use Rattle.sr_lex.specs.declared.token.Token.{Token}
use Rattle.sr_lex.specs.Tokens.{Tokens, FailsAt}
use Rattle.sr_lex.specs.Laws.{OneReading, OneFailure, OneFront, TokensOrFailure, EachTextIsRead}
use Rattle.sr_syntax.specs.declared.refusal.Refusal as grammar_refusal
use Rattle.sr_syntax.specs.declared.refusal.Refusal.TheVariants as grammar
use Rattle.sr_syntax.specs.Lexemes.{Lexemes}
use Rattle.sr_syntax.specs.Grammar.{script_of, module_of}
use Rattle.sr_syntax.specs.Laws.{OneSorting}
use Rattle.sr_syntax.proofs.OneSorting.{sorted}
use Rattle.sr_parse.specs.Readings.{Whole, ReadsWhole}
use Rattle.sr_early.specs.Early.{early}
use Rattle.sr_marker.specs.Tokens.{token_marker}
use Rattle.sr_marker.specs.Refusals.{least, refusal_at}
use Rattle.sr_marker.specs.Places.{HasPlaceMarker, place_marker}
use Rattle.sr_unit.specs.declared.refusal.Refusal.{Refusal}
use Rattle.sr_unit.specs.declared.refusal.Refusal.TheVariants.{Refused, Memory}
use Rattle.sr_unit.specs.declared.unit.Unit.{Unit}
use Rattle.sr_unit.specs.Refusals.{no_token, ReadsTokens, Judges, fault, too_deep, memory, early_error, unit, Reads, no_tokens, tokens}
use Rattle.sr_unit.specs.Units.{unit_of, mapped, IsUnit}
use Rattle.sr_unit.specs.Laws.{OneUnit, EachUnit}

-- what reading tells of an outcome
abbrev Told : Goal → List ℕ → Result (List Tree) Refusal → Type 0
Told g text r = r ≢ Err Memory → Reads g text r

pub read : (g : Goal) (text : List ℕ) (items lent : List Tree) (u : Unit) → Told g text (Ok items) → lent ≡ items → u ≡ unit_of g lent → IsUnit g text (Ok u)
read g text items lent u told same is = (Ok items, told (λ e. cc), ap (λ z. Ok z) (is ∙ ap (unit_of g) same))

pub refused : (g : Goal) (text : List ℕ) (e f : Refusal) → Told g text (Err e) → f ≡ e → Err f ≢ (let r : Result Unit Refusal = Err Memory in r) → IsUnit g text (Err f)
refused g text e f told same known = (Err e, told (λ is. known (ap (λ z. Err z) (same ∙ (cc)))), ap (λ z. Err z) same)

-- ---- one outcome at most

whole_once : OneSorting → (whole : Whole) (text : List ℕ) (ts us : List Token) (a b : Result (List Tree) grammar_refusal.Refusal)
    → ts ≡ us → ReadsWhole whole text ts a → ReadsWhole whole text us b → a ≡ b
whole_once s whole text ts us a b same x y =
    let one : x.0 ≡ y.0 = s text us x.0 y.0 (subst (λ vs. Lexemes text vs x.0) same x.1) y.1 in
    sym x.2 ∙ (ap (λ ls. whole ls (length text)) one ∙ y.2)

reads_once : OneSorting → (g : Goal) (text : List ℕ) (ts us : List Token) (a b : Result (List Tree) grammar_refusal.Refusal)
    → ts ≡ us → ReadsTokens g text ts a → ReadsTokens g text us b → a ≡ b
reads_once s goal.Script text ts us a b = whole_once s script_of text ts us a b
reads_once s goal.Module text ts us a b = whole_once s module_of text ts us a b

marker_once : OneSorting → (g : Goal) (text : List ℕ) (ts : List Token) (at : ℕ) (m n : Option (Marker × ℕ))
    → HasPlaceMarker g text ts at m → HasPlaceMarker g text ts at n → m ≡ n
marker_once s g text ts at m n x y =
    let one : x.0 ≡ y.0 = s text ts x.0 y.0 x.1 y.1 in
    x.2 ∙ (ap (λ ls. place_marker (record { goal = g; size = length text }) ls at) one ∙ sym y.2)

some_is : (a b : ℕ) → (let o : Option ℕ = Some a in o) ≡ Some b → a ≡ b
some_is a b e = cc

none_is_not : (a : ℕ) → (let o : Option ℕ = None in o) ≡ Some a → ⊥
none_is_not a e = cc

judged_once : OneSorting → (g : Goal) (text : List ℕ) (ts : List Token) (r : Result (List Tree) grammar_refusal.Refusal) (a b : Result (List Tree) Refusal)
    → Judges g text ts r a → Judges g text ts r b → a ≡ b
judged_once s g text ts (Err (grammar.Syntax at)) a b (fault {m = m} x) (fault {m = n} y) =
    ap (λ z. Err (Refused (refusal_at at (least (token_marker text ts) z)))) (marker_once s g text ts at m n x y)
judged_once s g text ts (Err grammar.TooDeep) a b too_deep too_deep = refl
judged_once s g text ts (Err grammar.Memory) a b memory memory = refl
judged_once s g text ts (Ok items) a b (early_error {at = at} x) (early_error {at = to} y) =
    ap (λ z. Err (Refused (refusal_at z (token_marker text ts)))) (some_is at to (sym x ∙ y))
judged_once s g text ts (Ok items) a b (early_error {at = at} x) (unit y) = absurd (none_is_not at (sym y ∙ x))
judged_once s g text ts (Ok items) a b (unit x) (early_error {at = at} y) = absurd (none_is_not at (sym x ∙ y))
judged_once s g text ts (Ok items) a b (unit x) (unit y) = refl

judged_same : OneSorting → (g : Goal) (text : List ℕ) (ts us : List Token) (q r : Result (List Tree) grammar_refusal.Refusal) (a b : Result (List Tree) Refusal)
    → ts ≡ us → q ≡ r → Judges g text ts q a → Judges g text us r b → a ≡ b
judged_same s g text ts us q r a b same one x y = judged_once s g text us r a b (subst (λ z. Judges g text us z a) one (subst (λ vs. Judges g text vs q a) same x)) y

pub text_once : OneReading → OneFailure → OneFront → TokensOrFailure → OneSorting
    → (g : Goal) (text : List ℕ) (a b : Result (List Tree) Refusal) → Reads g text a → Reads g text b → a ≡ b
text_once r f h o s g text a b (no_tokens {ts = ts} {at = p} x) (no_tokens {ts = us} {at = q} y) =
    ap (λ vs. Err (no_token text vs p)) (h text ts us p q x y) ∙ ap (λ z. Err (no_token text us z)) (f text p q (ts, x) (us, y))
text_once r f h o s g text a b (no_tokens {ts = us} {at = p} x) (tokens {ts = ts} t l j) = absurd (o text ts p t (us, x))
text_once r f h o s g text a b (tokens {ts = ts} t l j) (no_tokens {ts = us} {at = p} x) = absurd (o text ts p t (us, x))
text_once r f h o s g text a b (tokens {ts = ts} {read = p} t l j) (tokens {ts = us} {read = q} u m k) =
    let same : ts ≡ us = r text ts us t u in
    judged_same s g text ts us p q a b same (reads_once s g text ts us p q same l m) j k

pub one_unit : OneReading → OneFailure → OneFront → TokensOrFailure → OneSorting → OneUnit
one_unit r f h o s g text a b x y = x.2 ∙ (ap (mapped g) (text_once r f h o s g text x.0 y.0 x.1 y.1) ∙ sym y.2)

-- ---- and one of each text

items_judged : (g : Goal) (text : List ℕ) (ts : List Token) (items : List Tree) (o : Option ℕ) → early g items ≡ o
    → (outcome : Result (List Tree) Refusal) × Judges g text ts (Ok items) outcome
items_judged g text ts items None e = (Ok items, unit e)
items_judged g text ts items (Some at) e = (_, early_error e)

judged : (g : Goal) (text : List ℕ) (ts : List Token) → (ls : _) × Lexemes text ts ls → (r : Result (List Tree) grammar_refusal.Refusal)
    → (outcome : Result (List Tree) Refusal) × Judges g text ts r outcome
judged g text ts l (Ok items) = items_judged g text ts items (early g items) refl
judged g text ts l (Err (grammar.Syntax at)) = (_, fault (l.0, l.1, refl))
judged g text ts l (Err grammar.TooDeep) = (_, too_deep)
judged g text ts l (Err grammar.Memory) = (_, memory)

tokens_read : (g : Goal) (text : List ℕ) (ts : List Token) → (ls : _) × Lexemes text ts ls → (r : Result (List Tree) grammar_refusal.Refusal) × ReadsTokens g text ts r
tokens_read goal.Script text ts l = (script_of l.0 (length text), (l.0, l.1, refl))
tokens_read goal.Module text ts l = (module_of l.0 (length text), (l.0, l.1, refl))

text_read : (g : Goal) (text : List ℕ) → ((ts : List Token) × Tokens text ts) ⊎ ((p : ℕ) × FailsAt text p) → (outcome : Result (List Tree) Refusal) × Reads g text outcome
text_read g text (inl t) = let l = sorted t.1 in let r = tokens_read g text t.0 l in let j = judged g text t.0 l r.0 in (j.0, tokens t.1 r.1 j.1)
text_read g text (inr f) = (_, no_tokens f.1.1)

pub each_unit : EachTextIsRead → EachUnit
each_unit each g text = let r = text_read g text (each text) in (mapped g r.0, (r.0, r.1, refl))
