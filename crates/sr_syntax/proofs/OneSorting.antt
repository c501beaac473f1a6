-- The tokens of a text are sorted in one way.
use Rattle.std.proofs.Common.{◌≡◌, ℕ, Bool, List, [], ◌∷◌, refl, ap, ◌∙◌, sym}
use Rattle.sr_lex.specs.declared.token.Token.{Token}
use Rattle.sr_lex.specs.declared.token.TokenKind.{TokenKind}
use Rattle.sr_lex.specs.declared.token.TokenKind.TheVariants as kind
use Rattle.sr_lex.specs.Tokens.{Spans, last, next, IsRow, token_units}
use Rattle.sr_lex.specs.Brackets.{in_substitution}
use Rattle.sr_lex.specs.declared.brackets.Bracket.{Bracket}
use Rattle.sr_lex.specs.Laws.{OneValue, OneNumber, OnePieceValue}
use Rattle.sr_syntax.specs.declared.sorts.Content.{Content}
use Rattle.sr_syntax.specs.declared.sorts.Content.TheVariants.{Nothing, Name, Text, Number}
use Rattle.sr_syntax.specs.declared.sorts.Lexeme.{Lexeme}
use Rattle.sr_syntax.specs.Sorts.{sort_of}
use Rattle.sr_syntax.specs.Lexemes.{Holds, IsLexeme, Lexemes, none, one, ahead_of, sorts_of}
use Rattle.sr_syntax.specs.Laws.{OneSorting}

lexeme_is : (l m : Lexeme) → l.sort ≡ m.sort → l.content ≡ m.content → l.from ≡ m.from → l.to ≡ m.to → l.line_before ≡ m.line_before → l.ahead ≡ m.ahead → l ≡ m
lexeme_is l m a b c d e f =
    ap (λ x. record l { sort = x }) a
    ∙ (ap (λ x. record l { sort = m.sort; content = x }) b
    ∙ (ap (λ x. record m { ahead = l.ahead; line_before = l.line_before; to = l.to; from = x }) c
    ∙ (ap (λ x. record m { ahead = l.ahead; line_before = l.line_before; to = x }) d
    ∙ (ap (λ x. record m { ahead = l.ahead; line_before = x }) e
    ∙ ap (λ x. record m { ahead = x }) f))))

same_content : OneValue → OneNumber → OnePieceValue → (k : TokenKind) (us : List ℕ) (c d : Content) → Holds k us c → Holds k us d → c ≡ d
same_content v n p kind.Name us c d a b = a ∙ sym b
same_content v n p kind.Number us c d a b = a.2 ∙ (ap Number (n us a.0 b.0 a.1 b.1) ∙ sym b.2)
same_content v n p kind.Text us c d a b = a.2 ∙ (ap Text (v us a.0 b.0 a.1 b.1) ∙ sym b.2)
same_content v n p kind.Template us c d a b = a.2 ∙ (ap Text (p us a.0 b.0 a.1 b.1) ∙ sym b.2)
same_content v n p kind.Punctuator us c d a b = a ∙ sym b

same_lexeme : OneValue → OneNumber → OnePieceValue → (text : List ℕ) (t : Token) (l m : Lexeme) → IsLexeme text t l → IsLexeme text t m → l.ahead ≡ m.ahead → l ≡ m
same_lexeme v n p text t l m a b f =
    lexeme_is l m (a.sort ∙ sym b.sort) (same_content v n p t.kind (token_units text t) l.content m.content a.content b.content)
    (a.from ∙ sym b.from) (a.to ∙ sym b.to) (a.line_before ∙ sym b.line_before) f

same_ahead : (l m : Lexeme) (ls ms : List Lexeme) → l.sort ≡ m.sort → ls ≡ ms → l.ahead ≡ ahead_of l.sort (sorts_of ls) → m.ahead ≡ ahead_of m.sort (sorts_of ms)
    → l.ahead ≡ m.ahead
same_ahead l m ls ms e rest a b = a ∙ (ap (λ s. ahead_of s (sorts_of ls)) e ∙ (ap (λ xs. ahead_of m.sort (sorts_of xs)) rest ∙ sym b))

pub sorted_once : OneValue → OneNumber → OnePieceValue → OneSorting
sorted_once v n p text _ _ _ none none = refl
sorted_once v n p text _ _ _ (one {t = t} {l = l} {ts = ts} {ls = ls} a behind more) (one {l = m} {ls = ms} b there others) =
    let rest = sorted_once v n p text ts ls ms more others in
    let first = same_lexeme v n p text t l m a b (same_ahead l m ls ms (a.sort ∙ sym b.sort) rest behind there) in
    ap (λ x. x ∷ ls) first ∙ ap (λ xs. m ∷ xs) rest

held : (inside : Bool) (k : TokenKind) (us after : List ℕ) → IsRow inside k us after → (c : Content) × Holds k us c
held inside kind.Name us after row = (Name us, refl)
held inside kind.Number us after row = (Number row.0.0, (row.0.0, row.0.1, refl))
held inside kind.Text us after row = (Text row.0, (row.0, row.1, refl))
held inside kind.Template us after row = (Text row.0.0, (row.0.0, row.0.1, refl))
held inside kind.Punctuator us after row = (Nothing, refl)

pub sorted : {text : List ℕ} {at : ℕ} {brackets : List Bracket} {ts : List Token} → Spans text at brackets ts → (ls : List Lexeme) × Lexemes text ts ls
sorted (last gap) = ([], none)
sorted {text} (next {brackets = brackets} {t = t} gap uncommented longest more) =
    let c = held (in_substitution brackets) t.kind (token_units text t) _ longest.row.1 in
    let rest = sorted more in
    let s = sort_of t.kind (token_units text t) in
    let l : Lexeme = record { sort = s; content = c.0; from = t.from; to = t.to; line_before = t.line_before; ahead = ahead_of s (sorts_of rest.0) } in
    let is : IsLexeme text t l = record { sort = refl; content = c.1; from = refl; to = refl; line_before = refl } in
    (l ∷ rest.0, one is refl rest.1)
