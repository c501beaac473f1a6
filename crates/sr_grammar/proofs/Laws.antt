-- The laws.
use Rattle.std.proofs.Common.{◌≡◌, ℕ, ◌+◌, ◌≤◌, nat_lt, Bool, true, false, List, [], ◌∷◌, ◌++◌, length, take, length-append, Ok, Err, refl, sym, ap, ◌∙◌, subst, append-nil, arith}
use Rattle.std.proofs.Math.Seq.{take-append_seam}
use Rattle.std.proofs.lemmas.Bool.{ltb-true, ltb-false}
use Rattle.sr_syntax.specs.declared.sorts.Lexeme.{Lexeme}
use Rattle.sr_syntax.specs.declared.grown.Grown.{Grown}
use Rattle.sr_syntax.specs.declared.refusal.Refusal.TheVariants.{Memory, Syntax, TooDeep}
use Rattle.sr_syntax.specs.Input.{Input, Outcome, start, place_at, max_depth}
use Rattle.sr_syntax.specs.Expressions.{expression}
use Rattle.sr_syntax.specs.Grammar.{tree}
use Rattle.sr_grammar.specs.Derivations.{Derives, Expression}
use Rattle.sr_grammar.specs.Continuing.{EndsExpression}
use Rattle.sr_grammar.specs.Stopping.{Stops}
use Rattle.sr_grammar.specs.Laws.{Sound, Complete, TooTall, Unique, Ended, FirstFault, MoreOpen, OpensTooMany, Longest, behind}
use Rattle.sr_grammar.proofs.Steps.{inp, done, fault_at, along}
use Rattle.sr_grammar.proofs.Depths.{lift}
use Rattle.sr_grammar.proofs.Facts.{derived}
use Rattle.sr_grammar.proofs.Facts as facts
use Rattle.sr_grammar.proofs.Lists.{expressions}
use Rattle.sr_grammar.proofs.Nests.{nests}
use Rattle.sr_grammar.proofs.Completing.{Reads}
use Rattle.sr_grammar.proofs.Completeness.{reads}
use Rattle.sr_grammar.specs.Reading.{end_after, head}

pub sound_law : Sound
sound_law b d size ts x i h =
    let r = (expressions b d (nests d)).reads 0 size ts x i tt h in
    elim r.fact [ derived e low ↦ (r.us, r.split ∙ ap (λ j. r.us ++ j.rest) (sym r.left), e, low) ]

pub complete_law : Complete
complete_law b d size us rest x h ends fits = (reads h rest 0 size ends).fits fits

pub too_tall_law : TooTall
too_tall_law b d size us rest x h ends deep = (reads h rest 0 size ends).deep deep

-- with as many that may be open as both need
pub unique_law : Unique
unique_law b d e us x y h fits i = go (nat_lt max_depth y.height) refl
  where
    first : expression (tree (d + e)) b (start (us ++ []) 0) ≡ Ok (x, behind us [] 0)
    first = complete_law b (d + e) 0 us [] x (lift d (d + e) (omega arith) h) tt fits

    second : Derives (d + e) (Expression b) us y
    second = lift e (d + e) (omega arith) i

    go : (c : Bool) → nat_lt max_depth y.height ≡ c → x ≡ y
    go true low = let no : done x (behind us [] 0) ≡ Err TooDeep = sym first ∙ too_tall_law b (d + e) 0 us [] y second tt (ltb-true max_depth y.height low) in cc
    go false low = along (λ p. x ≡ p.0) (sym first ∙ complete_law b (d + e) 0 us [] y second tt (ltb-false max_depth y.height low)) refl

-- what derives does not fail
no_fault : (b : Bool) (e size place : ℕ) (us : List Lexeme) (x : Grown) → Derives e (Expression b) us x → expression (tree e) b (start us size) ≡ Err (Syntax place) → ⊥
no_fault b e size place us x h f = go (nat_lt max_depth x.height) refl
  where
    fails : expression (tree e) b (start (us ++ []) size) ≡ fault_at place
    fails = subst (λ zs. expression (tree e) b (start zs size) ≡ fault_at place) (sym (append-nil us)) f

    go : (c : Bool) → nat_lt max_depth x.height ≡ c → ⊥
    go true low = let no : fault_at {A = Grown} place ≡ Err TooDeep = sym fails ∙ too_tall_law b e size us [] x h tt (ltb-true max_depth x.height low) in cc
    go false low = let no : fault_at place ≡ done x (behind us [] size) = sym fails ∙ complete_law b e size us [] x h tt (ltb-false max_depth x.height low) in cc

-- the same failure comes before whatever begins alike
abbrev Again : Bool → ℕ → ℕ → List Lexeme → List Lexeme → Type 0
Again b d size us rest = (e : ℕ) (rs : List Lexeme) → d ≤ e → head rs ≡ head rest → expression (tree e) b (start (us ++ rs) size) ≡ Err (Syntax (place_at size rs))

ended : (b : Bool) (d size : ℕ) (us rest : List Lexeme) → Again b d size us rest → Ended b us rest
ended b d size us [] again = λ e x h.
    no_fault b (d + e) size size us x (lift e (d + e) (omega arith) h) (subst (λ zs. expression (tree (d + e)) b (start zs size) ≡ fault_at size) (append-nil us) (again (d + e) [] (omega arith) refl))
ended b d size us (t ∷ ts) again = λ e vs x h. no_fault b (d + e) size t.from (us ++ t ∷ vs) x (lift e (d + e) (omega arith) h) (again (d + e) (t ∷ vs) (omega arith) refl)

pub first_fault_law : FirstFault
first_fault_law b d size place ts h =
    let f = (expressions b d (nests d)).fails 0 size ts place tt h in
    elim f.fault [ facts.start s ↦ (f.us, f.ts, f.split, f.at, s, ended b d size f.us f.ts f.again) ]

pub more_open_law : MoreOpen
more_open_law b d e size ts more = (read_again, fail_again)
  where
    read_again : (x : Grown) (i : Input) → expression (tree d) b (start ts size) ≡ Ok (x, i) → expression (tree e) b (start ts size) ≡ Ok (x, i)
    read_again x i h =
        let r = (expressions b d (nests d)).reads 0 size ts x i tt h in
        subst (λ zs. expression (tree e) b (start zs size) ≡ done x i) (sym r.split) (r.again e r.ts more refl ∙ ap (λ j. done x j) (sym r.left))

    fail_again : (place : ℕ) → expression (tree d) b (start ts size) ≡ Err (Syntax place) → expression (tree e) b (start ts size) ≡ Err (Syntax place)
    fail_again place h =
        let f = (expressions b d (nests d)).fails 0 size ts place tt h in
        subst (λ zs. expression (tree e) b (start zs size) ≡ fault_at place) (sym f.split) (f.again e f.ts more refl ∙ ap (λ p. fault_at p) (sym f.at))

-- what stands before the same tokens
same_front : (us vs ts : List Lexeme) → us ++ ts ≡ vs ++ ts → us ≡ vs
same_front us vs ts h =
    let sizes : length us ≡ length vs = omega (arith, length-append us ts, length-append vs ts, ap length h) in
    sym (take-append_seam us ts) ∙ ap (λ zs. take (length us) zs) h ∙ ap (λ n. take n (vs ++ ts)) sizes ∙ take-append_seam vs ts

-- what may have more open
module _ (b : Bool) (d e size : ℕ) (us rest : List Lexeme) (x : Grown) (h : Derives e (Expression b) us x) (ends : EndsExpression b rest) (fits : x.height ≤ max_depth) (none : Derives d (Expression b) us x → ⊥) where
  with_more : expression (tree (d + e)) b (start (us ++ rest) size) ≡ Ok (x, behind us rest size)
  with_more = complete_law b (d + e) size us rest x (lift e (d + e) (omega arith) h) ends fits

  opens_too_many : (o : Outcome Grown) → expression (tree d) b (start (us ++ rest) size) ≡ o → o ≡ Err TooDeep
  opens_too_many (Ok p) is = absurd (none derives)
    where
      same : done x (behind us rest size) ≡ done p.0 p.1
      same = sym with_more ∙ (more_open_law b d (d + e) size (us ++ rest) (omega arith)).0 p.0 p.1 is

      derives : Derives d (Expression b) us x
      derives =
          let s = sound_law b d size (us ++ rest) p.0 p.1 is in
          let left : us ++ rest ≡ s.0 ++ rest = s.1 ∙ ap (λ zs. s.0 ++ zs) (along (λ q. q.1.rest ≡ rest) same refl) in
          let tokens : s.0 ≡ us = same_front s.0 us rest (sym left) in
          along (λ q. Derives d (Expression b) us q.0) (sym same) (subst (λ zs. Derives d (Expression b) zs p.0) tokens s.2)
  opens_too_many (Err (Syntax place)) is =
      let no : done x (behind us rest size) ≡ fault_at place = sym with_more ∙ (more_open_law b d (d + e) size (us ++ rest) (omega arith)).1 place is in cc
  opens_too_many (Err Memory) is = absurd ((expressions b d (nests d)).safe 0 size (us ++ rest) tt is)
  opens_too_many (Err TooDeep) is = refl

pub opens_too_many_law : OpensTooMany
opens_too_many_law b d e size us rest x h ends fits none =
    opens_too_many b d e size us rest x h ends fits none (expression (tree d) b (start (us ++ rest) size)) refl

-- ---- how far is read

pub stops : (d l n : ℕ) (us ts : List Lexeme) (x : Grown)
    → ((e : ℕ) (rs : List Lexeme) → d ≤ e → head rs ≡ head ts → expression (tree e) true (inp (us ++ rs) l n) ≡ Ok (x, inp rs (end_after l us) n)) → Stops us ts
stops d l n us [] x again = tt
stops d l n us (t ∷ ts) x again = λ e vs y h.
    let taller = lift e (d + e) (omega arith) h in
    let claim = reads taller [] l n tt in
    let seen : expression (tree (d + e)) true (inp ((us ++ t ∷ vs) ++ []) l n) ≡ done x (inp (t ∷ vs) (end_after l us) n) =
    ap (λ zs. expression (tree (d + e)) true (inp zs l n)) (append-nil (us ++ t ∷ vs)) ∙ again (d + e) (t ∷ vs) (omega arith) refl in
    go (d + e) y l n us t vs x (nat_lt max_depth y.height) refl claim seen
  where
    go : (e : ℕ) (y : Grown) (l n : ℕ) (us : List Lexeme) (t : Lexeme) (vs : List Lexeme) (x : Grown) (b : Bool) → nat_lt max_depth y.height ≡ b
        → Reads (expression (tree e) true) (us ++ t ∷ vs) y [] l n → expression (tree e) true (inp ((us ++ t ∷ vs) ++ []) l n) ≡ done x (inp (t ∷ vs) (end_after l us) n) → ⊥
    go e y l n us t vs x true low claim seen = let no : done x (inp (t ∷ vs) (end_after l us) n) ≡ Err TooDeep = sym seen ∙ claim.deep (ltb-true max_depth y.height low) in cc
    go e y l n us t vs x false low claim seen =
        let same : done x (inp (t ∷ vs) (end_after l us) n) ≡ done y (inp [] (end_after l (us ++ t ∷ vs)) n) = sym seen ∙ claim.fits (ltb-false max_depth y.height low) in
        let no : t ∷ vs ≡ [] = along (λ p. t ∷ vs ≡ p.1.rest) same refl in cc

pub longest_law : Longest
longest_law d size ts x i h =
    let r = (expressions true d (nests d)).reads 0 size ts x i tt h in
    elim r.fact [ derived e low ↦ (r.us, r.split ∙ ap (λ j. r.us ++ j.rest) (sym r.left), e, subst (λ j. Stops r.us j.rest) (sym r.left) (stops d 0 size r.us r.ts x r.again)) ]
