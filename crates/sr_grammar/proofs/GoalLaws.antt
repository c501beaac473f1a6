-- What holds of a rule and its relation between tokens, those that follow, and trees.
use Rattle.std.proofs.Common.{◌≡◌, ℕ, ◌+◌, ◌≤◌, Bool, true, false, List, [], ◌∷◌, ◌++◌, Ok, Err, refl, sym, ap, ◌∙◌, subst, append_assoc, arith, nat_lt}
use Rattle.std.proofs.lemmas.Bool.{ltb-true, ltb-false}
use Rattle.sr_syntax.specs.declared.sorts.Lexeme.{Lexeme}
use Rattle.sr_syntax.specs.declared.grown.Grown.{Grown}
use Rattle.sr_syntax.specs.declared.refusal.Refusal.TheVariants.{Syntax, TooDeep}
use Rattle.sr_syntax.specs.Input.{Input, start, place_at, max_depth}
use Rattle.sr_grammar.specs.Reading.{head}
use Rattle.sr_grammar.specs.Laws.{Rule, Relation, behind, SoundAs, CompleteAs, TooTallAs, UniqueAs, MoreOpenAs, BeginsAs, EndedAs, FirstFaultAs}
use Rattle.sr_grammar.proofs.Steps.{done, fault_at, along, Fact, Fault, Any, Parses}
use Rattle.sr_grammar.proofs.Facts.{Stood, stood, BeginsOne, StartOne, start_one}

-- whatever is read
pub more_open_as : (rule : Rule) {R : ℕ → Fact Grown} {B : Fault} → ((d : ℕ) → Parses rule d Any (R d) B) → MoreOpenAs rule
more_open_as rule parses d e size ts more = (read_again, fail_again)
  where
    read_again : (x : Grown) (i : Input) → rule d (start ts size) ≡ Ok (x, i) → rule e (start ts size) ≡ Ok (x, i)
    read_again x i h =
        let r = (parses d).reads 0 size ts x i tt h in
        subst (λ zs. rule e (start zs size) ≡ done x i) (sym r.split) (r.again e r.ts more refl ∙ ap (λ j. done x j) (sym r.left))

    fail_again : (place : ℕ) → rule d (start ts size) ≡ Err (Syntax place) → rule e (start ts size) ≡ Err (Syntax place)
    fail_again place h =
        let f = (parses d).fails 0 size ts place tt h in
        subst (λ zs. rule e (start zs size) ≡ fault_at place) (sym f.split) (f.again e f.ts more refl ∙ ap (λ p. fault_at p) (sym f.at))

module _ (rule : Rule) (Is : Relation) (parses : (d : ℕ) → Parses rule d Any (Stood Is d) (StartOne Is)) where
  pub sound_as : SoundAs rule Is
  sound_as d size ts x i h =
      let r = (parses d).reads 0 size ts x i tt h in
      elim r.fact [ stood is fits ↦ (r.us, r.split ∙ ap (λ j. r.us ++ j.rest) (sym r.left), subst (λ j. Is d r.us j.rest x) (sym r.left) is, fits) ]

  -- with what is read
  module _ (lifts : (d e : ℕ) (us ts : List Lexeme) (x : Grown) → d ≤ e → Is d us ts x → Is e us ts x) (complete : CompleteAs rule Is) (too_tall : TooTallAs rule Is) where
    -- with as many that may be open as both need
    pub unique_as : UniqueAs Is
    unique_as d e us rest x y h fits i = go (nat_lt max_depth y.height) refl
      where
        first : rule (d + e) (start (us ++ rest) 0) ≡ Ok (x, behind us rest 0)
        first = complete (d + e) 0 us rest x (lifts d (d + e) us rest x (omega arith) h) fits

        second : Is (d + e) us rest y
        second = lifts e (d + e) us rest y (omega arith) i

        go : (c : Bool) → nat_lt max_depth y.height ≡ c → x ≡ y
        go true low = let no : done x (behind us rest 0) ≡ Err TooDeep = sym first ∙ too_tall (d + e) 0 us rest y second (ltb-true max_depth y.height low) in cc
        go false low = along (λ p. x ≡ p.0) (sym first ∙ complete (d + e) 0 us rest y second (ltb-false max_depth y.height low)) refl

    -- what is one does not fail
    no_fault : (e size place : ℕ) (us rest : List Lexeme) (x : Grown) → Is e us rest x → rule e (start (us ++ rest) size) ≡ Err (Syntax place) → ⊥
    no_fault e size place us rest x h f = go (nat_lt max_depth x.height) refl
      where
        go : (c : Bool) → nat_lt max_depth x.height ≡ c → ⊥
        go true low = let no : fault_at {A = Grown} place ≡ Err TooDeep = sym f ∙ too_tall e size us rest x h (ltb-true max_depth x.height low) in cc
        go false low = let no : fault_at place ≡ done x (behind us rest size) = sym f ∙ complete e size us rest x h (ltb-false max_depth x.height low) in cc

    -- the same failure comes before whatever begins alike
    abbrev Again : ℕ → ℕ → List Lexeme → List Lexeme → Type 0
    Again d size us rest = (e : ℕ) (rs : List Lexeme) → d ≤ e → head rs ≡ head rest → rule e (start (us ++ rs) size) ≡ Err (Syntax (place_at size rs))

    ended : (d size : ℕ) (us rest : List Lexeme) → Again d size us rest → EndedAs Is us rest
    ended d size us [] again = λ e x h. no_fault (d + e) size size us [] x (lifts e (d + e) us [] x (omega arith) h) (again (d + e) [] (omega arith) refl)
    ended d size us (t ∷ ts) again = λ e vs rest x h.
        no_fault (d + e) size t.from (us ++ t ∷ vs) rest x (lifts e (d + e) (us ++ t ∷ vs) rest x (omega arith) h)
        (subst (λ zs. rule (d + e) (start zs size) ≡ fault_at t.from) (sym (append_assoc us (t ∷ vs) rest)) (again (d + e) (t ∷ (vs ++ rest)) (omega arith) refl))

    begins_as : {us : List Lexeme} → BeginsOne Is us → BeginsAs Is us
    begins_as b = (b.depth, b.more, [], b.made, b.is [] refl)

    pub first_fault_as : FirstFaultAs rule Is
    first_fault_as d size place ts h =
        let f = (parses d).fails 0 size ts place tt h in
        elim f.fault [ start_one b ↦ (f.us, f.ts, f.split, f.at, begins_as b, ended d size f.us f.ts f.again) ]
