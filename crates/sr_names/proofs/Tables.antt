-- Names by their first places.
use Rattle.std.proofs.Common.{◌≡◌, refl, sym, ap, ◌∙◌, ℕ, Bool, true, false, true≢false, List, [], ◌∷◌, ◌++◌, Option, None, Some}
use Rattle.std.proofs.lemmas.List.{append-nil}
use Rattle.std.specs.Prelude.{cond, if◌then◌else◌, is_some}
use Rattle.std.specs.Cmp.Lexicographic.{bytes_decides}
use Rattle.sr_ast.specs.declared.binding.Binding.{Binding}
use Rattle.sr_names.specs.Names.{Names}
use Rattle.sr_names.specs.Scopes.{same_name, place_of, clashes, among, scope_faults, loop_faults}

no_clashes : (bs : Names) → clashes [] bs ≡ []
no_clashes [] = refl
no_clashes (b ∷ bs) = no_clashes bs

none_among : (bs : Names) → among [] bs ≡ []
none_among [] = refl
none_among (b ∷ bs) = none_among bs

-- a scope and a loop that declare no name
pub no_scope : (places : List ℕ) (names by_var : Names) → names ≡ [] → places ≡ places ++ scope_faults names by_var
no_scope places names by_var e =
    sym (ap (λ (ns : Names). places ++ scope_faults ns by_var) e ∙ ap (λ (xs : List ℕ). places ++ xs) (no_clashes by_var) ∙ append-nil places)

pub no_loop : (places : List ℕ) (names by_var : Names) → names ≡ [] → places ≡ places ++ loop_faults names by_var
no_loop places names by_var e =
    sym (ap (λ (ns : Names). places ++ loop_faults ns by_var) e ∙ ap (λ (xs : List ℕ). places ++ xs) (none_among by_var) ∙ append-nil places)

-- ---- one more name

abbrev or_else : Option ℕ → Option ℕ → Option ℕ
or_else None q = q
or_else (Some p) q = Some p

abbrev alone : Binding → List ℕ → Option ℕ
alone b x = if same_name x b.name then Some b.from else None

by_test : (t : Bool) (p : ℕ) (r q : Option ℕ) → (if t then Some p else or_else r q) ≡ or_else (if t then Some p else r) q
by_test true p r q = refl
by_test false p r q = refl

with_last : (names : Names) (b : Binding) (x : List ℕ) → place_of (names ++ b ∷ []) x ≡ or_else (place_of names x) (alone b x)
with_last [] b x = refl
with_last (a ∷ names) b x =
    ap (λ r. if same_name x a.name then Some a.from else r) (with_last names b x) ∙ by_test (same_name x a.name) a.from (place_of names x) (alone b x)

kept : (r : Option ℕ) (t : Bool) (from : ℕ) → (t ≡ true → is_some r ≡ true) → or_else r (if t then Some from else None) ≡ r
kept (Some p) t from h = refl
kept None true from h = absurd (true≢false (sym (h refl)))
kept None false from h = refl

-- a name that is there
pub there : (f : List ℕ → Option ℕ) (names : Names) (b : Binding) → ((x : List ℕ) → f x ≡ place_of names x) → is_some (f b.name) ≡ true
    → (x : List ℕ) → f x ≡ place_of (names ++ b ∷ []) x
there f names b finds seen x =
    let found : is_some (place_of names b.name) ≡ true = ap is_some (sym (finds b.name)) ∙ seen in
    finds x
    ∙ sym (kept (place_of names x) (same_name x b.name) b.from (λ e. ap (λ y. is_some (place_of names y)) ((bytes_decides x b.name).0 e) ∙ found))
    ∙ sym (with_last names b x)

both : (s t : Bool) → (s ≡ true → t ≡ true) → (t ≡ true → s ≡ true) → s ≡ t
both true true f g = refl
both true false f g = sym (f refl)
both false true f g = g refl
both false false f g = refl

put : (t : Bool) (r : Option ℕ) (from : ℕ) → (t ≡ true → is_some r ≡ false) → cond t (Some from) r ≡ or_else r (if t then Some from else None)
put true None from h = refl
put true (Some p) from h = absurd (true≢false (h refl))
put false None from h = refl
put false (Some p) from h = refl

-- and one that is not
pub added : (f g : List ℕ → Option ℕ) (names : Names) (b : Binding) (k : List ℕ) → ((x : List ℕ) → f x ≡ place_of names x) → is_some (f b.name) ≡ false → k ≡ b.name
    → ((x : List ℕ) → g x ≡ cond (same_name k x) (Some b.from) (f x)) → (x : List ℕ) → g x ≡ place_of (names ++ b ∷ []) x
added f g names b k finds seen copied puts x =
    let same_test : same_name k x ≡ same_name x b.name =
    both (same_name k x) (same_name x b.name) (λ e. (bytes_decides x b.name).1 (sym ((bytes_decides k x).0 e) ∙ copied))
    (λ e. (bytes_decides k x).1 (copied ∙ sym ((bytes_decides x b.name).0 e))) in
    puts x
    ∙ ap (λ t. cond t (Some b.from) (f x)) same_test
    ∙ put (same_name x b.name) (f x) b.from (λ e. ap (λ y. is_some (f y)) ((bytes_decides x b.name).0 e) ∙ seen)
    ∙ ap (λ r. or_else r (alone b x)) (finds x)
    ∙ sym (with_last names b x)
