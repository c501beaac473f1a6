-- A run is determined by its words and the loader's answers, and each point on the way leads to its end.
use Rattle.std.proofs.Common.{◌≡◌, ◌≤◌, ℕ, ◌+◌, Bool, List, [], ◌∷◌, length, Option, None, Some, true, false, refl, sym, ap, subst, ◌∙◌, inl, arith}
use Rattle.std.specs.Prelude.{codes, ◌++◌}
use Rattle.std.specs.Fmt.{decimal}
use Rattle.sr_text.specs.Utf8.{Decodes, IsTooLong}
use Rattle.sr_text.proofs.Decoding.{decoded_once, no_fault_decoded, one_first_fault}
use Rattle.sr_outside.specs.declared.loader.Loaded.{Loaded}
use Rattle.sr_ast.specs.declared.reading.Reading.{Reading}
use Rattle.sr_model.specs.Values.{Text}
use Rattle.sr_script.specs.Built.{OneReading}
use Rattle.sr_command.specs.declared.status.Status.TheVariants.{NoText, WordsRefused}
use Rattle.sr_command.specs.Courses.{Course, HasEnded, LeadsTo, refused_with, course_of}
use Rattle.sr_command.specs.Words.{Command, command, is_unbuilt_name}
use Rattle.sr_command.specs.Runs.{not_built, reading_run, Runs, RunsReading, RunsText, no_reading, read, RunsFile, absent, failed, not_utf8, longer, text, words_refused, name_not_built, file}
use Rattle.sr_command.specs.Laws.{OneRun, EachLeadsToTheEnd}
use Rattle.sr_command.proofs.Leading.{leads_on, is_end, more_depth_leads}

reading_leads : (bound : ℕ) (name units : List ℕ) (r : Reading) (course whole : Course) → HasEnded whole → RunsReading bound name units r course → RunsReading bound name units r whole → LeadsTo course whole
reading_leads bound name units r course whole ended run run' =
    let reader : Text → Reading = λ t. r in
    let a = run reader refl in
    let b = run' reader refl in
    let at : ℕ → Course = λ n. course_of bound (reading_run reader bound name units n) in
    let end : whole ≡ at (a.0 + b.0) = is_end whole (at (a.0 + b.0)) ended (leads_on whole (at b.0) (at (a.0 + b.0)) b.1 (more_depth_leads bound reader name units b.0 (a.0 + b.0) (omega arith))) in
    subst (λ (c : Course). LeadsTo course c) (sym end) (leads_on course (at a.0) (at (a.0 + b.0)) a.1 (more_depth_leads bound reader name units a.0 (a.0 + b.0) (omega arith)))

text_leads : OneReading → {bound : ℕ} {name units : List ℕ} {course whole : Course} → HasEnded whole → RunsText bound name units course → RunsText bound name units whole → LeadsTo course whole
text_leads one ended (no_reading not) (no_reading also) = inl refl
text_leads one ended (no_reading not) (read {r = x} is runs) = absurd (not x is)
text_leads one ended (read {r = x} is runs) (no_reading not) = absurd (not x is)
text_leads one {bound = bound} ended (read {name = name} {text = units} {r = x} {course = course} is runs) (read {r = y} {course = whole} also others) =
    reading_leads bound name units x course whole ended runs (subst (λ (z : Reading). RunsReading bound name units z whole) (one units y x also is) others)

-- a text is not both too long for a string and no longer than one
not_long_and_short : {bytes units : List ℕ} → IsTooLong bytes → Decodes bytes units → length units ≤ 16777216 → ⊥
not_long_and_short long decodes short =
    let same = decoded_once _ _ _ decodes long.1 in
    let more = long.2 in
    let less = rw same at short in
    omega (arith, more, less)

file_leads : OneReading → {bound : ℕ} {name : List ℕ} {answer : Loaded} {course whole : Course} → HasEnded whole → RunsFile bound name answer course → RunsFile bound name answer whole → LeadsTo course whole
file_leads one ended absent absent = inl refl
file_leads one ended failed failed = inl refl
file_leads one ended (not_utf8 {name = name} fault) (not_utf8 also) =
    inl (ap (λ (at : ℕ). refused_with NoText (codes "not UTF-8: " ++ name ++ codes " at " ++ decimal at)) (one_first_fault _ _ _ fault also))
file_leads one ended (not_utf8 fault) (text decodes short runs) = absurd (no_fault_decoded _ _ _ decodes fault)
file_leads one ended (text decodes short runs) (not_utf8 fault) = absurd (no_fault_decoded _ _ _ decodes fault)
file_leads one ended (not_utf8 fault) (longer long) = absurd (no_fault_decoded _ _ _ long.1 fault)
file_leads one ended (longer long) (not_utf8 fault) = absurd (no_fault_decoded _ _ _ long.1 fault)
file_leads one ended (longer long) (longer also) = inl refl
file_leads one ended (longer long) (text decodes short runs) = absurd (not_long_and_short long decodes short)
file_leads one ended (text decodes short runs) (longer long) = absurd (not_long_and_short long decodes short)
file_leads one ended (text decodes short runs) (text also still more) = (let same = decoded_once _ _ _ decodes also in text_leads one ended (rw same at runs) more)

one_answer : (n m : List ℕ) (x y : Loaded) → (let xs : List (List ℕ × Loaded) = (n, x) ∷ [] in xs) ≡ (m, y) ∷ [] → x ≡ y
one_answer n m x y e =
    let p : (let q : List ℕ × Loaded = (n, x) in q) ≡ (m, y) = cc in
    ap (λ (q : List ℕ × Loaded). q.1) p

-- a run by what its words ask for
module _ (answers : List (List ℕ × Loaded)) where
  abbrev IsNamed : Bool → Command → Course → Type 0
  IsNamed true c course = course ≡ not_built c.name
  IsNamed false c course = (answer : Loaded) × (answers ≡ (c.name, answer) ∷ []) × RunsFile c.bound c.name answer course

  abbrev IsAsked : Option Command → Course → Type 0
  IsAsked None course = course ≡ refused_with WordsRefused (codes "words refused")
  IsAsked (Some c) course = IsNamed (is_unbuilt_name c.name) c course

  module _ (one : OneReading) (course whole : Course) (ended : HasEnded whole) where
    named_leads : (unbuilt : Bool) (c : Command) → IsNamed unbuilt c course → IsNamed unbuilt c whole → LeadsTo course whole
    named_leads true c a b = inl (a ∙ sym b)
    named_leads false c a b =
        file_leads one ended a.2 (subst (λ (y : Loaded). RunsFile c.bound c.name y whole) (one_answer c.name c.name b.0 a.0 (sym b.1 ∙ a.1)) b.2)

    asked_leads : (asked : Option Command) → IsAsked asked course → IsAsked asked whole → LeadsTo course whole
    asked_leads None a b = inl (a ∙ sym b)
    asked_leads (Some c) a b = named_leads (is_unbuilt_name c.name) c a b

is_asked : {words : List (List ℕ)} {answers : List (List ℕ × Loaded)} {course : Course} → Runs words answers course → IsAsked answers (command words) course
is_asked (words_refused none) = rw none refl
is_asked (name_not_built asks unbuilt) = rw (asks, unbuilt) refl
is_asked (file {answer = answer} asks built runs) = rw (asks, built) (answer, refl, runs)

pub each_leads : OneReading → EachLeadsToTheEnd
each_leads one words answers course whole ended run run' = asked_leads answers one course whole ended (command words) (is_asked run) (is_asked run')

pub one_run : OneReading → OneRun
one_run one words answers course other h h' run run' = is_end course other h (each_leads one words answers course other h' run run')
