-- How the command ended, from what its run came to.
use Rattle.std.proofs.Common.{◌≡◌, ℕ, ◌++◌, List, [], ◌∷◌, take, Option, Some, Result, Ok, Err, OnOk, IsErrOf, refl, sym, subst, ◌⊎◌, inl, inr, false}
use Rattle.std.specs.Prelude.{codes}
use Rattle.std.specs.Io.KnownBytes.{Appends}
use Rattle.sr_outside.specs.Writing.{AppendsPart}
use Rattle.sr_worlds.proofs.LiveLarger.{start_more}
use Rattle.sr_outside.specs.declared.loader.Loaded.{Loaded}
use Rattle.sr_outside.specs.declared.sink.WriteRefusal.{WriteRefusal}
use Rattle.sr_outside.specs.declared.sink.WriteRefusal.TheVariants.{Failed, Memory}
use Rattle.sr_command.specs.declared.status.Status.{Status}
use Rattle.sr_command.specs.Status.{code_of}
use Rattle.sr_command.specs.Words.{Command, command, is_unbuilt_name}
use Rattle.sr_command.specs.Writes.{Write, Streams, Gains, IsCut, here, later, IsStart, streams}
use Rattle.sr_command.specs.Courses.{Course, HasEnded}
use Rattle.sr_command.specs.Laws.{EachLeadsToTheEnd}
use Rattle.sr_command.specs.Runs.{Runs, RunsFile, file}
use Rattle.sr_command.specs.Reaching.{RanOut, Reaches}
use Rattle.sr_command.specs.Answers.{part_of_line, IsRun, ReachesRun, Completes, BreaksOff, Starves, StarvesAtOnce}
use Rattle.sr_command.proofs.Gaining.{gains_both, err_gains, shown_part}
use Rattle.sr_command.proofs.Leading.{start_of}

-- what a file's run came to, the command's run came to
pub file_reached : (words : List (List ℕ)) (c : Command) (before after : Option (List ℕ × Loaded)) (r : Result Status WriteRefusal) (old new : Streams)
    → command words ≡ Some c → is_unbuilt_name c.name ≡ false
    → ((answer : Loaded) × (after ≡ Some (c.name, answer)) × Reaches (RunsFile c.bound c.name answer) r old new) ⊎ RanOut r old new → ReachesRun words before after r old new
file_reached words c before after r old new asks built (inl (answer, last, inl (course, runs, comes))) =
    inl (record { answers = (c.name, answer) ∷ []; gave = last; course = course; runs = file asks built runs }, comes)
file_reached words c before after r old new asks built (inl (answer, last, inr out)) = inr out
file_reached words c before after r old new asks built (inr out) = inr out

pub completes : (words : List (List ℕ)) (before after : Option (List ℕ × Loaded)) (status : Status) (old new : Streams) → ReachesRun words before after (Ok status) old new
    → Completes words before after (code_of status) old new
completes words before after status old new (inl (run, comes)) = record { run = run; how = status; ended = comes.0; told = refl; wrote = comes.1 }
completes words before after status old new (inr out) = let m = out.memory in cc

cut_more : {cut writes : List Write} → (rest : List Write) → IsCut cut writes → IsCut cut (writes ++ rest)
cut_more rest (here n) = here n
cut_more rest (later is) = later (cut_more rest is)

-- what a run has written is the beginning of all that it writes
module _ (each : EachLeadsToTheEnd) (words : List (List ℕ)) (before after : Option (List ℕ × Loaded)) (run : IsRun words before after) where
  begins : (whole : Course) → HasEnded whole → Runs words run.answers whole → (let c = run.course in IsStart c.writes whole.writes)
  begins whole ended runs = start_of run.course whole (each words run.answers run.course whole ended run.runs runs)

  cut_in_the_end : (cut : List Write) → (let c = run.course in IsCut cut c.writes) → (whole : Course) → HasEnded whole → Runs words run.answers whole → IsCut cut whole.writes
  cut_in_the_end cut is whole ended runs = (let start = begins whole ended runs in subst (λ (ws : List Write). IsCut cut ws) (sym start.1) (cut_more start.0 is))

  start_in_the_end : (start : List Write) → (let c = run.course in IsStart start c.writes) → (whole : Course) → HasEnded whole → Runs words run.answers whole → IsStart start whole.writes
  start_in_the_end start is whole ended runs = (let c = run.course in start_more start c.writes whole.writes is (begins whole ended runs))

module _ {Y : Type 0} (each : EachLeadsToTheEnd) (words : List (List ℕ)) (before after : Option (List ℕ × Loaded)) (old : Streams) (o mid new : Option (List ℕ)) where
  -- what a write of a last line came to
  abbrev IsLast : List ℕ → Result Y WriteRefusal → Type 0
  IsLast text r =
      OnOk r (Appends mid new (text ++ 0x0A ∷ [])) × (IsErrOf r Failed → AppendsPart mid new (text ++ 0x0A ∷ [])) × (IsErrOf r Memory → new ≡ mid)

  last_line : (text : List ℕ) (r : Result Y WriteRefusal) → IsLast text r → (n : ℕ) × Gains (streams o mid) (streams o new) (part_of_line n text ∷ [])
  last_line text r is =
      let shown = shown_part (text ++ 0x0A ∷ []) mid new r is.0 is.1 is.2 in
      (shown.0, err_gains o mid new (take shown.0 (text ++ 0x0A ∷ [])) shown.1)

  pub breaks_off : (refusal : WriteRefusal) → refusal ≡ Failed → ReachesRun words before after (Err refusal) old (streams o mid) → (r : Result Y WriteRefusal) → IsLast (codes "write failed") r
      → BreaksOff words before after old (streams o new)
  breaks_off Failed is (inl (run, comes)) r last =
      let line = last_line (codes "write failed") r last in
      record {
        run = run;
        cut = comes.0;
        is_cut = comes.1;
        in_the_end = cut_in_the_end each words before after run comes.0 comes.1;
        shown = line.0;
        wrote = gains_both old (streams o mid) (streams o new) comes.0 _ comes.2 line.1;
      }
  breaks_off Failed is (inr out) r last = let m = out.memory in cc
  breaks_off Memory is reaches r last = cc

  pub starves : (refusal : WriteRefusal) → refusal ≡ Memory → ReachesRun words before after (Err refusal) old (streams o mid) → (r : Result Y WriteRefusal) → IsLast (codes "memory") r
      → Starves words before after old (streams o new) ⊎ StarvesAtOnce old (streams o new)
  starves Failed is reaches r last = cc
  starves Memory is (inl (run, comes)) r last =
      let line = last_line (codes "memory") r last in
      inl (record {
        run = run;
        start = comes.0;
        is_start = comes.1;
        in_the_end = start_in_the_end each words before after run comes.0 comes.1;
        shown = line.0;
        wrote = gains_both old (streams o mid) (streams o new) comes.0 _ comes.2 line.1;
      })
  starves Memory is (inr out) r last =
      let line = last_line (codes "memory") r last in
      inr (record { shown = line.0; wrote = gains_both old (streams o mid) (streams o new) [] _ out.nothing line.1 })
