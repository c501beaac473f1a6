-- The loop over frames, against the run of the file.
use Rattle.std.proofs.Common.{◌≡◌, ℕ, ◌<◌, ◌++◌, List, [], ◌∷◌, map, take, Option, None, Some, Err, refl, sym, ap, subst, ◌∙◌, append_assoc, append-nil, arith}
use Rattle.std.proofs.lemmas.List.{map-append}
use Rattle.std.specs.Io.KnownBytes.{Appends}
use Rattle.sr_ast.specs.declared.reading.Reading.{Reading}
use Rattle.sr_model.specs.Values.{Text}
use Rattle.sr_model.specs.Events.{Script}
use Rattle.sr_model.specs.World as worlds
use Rattle.sr_outside.specs.declared.sink.WriteRefusal.TheVariants.{Failed, Memory}
use Rattle.sr_state.specs.Held.{Held}
use Rattle.sr_machine.specs.Going.{line_of, printed_bytes, writes_of, Under, GoesOn, BreaksOff, left_of}
use Rattle.sr_machine.specs.Running.{Running, given, source_as, source_run, source_tapes}
use Rattle.sr_machine.proofs.Begins.{begins, writes_first}
use Rattle.sr_command.specs.Writes.{Write, out, Gains, IsCut, here, later, first_bytes, streams}
use Rattle.sr_command.specs.Courses.{write_of, is_uncaught}
use Rattle.sr_command.specs.Runs.{reading_run, RunsReading}
use Rattle.sr_command.specs.Reaching.{Reaches}
use Rattle.sr_command.proofs.Gaining.{appends_nothing, nothing_gained, gains_both, out_gains}
use Rattle.sr_command.proofs.Leading.{point_leads}
use Rattle.sr_command.proofs.Reached.{reached}
use Rattle.sr_command.proofs.Turning.{finish_starts}

-- what a step writes of the line that it prints, if it prints one
line_gained : (text : Option Text) (now after e : Option (List ℕ)) → Appends now after (printed_bytes text) → Gains (streams now e) (streams after e) (map write_of (writes_of text))
line_gained None now after e a = record { out_gained = a; err_gained = appends_nothing e e refl }
line_gained (Some text) now after e a = out_gains now after e (line_of text) a

-- a printed line is no uncaught throw
line_caught : (text : Option Text) (more : List worlds.Write) → is_uncaught (writes_of text ++ more) ≡ is_uncaught more
line_caught None more = refl
line_caught (Some text) more = refl

cut_in : (pre : List Write) (n : ℕ) (write : Write) → IsCut (pre ++ first_bytes n write ∷ []) (pre ++ write ∷ [])
cut_in [] n write = here n
cut_in (x ∷ pre) n write = later (cut_in pre n write)

module _ (bound : ℕ) (name text : List ℕ) (r : Reading) where
  -- in each language that reads the text so, the state is that of the run, where v was written
  abbrev pub IsRunOf : List worlds.Write → Held → Type 0
  IsRunOf v h = (read : Text → Reading) → read text ≡ r → Under read bound (source_tapes Script name text) (source_run read bound Script name text) v h

  -- the loop so far: what was written, and that no throw was uncaught
  pub record SoFar (h : Held) (before now : Option (List ℕ)) : Type 0 where
    pub written : List worlds.Write
    pub gained : (e : Option (List ℕ)) → Gains (streams before e) (streams now e) (map write_of written)
    pub caught : (more : List worlds.Write) → is_uncaught (written ++ more) ≡ is_uncaught more
    pub under : IsRunOf written h

  -- as the loop begins
  pub begun_so : (before : Option (List ℕ)) (run : Running) → run ≡ given bound (source_as (λ t. r) text) → SoFar run.held before before
  begun_so before run is = record {
    written = [];
    gained = λ e. nothing_gained (streams before e);
    caught = λ more. refl;
    under = λ read same. subst (λ (x : Running). Under read bound (source_tapes Script name text) (source_run read bound Script name text) [] x.held)
        (ap (λ (y : Reading). given bound (source_as (λ t. y) text)) same ∙ sym is) (begins read bound Script name text);
  }

  -- what was written is a point of the run
  point : (v : List worlds.Write) (h : Held) → IsRunOf v h → RunsReading bound name text r (record { writes = map write_of v; status = None })
  point v h under read same =
      let first = writes_first h read bound _ _ v (under read same) in
      (first.0, point_leads bound v (reading_run read bound name text first.0) (finish_starts read bound name first.0 v (source_run read bound Script name text first.0) (first.1 first.0 (omega arith))))

  module _ (h : Held) (before now : Option (List ℕ)) (so : SoFar h before now) where
    pub goes_so : (new : Held) (after : Option (List ℕ)) → GoesOn h new now after → SoFar new before after
    goes_so new after goes =
        let v = so.written in
        let u : List worlds.Write = writes_of goes.0 in
        record {
          written = v ++ u;
          gained = λ e. rw (map-append write_of v u) (gains_both _ _ _ (map write_of v) (map write_of u) (so.gained e) (line_gained goes.0 now after e goes.1));
          caught = λ more. ap is_uncaught (append_assoc v u more) ∙ so.caught (u ++ more) ∙ line_caught goes.0 more;
          under = λ read same. let k = goes.2 read bound _ _ v (so.under read same) in k.0;
        }

    pub falls : (new : Held) (after : Option (List ℕ)) → GoesOn h new now after → left_of new < left_of h
    falls new after goes = let k = goes.2 (λ t. r) bound _ _ so.written (so.under (λ t. r) refl) in k.1

    pub starved : (after : Option (List ℕ)) → after ≡ now → (e : Option (List ℕ)) → Reaches (RunsReading bound name text r) (Err Memory) (streams before e) (streams after e)
    starved after same e = rw same (reached _ (point so.written h so.under) (map write_of so.written, ([], sym (append-nil (map write_of so.written))), so.gained e))

    pub broken : (after : Option (List ℕ)) → BreaksOff h now after → (e : Option (List ℕ)) → Reaches (RunsReading bound name text r) (Err Failed) (streams before e) (streams after e)
    broken after breaks e =
        let v = so.written in
        let line = breaks.0 in
        let n = breaks.2.0 in
        let cut : List Write = map write_of v ++ out (take n (line_of line)) ∷ [] in
        reached (record { writes = map write_of (v ++ worlds.Printed line ∷ []); status = None })
        (point (v ++ worlds.Printed line ∷ []) breaks.1 (λ read same. breaks.3 read bound _ _ v (so.under read same))) (
          cut,
          subst (λ (ws : List Write). IsCut cut ws) (sym (map-append write_of v (worlds.Printed line ∷ []))) (cut_in (map write_of v) n (out (line_of line))),
          gains_both _ (streams now e) _ (map write_of v) (out (take n (line_of line)) ∷ []) (so.gained e) (out_gains now after e (take n (line_of line)) breaks.2.2),
        )
