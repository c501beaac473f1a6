-- How the loop over frames ends, against the run of the file.
use Rattle.std.proofs.Common.{◌≡◌, ℕ, suc, ◌++◌, List, [], ◌∷◌, map, Option, None, Some, Result, Ok, Err, refl, sym, ap, subst, ◌∙◌, inl, append_assoc, arith}
use Rattle.std.proofs.lemmas.List.{map-append}
use Rattle.sr_outside.specs.declared.sink.WriteRefusal.{WriteRefusal}
use Rattle.sr_outside.specs.declared.sink.WriteRefusal.TheVariants.{Failed, Memory}
use Rattle.sr_ast.specs.declared.reading.Reading.{Reading}
use Rattle.sr_model.specs.Values.{Text, Path, root}
use Rattle.sr_model.specs.Outcomes.{StringLength}
use Rattle.sr_model.specs.Events.{Script}
use Rattle.sr_model.specs.Realm.{Realm}
use Rattle.sr_model.specs.World as worlds
use Rattle.sr_state.specs.Work.{Holds}
use Rattle.sr_worlds.specs.Evaluation.{Done}
use Rattle.sr_worlds.specs.Live.{Why, over}
use Rattle.sr_worlds.specs.Run.{uncaught}
use Rattle.sr_conv.specs.Plain.{value_of}
use Rattle.sr_state.specs.declared.ends.Answer.TheVariants as answer
use Rattle.sr_state.specs.declared.ends.Completion.{Completion}
use Rattle.sr_state.specs.declared.ends.Completion.TheVariants as completion
use Rattle.sr_state.specs.declared.ends.Abrupt.TheVariants as abrupt
use Rattle.sr_state.specs.declared.ends.StopName.{StopName}
use Rattle.sr_state.specs.declared.ends.StopName.TheVariants as stop
use Rattle.sr_state.specs.Ends.{completion_of}
use Rattle.sr_state.specs.Held.{Held, realm_in}
use Rattle.sr_machine.specs.Language.{language, throw_report}
use Rattle.sr_machine.specs.Worlds.{Tapes, Here, world_of, place_of}
use Rattle.sr_machine.specs.Going.{IsWhy, AtRest}
use Rattle.sr_machine.specs.Running.{thrown_of, thrown_in, source_tapes}
use Rattle.sr_machine.specs.Running as running
use Rattle.sr_machine.specs.declared.live.StopAt.{StopAt}
use Rattle.sr_machine.proofs.Worlds.{realm_here, at_root}
use Rattle.sr_machine.proofs.Begins.{ends_at_rest}
use Rattle.sr_command.specs.declared.status.Status.{Status}
use Rattle.sr_command.specs.declared.status.Status.TheVariants as status
use Rattle.sr_command.specs.Writes.{Write, err, IsCut, later, Streams, Gains, streams}
use Rattle.sr_command.specs.Courses.{Course, line_ending, write_of, last_of, is_uncaught, status_of, stop_name, stop_text, stopped, ended, over_course, course_of}
use Rattle.sr_command.specs.Stops.{stop_end, stop_line, stop_ending, last_ending}
use Rattle.sr_command.specs.Runs.{too_long, RunsReading}
use Rattle.sr_command.specs.Reaching.{ComesTo, Reaches}
use Rattle.sr_command.proofs.Gaining.{gains_both}
use Rattle.sr_command.proofs.Reached.{reached}
use Rattle.sr_command.proofs.Turning.{finish}
use Rattle.sr_command.proofs.Running.{SoFar}

-- the line of a stop
stop_line_is : (name : List ℕ) (source at : ℕ) → stop_text name root (record { source = source; at = at }) ++ 0x0A ∷ [] ≡ stop_line name source at
stop_line_is name source at = simp append_assoc

-- the stop of a text that is too long for a string
pub too_long_comes : (r : Result Status WriteRefusal) (old new : Streams) → ComesTo (line_ending status.Stopped (stop_line (stop_name StringLength) 0 0)) r old new → ComesTo too_long r old new
too_long_comes r old new comes =
    subst (λ (line : List ℕ). ComesTo (line_ending status.Stopped line) r old new) (sym (stop_line_is (stop_name StringLength) 0 0)) comes

-- writes before others
cut_after : (pre cut writes : List Write) → IsCut cut writes → IsCut (pre ++ cut) (pre ++ writes)
cut_after [] cut writes is = is
cut_after (x ∷ pre) cut writes is = later (cut_after pre cut writes is)

comes_after : (pre : List Write) (tail : Course) (r : Result Status WriteRefusal) (old mid new : Streams) → Gains old mid pre → ComesTo tail r mid new
    → ComesTo (record { writes = pre ++ tail.writes; status = tail.status }) r old new
comes_after pre tail (Ok status) old mid new gained comes = (comes.0, gains_both old mid new pre tail.writes gained comes.1)
comes_after pre tail (Err Failed) old mid new gained comes = (pre ++ comes.0, cut_after pre comes.0 tail.writes comes.1, gains_both old mid new pre comes.0 gained comes.2)
comes_after pre tail (Err Memory) old mid new gained comes =
    let is = comes.1 in
    (pre ++ comes.0, (is.0, ap (λ more. pre ++ more) is.1 ∙ sym (append_assoc pre comes.0 is.0)), gains_both old mid new pre comes.0 gained comes.2)

module _ (z : Tapes) (v : List worlds.Write) (h : Held) (here : Here h.outer h.side) where
  abbrev w : worlds.World Holds
  w = world_of z v h

  place_is : (k : ℕ) → (place_of h k).realm ≡ root
  place_is k = at_root z h.outer h.side here

  realm_is : (w.slots root).realm ≡ realm_in h.side
  realm_is = subst (λ (p : Path). (w.slots p).realm ≡ realm_in h.side) (place_is 0) (realm_here z h.outer h.side here)

  -- why the run stopped, as the code names it
  why_is : (bound : ℕ) (s : StopName) (why : Why) → IsWhy s why h.side → (let e = stop_end bound s in over_course bound why root w ≡ stopped e.0 e.1 root w)
  why_is bound (stop.Steps used cost) why is = rw (is.0, is.1) refl
  why_is bound (stop.Number s) why is = rw (is.1, ← is.2) refl
  why_is bound stop.StringLength why is = rw (is.1, ← is.2) refl
  why_is bound stop.CallDepth why is = rw (is.1, ← is.2) refl
  why_is bound stop.SyntaxDepth why is = rw (is.1, ← is.2) refl
  why_is bound (stop.Unsupported m at) why is = rw (is.1, ← is.2) refl

  stop_course : (bound : ℕ) (s : StopAt) (why : Why) (k : ℕ) → IsWhy s.name why h.side → running.IsLastPlace s h.side
      → (let tail = stop_ending bound s in course_of bound (over why (place_of h k) w) ≡ record { writes = map write_of v ++ tail.writes; status = tail.status })
  stop_course bound s why k is last =
      let how = (stop_end bound s.name).0 in
      let line : List ℕ → Course = λ l. record { writes = map write_of v ++ err l ∷ []; status = Some how } in
      let name = (stop_end bound s.name).1 in
      let at : Realm Holds → List ℕ = λ r. (let i = r.inner in let y = i.rest in let l = y.last in stop_line name l.source l.at) in
      let l = last_of root w in
      ap (λ p. over_course bound why p w) (place_is k)
      ∙ why_is bound s.name why is
      ∙ ap line (stop_line_is name l.source l.at ∙ ap at realm_is ∙ ap (λ n. let r = realm_in h.side in let i = r.inner in let y = i.rest in let l = y.last in stop_line name n l.at) (sym last.0) ∙ ap (λ n. stop_line name s.source n) (sym last.1))

  module _ (read : Text → Reading) (name : List ℕ) (caught : (more : List worlds.Write) → is_uncaught (v ++ more) ≡ is_uncaught more) where
    abbrev told : Option Text → List worlds.Write
    told None = []
    told (Some text) = worlds.Uncaught name text ∷ []

    -- the line of an uncaught throw is what is told of it
    told_is : (o : Completion) → uncaught (language read) name (completion_of o) (w.slots root) ≡ told (thrown_of (realm_in h.side) (answer.Done o))
    told_is (completion.Normal y) = refl
    told_is (completion.Abrupt (abrupt.Throw y)) = ap (λ (r : Realm Holds). let ws : List worlds.Write = worlds.Uncaught name (throw_report r (value_of y)) ∷ [] in ws) realm_is
    told_is (completion.Abrupt (abrupt.Return y)) = refl
    told_is (completion.Abrupt (abrupt.Break l)) = refl
    told_is (completion.Abrupt (abrupt.Continue l)) = refl

    last_is : (text : Option Text) → (let tail = last_ending name text in (map write_of (told text) ≡ tail.writes) × (Some (status_of (is_uncaught (told text))) ≡ tail.status))
    last_is None = (refl, refl)
    last_is (Some text) = (refl, refl)

    end_course : (text : Option Text) → (let tail = last_ending name text in ended (record w { writes = v ++ told text }) ≡ record { writes = map write_of v ++ tail.writes; status = tail.status })
    end_course text =
        let writes = map-append write_of v (told text) ∙ ap (λ ws. map write_of v ++ ws) (last_is text).0 in
        let status = ap (λ b. Some (status_of b)) (caught (told text)) ∙ (last_is text).1 in
        (λ i. record { writes = writes i; status = status i })

    done_course : (bound k : ℕ) (o : Completion) (text : Option Text) → thrown_of (realm_in h.side) (answer.Done o) ≡ text
        → (let tail = last_ending name text in course_of bound (finish read bound name (suc k) (Done w (completion_of o))) ≡ record { writes = map write_of v ++ tail.writes; status = tail.status })
    done_course bound k o text is = ap (λ (ws : List worlds.Write). ended (record w { writes = v ++ ws })) (told_is o ∙ ap told is) ∙ end_course text

module _ (bound : ℕ) (name text : List ℕ) (r : Reading) (h : Held) (before now : Option (List ℕ)) (so : SoFar bound name text r h before now) where
  abbrev then_ending : Course → Course
  then_ending tail = record { writes = map write_of so.written ++ tail.writes; status = tail.status }

  ends : (tail : Course) (x : Result Status WriteRefusal) (after e e' : Option (List ℕ)) → after ≡ now → RunsReading bound name text r (then_ending tail) → ComesTo tail x (streams after e) (streams after e')
      → Reaches (RunsReading bound name text r) x (streams before e) (streams after e')
  ends tail x after e e' same runs comes = reached (then_ending tail) runs (comes_after (map write_of so.written) tail x _ (streams after e) _ (rw same (so.gained e)) comes)

  pub done : (x : Result Status WriteRefusal) (after e e' : Option (List ℕ)) (told : Option Text) → AtRest h → after ≡ now → thrown_in h ≡ told → ComesTo (last_ending name told) x (streams after e) (streams after e')
      → Reaches (RunsReading bound name text r) x (streams before e) (streams after e')
  done x after e e' told rest same is =
      ends (last_ending name told) x after e e' same (λ reader reads.
      let u = so.under reader reads in
      let left = ends_at_rest h rest reader bound _ _ so.written u in
      let n = left.2 in (
        suc n,
        inl (sym (
            ap (λ m. course_of bound (finish reader bound name (suc n) m)) (left.3 (suc n) (omega arith))
            ∙ done_course (source_tapes Script name text) so.written h u.sound.here reader name so.caught bound n left.0 told (ap (thrown_of (realm_in h.side)) (sym left.1) ∙ is))),
      ))

  pub stopped_by : (x : Result Status WriteRefusal) (after e e' : Option (List ℕ)) (new : Held) (s : StopAt) → running.Stopped s h new → after ≡ now
      → ComesTo (stop_ending bound s) x (streams after e) (streams after e') → Reaches (RunsReading bound name text r) x (streams before e) (streams after e')
  stopped_by x after e e' new s stops same =
      ends (stop_ending bound s) x after e e' same (λ reader reads.
      let q = stops.0 reader bound _ _ so.written (so.under reader reads) in
      let n = q.5 in (
        n,
        inl (sym (
            ap (λ m. course_of bound (finish reader bound name n m)) (q.6 n (omega arith))
            ∙ stop_course (source_tapes Script name text) so.written new q.4 bound s q.0 q.1 q.2 stops.1)),
      ))
