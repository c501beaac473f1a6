-- Courses that lead to others.
use Rattle.std.proofs.Common.{◌≡◌, ℕ, ◌≤◌, false, ◌++◌, List, [], ◌∷◌, map, None, refl, sym, ap, ◌∙◌, subst, inl, inr, append_assoc}
use Rattle.std.proofs.lemmas.List.{map-append}
use Rattle.sr_ast.specs.declared.reading.Reading.{Reading}
use Rattle.sr_model.specs.Values.{Text, Path}
use Rattle.sr_model.specs.Events.{Script}
use Rattle.sr_model.specs.World as worlds
use Rattle.sr_state.specs.Work.{Holds}
use Rattle.sr_worlds.specs.Evaluation.{Done, Over}
use Rattle.sr_worlds.specs.Live.{Why, Stopped, Steps, Short, LiveRan}
use Rattle.sr_worlds.specs.Run.{File}
use Rattle.sr_worlds.specs.Laws.{Lasts, is_short, short, writes_of}
use Rattle.sr_worlds.specs.Laws as laws
use Rattle.sr_worlds.proofs.LiveLarger.{start_self, start_more, run_larger, run_writes}
use Rattle.sr_machine.specs.Language.{language}
use Rattle.sr_command.specs.Writes.{Write, IsStart}
use Rattle.sr_command.specs.Courses.{Course, HasEnded, LeadsTo, write_of, over_course, course_of}
use Rattle.sr_command.specs.Runs.{reading_run}

-- what leads to a course leads to what that leads to
pub leads_on : (a b c : Course) → LeadsTo a b → LeadsTo b c → LeadsTo a c
leads_on a b c (inl e) on = subst (λ (x : Course). LeadsTo x c) (sym e) on
leads_on a b c (inr (none, start)) (inl e) = subst (λ (x : Course). LeadsTo a x) e (inr (none, start))
leads_on a b c (inr (none, start)) (inr on) = inr (none, start_more a.writes b.writes c.writes start on.1)

-- and has written the beginning of what it wrote
pub start_of : (a b : Course) → LeadsTo a b → IsStart a.writes b.writes
start_of a b (inl e) = subst (λ (x : Course). IsStart a.writes x.writes) e (start_self a.writes)
start_of a b (inr on) = on.1

-- where a run has ended nothing follows
pub is_end : (a b : Course) → HasEnded a → LeadsTo a b → a ≡ b
is_end a b ended (inl e) = e
is_end a b ended (inr on) = let none = on.0 in let some = ended.1 in cc

begun : (v all : List worlds.Write) (tail : List Write) → laws.IsStart v all → IsStart (map write_of v) (map write_of all ++ tail)
begun v all tail (more, e) =
    (map write_of more ++ tail, ap (λ ws. map write_of ws ++ tail) e ∙ ap (λ ws. ws ++ tail) (map-append write_of v more) ∙ append_assoc (map write_of v) (map write_of more) tail)

begun_alone : (v all : List worlds.Write) → laws.IsStart v all → IsStart (map write_of v) (map write_of all)
begun_alone v all (more, e) = (map write_of more, ap (map write_of) e ∙ map-append write_of v more)

module _ (bound : ℕ) where
  over_begins : (v : List worlds.Write) (why : Why) (realm : Path) (w : worlds.World Holds) → laws.IsStart v w.writes → (let c = over_course bound why realm w in IsStart (map write_of v) c.writes)
  over_begins v (Stopped y) realm w start = begun v w.writes _ start
  over_begins v (Steps cost) realm w start = begun v w.writes _ start
  over_begins v why realm w start = begun_alone v w.writes start

  -- the course of a run begins with what was written
  pub course_begins : (v : List worlds.Write) (r : LiveRan Holds) → laws.IsStart v (writes_of r) → (let c = course_of bound r in IsStart (map write_of v) c.writes)
  course_begins v (Done w o) start = begun_alone v w.writes start
  course_begins v (Over w x) start = (let c = x.place in over_begins v x.why c.realm w start)

  -- so a point of it leads there
  pub point_leads : (v : List worlds.Write) (r : LiveRan Holds) → laws.IsStart v (writes_of r) → LeadsTo (record { writes = map write_of v; status = None }) (course_of bound r)
  point_leads v r start = inr (refl, course_begins v r start)

  over_further : (why : Why) (realm : Path) (w : worlds.World Holds) (c : Course) → (is_short why ≡ false → c ≡ over_course bound why realm w) → IsStart (map write_of w.writes) c.writes → LeadsTo (over_course bound why realm w) c
  over_further Short realm w c same start = inr (refl, start)
  over_further why realm w c same start = inl (sym (same refl))

  further : (r r' : LiveRan Holds) → Lasts short r r' → laws.IsStart (writes_of r) (writes_of r') → LeadsTo (course_of bound r) (course_of bound r')
  further (Done w o) r' same start = inl (sym (ap (course_of bound) (same refl)))
  further (Over w x) r' same start = (let c = x.place in over_further x.why c.realm w (course_of bound r') (λ n. ap (course_of bound) (same n)) (course_begins w.writes r' start))

  -- with more depth a run comes further
  pub more_depth_leads : (read : Text → Reading) (name units : List ℕ) (n m : ℕ) → n ≤ m → LeadsTo (course_of bound (reading_run read bound name units n)) (course_of bound (reading_run read bound name units m))
  more_depth_leads read name units n m le =
      let f : File = record { goal = Script; name = name; text = units; answers = [] } in
      further (reading_run read bound name units n) (reading_run read bound name units m) (run_larger (language read) bound n m (f ∷ []) le) (run_writes (language read) bound n m (f ∷ []) le)
