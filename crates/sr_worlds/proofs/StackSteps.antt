-- The exact steps of a stack.
use Rattle.std.proofs.Common.{◌≡◌, ℕ, zero, suc, true, false, List, refl, sym, ap, ◌∙◌}
use Rattle.sr_model.specs.Values.{Crossing}
use Rattle.sr_model.specs.Outcomes.{Outcome, Completion}
use Rattle.sr_model.specs.Ports.{reply_of}
use Rattle.sr_model.specs.Scripts.{Script, Give, Halt, Look, Change, Part, Become, Pay, Enter, Load, Ask, Language, then_follow, IsPlain}
use Rattle.sr_model.specs.World.{Slot, World, fresh_slot, with_tape}
use Rattle.sr_worlds.specs.Evaluation.{Ran, Done, then_do, Outside, More, follow, ev}
use Rattle.sr_worlds.specs.Live.{LiveReach, LiveRan, LiveMore, worked, asked, replied, live}
use Rattle.sr_worlds.specs.Solo.{Played, SoloMore, solo_replied, read_on, solo}
use Rattle.sr_worlds.specs.Replay.{verdict}
use Rattle.sr_worlds.specs.Run.{idle}
use Rattle.sr_worlds.specs.Stacks.{Frame, top, after, means, stepped, Steps}
use Rattle.sr_worlds.specs.LiveStacks.{live_owed, LiveAsks, LiveBegins}
use Rattle.sr_worlds.specs.SoloStacks.{Awaits, Idles, solo_after, SoloReads, SoloReplied, SoloBegins}
use Rattle.sr_worlds.proofs.Larger.{then_then, then_done}
use Rattle.sr_worlds.proofs.SoloLarger.{read_event}

module _ {T R : Type 0} (l : Language T R) (o : Outside T R) where
  -- a plain script asks nothing of what evaluates parts
  plain_follow : (f g : More l o) (k : Completion → Script T R) (j : Script T R) → IsPlain j → (c : o.Context) (s : o.State) → follow l o f c s (then_follow j k) ≡ then_do (follow l o g c s j) (λ s' x. follow l o f c s' (k x))
  plain_follow f g k (Give x) h c s = refl
  plain_follow f g k (Halt x) h c s = refl
  plain_follow f g k (Look y) h c s = plain_follow f g k (y (o.realm c s)) (h (o.realm c s)) c s
  plain_follow f g k (Change y j) h c s = (let r = o.realm c s in plain_follow f g k j h c (o.put c (y r.inner) s))
  plain_follow f g k (Pay x j) h c s = (λ i. then_do (o.pay x c s) (λ s' u. plain_follow f g k j h c s' i)) ∙ sym (then_then (o.pay x c s) (λ s' u. follow l o g c s' j) (λ s' x. follow l o f c s' (k x)))
  plain_follow f g k j h c s = absurd h

module _ {T R B : Type 0} (l : Language T R) (o : Outside T R) (owed : ℕ → B → o.State → Completion → Ran o.State o.End Completion) where
  exact : (d : ℕ) (c : o.Context) (s : o.State) (k : Script T R) (fs : List (Frame T R o.Context B)) → means l o owed (top d c s k fs) ≡ stepped l o owed d c s fs k
  exact zero c s (Part t k) fs = refl
  exact (suc d) c s (Part t k) fs = then_then (ev l o (suc d) c s t) _ _
  exact zero c s (Become t) fs = refl
  exact (suc d) c s (Become t) fs = refl
  exact d c s (Pay x k) fs = then_then (o.pay x c s) _ _
  exact d c s (Enter k) fs = then_then (o.enter c s) _ _
  exact d c s (Load name k) fs = then_then (o.load name c s) _ _
  exact d c s (Ask x k) fs = then_then (o.ask (ev l o d) x c s) _ _
  exact d c s k fs = refl

  pub steps : Steps l o owed
  steps = record {
    exact = exact;
    goes_on = λ d c k s x fs. refl;
    in_place = λ d c s t k fs h. ap (λ r. then_do r (after l o owed fs)) (sym (plain_follow l o (ev l o (suc d)) (ev l o d) k (l.row t) h c s));
  }

module _ {T R : Type 0} (l : Language T R) (bound : ℕ) where
  pub live_asks : LiveAsks l bound
  live_asks d c w x k fs q y to fit =
      let more : LiveMore T R = ev l (live l bound) (suc d) in
      let rest = after l (live l bound) (live_owed l bound) fs in
      let go = λ (w' : World R) (y : Outcome Crossing). follow l (live l bound) more c w' (k y) in
      let back : World R → Completion → LiveReach R (Outcome Crossing) = λ w' o. Done (replied c.realm q x o w') (reply_of x o) in
      let work : LiveRan R = worked l more q c (asked c.realm q x w) y in
      rw to (rw fit (ap (λ r. then_do r rest) (then_then work back go) ∙ then_then work _ rest))

  pub live_begins : LiveBegins l bound
  live_begins d p y w fit = rw fit (sym (then_done (worked l (ev l (live l bound) (suc d)) p (idle p) w y)))

  pub solo_reads : SoloReads l bound
  solo_reads d (Awaits c x k) fs s o y tape e fit =
      let more : SoloMore T R = ev l (solo l bound) (suc d) in
      let rest = solo_after l bound fs in
      let go = λ (s' : Slot R) (y : Outcome Crossing). follow l (solo l bound) more c s' (k y) in
      let work : Played R = more c (with_tape tape s) (l.work y) in
      ap (λ r. then_do (then_do (then_do r (λ s' o. solo_replied x s' s'.tape)) go) rest) (read_event l bound (suc d) true c s y tape e fit)
      ∙ ap (λ r. then_do r rest) (ap (λ r. then_do r go) (then_then work _ _) ∙ then_then work _ go)
      ∙ then_then work _ rest
  solo_reads d Idles fs s o y tape e fit =
      ap (λ r. then_do r (solo_after l bound fs)) (read_event l bound (suc d) false 0 s y tape e fit)
      ∙ then_then (ev l (solo l bound) (suc d) 0 (with_tape tape s) (l.work y)) _ (solo_after l bound fs)

  pub solo_takes_reply : SoloReplied l bound
  solo_takes_reply d c x k fs s o y tape e fit = rw e (rw fit)

  pub solo_begins : SoloBegins l bound
  solo_begins d p tape o = ap (verdict _) (sym (then_done (read_on l (ev l (solo l bound) d) false 0 (with_tape tape (fresh_slot l.born p)))))

-- what the laws of stacks cite
pub ruleset stack_laws = (steps, live_asks, live_begins, solo_reads, solo_takes_reply, solo_begins)
