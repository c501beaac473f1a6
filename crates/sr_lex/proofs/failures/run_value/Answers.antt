use Rattle.std.proofs.Common.{◌≡◌, ◌+◌, ℕ, List, drop, ap, ◌∙◌, sym}
use Rattle.std.specs.Prelude.{slice_index}
use Rattle.std.proofs.lemmas.List.{drop_more}
use Rattle.sr_lex.specs.Failures.{run_value}
use Rattle.sr_lex.proofs.NumberLaws.{cap}
use Rattle.sr_lex.proofs.RunLaws.{value_goes}
use Rattle.sr_lex.proofs.failures.run_value.Goals as goal

pub loop-unit-preserved : goal.loop-unit-preserved
loop-unit-preserved c =
    let us = c.args.units.now in
    let i = c.loop-unit.unit-index in
    let v = c.loop-unit.value in
    let b = c.args.base in
    record {
      told =
          c.loop-unit.invariant.told
          ∙ ap (λ (xs : List ℕ). cap (run_value b v xs)) (drop_more us i 0 c.loop-unit-test.true)
          ∙ value_goes b v (slice_index us i) (drop (i + 1) us) c.requires.some
          ∙ ap (λ (w : ℕ). cap (run_value b w (drop (i + 1) us))) (sym c.next_value-value.ensures.value);
      within = c.next_value-value.ensures.within;
    }
