use Rattle.sr_text.proofs.Texts.{read_further, all_read}
use Rattle.sr_text.proofs.utf8.units_of.Goals as goal

pub loop-c-preserved : goal.loop-c-preserved
loop-c-preserved c =
    rw c.in_ok-extend_from_slice.ensures.items (read_further _ _ _ _ _ _ c.loop-c.invariant c.in-Some.ensures.steps.0 c.encode_utf16.ensures.value)

pub returns : goal.returns
returns c = all_read _ _ _ c.loop-c.invariant c.in-None.ensures.steps.0.0
