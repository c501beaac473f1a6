use Rattle.std.proofs.Common.{arith}
use Rattle.sr_tag.proofs.Progress.{IsPath-push}
use Rattle.sr_tag.proofs.path.Path.child.Goals as goal

pub of_vec-requires : goal.of_vec-requires
of_vec-requires c =
    rw (c.in_ok-push.ensures.items, c.in_ok-extend_from_slice.ensures.items, c.in_ok-longer.ensures.items)
    (IsPath-push c.numbers-numbers.result.now c.args.k c.numbers-numbers.ensures.path c.if-numbers-eq-MAX_STEPS.false (record { from = c.requires; to = omega arith }))
