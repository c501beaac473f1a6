use Rattle.std.proofs.Common.{◌≡◌, take}
use Rattle.sr_props.proofs.table.copies.Given as goal

-- the keys so far
abbrev pub invariant-loop-key : goal.invariant-loop-key
invariant-loop-key g l = l.copies.items ≡ take l.key-index l.keys
