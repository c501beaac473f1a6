use Rattle.std.proofs.Common.{◌≡◌, min, take}
use Rattle.std.specs.Str.Parse.{digits_value}
use Rattle.sr_num.specs.declared.reading.TheConstants.{TOO_LARGE}
use Rattle.sr_num.proofs.reading.capped_value.Given as goal

abbrev pub invariant-loop-unit : goal.invariant-loop-unit
invariant-loop-unit l = l.value ≡ min (digits_value l.base (take l.unit-index l.digits)) TOO_LARGE
