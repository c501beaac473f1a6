use Rattle.std.proofs.Common.{◌≡◌, ◌==◌, drop}
use Rattle.std.specs.Map.{lookup}
use Rattle.std.specs.Cmp.Lexicographic.{pointwise}
use Rattle.sr_outside.specs.Loading.{files_of}
use Rattle.sr_outside.proofs.memory_loaders.find.Given as goal

-- the name is among the files that are left as it is among all
abbrev pub invariant-loop-file : goal.invariant-loop-file
invariant-loop-file l = lookup (pointwise ◌==◌ l.name) (files_of (drop l.file-index l.files)) ≡ lookup (pointwise ◌==◌ l.name) (files_of l.fn.files)
