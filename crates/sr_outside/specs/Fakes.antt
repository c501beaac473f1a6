-- The calls at which a loader or a sink in memory fails.
use Rattle.std.specs.Prelude.{ℕ, List}
use Rattle.sr_outside.specs.declared.memory_loaders.MapLoader.{MapLoader}
use Rattle.sr_outside.specs.declared.memory_sinks.VecSink.{VecSink}

-- the numbers of the loads that fail, counted from 1
abbrev pub failing_loads : MapLoader → List ℕ
failing_loads loader = loader.failing.items

-- the numbers of the writes that fail, counted from 1
abbrev pub failing_writes : VecSink → List ℕ
failing_writes sink = sink.failing.items

-- how many writes were tried
abbrev pub writes_of : VecSink → ℕ
writes_of sink = sink.calls
