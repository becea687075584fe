-- The samples that become due at a call of a stream.
use Rattle.std.specs.Prelude.{ℕ, ℤ, List}
use Rattle.dsd_bits.specs.Packing.{unpacked}
use Rattle.fir_core.specs.Decimator.{Decimator}
use Rattle.fir_core.specs.Places.{samples_from}
use Rattle.fir_core.specs.declared.stream.Run.{Run}

-- the samples of a run over bytes
abbrev pub run_samples : Decimator → List ℕ → Run → List ℤ
run_samples d bytes run = samples_from d (unpacked bytes run.stop) run.first run.number
