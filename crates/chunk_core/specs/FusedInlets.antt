-- What contracts see of a reader with a limited number of reads, which is not read again after a failure.
use Rattle.std.specs.Prelude.{ℕ, ◌<◌, ◌≤◌, ◌⊎◌}
use Rattle.chunk_core.specs.Inlets.{inlet_failures, inlet_reader, inlet_reads}
use Rattle.chunk_core.specs.declared.fused_inlet.FusedInlet.{FusedInlet}

-- the reader of a fused inlet
abbrev pub fused_reader : {R : Type 0} → FusedInlet R → R
fused_reader fused = inlet_reader fused.inlet

-- the number of reads that it may make in all
abbrev pub fused_most : {R : Type 0} → FusedInlet R → ℕ
fused_most fused = fused.most

-- a read failed, or no read is left
abbrev pub HasFailed : {R : Type 0} → FusedInlet R → Type 0
HasFailed fused = (0 < inlet_failures fused.inlet) ⊎ (fused.most ≤ inlet_reads fused.inlet)
