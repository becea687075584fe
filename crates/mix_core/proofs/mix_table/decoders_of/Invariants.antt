use Rattle.std.proofs.Common.{◌≡◌, ℤ, map, Global, Vec}
use Rattle.toml.specs.View.{items_view}
use Rattle.project_core.specs.Tables.{list_of}
use Rattle.project_core.proofs.Each.{values_left}
use Rattle.mix_core.specs.ReadingMix.{decoder_of, decoders_of}
use Rattle.mix_core.proofs.mix_table.decoders_of.Given as goal

abbrev pub invariant-loop-number : goal.invariant-loop-number
invariant-loop-number l = values_left decoder_of (map (λ (taps : Vec ℤ Global). taps.items) l.decoders.items) l.number l.values ≡ decoders_of (list_of (items_view l.values))
