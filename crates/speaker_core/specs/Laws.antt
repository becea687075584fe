-- The law of sound bytes whose channels come in another order.
use Rattle.std.specs.Prelude.{◌≡◌, ◌≤◌, ◌*◌, ℕ, List, length}
use Rattle.dsd_bits.specs.Lacing.{unlaced_all}
use Rattle.speaker_core.specs.Reordering.{NamesChannels, channels_in, groups_in}

-- bytes of whole frames whose groups come in an order hold the channels in that order
abbrev pub ReorderedHoldChannels : Type 0
ReorderedHoldChannels = (order : List ℕ) (groups : ℕ) (bytes : List ℕ) → NamesChannels order → 1 ≤ length order → length bytes ≡ groups * length order
    → unlaced_all (groups_in order 1 groups bytes) (length order) ≡ channels_in order (unlaced_all bytes (length order))
