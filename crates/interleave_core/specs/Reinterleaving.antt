-- Sound bytes in another interleaving (DSDIFF 1.5, DSF 1.01).
use Rattle.std.specs.Prelude.{◌≡◌, ℕ, ◌+◌, ◌%◌, Bool, List, ◌++◌, length}
use Rattle.dsd_bits.specs.declared.interleaving.Interleaving.{Interleaving}
use Rattle.dsd_bits.specs.declared.interleaving.Interleaving.TheVariants.{Bytes, Blocks}
use Rattle.dsd_bits.specs.Blocks.{blocked}
use Rattle.dsd_bits.specs.Lacing.{laced}
use Rattle.dsd_bits.specs.Limits.{block_bits}
use Rattle.dsd_bits.specs.Sounds.{sound_channels, sound_size}

-- the sound bytes of the channels: frames, or blocks
abbrev pub laced_in : Interleaving → List (List Bool) → List ℕ
laced_in Bytes channels = laced channels
laced_in (Blocks order) channels = blocked order channels

-- the sound bytes, interleaved as `to`, of the channels that the bytes hold as `from`, `count` bits each
abbrev pub reinterleaved : Interleaving → Interleaving → ℕ → ℕ → List ℕ → List ℕ
reinterleaved from to channels count bytes = laced_in to (sound_channels from channels count bytes)

-- re-interleaving whole groups of 4096 bytes a channel and the bytes after them in two parts gives the same as
-- re-interleaving all of them
abbrev pub GroupsJoin : Type 0
GroupsJoin = (from to : Interleaving) (channels a b : ℕ) (first more : List ℕ) → a % block_bits ≡ 0 → length first ≡ sound_size from channels a → length more ≡ sound_size from channels b
    → reinterleaved from to channels (a + b) (first ++ more) ≡ reinterleaved from to channels a first ++ reinterleaved from to channels b more
