-- What a `PartPlayer` stands for.
use Rattle.std.specs.Prelude.{◌≡◌, ℕ, ◌-◌, ◌*◌, ◌≤◌, List, ◌++◌, drop, length, slice_range}
use Rattle.dsd_bits.specs.declared.sound.Sound.{Sound}
use Rattle.fir_core.specs.Decimator.{Decimator}
use Rattle.wave_core.specs.Sizes.{block_align}
use Rattle.player_core.specs.Due.{all_bytes, due_bytes}
use Rattle.player_core.specs.Groups.{group_size}
use Rattle.player_core.specs.Parts.{frames_before, groups_before, part_bytes, rest_of}
use Rattle.player_core.specs.PlayerView.{IsPlayerFed, IsPlayer, fed_of, filter_of, sound_of}
use Rattle.player_core.specs.declared.parts.PartPlayer.{PartPlayer}

-- the filter by which a part is played
abbrev pub part_filter : PartPlayer → Decimator
part_filter p = filter_of p.player

-- the rest of the sound that is fed for it
abbrev pub part_rest : PartPlayer → Sound
part_rest p = sound_of p.player

-- how many of the rest's bytes were fed
abbrev pub part_fed : PartPlayer → ℕ
part_fed p = fed_of p.player

-- the byte of the whole sound with which the rest begins
abbrev pub part_start : PartPlayer → ℕ
part_start p = p.start

-- the bytes of the part's frames that are due after these bytes of the rest
abbrev pub part_due : PartPlayer → List ℕ → List ℕ
part_due p bytes = slice_range (due_bytes (filter_of p.player) (sound_of p.player) bytes) p.skip p.stop

-- the bytes of all its frames
abbrev pub part_all : PartPlayer → List ℕ → List ℕ
part_all p bytes = slice_range (all_bytes (filter_of p.player) (sound_of p.player) bytes) p.skip p.stop

-- it was fed these bytes of the rest
pub record IsPartFed (p : PartPlayer) (bytes : List ℕ) : Type 0 where
  pub fed : IsPlayerFed p.player bytes
  pub given : p.given ≡ length (due_bytes (filter_of p.player) (sound_of p.player) bytes)

-- what each such player keeps to
pub record IsPartPlayer (p : PartPlayer) : Type 0 where
  pub player : IsPlayer p.player
  pub history : (bytes : List ℕ) × IsPartFed p bytes

-- the bytes of all frames of the part were given
abbrev pub IsPartComplete : PartPlayer → Type 0
IsPartComplete p = p.stop ≤ p.given

-- it plays the frames of a sound from one on, up to another that is not among them, by this filter
pub record IsPartOf (d : Decimator) (s : Sound) (start stop : ℕ) (p : PartPlayer) : Type 0 where
  pub filter_is : part_filter p ≡ d
  pub rest_is : part_rest p ≡ rest_of s (groups_before d s.interleaving start)
  pub start_is : part_start p ≡ groups_before d s.interleaving start * group_size s.interleaving s.channels
  pub skip_is : p.skip ≡ (start - frames_before d s.interleaving start) * block_align s.channels d.width
  pub stop_is : p.stop ≡ (stop - frames_before d s.interleaving start) * block_align s.channels d.width
  pub gives : (bytes : List ℕ) → length bytes ≡ s.size → part_all p (drop (part_start p) bytes) ≡ part_bytes d s bytes start stop

-- it plays the same part
pub record IsSamePart (old new : PartPlayer) : Type 0 where
  pub filter : part_filter new ≡ part_filter old
  pub rest : part_rest new ≡ part_rest old
  pub start : new.start ≡ old.start
  pub skip : new.skip ≡ old.skip
  pub stop : new.stop ≡ old.stop

-- after whatever bytes of the rest it was fed, it was fed these, and gave what of the part was due then and not before
abbrev pub FeedsPart : PartPlayer → PartPlayer → List ℕ → List ℕ → List ℕ → Type 0
FeedsPart old new bytes given_old given_new = (more : List ℕ) × (given_new ≡ given_old ++ more)
    × ((before : List ℕ) → IsPartFed old before → IsPartFed new (before ++ bytes) × (part_due old (before ++ bytes) ≡ part_due old before ++ more))

-- after all bytes of the rest, it gave the rest of the part's frames
abbrev pub FinishesPart : PartPlayer → List ℕ → List ℕ → Type 0
FinishesPart old given_old given_new = (more : List ℕ) × (given_new ≡ given_old ++ more)
    × ((before : List ℕ) → IsPartFed old before → part_all old before ≡ part_due old before ++ more)
