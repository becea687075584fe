-- A player whose file is pushed piece by piece.
use Rattle.std.specs.Prelude.{◌≡◌, ℕ, ◌+◌, ◌*◌, ◌%◌, ◌^◌, ◌≤◌, List, length, Option, None, Some, IfSome, ⊤}
use Rattle.dsd_bits.specs.declared.interleaving.Interleaving.TheVariants.{Bytes}
use Rattle.dsd_bits.specs.declared.sound.Sound.{Sound}
use Rattle.dsd_bits.specs.Sounds.{IsSound}
use Rattle.dsdiff_core.specs.Walks.{IsWalked}
use Rattle.fir_core.specs.Decimator.{Decimator}
use Rattle.player_core.specs.PartView.{part_rest}
use Rattle.player_core.specs.declared.parts.PartPlayer.{PartPlayer}
use Rattle.player_core.specs.declared.pausing.PausedPart.{PausedPart}
use Rattle.wave_core.specs.Sizes.{block_align}
use Rattle.sound_core.specs.Files.{IsBeforeSound, IsHeaderOf, IsRefused, LeadsToSound}
use Rattle.dsdarc_c.specs.Playing.{HasPlayed}
use Rattle.dsdarc_c.specs.declared.pushing.Pushing.{Pushing}
use Rattle.dsdarc_c.specs.declared.within_sound.Rest.{Rest}
use Rattle.dsdarc_c.specs.declared.pushing.Stage.{Stage}
use Rattle.dsdarc_c.specs.declared.pushing.Stage.TheVariants as stages

-- these bytes are a file's header: they end where this sound starts, and state it
pub record IsPushedHeader (header : List ℕ) (s : Sound) : Type 0 where
  pub ends : IsHeaderOf header s
  pub is_sound : IsSound s
  pub whole : s.interleaving ≡ Bytes → s.count % 8 ≡ 0
  pub start_low : s.start ≤ 2 ^ 28
  pub size_low : s.size ≤ 2 ^ 61

-- these bytes state no sound yet, and are no recording; the sound of each recording that begins with them comes after
-- them
pub record IsUnstated (header : List ℕ) : Type 0 where
  pub none : (s : Sound) → LeadsToSound header s → ⊥
  pub refused : IsRefused header
  pub before : IsBeforeSound header

-- these bytes are a file's up to this place, few enough to be held, and state no sound yet; the chunks before `walked`
-- were walked
pub record IsHeaderSoFar (header : List ℕ) (place walked : ℕ) : Type 0 where
  pub place_is : length header ≡ place
  pub few : place ≤ 2 ^ 28
  pub unstated : IsUnstated header
  pub so_far : IsWalked header walked

-- a player that pauses plays this sound, and `left` bytes of it are to come
pub record IsPausedIn (d : Decimator) (s : Sound) (q : PausedPart) (left : ℕ) : Type 0 where
  pub start : ℕ
  pub before : List ℕ
  pub given : List ℕ
  pub player : PartPlayer
  pub played : HasPlayed d s start before given player q
  pub long : length before + left ≡ (part_rest player).size

-- the same of a player that pauses, which some bytes are to come for; there is none if nothing is to come
abbrev pub IsPausedOrDone : Decimator → Sound → Option PausedPart → ℕ → Type 0
IsPausedOrDone d s None left = left ≡ 0
IsPausedOrDone d s (Some q) left = IsPausedIn d s q left × (1 ≤ left)

-- the same of a player, its sound and the bytes to come, kept as one value
pub record IsRest (d : Decimator) (rest : Rest) : Type 0 where
  pub playing : IsPausedIn d rest.sound rest.paused rest.left
  pub few : rest.left ≤ rest.sound.size

-- the next byte of the file is in this sound, `left` bytes before its end
pub record IsWithinSound (d : Decimator) (head : List ℕ) (place : ℕ) (s : Sound) (q : PausedPart) (left : ℕ) : Type 0 where
  pub header : IsPushedHeader head s
  pub playing : IsPausedIn d s q left
  pub place_is : place + left ≡ s.start + s.size

-- the next byte of the file comes after this sound, and few enough bytes are kept of what follows it
pub record IsAfterSound (head : List ℕ) (place : ℕ) (s : Sound) (back : List ℕ) : Type 0 where
  pub header : IsPushedHeader head s
  pub after : s.start + s.size ≤ place
  pub few : length back ≤ 2 ^ 28

-- the file has not come to its sound yet
abbrev pub IsInHeader : Stage → Type 0
IsInHeader stage = (walked : ℕ) × (stage ≡ stages.Header walked)

-- what holds in each stage
abbrev pub IsAtStage : Decimator → List ℕ → ℕ → Stage → Type 0
IsAtStage d header place (stages.Header walked) = IsHeaderSoFar header place walked
IsAtStage d header place (stages.Sound s q left) = IsWithinSound d header place s q left × (1 ≤ left)
IsAtStage d header place (stages.After s back) = IsAfterSound header place s back.items
IsAtStage d header place stages.Failed = ⊤

-- the sound that is kept as stated, in each stage: none before the sound is known, and in it and after it the one that is
-- played
abbrev pub KeepsSound : Stage → Option Sound → Type 0
KeepsSound (stages.Header walked) kept = kept ≡ None
KeepsSound (stages.Sound s q left) kept = kept ≡ Some s
KeepsSound (stages.After s back) kept = kept ≡ Some s
KeepsSound stages.Failed kept = ⊤

-- n bytes are those of whole frames of this sound; before a sound is stated there are none
abbrev pub AreWholeFrames : Decimator → Option Sound → ℕ → Type 0
AreWholeFrames d None n = n ≡ 0
AreWholeFrames d (Some s) n = (frames : ℕ) × (n ≡ frames * block_align s.channels d.width)

-- what holds of every player whose file is pushed; the sound that is kept as stated is always one that the header
-- states, and what is made of it is whole frames
pub record IsPushing (p : Pushing) : Type 0 where
  pub pulled : p.pulled ≤ length p.pending.items
  pub stated : IfSome p.stated (IsPushedHeader p.header.items)
  pub known : KeepsSound p.stage p.stated
  pub stage : IsAtStage p.taps p.header.items p.place p.stage
  pub whole : AreWholeFrames p.taps p.stated (length p.pending.items)
