-- What a player reports of the file, and which bytes of it are read again.
use Rattle.std.specs.Prelude.{◌≡◌, ◌-◌, ◌/◌, ℕ, List, drop, length, min, take, None, Some, Option, nat_eq, if◌then◌else◌}
use Rattle.dsd_bits.specs.declared.blocks.BitOrder.TheVariants as orders
use Rattle.dsd_bits.specs.declared.sound.Sound.{Sound}
use Rattle.dsd_bits.specs.Sounds.{has_blocks}
use Rattle.native_core.specs.declared.layout.Layout.{Layout}
use Rattle.native_core.specs.declared.layout.Layout.TheVariants as layouts
use Rattle.native_core.specs.Native.{unit_of}
use Rattle.native_core.specs.Runs.{total_frames}
use Rattle.dsdarc_c.specs.declared.bare.Bare.{Bare}
use Rattle.dsdarc_c.specs.declared.bare.BareStage.TheVariants as stages
use Rattle.dsdarc_c.specs.declared.fault.PlayFault.{PlayFault}
use Rattle.dsdarc_c.specs.declared.fault.PlayFault.TheVariants as faults
use Rattle.dsdarc_c.specs.declared.info.Info.{Info}
use Rattle.dsdarc_c.specs.declared.info.SoundInfo.{SoundInfo}

-- how many bits a sample of this layout has
abbrev pub width_of : Layout → ℕ
width_of (layouts.Bytes order) = 8
width_of layouts.Dop = 24

-- these fields describe the bits of a sound in this layout: the number of frames, the rate of the sound and that of the
-- frames, and the channels and the bits of a sample
pub record IsBitsInfo (layout : Layout) (s : Sound) (info : Info) : Type 0 where
  pub frames : info.frames ≡ total_frames layout s
  pub rate_in : info.rate_in ≡ s.rate
  pub rate : info.rate ≡ s.rate / unit_of layout
  pub channels : info.channels ≡ s.channels
  pub width : info.width ≡ width_of layout

-- these fields describe the bits of the sound that is kept as stated
abbrev pub ReportsBits : Bare → Info → Type 0
ReportsBits p info = (s : Sound) × (p.stated ≡ Some s) × IsBitsInfo p.layout s info

-- nothing is reported: no sound is known, or how it is given isn't chosen
abbrev pub RefusesBitsInfo : Bare → PlayFault → Type 0
RefusesBitsInfo p faults.NotYet = p.stated ≡ None
RefusesBitsInfo p faults.NoChoice = (s : Sound) × (p.stage ≡ stages.Open s)
RefusesBitsInfo p _ = ⊥

-- these fields say where the bytes of a sound are, and how they are interleaved
pub record IsSoundInfo (s : Sound) (info : SoundInfo) : Type 0 where
  pub bits : info.bits ≡ s.count
  pub start : info.start ≡ s.start
  pub size : info.size ≡ s.size
  pub rate : info.rate ≡ s.rate
  pub channels : info.channels ≡ s.channels
  pub blocks : info.blocks ≡ (if has_blocks s.interleaving then 1 else 0)

-- these fields describe the sound that is kept as stated
abbrev pub ReportsStated : Option Sound → SoundInfo → Type 0
ReportsStated kept info = (s : Sound) × (kept ≡ Some s) × IsSoundInfo s info

-- nothing is reported: no sound is known
abbrev pub RefusesStated : Option Sound → PlayFault → Type 0
RefusesStated kept faults.NotYet = kept ≡ None
RefusesStated kept _ = ⊥

-- n bytes are those from a place on, as many as there are and as fit; the rest of the room is as it was
pub record AreCopied (from : List ℕ) (at : ℕ) (out_old out_new : List ℕ) (n : ℕ) : Type 0 where
  pub count : n ≡ min (length out_old) (length from - at)
  pub given : take n out_new ≡ take n (drop at from)
  pub others : drop n out_new ≡ drop n out_old

-- the layout of a number: bytes with the most significant bit the earliest, or the least significant one, or DoP samples
abbrev pub layout_of : ℕ → Layout
layout_of number =
    if nat_eq number 0 then layouts.Bytes orders.MostFirst else if nat_eq number 1 then layouts.Bytes orders.LeastFirst else layouts.Dop
