-- A player without a filter, whose file is pushed and of whose sound the bits are pulled.
use Rattle.std.specs.Prelude.{◌≡◌, ◌<◌, ◌≤◌, ◌+◌, ℕ, List, [], drop, length, Option, None, Some, IfSome, ⊤}
use Rattle.dsd_bits.specs.declared.sound.Sound.{Sound}
use Rattle.native_core.specs.declared.layout.Layout.{Layout}
use Rattle.native_core.specs.declared.run.BitRun.{BitRun}
use Rattle.native_core.specs.Runs.{IsReady, run_fed}
use Rattle.dsdarc_c.specs.Pushing.{IsAfterSound, IsHeaderSoFar, IsPushedHeader}
use Rattle.dsdarc_c.specs.declared.bare.Bare.{Bare}
use Rattle.dsdarc_c.specs.declared.bare.BareStage.{BareStage}
use Rattle.dsdarc_c.specs.declared.bare.BareStage.TheVariants as stages

-- a run gives the bits of this sound in this layout, and the next byte of the file is the next that it takes
pub record IsRunAt (layout : Layout) (place : ℕ) (s : Sound) (r : BitRun) : Type 0 where
  pub ready : IsReady r
  pub sound : r.sound ≡ s
  pub layout_is : r.layout ≡ layout
  pub place_is : place ≡ s.start + run_fed r

-- the same of a run that some bytes are to come for; without one the sound ends here
abbrev pub IsRunOrDone : Layout → ℕ → Sound → Option BitRun → Type 0
IsRunOrDone layout place s None = place ≡ s.start + s.size
IsRunOrDone layout place s (Some r) = IsRunAt layout place s r × (place < s.start + s.size)

-- what holds in each stage
abbrev pub IsAtBareStage : Layout → List ℕ → ℕ → BareStage → Type 0
IsAtBareStage layout header place (stages.Header walked) = IsHeaderSoFar header place walked
IsAtBareStage layout header place (stages.Open s) = IsPushedHeader header s × (place ≡ s.start)
IsAtBareStage layout header place (stages.Sound s r) =
    IsPushedHeader header s × IsRunAt layout place s r × (place < s.start + s.size)
IsAtBareStage layout header place (stages.After s back) = IsAfterSound header place s back.items
IsAtBareStage layout header place stages.Failed = ⊤

-- the sound that is kept as stated, in each stage
abbrev pub KeepsBareSound : BareStage → Option Sound → Type 0
KeepsBareSound (stages.Header walked) kept = kept ≡ None
KeepsBareSound (stages.Open s) kept = kept ≡ Some s
KeepsBareSound (stages.Sound s r) kept = kept ≡ Some s
KeepsBareSound (stages.After s back) kept = kept ≡ Some s
KeepsBareSound stages.Failed kept = ⊤

-- before it is chosen how bits are given, none are made
abbrev pub MakesNone : BareStage → List ℕ → Type 0
MakesNone (stages.Header walked) pending = pending ≡ []
MakesNone (stages.Open s) pending = pending ≡ []
MakesNone (stages.Sound s r) pending = ⊤
MakesNone (stages.After s back) pending = ⊤
MakesNone stages.Failed pending = ⊤

-- what holds of every player without a filter; the sound that is kept as stated is always one that the header states
pub record IsBare (p : Bare) : Type 0 where
  pub pulled : p.pulled ≤ length p.pending.items
  pub stated : IfSome p.stated (IsPushedHeader p.header.items)
  pub known : KeepsBareSound p.stage p.stated
  pub stage : IsAtBareStage p.layout p.header.items p.place p.stage
  pub none : MakesNone p.stage p.pending.items

-- the bytes of frames that can be pulled
abbrev pub bare_waiting : Bare → List ℕ
bare_waiting p = drop p.pulled p.pending.items
