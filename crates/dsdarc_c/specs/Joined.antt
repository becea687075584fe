-- A player of files that follow each other.
use Rattle.std.specs.Prelude.{◌≡◌, ◌≤◌, ◌<◌, ◌+◌, ◌%◌, ◌^◌, ℕ, List, [], drop, length, Option, None, Some, IfSome, ⊤}
use Rattle.dsd_bits.specs.declared.blocks.BitOrder.TheVariants as orders
use Rattle.dsd_bits.specs.declared.sound.Sound.{Sound}
use Rattle.fir_core.specs.Decimator.{Decimator}
use Rattle.native_core.specs.declared.layout.Layout.{Layout}
use Rattle.native_core.specs.declared.layout.Layout.TheVariants as layouts
use Rattle.joined_core.specs.Givers.{IsGiver}
use Rattle.joined_core.specs.declared.giver.Giver.{Giver}
use Rattle.dsdarc_c.specs.Bare.{IsBare, bare_waiting}
use Rattle.dsdarc_c.specs.declared.bare.BareStage.{BareStage}
use Rattle.dsdarc_c.specs.declared.bare.BareStage.TheVariants as stages
use Rattle.dsdarc_c.specs.declared.joined.JoinStage.{JoinStage}
use Rattle.dsdarc_c.specs.declared.joined.JoinStage.TheVariants as joins
use Rattle.dsdarc_c.specs.declared.joined.Joined.{Joined}
use Rattle.dsdarc_c.specs.declared.joined.Shape.{Shape}

-- the layout in which a file's bits are joined: a byte of each channel in turn, its earliest bit the most significant
abbrev pub own_layout : Layout
own_layout = layouts.Bytes orders.MostFirst

-- the sound of the file has not started
abbrev pub IsBeforeOwn : BareStage → Type 0
IsBeforeOwn (stages.Header walked) = ⊤
IsBeforeOwn (stages.Open s) = ⊤
IsBeforeOwn _ = ⊥

-- no sound comes next
abbrev pub IsNotOpen : BareStage → Type 0
IsNotOpen (stages.Open s) = ⊥
IsNotOpen _ = ⊤

-- P holds of the sound of the file, if it has started
abbrev pub IfOwn : BareStage → (Sound → Type 0) → Type 0
IfOwn (stages.Sound s r) P = P s
IfOwn (stages.After s back) P = P s
IfOwn _ P = ⊤

-- this is the sound of the file, which has started
abbrev pub IsOwn : BareStage → Sound → Type 0
IsOwn (stages.Sound s r) sound = s ≡ sound
IsOwn (stages.After s back) sound = s ≡ sound
IsOwn _ sound = ⊥

-- a sound has the rate and channels of what is given, and ends on a whole byte
abbrev pub IsOfShape : Option Shape → Sound → Type 0
IsOfShape None s = ⊥
IsOfShape (Some shape) s = (s.rate ≡ shape.rate) × (s.channels ≡ shape.channels) × (s.count % 8 ≡ 0)

-- a sound can follow those before it, which have this many bits of each channel
abbrev pub Fits : Option Shape → ℕ → Sound → Type 0
Fits shape count s = IsOfShape shape s × (count + s.count < 2 ^ 36)

-- the sound that comes next can't be joined
abbrev pub Misfits : Option Shape → ℕ → BareStage → Type 0
Misfits shape count (stages.Open s) = Fits shape count s → ⊥
Misfits shape count _ = ⊤

-- a frame has bits of each channel, of which there are at most 6
abbrev pub IsShape : Shape → Type 0
IsShape shape = (1 ≤ shape.unit) × (shape.channels ≤ 6)

-- what is given of a sound by a filter
abbrev pub shape_by : Decimator → Sound → Shape
shape_by d s = record { rate = s.rate; channels = s.channels; unit = d.factor; width = d.width }

-- what is given is known
abbrev pub IsKnown : Option Shape → Type 0
IsKnown None = ⊥
IsKnown (Some shape) = ⊤

-- frames are given as they are due
abbrev pub IsGoingOn : JoinStage → Type 0
IsGoingOn (joins.Giving g) = ⊤
IsGoingOn _ = ⊥

-- what holds in each stage; after the choice nothing of the file waits to be joined, and its sound doesn't wait if it can
-- be joined
abbrev pub IsAtJoin : JoinStage → Joined → Type 0
IsAtJoin joins.Choosing p = ⊤
IsAtJoin (joins.Giving g) p = IsGiver g × (bare_waiting p.bare ≡ []) × IsKnown p.shape × Misfits p.shape p.count p.bare.stage
IsAtJoin (joins.Ended g) p = IsGiver g
IsAtJoin joins.Failed p = ⊤

-- what holds of every player of files that follow each other
pub record IsJoined (p : Joined) : Type 0 where
  pub bare : IsBare p.bare
  pub layout : p.bare.layout ≡ own_layout
  pub pulled : p.pulled ≤ length p.pending.items
  pub stage : IsAtJoin p.stage p
  pub shape : IfSome p.shape IsShape
  pub few : p.count ≤ 2 ^ 36

-- the sound of the file is not going on, and has not gone
abbrev pub IsNotOwn : BareStage → Type 0
IsNotOwn stage = IfOwn stage (λ s. ⊥)

-- what holds of a player whose stage is taken out, with what gives its frames
pub record IsTaken (p : Joined) (g : Giver) : Type 0 where
  pub bare : IsBare p.bare
  pub layout : p.bare.layout ≡ own_layout
  pub pulled : p.pulled ≤ length p.pending.items
  pub giver : IsGiver g
  pub known : IsKnown p.shape
  pub misfits : Misfits p.shape p.count p.bare.stage
  pub shape : IfSome p.shape IsShape
  pub few : p.count ≤ 2 ^ 36

-- the same, and nothing of the file waits to be joined
pub record IsHeld (p : Joined) (g : Giver) : Type 0 where
  pub taken : IsTaken p g
  pub none : bare_waiting p.bare ≡ []

-- the bytes of frames that can be pulled
abbrev pub joined_waiting : Joined → List ℕ
joined_waiting p = drop p.pulled p.pending.items
