-- What the calls of a player of files that follow each other do, and why they are refused.
use Rattle.std.specs.Prelude.{◌≡◌, ◌≢◌, ◌⊎◌, ◌<◌, ◌≤◌, ◌+◌, ◌/◌, ◌%◌, ◌^◌, ℕ, List, length, Option, None, Some, ⊤}
use Rattle.std.specs.Int.{div_ceil}
use Rattle.dsd_bits.specs.declared.sound.Sound.{Sound}
use Rattle.fir_core.specs.Decimator.{Decimator}
use Rattle.joined_core.specs.Givers.{fed_of, room}
use Rattle.joined_core.specs.declared.giver.Giver.{Giver}
use Rattle.native_core.specs.declared.layout.Layout.{Layout}
use Rattle.dsdarc_c.specs.BareCalls.{AcceptsBareEnd, RefusesBare, RefusesBareEnd, RefusesChoice, RefusesFilter, TakesBare}
use Rattle.dsdarc_c.specs.Joined.{IsBeforeOwn, IsOfShape}
use Rattle.dsdarc_c.specs.Making.{RefusesProject, StatesFilter}
use Rattle.dsdarc_c.specs.Statuses.{status_of}
use Rattle.dsdarc_c.specs.declared.bare.Bare.{Bare}
use Rattle.dsdarc_c.specs.declared.bare.BareStage.{BareStage}
use Rattle.dsdarc_c.specs.declared.bare.BareStage.TheVariants as stages
use Rattle.dsdarc_c.specs.declared.fault.PlayFault.{PlayFault}
use Rattle.dsdarc_c.specs.declared.fault.PlayFault.TheVariants as faults
use Rattle.dsdarc_c.specs.declared.info.Info.{Info}
use Rattle.dsdarc_c.specs.declared.joined.JoinStage.{JoinStage}
use Rattle.dsdarc_c.specs.declared.joined.JoinStage.TheVariants as joins
use Rattle.dsdarc_c.specs.declared.joined.Joined.{Joined}
use Rattle.dsdarc_c.specs.declared.joined.Shape.{Shape}

-- a push takes n of these bytes: none while frames wait, and otherwise those that a player of the file alone takes
pub record TakesJoined (p : Joined) (bytes : List ℕ) (n : ℕ) : Type 0 where
  pub none : p.pulled < length p.pending.items → n ≡ 0
  pub taken : length p.pending.items ≤ p.pulled → TakesBare p.bare bytes n

-- a sound can't be joined: it has another rate or other channels, or doesn't end on a whole byte; or the recording would
-- be too long
abbrev pub WhyNot : Option Shape → ℕ → Sound → PlayFault → Type 0
WhyNot shape count s faults.NotJoined = IsOfShape shape s → ⊥
WhyNot shape count s faults.TooLong = 2 ^ 36 ≤ count + s.count
WhyNot shape count s _ = ⊥

-- what came isn't given: a recording has fewer bytes, or for memory
abbrev pub RefusesGiving : Giver → PlayFault → Type 0
RefusesGiving g faults.TooLong = (more : List ℕ) × (room g ≤ fed_of g + length more)
RefusesGiving g faults.Memory = ⊤
RefusesGiving g _ = ⊥

-- a push is refused after the choice, where no sound waits to be joined: as that of a player of the file alone is, or
-- because what came isn't given
abbrev pub RefusesFile : Bare → Giver → List ℕ → PlayFault → Type 0
RefusesFile bare g bytes fault = RefusesBare bare bytes fault ⊎ RefusesGiving g fault

-- a push is refused after the choice in this stage of the file: because the sound that comes next can't be joined, or as
-- before
abbrev pub RefusesOnAt : BareStage → Bare → Option Shape → ℕ → Giver → List ℕ → PlayFault → Type 0
RefusesOnAt (stages.Open s) bare shape count g bytes fault = WhyNot shape count s fault
RefusesOnAt _ bare shape count g bytes fault = RefusesFile bare g bytes fault

-- a push is refused after the choice
abbrev pub RefusesNext : Joined → Giver → List ℕ → PlayFault → Type 0
RefusesNext p g bytes fault = RefusesOnAt p.bare.stage p.bare p.shape p.count g bytes fault

-- the same in this stage: before the choice as that of a player of the file alone, and none is taken after the end
abbrev pub RefusesJoinedAt : JoinStage → Joined → List ℕ → PlayFault → Type 0
RefusesJoinedAt joins.Choosing p bytes fault = RefusesBare p.bare bytes fault
RefusesJoinedAt (joins.Giving g) p bytes fault = RefusesNext p g bytes fault
RefusesJoinedAt (joins.Ended g) p bytes fault = fault ≡ faults.NotJoined
RefusesJoinedAt joins.Failed p bytes fault = fault ≡ faults.AfterFault

-- a push of these bytes is refused
abbrev pub RefusesJoined : Joined → List ℕ → PlayFault → Type 0
RefusesJoined p bytes fault = RefusesJoinedAt p.stage p bytes fault

-- a file that ends here holds a recording, unless its sound has not started
abbrev pub AcceptsOwn : Bare → Type 0
AcceptsOwn bare = IsBeforeOwn bare.stage ⊎ AcceptsBareEnd bare

-- a file is followed by another: it holds a recording, unless its sound has not started
abbrev pub AcceptsNextAt : JoinStage → Bare → Type 0
AcceptsNextAt (joins.Giving g) bare = AcceptsOwn bare
AcceptsNextAt _ bare = ⊥

-- an end is accepted: the same of the last file
abbrev pub AcceptsEndAt : JoinStage → Bare → Type 0
AcceptsEndAt (joins.Giving g) bare = AcceptsOwn bare
AcceptsEndAt (joins.Ended g) bare = ⊤
AcceptsEndAt _ bare = ⊥

-- a file isn't followed by another: before the choice, because it holds no recording, after the end, after another
-- refusal, or for memory
abbrev pub RefusesNextAt : JoinStage → Bare → PlayFault → Type 0
RefusesNextAt joins.Choosing bare fault = fault ≡ faults.NoChoice
RefusesNextAt (joins.Giving g) bare fault = RefusesBareEnd bare fault
RefusesNextAt (joins.Ended g) bare fault = fault ≡ faults.NotJoined
RefusesNextAt joins.Failed bare fault = fault ≡ faults.AfterFault

-- an end is refused: before the choice, because the file holds no recording, after another refusal, or for memory
abbrev pub RefusesEndAt : JoinStage → Bare → PlayFault → Type 0
RefusesEndAt joins.Choosing bare fault = (fault ≡ faults.NoChoice) ⊎ RefusesBareEnd bare fault
RefusesEndAt (joins.Giving g) bare fault = (fault ≡ faults.Memory) ⊎ RefusesBareEnd bare fault
RefusesEndAt (joins.Ended g) bare fault = ⊥
RefusesEndAt joins.Failed bare fault = fault ≡ faults.AfterFault

-- it was chosen how the sound is given
abbrev pub IsChosenJoin : JoinStage → Type 0
IsChosenJoin (joins.Giving g) = ⊤
IsChosenJoin (joins.Ended g) = ⊤
IsChosenJoin _ = ⊥

-- a choice is refused: after another one or another refusal, as that of a player of the file alone, or because its sound
-- can't be joined to another
abbrev pub RefusesJoinedBy : Joined → (PlayFault → Type 0) → PlayFault → Type 0
RefusesJoinedBy p Refuses faults.Chosen = IsChosenJoin p.stage ⊎ Refuses faults.Chosen
RefusesJoinedBy p Refuses faults.AfterFault = (p.stage ≡ joins.Failed) ⊎ Refuses faults.AfterFault
RefusesJoinedBy p Refuses faults.NotJoined = (s : Sound) × (p.bare.stage ≡ stages.Open s) × (s.count % 8 ≢ 0)
RefusesJoinedBy p Refuses faults.TooLong = (s : Sound) × (p.bare.stage ≡ stages.Open s) × (2 ^ 36 ≤ s.count)
RefusesJoinedBy p Refuses fault = Refuses fault

-- the same of a layout
abbrev pub RefusesJoinedChoice : Joined → Layout → PlayFault → Type 0
RefusesJoinedChoice p layout fault = RefusesJoinedBy p (RefusesChoice p.bare layout) fault

-- the same of a filter
abbrev pub RefusesJoinedFilter : Joined → Decimator → PlayFault → Type 0
RefusesJoinedFilter p d fault = RefusesJoinedBy p (RefusesFilter p.bare d) fault

-- these fields describe what is given of this many bits of each channel: the number of frames, the rate of the files and
-- that of the frames, the channels, and the bits of a sample
pub record IsShapeInfo (shape : Shape) (count : ℕ) (info : Info) : Type 0 where
  pub frames : info.frames ≡ div_ceil count shape.unit
  pub rate_in : info.rate_in ≡ shape.rate
  pub rate : info.rate ≡ shape.rate / shape.unit
  pub channels : info.channels ≡ shape.channels
  pub width : info.width ≡ shape.width

-- these fields describe what is given of the recording, up to the end of the last file whose sound started
abbrev pub ReportsJoined : Joined → Info → Type 0
ReportsJoined p info = (shape : Shape) × (p.shape ≡ Some shape) × IsShapeInfo shape p.count info

-- nothing is reported: how the sound is given isn't chosen
abbrev pub RefusesJoinedInfo : Joined → PlayFault → Type 0
RefusesJoinedInfo p faults.NotYet = p.shape ≡ None
RefusesJoinedInfo p faults.NoChoice = (p.shape ≡ None) × ((s : Sound) × (p.bare.stage ≡ stages.Open s))
RefusesJoinedInfo p _ = ⊥

-- a layout isn't chosen: this is the status that says why
abbrev pub RefusesJoinedLayout : Joined → Layout → ℕ → Type 0
RefusesJoinedLayout p layout status = (fault : PlayFault) × (status ≡ status_of fault) × RefusesJoinedChoice p layout fault

-- the filter of a project text isn't chosen: this is the status that says why, of the text or of its filter
abbrev pub RefusesJoinedText : Joined → List ℕ → ℕ → Type 0
RefusesJoinedText p text status =
    RefusesProject text status ⊎ ((d : Decimator) × StatesFilter text d × (fault : PlayFault) × (status ≡ status_of fault) × RefusesJoinedFilter p d fault)
