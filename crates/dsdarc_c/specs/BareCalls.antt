-- What the calls of a player without a filter do: how many bytes a push takes, where a seek goes, and why they are
-- refused.
use Rattle.std.specs.Prelude.{◌≡◌, ◌⊎◌, ◌<◌, ◌≤◌, ◌+◌, ◌-◌, ◌%◌, ◌≢◌, ◌^◌, ◌++◌, ℕ, List, length, min, take, ⊤}
use Rattle.dsd_bits.specs.declared.sound.Sound.{Sound}
use Rattle.fir_core.specs.Decimator.{Decimator}
use Rattle.native_core.specs.Runs.{total_frames}
use Rattle.native_core.specs.declared.layout.Layout.{Layout}
use Rattle.sound_core.specs.Files.{HoldsSomeRecording, IsRefused, LeadsToSound}
use Rattle.dsdarc_c.specs.BareWhole.{PlaysBits}
use Rattle.dsdarc_c.specs.Pushing.{IsPushedHeader, IsUnstated}
use Rattle.dsdarc_c.specs.Taking.{RefusesAfter, TakesAfter, TakesUnstated}
use Rattle.dsdarc_c.specs.declared.fault.PlayFault.{PlayFault}
use Rattle.dsdarc_c.specs.declared.fault.PlayFault.TheVariants as faults
use Rattle.dsdarc_c.specs.declared.bare.Bare.{Bare}
use Rattle.dsdarc_c.specs.declared.bare.BareStage.{BareStage}
use Rattle.dsdarc_c.specs.declared.bare.BareStage.TheVariants as stages

-- n bytes are taken where the sound that these bytes state starts after n more bytes than the header
pub record TakesUpToOpen (header bytes : List ℕ) (n : ℕ) (s : Sound) : Type 0 where
  pub states : LeadsToSound bytes s
  pub start_low : s.start ≤ 2 ^ 28
  pub size_low : s.size ≤ 2 ^ 61
  pub up_to : length header + n ≡ s.start

-- n bytes of a piece are taken before the sound: all of them if they don't state it yet, otherwise those up to its
-- start
abbrev pub TakesBareHeader : List ℕ → List ℕ → ℕ → Type 0
TakesBareHeader header piece n =
    TakesUnstated header piece n ⊎ ((s : Sound) × TakesUpToOpen header (header ++ piece) n s)

-- n bytes of a piece are taken: none before the choice where the sound starts
abbrev pub TakesBareAt : List ℕ → ℕ → BareStage → List ℕ → ℕ → Type 0
TakesBareAt header place (stages.Header walked) piece n = TakesBareHeader header piece n
TakesBareAt header place (stages.Open s) piece n = ⊥
TakesBareAt header place (stages.Sound s r) piece n = n ≡ min (length piece) (s.start + s.size - place)
TakesBareAt header place (stages.After s back) piece n = TakesAfter header s back.items piece n
TakesBareAt header place stages.Failed piece n = ⊥

-- a push takes n of these bytes: none while frames wait, and otherwise of the first 65,536 what its stage takes
pub record TakesBare (p : Bare) (bytes : List ℕ) (n : ℕ) : Type 0 where
  pub none : p.pulled < length p.pending.items → n ≡ 0
  pub taken : length p.pending.items ≤ p.pulled → TakesBareAt p.header.items p.place p.stage (take 65536 bytes) n

-- the header is refused with these bytes: no recording begins so, it is too much to be held, or its sound has more than
-- 2^61 bytes
abbrev pub RefusesBareHeader : List ℕ → PlayFault → Type 0
RefusesBareHeader bytes faults.FileRefused = (rest : List ℕ) → IsRefused (bytes ++ rest)
RefusesBareHeader bytes faults.TooLong = (s : Sound) × LeadsToSound bytes s × (2 ^ 61 < s.size)
RefusesBareHeader bytes faults.TooMuchHeld =
    (IsUnstated bytes × (2 ^ 28 < length bytes)) ⊎ ((s : Sound) × LeadsToSound bytes s × (2 ^ 28 < s.start))
RefusesBareHeader bytes faults.Memory = ⊤
RefusesBareHeader bytes _ = ⊥

-- a push of a piece is refused in this stage: before the choice where the sound starts, for what the header states,
-- because too much would be kept, after 2^62 bytes, after another refusal, or for memory
abbrev pub RefusesBareAt : List ℕ → ℕ → BareStage → List ℕ → PlayFault → Type 0
RefusesBareAt header place (stages.Header walked) piece fault = RefusesBareHeader (header ++ piece) fault
RefusesBareAt header place (stages.Open s) piece fault = fault ≡ faults.NoChoice
RefusesBareAt header place (stages.Sound s r) piece fault = fault ≡ faults.Memory
RefusesBareAt header place (stages.After s back) piece fault =
    ((fault ≡ faults.TooLong) × (2 ^ 62 < place)) ⊎ RefusesAfter header s back.items piece fault
RefusesBareAt header place stages.Failed piece fault = fault ≡ faults.AfterFault

-- a push is refused for the first 65,536 of these bytes
abbrev pub RefusesBare : Bare → List ℕ → PlayFault → Type 0
RefusesBare p bytes fault = RefusesBareAt p.header.items p.place p.stage (take 65536 bytes) fault

-- a seek goes to this frame: the sound that the header states has it, and the file is pushed on from this place of it
pub record GoesToBits (p : Bare) (frame place : ℕ) : Type 0 where
  pub sound : Sound
  pub header : IsPushedHeader p.header.items sound
  pub has : frame ≤ total_frames p.layout sound
  pub from : sound.start ≤ place
  pub to : place ≤ sound.start + sound.size

-- a seek is refused: before the sound is known, before the choice, after another refusal, because the sound has no such
-- frame, or for memory
abbrev pub RefusesBareSeek : Bare → ℕ → PlayFault → Type 0
RefusesBareSeek p frame faults.NotYet = (walked : ℕ) × (p.stage ≡ stages.Header walked)
RefusesBareSeek p frame faults.NoChoice = (s : Sound) × (p.stage ≡ stages.Open s)
RefusesBareSeek p frame faults.AfterFault = p.stage ≡ stages.Failed
RefusesBareSeek p frame faults.PastEnd = (s : Sound) × IsPushedHeader p.header.items s × (total_frames p.layout s < frame)
RefusesBareSeek p frame faults.Memory = ⊤
RefusesBareSeek p frame _ = ⊥

-- it was chosen how the sound is given
abbrev pub IsChosen : BareStage → Type 0
IsChosen (stages.Sound s r) = ⊤
IsChosen (stages.After s back) = ⊤
IsChosen _ = ⊥

-- a choice of a layout is refused: before the sound is known, after another choice, after another refusal, for DoP
-- samples of a rate that 16 doesn't divide, or for memory
abbrev pub RefusesChoice : Bare → Layout → PlayFault → Type 0
RefusesChoice p layout faults.NotYet = (walked : ℕ) × (p.stage ≡ stages.Header walked)
RefusesChoice p layout faults.Chosen = IsChosen p.stage
RefusesChoice p layout faults.AfterFault = p.stage ≡ stages.Failed
RefusesChoice p layout faults.RateNotDivided = (s : Sound) × (p.stage ≡ stages.Open s)
RefusesChoice p layout faults.Memory = ⊤
RefusesChoice p layout _ = ⊥

-- the same of a filter: it may not divide the rate of the sound
abbrev pub RefusesFilter : Bare → Decimator → PlayFault → Type 0
RefusesFilter p d faults.NotYet = (walked : ℕ) × (p.stage ≡ stages.Header walked)
RefusesFilter p d faults.Chosen = IsChosen p.stage
RefusesFilter p d faults.AfterFault = p.stage ≡ stages.Failed
RefusesFilter p d faults.RateNotDivided = (s : Sound) × (p.stage ≡ stages.Open s) × (s.rate % d.factor ≢ 0)
RefusesFilter p d faults.Memory = ⊤
RefusesFilter p d _ = ⊥

-- the player plays this file, and its next byte would come right after the file's last
abbrev pub IsAtBareEnd : List ℕ → Bare → Type 0
IsAtBareEnd file p = (start : ℕ) × (pulled : List ℕ) × PlaysBits file start pulled p × (length file ≡ p.place)

-- an end is accepted: a file that ends here holds a recording
abbrev pub AcceptsBareEnd : Bare → Type 0
AcceptsBareEnd p = (file : List ℕ) → IsAtBareEnd file p → HoldsSomeRecording file

-- an end is refused: because a file that ends here holds no recording, before the choice, after another refusal, or for
-- memory
abbrev pub RefusesBareEnd : Bare → PlayFault → Type 0
RefusesBareEnd p faults.FileRefused = (file : List ℕ) → IsAtBareEnd file p → IsRefused file
RefusesBareEnd p faults.NoChoice = (s : Sound) × (p.stage ≡ stages.Open s)
RefusesBareEnd p faults.AfterFault = p.stage ≡ stages.Failed
RefusesBareEnd p faults.Memory = ⊤
RefusesBareEnd p _ = ⊥
