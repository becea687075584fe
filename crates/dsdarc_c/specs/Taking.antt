-- How many bytes a push takes, and why one is refused.
use Rattle.std.specs.Prelude.{◌≡◌, ◌≢◌, ◌⊎◌, ◌<◌, ◌≤◌, ◌+◌, ◌-◌, ◌%◌, ◌^◌, ◌++◌, ℕ, List, length, min, take, ⊤}
use Rattle.dsd_bits.specs.declared.sound.Sound.{Sound}
use Rattle.fir_core.specs.Decimator.{Decimator}
use Rattle.sound_core.specs.Files.{IsRefused, LeadsToSound}
use Rattle.dsdarc_c.specs.Pushing.{IsInHeader, IsUnstated}
use Rattle.dsdarc_c.specs.Whole.{still_kept}
use Rattle.dsdarc_c.specs.declared.fault.PlayFault.{PlayFault}
use Rattle.dsdarc_c.specs.declared.fault.PlayFault.TheVariants as faults
use Rattle.dsdarc_c.specs.declared.pushing.Pushing.{Pushing}
use Rattle.dsdarc_c.specs.declared.pushing.Stage.{Stage}
use Rattle.dsdarc_c.specs.declared.pushing.Stage.TheVariants as stages

-- n bytes are taken where the sound that these bytes state starts after n more bytes than the header, and can be played
pub record TakesUpToSound (d : Decimator) (header bytes : List ℕ) (n : ℕ) (s : Sound) : Type 0 where
  pub states : LeadsToSound bytes s
  pub divided : s.rate % d.factor ≡ 0
  pub start_low : s.start ≤ 2 ^ 28
  pub size_low : s.size ≤ 2 ^ 61
  pub up_to : length header + n ≡ s.start

-- n bytes of a piece are taken that don't state the sound yet: all of them, and with the header at most 2^28
abbrev pub TakesUnstated : List ℕ → List ℕ → ℕ → Type 0
TakesUnstated header piece n = (n ≡ length piece) × IsUnstated (header ++ piece) × (length (header ++ piece) ≤ 2 ^ 28)

-- n bytes of a piece are taken before the sound: all of them if they don't state it yet, otherwise those up to its
-- start
abbrev pub TakesHeader : Decimator → List ℕ → List ℕ → ℕ → Type 0
TakesHeader d header piece n =
    TakesUnstated header piece n ⊎ ((s : Sound) × TakesUpToSound d header (header ++ piece) n s)

-- how many bytes are kept after a sound with this piece: those before it, and of the piece those in the DSDIFF form
abbrev pub kept_with : List ℕ → Sound → List ℕ → List ℕ → ℕ
kept_with header s back piece = length back + min (length piece) (still_kept header s (length back))

-- n bytes of a piece are taken after a sound: all of them, and at most 2^28 bytes are kept
abbrev pub TakesAfter : List ℕ → Sound → List ℕ → List ℕ → ℕ → Type 0
TakesAfter header s back piece n = (n ≡ length piece) × (kept_with header s back piece ≤ 2 ^ 28)

-- n bytes of a piece are taken: before the sound at most up to its start, in it at most up to its end, after it all
abbrev pub TakesAt : Decimator → List ℕ → ℕ → Stage → List ℕ → ℕ → Type 0
TakesAt d header place (stages.Header walked) piece n = TakesHeader d header piece n
TakesAt d header place (stages.Sound s q left) piece n = n ≡ min (length piece) (s.start + s.size - place)
TakesAt d header place (stages.After s back) piece n = TakesAfter header s back.items piece n
TakesAt d header place stages.Failed piece n = ⊥

-- a push takes n of these bytes: none while frames wait, and otherwise of the first 65,536 what its stage takes, and
-- some if there are some
pub record Takes (p : Pushing) (bytes : List ℕ) (n : ℕ) : Type 0 where
  pub none : p.pulled < length p.pending.items → n ≡ 0
  pub taken : length p.pending.items ≤ p.pulled → TakesAt p.taps p.header.items p.place p.stage (take 65536 bytes) n
  pub some : length p.pending.items ≤ p.pulled → 1 ≤ length bytes → 1 ≤ n

-- these bytes state no sound yet and are more than 2^28, or state one that starts after more than 2^28 bytes and that
-- this filter can play
abbrev pub HoldsTooMuch : Decimator → List ℕ → Type 0
HoldsTooMuch d bytes =
    (IsUnstated bytes × (2 ^ 28 < length bytes)) ⊎ ((s : Sound) × LeadsToSound bytes s × (s.rate % d.factor ≡ 0) × (2 ^ 28 < s.start))

-- the header is refused with these bytes: no recording begins so, it is too much to be held, or its sound can't be
-- played by this filter or has more than 2^61 bytes
abbrev pub RefusesHeader : Decimator → List ℕ → PlayFault → Type 0
RefusesHeader d bytes faults.FileRefused = (rest : List ℕ) → IsRefused (bytes ++ rest)
RefusesHeader d bytes faults.RateNotDivided = (s : Sound) × LeadsToSound bytes s × (s.rate % d.factor ≢ 0)
RefusesHeader d bytes faults.TooLong = (s : Sound) × LeadsToSound bytes s × (s.rate % d.factor ≡ 0) × (2 ^ 61 < s.size)
RefusesHeader d bytes faults.TooMuchHeld = HoldsTooMuch d bytes
RefusesHeader d bytes faults.Memory = ⊤
RefusesHeader d bytes _ = ⊥

-- a push is refused for what the header states with the first 65,536 of these bytes
abbrev pub RefusesByHeader : Pushing → List ℕ → PlayFault → Type 0
RefusesByHeader p bytes fault =
    IsInHeader p.stage × RefusesHeader p.taps (p.header.items ++ take 65536 bytes) fault

-- a piece after a sound is refused: because more than 2^28 bytes would be kept, or for memory
abbrev pub RefusesAfter : List ℕ → Sound → List ℕ → List ℕ → PlayFault → Type 0
RefusesAfter header s back piece faults.TooMuchHeld = 2 ^ 28 < kept_with header s back piece
RefusesAfter header s back piece faults.Memory = ⊤
RefusesAfter header s back piece _ = ⊥

-- a push is refused for what would be kept after the sound with the first 65,536 of these bytes
abbrev pub RefusesByTail : Pushing → List ℕ → PlayFault → Type 0
RefusesByTail p bytes fault =
    (s : Sound) × (back : _) × (p.stage ≡ stages.After s back) × RefusesAfter p.header.items s back.items (take 65536 bytes) fault

-- a push is refused: after another refusal, after 2^62 bytes, for what the header states with these bytes, because too
-- much of a header or a tail would be held, or for memory
abbrev pub RefusesPush : Pushing → List ℕ → PlayFault → Type 0
RefusesPush p bytes faults.FileRefused = RefusesByHeader p bytes faults.FileRefused
RefusesPush p bytes faults.RateNotDivided = RefusesByHeader p bytes faults.RateNotDivided
RefusesPush p bytes faults.TooLong = (2 ^ 62 < p.place) ⊎ RefusesByHeader p bytes faults.TooLong
RefusesPush p bytes faults.TooMuchHeld = RefusesByHeader p bytes faults.TooMuchHeld ⊎ RefusesByTail p bytes faults.TooMuchHeld
RefusesPush p bytes faults.AfterFault = p.stage ≡ stages.Failed
RefusesPush p bytes faults.Memory = ⊤
RefusesPush p bytes _ = ⊥
