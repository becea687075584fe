-- What the statuses of the exported calls say: their numbers are those of `dsdarc.h`.
use Rattle.std.specs.Prelude.{◌≡◌, ◌⊎◌, ℕ}
use Rattle.dsdarc_c.specs.declared.fault.PlayFault.{PlayFault}
use Rattle.dsdarc_c.specs.declared.fault.PlayFault.TheVariants as faults

-- the status of a fault
abbrev pub status_of : PlayFault → ℕ
status_of faults.Memory = 3
status_of faults.AfterFault = 4
status_of faults.NotYet = 5
status_of faults.PastEnd = 6
status_of faults.FileRefused = 7
status_of faults.RateNotDivided = 8
status_of faults.TooLong = 9
status_of faults.TooMuchHeld = 20
status_of faults.NoChoice = 22
status_of faults.Chosen = 23
status_of faults.NotJoined = 25
status_of faults.NoSeek = 26

-- the status is 0 and this is done, or it is that of a fault for which the call is refused
abbrev pub StatusMeans : Type 0 → (PlayFault → Type 0) → ℕ → Type 0
StatusMeans Done Refuses status = ((status ≡ 0) × Done) ⊎ ((fault : PlayFault) × (status ≡ status_of fault) × Refuses fault)
