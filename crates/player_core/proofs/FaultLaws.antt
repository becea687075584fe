-- Which faults are true, stop the reading or come before the first write, by where they arose.
use Rattle.std.proofs.Common.{◌≡◌, ℕ, ◌<◌, ◌≤◌, inl, inr, subst, List, ◌++◌, Option, None, Some, ◌+◌, IfErr, IfSome, IsErrAnd, OnErr, OnOk, Result, Ok, Err, arith, refl}
use Rattle.dsd_bits.specs.declared.sound.Sound.{Sound}
use Rattle.form_core.specs.Steps.{map_err}
use Rattle.fir_core.specs.Decimator.{Decimator}
use Rattle.sound_core.specs.Faults.{IsBeforeWriting, IsSinkFault, IsWritingFault, StopsReading, failed_writes}
use Rattle.sound_core.specs.Files.{LeadsToSound}
use Rattle.sound_core.specs.Naming.{IsExactUnless, plain}
use Rattle.sound_core.specs.Outlines.{IsOutlineFault}
use Rattle.sound_core.specs.declared.fault.StreamFault.{StreamFault}
use Rattle.sound_core.specs.declared.fault.StreamFault.TheVariants.{FileRefused, RateNotDivided, TooLarge, ReadFailed, WriteFailed, TurnLimit, Memory}
use Rattle.sound_core.specs.declared.fault.Unread.{Unread}
use Rattle.sound_core.specs.declared.fault.Unread.TheVariants as answers
use Rattle.sound_core.proofs.FaultLaws.{by_writing}
use Rattle.wave_core.specs.Heads.{limit_of, size_in}
use Rattle.player_core.specs.Laws.{total_frames}
use Rattle.player_core.specs.Playing.{Applies}
use Rattle.player_core.specs.Ranges.{IsInside, number_of}
use Rattle.player_core.specs.Sinks.{IsPlayingFault, range_sound}
use Rattle.player_core.specs.declared.range.WaveRange.{WaveRange}
use Rattle.player_core.specs.Wave.{IsOpeningFault}
use Rattle.player_core.proofs.PlayLaws.{frames_number}

-- ---- where the file is read
pub outline_holds : (left : Option (List ℕ)) (d : Decimator) (range : WaveRange) (f : StreamFault) → IsOutlineFault left f → IfSome left (λ file. Applies d range file f)
outline_holds None d range f h = tt
outline_holds (Some xs) d range FileRefused h = inl h
outline_holds (Some xs) d range RateNotDivided h = absurd h
outline_holds (Some xs) d range TooLarge h = absurd h
outline_holds (Some xs) d range ReadFailed h = tt
outline_holds (Some xs) d range WriteFailed h = absurd h
outline_holds (Some xs) d range TurnLimit h = tt
outline_holds (Some xs) d range Memory h = tt

pub outline_later : (left : Option (List ℕ)) (f : StreamFault) → IsOutlineFault left f → IsBeforeWriting f → ⊥
outline_later left FileRefused h early = early
outline_later left RateNotDivided h early = h
outline_later left TooLarge h early = h
outline_later left ReadFailed h early = early
outline_later left WriteFailed h early = early
outline_later left TurnLimit h early = early
outline_later left Memory h early = early

pub outline_unwritten : (X : Type 0) (left : Option (List ℕ)) (f : StreamFault) → IsOutlineFault left f → failed_writes {X = X} (Err f) ≡ 0
outline_unwritten X left FileRefused h = refl
outline_unwritten X left RateNotDivided h = absurd h
outline_unwritten X left TooLarge h = absurd h
outline_unwritten X left ReadFailed h = refl
outline_unwritten X left WriteFailed h = absurd h
outline_unwritten X left TurnLimit h = refl
outline_unwritten X left Memory h = refl

-- ---- where the header is written
pub opening : (d : Decimator) (s : Sound) (range : WaveRange) → 0 < d.factor → IsInside range (total_frames d s) → (f : StreamFault) → IsOpeningFault range.head d (range_sound d s range) f → IsPlayingFault d s range f
opening d s range some inside FileRefused h = absurd h
opening d s range some inside RateNotDivided h = h
opening d s range some inside TooLarge h = (inside, h.0, subst (λ n. limit_of range.head ≤ size_in range.head s.channels d.width n) (frames_number d s (number_of range (total_frames d s)) some (omega (arith, inside.0, inside.1))) h.1)
opening d s range some inside ReadFailed h = absurd h
opening d s range some inside WriteFailed h = tt
opening d s range some inside TurnLimit h = absurd h
opening d s range some inside Memory h = tt

pub opening_holds : (d : Decimator) (prefix rest : List ℕ) (s : Sound) (range : WaveRange) → LeadsToSound prefix s → (f : StreamFault) → IsPlayingFault d s range f → Applies d range (prefix ++ rest) f
opening_holds d prefix rest s range states FileRefused h = inr (record { prefix = prefix; rest = rest; sound = s; file_is = refl; states = states; outside = h })
opening_holds d prefix rest s range states RateNotDivided h = record { prefix = prefix; rest = rest; sound = s; file_is = refl; states = states; not_divided = h }
opening_holds d prefix rest s range states TooLarge h = record { prefix = prefix; rest = rest; sound = s; file_is = refl; states = states; inside = h.0; divided = h.1; large = h.2 }
opening_holds d prefix rest s range states ReadFailed h = absurd h
opening_holds d prefix rest s range states WriteFailed h = tt
opening_holds d prefix rest s range states TurnLimit h = absurd h
opening_holds d prefix rest s range states Memory h = tt

-- ---- of a sink
pub own_goes_on : (f : StreamFault) → IsSinkFault f → StopsReading f → ⊥
own_goes_on FileRefused h stops = stops
own_goes_on RateNotDivided h stops = stops
own_goes_on TooLarge h stops = stops
own_goes_on ReadFailed h stops = h
own_goes_on WriteFailed h stops = stops
own_goes_on TurnLimit h stops = h
own_goes_on Memory h stops = stops

-- ---- where frames are written
pub writing_later : (f : StreamFault) → IsWritingFault f → IsBeforeWriting f → ⊥
writing_later f h = by_writing (λ g. IsBeforeWriting g → ⊥) (λ early. early) (λ early. early) f h

pub writing_opening : (d : Decimator) (s : Sound) (range : WaveRange) (f : StreamFault) → IsWritingFault f → IsPlayingFault d s range f
writing_opening d s range f h = by_writing (IsPlayingFault d s range) tt tt f h

pub writing_own : (f : StreamFault) → IsWritingFault f → IsSinkFault f
writing_own f h = by_writing IsSinkFault tt tt f h

pub writing_exact : (P : Type 0) (f : StreamFault) → IsWritingFault f → IsExactUnless P (answers.Stream f)
writing_exact P f h is = let same : f ≡ FileRefused = cc in absurd (subst IsWritingFault same h)

-- ---- what was counted
pub same_writes : (X Y : Type 0) (f : StreamFault) → failed_writes {X = X} (Err f) ≡ failed_writes {X = Y} (Err f)
same_writes X Y FileRefused = refl
same_writes X Y RateNotDivided = refl
same_writes X Y TooLarge = refl
same_writes X Y ReadFailed = refl
same_writes X Y WriteFailed = refl
same_writes X Y TurnLimit = refl
same_writes X Y Memory = refl

-- ---- what holds of an answer
pub fault_is : {X E : Type 0} (r : Result X E) (f : E) → IsErrAnd r (λ g. g ≡ f) → r ≡ Err f
fault_is (Ok x) f h = absurd h
fault_is (Err g) f h = rw h

pub of_err : {X E : Type 0} (r : Result X E) (P : E → Type 0) (Q : Type 0) → ((f : E) → P f → Q) → IfErr r P → OnErr r Q
of_err (Ok x) P Q on p = tt
of_err (Err f) P Q on p = on f p

pub writes_are : {X : Type 0} (r : Result X Unread) (n m : ℕ) → OnOk r (n ≡ m) → IfErr r (λ u. n ≡ m + failed_writes {X = Unit {0}} (Err (plain u))) → n ≡ m + failed_writes (map_err plain r)
writes_are (Ok x) n m same h = omega (arith, same)
writes_are {X} (Err u) n m same h = omega (arith, h, same_writes X (Unit {0}) (plain u))
