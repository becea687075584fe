-- What holds of each fault of a kind; faults of a stage are faults of the whole.
use Rattle.std.proofs.Common.{◌≡◌, ◌≢◌, ◌<◌, ℕ, inl, List, Option, None, Some, Result, Ok, Err, IfErr, IsErrAnd, IsErrOf, refl, subst}
use Rattle.sound_core.specs.Faults.{IsReadingFault, IsWritingFault, failed_reads}
use Rattle.sound_core.specs.Files.{IsHeaderFault}
use Rattle.sound_core.specs.Outlines.{IsOutlineFault, IsTagFault}
use Rattle.sound_core.specs.Readers.{IsPassFault}
use Rattle.sound_core.specs.declared.fault.StreamFault.{StreamFault}
use Rattle.sound_core.specs.declared.fault.StreamFault.TheVariants.{FileRefused, RateNotDivided, TooLarge, ReadFailed, WriteFailed, TurnLimit, Memory}

-- ---- what is returned for a fault
pub fault_is : {X : Type 0} (r : Result X StreamFault) (f : StreamFault) → IsErrAnd r (λ g. g ≡ f) → r ≡ Err f
fault_is (Ok x) f h = absurd h
fault_is (Err g) f h = rw h

-- ---- a fault of reading, or of writing, is one of a few
pub by_reading : (P : StreamFault → Type 0) → P ReadFailed → P TurnLimit → P Memory → (f : StreamFault) → IsReadingFault f → P f
by_reading P failed turns memory FileRefused h = absurd h
by_reading P failed turns memory RateNotDivided h = absurd h
by_reading P failed turns memory TooLarge h = absurd h
by_reading P failed turns memory ReadFailed h = failed
by_reading P failed turns memory WriteFailed h = absurd h
by_reading P failed turns memory TurnLimit h = turns
by_reading P failed turns memory Memory h = memory

pub by_writing : (P : StreamFault → Type 0) → P WriteFailed → P Memory → (f : StreamFault) → IsWritingFault f → P f
by_writing P failed memory FileRefused h = absurd h
by_writing P failed memory RateNotDivided h = absurd h
by_writing P failed memory TooLarge h = absurd h
by_writing P failed memory ReadFailed h = absurd h
by_writing P failed memory WriteFailed h = failed
by_writing P failed memory TurnLimit h = absurd h
by_writing P failed memory Memory h = memory

-- nothing was read where the writing failed
pub unread : {X : Type 0} (r : Result X StreamFault) → IfErr r IsWritingFault → failed_reads r ≡ 0
unread (Ok x) h = refl
unread {X} (Err f) h = by_writing (λ g. failed_reads {X = X} (Err g) ≡ 0) refl refl f h

-- ---- running out of memory is not a read too many
pub memory_no_turn : {X Q : Type 0} → IsErrOf {T = X} (Err Memory) TurnLimit → Q
memory_no_turn turn = absurd (subst (λ r. IfErr r IsWritingFault) turn tt)

-- ---- stages
pub reading_in_prefix : (left : Option (List ℕ)) (f : StreamFault) → IsReadingFault f → IsHeaderFault left f
reading_in_prefix left f h = by_reading (IsHeaderFault left) tt tt tt f h

pub reading_in_pass : (left : Option (List ℕ)) (n : ℕ) (ahead : List ℕ) (f : StreamFault) → IsReadingFault f → IsPassFault left n ahead f
reading_in_pass left n ahead f h = by_reading (IsPassFault left n ahead) tt tt tt f h

pub reading_in_tag : (left : Option (List ℕ)) (place stop : ℕ) (back : List ℕ) (f : StreamFault) → IsReadingFault f → IsTagFault left place stop back f
reading_in_tag left place stop back f h = by_reading (IsTagFault left place stop back) tt tt tt f h

-- it would be in the sound
pub early_tag : (left : Option (List ℕ)) (place stop : ℕ) (back : List ℕ) → place ≢ 0 → place < stop → IsTagFault left place stop back FileRefused
early_tag None place stop back some early = tt
early_tag (Some xs) place stop back some early = (some, inl early)

pub prefix_in_outline : (left : Option (List ℕ)) (f : StreamFault) → IsHeaderFault left f → IsOutlineFault left f
prefix_in_outline left FileRefused h = h
prefix_in_outline left RateNotDivided h = absurd h
prefix_in_outline left TooLarge h = absurd h
prefix_in_outline left ReadFailed h = tt
prefix_in_outline left WriteFailed h = absurd h
prefix_in_outline left TurnLimit h = tt
prefix_in_outline left Memory h = tt

-- both hold of an answer
pub both : {X : Type 0} (r : Result X StreamFault) (P Q F : StreamFault → Type 0) → ((f : StreamFault) → P f → Q f → F f) → IfErr r P → IfErr r Q → IfErr r F
both (Ok x) P Q F on p q = tt
both (Err f) P Q F on p q = on f p q

-- a fault of reading refuses no file
pub reading_unnamed : {P : Type 0} (f : StreamFault) → IsReadingFault f → f ≡ FileRefused → P
reading_unnamed {P} f h is = absurd (subst IsReadingFault is h)

pub memory_unnamed : {P : Type 0} → Memory ≡ FileRefused → P
memory_unnamed is = reading_unnamed Memory tt is
