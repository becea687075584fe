-- What holds of an answer.
use Rattle.std.proofs.Common.{◌≡◌, ℕ, ◌+◌, IfErr, IsErrAnd, OnErr, OnOk, Result, Ok, Err, refl, subst, arith}
use Rattle.form_core.specs.Steps.{map_err}
use Rattle.sound_core.specs.Faults.{IsBeforeWriting, IsWritingFault, failed_reads, failed_writes}
use Rattle.sound_core.specs.Naming.{IsExact, IsExactUnless, plain}
use Rattle.sound_core.specs.declared.fault.StreamFault.{StreamFault}
use Rattle.sound_core.specs.declared.fault.StreamFault.TheVariants.{FileRefused, RateNotDivided, TooLarge, ReadFailed, WriteFailed, TurnLimit, Memory}
use Rattle.sound_core.specs.declared.fault.Unread.{Unread}
use Rattle.sound_core.specs.declared.fault.Unread.TheVariants as answers
use Rattle.sound_core.proofs.FaultLaws.{by_writing}

pub fault_is : {X E : Type 0} (r : Result X E) (f : E) → IsErrAnd r (λ g. g ≡ f) → r ≡ Err f
fault_is (Ok x) f h = absurd h
fault_is (Err g) f h = rw h

pub of_err : {X E : Type 0} (r : Result X E) (P : E → Type 0) (Q : Type 0) → ((f : E) → P f → Q) → IfErr r P → OnErr r Q
of_err (Ok x) P Q on p = tt
of_err (Err f) P Q on p = on f p

-- a file that is never refused by the sink alone is refused with its first fault
pub never_lacks : {P : Type 0} (u : Unread) → (P → ⊥) → IsExactUnless P u → IsExact u
never_lacks (answers.Refused e) never h = tt
never_lacks (answers.Stream f) never h = λ same. never (h (rw same refl))

pub writing_exact : (f : StreamFault) → IsWritingFault f → IsExact (answers.Stream f)
writing_exact f h = λ same. subst IsWritingFault same h

-- a fault of writing comes after the first write
pub not_before : {P : Type 0} (f : StreamFault) → IsWritingFault f → IsBeforeWriting f → P
not_before {P} f h = by_writing (λ e. IsBeforeWriting e → P) (λ early. absurd early) (λ early. absurd early) f h

-- what is written counts no failed read
pub no_reads : (f : StreamFault) → IsWritingFault f → failed_reads {X = ℕ} (Err f) ≡ 0
no_reads f fault = by_writing (λ e. failed_reads {X = ℕ} (Err e) ≡ 0) refl refl f fault

pub same_writes : (X Y : Type 0) (f : StreamFault) → failed_writes {X = X} (Err f) ≡ failed_writes {X = Y} (Err f)
same_writes X Y FileRefused = refl
same_writes X Y RateNotDivided = refl
same_writes X Y TooLarge = refl
same_writes X Y ReadFailed = refl
same_writes X Y WriteFailed = refl
same_writes X Y TurnLimit = refl
same_writes X Y Memory = refl

pub writes_are : {X : Type 0} (r : Result X Unread) (n m : ℕ) → OnOk r (n ≡ m) → IfErr r (λ u. n ≡ m + failed_writes {X = Unit {0}} (Err (plain u))) → n ≡ m + failed_writes (map_err plain r)
writes_are (Ok x) n m same h = omega (arith, same)
writes_are {X} (Err u) n m same h = omega (arith, h, same_writes X (Unit {0}) (plain u))
