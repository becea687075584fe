-- A reader that goes on: it stays the same, and what was counted adds up.
use Rattle.std.proofs.Common.{◌≡◌, ◌+◌, ◌≤◌, Result, Ok, Err, IsErrOf, arith, refl, ap, subst, ◌∙◌}
use Rattle.chunk_core.specs.Inlets.{inlet_failures, inlet_reads}
use Rattle.sound_core.specs.Faults.{failed_reads}
use Rattle.sound_core.proofs.FaultLaws.{memory_no_turn}
use Rattle.sound_core.specs.Readers.{Counts, IsReading, IsSame}
use Rattle.sound_core.specs.declared.fault.StreamFault.{StreamFault}
use Rattle.sound_core.specs.declared.fault.StreamFault.TheVariants.{FileRefused, RateNotDivided, TooLarge, ReadFailed, WriteFailed, TurnLimit, Memory}
use Rattle.sound_core.specs.declared.reader.SoundReader.{SoundReader}

pub same_self : {R : Type 0} (a : SoundReader R) → IsSame a a
same_self a = record { reference = refl; given = refl; limit = refl }

pub same_on : {R : Type 0} (a b c : SoundReader R) → IsSame a b → IsSame b c → IsSame a c
same_on a b c p q = record { reference = q.reference ∙ p.reference; given = q.given ∙ p.given; limit = q.limit ∙ p.limit }

-- a fault counts the same, whatever else could have been returned
same_reads : (X Y : Type 0) (f : StreamFault) → failed_reads {X = X} (Err f) ≡ failed_reads {X = Y} (Err f)
same_reads X Y FileRefused = refl
same_reads X Y RateNotDivided = refl
same_reads X Y TooLarge = refl
same_reads X Y ReadFailed = refl
same_reads X Y WriteFailed = refl
same_reads X Y TurnLimit = refl
same_reads X Y Memory = refl

pub counts_later : {R X Y : Type 0} (a m b : SoundReader R) (f : StreamFault) → m.limit ≡ a.limit → inlet_failures m.inlet.now ≡ inlet_failures a.inlet.now → Counts {X = X} m b (Err f) → Counts {X = Y} a b (Err f)
counts_later {R} {X} {Y} a m b f limit same p = record {
  failures = p.failures ∙ ap (λ n. n + failed_reads {X = X} (Err f)) same ∙ ap (λ n. inlet_failures a.inlet.now + n) (same_reads X Y f);
  turns = λ turn. p.turns (let is : f ≡ TurnLimit = cc in ap (λ (g : StreamFault). (let r : Result X StreamFault = Err g in r)) is) ∙ limit;
  most = subst (λ n. inlet_reads b.inlet.now ≤ n) limit p.most;
}

pub same_counts : {R X Y : Type 0} (a b : SoundReader R) (f : StreamFault) → Counts {X = X} a b (Err f) → Counts {X = Y} a b (Err f)
same_counts {R} {X} {Y} a b f p = counts_later {X = X} {Y = Y} a a b f refl refl p

-- what was counted before is all that was
pub counts_before : {R X Y : Type 0} (a m b : SoundReader R) (x : X) (r : Result Y StreamFault) → failed_reads r ≡ 0 → (IsErrOf r TurnLimit → ⊥) → m.limit ≡ a.limit → inlet_failures m.inlet.now ≡ inlet_failures a.inlet.now → Counts m b (Ok x) → Counts a b r
counts_before {R} {X} a m b x r none not_turn limit same p = record { failures = omega (arith, p.failures, same, none); turns = λ turn. absurd (not_turn turn); most = rw (← limit) p.most }

pub counts_ok : {R X Y : Type 0} (a m b : SoundReader R) (x : X) (y : Y) → m.limit ≡ a.limit → inlet_failures m.inlet.now ≡ inlet_failures a.inlet.now → Counts m b (Ok x) → Counts a b (Ok y)
counts_ok a m b x y limit same p = counts_before a m b x (Ok y) refl (λ turn. cc) limit same p

pub counts_refused : {R X Y : Type 0} (a m b : SoundReader R) (x : X) → m.limit ≡ a.limit → inlet_failures m.inlet.now ≡ inlet_failures a.inlet.now → Counts m b (Ok x) → Counts {X = Y} a b (Err FileRefused)
counts_refused a m b x limit same p = counts_before a m b x (Err FileRefused) refl (λ turn. cc) limit same p

-- nothing more was read
pub counts_still : {R X Y : Type 0} (a b c : SoundReader R) (x : X) (r : Result Y StreamFault) → failed_reads r ≡ 0 → (IsErrOf r TurnLimit → ⊥) → c.inlet.now ≡ b.inlet.now → Counts a b (Ok x) → Counts a c r
counts_still a b c x r none not_turn same p =
    let k = counts_before a a b x r none not_turn refl refl p in
    record { failures = ap inlet_failures same ∙ k.failures; turns = λ turn. ap inlet_reads same ∙ k.turns turn; most = omega (arith, ap inlet_reads same, k.most) }

pub counts_memory : {R X Y : Type 0} (a b c : SoundReader R) (x : X) → c.inlet.now ≡ b.inlet.now → Counts a b (Ok x) → Counts {X = Y} a c (Err Memory)
counts_memory a b c x same p = counts_still a b c x (Err Memory) refl (λ turn. memory_no_turn turn) same p

pub counts_want : {R X Y : Type 0} (a m b : SoundReader R) (x : X) → m.limit ≡ a.limit → inlet_failures m.inlet.now ≡ inlet_failures a.inlet.now → Counts m b (Ok x) → Counts {X = Y} a b (Err Memory)
counts_want a m b x limit same p = counts_before a m b x (Err Memory) refl (λ turn. memory_no_turn turn) limit same p

pub counts_kept : {R X Y : Type 0} (a b c : SoundReader R) (x : X) (y : Y) → c.inlet.now ≡ b.inlet.now → Counts a b (Ok x) → Counts a c (Ok y)
counts_kept a b c x y same p = counts_still a b c x (Ok y) refl (λ turn. cc) same p

-- no read failed so far
pub counts_so_far : {R X : Type 0} (a b : SoundReader R) (x : X) → IsReading b → IsSame a b → inlet_failures b.inlet.now ≡ inlet_failures a.inlet.now → Counts a b (Ok x)
counts_so_far a b x reading same none = record { failures = omega (arith, none); turns = λ turn. absurd cc; most = omega (arith, reading.budget.reads, same.limit) }

-- no read was asked for
pub counts_none_refused : {R X : Type 0} (a b : SoundReader R) → inlet_failures b.inlet.now ≡ inlet_failures a.inlet.now → inlet_reads b.inlet.now ≤ a.limit → Counts {X = X} a b (Err FileRefused)
counts_none_refused a b none most = record { failures = omega (arith, none); turns = λ turn. absurd cc; most = most }
