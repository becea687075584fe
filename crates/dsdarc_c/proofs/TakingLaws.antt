-- How many bytes a push takes.
use Rattle.std.proofs.Common.{◌≡◌, ℕ, ◌+◌, ◌-◌, ◌<◌, ◌≤◌, inl, inr, min, ◌++◌, List, length, take, Result, Ok, Err, IfOk, IfErr, refl, sym, subst, ap, ◌∙◌, arith}
use Rattle.std.proofs.lemmas.List.{take_min}
use Rattle.std.specs.Prelude.{Vec}
use Rattle.std_heap.specs.declared.Global.{Global}
use Rattle.dsd_bits.specs.declared.sound.Sound.{Sound}
use Rattle.dsdarc_c.specs.Pushing.{IsInHeader}
use Rattle.dsdarc_c.specs.Taking.{RefusesAfter, RefusesHeader, RefusesPush, Takes, TakesAfter, TakesAt}
use Rattle.dsdarc_c.specs.declared.fault.PlayFault.{PlayFault}
use Rattle.dsdarc_c.specs.declared.fault.PlayFault.TheVariants as faults
use Rattle.dsdarc_c.specs.declared.pushing.Pushing.{Pushing}
use Rattle.dsdarc_c.specs.declared.pushing.Stage.{Stage}
use Rattle.dsdarc_c.specs.declared.pushing.Stage.TheVariants as stages

-- what a stage takes is what the push takes
pub takes_at : (p : Pushing) (bytes piece : List ℕ) (stage : Stage) (n : ℕ) → length p.pending.items ≤ p.pulled → p.stage ≡ stage → piece ≡ take 65536 bytes → TakesAt p.taps p.header.items p.place stage piece n → (1 ≤ length bytes → 1 ≤ n) → Takes p bytes n
takes_at p bytes piece stage n ready is cut taken some = record {
  none = λ waits. absurd (omega (arith, waits, ready));
  taken = λ _. subst (λ xs. TakesAt p.taps p.header.items p.place p.stage xs n) cut (subst (λ s. TakesAt p.taps p.header.items p.place s piece n) (sym is) taken);
  some = λ _. some;
}

-- the same of an answer
pub takes_ok : (p : Pushing) (bytes piece : List ℕ) (stage : Stage) (r : Result ℕ PlayFault) → length p.pending.items ≤ p.pulled → p.stage ≡ stage → piece ≡ take 65536 bytes → IfOk r (TakesAt p.taps p.header.items p.place stage piece) → (1 ≤ length bytes → IfOk r (λ n. 1 ≤ n)) → IfOk r (Takes p bytes)
takes_ok p bytes piece stage (Ok n) ready is cut taken some = takes_at p bytes piece stage n ready is cut taken some
takes_ok p bytes piece stage (Err e) ready is cut taken some = tt

-- a refusal of the header is one of the push
pub refuses_header : (p : Pushing) (bytes piece : List ℕ) (fault : PlayFault) → IsInHeader p.stage → piece ≡ take 65536 bytes → RefusesHeader p.taps (p.header.items ++ piece) fault → RefusesPush p bytes fault
refuses_header p bytes piece fault is cut refuses = by fault (subst (λ xs. RefusesHeader p.taps (p.header.items ++ xs) fault) cut refuses)
  where
    by : (f : PlayFault) → RefusesHeader p.taps (p.header.items ++ take 65536 bytes) f → RefusesPush p bytes f
    by faults.FileRefused refused = (is, refused)
    by faults.RateNotDivided refused = (is, refused)
    by faults.TooLong refused = inr (is, refused)
    by faults.TooMuchHeld refused = inl (is, refused)
    by faults.AfterFault refused = absurd refused
    by faults.NotYet refused = absurd refused
    by faults.PastEnd refused = absurd refused
    by faults.NoChoice refused = absurd refused
    by faults.Chosen refused = absurd refused
    by faults.NotJoined refused = absurd refused
    by faults.NoSeek refused = absurd refused
    by faults.Memory refused = tt

pub refused_err : (p : Pushing) (bytes piece : List ℕ) (r : Result ℕ PlayFault) → IsInHeader p.stage → piece ≡ take 65536 bytes → IfErr r (RefusesHeader p.taps (p.header.items ++ piece)) → IfErr r (RefusesPush p bytes)
refused_err p bytes piece (Ok n) is cut refuses = tt
refused_err p bytes piece (Err e) is cut refuses = refuses_header p bytes piece e is cut refuses

-- a refusal after the sound is one of the push
pub refuses_after : (p : Pushing) (bytes piece : List ℕ) (s : Sound) (back : Vec ℕ Global) (fault : PlayFault) → p.stage ≡ stages.After s back → piece ≡ take 65536 bytes → RefusesAfter p.header.items s back.items piece fault → RefusesPush p bytes fault
refuses_after p bytes piece s back fault is cut refuses = by fault (subst (λ xs. RefusesAfter p.header.items s back.items xs fault) cut refuses)
  where
    by : (f : PlayFault) → RefusesAfter p.header.items s back.items (take 65536 bytes) f → RefusesPush p bytes f
    by faults.TooMuchHeld refused = inr (s, back, is, refused)
    by faults.Memory refused = tt
    by faults.FileRefused refused = absurd refused
    by faults.RateNotDivided refused = absurd refused
    by faults.TooLong refused = absurd refused
    by faults.AfterFault refused = absurd refused
    by faults.NotYet refused = absurd refused
    by faults.PastEnd refused = absurd refused
    by faults.NoChoice refused = absurd refused
    by faults.Chosen refused = absurd refused
    by faults.NotJoined refused = absurd refused
    by faults.NoSeek refused = absurd refused

pub after_err : (p : Pushing) (bytes piece : List ℕ) (s : Sound) (back : Vec ℕ Global) (r : Result ℕ PlayFault) → p.stage ≡ stages.After s back → piece ≡ take 65536 bytes → IfErr r (RefusesAfter p.header.items s back.items piece) → IfErr r (RefusesPush p bytes)
after_err p bytes piece s back (Ok n) is cut refuses = tt
after_err p bytes piece s back (Err e) is cut refuses = refuses_after p bytes piece s back e is cut refuses

-- out of memory may come at any time
pub memory_err : (p : Pushing) (bytes : List ℕ) (r : Result ℕ PlayFault) → IfErr r (λ fault. fault ≡ faults.Memory) → IfErr r (RefusesPush p bytes)
memory_err p bytes (Ok n) memory = tt
memory_err p bytes (Err e) memory = subst (RefusesPush p bytes) (sym memory) tt

-- ---- in the sound and after it
-- what is taken of the sound is what is left of it
pub sound_ok : (r : Result ℕ PlayFault) (k left end place : ℕ) → place + left ≡ end → IfOk r (λ n. n ≡ min k left) → IfOk r (λ n. n ≡ min k (end - place))
sound_ok (Ok n) k left end place all is = omega (arith, all, is)
sound_ok (Err e) k left end place all is = tt

pub some_of_sound : (r : Result ℕ PlayFault) (k left : ℕ) → 1 ≤ left → 1 ≤ k → IfOk r (λ n. n ≡ min k left) → IfOk r (λ n. 1 ≤ n)
some_of_sound (Ok n) k left some more is = omega (arith, some, more, is)
some_of_sound (Err e) k left some more is = tt

pub some_after : (header back piece : List ℕ) (s : Sound) (r : Result ℕ PlayFault) → 1 ≤ length piece → IfOk r (TakesAfter header s back piece) → IfOk r (λ n. 1 ≤ n)
some_after header back piece s (Ok n) more is = omega (arith, more, is.0)
some_after header back piece s (Err e) more is = tt

-- the first 65,536 bytes
pub cut_is : (bytes : List ℕ) (m : ℕ) → m ≡ min (length bytes) 65536 → take m bytes ≡ take 65536 bytes
cut_is bytes m is = let same : m ≡ min 65536 (length bytes) = omega (arith, is) in ap (λ k. take k bytes) same ∙ take_min 65536 bytes

-- ---- where nothing is taken
pub takes_none : (p : Pushing) (bytes : List ℕ) → p.pulled < length p.pending.items → Takes p bytes 0
takes_none p bytes waits = record { none = λ _. refl; taken = λ ready. absurd (omega (arith, waits, ready)); some = λ ready more. absurd (omega (arith, waits, ready)) }
