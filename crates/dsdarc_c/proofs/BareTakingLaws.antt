-- How many bytes a push to a player without a filter takes.
use Rattle.std.proofs.Common.{◌≡◌, ℕ, ◌≤◌, inr, List, length, take, Result, Ok, Err, IfOk, IfErr, MatchResult, sym, subst, arith}
use Rattle.std.specs.Prelude.{Vec}
use Rattle.std_heap.specs.declared.Global.{Global}
use Rattle.dsd_bits.specs.declared.sound.Sound.{Sound}
use Rattle.dsdarc_c.specs.BareCalls.{RefusesBare, RefusesBareAt, TakesBare, TakesBareAt}
use Rattle.dsdarc_c.specs.Taking.{RefusesAfter}
use Rattle.dsdarc_c.specs.declared.bare.Bare.{Bare}
use Rattle.dsdarc_c.specs.declared.bare.BareStage.{BareStage}
use Rattle.dsdarc_c.specs.declared.bare.BareStage.TheVariants as stages
use Rattle.dsdarc_c.specs.declared.fault.PlayFault.{PlayFault}

-- what a stage takes is what the push takes
pub bare_takes_ok : (p : Bare) (bytes piece : List ℕ) (stage : BareStage) (r : Result ℕ PlayFault) → length p.pending.items ≤ p.pulled → p.stage ≡ stage → piece ≡ take 65536 bytes → IfOk r (TakesBareAt p.header.items p.place stage piece) → IfOk r (TakesBare p bytes)
bare_takes_ok p bytes piece stage (Ok n) ready is cut taken = record {
  none = λ waits. absurd (omega (arith, waits, ready));
  taken = λ _. subst (λ xs. TakesBareAt p.header.items p.place p.stage xs n) cut (subst (λ s. TakesBareAt p.header.items p.place s piece n) (sym is) taken);
}
bare_takes_ok p bytes piece stage (Err e) ready is cut taken = tt

-- a refusal in a stage is one of the push
pub bare_refused_err : (p : Bare) (bytes piece : List ℕ) (stage : BareStage) (r : Result ℕ PlayFault) → p.stage ≡ stage → piece ≡ take 65536 bytes → IfErr r (RefusesBareAt p.header.items p.place stage piece) → IfErr r (RefusesBare p bytes)
bare_refused_err p bytes piece stage (Ok n) is cut refuses = tt
bare_refused_err p bytes piece stage (Err e) is cut refuses =
    subst (λ xs. RefusesBareAt p.header.items p.place p.stage xs e) cut (subst (λ s. RefusesBareAt p.header.items p.place s piece e) (sym is) refuses)

pub bare_after_err : (header : List ℕ) (place : ℕ) (piece : List ℕ) (s : Sound) (back : Vec ℕ Global) (r : Result ℕ PlayFault) → IfErr r (RefusesAfter header s back.items piece) → IfErr r (RefusesBareAt header place (stages.After s back) piece)
bare_after_err header place piece s back (Ok n) refuses = tt
bare_after_err header place piece s back (Err e) refuses = inr refuses

-- what holds of an answer, and of a refusal by what is known of it
pub either : {T F : Type 0} (A B C : Type 0) (r : Result T F) → IfOk r (λ x. A) → IfErr r (λ f. C) → (C → B) → MatchResult r (λ x. A) (λ f. B)
either A B C (Ok x) ok err f = ok
either A B C (Err e) ok err f = f err
