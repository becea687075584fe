-- What an exit says, and what it says nothing of.
use Rattle.std.specs.Prelude.{if◌then◌else◌, ◌↔◌}
use Rattle.std.proofs.Common.{◌≡◌, ℕ, ◌+◌, ◌-◌, ◌*◌, ◌^◌, ◌≤◌, ◌∙◌, Bool, true, false, Some, Ok, Err, IsErrOf, ap, arith, length, refl, subst, sym}
use native.Mathlib.Nat.{ℕ_set}
use native.Mathlib.Bridge.{le_prop}
use Rattle.chunk_core.specs.FusedOutlets.{failed_parts, fused_failed, fused_outlet}
use Rattle.chunk_core.specs.Outlets.{outlet_failures}
use Rattle.chunk_core.specs.declared.fused_outlet.FusedFault.{FusedFault}
use Rattle.chunk_core.specs.declared.fused_outlet.FusedFault.TheVariants.{Device, Failed}
use Rattle.chunk_core.specs.declared.fused_outlet.FusedOutlet.{FusedOutlet}
use Rattle.cert_core.specs.Counting.{IsCounted}
use Rattle.cert_core.specs.Readers.{IsWell}
use Rattle.cert_core.specs.declared.verdict.CertReason.{CertReason}
use Rattle.cert_core.specs.declared.verdict.CheckFault.{CheckFault}
use Rattle.cert_core.specs.declared.writer.CertWriter.{CertWriter}

pub true_or_false : {Q : Type 0} (b : Bool) → b ≡ true → b ≡ false → Q
true_or_false b is is_not = absurd cc

-- a result that is no fault is none of them
pub not_refused : {X E Q : Type 0} (x : X) (e : E) → IsErrOf (Ok x) e → Q
not_refused x e is = absurd cc

pub failed_not_device : {X Q : Type 0} → IsErrOf {T = X} (Err Failed) Device → Q
failed_not_device is = absurd (let none : 0 ≡ 1 = ap failed_parts is in omega (arith, none))

-- a writer that had failed would have returned that
pub not_failed : {X : Type 0} (b : Bool) (x : X) → (IsErrOf (Ok x) Failed ↔ (b ≡ true)) → b ≡ false
not_failed true x known = not_refused x Failed (known.1 refl)
not_failed false x known = refl

pub not_failed_yet : {X : Type 0} (b : Bool) → (IsErrOf {T = X} (Err Device) Failed ↔ (b ≡ true)) → b ≡ false
not_failed_yet true known = failed_not_device (sym (known.1 refl))
not_failed_yet false known = refl

-- ---- the failures of an outlet stay counted
still_counted : {W : Type 0} (n : ℕ) (old : FusedOutlet W) (b : Bool) → fused_failed old ≡ b → IsCounted n old → outlet_failures (fused_outlet old) ≡ n + (if b then 1 else 0)
still_counted n old b is counted = subst (λ a. outlet_failures (fused_outlet old) ≡ n + (if a then 1 else 0)) is counted

stated_counted : {W : Type 0} (n : ℕ) (new : FusedOutlet W) (b : Bool) → fused_failed new ≡ b → outlet_failures (fused_outlet new) ≡ n + (if b then 1 else 0) → IsCounted n new
stated_counted n new b is counted = subst (λ a. outlet_failures (fused_outlet new) ≡ n + (if a then 1 else 0)) (sym is) counted

pub counted_ok : {W X : Type 0} (n : ℕ) (old new : FusedOutlet W) (x : X) → IsCounted n old → outlet_failures (fused_outlet new) ≡ outlet_failures (fused_outlet old) + 0 → fused_failed new ≡ false → (IsErrOf (Ok x) Failed ↔ (fused_failed old ≡ true)) → IsCounted n new
counted_ok n old new x counted same fine known = stated_counted n new false fine (omega (arith, same, still_counted n old false (not_failed (fused_failed old) x known) counted))

pub counted_err : {W X : Type 0} (n : ℕ) (old new : FusedOutlet W) (f : FusedFault) → IsCounted n old → outlet_failures (fused_outlet new) ≡ outlet_failures (fused_outlet old) + failed_parts {T = X} (Err f) → fused_failed new ≡ true → (IsErrOf {T = X} (Err f) Failed ↔ (fused_failed old ≡ true)) → IsCounted n new
counted_err n old new Device counted more failed known = stated_counted n new true failed (omega (arith, more, still_counted n old false (not_failed_yet (fused_failed old) known) counted))
counted_err n old new Failed counted same failed known = stated_counted n new true failed (omega (arith, same, still_counted n old true (known.0 refl) counted))

-- ---- answers of a reader
pub not_well : {Q : Type 0} (reason : CertReason) → IsWell (Ok (Some reason)) → Q
not_well reason is = absurd cc

pub fault_not_well : {Q : Type 0} (f : CheckFault) → IsWell (Err f) → Q
fault_not_well f is = absurd cc

-- a writer whose outlet is as it was
pub outlet_back : {W : Type 0} (old : CertWriter W) (new : FusedOutlet W) (few : old.weights ≤ 12) (room : length old.buffer.items ≡ 17 + 8 * 2 ^ (old.weights - 1)) (counted : IsCounted old.failures new) → new ≡ old.outlet
    → record old { outlet = new; few = few; room = room; counted = counted } ≡ old
outlet_back old new few room counted same =
    let one_few : IsProp (old.weights ≤ 12) = hlevel le_prop in
    let one_room : IsProp (length old.buffer.items ≡ 17 + 8 * 2 ^ (old.weights - 1)) = hlevel ℕ_set in
    let one_counted : IsProp (IsCounted old.failures old.outlet) = hlevel ℕ_set in
    subst (λ o. (k : IsCounted old.failures o) → record old { outlet = o; few = few; room = room; counted = k } ≡ old) (sym same)
    (λ k. ap (λ x. record old { few = x; room = room; counted = k }) (one_few few old.few) ∙ ap (λ x. record old { room = x; counted = k }) (one_room room old.room) ∙ ap (λ x. record old { counted = x }) (one_counted k old.counted)) counted
