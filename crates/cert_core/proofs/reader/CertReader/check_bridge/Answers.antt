use Rattle.std.proofs.Common.{◌≡◌, ◌∙◌, Err, ℕ, arith, refl, subst}
use Rattle.chunk_core.specs.Inlets.{inlet_reader}
use Rattle.cost_core.specs.Trellis.{cost}
use Rattle.cost_core.specs.Bridges.{bridge_cost}
use Rattle.cost_core.specs.StateCosts.{trellis_of}
use Rattle.cost_core.proofs.Limits.{costs_in_bounds}
use Rattle.cost_core.proofs.Places.{steps_are_cost}
use Rattle.cert_core.specs.Entries.{BeginsValid}
use Rattle.cert_core.specs.Readers.{cert_inlet}
use Rattle.cert_core.specs.Reasons.{FirstReason}
use Rattle.cert_core.specs.Stops.{OnReason, InEntry}
use Rattle.cert_core.proofs.Consuming.{if_some}
use Rattle.cert_core.proofs.Exact.{no_entry}
use Rattle.cert_core.proofs.Whole.{entry_least}
use Rattle.cert_core.proofs.reader.CertReader.check_bridge.Goals as goal

pub returns-in-Ok : goal.returns-in-Ok
returns-in-Ok g c = record {
  entry = c.in-Ok.ensures.entry;
  cost = c.in-Ok.ensures.cost ∙ steps_are_cost c.args.window.now c.args.bits.now c.read_entry.ensures.limits c.requires.bits;
  least = entry_least c.args.self.now.version c.args.window.now c.args.cue c.args.channel c.args.bits.now _ _ c.read_entry.ensures.limits c.requires.bits c.in-Ok.ensures.entry;
  reason = tt;
  only = tt;
  failures = c.in-Ok.ensures.failures;
  read = refl;
  version = refl;
}

pub returns-in-Err-Reason : goal.returns-in-Err-Reason
returns-in-Err-Reason g c =
    let t = trellis_of c.args.window.now in
    let x = c.args.bits.now in
    let e : cost t x ≡ bridge_cost c.args.window.now x = steps_are_cost c.args.window.now x c.read_entry.ensures.limits c.requires.bits in
    let known = g.R.Read.remaining (inlet_reader (cert_inlet c.args.self.now)) in
    let reason = c.in-Err-Reason.reason in
    record {
      entry = tt;
      cost = tt;
      least = tt;
      reason = subst (λ found. InEntry c.args.self.now.version t c.args.cue c.args.channel found known c.in-Err-Reason.reason) e
          (subst (λ s. OnReason {T = ℕ} (Err s) (InEntry c.args.self.now.version t c.args.cue c.args.channel (cost t x) known)) c.in-Err-Reason.field-0-is c.in-Err-Reason.ensures.reason);
      only = if_some known (λ bytes. FirstReason c.args.self.now.version t c.args.cue c.args.channel (cost t x) bytes reason) (λ bytes. BeginsValid c.args.self.now.version t c.args.cue c.args.channel x bytes → ⊥)
          (λ bytes. no_entry c.args.self.now.version t c.args.cue c.args.channel x bytes reason (costs_in_bounds c.args.window.now c.read_entry.ensures.limits) c.requires.bits (omega (arith, c.ranges.cue.fits)) (omega (arith, c.ranges.channel.fits)) (omega (arith, c.read_entry.ensures.limits.levels_in)))
          (subst (λ s. OnReason {T = ℕ} (Err s) (InEntry c.args.self.now.version t c.args.cue c.args.channel (cost t x) known)) c.in-Err-Reason.field-0-is c.in-Err-Reason.ensures.reason);
      failures = rw c.in-Err-Reason.field-0-is at c.in-Err-Reason.ensures.failures;
      read = refl;
      version = refl;
    }

pub returns-in-Err-Device : goal.returns-in-Err-Device
returns-in-Err-Device g c = record {
  entry = tt;
  cost = tt;
  least = tt;
  reason = tt;
  only = tt;
  failures = rw c.in-Err-Device.field-0-is at c.in-Err-Device.ensures.failures;
  read = refl;
  version = refl;
}

pub returns-in-Err-Memory : goal.returns-in-Err-Memory
returns-in-Err-Memory g c = record {
  entry = tt;
  cost = tt;
  least = tt;
  reason = tt;
  only = tt;
  failures = rw c.in-Err-Memory.field-0-is at c.in-Err-Memory.ensures.failures;
  read = refl;
  version = refl;
}
