use Rattle.std.proofs.Common.{◌≡◌, ◌↔◌, Bool, true, Result, Ok, Err, sym}
use Rattle.std.specs.Result.{is_ok}
use Rattle.dsf_core.specs.declared.fault.DsfFault.{DsfFault}
use Rattle.dsf_core.proofs.DescribingLaws.{closes_is, no_fault}
use Rattle.dsf_core.proofs.describing.closes.Goals as goal

-- a test of a check says that it found no fault
decided : (r e : Result (Unit {0}) DsfFault) (test : Bool) → r ≡ e → test ≡ is_ok r → (test ≡ true) ↔ (e ≡ Ok tt)
decided (Ok u) e test same is = (λ yes. sym same, λ ok. is)
decided (Err d) e test same is = (λ yes. absurd cc, λ ok. absurd cc)

pub returns-in-Ok : goal.returns-in-Ok
returns-in-Ok c = closes_is c.args.prefix.now c.in-Ok.header (sym c.in-Ok.ensures) c.args.total c.requires.not_cut c.is_ok.result (decided c.check_ends.result _ c.is_ok.result c.check_ends.ensures c.is_ok.ensures.value)

pub returns-in-Err : goal.returns-in-Err
returns-in-Err c = no_fault c.args.prefix.now c.in-Err.field-0 _ c.requires.at_sound c.in-Err.ensures
