use Rattle.std.proofs.Common.{IfSome, Ok, subst, sym}
use Rattle.chunk_core.specs.Inlets.{inlet_reader}
use Rattle.judge_core.specs.declared.finding.Found.{Found}
use Rattle.judge_core.specs.Finding.{FindsHeld, IsFoundGiven}
use Rattle.judge_core.proofs.FindLaws.{audit_given, audit_held, named_held, read_fault}
use Rattle.judge_core.proofs.reading.find_master.Goals as goal

pub returns-in-Ok-clause-found : goal.returns-in-Ok-clause-found
returns-in-Ok-clause-found g c =
    let cut = c.args.cut.now in
    let left = g.R.Read.remaining (inlet_reader c.args.inlet.now) in
    subst (λ (f : Found). IfSome left (λ file. FindsHeld cut file f)) (sym c.found_by.ensures) (audit_held cut c.in-Ok.audited left c.in-Ok.ensures.ok)

pub returns-in-Ok-clause-any_reader : goal.returns-in-Ok-clause-any_reader
returns-in-Ok-clause-any_reader g c =
    let cut = c.args.cut.now in
    subst (λ (f : Found). IsFoundGiven g.R.Read.remaining c.args.inlet.now c.audit.new.inlet cut (Ok f)) (sym c.found_by.ensures) (audit_given g.R.Read.remaining c.args.inlet.now c.audit.new.inlet cut c.in-Ok.audited c.in-Ok.ensures.ok.0 c.in-Ok.ensures.any_reader)

pub returns-in-Err-Refused-clause-found : goal.returns-in-Err-Refused-clause-found
returns-in-Err-Refused-clause-found g c =
    let named = rw c.in-Err-Refused.field-0-is at c.in-Err-Refused.ensures.named in
    named_held g.R.Read.remaining c.args.inlet.now c.audit.new.inlet c.args.cut.now c.in-Err-Refused.fault named

pub returns-in-Err-Refused-clause-any_reader : goal.returns-in-Err-Refused-clause-any_reader
returns-in-Err-Refused-clause-any_reader g c = rw c.in-Err-Refused.field-0-is at c.in-Err-Refused.ensures.named

pub returns-in-Err-Stream-clause-fault : goal.returns-in-Err-Stream-clause-fault
returns-in-Err-Stream-clause-fault g c =
    let left = g.R.Read.remaining (inlet_reader c.args.inlet.now) in
    let exact = rw c.in-Err-Stream.field-0-is at c.in-Err-Stream.ensures.exact in
    let fault = rw c.in-Err-Stream.field-0-is at c.in-Err-Stream.ensures.fault in
    read_fault left c.in-Err-Stream.fault exact fault
