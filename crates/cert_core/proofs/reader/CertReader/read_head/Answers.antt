use Rattle.std.proofs.Common.{◌≡◌, subst, sym, ◌∙◌, length, take, length-take-le, arith}
use Rattle.std.proofs.lemmas.List.{take_all}
use Rattle.std.specs.Io.KnownBytes.{Consumes}
use Rattle.chunk_core.specs.Inlets.{inlet_reader}
use Rattle.cert_core.specs.Readers.{cert_inlet}
use Rattle.cert_core.proofs.ExitLaws.{fault_not_well, not_refused, not_well}
use Rattle.cert_core.proofs.Heads.{short_head, short_reason, other_head, other_reason}
use Rattle.cert_core.proofs.reader.CertReader.read_head.Goals as goal

pub returns-then-count-lt12-clause-only : goal.returns-then-count-lt12-clause-only
returns-then-count-lt12-clause-only g c =
    let bytes = take c.in-Ok.count c.fill.new.buffer in
    let n : length c.fill.new.buffer ≡ 12 = c.fill.auto.buffer in
    short_head (g.R.Read.remaining (inlet_reader (cert_inlet c.args.self.now))) (g.R.Read.remaining (inlet_reader c.fill.new.self)) c.args.weights c.args.entries bytes c.in-Ok.ensures.bytes.1
    (c.in-Ok.ensures.end (omega arith)) (omega (arith, length-take-le c.in-Ok.count c.fill.new.buffer c.in-Ok.ensures.bytes.0))

pub returns-in_default-version_in-clause-only : goal.returns-in_default-version_in-clause-only
returns-in_default-version_in-clause-only g c =
    let bytes = take c.in-Ok.count c.fill.new.buffer in
    let n : length c.fill.new.buffer ≡ 12 = c.fill.auto.buffer in
    let long : length bytes ≡ 12 = length-take-le c.in-Ok.count c.fill.new.buffer c.in-Ok.ensures.bytes.0 ∙ omega (arith, c.in-Ok.ensures.bytes.0) in
    other_head (g.R.Read.remaining (inlet_reader (cert_inlet c.args.self.now))) (g.R.Read.remaining (inlet_reader c.fill.new.self)) c.args.weights c.args.entries bytes c.in-Ok.ensures.bytes.1
    long (λ v e. c.in_default-version_in.ensures v (sym (take_all c.in-Ok.count c.fill.new.buffer (omega arith)) ∙ e))

pub returns-then-count-lt12-clause-reason : goal.returns-then-count-lt12-clause-reason
returns-then-count-lt12-clause-reason g c =
    let bytes = take c.in-Ok.count c.fill.new.buffer in
    let n : length c.fill.new.buffer ≡ 12 = c.fill.auto.buffer in
    short_reason (g.R.Read.remaining (inlet_reader (cert_inlet c.args.self.now))) (g.R.Read.remaining (inlet_reader c.fill.new.self)) c.args.weights c.args.entries bytes c.in-Ok.ensures.bytes.1
    (c.in-Ok.ensures.end (omega arith)) (omega (arith, length-take-le c.in-Ok.count c.fill.new.buffer c.in-Ok.ensures.bytes.0))

pub returns-in_default-version_in-clause-reason : goal.returns-in_default-version_in-clause-reason
returns-in_default-version_in-clause-reason g c =
    let bytes = take c.in-Ok.count c.fill.new.buffer in
    let n : length c.fill.new.buffer ≡ 12 = c.fill.auto.buffer in
    let long : length bytes ≡ 12 = length-take-le c.in-Ok.count c.fill.new.buffer c.in-Ok.ensures.bytes.0 ∙ omega (arith, c.in-Ok.ensures.bytes.0) in
    other_reason (g.R.Read.remaining (inlet_reader (cert_inlet c.args.self.now))) (g.R.Read.remaining (inlet_reader c.fill.new.self)) c.args.weights c.args.entries bytes c.in-Ok.ensures.bytes.1
    long (λ v e. c.in_default-version_in.ensures v (sym (take_all c.in-Ok.count c.fill.new.buffer (omega arith)) ∙ e))

pub returns-then-count-lt12-clause-none : goal.returns-then-count-lt12-clause-none
returns-then-count-lt12-clause-none g c = λ h. not_well _ h

pub returns-then-count-lt12-clause-read : goal.returns-then-count-lt12-clause-read
returns-then-count-lt12-clause-read g c = λ h. not_well _ h

pub returns-then-count-lt12-clause-memory : goal.returns-then-count-lt12-clause-memory
returns-then-count-lt12-clause-memory g c = λ h. not_refused _ _ h

pub returns-in_default-version_in-clause-none : goal.returns-in_default-version_in-clause-none
returns-in_default-version_in-clause-none g c = λ h. not_well _ h

pub returns-in_default-version_in-clause-read : goal.returns-in_default-version_in-clause-read
returns-in_default-version_in-clause-read g c = λ h. not_well _ h

pub returns-in_default-version_in-clause-memory : goal.returns-in_default-version_in-clause-memory
returns-in_default-version_in-clause-memory g c = λ h. not_refused _ _ h

pub returns-in_default-clause-none : goal.returns-in_default-clause-none
returns-in_default-clause-none g c = λ h. fault_not_well _ h

pub returns-in_default-clause-read : goal.returns-in_default-clause-read
returns-in_default-clause-read g c = λ h. fault_not_well _ h

pub returns-clause-none : goal.returns-clause-none
returns-clause-none g c = λ _. subst (Consumes (g.R.Read.remaining (inlet_reader (cert_inlet c.args.self.now))) (g.R.Read.remaining (inlet_reader c.fill.new.self))) (take_all c.in-Ok.count c.fill.new.buffer (omega (arith, c.fill.auto.buffer, c.if-count-lt12.false)) ∙ c.in-Some.ensures) c.in-Ok.ensures.bytes.1

pub returns-clause-memory : goal.returns-clause-memory
returns-clause-memory g c = λ h. not_refused _ _ h
