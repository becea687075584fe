use Rattle.std.proofs.Common.{◌∙◌, ap, length, subst, sym}
use Rattle.chunk_core.specs.Inlets.{inlet_given, inlet_reader}
use Rattle.cut_core.specs.Cuts.{take_channels}
use Rattle.judge_core.specs.Kept.{FindAllOff}
use Rattle.sound_core.specs.Naming.{plain}
use Rattle.sound_core.proofs.CauseLaws.{exact_alone}
use Rattle.sound_core.proofs.TakingLaws.{memory_alone}
use Rattle.judge_core.specs.Auditing.{IsAuditing}
use Rattle.judge_core.proofs.AuditLaws.{file_audited, given_audited}
use Rattle.judge_core.proofs.auditing.audit.Goals as goal

pub returns-in-Ok-read_named-clause-ok : goal.returns-in-Ok-read_named-clause-ok
returns-in-Ok-read_named-clause-ok g c =
    file_audited c.new-auditor.result c.read_named.new.sink c.in-Ok-read_named.outline c.args.cut.now c.new-auditor.ensures.cut (c.new-auditor.ensures.ranges ∙ c.deref.ensures.value ∙ c.in-Ok.ensures) c.has_shape.ensures c.lowest_off-differs.result
    (λ r shape states. c.lowest_off-differs.ensures r shape (subst (FindAllOff c.args.cut.now r.channels) (sym c.deref-in-Ok-read_named.ensures.value) states)) (g.R.Read.remaining (inlet_reader c.args.inlet.now)) c.in-Ok-read_named.ensures.ok

pub returns-in-Ok-read_named-clause-any_reader : goal.returns-in-Ok-read_named-clause-any_reader
returns-in-Ok-read_named-clause-any_reader g c =
    given_audited c.new-auditor.result c.read_named.new.sink c.in-Ok-read_named.outline c.args.cut.now c.new-auditor.ensures.cut (c.new-auditor.ensures.ranges ∙ c.deref.ensures.value ∙ c.in-Ok.ensures) c.has_shape.ensures c.lowest_off-differs.result
    (λ r shape states. c.lowest_off-differs.ensures r shape (subst (FindAllOff c.args.cut.now r.channels) (sym c.deref-in-Ok-read_named.ensures.value) states)) g.R.Read.remaining c.args.inlet.now c.read_named.new.inlet c.in-Ok-read_named.ensures.ok.0 c.in-Ok-read_named.ensures.any_reader

pub returns-clause-fault : goal.returns-clause-fault
returns-clause-fault g c = memory_alone IsAuditing (g.R.Read.remaining (inlet_reader c.args.inlet.now)) (inlet_given c.args.inlet.now) (inlet_given c.read_named.new.inlet) c.new-auditor.result c.read_named.new.sink (plain c.in-Err.fault) c.in-Err.ensures.fault

pub returns-clause-exact : goal.returns-clause-exact
returns-clause-exact g c = exact_alone c.in-Err.fault c.in-Err.ensures.exact

pub lowest_off-differs-requires : goal.lowest_off-differs-requires
lowest_off-differs-requires g c =
    let is = c.in-Ok-read_named.ensures.any_reader.2.2 in
    ap length c.deref-in-Ok-read_named.ensures.value ∙ is.audits.number ∙ ap take_channels (is.same ∙ c.new-auditor.ensures.cut)
