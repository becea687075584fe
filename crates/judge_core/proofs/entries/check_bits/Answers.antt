use Rattle.chunk_core.specs.Inlets.{inlet_reader}
use Rattle.cert_core.specs.Readers.{cert_inlet}
use Rattle.judge_core.proofs.EntryLaws.{claim_judged, record_of}
use Rattle.judge_core.proofs.entries.check_bits.Goals as goal

pub returns-clause-judged : goal.returns-clause-judged
returns-clause-judged g c =
    let place = c.args.place in
    let e = c.in_ok-verdict.ensures in
    claim_judged c.args.reader.now.version (record_of place.cue place.channel c.args.window.now c.args.bits.now) (g.R.Read.remaining (inlet_reader (cert_inlet c.args.reader.now))) (g.R.Read.remaining (inlet_reader (cert_inlet c.check_bridge.new.self)))
    c.in_ok-verdict.verdict e.entry e.cost e.least e.reason e.only
