use Rattle.std.proofs.Common.{subst, sym}
use Rattle.std.specs.Prelude.{OnErr, OnOk}
use Rattle.cert_core.specs.Writers.{cert_outlet}
use Rattle.chunk_core.specs.Outlets.{outlet_writer}
use Rattle.master_core.specs.Certifying.{AppendsCert, AppendsCertPrefix}
use Rattle.master_core.proofs.certifying.certify.Goals as goal

pub returns-clause-err : goal.returns-clause-err
returns-clause-err g c =
    let cut = c.args.cut.now in
    let made = c.args.bridges.now in
    let came = c.write_cert-came.result in
    subst (λ o. OnErr came (AppendsCertPrefix cut made (g.W.Write.contents (outlet_writer o)) (g.W.Write.contents (outlet_writer c.finish.result)))) c.in_room-writer.ensures.outlet
    (subst (λ o. OnErr came (AppendsCertPrefix cut made (g.W.Write.contents (outlet_writer (cert_outlet c.in_room-writer.result))) (g.W.Write.contents (outlet_writer o)))) (sym c.finish.ensures) c.write_cert-came.ensures.err)

pub returns-clause-ok : goal.returns-clause-ok
returns-clause-ok g c =
    let cut = c.args.cut.now in
    let made = c.args.bridges.now in
    let came = c.write_cert-came.result in
    subst (λ o. OnOk came (AppendsCert cut made (g.W.Write.contents (outlet_writer o)) (g.W.Write.contents (outlet_writer c.finish.result)))) c.in_room-writer.ensures.outlet
    (subst (λ o. OnOk came (AppendsCert cut made (g.W.Write.contents (outlet_writer (cert_outlet c.in_room-writer.result))) (g.W.Write.contents (outlet_writer o)))) (sym c.finish.ensures) c.write_cert-came.ensures.ok)
