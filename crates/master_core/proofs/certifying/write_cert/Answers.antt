use Rattle.std.proofs.Common.{◌≡◌, length, rules, subst, arith}
use Rattle.std.specs.Io.KnownBytes.{Appends}
use Rattle.std.proofs.lemmas.Result.{on_err_weaker, on_ok_weaker}
use Rattle.cert_core.specs.Text.{cert_head}
use Rattle.cert_core.specs.Writers.{cert_outlet, cert_weights, has_failed}
use Rattle.cert_core.specs.declared.version.Version.{Version}
use Rattle.cert_core.specs.declared.version.Version.TheVariants.{Two}
use Rattle.chunk_core.specs.Outlets.{AppendsPart, outlet_writer}
use Rattle.master_core.specs.Choosing.{chosen_claims}
use Rattle.master_core.proofs.CertLaws.{cert_cut, cert_whole, failed_write, head_cut, part_is_prefix}
use Rattle.master_core.proofs.ChoiceLaws.{claim_number}
use Rattle.master_core.proofs.certifying.write_cert.Given.{Over}
use Rattle.master_core.proofs.certifying.write_cert.Goals as goal
use Rattle.master_core.proofs.certifying.write_cert.Goals.{After-len, In-Ok}

-- the head announces as many entries as there are claims
announced : (g : Over) (c : After-len g) → c.len.result ≡ length (chosen_claims c.args.cut.now c.args.bridges.now.places.items c.args.bridges.now.chosen.items)
announced g c = omega (arith, c.len.ensures, c.args.bridges.now.places.ok.0, claim_number c.args.cut.now c.args.bridges.now c.requires.bridges)

-- and it was written
begun : (g : Over) (c : In-Ok g) → Appends (g.W.Write.contents (outlet_writer (cert_outlet c.args.writer.now))) (g.W.Write.contents (outlet_writer (cert_outlet c.begin.new.self))) (cert_head Two (length c.args.cut.now.splice.weights) c.len.result)
begun g c =
    let a = g.W.Write.contents (outlet_writer (cert_outlet c.args.writer.now)) in
    let b = g.W.Write.contents (outlet_writer (cert_outlet c.begin.new.self)) in
    let stated = subst (λ (v : Version). Appends a b (cert_head v (cert_weights c.args.writer.now) c.len.result)) c.requires.fresh.version_is c.in-Ok.ensures.ok in
    subst (λ n. Appends a b (cert_head Two n c.len.result)) c.requires.fresh.weights_are stated

pub returns-in_default-clause-err : goal.returns-in_default-clause-err
returns-in_default-clause-err g c =
    let cut = c.args.cut.now in
    let a = g.W.Write.contents (outlet_writer (cert_outlet c.args.writer.now)) in
    let b = g.W.Write.contents (outlet_writer (cert_outlet c.begin.new.self)) in
    failed_write c.in_default.field-0 (has_failed c.args.writer.now) c.requires.fresh.fine c.in_default.ensures.failed (λ e.
    let stated = subst (λ (v : Version). AppendsPart a b (cert_head v (cert_weights c.args.writer.now) c.len.result)) c.requires.fresh.version_is (c.in_default.ensures.device e) in
    let part = subst (λ n. AppendsPart a b (cert_head Two n c.len.result)) c.requires.fresh.weights_are stated in
    head_cut (length cut.splice.weights) c.len.result _ (announced g (goal.at.returns-in_default-clause-err g c).After-len) a b (part_is_prefix a b _ part))

pub returns : goal.returns
returns g c =
    let at = goal.at.returns g c in
    record {
      ok = on_ok_weaker c.write_entries.result (λ rest. cert_whole _ c.len.result _ (announced g at.After-len) _ _ _ (begun g at.In-Ok) rest) c.write_entries.ensures.ok;
      err = on_err_weaker c.write_entries.result (λ rest. cert_cut _ c.len.result _ (announced g at.After-len) _ _ _ (begun g at.In-Ok) rest) c.write_entries.ensures.err;
      failed = c.write_entries.ensures.failed;
      before = search rules;
    }
