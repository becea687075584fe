use Rattle.std.proofs.Common.{refl, subst}
use Rattle.std.specs.Io.KnownBytes.{Appends}
use Rattle.std.proofs.lemmas.Result.{err_from_is_err_and}
use Rattle.chunk_core.specs.Outlets.{outlet_writer, AppendsPart}
use Rattle.chunk_core.specs.FusedOutlets.{fused_outlet}
use Rattle.cert_core.proofs.ExitLaws.{counted_err, counted_ok, outlet_back, not_refused}
use Rattle.cert_core.proofs.writer.CertWriter.end_bridge.Goals as goal

pub returns-in_err-put_all : goal.returns-in_err-put_all
returns-in_err-put_all g c =
    let e = err_from_is_err_and c.from_residual.result c.from_residual.ensures.1 in
    rw (e.1, e.2) (record {
      ok = tt;
      device = λ h. subst (AppendsPart (g.W.Write.contents (outlet_writer (fused_outlet c.args.self.now.outlet))) (g.W.Write.contents (outlet_writer (fused_outlet c.put_all.new.self)))) c.to_be_bytes.ensures (c.in_err-put_all.ensures.device h);
      failed = c.in_err-put_all.ensures.failed;
      unchanged = λ h. outlet_back c.args.self.now c.put_all.new.self _ _ _ (c.in_err-put_all.ensures.unchanged h);
      failures = c.in_err-put_all.ensures.failures;
      refused = c.in_err-put_all.ensures.refused;
      ended = tt;
      kept = refl;
      rows = refl;
    })

pub returns : goal.returns
returns g c = record {
  ok = subst (Appends (g.W.Write.contents (outlet_writer (fused_outlet c.args.self.now.outlet))) (g.W.Write.contents (outlet_writer (fused_outlet c.put_all.new.self)))) c.to_be_bytes.ensures c.in_ok-put_all.ensures.ok;
  device = not_refused _ _;
  failed = c.in_ok-put_all.ensures.failed;
  unchanged = not_refused _ _;
  failures = c.in_ok-put_all.ensures.failures;
  refused = c.in_ok-put_all.ensures.refused;
  ended = refl;
  kept = tt;
  rows = refl;
}

pub invariant_of-self : goal.invariant_of-self
invariant_of-self g c = let self = c.args.self.now in record { few = self.few; room = self.room; counted = counted_err _ self.outlet c.put_all.new.self c.in_err-put_all.field-0.0 self.counted c.in_err-put_all.ensures.failures c.in_err-put_all.ensures.refused c.in_err-put_all.ensures.failed }

pub invariant_of-self-2 : goal.invariant_of-self-2
invariant_of-self-2 g c = let self = c.args.self.now in record { few = self.few; room = self.room; counted = counted_ok _ self.outlet c.put_all.new.self _ self.counted c.in_ok-put_all.ensures.failures c.in_ok-put_all.ensures.refused c.in_ok-put_all.ensures.failed }
