use Rattle.std.proofs.Common.{◌≡◌, ◌-◌, ◌∙◌, ap, ap₂, length, refl, subst, sym, take, arith}
use Rattle.std.specs.Io.KnownBytes.{Appends}
use Rattle.std.proofs.lemmas.Result.{err_from_is_err_and}
use Rattle.dsd_bits.proofs.ShiftingLemmas.{written_back}
use Rattle.chunk_core.specs.Outlets.{outlet_writer, AppendsPart}
use Rattle.chunk_core.specs.FusedOutlets.{fused_outlet}
use Rattle.cert_core.specs.Spelling.{row_text}
use Rattle.cert_core.specs.Writers.{cert_version}
use Rattle.cert_core.proofs.ExitLaws.{counted_err, counted_ok, failed_not_device, not_refused, true_or_false}
use Rattle.cert_core.proofs.writer.CertWriter.level.Given.{Over}
use Rattle.cert_core.proofs.writer.CertWriter.level.Goals as goal
use Rattle.cert_core.proofs.writer.CertWriter.level.Goals.{After-deref}

-- what is written of the buffer
text : (g : Over) (c : After-deref g) → take (c.put_row-count.result - 0) c.deref.result.now ≡ row_text (cert_version c.args.self.now) c.args.row.now
text g c =
    let n : c.put_row-count.result - 0 ≡ c.put_row-count.result = omega arith in
    ap₂ take n (c.deref.ensures.value ∙ written_back c.put_row-count.new.buffer _ c.args.self.now.buffer.len (omega arith)) ∙ c.put_row-count.ensures.text

pub returns : goal.returns
returns g c = record {
  ok = subst (Appends (g.W.Write.contents (outlet_writer (fused_outlet c.args.self.now.outlet))) (g.W.Write.contents (outlet_writer (fused_outlet c.put_all.new.self)))) (text g (goal.at.returns g c).After-deref) c.in_ok-put_all.ensures.ok;
  device = not_refused _ _;
  failed = c.in_ok-put_all.ensures.failed;
  unchanged = not_refused _ _;
  failures = c.in_ok-put_all.ensures.failures;
  refused = c.in_ok-put_all.ensures.refused;
  kept = refl;
  rows = omega (arith, c.requires.rows (sym c.has_failed.ensures ∙ c.if-has_failed.false));
  rows_kept = tt;
}

pub returns-in_err-put_all : goal.returns-in_err-put_all
returns-in_err-put_all g c =
    let e = err_from_is_err_and c.from_residual.result c.from_residual.ensures.1 in
    rw (e.1, e.2) (record {
      ok = tt;
      device = λ h. subst (AppendsPart (g.W.Write.contents (outlet_writer (fused_outlet c.args.self.now.outlet))) (g.W.Write.contents (outlet_writer (fused_outlet c.put_all.new.self)))) (text g (goal.at.returns-in_err-put_all g c).After-deref) (c.in_err-put_all.ensures.device h);
      failed = c.in_err-put_all.ensures.failed;
      unchanged = λ h. true_or_false _ (c.in_err-put_all.ensures.failed.0 h) (sym c.has_failed.ensures ∙ c.if-has_failed.false);
      failures = c.in_err-put_all.ensures.failures;
      refused = c.in_err-put_all.ensures.refused;
      kept = refl;
      rows = tt;
      rows_kept = refl;
    })

pub returns-then-has_failed : goal.returns-then-has_failed
returns-then-has_failed g c = record {
  ok = tt;
  device = λ h. failed_not_device h;
  failed = (λ _. sym c.has_failed.ensures ∙ c.if-has_failed.true, λ _. refl);
  unchanged = λ _. refl;
  failures = omega arith;
  refused = sym c.has_failed.ensures ∙ c.if-has_failed.true;
  kept = refl;
  rows = tt;
  rows_kept = refl;
}

pub overflow_sub-self : goal.overflow_sub-self
overflow_sub-self g c = omega (arith, c.requires.rows (sym c.has_failed.ensures ∙ c.if-has_failed.false))

pub invariant_of-self : goal.invariant_of-self
invariant_of-self g c =
    let self = c.args.self.now in
    record {
      few = self.few;
      room = ap length (written_back c.put_row-count.new.buffer _ self.buffer.len (c.put_row-count.ensures.room ∙ c.deref_mut.ensures.len)) ∙ c.put_row-count.ensures.room ∙ ap length c.deref_mut.ensures.value ∙ self.room;
      counted = counted_err _ self.outlet c.put_all.new.self c.in_err-put_all.field-0.0 self.counted c.in_err-put_all.ensures.failures c.in_err-put_all.ensures.refused c.in_err-put_all.ensures.failed;
    }

pub invariant_of-self-2 : goal.invariant_of-self-2
invariant_of-self-2 g c =
    let self = c.args.self.now in
    record {
      few = self.few;
      room = ap length (written_back c.put_row-count.new.buffer _ self.buffer.len (c.put_row-count.ensures.room ∙ c.deref_mut.ensures.len)) ∙ c.put_row-count.ensures.room ∙ ap length c.deref_mut.ensures.value ∙ self.room;
      counted = counted_ok _ self.outlet c.put_all.new.self _ self.counted c.in_ok-put_all.ensures.failures c.in_ok-put_all.ensures.refused c.in_ok-put_all.ensures.failed;
    }
