use Rattle.std.proofs.Common.{Err, ◌≡◌, ℕ, ◌*◌, ◌-◌, ◌^◌, ◌<◌, ◌≤◌, List, Option, IfSome, get_or, length, length-take-le, take, refl, sym, ap, ◌∙◌, subst, arith, rules}
use borrow.Rule.Slice.PartMut.{same_len_mid}
use Rattle.std.proofs.lemmas.Result.{err_from_is_err_and}
use Rattle.std.specs.Io.KnownBytes.{Consumes}
use Rattle.dsd_bits.proofs.ExitLaws.{no_ok}
use Rattle.dsd_bits.proofs.ShiftingLemmas.{written_back}
use Rattle.chunk_core.specs.Inlets.{inlet_reader}
use Rattle.cert_core.specs.declared.verdict.CertReason.{CertReason}
use Rattle.cert_core.specs.declared.verdict.CertReason.TheVariants.{Bound}
use Rattle.cert_core.specs.declared.version.Version.TheVariants.{One}
use Rattle.cert_core.specs.Reasons.{SpellingReason}
use Rattle.cert_core.specs.Spelling.{row_text}
use Rattle.cert_core.specs.Stops.{CutBelow, InSpelling}
use Rattle.cert_core.proofs.Consuming.{after, counted_back, maps, stated_back}
use Rattle.cert_core.proofs.row_reader.read_values.Goals as goal

filled_len : (m : ℕ) (buffer filled : List ℕ) → 8 * m ≤ length buffer → length filled ≡ length (take (8 * m - 0) buffer) → length filled ≡ 8 * m
filled_len m buffer filled room e = omega (arith, e, length-take-le (8 * m - 0) buffer (omega (arith, room)))

-- bytes that end before the values do
cut_in_values : (a : Option (List ℕ)) (m level n : ℕ) → n ≡ 8 * m → (reason : CertReason) → CutBelow a n reason → InSpelling One m level a reason
cut_in_values a m level n e reason (is, short) = subst (InSpelling One m level a) (sym is) (subst (λ k. IfSome a (λ bytes. length bytes < k)) e short)

-- a value above the bound in a row that was read
above_first : (a b : Option (List ℕ)) (m level : ℕ) (row : List ℕ) → Consumes a b (row_text One row) → length row ≡ m → ((q : ℕ) → get_or row q 0 < 2 ^ 64)
    → (q : ℕ) × (q < length row) × (2 ^ 63 < get_or row q 0) → InSpelling One m level a Bound
above_first a b m level row consumed long fits (q, below, above) =
    after (λ bytes. SpellingReason One m level bytes Bound) a b (row_text One row) consumed (λ rest. (row, rest, (refl, long, fits), (q, omega (arith, below, long), above)))

pub take_row-requires : goal.take_row-requires
take_row-requires g c =
    let size : length c.fill.new.buffer ≡ 8 * length c.args.row.now - 0 = c.fill.auto.buffer ∙ length-take-le _ c.args.buffer.now (omega (arith, c.requires.room)) in
    ap length (written_back c.fill.new.buffer _ (8 * length c.args.row.now - 0) size) ∙ omega (arith, size)

pub returns-in_err-fill : goal.returns-in_err-fill
returns-in_err-fill g c =
    let m = length c.args.row.now in
    let r = c.from_residual.result in
    let stop = c.in_err-fill.field-0.0 in
    let e = err_from_is_err_and r c.from_residual.ensures.1 in
    let is : r ≡ Err stop = e.1 ∙ ap Err e.2 in
    record {
      len = refl;
      buffer = same_len_mid 0 _ c.args.buffer.now c.fill.new.buffer c.fill.auto.buffer;
      bounded = no_ok _ _ r c.from_residual.ensures.1;
      ok = no_ok _ _ r c.from_residual.ensures.1;
      reason = stated_back r stop _ is (maps {A = Unit {0}} (Err stop) _ _ (cut_in_values _ m c.args.level (length c.fill.new.buffer) (filled_len m c.args.buffer.now c.fill.new.buffer c.requires.room c.fill.auto.buffer)) c.in_err-fill.ensures.cut);
      failures = counted_back r stop _ _ is c.in_err-fill.ensures.failures;
    }

pub returns-then-is_above : goal.returns-then-is_above
returns-then-is_above g c =
    let size : length c.fill.new.buffer ≡ 8 * length c.args.row.now - 0 = c.fill.auto.buffer ∙ length-take-le _ c.args.buffer.now (omega (arith, c.requires.room)) in
    let text = sym (written_back c.fill.new.buffer _ _ size) ∙ c.take_row.ensures in
    let from = g.R.Read.remaining (inlet_reader c.args.inlet.now) in
    let consumed = subst (Consumes from (g.R.Read.remaining (inlet_reader c.fill.new.inlet))) text c.in_ok-fill.ensures.ok in
    record {
      len = c.take_row.auto.row;
      buffer = same_len_mid 0 _ c.args.buffer.now c.fill.new.buffer c.fill.auto.buffer;
      bounded = tt;
      ok = tt;
      reason = above_first from _ (length c.args.row.now) c.args.level c.take_row.new.row consumed c.take_row.auto.row (λ q. search rules) (c.if-is_above.ensures.above refl);
      failures = c.in_ok-fill.ensures.failures;
    }

pub returns : goal.returns
returns g c =
    let size : length c.fill.new.buffer ≡ 8 * length c.args.row.now - 0 = c.fill.auto.buffer ∙ length-take-le _ c.args.buffer.now (omega (arith, c.requires.room)) in
    let text = sym (written_back c.fill.new.buffer _ _ size) ∙ c.take_row.ensures in
    record {
      len = c.take_row.auto.row;
      buffer = same_len_mid 0 _ c.args.buffer.now c.fill.new.buffer c.fill.auto.buffer;
      bounded = c.if-is_above.ensures.within refl;
      ok = subst (Consumes (g.R.Read.remaining (inlet_reader c.args.inlet.now)) (g.R.Read.remaining (inlet_reader c.fill.new.inlet))) text c.in_ok-fill.ensures.ok;
      reason = tt;
      failures = c.in_ok-fill.ensures.failures;
    }
