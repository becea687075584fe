use Rattle.std.proofs.Common.{Err, ◌≡◌, ℕ, ◌+◌, ◌*◌, ◌-◌, ◌<◌, ◌≤◌, ◌⊎◌, ◌∙◌, List, Option, length, length-take-le, take, refl, ap, sym, subst, inl, inr, arith, rules}
use borrow.Rule.Slice.PartMut.{same_len_mid}
use Rattle.std.proofs.lemmas.Nat.{mul-le}
use Rattle.std.proofs.lemmas.Result.{err_from_is_err_and}
use Rattle.dsd_bits.proofs.ExitLaws.{no_ok}
use Rattle.dsd_bits.proofs.ShiftingLemmas.{written_back}
use Rattle.std.specs.Io.KnownBytes.{Consumes}
use Rattle.chunk_core.specs.Inlets.{inlet_reader}
use Rattle.cert_core.specs.declared.verdict.CertReason.{CertReason}
use Rattle.cert_core.specs.declared.verdict.CertReason.TheVariants.{Cut, Row}
use Rattle.cert_core.specs.Reasons.{SpellingReason}
use Rattle.cert_core.specs.Spelling.{IsTooWide}
use Rattle.cert_core.specs.Stops.{CutBelow, InForm, InSpelling}
use Rattle.cert_core.specs.declared.version.Version.TheVariants.{Two}
use Rattle.cert_core.proofs.Consuming.{counted_back, if_some, maps, stated_back}
use Rattle.cert_core.proofs.Reading.{cut_in_excesses, raised_consumed, raised_first}
use Rattle.cert_core.proofs.row_reader.read_raised.Goals as goal

few_bytes : (width m : ℕ) → width ≤ 8 → width * m ≤ 8 * m
few_bytes width m few = mul-le width m 8 m few (omega arith)

filled_len : (width m : ℕ) (buffer filled : List ℕ) → width ≤ 8 → 8 * m + 8 ≤ length buffer → length filled ≡ length (take (width * m - 0) buffer) → length filled ≡ width * m
filled_len width m buffer filled few room e =
    let h : width * m - 0 ≤ length buffer = omega (arith, few_bytes width m few, room) in
    omega (arith, e, length-take-le (width * m - 0) buffer h)

-- what is wrong with the number and the width that a row begins with
form_first : (a : Option (List ℕ)) (m level : ℕ) (reason : CertReason) → InForm level a reason → InSpelling Two m level a reason
form_first a m level reason = if_some a _ (λ bytes. SpellingReason Two m level bytes reason) stated
  where
    stated : (bytes : List ℕ) → ((reason ≡ Cut) × (length bytes < 9)) ⊎ ((reason ≡ Row level) × IsTooWide Two bytes) → SpellingReason Two m level bytes reason
    stated bytes (inl (is, short)) = subst (SpellingReason Two m level bytes) (sym is) (inl short)
    stated bytes (inr (is, wide)) = subst (SpellingReason Two m level bytes) (sym is) (refl, inl wide)

pub returns-in_err-least : goal.returns-in_err-least
returns-in_err-least g c =
    let e = err_from_is_err_and c.from_residual.result c.from_residual.ensures.1 in
    rw (e.1, e.2) (record {
      len = refl;
      buffer = refl;
      bounded = tt;
      ok = tt;
      reason = maps {A = Unit {0}} (Err c.in_err-least.field-0.0) _ _ (form_first (g.R.Read.remaining (inlet_reader c.args.inlet.now)) (length c.args.row.now) c.args.level) c.in_err-least.ensures.reason;
      failures = c.in_err-least.ensures.failures;
    })

pub overflow_mul-size : goal.overflow_mul-size
overflow_mul-size g c = omega (arith, few_bytes c.in_ok-least.width (length c.args.row.now) c.in_ok-least.ensures.few, c.requires.room)

pub slice_bounds-fill-end : goal.slice_bounds-fill-end
slice_bounds-fill-end g c = omega (arith, few_bytes c.in_ok-least.width (length c.args.row.now) c.in_ok-least.ensures.few, c.requires.room)

pub returns-in_err-fill : goal.returns-in_err-fill
returns-in_err-fill g c =
    let mid = g.R.Read.remaining (inlet_reader c.read_form.new.inlet) in
    let m = length c.args.row.now in
    let r = c.from_residual-in_err-fill.result in
    let stop = c.in_err-fill.field-0.0 in
    let size = filled_len c.in_ok-least.width m c.args.buffer.now c.fill.new.buffer c.in_ok-least.ensures.few c.requires.room c.fill.auto.buffer in
    let e = err_from_is_err_and r c.from_residual-in_err-fill.ensures.1 in
    let is : r ≡ Err stop = e.1 ∙ ap Err e.2 in
    record {
      len = refl;
      buffer = same_len_mid 0 _ c.args.buffer.now c.fill.new.buffer c.fill.auto.buffer;
      bounded = no_ok _ _ r c.from_residual-in_err-fill.ensures.1;
      ok = no_ok _ _ r c.from_residual-in_err-fill.ensures.1;
      reason = stated_back r stop _ is (maps {A = Unit {0}} (Err stop) _ _ (λ reason w. cut_in_excesses _ mid m c.args.level c.in_ok-least.least c.in_ok-least.width reason c.in_ok-least.ensures.ok c.in_ok-least.ensures.few (subst (λ n. CutBelow mid n reason) size w)) c.in_err-fill.ensures.cut);
      failures = counted_back r stop _ _ is (omega (arith, c.in_err-fill.ensures.failures, c.in_ok-least.ensures.failures));
    }

pub take_excesses-requires : goal.take_excesses-requires
take_excesses-requires g c =
    let size = same_len_mid 0 _ c.args.buffer.now c.fill.new.buffer c.fill.auto.buffer in
    record { few = c.in_ok-least.ensures.few; room = omega (arith, few_bytes c.in_ok-least.width (length c.args.row.now) c.in_ok-least.ensures.few, c.requires.room, size) }

pub returns-in-Ok : goal.returns-in-Ok
returns-in-Ok g c =
    let over = c.take_excesses.new.row in
    let w = c.in_ok-least.width in
    let filled = c.fill.new.buffer in
    let size : w * length over ≡ w * length c.args.row.now = ap (λ n. w * n) c.take_excesses.ensures.len in
    let text = sym (written_back filled _ (w * length over) (filled_len w (length c.args.row.now) c.args.buffer.now filled c.in_ok-least.ensures.few c.requires.room c.fill.auto.buffer ∙ sym size)) ∙ c.take_excesses.ensures.text in
    let from = g.R.Read.remaining (inlet_reader c.args.inlet.now) in
    let to = g.R.Read.remaining (inlet_reader c.fill.new.inlet) in
    record {
      len = c.in-Ok.ensures.len ∙ c.take_excesses.ensures.len;
      buffer = same_len_mid 0 _ c.args.buffer.now c.fill.new.buffer c.fill.auto.buffer;
      bounded = c.in-Ok.ensures.bounded;
      ok = subst (Consumes from to) c.in-Ok.ensures.own (raised_consumed from (g.R.Read.remaining (inlet_reader c.read_form.new.inlet)) to c.in_ok-least.least w over filled c.in_ok-least.ensures.ok c.in_ok-fill.ensures.ok text);
      reason = tt;
      failures = omega (arith, c.in_ok-fill.ensures.failures, c.in_ok-least.ensures.failures);
    }

pub returns-in-Err : goal.returns-in-Err
returns-in-Err g c =
    let over = c.take_excesses.new.row in
    let w = c.in_ok-least.width in
    let filled = c.fill.new.buffer in
    let size : w * length over ≡ w * length c.args.row.now = ap (λ n. w * n) c.take_excesses.ensures.len in
    let text = sym (written_back filled _ (w * length over) (filled_len w (length c.args.row.now) c.args.buffer.now filled c.in_ok-least.ensures.few c.requires.room c.fill.auto.buffer ∙ sym size)) ∙ c.take_excesses.ensures.text in
    record {
      len = c.in-Err.ensures.len ∙ c.take_excesses.ensures.len;
      buffer = same_len_mid 0 _ c.args.buffer.now c.fill.new.buffer c.fill.auto.buffer;
      bounded = tt;
      ok = tt;
      reason = raised_first (g.R.Read.remaining (inlet_reader c.args.inlet.now)) (g.R.Read.remaining (inlet_reader c.fill.new.inlet)) (length c.args.row.now) c.args.level c.in_ok-least.least w over c.in-Err.reason (raised_consumed (g.R.Read.remaining (inlet_reader c.args.inlet.now)) (g.R.Read.remaining (inlet_reader c.read_form.new.inlet)) (g.R.Read.remaining (inlet_reader c.fill.new.inlet)) c.in_ok-least.least w over filled c.in_ok-least.ensures.ok c.in_ok-fill.ensures.ok text) c.take_excesses.ensures.len c.requires.some (search rules) c.in_ok-least.ensures.few c.take_excesses.ensures.below c.in-Err.ensures.reason;
      failures = omega (arith, c.in_ok-fill.ensures.failures, c.in_ok-least.ensures.failures);
    }
