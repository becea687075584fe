use Rattle.std.proofs.Common.{◌≡◌, Bool, List, None, Option, Some, length, arith, map, subst}
use Rattle.chunk_core.specs.Inlets.{inlet_reader}
use Rattle.cert_core.specs.Readers.{cert_inlet}
use Rattle.cert_core.specs.declared.verdict.CertReason.{CertReason}
use Rattle.cut_core.specs.Claims.{claims}
use Rattle.judge_core.specs.Judging.{JudgesClaims, JudgesHead}
use Rattle.judge_core.specs.declared.verdict.Verdict.{Verdict}
use Rattle.judge_core.specs.declared.verdict.Verdict.TheVariants.{Accepted, Rejected}
use Rattle.judge_core.proofs.EntryLaws.{all_accepted, claims_at, entries_rejected, head_at, head_rejected, more_rejected, same_claims}
use Rattle.judge_core.specs.Kept.{AreBitsOf, claim_from, kept_items}
use Rattle.judge_core.proofs.entries.judge_certificate.Given.{Over}
use Rattle.judge_core.proofs.entries.judge_certificate.Goals as goal
use Rattle.judge_core.proofs.entries.judge_certificate.Goals.{In_ok-reason, In_ok-verdict}

-- what was found of the head, and then of the entries, is said of the claims of whichever channels have these bits
head : (g : Over) (c : In_ok-reason g) (zs : List (List Bool)) → AreBitsOf c.args.cut.now (kept_items c.args.kept.now) zs → (found : Option CertReason) → c.in_ok-reason.field-0 ≡ found
    → JudgesHead c.judge_head.new.reader.version (length c.args.cut.now.splice.weights) (length (claims c.args.cut.now zs)) (g.R.Read.remaining (inlet_reader (cert_inlet c.args.reader.now))) (g.R.Read.remaining (inlet_reader (cert_inlet c.judge_head.new.reader))) found
head g c zs bits found is =
    let cut = c.args.cut.now in
    let held_bits = kept_items c.args.kept.now in
    let places = c.in_ok-places.places.items in
    let v = c.judge_head.new.reader.version in
    let from = g.R.Read.remaining (inlet_reader (cert_inlet c.args.reader.now)) in
    let to = g.R.Read.remaining (inlet_reader (cert_inlet c.judge_head.new.reader)) in
    let many : c.len.result ≡ length places = omega (arith, c.len.ensures) in
    let judged = subst (λ n. JudgesHead v (length cut.splice.weights) n from to c.in_ok-reason.field-0) many c.in_ok-reason.ensures.judged in
    head_at cut zs (claim_from cut held_bits) places (same_claims cut held_bits zs places c.in_ok-places.ensures.places c.in_ok-places.ensures.each bits) v from to c.in_ok-reason.field-0 found is judged

entries : (g : Over) (c : In_ok-verdict g) (zs : List (List Bool)) → AreBitsOf c.args.cut.now (kept_items c.args.kept.now) zs → (found : Verdict) → c.in_ok-verdict.verdict ≡ found
    → JudgesClaims c.judge_head.new.reader.version (claims c.args.cut.now zs) (g.R.Read.remaining (inlet_reader (cert_inlet c.judge_head.new.reader))) (g.R.Read.remaining (inlet_reader (cert_inlet c.judge_entries.new.reader))) found
entries g c zs bits found is =
    let cut = c.args.cut.now in
    let f = claim_from cut (kept_items c.args.kept.now) in
    let places = c.in_ok-places.places.items in
    let v = c.judge_head.new.reader.version in
    let from = g.R.Read.remaining (inlet_reader (cert_inlet c.judge_head.new.reader)) in
    let to = g.R.Read.remaining (inlet_reader (cert_inlet c.judge_entries.new.reader)) in
    let judged = subst (λ ps. JudgesClaims v (map f ps) from to c.in_ok-verdict.verdict) c.deref.ensures.value c.in_ok-verdict.ensures.judged in
    claims_at cut zs f places (same_claims cut (kept_items c.args.kept.now) zs places c.in_ok-places.ensures.places c.in_ok-places.ensures.each bits) v from to c.in_ok-verdict.verdict found is judged

pub returns-in-Some : goal.returns-in-Some
returns-in-Some g c = record {
  judged = λ zs bits.
      head_rejected c.args.cut.now zs c.read_is_cert.ensures.head c.judge_head.new.reader.version _ (g.R.Read.remaining (inlet_reader (cert_inlet c.judge_head.new.reader))) c.in-Some.reason (head g (goal.at.returns-in-Some g c).In_ok-reason zs bits (Some c.in-Some.reason) c.in-Some.is);
  failures = omega (arith, c.in_ok-reason.ensures.failures);
}

pub returns-in-Rejected : goal.returns-in-Rejected
returns-in-Rejected g c = record {
  judged = λ zs bits.
      let at = goal.at.returns-in-Rejected g c in
      entries_rejected c.args.cut.now zs c.judge_head.new.reader.version _ _ (head g at.In_ok-reason zs bits None c.in_default.is) c.read_is_cert.ensures.only (g.R.Read.remaining (inlet_reader (cert_inlet c.judge_entries.new.reader))) c.in-Rejected.reason (entries g at.In_ok-verdict zs bits (Rejected c.in-Rejected.reason) c.in-Rejected.is);
  failures = omega (arith, c.in_ok-verdict.ensures.failures, c.in_ok-reason.ensures.failures);
}

pub returns-then-branch : goal.returns-then-branch
returns-then-branch g c = record {
  judged = λ zs bits.
      let at = goal.at.returns-then-branch g c in
      more_rejected c.args.cut.now zs c.judge_head.new.reader.version _ _ (head g at.In_ok-reason zs bits None c.in_default.is) _ c.in-Accepted.total (entries g at.In_ok-verdict zs bits (Accepted c.in-Accepted.total) c.in-Accepted.is) c.read_is_cert.ensures.only c.cert_goes_on.ensures.end (c.in_ok-has_more-in-Accepted.ensures.more c.if-branch.true);
  failures = omega (arith, c.in_ok-has_more-in-Accepted.ensures.failures, c.in_ok-verdict.ensures.failures, c.in_ok-reason.ensures.failures);
}

pub returns : goal.returns
returns g c = record {
  judged = λ zs bits.
      let at = goal.at.returns g c in
      all_accepted c.args.cut.now zs c.judge_head.new.reader.version _ _ (head g at.In_ok-reason zs bits None c.in_default.is) _ c.in-Accepted.total (entries g at.In_ok-verdict zs bits (Accepted c.in-Accepted.total) c.in-Accepted.is) c.read_is_cert.ensures.read (c.in_ok-has_more-in-Accepted.ensures.end c.if-branch.false);
  failures = omega (arith, c.in_ok-has_more-in-Accepted.ensures.failures, c.in_ok-verdict.ensures.failures, c.in_ok-reason.ensures.failures);
}

pub judge_head-requires : goal.judge_head-requires
judge_head-requires g c = record { ready = c.requires.ready; few = omega (arith, c.len.ensures, c.in_ok-places.ensures.few) }

pub judge_entries-requires : goal.judge_entries-requires
judge_entries-requires g c = record {
  ready = omega (arith, c.in_ok-reason.ensures.failures, c.requires.ready);
  head = c.in_ok-reason.ensures.read c.in_default.is;
  kept = c.requires.kept;
  each = rw c.deref.ensures.value c.in_ok-places.ensures.each;
  few = rw c.deref.ensures.value c.in_ok-places.ensures.few;
}
