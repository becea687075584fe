use Rattle.std.proofs.Common.{◌≡◌, ◌+◌, ◌<◌, ◌∙◌, List, ℕ, ap, arith, get_or, length, map, subst, sum_by, sym, take}
use Rattle.std.proofs.lemmas.Result.{IfOk-from_err, err_from_is_err_and}
use Rattle.std.specs.List.{All}
use Rattle.std.proofs.lemmas.List.{get_or-map, length-map, take_all}
use Rattle.std.proofs.lemmas.List.Elements.{All-more}
use Rattle.std.proofs.lemmas.List.Sums.{sum_by_more}
use Rattle.chunk_core.specs.Inlets.{inlet_reader}
use Rattle.cert_core.specs.Certificates.{Claim}
use Rattle.cert_core.specs.Readers.{cert_inlet}
use Rattle.judge_core.specs.Judging.{JudgesClaim, LacksClaim, ReadsEntries, ShowsClaim}
use Rattle.cut_core.specs.Claims.{IsLeastClaim, claim_cost}
use Rattle.judge_core.specs.Kept.{claim_from, kept_items}
use Rattle.judge_core.proofs.EntryLaws.{lacks_one, shown_more}
use Rattle.judge_core.proofs.entries.judge_entries.Goals as goal

pub returns-in-Rejected : goal.returns-in-Rejected
returns-in-Rejected g c = record {
  judged = let f = claim_from c.args.cut.now (kept_items c.args.kept.now) in
      let places = c.args.places.now in
      let v = c.args.reader.now.version in
      let k = c.loop-k.k in
      let claim = f (get_or places k (record { cue = 0; channel = 0 })) in
      let from = g.R.Read.remaining (inlet_reader (cert_inlet c.args.reader.now)) in
      let here = g.R.Read.remaining (inlet_reader (cert_inlet c.loop-k.reader)) in
      let to = g.R.Read.remaining (inlet_reader (cert_inlet c.judge_entry.new.reader)) in
      let lt : k < length (map f places) = omega (arith, length-map places f) in
      let is : get_or (map f places) k claim ≡ claim = get_or-map f places k (record { cue = 0; channel = 0 }) claim c.loop-k-test.true in
      let lacks : LacksClaim v claim here c.in-Rejected.reason = subst (λ x. JudgesClaim v claim here to x) c.in-Rejected.is (subst (λ x. JudgesClaim x claim here to c.in_ok-cost.field-0) c.loop-k.invariant.version c.in_ok-cost.ensures.judged) in
      lacks_one v (map f places) k claim lt is from here c.loop-k.invariant.entries c.cert_goes_on.ensures.next c.in-Rejected.reason lacks;
  failures = omega (arith, c.in_ok-cost.ensures.failures, c.loop-k.invariant.failures);
}

-- the costs with one more
costs_more : (cs : List Claim) (claim : Claim) (k total cost : ℕ) → k < length cs → get_or cs k claim ≡ claim → total ≡ sum_by claim_cost (take k cs) → cost ≡ claim_cost claim → total + cost ≡ sum_by claim_cost (take (k + 1) cs)
costs_more cs claim k total cost lt is so_far own = omega (arith, so_far, own, sum_by_more claim_cost cs k claim lt, ap claim_cost is)

pub loop-k-preserved : goal.loop-k-preserved
loop-k-preserved g c =
    let f = claim_from c.args.cut.now (kept_items c.args.kept.now) in
    let places = c.args.places.now in
    let v = c.args.reader.now.version in
    let k = c.loop-k.k in
    let claim = f (get_or places k (record { cue = 0; channel = 0 })) in
    let from = g.R.Read.remaining (inlet_reader (cert_inlet c.args.reader.now)) in
    let here = g.R.Read.remaining (inlet_reader (cert_inlet c.loop-k.reader)) in
    let to = g.R.Read.remaining (inlet_reader (cert_inlet c.judge_entry.new.reader)) in
    let lt : k < length (map f places) = omega (arith, length-map places f) in
    let is : get_or (map f places) k claim ≡ claim = get_or-map f places k (record { cue = 0; channel = 0 }) claim c.loop-k-test.true in
    let shows : ShowsClaim v claim here to c.in-Accepted.cost = subst (λ x. JudgesClaim v claim here to x) c.in-Accepted.is (subst (λ x. JudgesClaim x claim here to c.in_ok-cost.field-0) c.loop-k.invariant.version c.in_ok-cost.ensures.judged) in
    let so = c.loop-k.invariant in
    record {
      entries = shown_more v (map f places) k claim lt is from here so.entries c.read_is_cert.ensures.more to shows.entry;
      cost_is = costs_more (map f places) claim k c.loop-k.total c.from-total.result lt is so.cost_is (c.from-total.ensures ∙ shows.cost_is);
      bound = omega (arith, so.bound, c.from-total.ensures);
      least = All-more IsLeastClaim (map f places) k claim lt so.least (subst IsLeastClaim (sym is) shows.least);
      read = c.in_ok-cost.ensures.read;
      version = c.in_ok-cost.ensures.version ∙ so.version;
      failures = omega (arith, c.in_ok-cost.ensures.failures, so.failures);
    }

pub returns : goal.returns
returns g c = record {
  judged = let f = claim_from c.args.cut.now (kept_items c.args.kept.now) in
      let places = c.args.places.now in
      let from = g.R.Read.remaining (inlet_reader (cert_inlet c.args.reader.now)) in
      let here = g.R.Read.remaining (inlet_reader (cert_inlet c.loop-k.reader)) in
      let so = c.loop-k.invariant in
      let all : take c.loop-k.k (map f places) ≡ map f places = take_all c.loop-k.k (map f places) (omega (arith, length-map places f)) in
      record {
        entries = subst (λ l. ReadsEntries c.args.reader.now.version l from here) all so.entries;
        cost_is = subst (λ l. c.loop-k.total ≡ sum_by claim_cost l) all so.cost_is;
        least = subst (λ l. All IsLeastClaim l) all so.least;
      };
  failures = omega (arith, c.loop-k.invariant.failures);
}

pub returns-in_err-cost : goal.returns-in_err-cost
returns-in_err-cost g c = record {
  judged = IfOk-from_err c.from_residual.result _ c.from_residual.ensures.0;
  failures = let e = err_from_is_err_and c.from_residual.result c.from_residual.ensures.1 in rw (e.1, e.2) (omega (arith, c.in_err-cost.ensures.failures, c.loop-k.invariant.failures));
}

pub offset_bounds-places-k : goal.offset_bounds-places-k
offset_bounds-places-k g c = omega (arith, c.loop-k-test.true, c.requires.few)

pub bounds-places-k : goal.bounds-places-k
bounds-places-k g c = c.loop-k-test.true

pub judge_entry-requires : goal.judge_entry-requires
judge_entry-requires g c = record {
  ready = omega (arith, c.loop-k.invariant.failures, c.requires.ready);
  head = c.loop-k.invariant.read;
  kept = c.requires.kept;
  place = c.requires.each c.loop-k.k (record { cue = 0; channel = 0 }) c.loop-k-test.true;
}

pub overflow_add-total : goal.overflow_add-total
overflow_add-total g c = omega (arith, c.loop-k.invariant.bound, c.from-total.ensures, c.loop-k-test.true, c.requires.few)
