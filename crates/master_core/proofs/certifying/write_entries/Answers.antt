use Rattle.std.proofs.Common.{◌≡◌, ◌-◌, ◌<◌, ◌^◌, List, length, get_or, take, refl, subst, sym, arith, ◌∙◌}
use Rattle.std.proofs.lemmas.List.{take_all}
use Rattle.std.proofs.KnownBytes.{Appends-nil}
use Rattle.std.proofs.lemmas.Result.{err_from_is_err_and}
use Rattle.cert_core.specs.Certificates.{Claim}
use Rattle.cert_core.specs.Writers.{cert_outlet}
use Rattle.cut_core.specs.Bridges.{IsPlace}
use Rattle.cut_core.proofs.CutLaws.{first_shape}
use Rattle.chunk_core.specs.Outlets.{outlet_writer}
use Rattle.trellis_core.specs.Passes.{HasBuffers}
use Rattle.master_core.specs.Certifying.{AppendsEntries, IsBetweenEntries}
use Rattle.master_core.specs.Choosing.{chosen_claims}
use Rattle.master_core.proofs.CertLaws.{cut_short, entry_more}
use Rattle.master_core.proofs.ChoiceLaws.{as_many, as_many_windows, chosen_is, claim_is, claim_number, weights_are}
use Rattle.master_core.proofs.certifying.write_entries.Goals as goal
use Rattle.master_core.proofs.certifying.write_entries.Goals.{After-index-in-loop-k}
use Rattle.master_core.proofs.certifying.write_entries.Given.{Over}

pub index-requires-in-loop-k : goal.index-requires-in-loop-k
index-requires-in-loop-k g c =
    let made = c.args.bridges.now in
    omega (arith, as_many c.args.cut.now made c.requires.bridges, c.loop-k-test.true, c.len-k-end.ensures, made.chosen.ok.0, made.places.ok.0)

-- ---- the bridge of this step
module _ (g : Over) (c : After-index-in-loop-k g) where
  there : c.loop-k.k < length c.args.bridges.now.places.items
  there = omega (arith, c.loop-k-test.true, c.len-k-end.ensures, c.args.bridges.now.places.ok.0)

  abbrev claim : Claim
  claim = record { cue = c.index.result.now.cue; channel = c.index.result.now.channel; bridging = c.index-window.result.now; bits = c.index-in-loop-k.result.now.bits }

  abbrev claims : List Claim
  claims = chosen_claims c.args.cut.now c.args.bridges.now.places.items c.args.bridges.now.chosen.items

  claim_there : c.loop-k.k < length claims
  claim_there = omega (arith, there, claim_number c.args.cut.now c.args.bridges.now c.requires.bridges)

  is : get_or claims c.loop-k.k claim ≡ claim
  is = claim_is c.args.cut.now c.args.bridges.now c.requires.bridges c.loop-k.k c.index.result.now c.index-window.result.now c.index-in-loop-k.result.now there (sym c.index.ensures) (sym c.index-window.ensures) (sym c.index-in-loop-k.ensures)

  weights : length c.index-window.result.now.weights ≡ length c.args.cut.now.splice.weights
  weights = weights_are c.args.cut.now c.args.bridges.now c.requires.bridges c.loop-k.k c.index.result.now c.index-window.result.now c.index-in-loop-k.result.now there (sym c.index.ensures) (sym c.index-window.ensures) (sym c.index-in-loop-k.ensures) c.can_cut.ensures

  place : IsPlace c.args.cut.now c.index.result.now
  place = subst (IsPlace c.args.cut.now) (sym c.index.ensures) (c.requires.bridges.each_there c.loop-k.k c.index.result.now there)

pub write_entry-requires-clause-cue : goal.write_entry-requires-clause-cue
write_entry-requires-clause-cue g c = omega (arith, (place g (goal.at.write_entry-requires-clause-cue g c).After-index-in-loop-k).cue_there, c.can_cut.ensures.splicing.few_cues)

pub write_entry-requires-clause-channel : goal.write_entry-requires-clause-channel
write_entry-requires-clause-channel g c = omega (arith, (place g (goal.at.write_entry-requires-clause-channel g c).After-index-in-loop-k).channel_there, (first_shape c.args.cut.now c.can_cut.ensures).six_channels)

pub write_entry-requires-clause-chosen : goal.write_entry-requires-clause-chosen
write_entry-requires-clause-chosen g c =
    chosen_is c.args.cut.now c.args.bridges.now c.requires.bridges c.loop-k.k c.index.result.now c.index-window.result.now c.index-in-loop-k.result.now (there g (goal.at.write_entry-requires-clause-chosen g c).After-index-in-loop-k) (sym c.index.ensures) (sym c.index-window.ensures) (sym c.index-in-loop-k.ensures)

pub write_entry-requires-clause-room : goal.write_entry-requires-clause-room
write_entry-requires-clause-room g c =
    subst (λ n. HasBuffers (2 ^ (n - 1)) c.loop-k.pass) (sym (weights g (goal.at.write_entry-requires-clause-room g c).After-index-in-loop-k)) c.loop-k.invariant.room

pub write_entry-requires-clause-ready : goal.write_entry-requires-clause-ready
write_entry-requires-clause-ready g c =
    subst (λ n. IsBetweenEntries n c.loop-k.writer) (sym (weights g (goal.at.write_entry-requires-clause-ready g c).After-index-in-loop-k)) c.loop-k.invariant.ready

pub returns-in_err-write_entry : goal.returns-in_err-write_entry
returns-in_err-write_entry g c = record {
  ok = let e = err_from_is_err_and c.from_residual.result c.from_residual.ensures.1 in rw e.1 tt;
  err = let here = (goal.at.returns-in_err-write_entry g c).After-index-in-loop-k in
      let p = err_from_is_err_and c.from_residual.result c.from_residual.ensures.1 in
      let a = g.W.Write.contents (outlet_writer (cert_outlet c.args.writer.now)) in
      let b = g.W.Write.contents (outlet_writer (cert_outlet c.loop-k.writer)) in
      let e = g.W.Write.contents (outlet_writer (cert_outlet c.write_entry.new.writer)) in
      rw p.1 (cut_short (claims g here) c.loop-k.k (claim g here) (claim_there g here) (is g here) a b e c.loop-k.invariant.written c.in_err-write_entry.ensures.err);
  failed = let e = err_from_is_err_and c.from_residual.result c.from_residual.ensures.1 in rw e.1 c.in_err-write_entry.ensures.failed;
  before = c.write_entry.ensures.before ∙ c.loop-k.invariant.before;
}

pub loop-k-preserved : goal.loop-k-preserved
loop-k-preserved g c =
    let here = (goal.at.loop-k-preserved g c).After-index-in-loop-k in
    let so_far = c.loop-k.invariant in
    let made = c.in_ok-write_entry.ensures in
    let a = g.W.Write.contents (outlet_writer (cert_outlet c.args.writer.now)) in
    let b = g.W.Write.contents (outlet_writer (cert_outlet c.loop-k.writer)) in
    let e = g.W.Write.contents (outlet_writer (cert_outlet c.write_entry.new.writer)) in
    record {
      written = entry_more (claims g here) c.loop-k.k (claim g here) (claim_there g here) (is g here) a b e so_far.written made.ok;
      ready = subst (λ n. IsBetweenEntries n c.write_entry.new.writer) (weights g here) made.ready;
      left = omega (arith, so_far.left, made.left);
      before = c.write_entry.ensures.before ∙ so_far.before;
      room = subst (λ n. HasBuffers (2 ^ (n - 1)) c.write_entry.new.pass) (weights g here) made.room;
    }

pub returns : goal.returns
returns g c = record {
  ok = let made = c.args.bridges.now in
      let claims = chosen_claims c.args.cut.now made.places.items made.chosen.items in
      let all : take c.loop-k.k claims ≡ claims = take_all c.loop-k.k claims (omega (arith, c.loop-k-test.false, c.len-k-end.ensures, made.places.ok.0, claim_number c.args.cut.now made c.requires.bridges)) in
      subst (λ (l : List Claim). AppendsEntries l (g.W.Write.contents (outlet_writer (cert_outlet c.args.writer.now))) (g.W.Write.contents (outlet_writer (cert_outlet c.loop-k.writer)))) all c.loop-k.invariant.written;
  err = tt;
  failed = c.loop-k.invariant.ready.fine;
  before = c.loop-k.invariant.before;
}

pub write_entry-requires-clause-entries : goal.write_entry-requires-clause-entries
write_entry-requires-clause-entries g c = omega (arith, c.loop-k.invariant.left, there g (goal.at.write_entry-requires-clause-entries g c).After-index-in-loop-k)

pub loop-k-init : goal.loop-k-init
loop-k-init g c = record { written = Appends-nil (g.W.Write.contents (outlet_writer (cert_outlet c.args.writer.now))); ready = c.requires.ready; left = omega (arith, c.requires.entries); before = refl; room = c.requires.room }

pub index-window-requires : goal.index-window-requires
index-window-requires g c =
    let made = c.args.bridges.now in
    omega (arith, as_many_windows c.args.cut.now made c.requires.bridges, c.loop-k-test.true, c.len-k-end.ensures, made.windows.ok.0, made.places.ok.0)
