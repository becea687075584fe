use Rattle.std.proofs.Common.{◌≡◌, ◌+◌, ◌∙◌, Err, add-zero, ap, arith, length, subst, sym}
use Rattle.std.proofs.lemmas.Result.{err_from_is_err_and}
use Rattle.std.specs.Result.{IfOk}
use Rattle.dsd_bits.proofs.ExitLaws.{no_ok, no_value}
use Rattle.chunk_core.specs.Inlets.{inlet_failures, inlet_reader}
use Rattle.cert_core.specs.Readers.{cert_inlet, failed_checks}
use Rattle.cost_core.specs.Bridges.{Bridging}
use Rattle.cut_core.specs.Cuts as cuts
use Rattle.cut_core.proofs.CutLaws.{first_shape}
use Rattle.judge_core.specs.Kept.{kept_at, kept_items}
use Rattle.judge_core.specs.Judging.{JudgesClaim}
use Rattle.judge_core.proofs.EntryLaws.{claim_is}
use Rattle.judge_core.proofs.entries.judge_entry.Goals as goal

pub check_bits-requires : goal.check_bits-requires
check_bits-requires g c =
    let place = c.requires.place in
    let can = c.can_cut.ensures in
    let levels = ap (λ (d : Bridging). d.levels) c.in_ok-window.ensures ∙ (can.windowed c.args.place.channel c.args.place.cue place.channel_there place.cue_there).levels in
    record {
      ready = c.requires.ready;
      head = c.requires.head;
      cue = omega (arith, place.cue_there, can.splicing.few_cues);
      channel = omega (arith, (first_shape c.args.cut.now can).six_channels, place.channel_there);
      bits = ap length c.kept_in-bits.ensures ∙ c.requires.kept.long c.args.place.channel c.args.place.cue place.channel_there place.cue_there ∙ sym levels;
    }

pub returns : goal.returns
returns g c = record {
  judged = let cut = c.args.cut.now in
      let place = c.args.place in
      let from = g.R.Read.remaining (inlet_reader (cert_inlet c.args.reader.now)) in
      let to = g.R.Read.remaining (inlet_reader (cert_inlet c.check_bits.new.reader)) in
      let window = c.in_ok-window.window in
      let bits = c.kept_in-bits.result.now in
      let same = claim_is place.cue place.channel window (cuts.window cut place.channel place.cue) bits (kept_at (kept_items c.args.kept.now) place.channel place.cue) c.in_ok-window.ensures c.kept_in-bits.ensures in
      subst (λ claim. IfOk c.check_bits.result (JudgesClaim c.args.reader.now.version claim from to)) same c.check_bits.ensures.judged;
  failures = c.check_bits.ensures.failures;
  read = c.check_bits.ensures.read;
  version = c.check_bits.ensures.version;
}

pub returns-in_err-window : goal.returns-in_err-window
returns-in_err-window g c =
    let r = c.from_residual.result in
    let e = err_from_is_err_and r c.from_residual.ensures.1 in
    let failures = inlet_failures (cert_inlet c.args.reader.now) in
    record {
      judged = no_value _ _ r c.from_residual.ensures.1;
      failures = subst (λ r. failures ≡ failures + failed_checks r) (sym (e.1 ∙ ap Err e.2)) (sym (add-zero _));
      read = no_ok _ _ r c.from_residual.ensures.1;
      version = no_ok _ _ r c.from_residual.ensures.1;
    }

pub window-requires : goal.window-requires
window-requires g c = c.requires.place

pub kept_in-bits-requires : goal.kept_in-bits-requires
kept_in-bits-requires g c =
    let place = c.requires.place in
    record { cue = omega (arith, c.requires.kept.by_cue, place.cue_there); channel = omega (arith, c.requires.kept.by_channel c.args.place.cue place.cue_there, place.channel_there) }
