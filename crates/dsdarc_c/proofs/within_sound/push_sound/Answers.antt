use Rattle.std.proofs.Common.{List, ℕ, ◌≡◌, ◌≤◌, ◌∙◌, ◌++◌, ap, append-nil, arith, length, refl, slice_range, subst, sym, ◌+◌}
use Rattle.player_core.specs.PartView.{part_start}
use Rattle.dsdarc_c.proofs.KeepLaws.{header_kept, played_on}
use Rattle.dsdarc_c.specs.Whole.{HasAt, IsPrefixOfFrames, PlaysStageOf}
use Rattle.dsdarc_c.specs.Pushing.{AreWholeFrames, IsAtStage, KeepsSound}
use Rattle.dsdarc_c.proofs.WaitingLaws.{more_whole, none_whole}
use Rattle.dsdarc_c.proofs.WholeLaws.{fewer_at, plays_on_of, prefix_in}
use Rattle.dsdarc_c.proofs.within_sound.push_sound.Goals as goal

pub returns-in-Ok-clause-keeps : goal.returns-in-Ok-clause-keeps
returns-in-Ok-clause-keeps c =
    let k = c.requires.sound in
    let l = k.playing in
    let bytes = c.split_at.result.0.now in
    let few : length bytes ≤ c.args.rest.left = omega (arith, c.min.ensures, c.split_at.ensures.front_len) in
    let on = c.in-Ok.ensures c.args.rest.sound l.start l.before l.given l.player l.played l.long in
    record {
      pulled = omega arith;
      stated = header_kept c.args.p.now.stated c.args.rest.sound c.args.p.now.header.items c.requires.known k.header;
      known = c.next_stage.ensures.known _ c.requires.known;
      stage = c.next_stage.ensures.keeps c.args.p.now.taps c.args.p.now.header.items _ k.header (played_on _ _ l.start l.before bytes l.given _ _ l.player c.in-Ok.played c.args.rest.left on l.long few) (omega (arith, k.place_is, few));
      whole = subst (λ o. AreWholeFrames c.args.p.now.taps o (length c.play_on.new.pending.items)) (sym c.requires.known) (more_whole c.args.p.now.taps c.args.rest.sound l.start l.before bytes l.given c.clear.new.self.items c.play_on.new.pending.items l.player c.args.rest.paused c.in-Ok.played l.played c.clear.ensures.items on);
    }

pub returns-in-Ok-clause-plays : goal.returns-in-Ok-clause-plays
returns-in-Ok-clause-plays c file start pulled of at =
    let p = c.args.p.now in
    let r = c.args.rest in
    let bytes = c.split_at.result.0.now in
    let few : length bytes ≤ r.left = omega (arith, c.min.ensures, c.split_at.ensures.front_len) in
    let some : c.min.result ≤ length c.args.piece.now = omega (arith, c.min.ensures) in
    let here : HasAt file p.place bytes = subst (HasAt file p.place) (sym c.split_at.ensures.front) (fewer_at file p.place c.args.piece.now c.min.result some at) in
    let on = c.in-Ok.ensures r.sound start (slice_range file (r.sound.start + part_start of.player) p.place) pulled of.player of.played of.long in
    let plays = plays_on_of p.taps file start pulled p.header.items p.place r.sound r.paused r.left of c.requires.sound.place_is bytes c.clear.new.self.items c.play_on.new.pending.items few here c.in-Ok.played c.play_on.new.pending.items refl c.clear.ensures.items on in
    record { stage = c.next_stage.ensures.plays p.taps file start (pulled ++ c.play_on.new.pending.items) p.header.items (p.place + length bytes) plays }

pub returns-in-Err-clause-plays : goal.returns-in-Err-clause-plays
returns-in-Err-clause-plays c file start pulled of at =
    let p = c.args.p.now in
    let r = c.args.rest in
    let out = pulled ++ c.clear-in-Err.new.self.items in
    let same : pulled ≡ out = sym (ap (λ xs. pulled ++ xs) c.clear-in-Err.ensures.items ∙ append-nil pulled) in
    let first = subst (IsPrefixOfFrames p.taps file start) same (prefix_in p.taps file start pulled p.header.items p.place r.sound r.paused r.left c.requires.sound of) in
    record { stage = subst (λ s. PlaysStageOf p.taps file start out p.header.items p.place s) (sym c.requires.failed) first }

pub returns-in-Ok-clause-whole : goal.returns-in-Ok-clause-whole
returns-in-Ok-clause-whole c =
    let l = c.requires.sound.playing in
    let bytes = c.split_at.result.0.now in
    let on = c.in-Ok.ensures c.args.rest.sound l.start l.before l.given l.player l.played l.long in
    let made = more_whole c.args.p.now.taps c.args.rest.sound l.start l.before bytes l.given c.clear.new.self.items c.play_on.new.pending.items l.player c.args.rest.paused c.in-Ok.played l.played c.clear.ensures.items on in
    subst (λ o. AreWholeFrames c.args.p.now.taps o (length c.play_on.new.pending.items)) (sym c.requires.known) made

-- after a refusal nothing is pending
pub returns-in-Err-clause-keeps : goal.returns-in-Err-clause-keeps
returns-in-Err-clause-keeps c =
    let p = c.args.p.now in
    record {
      pulled = omega arith;
      stated = header_kept p.stated c.args.rest.sound p.header.items c.requires.known c.requires.sound.header;
      known = subst (λ s. KeepsSound s p.stated) (sym c.requires.failed) tt;
      stage = subst (λ s. IsAtStage p.taps p.header.items p.place s) (sym c.requires.failed) tt;
      whole = subst (λ (xs : List ℕ). AreWholeFrames p.taps p.stated (length xs)) (sym c.clear-in-Err.ensures.items) (none_whole p.taps p.stated);
    }

pub returns-in-Err-clause-whole : goal.returns-in-Err-clause-whole
returns-in-Err-clause-whole c =
    let p = c.args.p.now in
    subst (λ (xs : List ℕ). AreWholeFrames p.taps p.stated (length xs)) (sym c.clear-in-Err.ensures.items) (none_whole p.taps p.stated)
