use Rattle.std.proofs.Common.{◌≡◌, ◌∙◌, ◌*◌, [], ap, arith, refl, subst, zero-mul}
use Rattle.std.specs.Int.{div_ceil}
use Rattle.dsd_bits.specs.declared.sound.Sound.{Sound}
use Rattle.player_core.specs.PartView.{IsPartOf}
use Rattle.player_core.specs.Groups.{group_size}
use Rattle.player_core.specs.PartView.{part_start}
use Rattle.player_core.specs.Parts.{groups_before}
use Rattle.dsdarc_c.proofs.WholeLaws.{none_before, plays_at_first}
use Rattle.dsdarc_c.proofs.within_sound.rest_from.Goals as goal

pub returns-clause-rest : goal.returns-clause-rest
returns-clause-rest c =
    let d = c.args.taps.now in
    let s = c.args.sound in
    let total = c.div_ceil-total.ensures ∙ ap (λ n. div_ceil s.count n) c.factor.ensures.value in
    let part = subst (λ n. IsPartOf d s c.args.frame n c.in_ok-player.player) total c.in_ok-player.ensures.part in (
      refl,
      record {
        playing = record {
          start = c.args.frame;
          before = [];
          given = _;
          player = c.in_ok-player.player;
          played = record { paused = c.of.ensures; part = part; ready = c.in_ok-player.ensures.ready; fed = c.in_ok-player.ensures.fed; due = refl };
          long = omega (arith, c.saturating_sub-left.ensures, c.start.ensures, part.start_is, ap (λ (t : Sound). t.size) part.rest_is);
        };
        few = omega (arith, c.saturating_sub-left.ensures);
      },
    )

pub returns-clause-plays : goal.returns-clause-plays
returns-clause-plays c file header begins =
    let d = c.args.taps.now in
    let s = c.args.sound in
    let total = c.div_ceil-total.ensures ∙ ap (λ n. div_ceil s.count n) c.factor.ensures.value in
    let part = subst (λ n. IsPartOf d s c.args.frame n c.in_ok-player.player) total c.in_ok-player.ensures.part in
    plays_at_first d file c.args.frame header s c.in_ok-player.player c.of.result c.saturating_sub-left.result begins c.of.ensures part c.in_ok-player.ensures.ready c.in_ok-player.ensures.fed (omega (arith, c.saturating_sub-left.ensures, c.start.ensures))

pub returns-clause-first : goal.returns-clause-first
returns-clause-first c first =
    let d = c.args.taps.now in
    let s = c.args.sound in
    let size = group_size s.interleaving s.channels in
    let none : part_start c.in_ok-player.player ≡ 0 = c.in_ok-player.ensures.part.start_is ∙ ap (λ n. groups_before d s.interleaving n * size) first ∙ ap (λ n. n * size) (none_before d s.interleaving) ∙ zero-mul size in
    omega (arith, none, c.saturating_sub-left.ensures, c.start.ensures)
