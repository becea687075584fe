use Rattle.std.proofs.Common.{◌++◌, ◌∙◌, ap, append_assoc, arith, length-append}
use Rattle.dsd_bits.specs.declared.sound.Sound.{Sound}
use Rattle.dsdarc_c.proofs.PlayLaws.{Resumed, all_on, ends_on, fed_on, few_on, plays_on, ready_on, same_on}
use Rattle.dsdarc_c.proofs.playing.play_on.Goals as goal
use Rattle.dsdarc_c.proofs.playing.play_on.Goals.{After-resume-player}

resumed : (c : After-resume-player) → Resumed c.args.taps.now c.args.paused c.resume-player.result
resumed c = record { filter = c.resume-player.ensures.filter; same = c.resume-player.ensures.same; ready = c.resume-player.ensures.ready; fed = c.resume-player.ensures.fed }

pub feed-requires-clause-ready : goal.feed-requires-clause-ready
feed-requires-clause-ready c =
    let l = c.requires.left in
    ready_on c.args.taps.now l.0 l.1 l.2 l.3 l.4 c.args.paused c.resume-player.result (resumed (goal.at.feed-requires-clause-ready c).After-resume-player) l.5

pub feed-requires-clause-few : goal.feed-requires-clause-few
feed-requires-clause-few c =
    let l = c.requires.left in
    few_on c.args.taps.now l.0 l.1 l.2 l.3 l.4 c.args.paused c.resume-player.result (resumed (goal.at.feed-requires-clause-few c).After-resume-player) l.5 _ _ c.requires.few l.6

pub finish-requires-clause-all : goal.finish-requires-clause-all
finish-requires-clause-all c =
    let l = c.requires.left in
    let r = resumed (goal.at.finish-requires-clause-all c).After-resume-player in
    let fed = fed_on c.args.taps.now l.0 l.1 l.2 l.3 l.4 c.args.paused c.resume-player.result r l.5 in
    let same = same_on c.args.taps.now l.0 l.1 l.2 l.3 l.4 c.args.paused c.resume-player.result r l.5 in
    omega (arith, l.6, fed.fed.fed, c.if-bytes-left.true, c.in_ok-feed.ensures.fed, ap (λ (s : Sound). s.size) (c.in_ok-feed.ensures.same.rest ∙ same.rest))

pub finish-requires-clause-ready : goal.finish-requires-clause-ready
finish-requires-clause-ready c = c.in_ok-feed.ensures.ready

pub returns-then-bytes-left : goal.returns-then-bytes-left
returns-then-bytes-left c s start before given p h all =
    let r = resumed (goal.at.returns-then-bytes-left c).After-resume-player in
    let ok = c.in_ok-feed.ensures.ok in
    let end = c.in_ok-finish.ensures.ok in (
      ok.0 ++ end.0,
      end.1 ∙ ap (λ xs. xs ++ end.0) ok.1 ∙ append_assoc _ ok.0 end.0,
      omega (arith, all, c.if-bytes-left.true, length-append before c.args.bytes.now),
      ends_on c.args.taps.now s start before given p c.args.paused c.resume-player.result r h c.feed.new.self c.in_ok-feed.ensures.same c.args.bytes.now ok.0 ok.2 end.0 end.2,
    )

pub returns : goal.returns
returns c s start before given p h all =
    let r = resumed (goal.at.returns c).After-resume-player in
    let ok = c.in_ok-feed.ensures.ok in
    let same = all_on c.args.taps.now s start before given p c.args.paused c.resume-player.result r h c.feed.new.self c.in_ok-feed.ensures.same c.args.bytes.now ok.0 ok.2 in (
      ok.0,
      ok.1,
      omega (arith, all, c.requires.few, c.if-bytes-left.false, length-append before c.args.bytes.now),
      (
        c.feed.new.self,
        same.rest,
        same.start,
        plays_on c.args.taps.now s start before given p c.args.paused c.resume-player.result r h c.feed.new.self c.in_ok-feed.ensures.same c.args.bytes.now ok.0 ok.2 c.of.result c.of.ensures c.in_ok-feed.ensures.ready,
      ),
    )
