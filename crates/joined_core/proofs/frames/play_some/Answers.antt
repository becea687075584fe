use Rattle.joined_core.proofs.FrameLaws.{Resumed, few_on, plays_on, ready_on}
use Rattle.joined_core.proofs.frames.play_some.Goals as goal
use Rattle.joined_core.proofs.frames.play_some.Goals.{After-resume-player}

resumed : (c : After-resume-player) → Resumed c.args.taps.now c.args.paused c.resume-player.result
resumed c = record { filter = c.resume-player.ensures.filter; same = c.resume-player.ensures.same; ready = c.resume-player.ensures.ready; fed = c.resume-player.ensures.fed }

pub feed-requires-clause-ready : goal.feed-requires-clause-ready
feed-requires-clause-ready c =
    let l = c.requires.left in
    ready_on c.args.taps.now l.0 l.1 l.2 l.3 c.args.paused c.resume-player.result (resumed (goal.at.feed-requires-clause-ready c).After-resume-player) l.4

pub feed-requires-clause-few : goal.feed-requires-clause-few
feed-requires-clause-few c =
    let l = c.requires.left in
    few_on c.args.taps.now l.0 l.1 l.2 l.3 c.args.paused c.resume-player.result (resumed (goal.at.feed-requires-clause-few c).After-resume-player) l.4 _ l.5

pub returns : goal.returns
returns c =
    let ok = c.in_ok-feed.ensures.ok in
    record {
      more = ok.0;
      appends = ok.1;
      plays = λ s before given p h. (
        c.feed.new.self,
        plays_on c.args.taps.now s before given p c.args.paused c.resume-player.result (resumed (goal.at.returns c).After-resume-player) h c.feed.new.self c.in_ok-feed.ensures.same c.args.bytes.now ok.0 ok.2 c.of.result c.of.ensures c.in_ok-feed.ensures.ready,
      );
    }
