use Rattle.std.proofs.Common.{List, refl, sym, ℕ}
use Rattle.player_core.specs.PausedView.{IsPaused}
use Rattle.player_core.specs.PlayerView.{IsPlayerFed}
use Rattle.player_core.specs.declared.pausing.PausedPlayer.{PausedPlayer}
use Rattle.player_core.specs.declared.player.Player.{Player}
use Rattle.player_core.proofs.pausing.PausedPlayer.resume.Goals as goal

-- it was fed the same
fed_again : (taps : _) (q : PausedPlayer) (p : Player) (came : List ℕ) → IsPaused p q → IsPlayerFed p came
    → IsPlayerFed (record { taps = taps; sound = q.sound; fed = q.fed; streams = q.streams; held = q.held; own = q.own; tile = q.tile }) came
fed_again taps q p came is h = rw (is.sound, is.fed, is.streams, is.held) (record { fed = h.fed; held = h.held; each = h.each })

pub returns : goal.returns
returns c = record {
  filter = refl;
  same = λ p is. (is.sound, is.fed);
  ready = λ p is filter h. record {
    sound = rw is.sound h.sound;
    whole = rw is.sound h.whole;
    within = rw (is.sound, is.fed) h.within;
    number = rw (is.sound, is.streams) h.number;
    each = rw (is.sound, is.fed, is.streams, sym filter) h.each;
    history = (h.history.0, fed_again c.args.taps c.args.self p h.history.0 is h.history.1);
  };
  fed = fed_again c.args.taps c.args.self;
}
