use Rattle.std.proofs.Common.{◌≡◌, List, ℕ, ◌∙◌, ap, length, sym}
use Rattle.fir_core.specs.Decimator.{Decimator}
use Rattle.dsd_bits.specs.declared.sound.Sound.{Sound}
use Rattle.player_core.specs.Due.{due_bytes}
use Rattle.player_core.specs.PartView.{IsPartFed, part_filter}
use Rattle.player_core.specs.PausedView.{IsPausedPart}
use Rattle.player_core.specs.PlayerView.{filter_of, sound_of}
use Rattle.player_core.specs.declared.parts.PartPlayer.{PartPlayer}
use Rattle.player_core.proofs.pausing.PausedPart.resume.Goals as goal
use Rattle.player_core.proofs.pausing.PausedPart.resume.Goals.{After-resume}

fed_again : (c : After-resume) (p : PartPlayer) (bytes : List ℕ) → IsPausedPart p c.args.self → part_filter p ≡ c.args.taps.now → IsPartFed p bytes
    → IsPartFed (record { player = c.resume.result; start = c.args.self.start; skip = c.args.self.skip; stop = c.args.self.stop; given = c.args.self.given; own = c.args.self.own }) bytes
fed_again c p bytes is filter h =
    let same = (c.resume.ensures.same p.player is.player).0 in
    let e : due_bytes (filter_of p.player) (sound_of p.player) bytes ≡ due_bytes (filter_of c.resume.result) (sound_of c.resume.result) bytes =
    ap (λ (d : Decimator). due_bytes d (sound_of p.player) bytes) (filter ∙ sym c.resume.ensures.filter) ∙ ap (λ (s : Sound). due_bytes (filter_of c.resume.result) s bytes) (sym same) in
    record { fed = c.resume.ensures.fed p.player bytes is.player h.fed; given = is.given ∙ h.given ∙ ap length e }

pub returns-clause-fed : goal.returns-clause-fed
returns-clause-fed c p bytes is filter h = fed_again (goal.at.returns-clause-fed c).After-resume p bytes is filter h

pub returns-clause-ready : goal.returns-clause-ready
returns-clause-ready c p is filter h = record {
  player = c.resume.ensures.ready p.player is.player filter h.player;
  history = (h.history.0, fed_again (goal.at.returns-clause-ready c).After-resume p h.history.0 is filter h.history.1);
}

pub returns-clause-same : goal.returns-clause-same
returns-clause-same c p is =
    let same = c.resume.ensures.same p.player is.player in
    record { rest = same.0; fed = same.1; start = is.start; skip = is.skip; stop = is.stop }
