use Rattle.std.proofs.Common.{◌≡◌, ◌^◌, ◌∙◌, [], ap, ap₂, arith, refl, subst, sym}
use Rattle.std.specs.Int.{div_ceil}
use Rattle.dsd_bits.specs.declared.sound.Sound.{Sound}
use Rattle.player_core.specs.Laws.{total_frames}
use Rattle.player_core.specs.PartView.{IsPartOf}
use Rattle.joined_core.specs.Frames.{HasGivenFrames, longest}
use Rattle.joined_core.specs.declared.frames.FrameGiver.{FrameGiver}
use Rattle.joined_core.proofs.FrameLaws.{is_sound, nothing_given}
use Rattle.joined_core.proofs.frames.FrameGiver.new.Goals as goal
use Rattle.joined_core.proofs.frames.FrameGiver.new.Goals.{After-new-2}

pub new-requires-clause-sound : goal.new-requires-clause-sound
new-requires-clause-sound c = rw c.joined_sound-sound.ensures (is_sound c.args.rate c.args.channels (2 ^ 33) c.requires.rate c.requires.channels.0 c.requires.channels.1 (omega arith))

pub new-requires-clause-whole : goal.new-requires-clause-whole
new-requires-clause-whole c = rw c.joined_sound-sound.ensures (λ _. omega arith)

pub new-requires-clause-inside : goal.new-requires-clause-inside
new-requires-clause-inside c =
    let is : c.div_ceil-total.result ≡ total_frames c.args.taps c.joined_sound-sound.result = c.div_ceil-total.ensures ∙ ap (div_ceil c.joined_sound-sound.result.count) c.factor.ensures.value in
    omega (arith, is)

-- the sound is the longest one
longest_is : (c : After-new-2) → c.joined_sound-sound.result ≡ longest c.joined_sound-sound.result.rate c.joined_sound-sound.result.channels
longest_is c =
    let e = c.joined_sound-sound.ensures in
    e ∙ sym (ap₂ longest (ap (λ (s : Sound). s.rate) e) (ap (λ (s : Sound). s.channels) e))

abbrev made : (c : After-new-2) → FrameGiver
made c = record { taps = c.args.taps; sound = c.joined_sound-sound.result; paused = c.of-paused.result; fed = 0; number = 0; tail = c.new-2.result }

given : (c : After-new-2) → HasGivenFrames [] [] (made c)
given c =
    let e = c.in_ok-player.ensures in
    let is : c.div_ceil-total.result ≡ total_frames c.args.taps c.joined_sound-sound.result = c.div_ceil-total.ensures ∙ ap (div_ceil c.joined_sound-sound.result.count) c.factor.ensures.value in
    let part = subst (λ t. IsPartOf c.args.taps c.joined_sound-sound.result 0 t c.in_ok-player.player) is e.part in
    nothing_given (made c) c.in_ok-player.player c.factor.ensures.limits (longest_is c) refl refl c.new-2.ensures.items c.of-paused.ensures part e.ready e.fed

pub returns-clause-given : goal.returns-clause-given
returns-clause-given c = given (goal.at.returns-clause-given c).After-new-2

pub returns-clause-ready : goal.returns-clause-ready
returns-clause-ready c =
    let e = (goal.at.returns-clause-ready c).After-new-2 in
    let channels = ap (λ (s : Sound). s.channels) c.joined_sound-sound.ensures in
    record {
      limits = c.factor.ensures.limits;
      some = omega (arith, channels, c.requires.channels.0);
      six = omega (arith, channels, c.requires.channels.1);
      rate = rw c.joined_sound-sound.ensures c.requires.rate;
      longest_is = longest_is e;
      few = omega (arith, channels, c.requires.channels.0);
      history = ([], [], given e);
    }

pub returns-clause-same : goal.returns-clause-same
returns-clause-same c = (refl, ap (λ (s : Sound). s.rate) c.joined_sound-sound.ensures, ap (λ (s : Sound). s.channels) c.joined_sound-sound.ensures)
