use Rattle.std.proofs.Common.{[], ap, arith, subst, sym}
use Rattle.dsd_bits.specs.declared.sound.Sound.{Sound}
use Rattle.dsdarc_c.specs.Pushing.{IsPushedHeader}
use Rattle.dsdarc_c.proofs.WholeLaws.{nothing_at}
use Rattle.dsdarc_c.proofs.seeking.seek_in.Goals as goal

pub push_sound-requires-clause-sound : goal.push_sound-requires-clause-sound
push_sound-requires-clause-sound c =
    let e = c.in_ok-rest.ensures.rest.0 in
    record {
      header = subst (IsPushedHeader c.args.p.now.header.items) (sym e) c.requires.header;
      playing = c.in_ok-rest.ensures.rest.1.playing;
      place_is = omega (arith, c.in_ok-rest.ensures.rest.1.few, ap (λ (s : Sound). s.start) e, ap (λ (s : Sound). s.size) e);
    }

pub returns-clause-plays : goal.returns-clause-plays
returns-clause-plays c file begins = c.push_sound.ensures.plays file c.args.frame [] (c.in_ok-rest.ensures.plays file c.args.p.now.header.items begins) (nothing_at file _)
