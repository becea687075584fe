use Rattle.std.proofs.Common.{refl}
use Rattle.sound_core.proofs.FaultLaws.{fault_is}
use Rattle.sound_core.proofs.ReaderLaws.{counts_kept, same_counts, same_on}
use Rattle.sound_core.proofs.outline.read_rest.Goals as goal

pub read_after_sound-requires : goal.read_after_sound-requires
read_after_sound-requires g c = record {
  at_sound = rw c.deref.ensures.value c.requires.at_sound;
  sound = c.requires.sound;
  whole = c.requires.whole;
  reading = c.requires.reading;
  given = rw c.deref.ensures.value c.requires.given;
}

pub returns-in_err-after : goal.returns-in_err-after
returns-in_err-after g c =
    rw (fault_is c.from_residual.result _ c.from_residual.ensures.1) (record {
      same = c.read_after_sound.ensures.same;
      ok = tt;
      named = rw (← c.deref.ensures.value) c.in_err-after.ensures.named;
      counts = same_counts c.args.reader.now c.read_after_sound.new.reader c.in_err-after.field-0.0 c.in_err-after.ensures.counts;
      fault = rw (← c.deref.ensures.value) c.in_err-after.ensures.fault;
    })

pub returns : goal.returns
returns g c = record {
  same = same_on c.args.reader.now c.read_after_sound.new.reader c.take_ahead-back.new.self c.read_after_sound.ensures.same c.take_ahead-back.ensures.same;
  ok = (refl, refl, rw (c.take_ahead-back.ensures.untouched, c.take_ahead-back.ensures.taken, ← c.deref.ensures.value) c.in_ok-after.ensures.ok);
  named = tt;
  counts = counts_kept c.args.reader.now c.read_after_sound.new.reader c.take_ahead-back.new.self _ _ c.take_ahead-back.ensures.untouched c.in_ok-after.ensures.counts;
  fault = tt;
}
