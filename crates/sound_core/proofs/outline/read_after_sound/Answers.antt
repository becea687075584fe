use Rattle.std.proofs.Common.{sym}
use Rattle.sound_core.proofs.ClosingLaws.{no_order}
use Rattle.sound_core.proofs.outline.read_after_sound.Goals as goal

pub returns-then-has_blocks : goal.returns-then-has_blocks
returns-then-has_blocks g c = record {
  same = c.after_blocks.ensures.same;
  ok = c.after_blocks.ensures.ok;
  named = c.after_blocks.ensures.named;
  counts = c.after_blocks.ensures.counts;
  fault = c.after_blocks.ensures.fault;
}

pub returns-else-has_blocks : goal.returns-else-has_blocks
returns-else-has_blocks g c = record {
  same = c.after_frames.ensures.same;
  ok = c.after_frames.ensures.ok;
  named = c.after_frames.ensures.named;
  counts = c.after_frames.ensures.counts;
  fault = c.after_frames.ensures.fault;
}

pub after_blocks-requires : goal.after_blocks-requires
after_blocks-requires g c = record {
  at_sound = c.requires.at_sound;
  interleaving = sym c.if-has_blocks.ensures;
  sound = c.requires.sound;
  reading = c.requires.reading;
  given = c.requires.given;
}

pub after_frames-requires : goal.after_frames-requires
after_frames-requires g c = record {
  at_sound = c.requires.at_sound;
  interleaving = no_order c.args.sound.now.interleaving (sym c.if-has_blocks.ensures);
  sound = c.requires.sound;
  whole = c.requires.whole (no_order c.args.sound.now.interleaving (sym c.if-has_blocks.ensures));
  reading = c.requires.reading;
}
