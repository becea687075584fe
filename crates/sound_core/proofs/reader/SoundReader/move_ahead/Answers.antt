use Rattle.std.proofs.Common.{◌≡◌, ◌∙◌, ap, arith, length, length-take, min, sym, take}
use Rattle.std.proofs.lemmas.List.{take_min}
use Rattle.sound_core.proofs.reader.SoundReader.move_ahead.Goals as goal

pub returns-clause-reading : goal.returns-clause-reading
returns-clause-reading g c = record {
  ready = rw c.drop_ahead.ensures.untouched c.requires.reading.ready;
  budget = rw (c.drop_ahead.ensures.untouched, c.drop_ahead.ensures.same.limit) c.requires.reading.budget;
  size = ap length c.drop_ahead.ensures.block ∙ c.put_first.ensures.long ∙ c.requires.reading.size;
}

pub returns-clause-moved : goal.returns-clause-moved
returns-clause-moved g c =
    let ahead = c.args.self.now.ahead.now.items in
    let moved = c.split_at.result.0.now in
    let count = c.min-count.result in
    let least : count ≡ min c.args.size (length ahead) = omega (arith, c.min-count.ensures, c.len.ensures) in
    let is : moved ≡ take count ahead = c.split_at.ensures.front ∙ ap (take count) c.deref.ensures.value in
    let long : length moved ≡ count = omega (arith, ap length is, length-take count ahead, least) in
    ap (take count) c.drop_ahead.ensures.block ∙ ap (λ n. take n c.put_first.new.block.items) (sym long) ∙ c.put_first.ensures.prefix ∙ is ∙ ap (λ n. take n ahead) least ∙ take_min c.args.size ahead
