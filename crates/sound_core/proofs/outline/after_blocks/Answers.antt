use Rattle.std.proofs.Common.{◌≡◌, ◌+◌, ◌-◌, ◌∙◌, arith, ◌++◌, length, length-append, refl, subst}
use Rattle.dsf_core.specs.Headers.{IsOutline}
use Rattle.sound_core.proofs.FaultLaws.{fault_is, memory_unnamed}
use Rattle.sound_core.proofs.TagLaws.{blocks_around, blocks_around_named, blocks_refused, dsf_not_accepted, tag_fault, tag_named}
use Rattle.sound_core.proofs.ClosingLaws.{ends, has_order}
use Rattle.sound_core.proofs.ReaderLaws.{counts_ok, counts_refused, counts_want}
use Rattle.sound_core.specs.declared.outline.AfterSound.{AfterSound}
use Rattle.sound_core.proofs.outline.after_blocks.Goals as goal

pub tag_at-place-requires : goal.tag_at-place-requires
tag_at-place-requires g c =
    let stated = has_order c.args.sound.now.interleaving c.requires.interleaving in
    record { at_sound = ends c.args.head.now c.args.sound.now c.requires.at_sound stated.0 stated.1 }

pub outline-requires : goal.outline-requires
outline-requires g c =
    let stated = has_order c.args.sound.now.interleaving c.requires.interleaving in
    record { at_sound = ends c.args.head.now c.args.sound.now c.requires.at_sound stated.0 stated.1 }

pub read_tag-requires : goal.read_tag-requires
read_tag-requires g c = record { reading = c.requires.reading; given = omega (arith, c.requires.given) }

pub returns-in-Err-clause-fault : goal.returns-in-Err-clause-fault
returns-in-Err-clause-fault g c =
    let stated = has_order c.args.sound.now.interleaving c.requires.interleaving in
    tag_fault c.args.head.now c.args.sound.now c.requires.at_sound stated.0 stated.1 c.requires.sound _ _ _ _ c.in-Err.fault c.tag_at-place.ensures.place (omega arith) c.in-Err.ensures.fault

pub returns-in-Err-clause-named : goal.returns-in-Err-clause-named
returns-in-Err-clause-named g c = λ is.
    let stated = has_order c.args.sound.now.interleaving c.requires.interleaving in
    let off = c.in-Err.ensures.off is in
    let total : c.saturating_sub-total.result ≡ length c.args.head.now + c.args.sound.now.size + length (c.args.reader.now.ahead.now.items ++ off.read) = omega (arith, c.saturating_sub-total.ensures, c.given.ensures, c.read_tag.ensures.same.given, off.reads.given, c.requires.given, length-append c.args.reader.now.ahead.now.items off.read) in
    (_, refl, (off.read, off.reads, rw (c.from.ensures, c.pointer_fault.ensures) (tag_named c.args.head.now c.args.sound.now c.requires.at_sound stated.0 stated.1 c.requires.sound g.R.Read.remaining c.args.reader.now.inlet.now c.read_tag.new.reader.inlet.now _ _ _ c.args.reader.now.ahead.now.items c.tag_at-place.ensures.stated (omega arith) off (omega (arith, total)))))

pub returns-in_err-tag : goal.returns-in_err-tag
returns-in_err-tag g c =
    rw (fault_is c.from_residual.result _ c.from_residual.ensures.1) (record {
      same = c.read_tag.ensures.same;
      ok = tt;
      named = memory_unnamed;
      counts = counts_want c.args.reader.now c.args.reader.now c.read_tag.new.reader c.in-Ok.gap refl refl c.in-Ok.ensures.counts;
      fault = tt;
    })

pub returns-in-Memory : goal.returns-in-Memory
returns-in-Memory g c = record {
  same = c.read_tag.ensures.same;
  ok = tt;
  named = memory_unnamed;
  counts = counts_want c.args.reader.now c.args.reader.now c.read_tag.new.reader c.in-Ok.gap refl refl c.in-Ok.ensures.counts;
  fault = tt;
}

pub returns-in_default : goal.returns-in_default
returns-in_default g c =
    let stated = has_order c.args.sound.now.interleaving c.requires.interleaving in
    let read = c.in-Ok.ensures.ok in
    let e = c.in-Err-outline.fault in
    let total : c.given-2.result - c.read_tag.new.reader.given ≡ length c.args.head.now + c.args.sound.now.size + length c.args.reader.now.ahead.now.items + length read.read = omega (arith, c.given-2.ensures, c.read_tag.ensures.same.given, read.reads.given, c.requires.given) in
    let same = c.read_tag.ensures.same in
    let counts = counts_refused {Y = AfterSound} c.args.reader.now c.args.reader.now c.read_tag.new.reader c.in-Ok.gap refl refl c.in-Ok.ensures.counts in
    record {
      same = record { reference = same.reference; given = same.given; limit = same.limit };
      ok = tt;
      named = λ is. (_, refl, (read.read, read.reads, rw c.from-in_default.ensures (blocks_around_named c.args.head.now c.args.sound.now c.requires.at_sound stated.0 stated.1 c.requires.sound g.R.Read.remaining c.args.reader.now.inlet.now c.read_tag.new.reader.inlet.now _ c.in-Ok.gap _ _ c.args.reader.now.ahead.now.items _ e read total c.in_default.not-Memory c.in-Err-outline.ensures.fault)));
      counts = record { failures = counts.failures; turns = counts.turns; most = counts.most };
      fault = blocks_refused c.args.head.now c.args.sound.now c.requires.at_sound stated.0 stated.1 c.requires.sound g.R.Read.remaining c.args.reader.now.inlet.now c.read_tag.new.reader.inlet.now _ c.in-Ok.gap _ _ c.args.reader.now.ahead.now.items _ read total
          (λ rest size accepted. dsf_not_accepted _ e c.in_default.not-Memory (c.in-Err-outline.ensures.fault rest size) accepted);
    }

pub returns : goal.returns
returns g c =
    let stated = has_order c.args.sound.now.interleaving c.requires.interleaving in
    let read = c.in-Ok.ensures.ok in
    let tag = c.in_ok-tag.ensures.items ∙ c.as_slice.ensures.value in
    let outline = subst (λ xs. IsOutline c.args.head.now (c.given-2.result - c.read_tag.new.reader.given) xs c.in-Ok-outline.recording) tag c.in-Ok-outline.ensures.stated in
    let total : c.given-2.result - c.read_tag.new.reader.given ≡ length c.args.head.now + c.args.sound.now.size + length c.args.reader.now.ahead.now.items + length read.read = omega (arith, c.given-2.ensures, c.read_tag.ensures.same.given, read.reads.given, c.requires.given) in
    record {
      same = c.read_tag.ensures.same;
      ok = blocks_around c.args.head.now c.args.sound.now c.requires.at_sound stated.0 stated.1 c.requires.sound g.R.Read.remaining c.args.reader.now.inlet.now c.read_tag.new.reader.inlet.now _ c.in-Ok.gap _ _ c.args.reader.now.ahead.now.items _ c.in-Ok-outline.recording c.tag_at-place.ensures.place (omega arith) read total outline;
      named = tt;
      counts = counts_ok c.args.reader.now c.args.reader.now c.read_tag.new.reader c.in-Ok.gap _ refl refl c.in-Ok.ensures.counts;
      fault = tt;
    }
