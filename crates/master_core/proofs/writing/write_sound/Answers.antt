use Rattle.std.proofs.Common.{◌≡◌, ◌+◌, ◌%◌, ◌≤◌, ◌⊎◌, inl, inr, refl, subst, arith}
use Rattle.std.proofs.lemmas.Result.{err_from_is_err_and}
use Rattle.dsd_bits.proofs.ExitLaws.{any_err}
use Rattle.chunk_core.specs.Outlets.{outlet_writer}
use Rattle.cut_core.specs.Cuts.{master_length}
use Rattle.cut_core.proofs.CutLaws.{first_shape}
use Rattle.master_core.proofs.WritingLaws.{HasWritten, next_place, written_more, written_nothing, written_prefix, written_whole}
use Rattle.master_core.proofs.writing.write_sound.Goals as goal

pub loop-from-init : goal.loop-from-init
loop-from-init g c =
    let cut = c.args.source.now.cut.now in
    record {
      written = written_nothing cut c.args.to c.has_one_best.ensures (first_shape cut c.can_cut.ensures).some_channel (g.W.Write.contents (outlet_writer c.args.outlet.now));
      groups = λ some. refl;
      inside = omega arith;
      room = c.requires.room;
      failures = refl;
    }

pub loop-from-preserved : goal.loop-from-preserved
loop-from-preserved g c =
    let cut = c.args.source.now.cut.now in
    let from = c.loop-from.from in
    let stop = from + c.min.result in
    let so_far = c.loop-from.invariant in
    let groups = so_far.groups c.loop-from-test.true in
    let inside : stop ≤ master_length cut.splice.cues = omega (arith, c.min.ensures, c.length-length.ensures.value, so_far.inside) in
    record {
      written = written_more cut c.args.to c.has_one_best.ensures (first_shape cut c.can_cut.ensures).some_channel from stop (g.W.Write.contents (outlet_writer c.args.outlet.now)) (g.W.Write.contents (outlet_writer c.loop-from.outlet)) (g.W.Write.contents (outlet_writer c.write_stretch.new.outlet)) groups (omega arith) inside so_far.written c.in_ok-write_stretch.ensures.ok;
      groups = λ more. elim (next_place from c.loop-from.room.stretch c.length-length.result stop groups so_far.room.groups c.loop-from-test.true (omega (arith, c.min.ensures))) [
        | inl whole ↦ whole
        | inr last ↦ absurd (omega (arith, last, more))
      ];
      inside = omega (arith, inside, c.length-length.ensures.value);
      room = c.write_stretch.ensures.room;
      failures = omega (arith, c.in_ok-write_stretch.ensures.failures, so_far.failures);
    }

pub returns-in_err-write_stretch : goal.returns-in_err-write_stretch
returns-in_err-write_stretch g c =
    let e = err_from_is_err_and c.from_residual.result c.from_residual.ensures.1 in
    record {
      room = c.in_err-write_stretch.ensures.room;
      ok = rw e.1 tt;
      prefix = let cut = c.args.source.now.cut.now in
          let from = c.loop-from.from in
          let stop = from + c.min.result in
          let so_far = c.loop-from.invariant in
          let groups = so_far.groups c.loop-from-test.true in
          let inside : stop ≤ master_length cut.splice.cues = omega (arith, c.min.ensures, c.length-length.ensures.value, so_far.inside) in
          any_err c.from_residual.result (written_prefix cut c.args.to c.has_one_best.ensures (first_shape cut c.can_cut.ensures).some_channel from stop (g.W.Write.contents (outlet_writer c.args.outlet.now)) (g.W.Write.contents (outlet_writer c.loop-from.outlet)) (g.W.Write.contents (outlet_writer c.write_stretch.new.outlet)) groups (omega arith) inside (subst (λ n. (stop % 32768 ≡ 0) ⊎ (stop ≡ n)) c.length-length.ensures.value (next_place from c.loop-from.room.stretch c.length-length.result stop groups so_far.room.groups c.loop-from-test.true (omega (arith, c.min.ensures)))) so_far.written c.in_err-write_stretch.ensures.prefix);
      failures = rw e.1 (omega (arith, c.in_err-write_stretch.ensures.failures, c.loop-from.invariant.failures));
    }

pub returns : goal.returns
returns g c = record {
  room = c.loop-from.invariant.room;
  ok = let cut = c.args.source.now.cut.now in
      let so_far = c.loop-from.invariant in
      let all : c.loop-from.from ≡ master_length cut.splice.cues = omega (arith, so_far.inside, c.loop-from-test.false, c.length-length.ensures.value) in
      let old = g.W.Write.contents (outlet_writer c.args.outlet.now) in
      let new = g.W.Write.contents (outlet_writer c.loop-from.outlet) in
      written_whole cut c.args.to c.has_one_best.ensures (first_shape cut c.can_cut.ensures).some_channel old new (subst (λ n. HasWritten cut c.args.to n old new) all so_far.written);
  prefix = tt;
  failures = c.loop-from.invariant.failures;
}

pub has_one_best-requires : goal.has_one_best-requires
has_one_best-requires g c = c.requires.ready

pub overflow_sub-length : goal.overflow_sub-length
overflow_sub-length g c = omega (arith, c.loop-from-test.true)

pub overflow_add-stop : goal.overflow_add-stop
overflow_add-stop g c = omega (arith, c.min.ensures, c.loop-from.invariant.inside)

pub write_stretch-requires : goal.write_stretch-requires
write_stretch-requires g c =
    let so_far = c.loop-from.invariant in
    record {
      ready = c.requires.ready;
      whole = λ bytes. omega (arith, c.min.ensures, so_far.groups c.loop-from-test.true, so_far.room.groups, c.requires.whole bytes, c.length-length.ensures.value);
      inside = omega (arith, c.min.ensures, c.length-length.ensures.value, so_far.inside);
      room = so_far.room;
      fits = omega (arith, c.min.ensures);
      outlet_ready = omega (arith, so_far.failures, c.requires.outlet_ready);
    }

pub loop-from-smaller : goal.loop-from-smaller
loop-from-smaller g c = omega (arith, c.min.ensures, c.loop-from-test.true, c.loop-from.invariant.room.some)
