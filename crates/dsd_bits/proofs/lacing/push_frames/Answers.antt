use Rattle.std.proofs.Common.{◌+◌, ◌*◌, ◌++◌, ◌∙◌, IsOk, length, take, length-append, refl, subst, ap, arith}
use Rattle.std.proofs.lemmas.Result.{err_from_is_err_and}
use Rattle.dsd_bits.proofs.ShiftingLemmas.{written_after}
use Rattle.dsd_bits.proofs.lacing.push_frames.Goals as goal

pub returns-in_err-resize : goal.returns-in_err-resize
returns-in_err-resize c =
    let e = err_from_is_err_and c.from_residual.result c.from_residual.ensures.1 in
    record {
      ok = rw e.1 tt;
      capacity = c.resize.ensures.capacity;
      succeeds = λ room. rw e.1 (subst IsOk c.in_err-resize.was (c.resize.ensures.succeeds (omega (arith, room, c.len-kept.ensures))));
    }

pub returns : goal.returns
returns c =
    let old = c.args.out.now.items in
    let prefix = c.split_at_mut-to.result.0.now in
    let new = c.lace_into.new.to in
    record {
      ok =
          written_after old _ c.resize.new.self.items prefix new _ c.len-kept.result (c.len-kept.result + c.args.frames * length c.args.channels.now) c.resize.new.self.len
          (omega (arith, c.len-kept.ensures, c.args.out.now.ok.0)) (omega arith) c.in_ok-resize.ensures.items (c.split_at_mut-to.ensures.front ∙ ap (take c.len-kept.result) c.as_mut_slice.ensures.value)
          (omega (arith, length-append prefix new, c.split_at_mut-to.ensures.front_len, c.split_at_mut-to.ensures.back_len, c.lace_into.auto.to, c.as_mut_slice.ensures.len, c.resize.new.self.ok.0))
          ∙ ap (λ xs. old ++ xs) c.lace_into.ensures;
      capacity = c.resize.ensures.capacity;
      succeeds = λ room. refl;
    }
