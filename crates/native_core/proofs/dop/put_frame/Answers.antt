use Rattle.std.proofs.Common.{◌≡◌, ◌+◌, ◌*◌, [], ◌∷◌, ◌++◌, slice_index, take, sym, refl, ap, ◌∙◌, arith, append_assoc}
use Rattle.std.specs.List.{flat_map, range_with_len}
use Rattle.native_core.specs.Native.{dop_sample}
use Rattle.native_core.proofs.DopLaws.{sample_is}
use Rattle.native_core.proofs.FlatLaws.{one_after}
use Rattle.native_core.proofs.dop.put_frame.Goals as goal

pub loop-c-preserved : goal.loop-c-preserved
loop-c-preserved over c =
    let n = over.row.N in
    let bytes = c.args.bytes.now in
    let frame = c.args.frame in
    let k = c.loop-c.c in
    let f = dop_sample n bytes in
    let at = frame * n in
    let low = slice_index bytes (2 * at + n + k) in
    let high = slice_index bytes (2 * at + k) in
    let mark = c.args.mark in
    let first = take (3 * at) c.args.to.now in
    let before = flat_map f (range_with_len at k) in
    let next : at + (k + 1) ≡ at + k + 1 = omega arith in
    record {
      size = c.put_sample.ensures.size ∙ c.loop-c.invariant.size;
      written = ap (λ m. take (3 * m) c.put_sample.new.to) next ∙ c.put_sample.ensures.written ∙ ap (λ bs. bs ++ low ∷ high ∷ mark ∷ []) c.loop-c.invariant.written
          ∙ append_assoc first before (low ∷ high ∷ mark ∷ [])
          ∙ ap (λ bs. first ++ bs) (ap (λ s. before ++ s) (sample_is n frame k bytes c.loop-c-test.true low high mark refl refl c.requires.mark) ∙ sym (one_after f at k));
    }
