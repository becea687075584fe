use Rattle.std.proofs.Common.{◌≡◌, ℕ, ◌+◌, ◌*◌, ◌<◌, ◌≤◌, ◌∙◌, List, [], ◌∷◌, ◌++◌, ap, ap₂, arith, get_or, length, sym, take}
use borrow.Rule.Slice.PartMut.{put_mid}
use Rattle.std.proofs.lemmas.Grind.{flat_map-append}
use Rattle.std.proofs.lemmas.List.{append-nil, take_more}
use Rattle.std.specs.Int.{w64, to_be_bytes}
use Rattle.cert_core.specs.Spelling.{row_text}
use Rattle.cert_core.specs.declared.version.Version.TheVariants.{One}
use Rattle.cert_core.proofs.Narrow.{put_first}
use Rattle.cert_core.proofs.spelling.put_values.Goals as goal

-- the bytes of one number more
values_more : (i k : ℕ) (row buffer low : List ℕ) → take (8 * i) buffer ≡ row_text One (take i row) → low ≡ to_be_bytes w64 (get_or row i 0) → i < length row → 8 * i ≤ length buffer
    → take (8 * (i + 1)) (put_mid (8 * i) k buffer low) ≡ row_text One (take (i + 1) row)
values_more i k row buffer low before is h room =
    let v = get_or row i 0 in
    let next : 8 * (i + 1) ≡ 8 * i + 8 = omega arith in
    ap (λ n. take n (put_mid (8 * i) k buffer low)) next ∙ put_first (8 * i) k 8 buffer low (omega (arith, ap length is)) room ∙ ap₂ (λ xs ys. xs ++ ys) before (ap (take 8) is)
    ∙ sym (ap (row_text One) (take_more row i 0 h) ∙ flat_map-append (to_be_bytes w64) (take i row) (v ∷ []) ∙ ap (λ xs. row_text One (take i row) ++ xs) (append-nil (to_be_bytes w64 v)))

pub loop-place-preserved : goal.loop-place-preserved
loop-place-preserved c =
    values_more c.loop-place.place _ c.args.row.now c.loop-place.buffer c.copy_from_slice.new.self c.loop-place.invariant (c.copy_from_slice.ensures.after ∙ c.to_be_bytes.ensures) c.loop-place-test.true (omega (arith, c.loop-place-test.true, c.loop-place.auto.buffer, c.requires))
