-- Rows by the second version: bounds, and excesses in few bytes.
use Rattle.std.proofs.Common.{◌≡◌, ℕ, ◌+◌, ◌*◌, ◌-◌, ◌^◌, ◌<◌, ◌≤◌, List, [], ◌∷◌, ◌++◌, map, take, set, length, get_or, refl, sym, ap, ap₂, ◌∙◌, append_assoc, arith}
use Rattle.std.specs.List.{flat_map}
use Rattle.std.proofs.lemmas.Grind.{flat_map-append}
use Rattle.std.proofs.lemmas.List.{append-nil, length-set, length-take-le, take-take, map-append, take_at, take_more, take_more_set}
use Rattle.std.proofs.Math.Seq.{take-append-add}
use Rattle.std.proofs.lemmas.Slice.{take-put_mid}
use Rattle.std.specs.Int.{w64, to_be_bytes, bytes_high_first}
use Rattle.cert_core.specs.Spelling.{byte_width, floor, peak, row_text}
use Rattle.cert_core.specs.declared.version.Version.TheVariants.{Two}
use Rattle.cert_core.proofs.Bytes.{high_stored}
use borrow.Rule.Slice.PartMut.{put_mid}

-- the first of some bytes that were put into a buffer
pub put_first : (at k w : ℕ) (buffer low : List ℕ) → w ≤ length low → at ≤ length buffer → take (at + w) (put_mid at k buffer low) ≡ take at buffer ++ take w low
put_first at k w buffer low few room =
    let prefix = take at buffer in
    let n : length prefix ≡ at = length-take-le at buffer room in
    sym (take-take (at + w) (at + length low) (put_mid at k buffer low) (omega arith)) ∙ ap (take (at + w)) (take-put_mid at k buffer low (at + length low) refl room)
    ∙ ap (λ m. take (m + w) (prefix ++ low)) (sym n) ∙ take-append-add prefix low w

-- the bytes of one excess more
pub narrow_more : (w i k least : ℕ) (row buffer low : List ℕ) → w ≤ 8 → take (w * i) buffer ≡ flat_map (bytes_high_first w) (map (λ v. v - least) (take i row)) → low ≡ to_be_bytes w64 ((get_or row i 0 - least) * 2 ^ (64 - 8 * w)) → i < length row → w * i ≤ length buffer
    → take (w * (i + 1)) (put_mid (w * i) k buffer low) ≡ flat_map (bytes_high_first w) (map (λ v. v - least) (take (i + 1) row))
narrow_more w i k least row buffer low few before is h room =
    let v = get_or row i 0 in
    let done = map (λ v. v - least) (take i row) in
    let next : w * (i + 1) ≡ w * i + w = omega arith in
    ap (λ n. take n (put_mid (w * i) k buffer low)) next ∙ put_first (w * i) k w buffer low (omega (arith, few, ap length is)) room
    ∙ ap₂ (λ xs ys. xs ++ ys) before (ap (take w) is ∙ high_stored w (v - least) few)
    ∙ sym (ap (λ l. flat_map (bytes_high_first w) (map (λ v. v - least) l)) (take_more row i 0 h)
    ∙ ap (flat_map (bytes_high_first w)) (map-append (λ v. v - least) (take i row) (v ∷ []))
    ∙ flat_map-append (bytes_high_first w) done ((v - least) ∷ [])
    ∙ ap (λ l. flat_map (bytes_high_first w) done ++ l) (append-nil (bytes_high_first w (v - least))))

-- a row's least value, its width and its excesses, as they are put into a buffer
pub narrow_is : (prefix post ys : List ℕ) (w k j : ℕ) → length prefix ≡ 8 → 9 ≤ length (prefix ++ post) → j ≤ length ys → take (9 + j) (put_mid 9 k (set (prefix ++ post) 8 w) ys) ≡ prefix ++ (w ∷ take j ys)
narrow_is prefix post ys w k j long room few =
    let xs = prefix ++ post in
    put_first 9 k j (set xs 8 w) ys few (omega (arith, room, length-set xs 8 w))
    ∙ ap (λ l. l ++ take j ys) (take_more_set xs 8 w (omega (arith, room)) ∙ ap (λ l. l ++ (w ∷ [])) (take_at prefix post 8 long))
    ∙ append_assoc prefix (w ∷ []) (take j ys)

-- and by what each of them is
pub narrow_text : (row prefix ys : List ℕ) (least greatest w : ℕ) → least ≡ floor row → greatest ≡ peak row → prefix ≡ to_be_bytes w64 least → w ≡ byte_width (greatest - least) → ys ≡ flat_map (bytes_high_first w) (map (λ v. v - least) row)
    → prefix ++ (w ∷ ys) ≡ row_text Two row
narrow_text row prefix ys least greatest w el eg ef ew ey = rw (ef, ey, ew, eg, el) refl
