-- What is written as a head, the sound and a tail.
use Rattle.std.proofs.Common.{◌≡◌, ◌<◌, ℕ, ◌+◌, ◌*◌, ◌/◌, ◌%◌, ◌^◌, Bool, List, [], ◌∷◌, ◌++◌, Some, flat_map, length, replicate, refl, sym, ap, ◌∙◌, append_assoc, arith}
use Rattle.std.proofs.Math.Nat.{one-le-pow}
use Rattle.std.proofs.lemmas.List.{append-nil, length-append}
use Rattle.std.proofs.lemmas.List.FromFn.{length-map-range_with_len}
use Rattle.std.proofs.lemmas.Nat.{div-mul-add, mod-mul-add, mod-pow-add, mod_below}
use Rattle.byteorder.specs.Endian.{big_bytes}
use Rattle.chunk_core.specs.Chunks.{spell}
use Rattle.dsd_bits.specs.Channels.{count_of}
use Rattle.dsd_bits.specs.Contents.{Content}
use Rattle.dsd_bits.specs.Ids.{DSD}
use Rattle.dsd_bits.specs.Lacing.{frame_number, laced, laced_byte}
use Rattle.dsdiff_core.specs.Kinds.{FRM8}
use Rattle.dsdiff_core.specs.ReadAgain.{WrittenInParts}
use Rattle.dsdiff_core.specs.Writing.{dsdiff_text, form_chunks, form_text, head_text, last_chunks, property_chunk, size_around, tail_text, version_chunk}

-- ---- the size of the form in eight bytes

pow_pos : (k : ℕ) → 0 < 2 ^ k
pow_pos k = omega (arith, one-le-pow k 2 (omega arith))

-- a byte of the lowest bits of a number
byte_low : (n j k : ℕ) → n % 2 ^ (j + 8 + k) / 2 ^ k % 2 ^ 8 ≡ n / 2 ^ k % 2 ^ 8
byte_low n j k =
    let high : ℕ = n / 2 ^ k in
    ap (λ (x : ℕ). x / 2 ^ k % 2 ^ 8) (mod-pow-add n (j + 8) k)
    ∙ ap (λ (x : ℕ). x % 2 ^ 8) (div-mul-add (high % 2 ^ (j + 8)) (2 ^ k) (n % 2 ^ k) (mod_below n (2 ^ k) (pow_pos k)))
    ∙ ap (λ (x : ℕ). x % 2 ^ 8) (mod-pow-add high j 8)
    ∙ mod-mul-add (high / 2 ^ 8 % 2 ^ j) (2 ^ 8) (high % 2 ^ 8) (mod_below high (2 ^ 8) (pow_pos 8))

pub low_bytes : (n : ℕ) → big_bytes 8 (n % 2 ^ 64) ≡ big_bytes 8 n
low_bytes n =
    let lowest : n % 2 ^ 64 % 2 ^ 8 ≡ n % 2 ^ 8 = omega arith in
    λ i.
    byte_low n 0 56 i ∷ byte_low n 8 48 i ∷ byte_low n 16 40 i ∷ byte_low n 24 32 i ∷ byte_low n 32 24 i ∷ byte_low n 40 16 i ∷ byte_low n 48 8 i ∷ lowest i ∷ []

-- ---- the parts

parts_join : (form kind version property id size sound pad last : List ℕ)
    → (form ++ kind) ++ (version ++ (property ++ ((((id ++ size) ++ sound) ++ pad) ++ last))) ≡ ((((form ++ kind) ++ (version ++ (property ++ []))) ++ id) ++ size) ++ (sound ++ (pad ++ last))
parts_join form kind version property id size sound pad last = simp (append_assoc, append-nil)

size_joins : (version property id size sound pad last : List ℕ) → length id ≡ 4 → length size ≡ 8
    → 4 + length (version ++ (property ++ ((((id ++ size) ++ sound) ++ pad) ++ last))) ≡ 4 + length (version ++ (property ++ [])) + 12 + length sound + length (pad ++ last)
size_joins version property id size sound pad last four eight = simp length-append (omega arith)

pub in_parts : WrittenInParts
in_parts r channels whole =
    let sound : List ℕ = laced channels in
    let n : ℕ = length sound in
    let written : Content = record r { channels = channels } in
    let version : List ℕ = spell version_chunk in
    let property : List ℕ = spell (property_chunk r) in
    let pad : List ℕ = replicate (n % 2) 0 in
    let last : List ℕ = flat_map spell (last_chunks r) in
    let size : 4 + length (flat_map spell (form_chunks written)) ≡ size_around r n = size_joins version property DSD (big_bytes 8 n) sound pad last refl refl in
    let text : form_text (form_chunks written) ≡ head_text r n ++ (sound ++ tail_text r n) =
    ap (λ (k : ℕ). FRM8 ++ big_bytes 8 k ++ DSD ++ flat_map spell (form_chunks written)) size ∙ parts_join (FRM8 ++ big_bytes 8 (size_around r n)) DSD version property DSD (big_bytes 8 n) sound pad last in
    rw whole (ap Some text)

-- how many bytes the sound has
pub sound_size : (channels : List (List Bool)) (count number : ℕ) → count ≡ count_of channels → number ≡ length channels → count / 8 * number ≡ length (laced channels)
sound_size channels count number e f = rw (e, f) (sym (length-map-range_with_len (laced_byte channels) 0 (frame_number channels * length channels)))

-- the file
pub text_is : (r : Content) (size : ℕ) (head tail now-1 now-2 : List ℕ) → count_of r.channels % 8 ≡ 0 → size ≡ length (laced r.channels) → head ≡ head_text r size → tail ≡ tail_text r size → now-1 ≡ head ++ laced r.channels → now-2 ≡ now-1 ++ tail
    → dsdiff_text r ≡ Some now-2
text_is r size head tail now-1 now-2 whole size_is head_is tail_is e-1 e-2 =
    let sound : List ℕ = laced r.channels in
    let parts : now-2 ≡ head ++ (sound ++ tail) = e-2 ∙ ap (λ (x : List ℕ). x ++ tail) e-1 ∙ append_assoc head sound tail in
    let text : now-2 ≡ head_text r (length sound) ++ (sound ++ tail_text r (length sound)) =
    parts
    ∙ ap (λ (x : List ℕ). x ++ (sound ++ tail)) (head_is ∙ ap (head_text r) size_is)
    ∙ ap (λ (x : List ℕ). head_text r (length sound) ++ (sound ++ x)) (tail_is ∙ ap (tail_text r) size_is) in
    in_parts r r.channels whole ∙ ap Some (sym text)
