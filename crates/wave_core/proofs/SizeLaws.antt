-- Lemmas about sizes.
use Rattle.std.proofs.Common.{◌≡◌, ℕ, zero, suc, ◌+◌, ◌*◌, ◌/◌, ◌^◌, ◌≤◌, inl, inr, ℤ, Bool, true, false, cond, codes, nat_lt, List, [], ◌∷◌, ◌++◌, length, refl, sym, ap, arith, length-append, suc-mul, zero-mul}
use Rattle.std.specs.Int.{bytes_low_first}
use Rattle.std.specs.List.{flat_map}
use Rattle.chunk_core.specs.declared.numbers.Order.TheVariants.{Little}
use Rattle.chunk_core.specs.Numbers.{bytes_of}
use Rattle.wave_core.specs.Contents.{IsWidth}
use Rattle.wave_core.specs.Heads.{ds64, header_in, header_size_in, room, wide_header, wide_size}
use Rattle.wave_core.specs.declared.head.WaveHead.{WaveHead}
use Rattle.wave_core.specs.Sizes.{block_align, data_size, header_size, is_extensible, riff_size}
use Rattle.wave_core.specs.Texts.{data_head, masked_header, pcm_subformat, riff_head, sample_bytes, twos_complement}

frames_in_data : (frames block : ℕ) → 1 ≤ block → frames ≤ frames * block
frames_in_data frames block some = grind arith

block_some : (channels width : ℕ) → 1 ≤ channels → IsWidth width → 1 ≤ block_align channels width
block_some channels width some (inl e) = rw e (omega arith)
block_some channels width some (inr e) = rw e (omega arith)

-- n frames have no size
pub too_many : (channels width frames : ℕ) → 1 ≤ channels → IsWidth width → 2 ^ 32 ≤ frames → 2 ^ 32 ≤ riff_size channels width frames
too_many channels width frames some known large =
    let held = frames_in_data frames (block_align channels width) (block_some channels width some known) in
    omega arith

-- a header without room has its size
pub length_of_narrow : (mask channels rate width frames : ℕ) → length (masked_header mask channels rate width frames) ≡ header_size channels width
unfolding masked_header
length_of_narrow mask channels rate width frames = by (is_extensible channels width)
  where
    by : (long : Bool) → length (riff_head (riff_size channels width frames)
        ++ ((codes "fmt " ++ bytes_of Little 4 (cond long 40 16) ++ bytes_of Little 2 (cond long 65534 1) ++ bytes_of Little 2 channels
        ++ bytes_of Little 4 rate ++ bytes_of Little 4 (rate * block_align channels width) ++ bytes_of Little 2 (block_align channels width)
        ++ bytes_of Little 2 width ++ cond long (bytes_of Little 2 22 ++ bytes_of Little 2 width ++ bytes_of Little 4 mask ++ pcm_subformat) [])
        ++ data_head (data_size channels width frames))) ≡ 28 + cond long 40 16
    by true = refl
    by false = refl

-- a header with room has its size
pub length_of_wide : (mask channels rate width frames : ℕ) → length (wide_header mask channels rate width frames) ≡ 36 + header_size channels width
unfolding wide_header
length_of_wide mask channels rate width frames = by (nat_lt (wide_size channels width frames) (2 ^ 32)) (is_extensible channels width)
  where
    by : (small long : Bool) → length (cond small (riff_head (wide_size channels width frames) ++ room) (codes "RF64" ++ (bytes_of Little 4 4294967295 ++ (codes "WAVE" ++ ds64 (wide_size channels width frames) (data_size channels width frames) frames)))
        ++ ((codes "fmt " ++ bytes_of Little 4 (cond long 40 16) ++ bytes_of Little 2 (cond long 65534 1) ++ bytes_of Little 2 channels
        ++ bytes_of Little 4 rate ++ bytes_of Little 4 (rate * block_align channels width) ++ bytes_of Little 2 (block_align channels width)
        ++ bytes_of Little 2 width ++ cond long (bytes_of Little 2 22 ++ bytes_of Little 2 width ++ bytes_of Little 4 mask ++ pcm_subformat) [])
        ++ data_head (cond small (data_size channels width frames) 4294967295))) ≡ 36 + (28 + cond long 40 16)
    by true true = refl
    by true false = refl
    by false true = refl
    by false false = refl

-- each header has its size
pub length_of_header : (head : WaveHead) (channels rate width frames : ℕ) → length (header_in head channels rate width frames) ≡ header_size_in head channels width
length_of_header head channels rate width frames = by head.is_wide
  where
    by : (wide : Bool) → length (cond wide (wide_header head.mask channels rate width frames) (masked_header head.mask channels rate width frames)) ≡ cond wide (36 + header_size channels width) (header_size channels width)
    by true = length_of_wide head.mask channels rate width frames
    by false = length_of_narrow head.mask channels rate width frames

length-low : (i k n : ℕ) → length (bytes_low_first i k n) ≡ k
length-low i zero n = refl
length-low i (suc k) n = ap (λ (m : ℕ). suc m) (length-low (suc i) k n)

-- samples have as many bytes as their width
pub length_of_samples : (width : ℕ) (samples : List ℤ) → length (flat_map (sample_bytes width) samples) ≡ length samples * (width / 8)
length_of_samples width [] = sym (zero-mul (width / 8))
length_of_samples width (z ∷ zs) =
    omega (arith, length-append (sample_bytes width z) (flat_map (sample_bytes width) zs), length-low 0 (width / 8) (twos_complement width z), length_of_samples width zs, suc-mul (length zs) (width / 8))
