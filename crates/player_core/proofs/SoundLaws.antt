-- The file around the frames of a sound.
use Rattle.std.proofs.Common.{◌≡◌, ℕ, ◌+◌, ◌-◌, ◌*◌, ◌/◌, ◌≤◌, ◌^◌, min, mul-le-mul_left, [], ◌++◌, length, sym, ap, ap₂, ◌∙◌, arith, length-append}
use Rattle.std.specs.List.{flat_map}
use Rattle.std.specs.Int.{div_ceil}
use Rattle.std.proofs.Math.Nat.{mul_assoc, zero-div, zero-mod}
use Rattle.std.proofs.lemmas.List.{length-map, length-replicate}
use Rattle.std.proofs.lemmas.List.FromFn.{length-map-range_with_len}
use Rattle.dsd_bits.specs.declared.interleaving.Interleaving.{Interleaving}
use Rattle.dsd_bits.specs.declared.interleaving.Interleaving.TheVariants.{Bytes, Blocks}
use Rattle.dsd_bits.specs.Sounds.{sound_bytes, sound_channels, sound_size}
use Rattle.fir_core.specs.Decimator.{sample_at}
use Rattle.fir_core.specs.Streams.{due_number, bits_held}
use Rattle.wave_core.specs.Laws.{PartsJoin}
use Rattle.wave_core.specs.Heads.{header_in, plain}
use Rattle.wave_core.specs.Sizes.{pad_size, riff_size}
use Rattle.wave_core.specs.Texts.{header, pad_bytes, sample_bytes}
use Rattle.wave_core.proofs.SizeLaws.{length_of_header, length_of_samples}
use Rattle.player_core.specs.Due.{all_bytes, bytes_known, channel_whole, channels_known}
use Rattle.player_core.specs.Frames.{frame, frame_count, frames, frames_below}
use Rattle.player_core.specs.Laws.{FileHasSize, FramesFill, NothingIsDue, SoundIsPlayed, file_around, total_frames}
use Rattle.player_core.proofs.FinishLaws.{channels_are, count_is}
use Rattle.player_core.proofs.NewLaws.{none_known}
use Rattle.player_core.proofs.SampleLaws.{length-frames, no_text, text_is}

-- ---- the text of a recording is the file around the frames of its sound
pub sound_is_played : PartsJoin → SoundIsPlayed
sound_is_played law file r s d has is =
    let some : 1 ≤ length r.channels = omega (arith, has.number, is.some_channel) in
    let n = frame_count d r.channels in
    let total : total_frames d s ≡ n = ap (λ k. div_ceil k d.factor) (sym has.count) in
    let size = ap₂ (λ c k. riff_size c d.width k) (sym has.number) total in
    let bytes = flat_map (sample_bytes d.width) (frames d r.channels) in
    let all : all_bytes d s (sound_bytes file s) ≡ bytes = ap (λ cs. flat_map (sample_bytes d.width) (frames d cs)) (sym has.channels) in
    let parts : file_around plain d s (all_bytes d s (sound_bytes file s)) ≡ header (length r.channels) (r.rate / d.factor) d.width n ++ (bytes ++ pad_bytes (length r.channels) d.width n)
    = ap (file_around plain d s) all
    ∙ ap₂ (λ c k. header c (s.rate / d.factor) d.width k ++ (bytes ++ pad_bytes c d.width k)) (sym has.number) total
    ∙ ap (λ k. header (length r.channels) (k / d.factor) d.width n ++ (bytes ++ pad_bytes (length r.channels) d.width n)) (sym has.rate) in
    record {
      whole = λ fits. text_is r d some law (file_around plain d s (all_bytes d s (sound_bytes file s))) (omega (arith, fits, size)) parts;
      too_large = λ large. no_text r d some law (omega (arith, large, size));
    }

-- ---- sizes
pub frames_fill : FramesFill
frames_fill d s bytes is whole all =
    let channels = sound_channels s.interleaving s.channels s.count bytes in
    let same = channels_are s is whole bytes all in
    let count : frame_count d channels ≡ total_frames d s = ap (λ cs. frame_count d cs) (sym same) ∙ ap (λ k. div_ceil k d.factor) (count_is s is whole bytes all) in
    let number : length channels ≡ s.channels = ap length (sym same) ∙ length-map-range_with_len (channel_whole s bytes) 0 s.channels in
    let samples : length (frames d channels) ≡ total_frames d s * s.channels
    = length-frames (frame d channels) (length channels) 0 (frame_count d channels) (λ j. length-map channels (λ bits. sample_at d bits j)) ∙ ap₂ (λ a b. a * b) count number in
    length_of_samples d.width (frames d channels)
    ∙ ap (λ k. k * (d.width / 8)) samples
    ∙ mul_assoc (total_frames d s) s.channels (d.width / 8)

pub file_has_size : FileHasSize
file_has_size head d s bytes long =
    let n = total_frames d s in
    let front = header_in head s.channels (s.rate / d.factor) d.width n in
    let pad = pad_bytes s.channels d.width n in
    omega (arith, long, length-append front (bytes ++ pad), length-append bytes pad, length_of_header head s.channels (s.rate / d.factor) d.width n, length-replicate {A = ℕ} (pad_size s.channels d.width n) 0)

-- ---- nothing is due before the first byte
pub nothing_is_due : NothingIsDue
nothing_is_due d s =
    let bits : bits_held s.count (bytes_known s 0) - d.delay ≡ 0 = omega (arith, none_known s) in
    let number : due_number d s.count (bytes_known s 0) ≡ 0
    = ap (λ k. div_ceil k d.factor) bits ∙ ap₂ (λ a b. a + min 1 b) (zero-div d.factor) (zero-mod d.factor) in
    ap (λ n. flat_map (sample_bytes d.width) (frames_below d (channels_known s []) n)) number

-- a sound's size is small
pub few_size : (o : Interleaving) (channels count : ℕ) → channels ≤ 6 → count ≤ 2 ^ 36 → sound_size o channels count ≤ 2 ^ 40
few_size Bytes channels count six low = let product : count / 8 * channels ≤ count / 8 * 6 = mul-le-mul_left (count / 8) six in omega (arith, product, low)
few_size (Blocks order) channels count six low =
    let product : div_ceil count 32768 * channels ≤ div_ceil count 32768 * 6 = mul-le-mul_left (div_ceil count 32768) six in
    omega (arith, product, low)
