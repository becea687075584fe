-- What is before the samples.
use Rattle.std.proofs.Common.{◌≡◌, ℕ, ◌≤◌, List, [], ◌++◌, drop, length, refl, ap, ◌∙◌, arith, append_assoc, length-append}
use Rattle.wave_core.specs.Sizes.{data_size, riff_size}
use Rattle.wave_core.specs.Texts.{data_head, format_chunk, header, masked_header, riff_head}

pub header_long : (channels rate frames : ℕ) → 12 ≤ length (header channels rate 24 frames)
unfolding masked_header
header_long channels rate frames =
    let front = riff_head (riff_size channels 24 frames) in
    let twelve : length front ≡ 12 = refl in
    omega (arith, twelve, length-append front (format_chunk channels rate 24 ++ data_head (data_size channels 24 frames)))

-- a header without the first 12 bytes
pub header_rest : (channels rate frames : ℕ) → drop 12 (header channels rate 24 frames) ≡ format_chunk channels rate 24 ++ data_head (data_size channels 24 frames)
unfolding masked_header
header_rest channels rate frames = refl

pub four : (a r s w x : List ℕ) → (((a ++ r) ++ s) ++ w) ++ x ≡ a ++ ((r ++ (s ++ w)) ++ x)
four a r s w x = simp append_assoc

pub three : (a r s w : List ℕ) → ((a ++ r) ++ s) ++ w ≡ a ++ (r ++ (s ++ w))
three a r s w = simp append_assoc

-- the bytes that stand in an emptied list
pub head_made : {empty made out head : List ℕ} → empty ≡ [] → made ≡ empty ++ head → out ≡ made → out ≡ head
head_made {empty} {made} {out} {head} none is same = same ∙ is ∙ ap (λ xs. xs ++ head) none
