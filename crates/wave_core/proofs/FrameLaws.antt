-- Frames of samples that are given channel by channel.
use Rattle.std.proofs.Common.{◌≡◌, ◌≢◌, ℕ, zero, suc, ◌+◌, ◌*◌, ◌/◌, ◌%◌, ◌<◌, ◌≤◌, ◌⊎◌, ◌^◌, inl, inr, ℤ, pos, negsuc, unsigned_abs, to_z, of_z, w32, List, [], ◌∷◌, ◌++◌, map, sym, ap, subst, ◌∙◌, refl, arith, All, length, get_or, slice_index, take, drop, length-drop, length-take-le, get_or-take, get_or-drop, add-one, zero-add, append_assoc}
use Rattle.std.specs.List.{flat_map, range_with_len}
use Rattle.std.proofs.Math.Nat.{mul-le-mul_right}
use Rattle.std.proofs.lemmas.Grind.{flat_map-append, same_number_lists}
use Rattle.std.proofs.lemmas.List.Elements.{All-get_or}
use Rattle.std.proofs.lemmas.Int.{to_z-of_z, fits_signed_from_abs}
use Rattle.std.proofs.lemmas.List.{append-nil, take_all, take_more}
use Rattle.std.proofs.Math.Seq.{take-add}
use Rattle.std.proofs.lemmas.Nat.{div-mul-add, mod-mul-add, mul-add-lt}
use Rattle.wave_core.specs.Frames.{frame_of, frames_of}
use Rattle.wave_core.specs.Texts.{sample_bytes}
use Rattle.wave_core.specs.Contents.{IsSample}
use Rattle.std.proofs.lemmas.List.FromFn.{map-range_with_len_more}

-- a sample of a channel is among the samples
pub place_within : (c i frames long : ℕ) → c < long / frames → i < frames → c * frames + i < long
place_within c i frames long below h =
    let e : (c + 1) * frames ≤ long / frames * frames = mul-le-mul_right frames (omega arith) in
    omega arith

-- so do all samples of the channel
pub row_within : (c frames long : ℕ) → c < long / frames → c * frames + frames ≤ long
row_within c frames long below =
    let e : (c + 1) * frames ≤ long / frames * frames = mul-le-mul_right frames (omega arith) in
    omega arith

-- the bytes of a sample of a frame are among those of the frames
pub bytes_within : (i c n samples size long : ℕ) → i < samples → c < n → samples * n * size ≤ long → (i * n + c) * size + size ≤ long
bytes_within i c n samples size long below in_frame enough =
    let row : (i * n + c + 1) * size ≤ n * samples * size = mul-le-mul_right size (omega (arith, mul-add-lt i n c samples below in_frame)) in
    let next : (i * n + c) * size + size ≡ (i * n + c + 1) * size = grind arith in
    let turned : n * samples * size ≡ samples * n * size = grind arith in
    omega (arith, row, next, turned, enough)

-- a place is below that of its bytes
pub place_below : (width place long : ℕ) → (width ≡ 16) ⊎ (width ≡ 24) → place * (width / 8) + width / 8 ≤ long → place < long
place_below width place long (inl e) within = let at = rw e at within in omega arith
place_below width place long (inr e) within = let at = rw e at within in omega arith

-- ---- one after the other
range_more : (a n : ℕ) → range_with_len a (n + 1) ≡ range_with_len a n ++ (a + n) ∷ []
range_more a n = rw (add-one n) (by_one a n)
  where
    by_one : (a n : ℕ) → range_with_len a (suc n) ≡ range_with_len a n ++ (a + n) ∷ []
    by_one a zero = let e : a + 0 ≡ a = omega arith in rw e
    by_one a (suc n) = let e : a + 1 + n ≡ a + suc n = omega arith in ap (λ (xs : List ℕ). a ∷ xs) (by_one (a + 1) n ∙ ap (λ (m : ℕ). range_with_len (a + 1) n ++ m ∷ []) e)

-- one frame more, as bytes
pub next_frame : {X : Type 0} (bytes_of : X → List ℕ) (frame : ℕ → List X) (before out next : List ℕ) (j : ℕ)
    → out ≡ before ++ flat_map bytes_of (flat_map frame (range_with_len 0 j)) → next ≡ out ++ flat_map bytes_of (frame j)
    → next ≡ before ++ flat_map bytes_of (flat_map frame (range_with_len 0 (j + 1)))
next_frame bytes_of frame before out next j so_far one =
    let all : flat_map frame (range_with_len 0 (j + 1)) ≡ flat_map frame (range_with_len 0 j) ++ frame j =
    ap (flat_map frame) (range_more 0 j) ∙ flat_map-append frame (range_with_len 0 j) ((0 + j) ∷ []) ∙ ap (λ i. flat_map frame (range_with_len 0 j) ++ flat_map frame (i ∷ [])) (zero-add j) ∙ ap (λ xs. flat_map frame (range_with_len 0 j) ++ xs) (append-nil (frame j)) in
    one ∙ ap (λ (bs : List ℕ). bs ++ flat_map bytes_of (frame j)) so_far
    ∙ append_assoc before (flat_map bytes_of (flat_map frame (range_with_len 0 j))) (flat_map bytes_of (frame j))
    ∙ ap (λ (bs : List ℕ). before ++ bs) (sym (flat_map-append bytes_of (flat_map frame (range_with_len 0 j)) (frame j)))
    ∙ ap (λ xs. before ++ flat_map bytes_of xs) (sym all)

-- one sample more, as bytes
pub next_sample : (bytes_of : ℤ → List ℕ) (f : ℕ → ℤ) (before out next : List ℕ) (c : ℕ)
    → out ≡ before ++ flat_map bytes_of (map f (range_with_len 0 c)) → next ≡ out ++ bytes_of (f c)
    → next ≡ before ++ flat_map bytes_of (map f (range_with_len 0 (c + 1)))
next_sample bytes_of f before out next c so_far one =
    let prefix = map f (range_with_len 0 c) in
    let all : flat_map bytes_of (map f (range_with_len 0 (c + 1))) ≡ flat_map bytes_of prefix ++ bytes_of (f c) =
    ap (flat_map bytes_of) (map-range_with_len_more f 0 c c (omega arith)) ∙ flat_map-append bytes_of prefix (f c ∷ []) ∙ ap (λ bs. flat_map bytes_of prefix ++ bs) (append-nil (bytes_of (f c))) in
    one ∙ ap (λ (bs : List ℕ). bs ++ bytes_of (f c)) so_far ∙ append_assoc before (flat_map bytes_of prefix) (bytes_of (f c)) ∙ ap (λ (bs : List ℕ). before ++ bs) (sym all)

-- a sample that was stored is read back
pub sample_back : (width : ℕ) (z : ℤ) → (width ≡ 16) ⊎ (width ≡ 24) → IsSample width z → to_z w32 (of_z w32 z) ≡ z
sample_back width z known small = to_z-of_z w32 z (fits_signed_from_abs w32 z (omega (arith, least width z known small)))
  where
    least : (width : ℕ) (z : ℤ) → (width ≡ 16) ⊎ (width ≡ 24) → IsSample width z → unsigned_abs z ≤ 2 ^ 30
    least width (pos n) (inl e) h = let small = rw e at h in omega arith
    least width (pos n) (inr e) h = let small = rw e at h in omega arith
    least width (negsuc n) (inl e) h = let small = rw e at h in omega arith
    least width (negsuc n) (inr e) h = let small = rw e at h in omega arith

-- a stored sample has its width
pub is_sample : (width : ℕ) (samples : List ℤ) (i : ℕ) → (width ≡ 16) ⊎ (width ≡ 24) → All (IsSample width) samples → i < length samples → IsSample width (to_z w32 (of_z w32 (get_or samples i (pos 0))))
is_sample width samples i known all below =
    let small = All-get_or (IsSample width) samples i (pos 0) below all in
    subst (IsSample width) (sym (sample_back width (get_or samples i (pos 0)) known small)) small

-- ---- samples written at their places
pub frames_apart : (a b n c : ℕ) → c < n → a ≢ b → a * n + c ≢ b * n + c
frames_apart a b n c h apart = λ e. apart (sym (div-mul-add a n c h) ∙ ap (λ m. m / n) e ∙ div-mul-add b n c h)

pub channels_apart : (a b n c d : ℕ) → c < n → d < n → d ≢ c → a * n + d ≢ b * n + c
channels_apart a b n c d hc hd apart = λ e. apart (sym (mod-mul-add a n d hd) ∙ ap (λ m. m % n) e ∙ mod-mul-add b n c hc)

-- bytes after those before
more_bytes : (to bytes : List ℕ) (n size : ℕ) → length bytes ≡ size → n + size ≤ length to → ((k : ℕ) → k < size → slice_index to (n + k) ≡ slice_index bytes k) → take (n + size) to ≡ take n to ++ bytes
more_bytes to bytes n size long within at =
    let cut : length (take size (drop n to)) ≡ size = length-take-le size (drop n to) (omega (arith, length-drop n to)) in
    take-add n size to
    ∙ ap (λ xs. take n to ++ xs) (same_number_lists (take size (drop n to)) bytes (cut ∙ sym long) (λ k h. get_or-take size (drop n to) k 0 (omega arith) ∙ get_or-drop n to k 0 ∙ at k (omega arith)))

length-sample_bytes : (width : ℕ) (z : ℤ) → (width ≡ 16) ⊎ (width ≡ 24) → length (sample_bytes width z) ≡ width / 8
length-sample_bytes width z (inl e) = rw e refl
length-sample_bytes width z (inr e) = rw e refl

module _ (width : ℕ) (known : (width ≡ 16) ⊎ (width ≡ 24)) (samples : List ℤ) (frames : ℕ) (to : List ℕ) (whole : length to ≡ frames * (length samples / frames) * (width / 8))
    (at : (i c k : ℕ) → i < frames → c < length samples / frames → k < width / 8
    → slice_index to ((i * (length samples / frames) + c) * (width / 8) + k) ≡ slice_index (sample_bytes width (get_or samples (c * frames + i) (pos 0))) k) where
  abbrev sample : ℕ → ℕ → ℤ
  sample i c = get_or samples (c * frames + i) (pos 0)

  -- the first samples of a frame, after the frames before
  frame_joined : (i m : ℕ) → i < frames → m ≤ length samples / frames
      → take ((i * (length samples / frames) + m) * (width / 8)) to ≡ take (i * (length samples / frames) * (width / 8)) to ++ flat_map (sample_bytes width) (map (sample i) (range_with_len 0 m))
  frame_joined i zero below in_frame =
      let e : (i * (length samples / frames) + 0) * (width / 8) ≡ i * (length samples / frames) * (width / 8) = ap (λ m. m * (width / 8)) (omega arith) in
      ap (λ m. take m to) e ∙ sym (append-nil _)
  frame_joined i (suc m) below in_frame =
      let n = length samples / frames in
      let size = width / 8 in
      let place = (i * n + m) * size in
      let next : place + size ≡ (i * n + (m + 1)) * size = grind arith in
      let turned : n * frames * size ≡ frames * n * size = grind arith in
      let inside : (i * n + (m + 1)) * size ≤ n * frames * size = mul-le-mul_right size (omega (arith, mul-add-lt i n m frames below (omega arith))) in
      let one = more_bytes to (sample_bytes width (sample i m)) place size (length-sample_bytes width (sample i m) known) (omega (arith, next, inside, turned, whole)) (λ k h. at i m k below (omega arith) h) in
      subst (λ k. take ((i * n + k) * size) to ≡ take (i * n * size) to ++ flat_map (sample_bytes width) (map (sample i) (range_with_len 0 k))) (add-one m)
      (next_sample (sample_bytes width) (sample i) (take (i * n * size) to) (take place to) (take ((i * n + (m + 1)) * size) to) m (frame_joined i m below (omega arith)) (ap (λ k. take k to) (sym next) ∙ one))

  -- the first frames
  first_joined : (n : ℕ) → n ≤ frames → take (n * (length samples / frames) * (width / 8)) to ≡ flat_map (sample_bytes width) (flat_map (frame_of samples frames) (range_with_len 0 n))
  first_joined zero in_sound =
      let e : 0 * (length samples / frames) * (width / 8) ≡ 0 = grind arith in
      ap (λ m. take m to) e
  first_joined (suc n) in_sound =
      let channels = length samples / frames in
      let size = width / 8 in
      let row : (n * channels + channels) * size ≡ (n + 1) * channels * size = grind arith in
      subst (λ k. take (k * channels * size) to ≡ flat_map (sample_bytes width) (flat_map (frame_of samples frames) (range_with_len 0 k))) (add-one n)
      (next_frame (sample_bytes width) (frame_of samples frames) [] (take (n * channels * size) to) (take ((n + 1) * channels * size) to) n (first_joined n (omega arith))
      (ap (λ k. take k to) (sym row) ∙ frame_joined n channels (omega arith) (omega arith)))

  -- bytes of which each is the sample's at its place
  pub frames_joined : to ≡ flat_map (sample_bytes width) (frames_of samples frames)
  frames_joined = sym (take_all (frames * (length samples / frames) * (width / 8)) to (omega (arith, whole))) ∙ first_joined frames (omega arith)

-- one value more is written out
pub flat_map_more : (f : ℤ → List ℕ) (xs : List ℤ) (i : ℕ) (old mid new : List ℕ) → i < length xs → mid ≡ old ++ flat_map f (take i xs) → new ≡ mid ++ f (get_or xs i (pos 0)) → new ≡ old ++ flat_map f (take (i + 1) xs)
flat_map_more f xs i old mid new h before is =
    let v = get_or xs i (pos 0) in
    let done = flat_map f (take i xs) in
    is ∙ ap (λ l. l ++ f v) before ∙ append_assoc old done (f v)
    ∙ ap (λ l. old ++ l) (sym (ap (flat_map f) (take_more xs i (pos 0) h) ∙ flat_map-append f (take i xs) (v ∷ []) ∙ ap (λ l. done ++ l) (append-nil (f v))))
