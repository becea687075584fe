-- Frames from samples that are made channel by channel, tile by tile.
use Rattle.std.proofs.Common.{◌≡◌, ℕ, zero, suc, ◌+◌, ◌*◌, ◌/◌, ◌<◌, ◌⊎◌, ℤ, pos, Bool, List, [], ◌∷◌, ◌++◌, All, length, get_or, map, take, sym, refl, ap, ap₂, ◌∙◌, arith, append_assoc, add-one, length-append, suc-mul, zero-mul}
use Rattle.std.specs.List.{flat_map, range_with_len}
use Rattle.std.proofs.Math.Nat.{mul-div_cancel}
use Rattle.std.proofs.Math.Seq.{take-suc}
use Rattle.std.proofs.lemmas.Grind.{flat_map-append}
use Rattle.std.proofs.lemmas.List.{append-nil, get_or-map, length-map, length-take-le}
use Rattle.std.proofs.lemmas.List.Concat.{get_or-flat_map}
use Rattle.std.proofs.lemmas.List.Elements.{All-append, All-map, All-nil}
use Rattle.std.proofs.lemmas.List.FromFn.{fill_by_all, get_or-map-range_with_len, length-map-range_with_len}
use Rattle.fir_core.specs.Decimator.{Decimator, sample_at, samples_of}
use Rattle.wave_core.specs.Contents.{IsSample}
use Rattle.wave_core.specs.Frames.{frame_of, frames_of}
use Rattle.player_core.specs.Frames.{frame, frames_below, tile_of}
use Rattle.player_core.proofs.SampleLaws.{is_sample}

-- ---- lists one after the other
range_more : (a n : ℕ) → range_with_len a (n + 1) ≡ range_with_len a n ++ (a + n) ∷ []
range_more a n = rw (add-one n) (by_one a n)
  where
    by_one : (a n : ℕ) → range_with_len a (suc n) ≡ range_with_len a n ++ (a + n) ∷ []
    by_one a zero = let e : a + 0 ≡ a = omega arith in rw e refl
    by_one a (suc n) = let e : a + 1 + n ≡ a + suc n = omega arith in ap (λ (xs : List ℕ). a ∷ xs) (by_one (a + 1) n ∙ ap (λ (m : ℕ). range_with_len (a + 1) n ++ m ∷ []) e)

one_after : {X : Type 0} (f : ℕ → List X) (a n : ℕ) → flat_map f (range_with_len a (n + 1)) ≡ flat_map f (range_with_len a n) ++ f (a + n)
one_after f a n =
    ap (flat_map f) (range_more a n) ∙ flat_map-append f (range_with_len a n) ((a + n) ∷ []) ∙ ap (λ xs. flat_map f (range_with_len a n) ++ xs) (append-nil (f (a + n)))

pub in_two : {X : Type 0} (f : ℕ → List X) (a n : ℕ) → flat_map f (range_with_len 0 (a + n)) ≡ flat_map f (range_with_len 0 a) ++ flat_map f (range_with_len a n)
in_two f a zero = let e : a + 0 ≡ a = omega arith in ap (λ (m : ℕ). flat_map f (range_with_len 0 m)) e ∙ sym (append-nil (flat_map f (range_with_len 0 a)))
in_two f a (suc n) =
    let e : a + suc n ≡ (a + n) + 1 = omega arith in
    let more : suc n ≡ n + 1 = omega arith in
    let place : 0 + (a + n) ≡ a + n = omega arith in
    ap (λ (m : ℕ). flat_map f (range_with_len 0 m)) e ∙ one_after f 0 (a + n)
    ∙ ap₂ (λ xs (m : ℕ). xs ++ f m) (in_two f a n) place
    ∙ append_assoc (flat_map f (range_with_len 0 a)) (flat_map f (range_with_len a n)) (f (a + n))
    ∙ ap (λ xs. flat_map f (range_with_len 0 a) ++ xs) (sym (one_after f a n) ∙ ap (λ (m : ℕ). flat_map f (range_with_len a m)) (sym more))

-- the same lists from another number on
pub moved : {X : Type 0} (f g : ℕ → List X) (a n : ℕ) → ((i : ℕ) → i < n → f i ≡ g (a + i)) → flat_map f (range_with_len 0 n) ≡ flat_map g (range_with_len a n)
moved f g a zero same = refl
moved f g a (suc n) same =
    let more : suc n ≡ n + 1 = omega arith in
    let place : 0 + n ≡ n = omega arith in
    ap (λ (m : ℕ). flat_map f (range_with_len 0 m)) more ∙ one_after f 0 n
    ∙ ap₂ (λ xs ys. xs ++ ys) (moved f g a n (λ i h. same i (omega arith))) (ap f place ∙ same n (omega arith))
    ∙ sym (ap (λ (m : ℕ). flat_map g (range_with_len a m)) more ∙ one_after g a n)

pub length-equal : {X A : Type 0} (f : X → List A) (n : ℕ) (xs : List X) → ((x : X) → length (f x) ≡ n) → length (flat_map f xs) ≡ length xs * n
length-equal f n [] each = sym (zero-mul n)
length-equal f n (x ∷ xs) each = omega (arith, length-append (f x) (flat_map f xs), each x, length-equal f n xs each, suc-mul (length xs) n)

-- one list more
pub after_take : {X Y : Type 0} (f : X → List Y) (xs : List X) (i : ℕ) (x : X) → i < length xs → x ≡ get_or xs i x → flat_map f (take (i + 1) xs) ≡ flat_map f (take i xs) ++ f x
after_take f xs i x low is =
    let more : take (i + 1) xs ≡ take i xs ++ get_or xs i x ∷ [] = rw (add-one i) (take-suc xs i x low) in
    ap (flat_map f) more ∙ flat_map-append f (take i xs) (get_or xs i x ∷ []) ∙ ap (λ ys. flat_map f (take i xs) ++ ys) (append-nil (f (get_or xs i x)) ∙ ap f (sym is))

-- ---- a tile of n frames from one on
module _ (d : Decimator) (channels : List (List Bool)) (start number : ℕ) where
  part : List Bool → List ℤ
  part bits = samples_of d bits start number

  tile : List ℤ
  tile = tile_of d channels start number

  length-part : (bits : List Bool) → length (part bits) ≡ number
  unfolding part
  length-part bits = length-map-range_with_len (sample_at d bits) start number

  pub length-tile : length (tile_of d channels start number) ≡ length channels * number
  unfolding part
  length-tile = length-equal part number channels length-part

  -- sample i of channel c
  at_place : (c i : ℕ) → c < length channels → i < number → get_or tile (c * number + i) (pos 0) ≡ sample_at d (get_or channels c []) (start + i)
  unfolding part tile
  at_place c i l h =
      let before : length (flat_map part (take c channels)) ≡ c * number = length-equal part number (take c channels) length-part ∙ ap (λ (m : ℕ). m * number) (length-take-le c channels (omega arith)) in
      sym (ap (λ (m : ℕ). get_or (flat_map part channels) (m + i) (pos 0)) before)
      ∙ get_or-flat_map part channels c i [] (pos 0) l (omega (arith, length-part (get_or channels c [])))
      ∙ get_or-map-range_with_len (sample_at d (get_or channels c [])) start number i (start + i) (pos 0) h (omega arith)

  frame_is : (i : ℕ) → i < number → frame_of tile number i ≡ frame d channels (start + i)
  unfolding part tile
  frame_is i h =
      let some : zero < number = omega arith in
      let columns : length tile / number ≡ length channels = ap (λ (m : ℕ). m / number) (length-equal part number channels length-part) ∙ mul-div_cancel (length channels) some in
      let made = frame d channels (start + i) in
      ap (λ (m : ℕ). map (λ c. get_or tile (c * number + i) (pos 0)) (range_with_len 0 m)) columns
      ∙ sym (fill_by_all (λ c. get_or tile (c * number + i) (pos 0)) made (length channels) (pos 0) (length-map channels (λ bits. sample_at d bits (start + i)))
      (λ k l. get_or-map (λ bits. sample_at d bits (start + i)) channels k [] (pos 0) l ∙ sym (at_place k i l h)))

  pub frames_are : frames_of (tile_of d channels start number) number ≡ flat_map (frame d channels) (range_with_len start number)
  unfolding tile
  frames_are = moved (frame_of tile number) (frame d channels) start number frame_is

  -- the frames before a tile, and the tile's
  pub next_tile : (bytes_of : ℤ → List ℕ) (before out next : List ℕ) (made : List ℤ) → made ≡ tile_of d channels start number
      → out ≡ before ++ flat_map bytes_of (frames_below d channels start) → next ≡ out ++ flat_map bytes_of (frames_of made number)
      → next ≡ before ++ flat_map bytes_of (frames_below d channels (start + number))
  next_tile bytes_of before out next made is so_far one =
      let old = frames_below d channels start in
      let new = flat_map (frame d channels) (range_with_len start number) in
      one ∙ ap₂ (λ (bs : List ℕ) (xs : List ℤ). bs ++ flat_map bytes_of xs) so_far (ap (λ xs. frames_of xs number) is ∙ frames_are)
      ∙ append_assoc before (flat_map bytes_of old) (flat_map bytes_of new)
      ∙ ap (λ (bs : List ℕ). before ++ bs) (sym (flat_map-append bytes_of old new) ∙ ap (flat_map bytes_of) (sym (in_two (frame d channels) start number)))

  pub all_samples : (width : ℕ) → width ≡ d.width → (d.width ≡ 16) ⊎ (d.width ≡ 24) → All (IsSample width) (tile_of d channels start number)
  all_samples width is known = rw is (each channels)
    where
      each : (cs : List (List Bool)) → All (IsSample d.width) (tile_of d cs start number)
      each [] = All-nil (IsSample d.width)
      each (bits ∷ cs) =
          All-append (IsSample d.width) (samples_of d bits start number) (tile_of d cs start number)
          (All-map (IsSample d.width) (sample_at d bits) (range_with_len start number) (λ k e h. is_sample d.width _ known)) (each cs)
