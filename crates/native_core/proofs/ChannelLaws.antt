-- Channels of the same length, and silence after each of them.
use Rattle.std.proofs.Common.{◌≡◌, ◌⊎◌, ℕ, suc, ◌*◌, ◌/◌, ◌%◌, ◌<◌, ◌≤◌, Bool, List, [], ◌∷◌, ◌++◌, length, get_or, map, sym, refl, ap, ap₂, ◌∙◌, arith}
use Rattle.std.specs.Int.{div_ceil}
use Rattle.std.proofs.lemmas.List.{get_or-map, length-map}
use Rattle.std.proofs.lemmas.List.Elements.{All-from_get_or}
use Rattle.std.proofs.lemmas.List.FromFn.{get_or-map-range_with_len, length-map-range_with_len}
use Rattle.dsd_bits.specs.declared.interleaving.Interleaving.{Interleaving}
use Rattle.dsd_bits.specs.declared.interleaving.Interleaving.TheVariants.{Bytes, Blocks}
use Rattle.dsd_bits.specs.Blocks.{block_bit, unblocked}
use Rattle.dsd_bits.specs.Channels.{IsLevel, count_of}
use Rattle.dsd_bits.specs.Lacing.{laced, laced_byte, unlaced}
use Rattle.dsd_bits.specs.Sounds.{sound_channels, sound_size}
use Rattle.interleave_core.proofs.JoinLaws.{Appended, written}
use Rattle.interleave_core.proofs.TakenLaws.{channel_long}
use Rattle.native_core.specs.Native.{all_filled, filled}
use Rattle.native_core.proofs.FillLaws.{filled_on, filled_whole, length-filled}

-- there are n channels, of so many bits each
pub record Has (channels : List (List Bool)) (n count : ℕ) : Type 0 where
  pub number : length channels ≡ n
  pub bits : (c : ℕ) → c < n → length (get_or channels c []) ≡ count

-- those that sound bytes hold
pub sound_has : (from : Interleaving) (n count : ℕ) (bytes : List ℕ) → 1 ≤ n → length bytes ≡ sound_size from n count → (from ≡ Bytes → count % 8 ≡ 0) → Has (sound_channels from n count bytes) n count
sound_has Bytes n count bytes some size whole = record {
  number = length-map-range_with_len (unlaced bytes n) 0 n;
  bits = λ c h. ap length (get_or-map-range_with_len (unlaced bytes n) 0 n c c [] h (omega arith)) ∙ channel_long bytes n count some (whole refl) size c;
}
sound_has (Blocks order) n count bytes some size whole = record {
  number = length-map-range_with_len (unblocked order bytes n count) 0 n;
  bits = λ c h. ap length (get_or-map-range_with_len (unblocked order bytes n count) 0 n c c [] h (omega arith)) ∙ length-map-range_with_len (block_bit order bytes n c) 0 count;
}

pub has_count : (channels : List (List Bool)) (n count : ℕ) → 1 ≤ n → Has channels n count → count_of channels ≡ count
has_count channels n count some h = h.bits 0 some

pub has_level : (channels : List (List Bool)) (n count : ℕ) → 1 ≤ n → Has channels n count → IsLevel channels
has_level channels n count some h = record {
  same = All-from_get_or (λ (channel : List Bool). length channel ≡ count_of channels) channels [] (λ c low. h.bits c (omega (arith, low, h.number)) ∙ sym (has_count channels n count some h));
}

-- the same channels with silence
pub filled_has : (unit : ℕ) (channels : List (List Bool)) (n count : ℕ) → (unit ≡ 8) ⊎ (unit ≡ 16) → Has channels n count → Has (all_filled unit channels) n (div_ceil count unit * unit)
filled_has unit channels n count is h = record {
  number = length-map channels (filled unit) ∙ h.number;
  bits = λ c low. ap length (get_or-map (filled unit) channels c [] [] (omega (arith, h.number, low))) ∙ length-filled unit (get_or channels c []) is ∙ ap (λ k. div_ceil k unit * unit) (h.bits c low);
}

-- how many bytes they have
pub laced_long : (channels : List (List Bool)) (n count : ℕ) → 1 ≤ n → Has channels n count → length (laced channels) ≡ count / 8 * n
laced_long channels n count some h =
    length-map-range_with_len (laced_byte channels) 0 (count_of channels / 8 * length channels) ∙ ap₂ (λ (k m : ℕ). k / 8 * m) (has_count channels n count some h) h.number

map_same : (f : List Bool → List Bool) (xs : List (List Bool)) → ((c : ℕ) → c < length xs → f (get_or xs c []) ≡ get_or xs c []) → map f xs ≡ xs
map_same f [] same = refl
map_same f (x ∷ xs) same = ap₂ (λ (y : List Bool) (ys : List (List Bool)). y ∷ ys) (same 0 (omega arith)) (map_same f xs (λ c low. same (suc c) (omega (arith, low))))

-- whole units need no silence
pub all_whole : (unit : ℕ) (channels : List (List Bool)) (n count : ℕ) → (unit ≡ 8) ⊎ (unit ≡ 16) → count % unit ≡ 0 → Has channels n count → all_filled unit channels ≡ channels
all_whole unit channels n count is whole h =
    map_same (filled unit) channels (λ c low. filled_whole unit (get_or channels c []) is (ap (λ k. k % unit) (h.bits c (omega (arith, low, h.number))) ∙ whole))

-- silence comes after the last channels' bits
filled_appended : (unit : ℕ) (all first more : List (List Bool)) (n a : ℕ) → (unit ≡ 8) ⊎ (unit ≡ 16) → a % 32768 ≡ 0 → Appended all first more n a → Appended (all_filled unit all) first (all_filled unit more) n a
filled_appended unit all first more n a is whole h = record {
  all_long = length-map all (filled unit) ∙ h.all_long;
  first_long = h.first_long;
  more_long = length-map more (filled unit) ∙ h.more_long;
  each = λ c low.
      get_or-map (filled unit) all c [] [] (omega (arith, low, h.all_long))
      ∙ ap (filled unit) (h.each c low)
      ∙ filled_on unit (get_or first c []) (get_or more c []) is (ap (λ k. k % 32768) (h.bits c low) ∙ whole)
      ∙ ap (λ ys. get_or first c [] ++ ys) (sym (get_or-map (filled unit) more c [] [] (omega (arith, low, h.more_long))));
  bits = h.bits;
}

appended_has : (all first more : List (List Bool)) (n a : ℕ) → Appended all first more n a → Has first n a
appended_has all first more n a h = record { number = h.first_long; bits = h.bits }

-- the bytes of both
pub laced_on : (unit : ℕ) (all first more : List (List Bool)) (n a : ℕ) → (unit ≡ 8) ⊎ (unit ≡ 16) → 1 ≤ n → a % 32768 ≡ 0 → a % unit ≡ 0 → Appended all first more n a
    → laced (all_filled unit all) ≡ laced (all_filled unit first) ++ laced (all_filled unit more)
laced_on unit all first more n a is some whole units h =
    written Bytes (all_filled unit all) first (all_filled unit more) n a some whole (filled_appended unit all first more n a is whole h)
    ∙ ap (λ xs. laced xs ++ laced (all_filled unit more)) (sym (all_whole unit first n a is units (appended_has all first more n a h)))
