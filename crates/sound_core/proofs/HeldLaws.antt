-- The recording of a file that is some sound in known surroundings.
use Rattle.std.proofs.Common.{◌≡◌, ℕ, ◌*◌, ◌/◌, ◌%◌, ◌≤◌, Bool, List, [], length, get_or, map, replicate, refl, sym, ap, ◌∙◌, arith}
use Rattle.std.specs.List.{range_with_len}
use Rattle.std.proofs.lemmas.List.{length-replicate}
use Rattle.std.proofs.lemmas.List.Elements.{All-map}
use Rattle.std.proofs.lemmas.List.FromFn.{length-map-range_with_len, get_or-map-range_with_len}
use Rattle.dsd_bits.specs.declared.interleaving.Interleaving.{Interleaving}
use Rattle.dsd_bits.specs.declared.interleaving.Interleaving.TheVariants.{Bytes, Blocks}
use Rattle.dsd_bits.specs.Blocks.{block_bit, unblocked}
use Rattle.dsd_bits.specs.Channels.{IsLevel, count_of}
use Rattle.dsd_bits.specs.Contents.{Content}
use Rattle.dsd_bits.specs.Lacing.{laced_bit, unlaced}
use Rattle.dsd_bits.specs.Shape.{HasShape}
use Rattle.dsd_bits.specs.Sounds.{sound_channels, sound_size}
use Rattle.dsd_bits.specs.Stretches.{silent}
use Rattle.sound_core.specs.Outlines.{AreStated, IsPlacedIn, around_of, with_sound}
use Rattle.sound_core.specs.declared.outline.Outline.{Outline}
use Rattle.sound_core.proofs.KeeperLaws.{channel_bits}

-- a sound has as many channels as it states
pub channels_number : (interleaving : Interleaving) (channels count : ℕ) (bytes : List ℕ) → length (sound_channels interleaving channels count bytes) ≡ channels
channels_number Bytes channels count bytes = length-map-range_with_len (unlaced bytes channels) 0 channels
channels_number (Blocks order) channels count bytes = length-map-range_with_len (unblocked order bytes channels count) 0 channels

-- and each has as many bits
pub channels_count : (interleaving : Interleaving) (channels count : ℕ) (bytes : List ℕ) → 1 ≤ channels → (interleaving ≡ Bytes → count % 8 ≡ 0) → length bytes ≡ sound_size interleaving channels count → count_of (sound_channels interleaving channels count bytes) ≡ count
channels_count interleaving channels count bytes some whole long = channel_bits interleaving channels count bytes 0 some whole long some

-- lists of one length are level
level_of : (f : ℕ → List Bool) (long n : ℕ) → 1 ≤ n → ((c : ℕ) → length (f c) ≡ long) → IsLevel (map f (range_with_len 0 n))
level_of f long n some each =
    let first : count_of (map f (range_with_len 0 n)) ≡ long = ap length (get_or-map-range_with_len f 0 n 0 0 [] (omega arith) refl) ∙ each 0 in
    record {
      same = All-map (λ (channel : List Bool). length channel ≡ count_of (map f (range_with_len 0 n))) f (range_with_len 0 n) (λ k d lt. each (get_or (range_with_len 0 n) k d) ∙ sym first);
    }

-- so are the channels of a sound
channels_level : (interleaving : Interleaving) (channels count : ℕ) (bytes : List ℕ) → 1 ≤ channels → IsLevel (sound_channels interleaving channels count bytes)
channels_level Bytes channels count bytes some = level_of (unlaced bytes channels) (8 * (length bytes / channels)) channels some (λ c. length-map-range_with_len (laced_bit bytes channels c) 0 (8 * (length bytes / channels)))
channels_level (Blocks order) channels count bytes some = level_of (unblocked order bytes channels count) count channels some (λ c. length-map-range_with_len (block_bit order bytes channels c) 0 count)

module _ (outline : Outline) (shape : HasShape outline.recording) (stated : AreStated (around_of outline)) (file sound : List ℕ) (stands : IsPlacedIn (around_of outline) file sound) where
  abbrev pub held : Content
  held = with_sound outline.recording outline.sound sound

  long : length sound ≡ sound_size outline.sound.interleaving outline.sound.channels outline.sound.count
  long = stands.sound_long ∙ stated.is_sound.size

  pub held_number : length held.channels ≡ outline.sound.channels
  held_number = channels_number outline.sound.interleaving outline.sound.channels outline.sound.count sound

  pub held_count : count_of held.channels ≡ outline.sound.count
  held_count = channels_count outline.sound.interleaving outline.sound.channels outline.sound.count sound stated.is_sound.some_channel stated.whole long

  as_many : length outline.recording.channels ≡ length held.channels
  as_many = ap length stated.silent ∙ length-replicate outline.sound.channels [] ∙ sym held_number

  -- it keeps the rules of recordings
  pub held_shape : HasShape held
  held_shape = record {
    rate_low = shape.rate_low;
    rate_high = shape.rate_high;
    some_channel = omega (arith, as_many, shape.some_channel);
    six_channels = omega (arith, as_many, shape.six_channels);
    level = channels_level outline.sound.interleaving outline.sound.channels outline.sound.count sound stated.is_sound.some_channel;
    in_limit = omega (arith, held_count, stated.is_sound.in_limit);
    id_for_each = shape.id_for_each ∙ as_many;
    layout_fits = shape.layout_fits ∙ as_many;
    short_texts = shape.short_texts;
    in_order = shape.in_order;
    no_parts = shape.no_parts;
  }

  -- without its bits it is what is stated
  pub held_silent : outline.recording ≡ silent held
  held_silent = ap (λ (channels : List (List Bool)). record outline.recording { channels = channels }) (stated.silent ∙ ap (λ (n : ℕ). replicate n []) (sym held_number))
