-- Parts of what is played of a sound: some of its frames, and the rest of the sound from which they are played.
use Rattle.std.specs.Prelude.{◌≡◌, ℕ, ◌-◌, ◌*◌, ◌/◌, ◌%◌, ◌≤◌, min, List, ◌++◌, length, nat_eq, if◌then◌else◌, slice_range}
use Rattle.std.specs.List.{flat_map, range_with_len}
use Rattle.dsd_bits.specs.declared.interleaving.Interleaving.{Interleaving}
use Rattle.dsd_bits.specs.declared.interleaving.Interleaving.TheVariants.{Bytes}
use Rattle.dsd_bits.specs.declared.sound.Sound.{Sound}
use Rattle.dsd_bits.specs.Sounds.{IsSound, sound_channels}
use Rattle.fir_core.specs.Decimator.{Decimator}
use Rattle.fir_core.specs.Rests.{first_whole}
use Rattle.wave_core.specs.Sizes.{block_align}
use Rattle.wave_core.specs.Texts.{sample_bytes}
use Rattle.wave_core.specs.declared.head.WaveHead.{WaveHead}
use Rattle.player_core.specs.Due.{all_bytes}
use Rattle.player_core.specs.Frames.{frame}
use Rattle.player_core.specs.Groups.{group_size, part_size}
use Rattle.player_core.specs.Laws.{file_around, total_frames}

-- the bytes of frames from one on, up to another that is not among them: a slice of those of all frames of the sound
abbrev pub part_bytes : Decimator → Sound → List ℕ → ℕ → ℕ → List ℕ
part_bytes d s bytes start stop = slice_range (all_bytes d s bytes) (start * block_align s.channels d.width) (stop * block_align s.channels d.width)

-- what is left of a sound without so many of its first groups, as a sound of its own
abbrev pub rest_of : Sound → ℕ → Sound
rest_of s groups = record {
  rate = s.rate;
  channels = s.channels;
  count = s.count - 8 * (groups * part_size s.interleaving);
  start = 0;
  size = s.size - groups * group_size s.interleaving s.channels;
  interleaving = s.interleaving;
}

-- how many groups lie between two places at which both a group and a frame begin
abbrev pub groups_apart : Decimator → Interleaving → ℕ
groups_apart d interleaving = if nat_eq (8 * part_size interleaving % d.factor) 0 then 1 else d.factor / 8

-- how many frames lie between them
abbrev pub frames_apart : Decimator → Interleaving → ℕ
frames_apart d interleaving = groups_apart d interleaving * (8 * part_size interleaving) / d.factor

-- how often both are left out before a frame, so that its taps read nothing before the rest
abbrev pub steps_before : Decimator → Interleaving → ℕ → ℕ
steps_before d interleaving start = (start - first_whole d) / frames_apart d interleaving

-- how many groups are left out before a frame
abbrev pub groups_before : Decimator → Interleaving → ℕ → ℕ
groups_before d interleaving start = steps_before d interleaving start * groups_apart d interleaving

-- how many frames begin in them
abbrev pub frames_before : Decimator → Interleaving → ℕ → ℕ
frames_before d interleaving start = steps_before d interleaving start * frames_apart d interleaving

-- as many frames as a part has, as a sound of their own: its WAVE file has the part's header and pad
abbrev pub frames_sound : Decimator → Sound → ℕ → Sound
frames_sound d s number = record {
  rate = s.rate;
  channels = s.channels;
  count = min (number * d.factor) s.count;
  start = 0;
  size = min (number * d.factor) s.count / 8 * s.channels;
  interleaving = Bytes;
}

-- the WAVE file of a part: its header, the bytes of its frames, its pad
abbrev pub part_file : WaveHead → Decimator → Sound → ℕ → ℕ → List ℕ → List ℕ
part_file head d s start stop bytes = file_around head d (frames_sound d s (stop - start)) (part_bytes d s bytes start stop)

-- ---- laws
-- parts that meet make one part
abbrev pub PartsMeet : Type 0
PartsMeet = (d : Decimator) (s : Sound) (bytes : List ℕ) (a b c : ℕ) → a ≤ b → b ≤ c → part_bytes d s bytes a b ++ part_bytes d s bytes b c ≡ part_bytes d s bytes a c

-- the part from the first frame to the last is the whole
abbrev pub WholeIsPart : Type 0
WholeIsPart = (d : Decimator) (s : Sound) (bytes : List ℕ) → IsSound s → (s.interleaving ≡ Bytes → s.count % 8 ≡ 0) → length bytes ≡ s.size → part_bytes d s bytes 0 (total_frames d s) ≡ all_bytes d s bytes

-- a part has the bytes of its frames, and no others
abbrev pub PartHasFrames : Type 0
PartHasFrames = (d : Decimator) (s : Sound) (bytes : List ℕ) (a b : ℕ) → IsSound s → (s.interleaving ≡ Bytes → s.count % 8 ≡ 0) → length bytes ≡ s.size → a ≤ b → b ≤ total_frames d s
    → part_bytes d s bytes a b ≡ flat_map (sample_bytes d.width) (flat_map (frame d (sound_channels s.interleaving s.channels s.count bytes)) (range_with_len a (b - a)))
