-- What is played of a recording between others, to which it is joined.
use Rattle.std.specs.Prelude.{◌≡◌, ◌≢◌, ◌⊎◌, ℕ, ◌+◌, ◌-◌, ◌*◌, ◌/◌, ◌%◌, ◌≤◌, ◌^◌, Bool, List, [], ◌++◌, length, map, Option, Some, IfSome, slice_index_or, ⊤}
use Rattle.std.specs.List.{range_with_len}
use Rattle.std.specs.Int.{div_ceil}
use Rattle.dsd_bits.specs.declared.interleaving.Interleaving.{Interleaving}
use Rattle.dsd_bits.specs.declared.interleaving.Interleaving.TheVariants.{Bytes, Blocks}
use Rattle.dsd_bits.specs.declared.sound.Sound.{Sound}
use Rattle.dsd_bits.specs.Channels.{count_of}
use Rattle.dsd_bits.specs.Contents.{Content}
use Rattle.dsd_bits.specs.Lacing.{unlaced_all}
use Rattle.fir_core.specs.Decimator.{Decimator}
use Rattle.interleave_core.specs.Reinterleaving.{reinterleaved}
use Rattle.sound_core.specs.Files.{HoldsRecording, IsRefused}
use Rattle.wave_core.specs.Contents.{Pcm}
use Rattle.sound_core.specs.Sinks.{BeginsSound}
use Rattle.sound_core.specs.declared.fault.StreamFault.{StreamFault}
use Rattle.sound_core.specs.declared.fault.StreamFault.TheVariants.{FileRefused, RateNotDivided, TooLarge, ReadFailed, WriteFailed, TurnLimit, Memory}
use Rattle.wave_core.specs.Heads.{limit_of, size_in, text_in}
use Rattle.wave_core.specs.declared.head.WaveHead.{WaveHead}
use Rattle.player_core.specs.Playing.{part_pcm}
use Rattle.player_core.specs.declared.joining.JoiningSink.{JoiningSink}
use Rattle.player_core.specs.declared.joining.Neighbours.{Neighbours}
use Rattle.player_core.specs.declared.range.WaveRange.{WaveRange}
use Rattle.player_core.specs.declared.sink.PlayingSink.{PlayingSink}
use Rattle.player_core.specs.Sinks.{IsPlaying}

-- the channels of three recordings joined: each channel's bits before, its own and those after; a recording that isn't
-- there has no channels
abbrev pub joined : List (List Bool) → List (List Bool) → List (List Bool) → List (List Bool)
joined before own after = map (λ c. slice_index_or before c [] ++ (slice_index_or own c [] ++ slice_index_or after c [])) (range_with_len 0 (length own))

-- the first frame whose place, its number times the factor, comes after `count` bits
abbrev pub frame_after : Decimator → ℕ → ℕ
frame_after d count = div_ceil count d.factor

-- the samples of a recording between others: of the frames of all joined those whose place lies in the recording
abbrev pub between_pcm : Content → Decimator → List (List Bool) → List (List Bool) → Pcm
between_pcm r d before after = part_pcm (record r { channels = joined before r.channels after }) d
    (frame_after d (count_of before)) (frame_after d (count_of before + count_of r.channels))

-- the file holds a recording of whole bytes, whose rate the factor divides, and these bytes are the text of a WAVE file
-- with this head of its samples between others, which have as many channels and its rate
pub record PlaysBetween (head : WaveHead) (d : Decimator) (rate : ℕ) (before after : List (List Bool)) (file bytes : List ℕ) : Type 0 where
  pub recording : Content
  pub file_holds : HoldsRecording file recording
  pub rate_same : recording.rate ≡ rate
  pub number_before : length before ≡ length recording.channels
  pub number_after : length after ≡ length recording.channels
  pub whole : count_of recording.channels % 8 ≡ 0
  pub rate_divided : recording.rate % d.factor ≡ 0
  pub text : text_in head (between_pcm recording d before after) ≡ Some bytes

-- ---- sound bytes before and after
-- the channels before a sound
abbrev pub channels_before : Neighbours → List (List Bool)
channels_before around = unlaced_all around.before.now around.channels

-- the channels after a sound
abbrev pub channels_after : Neighbours → List (List Bool)
channels_after around = unlaced_all around.after.now around.channels

-- how many bits each channel has before a sound
abbrev pub bits_before : Neighbours → ℕ
bits_before around = 8 * (length around.before.now / around.channels)

-- how many bits each channel has after a sound
abbrev pub bits_after : Neighbours → ℕ
bits_after around = 8 * (length around.after.now / around.channels)

-- a sound joined to its neighbours, with a byte of each channel in turn
abbrev pub joined_of : Neighbours → Sound → Sound
joined_of around s = record {
  rate = s.rate;
  channels = s.channels;
  count = bits_before around + (s.count + bits_after around);
  start = 0;
  size = length around.before.now + (s.count / 8 * s.channels + length around.after.now);
  interleaving = Bytes;
}

-- a sound can be joined to its neighbours, and this is the joined one: they have the same rate and channels, all end
-- with whole bytes, and none is too long
pub record IsJoined (around : Neighbours) (s j : Sound) : Type 0 where
  pub rate : s.rate ≡ around.rate
  pub channels : s.channels ≡ around.channels
  pub whole : s.count % 8 ≡ 0
  pub before_whole : length around.before.now ≡ length around.before.now / around.channels * around.channels
  pub after_whole : length around.after.now ≡ length around.after.now / around.channels * around.channels
  pub before_short : length around.before.now ≤ 65536
  pub after_short : length around.after.now ≤ 65536
  pub few : bits_before around + (s.count + bits_after around) ≤ 2 ^ 36
  pub is : j ≡ joined_of around s

-- a sound can be joined to its neighbours
abbrev pub CanBeJoined : Neighbours → Sound → Type 0
CanBeJoined around s = (j : Sound) × IsJoined around s j

-- how many frames of a joined sound have their place in the sound itself
abbrev pub own_number : Decimator → Neighbours → Sound → ℕ
own_number d around s = frame_after d (bits_before around + s.count) - frame_after d (bits_before around)

-- the frames of a joined sound whose place lies in the sound itself, and the head of their file
abbrev pub own_range : WaveHead → Decimator → Neighbours → Sound → WaveRange
own_range head d around s = record { head = head; start = frame_after d (bits_before around); stop = Some (frame_after d (bits_before around + s.count)) }

-- sound bytes of `count` bits of each channel, with a byte of each channel in turn
abbrev pub framed : Interleaving → ℕ → ℕ → List ℕ → List ℕ
framed Bytes channels count bytes = bytes
framed (Blocks order) channels count bytes = reinterleaved (Blocks order) Bytes channels count bytes

-- the first `done` bits of each channel of a sound, with a byte of each channel in turn
abbrev pub in_frames : Sound → ℕ → List ℕ → List ℕ
in_frames s done bytes = framed s.interleaving s.channels done bytes

-- a sink that plays, with other frames
abbrev pub with_range : {W : Type 0} → PlayingSink W → WaveRange → PlayingSink W
with_range p range = record p { range = range }

-- after these bytes of a sound, the sink of the joined sound has what is before it, and these in frames
pub record IsJoining {W : Type 0} (held : W → Option (List ℕ)) (first now : JoiningSink W) (s : Sound) (done : ℕ) (bytes : List ℕ) : Type 0 where
  pub around : now.around ≡ first.around
  pub reference : now.playing.ghost_name ≡ first.playing.ghost_name
  pub joined : Sound
  pub is_joined : IsJoined first.around s joined
  pub playing : IsPlaying held (with_range first.playing.now (own_range first.playing.now.range.head first.playing.now.taps.now first.around s)) now.playing.now joined (first.around.before.now ++ in_frames s done bytes)

-- ---- faults
-- a fault of a sound between its neighbours: it can't be joined to them; the factor doesn't divide its rate; neither is
-- so, but the sizes of its frames don't fit; or what is due is not written
abbrev pub IsJoiningFault : WaveHead → Decimator → Neighbours → Sound → StreamFault → Type 0
IsJoiningFault head d around s FileRefused = CanBeJoined around s → ⊥
IsJoiningFault head d around s RateNotDivided = CanBeJoined around s × (s.rate % d.factor ≢ 0)
IsJoiningFault head d around s TooLarge = CanBeJoined around s × (s.rate % d.factor ≡ 0) × (limit_of head ≤ size_in head s.channels d.width (own_number d around s))
IsJoiningFault head d around s WriteFailed = ⊤
IsJoiningFault head d around s Memory = ⊤
IsJoiningFault head d around s _ = ⊥

-- the file describes a sound that has this fault between its neighbours
abbrev pub HasJoiningFault : WaveHead → Decimator → Neighbours → List ℕ → StreamFault → Type 0
HasJoiningFault head d around file f = (s : Sound) × BeginsSound s [] file × IsJoiningFault head d around s f

-- this fault applies to a file between its neighbours; a device, the number of reads and memory don't depend on the file
abbrev pub AppliesBetween : WaveHead → Decimator → Neighbours → List ℕ → StreamFault → Type 0
AppliesBetween head d around file FileRefused = IsRefused file ⊎ HasJoiningFault head d around file FileRefused
AppliesBetween head d around file RateNotDivided = HasJoiningFault head d around file RateNotDivided
AppliesBetween head d around file TooLarge = HasJoiningFault head d around file TooLarge
AppliesBetween head d around file ReadFailed = ⊤
AppliesBetween head d around file WriteFailed = ⊤
AppliesBetween head d around file TurnLimit = ⊤
AppliesBetween head d around file Memory = ⊤

-- this fault applies to the reader's file, if that is known
abbrev pub AppliesBetweenBy : Option (List ℕ) → WaveHead → Decimator → Neighbours → StreamFault → Type 0
AppliesBetweenBy left head d around f = IfSome left (λ file. AppliesBetween head d around file f)

-- some sound can't be joined to these neighbours
abbrev pub IsUnjoinedBySome : Neighbours → Type 0
IsUnjoinedBySome around = (s : Sound) × (CanBeJoined around s → ⊥)
