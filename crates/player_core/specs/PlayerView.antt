-- What a `Player` means.
use Rattle.std.specs.Prelude.{◌≡◌, ℕ, ◌+◌, ◌-◌, ◌*◌, ◌/◌, ◌%◌, ◌<◌, ◌≤◌, ℤ, List, [], ◌++◌, map, length, drop, slice_index_or}
use Rattle.std.specs.Int.{div_ceil}
use Rattle.std.specs.List.{range_with_len}
use Rattle.dsd_bits.specs.declared.interleaving.Interleaving.TheVariants.{Bytes}
use Rattle.dsd_bits.specs.declared.sound.Sound.{Sound}
use Rattle.dsd_bits.specs.Sounds.{IsSound}
use Rattle.fir_core.specs.Decimator.{Decimator}
use Rattle.fir_core.specs.Streams.{Feeds, Fits}
use Rattle.fir_core.specs.StreamView.{IsStream, state_of}
use Rattle.fir_core.specs.declared.stream.Stream.{Stream}
use Rattle.player_core.specs.Due.{all_bytes, bytes_known, channel_bytes, channel_whole, channels_known, due_bytes, frames_due}
use Rattle.player_core.specs.Frames.{tile_of}
use Rattle.player_core.specs.Groups.{channel_part, group_size, whole_size}
use Rattle.player_core.specs.declared.groups.WholeGroups.{WholeGroups}
use Rattle.player_core.specs.declared.player.Player.{Player}

-- the filter by which a player plays
abbrev pub filter_of : Player → Decimator
filter_of p = p.taps.now

-- the sound that it plays
abbrev pub sound_of : Player → Sound
sound_of p = p.sound

-- the number of the sound's bytes that it was fed
abbrev pub fed_of : Player → ℕ
fed_of p = p.fed

-- the stream of a channel of the sound, after `fed` of its bytes
pub record IsChannel (d : Decimator) (count fed : ℕ) (t : Stream) : Type 0 where
  pub ready : IsStream t
  pub filter : t.taps ≡ d
  pub bits : t.count ≡ count
  pub bytes : t.fed ≡ fed

-- streams of all channels, each after `fed` bytes
abbrev pub AreChannels : Decimator → ℕ → ℕ → List Stream → Type 0
AreChannels d count fed streams = (c : ℕ) (t : Stream) → c < length streams → IsChannel d count fed (slice_index_or streams c t)

-- streams that can take n more bytes
abbrev pub AreReady : ℕ → List Stream → Type 0
AreReady number streams = (c : ℕ) (t : Stream) → c < length streams → IsStream (slice_index_or streams c t) × ((slice_index_or streams c t).fed + number ≤ div_ceil (slice_index_or streams c t).count 8)

-- streams before their first byte
abbrev pub AreNew : Decimator → ℕ → List Stream → Type 0
AreNew d count streams = (c : ℕ) (t : Stream) → c < length streams → IsChannel d count 0 (slice_index_or streams c t) × Fits (state_of (slice_index_or streams c t)) []

-- streams that were fed all bytes of their channels
abbrev pub AreWhole : List Stream → Type 0
AreWhole streams = (c : ℕ) (t : Stream) → c < length streams → IsStream (slice_index_or streams c t) × ((slice_index_or streams c t).fed ≡ div_ceil (slice_index_or streams c t).count 8)

-- each stream was fed its channel's part of these sound bytes
abbrev pub AllFit : Sound → List Stream → List ℕ → Type 0
AllFit s streams bytes = (c : ℕ) (t : Stream) → c < length streams → Fits (state_of (slice_index_or streams c t)) (channel_bytes s bytes c)

-- the player was fed these sound bytes
pub record IsPlayerFed (p : Player) (bytes : List ℕ) : Type 0 where
  pub fed : p.fed ≡ length bytes
  pub held : p.held.items ≡ drop (length bytes / group_size p.sound.interleaving p.sound.channels * group_size p.sound.interleaving p.sound.channels) bytes
  pub each : AllFit p.sound p.streams.items bytes

-- what holds of each player: it has a stream for each channel, after some sound bytes
pub record IsPlayer (p : Player) : Type 0 where
  pub sound : IsSound p.sound
  pub whole : p.sound.interleaving ≡ Bytes → p.sound.count % 8 ≡ 0
  pub within : p.fed ≤ p.sound.size
  pub number : length p.streams.items ≡ p.sound.channels
  pub each : AreChannels p.taps.now p.sound.count (bytes_known p.sound p.fed) p.streams.items
  pub history : (bytes : List ℕ) × IsPlayerFed p bytes

-- a player of the same sound by the same filter, which was fed as many bytes
abbrev pub IsSamePlayer : Player → Player → Type 0
IsSamePlayer old new = (new.taps ≡ old.taps) × (new.sound ≡ old.sound) × (new.fed ≡ old.fed)

-- a player of the same sound by the same filter, which was fed n more bytes
abbrev pub GoesOn : Player → Player → ℕ → Type 0
GoesOn old new n = (filter_of new ≡ filter_of old) × (sound_of new ≡ sound_of old) × (fed_of new ≡ fed_of old + n)

-- in whole groups each channel has the same first bytes as in these sound bytes
pub record HasParts (s : Sound) (bytes : List ℕ) (groups : WholeGroups) : Type 0 where
  pub number : s.channels ≡ groups.channels
  pub same : (c : ℕ) → c < groups.channels → channel_part s.interleaving s.channels bytes c 0 groups.number ≡ channel_part groups.interleaving groups.channels groups.bytes.now c 0 groups.number

-- a stream was fed the first bytes of its channel in whole groups of sound bytes
abbrev pub FeedsChannel : Stream → Stream → WholeGroups → ℕ → List ℤ → List ℤ → Type 0
FeedsChannel old new groups channel tile_old tile_new = Feeds (state_of old) (state_of new) (channel_part groups.interleaving groups.channels groups.bytes.now channel 0 groups.number) tile_old tile_new

-- streams of all channels, each after as many bytes as the others, were fed n more bytes
abbrev pub AdvanceAll : ℕ → List Stream → List Stream → Type 0
AdvanceAll n old new = (d : Decimator) (count fed : ℕ) → AreChannels d count fed old → AreChannels d count (fed + n) new

-- streams that fit whole groups of sound bytes, which are `fed` bytes of each channel, fit `number` more after them,
-- and returned the samples that are due then and not before
abbrev pub FeedAll : Decimator → Sound → ℕ → ℕ → List Stream → List Stream → List ℕ → List ℤ → Type 0
FeedAll d s fed number old new groups tile = (prefix : List ℕ) (k : ℕ) → length prefix ≡ k * group_size s.interleaving s.channels
    → bytes_known s (length prefix) ≡ fed → bytes_known s (length (prefix ++ groups)) ≡ fed + number
    → AllFit s old prefix → AllFit s new (prefix ++ groups) × (tile ≡ tile_of d (channels_known s (prefix ++ groups)) (frames_due d s (length prefix)) (frames_due d s (length (prefix ++ groups)) - frames_due d s (length prefix)))

-- streams of all channels, whatever they were fed before, were fed these groups of any sound, as `FeedAll` says
abbrev pub FeedChannels : WholeGroups → List Stream → List Stream → List ℤ → Type 0
FeedChannels groups old new tile = (s : Sound) (bytes : List ℕ) → HasParts s bytes groups → (d : Decimator) (fed : ℕ) → AreChannels d s.count fed old → FeedAll d s fed groups.number old new bytes tile

-- streams that fit all sound bytes returned the rest of their samples
abbrev pub FinishAll : Decimator → Sound → List Stream → List ℤ → Type 0
FinishAll d s streams tile = (bytes : List ℕ) → AreChannels d s.count (bytes_known s (length bytes)) streams → AllFit s streams bytes
    → tile ≡ tile_of d (map (channel_whole s bytes) (range_with_len 0 s.channels)) (frames_due d s (length bytes)) (div_ceil s.count d.factor - frames_due d s (length bytes))

-- streams of all channels of a sound returned the rest of their samples, as `FinishAll` says
abbrev pub FinishChannels : List Stream → List ℤ → Type 0
FinishChannels streams tile = (d : Decimator) (s : Sound) → length streams ≡ s.channels → FinishAll d s streams tile

-- after whatever sound bytes the player was fed, it was fed these, and returned the bytes that were due then and not
-- before
abbrev pub FeedsPlayer : Player → Player → List ℕ → List ℕ → List ℕ → Type 0
FeedsPlayer old new bytes given_old given_new = (more : List ℕ) × (given_new ≡ given_old ++ more)
    × ((before : List ℕ) → IsPlayerFed old before → IsPlayerFed new (before ++ bytes) × (due_bytes old.taps.now old.sound (before ++ bytes) ≡ due_bytes old.taps.now old.sound before ++ more))

-- the next n bytes of the sound are whole groups, and these groups have the same of each channel
pub record AreNext (p : Player) (groups : WholeGroups) (n : ℕ) : Type 0 where
  pub bytes : List ℕ
  pub long : length bytes ≡ n
  pub parts : HasParts p.sound bytes groups
  pub enough : groups.number ≤ whole_size groups.interleaving groups.channels (length groups.bytes.now)
  pub whole : n ≡ n / group_size p.sound.interleaving p.sound.channels * group_size p.sound.interleaving p.sound.channels
  pub number : bytes_known p.sound (p.fed + n) ≡ bytes_known p.sound p.fed + groups.number

-- the player was fed the next n bytes of the sound, whose channels have what they have in these groups
abbrev pub FeedsGroups : Player → Player → WholeGroups → ℕ → List ℕ → List ℕ → Type 0
FeedsGroups old new groups n given_old given_new = (bytes : List ℕ) → length bytes ≡ n → HasParts old.sound bytes groups → FeedsPlayer old new bytes given_old given_new

-- after all sound bytes, the player returned the rest of the frames' bytes
abbrev pub FinishesPlayer : Player → List ℕ → List ℕ → Type 0
FinishesPlayer old given_old given_new = (more : List ℕ) × (given_new ≡ given_old ++ more)
    × ((before : List ℕ) → IsPlayerFed old before → all_bytes old.taps.now old.sound before ≡ due_bytes old.taps.now old.sound before ++ more)
