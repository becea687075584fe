-- What recordings before and after another have to be, and what is kept of them.
use Rattle.std.specs.Prelude.{◌≡◌, ◌≢◌, ◌≤◌, ◌⊎◌, ℕ, ◌%◌, ◌*◌, Bool, List, [], ◌∷◌, length, replicate, slice_index_or, Option, None, Some, IfSome}
use Rattle.std.specs.Borrow.{Bor}
use Rattle.dsd_bits.specs.declared.sound.Sound.{Sound}
use Rattle.dsd_bits.specs.declared.stretches.BitRange.{BitRange}
use Rattle.dsd_bits.specs.Channels.{IsLevel, count_of}
use Rattle.dsd_bits.specs.Contents.{Content}
use Rattle.dsd_bits.specs.Lacing.{laced, unlaced_all}
use Rattle.dsd_bits.specs.Stretches.{stretch_of}
use Rattle.fir_core.specs.Decimator.{Decimator}
use Rattle.folder_core.specs.Files.{IsReadOf, View}
use Rattle.player_core.specs.Reaches.{IsFarEnough, first_bits, from_frame}
use Rattle.request_core.specs.declared.fault.Fault.TheVariants.{Memory}
use Rattle.sound_core.specs.Files.{HoldsRecording}
use Rattle.sound_core.specs.Keeping.{IsKeptOf, stretches_in}
use Rattle.sound_core.specs.Outlines.{AreStated, around_of}
use Rattle.sound_core.specs.declared.keeping.Kept.{Kept}
use Rattle.transfer_commands.specs.Outlining.{IsUnoutlined}
use Rattle.transfer_commands.specs.PartPlaying.{DescribesRead}
use Rattle.transfer_commands.specs.declared.between.BetweenFault.{BetweenFault}
use Rattle.transfer_commands.specs.declared.between.BetweenFault.TheVariants.{Command, Next, Previous}
use Rattle.transfer_commands.specs.declared.between.Edges.{Edges}
use Rattle.transfer_commands.specs.declared.between.NeighbourNames.{NeighbourNames}
use Rattle.transfer_commands.specs.declared.fault.CommandFault.TheVariants.{Call}
use Rattle.transfer_commands.specs.declared.neighbour.NeighbourFault.{NeighbourFault}
use Rattle.transfer_commands.specs.declared.neighbour.NeighbourFault.TheVariants as neighbours

-- ---- a neighbour
-- bytes that were read of a file hold a recording with this rate and these channels
pub record HoldsChannels (name : List ℕ) (old : View) (rate : ℕ) (channels : List (List Bool)) : Type 0 where
  pub file : List ℕ
  pub recording : Content
  pub file_read : IsReadOf old name file
  pub file_holds : HoldsRecording file recording
  pub rate_is : recording.rate ≡ rate
  pub channels_are : recording.channels ≡ channels

-- the channels of a neighbour: those of bytes that were read of its file, or such without a bit if none is named
abbrev pub AreChannelsOf : Option (Bor (List ℕ)) → View → ℕ → List (List Bool) → Type 0
AreChannelsOf None old rate channels = channels ≡ replicate (length channels) []
AreChannelsOf (Some name) old rate channels = HoldsChannels name.now old rate channels

-- a recording that another follows has to end with a whole byte of each channel
abbrev pub EndsBefore : ℕ → Type 0
EndsBefore count = count % 8 ≡ 0

-- one that follows another, too, if it has fewer bits than a filter may reach
abbrev pub EndsAfter : ℕ → Type 0
EndsAfter count = (count % 8 ≡ 0) ⊎ (4096 ≤ count)

-- bytes that were read of two files describe sounds of which P holds
abbrev pub DescribeRead : List ℕ → List ℕ → View → (Sound → Sound → Type 0) → Type 0
DescribeRead name input old P = (s : Sound) × (t : Sound) × DescribesRead name old s × DescribesRead input old t × P s t

-- why a file can't be a neighbour of the input: it was not read or holds no recording, it has another rate or other
-- channels than the input, or it doesn't end as `Ends` says
abbrev pub IsNoNeighbour : (ℕ → Type 0) → List ℕ → List ℕ → View → NeighbourFault → Type 0
IsNoNeighbour Ends name input old (neighbours.Command fault) = IsUnoutlined name old fault
IsNoNeighbour Ends name input old neighbours.OtherRate = DescribeRead name input old (λ s t. s.rate ≢ t.rate)
IsNoNeighbour Ends name input old neighbours.OtherChannels = DescribeRead name input old (λ s t. s.channels ≢ t.channels)
IsNoNeighbour Ends name input old neighbours.NotWholeBytes = (s : Sound) × DescribesRead name old s × (Ends s.count → ⊥)

-- a neighbour is named, and can't be one for this fault; out of memory is no fault of a neighbour
abbrev pub IsRefusedNeighbour : (ℕ → Type 0) → Option (Bor (List ℕ)) → List ℕ → View → NeighbourFault → Type 0
IsRefusedNeighbour Ends None input old fault = ⊥
IsRefusedNeighbour Ends (Some name) input old fault = IsNoNeighbour Ends name.now input old fault × (fault ≢ neighbours.Command (Call Memory))

-- ---- what is kept of one
-- a sound has the rate and the number of channels of another
abbrev pub AreAlike : Sound → Sound → Type 0
AreAlike t s = (s.rate ≡ t.rate) × (s.channels ≡ t.channels)

-- a file can't be the neighbour of any whose first bytes describe this sound
abbrev pub IsNoneFor : (ℕ → Type 0) → List ℕ → View → Sound → NeighbourFault → Type 0
IsNoneFor Ends name old t fault = (input : List ℕ) → DescribesRead input old t → IsNoNeighbour Ends name input old fault

-- these are sound bytes of the end of a recording that was read of a file, with the rate and channels of a sound: all
-- bits from frame m on, before which no tap of the first frame after them reads
pub record HearsBefore (name : List ℕ) (old : View) (t : Sound) (d : Decimator) (bytes : List ℕ) : Type 0 where
  pub before : List (List Bool)
  pub m : ℕ
  pub holds : HoldsChannels name old t.rate before
  pub number : length before ≡ t.channels
  pub level : IsLevel before
  pub few : m * d.factor ≤ count_of before
  pub far : IsFarEnough d (count_of before) m
  pub frames : ℕ
  pub whole : length bytes ≡ frames * t.channels
  pub bytes_are : unlaced_all bytes t.channels ≡ from_frame d m before

-- these are sound bytes of the beginning of a recording that was read of a file, with the rate and channels of a sound:
-- as many bits as the delay of the filter, or more, or all
pub record HearsAfter (name : List ℕ) (old : View) (t : Sound) (d : Decimator) (bytes : List ℕ) : Type 0 where
  pub after : List (List Bool)
  pub count : ℕ
  pub holds : HoldsChannels name old t.rate after
  pub number : length after ≡ t.channels
  pub level : IsLevel after
  pub enough : (d.delay ≤ count) ⊎ (first_bits count after ≡ after)
  pub frames : ℕ
  pub whole : length bytes ≡ frames * t.channels
  pub bytes_are : unlaced_all bytes t.channels ≡ first_bits count after

-- ---- a range of bits
-- it has whole bytes of channels of `count` bits
pub record IsWholeRange (count : ℕ) (range : BitRange) : Type 0 where
  pub start_whole : range.start % 8 ≡ 0
  pub stop_whole : range.stop % 8 ≡ 0
  pub ordered : range.start ≤ range.stop
  pub inside : range.stop ≤ count

-- the file holds a recording with the rate, channels and length of a sound, and these are the sound bytes of a range
pub record IsEdgeIn (s : Sound) (range : BitRange) (bytes file : List ℕ) : Type 0 where
  pub recording : Content
  pub file_holds : HoldsRecording file recording
  pub rate_is : recording.rate ≡ s.rate
  pub number : length recording.channels ≡ s.channels
  pub count_is : count_of recording.channels ≡ s.count
  pub level : IsLevel recording.channels
  pub some : 1 ≤ length recording.channels
  pub bytes_are : bytes ≡ laced (stretch_of recording.channels range)

-- the same of what a reader has left, if that is known, and of some bytes
pub record IsEdgeLeft (left : Option (List ℕ)) (s : Sound) (range : BitRange) (bytes : List ℕ) : Type 0 where
  pub known : IfSome left (IsEdgeIn s range bytes)
  pub some : (file : List ℕ) × IsEdgeIn s range bytes file

-- ---- stages
-- the range was kept of some file
pub record KeepsSome (range : BitRange) (k : Kept) : Type 0 where
  pub stated : AreStated (around_of k.outline)
  pub some : (file : List ℕ) × IsKeptOf (around_of k.outline) (range ∷ []) (stretches_in k) file

-- it was kept of what a reader has left, if that is known
pub record KeepsLeft (left : Option (List ℕ)) (range : BitRange) (k : Kept) : Type 0 where
  pub keeps : KeepsSome range k
  pub known : IfSome left (IsKeptOf (around_of k.outline) (range ∷ []) (stretches_in k))

-- these are the sound bytes of what was kept of a file that has the rate, channels and length of a sound
pub record IsLacedEdge (k : Kept) (s : Sound) (bytes : List ℕ) : Type 0 where
  pub rate : s.rate ≡ k.outline.sound.rate
  pub channels : s.channels ≡ k.outline.sound.channels
  pub count : s.count ≡ k.outline.sound.count
  pub bytes_are : bytes ≡ laced (slice_index_or (stretches_in k) 0 [])

-- ---- the neighbours that are named
-- these sound bytes were kept of the recording before, none if none is named
abbrev pub IsHeardBefore : Option (Bor (List ℕ)) → View → Sound → Decimator → List ℕ → Type 0
IsHeardBefore None old t d bytes = bytes ≡ []
IsHeardBefore (Some name) old t d bytes = HearsBefore name.now old t d bytes

-- these sound bytes were kept of the recording after, none if none is named
abbrev pub IsHeardAfter : Option (Bor (List ℕ)) → View → Sound → Decimator → List ℕ → Type 0
IsHeardAfter None old t d bytes = bytes ≡ []
IsHeardAfter (Some name) old t d bytes = HearsAfter name.now old t d bytes

-- what was kept of both, for a sound between them
pub record AreHeard (around : NeighbourNames) (old : View) (t : Sound) (d : Decimator) (e : Edges) : Type 0 where
  pub rate : e.rate ≡ t.rate
  pub channels : e.channels ≡ t.channels
  pub before : IsHeardBefore around.previous old t d e.before.items
  pub after : IsHeardAfter around.next old t d e.after.items

-- a fault of a neighbour on this side, or out of memory
abbrev pub fault_on : (NeighbourFault → BetweenFault) → NeighbourFault → BetweenFault
fault_on side (neighbours.Command (Call Memory)) = Command (Call Memory)
fault_on side fault = side fault

-- a fault of the recording before
abbrev pub fault_before : NeighbourFault → BetweenFault
fault_before = fault_on Previous

-- a fault of the recording after
abbrev pub fault_after : NeighbourFault → BetweenFault
fault_after = fault_on Next

-- why nothing was kept of the recording before
abbrev pub IsUnheardBefore : Option (Bor (List ℕ)) → View → Sound → BetweenFault → Type 0
IsUnheardBefore None old t fault = ⊥
IsUnheardBefore (Some name) old t fault = (f : NeighbourFault) × (fault ≡ fault_before f) × IsNoneFor EndsBefore name.now old t f

-- why nothing was kept of the recording after
abbrev pub IsUnheardAfter : Option (Bor (List ℕ)) → View → Sound → BetweenFault → Type 0
IsUnheardAfter None old t fault = ⊥
IsUnheardAfter (Some name) old t fault = (f : NeighbourFault) × (fault ≡ fault_after f) × IsNoneFor EndsAfter name.now old t f

-- why nothing was kept of both: because of the recording before, or, if something was kept of that, the one after
abbrev pub AreUnheard : NeighbourNames → View → Sound → Decimator → BetweenFault → Type 0
AreUnheard around old t d fault = IsUnheardBefore around.previous old t fault ⊎ ((bytes : List ℕ) × IsHeardBefore around.previous old t d bytes × IsUnheardAfter around.next old t fault)
