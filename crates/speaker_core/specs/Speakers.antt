-- Which loudspeakers the channels of a recording belong to (DSDIFF 1.5, channels chunk; DSF 1.01, channel type), and in
-- which order a WAVE file has them (Microsoft, WAVEFORMATEXTENSIBLE).
use Rattle.std.specs.Prelude.{ℕ, ◌+◌, Bool, false, true, List, [], ◌∷◌, Option, None, Some, codes, is_some, length, map, nat_eq, option_to_list, if◌then◌else◌}
use Rattle.std.specs.List.{flat_map, range_with_len}
use Rattle.dsd_bits.specs.Ids.{same_id}

-- the loudspeaker that an ID of DSDIFF names, if it names one; a loudspeaker is the number of its bit in the mask: 0
-- front left, 1 front right, 2 front centre, 3 low frequency, 4 back left, 5 back right
abbrev pub speaker_of : List ℕ → Option ℕ
speaker_of id =
    if same_id id (codes "SLFT") then Some 0 else if same_id id (codes "MLFT") then Some 0
    else if same_id id (codes "SRGT") then Some 1 else if same_id id (codes "MRGT") then Some 1
    else if same_id id (codes "C   ") then Some 2 else if same_id id (codes "LFE ") then Some 3
    else if same_id id (codes "LS  ") then Some 4 else if same_id id (codes "RS  ") then Some 5 else None

-- the loudspeakers of a channel type of DSF, in the order of its channels
abbrev pub layout_speakers : ℕ → List ℕ
layout_speakers layout =
    if nat_eq layout 1 then 2 ∷ [] else if nat_eq layout 2 then 0 ∷ 1 ∷ []
    else if nat_eq layout 3 then 0 ∷ 1 ∷ 2 ∷ [] else if nat_eq layout 4 then 0 ∷ 1 ∷ 4 ∷ 5 ∷ []
    else if nat_eq layout 5 then 0 ∷ 1 ∷ 2 ∷ 3 ∷ [] else if nat_eq layout 6 then 0 ∷ 1 ∷ 2 ∷ 4 ∷ 5 ∷ []
    else if nat_eq layout 7 then 0 ∷ 1 ∷ 2 ∷ 3 ∷ 4 ∷ 5 ∷ [] else []

-- the loudspeaker of each channel: by the channel type, or by the IDs
abbrev pub channel_speakers : Bool → List (List ℕ) → ℕ → List (Option ℕ)
channel_speakers has_type ids layout = if has_type then map (λ speaker. Some speaker) (layout_speakers layout) else map speaker_of ids

-- a channel has this loudspeaker
abbrev pub has_speaker : ℕ → Option ℕ → Bool
has_speaker speaker None = false
has_speaker speaker (Some other) = nat_eq other speaker

-- the first of some channels that has a loudspeaker; the first of them has this number
abbrev pub channel_with : ℕ → List (Option ℕ) → ℕ → Option ℕ
channel_with speaker [] number = None
channel_with speaker (c ∷ cs) number = if has_speaker speaker c then Some number else channel_with speaker cs (number + 1)

-- the loudspeakers, in the order of the mask's bits
abbrev pub all_speakers : List ℕ
all_speakers = 0 ∷ 1 ∷ 2 ∷ 3 ∷ 4 ∷ 5 ∷ []

-- the channels that have some loudspeakers, one of each, in the order of these
abbrev pub channels_of : List (Option ℕ) → List ℕ → List ℕ
channels_of channels speakers = flat_map (λ speaker. option_to_list (channel_with speaker channels 0)) speakers

-- each channel has a loudspeaker, and no other channel has the same
abbrev pub are_named : List (Option ℕ) → Bool
are_named channels = nat_eq (length (channels_of channels all_speakers)) (length channels)

-- the order of the channels in a WAVE file: that of the mask's bits, or their own if not all of them are named
abbrev pub speaker_order : List (Option ℕ) → List ℕ
speaker_order channels = if are_named channels then channels_of channels all_speakers else range_with_len 0 (length channels)

-- the bit of a loudspeaker, if a channel has it
abbrev pub speaker_bit : List (Option ℕ) → ℕ → ℕ → ℕ
speaker_bit channels speaker bit = if is_some (channel_with speaker channels 0) then bit else 0

-- the channel mask: the bits of the channels' loudspeakers, or 0 if not all of them are named
abbrev pub speaker_mask : List (Option ℕ) → ℕ
speaker_mask channels =
    if are_named channels
    then speaker_bit channels 0 1 + (speaker_bit channels 1 2 + (speaker_bit channels 2 4 + (speaker_bit channels 3 8 + (speaker_bit channels 4 16 + speaker_bit channels 5 32))))
    else 0

-- some channel comes at another place than its own; the first place has this number
abbrev pub is_moved : List ℕ → ℕ → Bool
is_moved [] place = false
is_moved (c ∷ cs) place = if nat_eq c place then is_moved cs (place + 1) else true

-- how many of the groups of a sound have their channels in another order: none if each channel stays where it is
abbrev pub moved_groups : List ℕ → ℕ → ℕ
moved_groups order groups = if is_moved order 0 then groups else 0

-- the ID of DSDIFF that names a loudspeaker of channels that aren't two
abbrev pub speaker_id : ℕ → List ℕ
speaker_id speaker =
    if nat_eq speaker 0 then codes "MLFT" else if nat_eq speaker 1 then codes "MRGT"
    else if nat_eq speaker 2 then codes "C   " else if nat_eq speaker 3 then codes "LFE "
    else if nat_eq speaker 4 then codes "LS  " else codes "RS  "

-- the IDs of DSDIFF that name the loudspeakers of a channel type, in the order of its channels
abbrev pub layout_ids : ℕ → List (List ℕ)
layout_ids layout = if nat_eq layout 2 then codes "SLFT" ∷ codes "SRGT" ∷ [] else map speaker_id (layout_speakers layout)

-- the channel mask of a channel type
abbrev pub layout_mask : ℕ → ℕ
layout_mask layout = speaker_mask (map (λ speaker. Some speaker) (layout_speakers layout))

-- the first of some channel types that has a mask
abbrev pub layout_among : List ℕ → ℕ → Option ℕ
layout_among [] mask = None
layout_among (layout ∷ layouts) mask = if nat_eq (layout_mask layout) mask then Some layout else layout_among layouts mask

-- the channel type that has the loudspeakers of a mask, if there is one
abbrev pub layout_with : ℕ → Option ℕ
layout_with mask = layout_among (1 ∷ 2 ∷ 3 ∷ 4 ∷ 5 ∷ 6 ∷ 7 ∷ []) mask
