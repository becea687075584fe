-- Sound bytes whose channels come in another order.
use Rattle.std.specs.Prelude.{ℕ, zero, suc, ◌*◌, ◌<◌, Bool, List, [], ◌++◌, All, drop, length, map, take, nat_lt, slice_index_or, if◌then◌else◌}
use Rattle.std.specs.List.{flat_map}

-- a group of neighbouring bytes, so many of each channel: those of the channel that an order names first, and so on
abbrev pub group_in : List ℕ → ℕ → List ℕ → List ℕ
group_in order size group = flat_map (λ c. take size (drop (c * size) group)) order

-- the first groups of some bytes, each in this order, and the bytes after them; bytes that end within a group end as
-- they are
abbrev pub groups_in : List ℕ → ℕ → ℕ → List ℕ → List ℕ
groups_in order size zero bytes = bytes
groups_in order size (suc groups) bytes = if nat_lt (length bytes) (length order * size) then bytes else group_in order size (take (length order * size) bytes) ++ groups_in order size groups (drop (length order * size) bytes)

-- an order names channels that there are
abbrev pub NamesChannels : List ℕ → Type 0
NamesChannels order = All (λ c. c < length order) order

-- channels in an order
abbrev pub channels_in : List ℕ → List (List Bool) → List (List Bool)
channels_in order channels = map (λ c. slice_index_or channels c []) order
