-- What contracts see of a file whose channels are reordered while it is read.
use Rattle.std.specs.Prelude.{◌≡◌, ◌<◌, ◌⊎◌, ℕ, List, [], drop, length, take, Option, option_map}
use Rattle.std.specs.Io.KnownBytes.{prepend_known}
use Rattle.speaker_core.specs.Reordering.{groups_in}
use Rattle.speaker_core.specs.declared.reordered_file.Reordering.{Reordering}
use Rattle.speaker_core.specs.declared.reordered_file.ReorderedFile.{ReorderedFile}

-- the order of the channels
abbrev pub reordering_order : Reordering → List ℕ
reordering_order r = r.order.items

-- how many neighbouring bytes of each channel there are
abbrev pub reordering_size : Reordering → ℕ
reordering_size r = r.size

-- how many groups come in that order
abbrev pub reordering_groups : Reordering → ℕ
reordering_groups r = r.groups

-- known bytes with the channels of their first groups in an order
abbrev pub reordered_known : List ℕ → ℕ → ℕ → Option (List ℕ) → Option (List ℕ)
reordered_known order size groups known = option_map (groups_in order size groups) known

-- the bytes that it has left, where those of the file are known: what is ready, and what is left of the file, with the
-- channels of the groups in their order
abbrev pub left_in_order : {R : Type 0} → (R → Option (List ℕ)) → ReorderedFile R → Option (List ℕ)
left_in_order left w = prepend_known (drop w.given w.ready.items) (reordered_known w.order.items w.size w.groups (prepend_known (take w.filled w.raw.items) (left w.file)))

-- a byte is ready, or no group is left that is to be reordered
abbrev pub HasNext : {R : Type 0} → ReorderedFile R → Type 0
HasNext w = (w.given < length w.ready.items) ⊎ (w.groups ≡ 0)

-- the bytes that were read are ready, with so many groups in their order, and others are left for later
pub record IsReady {R : Type 0} (old new : ReorderedFile R) (groups later : ℕ) : Type 0 where
  pub file : new.file ≡ old.file
  pub order : new.order.items ≡ old.order.items
  pub size : new.size ≡ old.size
  pub ready : new.ready.items ≡ groups_in old.order.items old.size groups (take old.filled old.raw.items)
  pub given : new.given ≡ 0
  pub filled : new.filled ≡ 0
  pub groups_left : new.groups ≡ later

-- nothing is ready, and the bytes that were read wait
pub record IsWaiting {R : Type 0} (old new : ReorderedFile R) : Type 0 where
  pub file : new.file ≡ old.file
  pub order : new.order.items ≡ old.order.items
  pub size : new.size ≡ old.size
  pub ready : new.ready.items ≡ []
  pub raw : new.raw.items ≡ old.raw.items
  pub given : new.given ≡ 0
  pub filled : new.filled ≡ old.filled
  pub groups_left : new.groups ≡ old.groups
