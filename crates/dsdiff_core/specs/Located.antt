-- Where a file holds its sound.
use Rattle.std.specs.Prelude.{◌≡◌, ◌≤◌, ℕ, ◌+◌, ◌-◌, List, length, take, drop}
use Rattle.dsd_bits.specs.Ids.{DSD}
use Rattle.dsdiff_core.specs.Fields.{form_size}
use Rattle.dsdiff_core.specs.Headers.{HoldsHead, size_at}
use Rattle.dsdiff_core.specs.Kinds.{FRM8}

-- the size of the sound whose header ends the prefix
abbrev pub stated_size : List ℕ → ℕ
stated_size prefix = size_at prefix (length prefix - 12)

-- a form begins in the prefix, which ends with the header of the first sound of the form, whose bytes end in the form
pub record EndsAtHead (prefix : List ℕ) : Type 0 where
  pub form : take 4 prefix ≡ FRM8
  pub kind : take 4 (drop 12 prefix) ≡ DSD
  pub head : HoldsHead prefix
  pub ends : head.at + 12 ≡ length prefix
  pub in_form : length prefix + stated_size prefix ≤ 12 + form_size prefix
