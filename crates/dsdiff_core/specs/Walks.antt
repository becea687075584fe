-- A walk over the chunks before a sound, which goes on where it ended when more bytes came.
use Rattle.std.specs.Prelude.{◌≡◌, ◌≤◌, ◌<◌, ℕ, ◌+◌, List, ◌++◌, length, take, Option, Some, None, Result, Ok, Err, ⊤}
use Rattle.dsd_bits.specs.declared.sound.Sound.{Sound}
use Rattle.dsd_bits.specs.declared.sound.SoundAt.{SoundAt}
use Rattle.dsd_bits.specs.declared.sound.SoundAt.TheVariants as sounds
use Rattle.dsdiff_core.specs.declared.fault.DsdiffFault.{DsdiffFault}
use Rattle.dsdiff_core.specs.declared.fault.DsdiffFault.TheVariants.{NoSound}
use Rattle.dsdiff_core.specs.Cuts.{GoesPastForm}
use Rattle.dsdiff_core.specs.declared.header.Place.{Place}
use Rattle.dsdiff_core.specs.declared.header.Place.TheVariants as places
use Rattle.dsdiff_core.specs.declared.locating.Located.{Located}
use Rattle.dsdiff_core.specs.declared.locating.Located.TheVariants as answers
use Rattle.dsdiff_core.specs.Fields.{form_size}
use Rattle.dsdiff_core.specs.Headers.{data_cut, form_of, seek, seek_for, sound_at}
use Rattle.dsdiff_core.specs.Located.{EndsAtHead}
use Rattle.dsdiff_core.specs.Reading.{recording_of}

-- what is still sought from this place on, in a form of this size, is what was sought
pub record IsSought (prefix : List ℕ) (at size : ℕ) : Type 0 where
  pub from : 16 ≤ at
  pub within : at ≤ length prefix + 1
  pub steps : ℕ
  pub enough : length prefix + 1 < at + steps
  pub so_far : seek_for steps at prefix size ≡ seek prefix

-- the chunks before this place were walked, and none of them is a sound: whatever follows the prefix, the head of the
-- sound is sought from there on
abbrev pub IsWalked : List ℕ → ℕ → Type 0
IsWalked prefix at = (rest : List ℕ) → 16 ≤ length (prefix ++ rest) → IsSought (prefix ++ rest) at (form_size (prefix ++ rest))

-- where a walk came to, as a place of the head of the sound
abbrev pub sought_by : List ℕ → Place → Result (Option ℕ) DsdiffFault
sought_by prefix (places.Head at) = Ok (Some at)
sought_by prefix (places.More at) = Ok None
sought_by prefix (places.Past at) = Err (data_cut prefix at)
sought_by prefix places.Lost = Err NoSound

-- where the head of a sound was found, its place has this property
abbrev pub IfHead : Place → (ℕ → Type 0) → Type 0
IfHead (places.Head at) P = P at
IfHead (places.More at) P = ⊤
IfHead (places.Past at) P = ⊤
IfHead places.Lost P = ⊤

-- where the data of a chunk go past the form, its place has this property
abbrev pub IfPast : Place → (ℕ → Type 0) → Type 0
IfPast (places.Head at) P = ⊤
IfPast (places.More at) P = ⊤
IfPast (places.Past at) P = P at
IfPast places.Lost P = ⊤

-- where more bytes are wanted, the place up to which chunks were walked has this property
abbrev pub IfWalkedTo : Place → (ℕ → Type 0) → Type 0
IfWalkedTo (places.Head at) P = ⊤
IfWalkedTo (places.More at) P = P at
IfWalkedTo (places.Past at) P = ⊤
IfWalkedTo places.Lost P = ⊤

-- what the chunks before the head of a sound at this place tell of it
abbrev pub IsStatedAt : Result Sound DsdiffFault → ℕ → Located → Type 0
IsStatedAt stated at (answers.Found s) = stated ≡ Ok s
IsStatedAt stated at (answers.Unstated place) = (place ≡ at) × ((e : DsdiffFault) × (stated ≡ Err e))
IsStatedAt stated at (answers.More place) = ⊥
IsStatedAt stated at (answers.Refused e) = ⊥
IsStatedAt stated at (answers.PastForm place) = ⊥
IsStatedAt stated at answers.NoSound = ⊥

-- an answer without faults and places
abbrev pub without_fault : Located → SoundAt
without_fault (answers.Found s) = sounds.Found s
without_fault (answers.More at) = sounds.More
without_fault (answers.Refused e) = sounds.Refused
without_fault (answers.Unstated at) = sounds.Refused
without_fault (answers.PastForm at) = sounds.Refused
without_fault answers.NoSound = sounds.Refused

-- what the answer tells: the sound, the place from which the walk goes on, the fault of every file that begins so, the
-- place of a head that the prefix holds, or that there is no sound in the form
abbrev pub IsLocated : List ℕ → Located → Type 0
IsLocated prefix (answers.Found s) = sound_at prefix ≡ sounds.Found s
IsLocated prefix (answers.More at) = IsWalked prefix at
IsLocated prefix (answers.Refused e) = (rest : List ℕ) → recording_of (prefix ++ rest) ≡ Err e
IsLocated prefix (answers.Unstated at) = (at + 12 ≤ length prefix) × EndsAtHead (take (at + 12) prefix)
IsLocated prefix (answers.PastForm at) = (at + 12 ≤ length prefix) × GoesPastForm (take (at + 12) prefix)
IsLocated prefix answers.NoSound = (form_of prefix ≡ Ok tt) × (seek prefix ≡ Err NoSound)
