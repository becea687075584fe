-- The sound bytes and the rest of a file.
use Rattle.std.specs.Prelude.{◌≡◌, ℕ, List, ◌++◌, length, replicate, Result, Ok, Err}
use Rattle.chunk_core.specs.Steps.{◌>>=◌}
use Rattle.dsd_bits.specs.Contents.{Content, Described, described}
use Rattle.dsd_bits.specs.Lacing.{unlaced_all}
use Rattle.dsdiff_core.specs.declared.fault.DsdiffFault.{DsdiffFault}
use Rattle.dsdiff_core.specs.Located.{EndsAtHead, stated_size}
use Rattle.dsdiff_core.specs.Reading.{recording_of}

-- what was read of a file, with these sound bytes
abbrev pub read_with_sound : List ℕ → Result Content DsdiffFault → Result Content DsdiffFault
read_with_sound sound (Ok r) = Ok (record r { channels = unlaced_all sound (length r.ids) })
read_with_sound sound (Err e) = Err e

-- what a file holds besides the bits of its sound, or the first fault
abbrev pub description_of : List ℕ → Result Described DsdiffFault
description_of file = recording_of file >>= λ r. Ok (described r)

-- the file around a sound of zeros
abbrev pub with_zeros : List ℕ → List ℕ → List ℕ
with_zeros prefix back = prefix ++ (replicate (stated_size prefix) 0 ++ back)

-- replacing the sound bytes by as many others changes nothing of what is read but the channels
abbrev pub SoundIsFree : Type 0
SoundIsFree =
    (prefix sound other back : List ℕ) → EndsAtHead prefix → length sound ≡ stated_size prefix → length other ≡ stated_size prefix
    → recording_of (prefix ++ (other ++ back)) ≡ read_with_sound other (recording_of (prefix ++ (sound ++ back)))
