-- The sound among the form's chunks.
use Rattle.std.specs.Prelude.{ℕ, ◌*◌, ◌/◌, ◌%◌, Bool, true, false, not, List, [], ◌∷◌, length, map, Option, Some, None, Result, Ok, Err, nat_eq, nat_lt, if◌then◌else◌}
use Rattle.chunk_core.specs.declared.layout.Span.{Span}
use Rattle.chunk_core.specs.Chunks.{Chunk}
use Rattle.chunk_core.specs.Places.{span_chunk}
use Rattle.chunk_core.specs.Steps.{◌>>=◌}
use Rattle.dsd_bits.specs.Ids.{DSD}
use Rattle.dsd_bits.specs.Limits.{most_bits}
use Rattle.dsdiff_core.specs.declared.fault.DsdiffFault.{DsdiffFault}
use Rattle.dsdiff_core.specs.declared.fault.DsdiffFault.TheVariants.{NoSound, SoundBeforeProperty, PartFrame, TooLong}
use Rattle.dsdiff_core.specs.Kinds.{has_id, is_property}
use Rattle.dsdiff_core.specs.Spans.{data_with}

-- a sound comes before the first property of the sound
abbrev pub sound_leads : List Chunk → Bool
sound_leads [] = false
sound_leads (c ∷ cs) = if is_property c then false else if has_id DSD c then true else sound_leads cs

-- the sound bytes of n channels
abbrev pub bytes_of_sound : Bool → Option (List ℕ) → ℕ → Result (List ℕ) DsdiffFault
bytes_of_sound leads None number = Err NoSound
bytes_of_sound leads (Some bytes) number =
    if leads then Err SoundBeforeProperty
    else if not (nat_eq (length bytes % number) 0) then Err (PartFrame (length bytes) number)
    else if nat_lt most_bits (8 * (length bytes / number)) then Err (TooLong (length bytes) number)
    else Ok bytes

-- the number of bits of a channel of the sound among the chunks
abbrev pub stated_count : List ℕ → List Span → ℕ → Result ℕ DsdiffFault
stated_count file top number = bytes_of_sound (sound_leads (map (span_chunk file) top)) (data_with file DSD top) number >>= λ sound. Ok (8 * (length sound / number))
