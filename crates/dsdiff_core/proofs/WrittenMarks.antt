-- Marks that were written are read again.
use Rattle.std.proofs.Common.{◌≡◌, ℕ, ◌^◌, ◌<◌, List, [], ◌∷◌, length, map, take, drop, refl, ap, ◌∙◌, arith}
use Rattle.std.specs.Int.{w32, cast_signed, cast_unsigned}
use Rattle.std.specs.List.{AllByRecursion}
use Rattle.std.proofs.lemmas.Int.{ints, to_z-of_z}
use Rattle.std.proofs.lemmas.List.{take_all}
use Rattle.byteorder.specs.Numbers.{big_number-reads_back}
use Rattle.dsd_bits.specs.Contents.{MarkContent}
use Rattle.dsdiff_core.specs.Marks.{IsWholeMark, text_size, mark_of_bytes, mark_in}
use Rattle.dsdiff_core.specs.MarkBytes.{mark_bytes}
use Rattle.dsdiff_core.specs.ReadAgain.{FitsMark}
use Rattle.dsdiff_core.specs.Writing.{mark_chunk}

-- the size of a mark's text
text_again : (m : MarkContent) → length m.text < 2 ^ 32 → text_size (mark_bytes m) ≡ length m.text
text_again m short = big_number-reads_back 4 (length m.text) m.text short

-- a mark's bytes hold it
pub mark_again : (m : MarkContent) → FitsMark m → length m.text < 2 ^ 32 → mark_of_bytes (mark_bytes m) ≡ m
mark_again m f short =
    let bytes : List ℕ = mark_bytes m in
    let hours = big_number-reads_back 2 m.hours (drop 2 bytes) f.hours in
    let samples = big_number-reads_back 4 m.samples (drop 8 bytes) f.samples in
    let bits : cast_unsigned w32 m.offset < 2 ^ 32 = omega (arith, ints) in
    let offset = ap (cast_signed w32) (big_number-reads_back 4 (cast_unsigned w32 m.offset) (drop 12 bytes) bits) ∙ to_z-of_z w32 m.offset f.offset in
    let kind = big_number-reads_back 2 m.kind (drop 14 bytes) f.kind in
    let channel = big_number-reads_back 2 m.channel (drop 16 bytes) f.channel in
    let flags = big_number-reads_back 2 m.flags (drop 18 bytes) f.flags in
    let text = ap (λ size. take size m.text) (text_again m short) ∙ take_all (length m.text) m.text (omega arith) in
    λ i. record {
      hours = hours i;
      minutes = m.minutes;
      seconds = m.seconds;
      samples = samples i;
      offset = offset i;
      kind = kind i;
      channel = channel i;
      flags = flags i;
      text = text i;
    }

-- a mark's chunk is whole
pub mark_whole : (m : MarkContent) → length m.text < 2 ^ 32 → IsWholeMark (mark_chunk m)
mark_whole m short = record { fields = omega arith; text = omega (arith, text_again m short) }

-- each mark
pub marks_again : (marks : List MarkContent) → AllByRecursion FitsMark marks → AllByRecursion (λ m. length m.text < 2 ^ 32) marks → map mark_in (map mark_chunk marks) ≡ marks
marks_again [] fits short = refl
marks_again (m ∷ ms) fits short = λ i. mark_again m fits.0 short.0 i ∷ marks_again ms fits.1 short.1 i
