-- What is read of files.
use Rattle.std.proofs.Common.{ℕ, List, Option, Some, None, Ok, sym}
use Rattle.std.specs.Prelude.{IfSome}
use Rattle.dsd_bits.specs.Contents.{Content}
use Rattle.dsd_bits.specs.Shape.{HasShape}
use Rattle.chunk_core.specs.declared.inlet.Inlet.{Inlet}
use Rattle.dsd_bits.specs.declared.blocks.BitOrder.TheVariants.{LeastFirst, MostFirst}
use Rattle.dsd_bits.specs.declared.interleaving.Interleaving.{Interleaving}
use Rattle.dsd_bits.specs.declared.interleaving.Interleaving.TheVariants.{Bytes, Blocks}
use Rattle.form_core.specs.Forms.{HoldsAs, HoldsSome, form_in}
use Rattle.sound_core.specs.Keeping.{IsKeptOf, stretches_in}
use Rattle.sound_core.specs.Outlines.{AreStated, HoldsIn, IsPlacedIn, around_of, with_sound}
use Rattle.sound_core.specs.Reads.{Reads}
use Rattle.sound_core.specs.declared.keeping.Kept.{Kept}
use Rattle.sound_core.specs.declared.outline.Outline.{Outline}
use Rattle.sound_core.proofs.HeldLaws.{held, held_count, held_shape, held_silent}
use Rattle.clip_core.specs.Mixes.{MixContent}
use Rattle.null_core.specs.Files.{HoldsExcerpts, IsReadGiven}
use Rattle.null_core.specs.Holding.{ranges_of}

-- a file holds a recording in the form that its sound has
holds_as : (interleaving : Interleaving) (file : List ℕ) (r : Content) → HoldsIn interleaving file r → HoldsAs file (form_in interleaving) r
holds_as Bytes file r h = h
holds_as (Blocks LeastFirst) file r h = h
holds_as (Blocks MostFirst) file r h = h

-- a file that is some sound in an outline holds the recording with the channels of that sound
pub outline_holds : (outline : Outline) → AreStated (around_of outline) → (file sound : List ℕ) → IsPlacedIn (around_of outline) file sound → HoldsSome file (with_sound outline.recording outline.sound sound)
outline_holds outline stated file sound stands = record {
  form = form_in outline.sound.interleaving;
  holds = holds_as outline.sound.interleaving file (with_sound outline.recording outline.sound sound) (stated.holds file sound stands);
}

-- what was kept of a take's file is what a mix reads of it
pub kept_excerpts : (kept : Kept) (shape : HasShape kept.outline.recording) (stated : AreStated (around_of kept.outline)) (mix : MixContent) (number : ℕ) (file : List ℕ) → IsKeptOf (around_of kept.outline) (ranges_of mix number) (stretches_in kept) file
    → HoldsExcerpts mix number file (record { recording = kept.outline.recording; count = kept.outline.sound.count; stretches = kept.stretches })
kept_excerpts kept shape stated mix number file is =
    let outline = kept.outline in
    let silence = held_silent outline shape stated file is.0 is.1 in
    let many = sym (held_count outline shape stated file is.0 is.1) in
    record {
      recording = held outline shape stated file is.0 is.1;
      holds = outline_holds outline stated file is.0 is.1;
      shape = held_shape outline shape stated file is.0 is.1;
      are_excerpts = λ j. record { recording = silence j; count = many j; stretches = is.2 j };
    }

-- ---- readers
module _ {X : Type 0} (holds : List ℕ → X → Type 0) (x : X) (P : List ℕ → Type 0) (of : (file : List ℕ) → P file → holds file x) where
  -- what is so of the bytes that a reader has left, if they are known
  pub left_read : (left : Option (List ℕ)) → IfSome left P → IfSome left (λ file. holds file x)
  left_read None is = tt
  left_read (Some file) is = of file is

  -- and of whichever bytes were read
  pub given_read : {R : Type 0} (left : R → Option (List ℕ)) (i j : Inlet R) → (read : List ℕ) × Reads left i j read × P read → IsReadGiven holds left i j (Ok x)
  given_read left i j (read, reads, is) = (read, reads, of read is)
