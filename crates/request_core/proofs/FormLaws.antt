-- What a file of a form holds.
use Rattle.std.proofs.Common.{ℕ, List}
use Rattle.dsd_bits.specs.declared.blocks.BitOrder.TheVariants.{LeastFirst, MostFirst}
use Rattle.dsd_bits.specs.declared.interleaving.Interleaving.{Interleaving}
use Rattle.dsd_bits.specs.declared.interleaving.Interleaving.TheVariants.{Bytes, Blocks}
use Rattle.dsd_bits.specs.Contents.{Content}
use Rattle.form_core.specs.Forms.{HoldsAs, form_in}
use Rattle.sound_core.specs.Outlines.{HoldsIn}

-- it holds a recording in the form that its sound has
pub holds_as : (interleaving : Interleaving) (file : List ℕ) (r : Content) → HoldsIn interleaving file r → HoldsAs file (form_in interleaving) r
holds_as Bytes file r h = h
holds_as (Blocks LeastFirst) file r h = h
holds_as (Blocks MostFirst) file r h = h
