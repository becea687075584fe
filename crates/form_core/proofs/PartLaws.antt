-- What is written as a head, the sound and a tail.
use Rattle.std.proofs.Common.{◌≡◌, ◌*◌, ◌/◌, Bool, List, ◌++◌, length, Some, refl, sym, ap}
use Rattle.std.proofs.lemmas.List.FromFn.{length-map-range_with_len}
use Rattle.dsd_bits.specs.declared.blocks.BitOrder.{BitOrder}
use Rattle.dsd_bits.specs.declared.blocks.BitOrder.TheVariants.{LeastFirst, MostFirst}
use Rattle.dsd_bits.specs.Blocks.{blocked}
use Rattle.dsd_bits.specs.Channels.{count_of}
use Rattle.dsd_bits.specs.Contents.{Content, described}
use Rattle.dsd_bits.specs.Lacing.{laced, laced_byte}
use Rattle.dsdiff_core.specs.ReadAgain as dsdiff
use Rattle.dsf_core.specs.Writing.{dsf_text, head_text}
use Rattle.form_core.specs.declared.form.Form.TheVariants as forms
use Rattle.form_core.specs.Parts.{FormsWrittenInParts}

module _ (r : Content) (channels : List (List Bool)) (number : length r.channels ≡ length channels) where
  -- the file of blocks
  blocks : (order : BitOrder) → dsf_text (record r { channels = channels }) order ≡ head_text (record (described r) { count = count_of channels }) order ++ (blocked order channels ++ r.tag)
  blocks order = refl

pub in_parts : dsdiff.WrittenInParts → FormsWrittenInParts
in_parts frames forms.Dsdiff r channels number fits =
    let size : count_of channels / 8 * length r.channels ≡ length (laced channels) = rw number (sym (length-map-range_with_len (laced_byte channels) 0 (count_of channels / 8 * length channels))) in
    rw size (frames r channels (fits refl))
in_parts frames forms.Dsf r channels number fits = ap Some (blocks r channels number LeastFirst)
in_parts frames forms.Dsf8 r channels number fits = ap Some (blocks r channels number MostFirst)
