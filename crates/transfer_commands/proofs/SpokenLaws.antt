-- A file that is converted with its loudspeakers named, as it was read.
use Rattle.std.proofs.Common.{◌≡◌, ℕ, List, Option, None, Some, Err, subst}
use Rattle.std.specs.Prelude.{IfSome}
use Rattle.folder_core.specs.Files.{View}
use Rattle.form_core.specs.Parts.{FitsIn}
use Rattle.form_core.specs.declared.form.Form.{Form}
use Rattle.sound_core.specs.Outlines.{around_of}
use Rattle.sound_core.specs.declared.outline.Outline.{Outline}
use Rattle.transfer_commands.specs.Outlining.{IsOutlined, OutlinesRead}
use Rattle.transfer_commands.specs.Renaming.{HasNoLayout, IsRenaming}
use Rattle.transfer_commands.specs.SpeakersConverting.{ConvertSpeakersComesTo}
use Rattle.transfer_commands.specs.declared.convert_speakers.SpeakersFault.TheVariants as faults
use Rattle.transfer_commands.specs.declared.renaming.Renaming.{Renaming}
use Rattle.transfer_commands.proofs.RenamingLaws.{has_no_type}

-- what is written, if there is something
pub renamed_found : (form : Form) (outline : Outline) (o : Option Renaming) (w : Renaming) → o ≡ Some w → IfSome o (λ r. (file : List ℕ) → IsOutlined file outline → IsRenaming form (around_of outline) r) → (file : List ℕ) → IsOutlined file outline → IsRenaming form (around_of outline) w
renamed_found form outline o w is renamed = subst (λ (s : Option Renaming). IfSome s (λ r. (file : List ℕ) → IsOutlined file outline → IsRenaming form (around_of outline) r)) is renamed

pub fits_found : (count : ℕ) (o : Option Renaming) (w : Renaming) → o ≡ Some w → IfSome o (λ r. FitsIn r.form count) → FitsIn w.form count
fits_found count o w is fits = subst (λ (s : Option Renaming). IfSome s (λ r. FitsIn r.form count)) is fits

-- or there is nothing, for want of a channel type
pub no_type_found : (form : Form) (input output : List ℕ) (old new : View) → new ≡ old → (outline : Outline) → OutlinesRead input old outline → (o : Option Renaming) → o ≡ None → HasNoLayout form (around_of outline) o → ConvertSpeakersComesTo form input output old new (Err faults.NoChannelType)
no_type_found form input output old new same outline found o is none = has_no_type form input output old new same outline found (subst (HasNoLayout form (around_of outline)) is none)
