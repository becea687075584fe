-- What a file of DoP samples is converted to.
use Rattle.std.specs.Prelude.{◌≡◌, ℕ, List, ◌++◌, length, Option, Some, Ok, IfSome}
use Rattle.std.specs.Io.KnownBytes.{IsAtEnd}
use Rattle.chunk_core.specs.Inlets.{PullsBytes, inlet_reader}
use Rattle.chunk_core.specs.Outlets.{Puts, PutsPrefix}
use Rattle.chunk_core.specs.declared.inlet.Inlet.{Inlet}
use Rattle.chunk_core.specs.declared.outlet.Outlet.{Outlet}
use Rattle.dsd_bits.specs.Contents.{Content}
use Rattle.form_core.specs.Forms.{text_in}
use Rattle.form_core.specs.Parts.{head_in, interleaving_in, tail_in}
use Rattle.form_core.specs.Writing.{HoldsSound}
use Rattle.form_core.specs.declared.form.Form.{Form}
use Rattle.interleave_core.specs.Reinterleaving.{laced_in}
use Rattle.dop_core.specs.declared.outline.DopOutline.{DopOutline}
use Rattle.dop_core.specs.Outlines.{AreSamples, IsIn, silent_in}
use Rattle.dop_core.specs.Reading.{dop_channels, recording_of}
use Rattle.dop_core.specs.Sounds.{sound_long}

-- the bits of samples in an outline, as a file of the form has them
abbrev pub bits_in : Form → DopOutline → List ℕ → List ℕ
bits_in form o sound = laced_in (interleaving_in form) (dop_channels o.head.channels sound o.count)

-- the file of the form with the bits of these samples
abbrev pub written_in : Form → DopOutline → List ℕ → List ℕ
written_in form o sound = head_in form (silent_in o) o.count ++ (bits_in form o sound ++ tail_in form (silent_in o) o.count)

-- a file was read to its end and has the bits of a recording, whose file of the form was written, and has its sound
pub record ConvertsOutline {R W : Type 0} (left : R → Option (List ℕ)) (i j : Inlet R) (form : Form) (held : W → Option (List ℕ)) (a b : Outlet W) : Type 0 where
  pub read : List ℕ
  pub pulled : PullsBytes left i j read
  pub at_end : IsAtEnd (left (inlet_reader j))
  pub recording : Content
  pub has : recording_of read ≡ Ok recording
  pub bytes : List ℕ
  pub text : text_in form recording ≡ Some bytes
  pub sound : HoldsSound form recording bytes
  pub written : Puts held a b bytes

-- if the reader's file is one of the outline, a prefix of what is written for its recording was written
abbrev pub StartsOutline : {R W : Type 0} → (R → Option (List ℕ)) → Inlet R → DopOutline → Form → (W → Option (List ℕ)) → Outlet W → Outlet W → Type 0
StartsOutline left i o form held a b = IfSome (left (inlet_reader i)) (λ file. IsIn o file → (recording : Content) (bytes : List ℕ) → recording_of file ≡ Ok recording → text_in form recording ≡ Some bytes → PutsPrefix held a b bytes)

-- samples of an outline were read, and their bits were written
pub record PutsSamples {R W : Type 0} (left : R → Option (List ℕ)) (i j : Inlet R) (o : DopOutline) (form : Form) (held : W → Option (List ℕ)) (a b : Outlet W) : Type 0 where
  pub sound : List ℕ
  pub pulled : PullsBytes left i j sound
  pub samples : AreSamples o sound
  pub written : Puts held a b (bits_in form o sound)

-- if the reader has as many bytes left as there are samples, a prefix of what these hold was written
abbrev pub StartsSamples : {R W : Type 0} → (R → Option (List ℕ)) → Inlet R → DopOutline → Form → (W → Option (List ℕ)) → Outlet W → Outlet W → Type 0
StartsSamples left i o form held a b = IfSome (left (inlet_reader i)) (λ rest. (sound back : List ℕ) → rest ≡ sound ++ back → length sound ≡ sound_long o.head → PutsPrefix held a b (bits_in form o sound))
