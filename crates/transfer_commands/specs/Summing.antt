-- What identifies the sound of a file of a folder.
use Rattle.std.specs.Prelude.{◌≡◌, ℕ, Bool, List, map, ◌⊎◌, Result, Ok, Err}
use Rattle.sha2.specs.Sha256.{sha256}
use Rattle.sha2.specs.declared.Sha256.{Sha256}
use Rattle.dsd_bits.specs.Channels.{count_of}
use Rattle.dsd_bits.specs.Contents.{Content}
use Rattle.dsd_bits.specs.Packing.{packed}
use Rattle.form_core.specs.declared.form.Form.{Form}
use Rattle.form_core.specs.Forms.{HoldsSome}
use Rattle.request_core.specs.declared.fault.Fault.TheVariants.{Memory}
use Rattle.folder_core.specs.Files.{IsReadOf, View}
use Rattle.transfer_core.specs.Converting.{KeepsSound}
use Rattle.sound_core.specs.declared.outline.Outline.{Outline}
use Rattle.transfer_commands.specs.Digesting.{HoldEach}
use Rattle.transfer_commands.specs.Reporting.{IsUnreported}
use Rattle.transfer_commands.specs.declared.digesting.Digester.{Digester}
use Rattle.transfer_commands.specs.declared.summing.Sums.{Sums}
use Rattle.transfer_commands.specs.declared.fault.CommandFault.{CommandFault}
use Rattle.transfer_commands.specs.declared.fault.CommandFault.TheVariants.{Call, ReadFailed, WriteFailed}

-- the SHA-256 of each channel's bits, packed eight to a byte, the earliest the most significant, with zeros after the
-- last
abbrev pub digests_of : List (List Bool) → List (List ℕ)
digests_of channels = map (λ (bits : List Bool). sha256 (packed bits)) channels

-- the digests are those of whatever channels the hashers hold
abbrev pub AreDigestsBy : List Sha256 → List (List ℕ) → Type 0
AreDigestsBy hashers digests = (channels : List (List Bool)) → HoldEach hashers channels → digests ≡ digests_of channels

-- these are the rate of a recording, how many bits each of its channels has, and their digests
pub record AreSumsOf (r : Content) (sums : Sums) : Type 0 where
  pub rate : sums.rate ≡ r.rate
  pub count : sums.count ≡ count_of r.channels
  pub digests : sums.digests.items ≡ digests_of r.channels

-- the bytes hold a recording, in any form, of which these are the sums
pub record AreSumsIn (file : List ℕ) (sums : Sums) : Type 0 where
  pub recording : Content
  pub holds : HoldsSome file recording
  pub are_sums : AreSumsOf recording sums

-- sums say the same
pub record AreSameSums (a b : Sums) : Type 0 where
  pub rate : a.rate ≡ b.rate
  pub count : a.count ≡ b.count
  pub digests : a.digests.items ≡ b.digests.items

-- law: sums of a file, and of bytes that keep its sound, say the same
abbrev pub KeptSoundHasSameSums : Type 0
KeptSoundHasSameSums = (file : List ℕ) (form : Form) (bytes : List ℕ) (a b : Sums) → KeepsSound file form bytes → AreSumsIn file a → AreSumsIn bytes b → AreSameSums a b

-- bytes that were read of a name have these sums
pub record SumsRead (file_name : List ℕ) (old : View) (sums : Sums) : Type 0 where
  pub file : List ℕ
  pub file_read : IsReadOf old file_name file
  pub are_sums : AreSumsIn file sums

-- the folder before and after a file was summed came to this
abbrev pub SumComesTo : List ℕ → View → View → Result Sums CommandFault → Type 0
SumComesTo file old new (Ok sums) = SumsRead file old sums × (new ≡ old)
SumComesTo file old new (Err (Call fault)) = (new ≡ old) × ((fault ≡ Memory) ⊎ IsUnreported file old fault)
SumComesTo file old new (Err ReadFailed) = new ≡ old
SumComesTo file old new (Err WriteFailed) = ⊥

-- ---- stages
-- the sums were made of an outline and of what digested its sound
pub record IsMadeOf (outline : Outline) (k : Digester) (sums : Sums) : Type 0 where
  pub rate : sums.rate ≡ outline.recording.rate
  pub count : sums.count ≡ outline.sound.count
  pub digests : AreDigestsBy k.hashers.items sums.digests.items
