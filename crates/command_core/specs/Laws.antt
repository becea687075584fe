-- Laws: what is shown of files with the same sound, and what holds of a master that is checked and nulls.
use Rattle.std.specs.Prelude.{◌≡◌, ℕ, IsTrue, List, None}
use Rattle.std.specs.Borrow.{Bor}
use Rattle.clip_core.specs.Mixes.{MixContent}
use Rattle.cut_core.specs.Cuts.{CutContent}
use Rattle.cut_core.specs.Masters.{AreLeastChannels, IsMasterOf}
use Rattle.dsd_bits.specs.Contents.{Content}
use Rattle.folder_core.specs.Files.{OpensAs, View}
use Rattle.form_core.specs.Forms.{HoldsAs, HoldsSome}
use Rattle.form_core.specs.declared.form.Form.{Form}
use Rattle.judge_core.specs.Accepting as checks
use Rattle.null_commands.specs.Sources.{AreMixSources}
use Rattle.null_commands.specs.declared.tested.Tested.{Tested}
use Rattle.null_core.specs.Asking.{NullsAll}
use Rattle.null_core.specs.Calling as nulls
use Rattle.request_core.specs.Cutting.{SaysCut}
use Rattle.transfer_core.specs.Converting.{KeepsSound}
use Rattle.transfer_commands.specs.Sources.{AreSources}
use Rattle.transfer_commands.specs.Summing.{AreSumsIn}
use Rattle.transfer_commands.specs.declared.summing.Sums.{Sums}
use Rattle.words_core.specs.declared.task.Task.TheVariants.{Check, NullTest}
use Rattle.command_core.specs.Commands.{TaskComesTo}
use Rattle.command_core.specs.Summing.{sum_text}
use Rattle.command_core.specs.declared.outcome.Outcome.TheVariants.{Accepted, NullTested}

-- the line of sums of a file, and of bytes that keep its sound, is the same under the same name
abbrev pub ConvertedShowsSameSums : Type 0
ConvertedShowsSameSums = (file : List ℕ) (form : Form) (bytes : List ℕ) (a b : Sums) → KeepsSound file form bytes → AreSumsIn file a → AreSumsIn bytes b → (name : List ℕ) → sum_text a name ≡ sum_text b name

-- ---- a master that is checked and nulls
-- the one recording that a master's file holds is the master of a project and takes, none of its bridges could cost
-- less, and as heard it differs from the mix of a mix text and files by at most the mix's limit
pub record IsLeastAndNulls (project : List ℕ) (takes : List (List ℕ)) (mix_text : List ℕ) (files : List (List ℕ)) (master : List ℕ) : Type 0 where
  pub form : Form
  pub recording : Content
  pub master_holds : HoldsAs master form recording
  pub only : (other : Content) → HoldsSome master other → other ≡ recording
  pub cut : CutContent
  pub says : SaysCut project takes None cut
  pub is_master : IsMasterOf cut form recording
  pub least : AreLeastChannels cut recording.channels
  pub mix : MixContent
  pub mix_takes : List Content
  pub mixed : nulls.AreMixed mix_text files mix mix_takes
  pub differs_little : NullsAll mix mix_takes recording mix.limit

-- so it is with a master that is accepted with a certificate, and by a null test
abbrev pub CheckedAndNulled : Type 0
CheckedAndNulled = (project : List ℕ) (takes : List (List ℕ)) (mix_text : List ℕ) (files : List (List ℕ)) (master cert : List ℕ) (cost residual : ℕ)
    → checks.Accepts project takes master cert cost → nulls.Accepts mix_text files master residual → IsLeastAndNulls project takes mix_text files master

-- a folder's bytes are known, and each opening of a name gives these
pub record OpensOnlyAs (view : View) (name bytes : List ℕ) : Type 0 where
  pub known : IsTrue view.is_known
  pub only : (other : List ℕ) → OpensAs view name other → other ≡ bytes

-- the same of a master's bytes, by what was read of a project, a mix and the takes that they name
pub record IsReadLeastAndNulls (project_name mix_name : List ℕ) (view : View) (master : List ℕ) : Type 0 where
  pub project : List ℕ
  pub takes : List (List ℕ)
  pub mix_text : List ℕ
  pub files : List (List ℕ)
  pub project_sources : AreSources project_name view project takes
  pub mix_sources : AreMixSources mix_name view mix_text files
  pub both : IsLeastAndNulls project takes mix_text files master

-- so it is with a master that `check` accepts, and that `nulltest` accepts after it under a name of the same bytes
abbrev pub FilesCheckedAndNulled : Type 0
FilesCheckedAndNulled = (project checked cert mix tested : Bor (List ℕ)) (old between new : View) (master : List ℕ) (cost residual : ℕ) (heard : Tested)
    → OpensOnlyAs old checked.now master → OpensOnlyAs old tested.now master
    → TaskComesTo (Check project checked cert) old between (Accepted cost)
    → TaskComesTo (NullTest mix tested) between new (NullTested heard) → nulls.IsAcceptedAt residual heard.heard
    → IsReadLeastAndNulls project.now mix.now old master
