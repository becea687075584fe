-- A master that is accepted with a certificate, and by a null test.
use Rattle.std.proofs.Common.{◌≡◌, ℕ, List, None, Result, Ok, Err, ap, subst, sym}
use Rattle.dsd_bits.specs.Contents.{Content}
use Rattle.form_core.specs.declared.form.Form.{Form}
use Rattle.form_core.specs.declared.opening.Opened.{Opened}
use Rattle.form_core.specs.Forms.{HoldsAs}
use Rattle.cut_core.specs.Cuts.{CutContent}
use Rattle.cut_core.specs.Masters.{AreLeastChannels}
use Rattle.folder_core.specs.Files.{View}
use Rattle.request_core.specs.Cutting.{SaysCut}
use Rattle.request_core.proofs.CuttingLaws.{one_cut, says_cut}
use Rattle.judge_core.specs.Accepting as checks
use Rattle.judge_core.specs.Laws.{AcceptedIsLeast}
use Rattle.judge_core.specs.declared.verdict.Verdict.{Verdict}
use Rattle.judge_core.specs.declared.verdict.Verdict.TheVariants as verdicts
use Rattle.judge_core.proofs.CheckLaws.{one_held}
use Rattle.null_core.specs.Asking.{NullsAll}
use Rattle.null_core.specs.Calling as nulls
use Rattle.null_commands.specs.Testing.{TestComesTo, TestsFiles}
use Rattle.null_commands.specs.declared.fault.TestFault.{TestFault}
use Rattle.null_commands.specs.declared.fault.TestFault.TheVariants as tests
use Rattle.null_commands.specs.declared.tested.Tested.{Tested}
use Rattle.transfer_commands.specs.declared.fault.CommandFault.{CommandFault}
use Rattle.transfer_commands.specs.declared.fault.CommandFault.TheVariants as faults
use Rattle.command_core.specs.Commands.{CheckComesTo, ChecksFiles}
use Rattle.command_core.specs.Laws.{CheckedAndNulled, FilesCheckedAndNulled, IsLeastAndNulls, IsReadLeastAndNulls, OpensOnlyAs}
use Rattle.command_core.specs.Outcomes.{outcome_of, tested_outcome, verdict_of}
use Rattle.command_core.specs.declared.outcome.Outcome.TheVariants.{Accepted, NullTested}

-- ---- a project and takes come to one cut, and a file holds one recording
same_cut : (project : List ℕ) (takes : List (List ℕ)) (s t : CutContent) → SaysCut project takes None s → SaysCut project takes None t → s ≡ t
same_cut project takes s t a b = one_cut project takes None t b s (says_cut project takes None s a)

same_recording : (file : List ℕ) (form other : Form) (r s : Content) → HoldsAs file form r → HoldsAs file other s → r ≡ s
same_recording file form other r s a b = ap (λ (o : Opened). o.recording) (one_held file form other r s a b)

-- ---- of bytes
least_and_nulls : (project : List ℕ) (takes : List (List ℕ)) (mix_text : List ℕ) (files : List (List ℕ)) (master cert : List ℕ) (cost residual : ℕ)
    → (is : checks.Accepts project takes master cert cost) → (least : checks.IsLeastMaster project takes master) → (nulled : nulls.Accepts mix_text files master residual) → IsLeastAndNulls project takes mix_text files master
least_and_nulls project takes mix_text files master cert cost residual is least nulled =
    let cut = same_cut project takes least.cut is.cut least.says is.says in
    let held = same_recording master least.form is.form least.recording is.recording least.file_holds is.master_holds in
    let heard = same_recording master nulled.master_holds.form is.form nulled.recording is.recording nulled.master_holds.holds is.master_holds in
    record {
      form = is.form;
      recording = is.recording;
      master_holds = is.master_holds;
      only = λ other holds. same_recording master holds.form is.form other is.recording holds.holds is.master_holds;
      cut = is.cut;
      says = is.says;
      is_master = is.is_master;
      least = subst (λ (k : CutContent). AreLeastChannels k is.recording.channels) cut (subst (λ (r : Content). AreLeastChannels least.cut r.channels) held least.least);
      mix = nulled.mix;
      mix_takes = nulled.takes;
      mixed = nulled.mixed;
      differs_little = subst (λ (r : Content). NullsAll nulled.mix nulled.takes r nulled.mix.limit) heard nulled.nulls;
    }

pub checked_and_nulled : AcceptedIsLeast → CheckedAndNulled
checked_and_nulled accepted_is_least = λ project takes mix_text files master cert cost residual is nulled.
    least_and_nulls project takes mix_text files master cert cost residual is (accepted_is_least project takes master cert cost is) nulled

-- ---- of files
-- what commands came to, by their outcomes
was_checked : (came : Result Verdict CommandFault) (cost : ℕ) → Accepted cost ≡ outcome_of verdict_of came → came ≡ Ok (verdicts.Accepted cost)
was_checked (Ok (verdicts.Accepted total)) cost is = let same : cost ≡ total = cc in ap (λ n. Ok (verdicts.Accepted n)) (sym same)
was_checked (Ok (verdicts.Rejected reason)) cost is = absurd cc
was_checked (Err (faults.Call fault)) cost is = absurd cc
was_checked (Err faults.ReadFailed) cost is = absurd cc
was_checked (Err faults.WriteFailed) cost is = absurd cc

was_tested : (came : Result Tested TestFault) (heard : Tested) → NullTested heard ≡ tested_outcome came → came ≡ Ok heard
was_tested (Ok tested) heard is = let same : heard ≡ tested = cc in ap Ok (sym same)
was_tested (Err (tests.Call fault)) heard is = absurd cc
was_tested (Err tests.ReadFailed) heard is = absurd cc

-- where `check` accepted a master, and `nulltest` accepts it after that
module _ (bytes_law : CheckedAndNulled) (project checked cert mix tested : List ℕ) (old between new : View) (master : List ℕ) (cost residual : ℕ) (heard : Tested)
    (opens_checked : OpensOnlyAs old checked master) (opens_tested : OpensOnlyAs old tested master)
    (checks_files : ChecksFiles project checked cert old between (verdicts.Accepted cost)) (tests_files : TestsFiles mix tested old new heard) (accepted : nulls.IsAcceptedAt residual heard.heard) where
  read_both : IsReadLeastAndNulls project mix old master
  read_both =
      let known = opens_checked.known in
      let by_cert = checks_files.by_certificate known in
      let same_checked : checks_files.master ≡ master = opens_checked.only checks_files.master (checks_files.master_read known) in
      let same_tested : tests_files.master ≡ master = opens_tested.only tests_files.master (tests_files.master_read known) in
      let is : checks.Accepts checks_files.project checks_files.takes master by_cert.0 cost = subst (λ bytes. checks.Accepts checks_files.project checks_files.takes bytes by_cert.0 cost) same_checked by_cert.2.0 in
      let nulled : nulls.Accepts tests_files.text tests_files.takes master residual = subst (λ bytes. nulls.Accepts tests_files.text tests_files.takes bytes residual) same_tested ((tests_files.exact residual).0 accepted) in
      record {
        project = checks_files.project;
        takes = checks_files.takes;
        mix_text = tests_files.text;
        files = tests_files.takes;
        project_sources = checks_files.sources;
        mix_sources = tests_files.sources;
        both = bytes_law checks_files.project checks_files.takes tests_files.text tests_files.takes master by_cert.0 cost residual is nulled;
      }

pub files_checked_and_nulled : CheckedAndNulled → FilesCheckedAndNulled
files_checked_and_nulled bytes_law = λ project checked cert mix tested old between new master cost residual heard opens_checked opens_tested check test accepted.
    let checks_files : ChecksFiles project.now checked.now cert.now old between (verdicts.Accepted cost) = subst (CheckComesTo project.now checked.now cert.now old between) (was_checked check.0 cost check.1) check.2 in
    let tests_between : TestsFiles mix.now tested.now between new heard = subst (TestComesTo mix.now tested.now between new) (was_tested test.0 heard test.1) test.2 in
    let tests_files : TestsFiles mix.now tested.now old new heard = subst (λ view. TestsFiles mix.now tested.now view new heard) checks_files.same tests_between in
    read_both bytes_law project.now checked.now cert.now mix.now tested.now old between new master cost residual heard opens_checked opens_tested checks_files tests_files accepted
