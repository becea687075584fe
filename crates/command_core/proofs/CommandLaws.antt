-- What becomes of the files of a master and its certificate that could not be written, and of those that are judged.
use Rattle.std.proofs.Common.{◌≡◌, ◌≢◌, ◌⊎◌, ℕ, inl, inr, IfErr, IfOk, IfSome, IsTrue, List, None, Option, Ok, Err, Result, refl, subst, sym, ◌∙◌}
use Rattle.judge_core.specs.Accepting.{Accepts}
use Rattle.archive_core.specs.Editing.{Edits, IsCertificate}
use Rattle.folder_core.specs.Files.{IsGiven, IsPut, IsPutInPart, IsReadOf, KeepsOthers, View}
use Rattle.folder_core.specs.declared.fault.FileFault.{FileFault}
use Rattle.folder_core.specs.declared.fault.FileFault.TheVariants as files
use Rattle.transfer_commands.specs.Faults.{of_file}
use Rattle.transfer_commands.specs.Outlining.{IsUnread}
use Rattle.transfer_commands.specs.Sources.{AreSources, SourcesUnread}
use Rattle.transfer_commands.specs.declared.fault.CommandFault.{CommandFault}
use Rattle.transfer_commands.specs.declared.fault.CommandFault.TheVariants as faults
use Rattle.request_core.specs.declared.fault.Fault.{Fault}
use Rattle.request_core.specs.declared.fault.Fault.TheVariants.{Memory}
use Rattle.judge_core.specs.declared.verdict.Verdict.{Verdict}
use Rattle.command_core.specs.Commands.{CheckComesTo, CostsAtLeast, Cut, CutRefused, CutsFile, EditComesTo, EditsFiles, IsLeastIfAccepted, JudgesBy, Judges}

-- a master is cut, and could not be written
pub cut_unwritten : (cut : Cut) (old new : View) (project master : List ℕ) (takes : List (List ℕ)) (total : ℕ) (fault : FileFault)
    → AreSources cut.project_name old project takes
    → Edits project takes cut.form master total
    → KeepsOthers cut.master_name old new
    → IsPutInPart cut.master_name old new master
    → fault ≡ files.WriteFailed → EditComesTo cut old new (Err (of_file fault))
cut_unwritten cut old new project master takes total fault sources edits others prefix is =
    subst (λ (f : FileFault). EditComesTo cut old new (Err (of_file f))) (sym is) (inl (record {
      project = project;
      takes = takes;
      master = master;
      total = total;
      sources = sources;
      prefix = prefix;
      others = others;
      edits = edits;
    }))

-- a master is written, and what another name holds then
module _ (cut : Cut) (old written new : View) (project master : List ℕ) (takes : List (List ℕ)) (total : ℕ)
    (sources : AreSources cut.project_name old project takes) (edits : Edits project takes cut.form master total)
    (others : KeepsOthers cut.master_name old written) (master_put : IsPut written cut.master_name master) (others_second : KeepsOthers cut.cert_name written new) where
  cuts_still : CutsFile cut old new project takes master total
  cuts_still = record {
    sources = sources;
    master_put = λ (differs : cut.master_name ≢ cut.cert_name) reported. others_second.others cut.master_name differs ∙ master_put (subst IsTrue others_second.same_known reported);
    others = λ (other : List ℕ) (differs : other ≢ cut.master_name) (differs_second : other ≢ cut.cert_name). others_second.others other differs_second ∙ others.others other differs;
    edits = edits;
  }

  -- what is left in the certificate's file holds of the files before the master was written, too
  prefix_before : (cert : List ℕ) → cut.cert_name ≢ cut.master_name → IsPutInPart cut.cert_name written new cert → IsPutInPart cut.cert_name old new cert
  prefix_before cert differs prefix = λ reported.
      let same = others.others cut.cert_name differs in
      elim (prefix (subst IsTrue (sym others.same_known) reported)) [
        | inl kept ↦ inl (kept ∙ same)
        | inr held ↦ inr (record {
          prefix = held.prefix;
          rest = held.rest;
          parts = held.parts;
          stands = held.stands;
          had_none = λ keeps. sym same ∙ held.had_none (subst IsTrue (sym others.same_keeping) keeps);
        })
      ]

  -- its certificate could not be
  pub cert_unwritten : (cert : List ℕ) (fault : FileFault) → IsPutInPart cut.cert_name written new cert → IsCertificate project takes master cert → Accepts project takes master cert total → fault ≡ files.WriteFailed → EditComesTo cut old new (Err (of_file fault))
  cert_unwritten cert fault prefix certificate accepted is =
      subst (λ (f : FileFault). EditComesTo cut old new (Err (of_file f))) (sym is) (inr (record {
        project = project;
        takes = takes;
        master = master;
        cert = cert;
        total = total;
        cuts = cuts_still;
        prefix = λ (differs : cut.cert_name ≢ cut.master_name). prefix_before cert differs prefix;
        certificate = certificate;
        accepted = accepted;
      }))

  -- and its certificate is
  pub both_written : (cert : List ℕ) → IsPut new cut.cert_name cert → IsCertificate project takes master cert → Accepts project takes master cert total → CostsAtLeast project takes master total → EditsFiles cut old new total
  both_written cert cert_put certificate accepted least = record {
    project = project;
    takes = takes;
    master = master;
    cert = cert;
    cuts = cuts_still;
    cert_put = cert_put;
    certificate = certificate;
    accepted = accepted;
    least = least;
  }

-- a master is judged by the project and its takes, or refused, and nothing changes
module _ (project_name master_name cert_name : List ℕ) (old new : View) (project : List ℕ) (takes : List (List ℕ)) (master : List ℕ) (left : Option (List ℕ)) where
  pub checked : new ≡ old → AreSources project_name old project takes → IsReadOf old master_name master → IsGiven old cert_name left
      → (came : Result Verdict CommandFault) → IfOk came (IsLeastIfAccepted project takes master) → (IsTrue old.is_known → IfOk came (JudgesBy project takes master left)) → IfErr came IsUnread → CheckComesTo project_name master_name cert_name old new came
  checked same sources master_read given (Ok verdict) least judged unread = record {
    project = project;
    takes = takes;
    master = master;
    sources = sources;
    master_read = master_read;
    least = least;
    by_certificate = λ reported.
        let g = given reported in
        (g.0, g.1, subst (λ o. IfSome o (λ cert. Judges project takes master cert verdict)) g.2 (judged reported));
    same = same;
  }
  checked same sources master_read given (Err (faults.Call Memory)) least judged unread = (same, inl refl)
  checked same sources master_read given (Err (faults.Call fault)) least judged unread = absurd unread
  checked same sources master_read given (Err faults.ReadFailed) least judged unread = same
  checked same sources master_read given (Err faults.WriteFailed) least judged unread = absurd unread

-- ---- what was refused before a file was written
-- the project or a take was not read
pub edit_unread : (cut : Cut) (old new : View) (f : CommandFault) → SourcesUnread cut.project_name old new f → EditComesTo cut old new (Err f)
edit_unread cut old new (faults.Call fault) h = (h.0, elim h.1 [ inl memory ↦ inl memory | inr unnamed ↦ inr (inl unnamed) ])
edit_unread cut old new faults.ReadFailed h = h
edit_unread cut old new faults.WriteFailed h = absurd h

module _ (project master cert : List ℕ) (old new : View) where
  pub sources_unread : (f : CommandFault) → SourcesUnread project old new f → CheckComesTo project master cert old new (Err f)
  sources_unread (faults.Call fault) h = (h.0, elim h.1 [ inl memory ↦ inl memory | inr unnamed ↦ inr (inl unnamed) ])
  sources_unread faults.ReadFailed h = h
  sources_unread faults.WriteFailed h = absurd h

  -- the master was not read
  pub master_unread : new ≡ old → (f : CommandFault) → IsUnread f → CheckComesTo project master cert old new (Err f)
  master_unread same (faults.Call Memory) h = (same, inl refl)
  master_unread same (faults.Call fault) h = absurd h
  master_unread same faults.ReadFailed h = same
  master_unread same faults.WriteFailed h = absurd h

  -- there is no cut
  pub uncut : (f : CommandFault) (fault : Fault) → CutRefused None project old new fault → (f ≡ faults.ReadFailed) ⊎ (f ≡ faults.Call fault) → CheckComesTo project master cert old new (Err f)
  uncut f fault refused (inl is) = subst (λ (f : CommandFault). CheckComesTo project master cert old new (Err f)) (sym is) refused.0
  uncut f fault refused (inr is) = subst (λ (f : CommandFault). CheckComesTo project master cert old new (Err f)) (sym is) refused
