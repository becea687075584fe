-- The excerpts of files one by one, and of those of a project.
use Rattle.std.proofs.Common.{◌≡◌, ℕ, ◌+◌, ◌<◌, List, [], ◌∷◌, ◌++◌, Result, Err, IfErr, Global, Vec, inl, inr, get_or, length, take, refl, sym, subst, ◌∙◌, arith}
use Rattle.std.proofs.lemmas.Bool.{eq-eqb}
use Rattle.std.proofs.lemmas.List.{length-append, length-take-le, take_more}
use Rattle.splice_core.specs.Splices.{SpliceContent}
use Rattle.form_core.specs.Steps.{FailsUnless}
use Rattle.cut_core.specs.declared.fault.CutFault.{CutFault}
use Rattle.cut_core.specs.declared.excerpts.Excerpts.{Excerpts}
use Rattle.cut_core.specs.Opening.{ReturnsExcerpts, ReturnsAllExcerpts, take_in, takes_before, takes_of}
use Rattle.request_core.specs.declared.fault.Fault.{Fault}
use Rattle.request_core.specs.declared.fault.Fault.TheVariants.{Memory}
use Rattle.request_core.specs.Projects.{SaysSplice, splice_of_text, take_names_of}
use Rattle.folder_core.specs.Files.{AreReadOf, IsReadFault, IsReadOf, View}
use Rattle.folder_core.specs.declared.fault.FileFault.{FileFault}
use Rattle.folder_core.specs.declared.fault.FileFault.TheVariants as files
use Rattle.cut_core.proofs.ZipLaws.{zip_long, zip_more}
use Rattle.transfer_commands.specs.declared.fault.CommandFault.{CommandFault}
use Rattle.transfer_commands.specs.declared.fault.CommandFault.TheVariants as faults
use Rattle.transfer_commands.specs.Faults.{of_file}
use Rattle.transfer_commands.specs.Excerpts.{ReadsExcerpts, ReadsAllExcerpts, ReadsSourceExcerpts}
use Rattle.transfer_commands.specs.Outlining.{IsUnread}
use Rattle.transfer_commands.specs.Sources.{IsUnnamed, SourcesUnread}

-- ---- files one by one
pub as_many : (old : View) (names files : List (List ℕ)) → AreReadOf old names files → length files ≡ length names
as_many old names files read = zip_long (IsReadOf old) names files read

module _ (old : View) (splice : SpliceContent) (names : List (List ℕ)) (n : ℕ) (there : n < length names) where
  pub files_more : (excerpts made : Result (Vec Excerpts Global) CutFault) (next : Result Excerpts CutFault) → ReadsAllExcerpts old splice (take n names) excerpts → ReadsExcerpts old splice n (get_or names n []) next
      → ((files : List (List ℕ)) (file : List ℕ) → ReturnsAllExcerpts splice excerpts (takes_before files (length files)) → ReturnsExcerpts splice (length files) next (take_in (length files) file) → ReturnsAllExcerpts splice made (takes_before (files ++ file ∷ []) (length files + 1)))
      → ReadsAllExcerpts old splice (take (n + 1) names) made
  files_more excerpts made next before one pushed =
      let many : length before.files ≡ n = as_many old (take n names) before.files before.read ∙ length-take-le n names (omega arith) in
      let more : length (before.files ++ one.file ∷ []) ≡ length before.files + 1 = length-append before.files (one.file ∷ []) in
      let reads_excerpts = pushed before.files one.file before.reads_excerpts (subst (λ k. ReturnsExcerpts splice k next (take_in k one.file)) (sym many) one.reads_excerpts) in
      record {
        files = before.files ++ one.file ∷ [];
        read = subst (λ (ns : List (List ℕ)). AreReadOf old ns (before.files ++ one.file ∷ [])) (sym (take_more names n [] there)) (zip_more (IsReadOf old) (take n names) before.files (get_or names n []) one.file before.read one.file_read);
        reads_excerpts = subst (λ k. ReturnsAllExcerpts splice made (takes_before (before.files ++ one.file ∷ []) k)) (sym more) reads_excerpts;
      }

-- ---- those of a project
pub all_takes : (splice : SpliceContent) (files : List (List ℕ)) → length files ≡ length splice.takes → takes_of splice files ≡ takes_before files (length files)
unfolding takes_of
all_takes splice files many = rw (eq-eqb _ _ many) refl

pub sources_excerpted : (name : List ℕ) (old read : View) (project : List ℕ) (splice : SpliceContent) (excerpts : Result (Vec Excerpts Global) CutFault) → read ≡ old → IsReadOf old name project → SaysSplice project splice → ReadsAllExcerpts read splice splice.takes excerpts → ReadsSourceExcerpts name old splice excerpts
sources_excerpted name old read project splice excerpts same project_read says h = record {
  project = project;
  takes = h.files;
  sources = record {
    names = splice.takes;
    project_read = project_read;
    names_said = record { splice = splice; says = says; names_are = refl };
    takes_read = subst (λ (v : View). AreReadOf v splice.takes h.files) same h.read;
  };
  project_says = says;
  reads_excerpts = rw (all_takes splice h.files (as_many read splice.takes h.files h.read)) h.reads_excerpts;
}

-- a project without a splice names no takes
named_by : (project : List ℕ) (fault : Fault) → FailsUnless Memory fault (splice_of_text project) → FailsUnless Memory fault (take_names_of project)
unfolding take_names_of
named_by project fault (inl memory) = inl memory
named_by project fault (inr refused) = inr (rw refused refl)

pub unnamed : (name : List ℕ) (old : View) (project : List ℕ) (fault : Fault) → IsReadOf old name project → FailsUnless Memory fault (splice_of_text project) → IsUnnamed name old fault
unnamed name old project fault read fails = record { project = project; project_read = read; first = named_by project fault fails }

pub unread : (name : List ℕ) (old new : View) (fault : CommandFault) → new ≡ old → IsUnread fault → SourcesUnread name old new fault
unread name old new (faults.Call Memory) same is = (same, inl refl)
unread name old new faults.ReadFailed same is = same
unread name old new fault same is = absurd is

-- of a file that could not be read
pub unread_of : (fault : FileFault) → IsReadFault fault → IsUnread (of_file fault)
unread_of files.ReadFailed is = tt
unread_of files.Memory is = tt
unread_of files.WriteFailed is = absurd is

-- what a fault says that is passed on
pub err_says : {X E : Type 0} (r : Result X E) (fault : E) (P : E → Type 0) → r ≡ Err fault → P fault → IfErr r P
err_says r fault P is = subst (λ r. IfErr r P) (sym is)
