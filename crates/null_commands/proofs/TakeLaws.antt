-- What is read of takes, one after the other.
use Rattle.std.proofs.Common.{◌≡◌, ◌∙◌, ℕ, ◌+◌, ◌<◌, [], ◌∷◌, ◌++◌, Err, Global, List, Ok, Result, Vec, arith, get_or, length, subst, sym, take}
use Rattle.std.proofs.Math.Seq.{get_or-append_seam}
use Rattle.std.proofs.lemmas.List.{get_or_append_left, length-append, length-take-le, take_more}
use Rattle.dsd_bits.specs.Contents.{Content}
use Rattle.form_core.specs.Forms.{HoldsSome}
use Rattle.form_core.specs.Opening.{opened_of}
use Rattle.clip_core.specs.Mixes.{MixContent}
use Rattle.cut_core.specs.Cuts.{take_at}
use Rattle.cut_core.specs.declared.excerpts.Excerpts.{Excerpts}
use Rattle.cut_core.proofs.ZipLaws.{zip_at, zip_long, zip_more}
use Rattle.folder_core.specs.Files.{AreReadOf, IsReadOf, View}
use Rattle.null_core.specs.declared.fault.NullFault.{NullFault}
use Rattle.null_core.specs.declared.fault.NullFault.TheVariants.{Memory, TakeUnread}
use Rattle.null_core.specs.Calling.{IsFirstUnread, IsTakeFault, ReadsTake, file_at}
use Rattle.null_core.specs.Holding.{AreExcerpts}
use Rattle.null_core.proofs.CallingLaws.{more_excerpts, no_excerpts}
use Rattle.null_commands.specs.Sources.{ReadsNamed, ReadsNames, TakesIn}

-- ---- what was read of takes, and of one more
module _ (files : List (List ℕ)) (file : List ℕ) where
  longer : length (files ++ file ∷ []) ≡ length files + 1
  longer = length-append files (file ∷ [])

  same_at : (i : ℕ) → i < length files → file_at (files ++ file ∷ []) i ≡ file_at files i
  same_at i lt = get_or_append_left files (file ∷ []) [] i lt

  last_at : file_at (files ++ file ∷ []) (length files) ≡ file
  last_at = get_or-append_seam files file [] []

  -- the first fault stays the first
  fault_more : (fault : NullFault) → IsTakeFault files fault → IsTakeFault (files ++ file ∷ []) fault
  fault_more Memory is = tt
  fault_more (TakeUnread number fault) is = record {
    there = omega (arith, is.there, longer);
    before = λ earlier lt. subst (λ (f : List ℕ). (r : Content) × HoldsSome f r) (sym (same_at earlier (omega (arith, lt, is.there)))) (is.before earlier lt);
    first = subst (λ (f : List ℕ). opened_of f ≡ Err fault) (sym (same_at number is.there)) is.first;
  }
  fault_more fault is = absurd is

  module _ (mix : MixContent) where
    pub none_more : (fault : NullFault) → TakesIn mix files (Err fault) → TakesIn mix (files ++ file ∷ []) (Err fault)
    none_more fault is = fault_more fault is

    -- the last file is the first that holds no recording
    pub not_more : (hs : Vec Excerpts Global) (fault : NullFault) → TakesIn mix files (Ok hs) → ReadsTake mix (length files) file (Err fault) → TakesIn mix (files ++ file ∷ []) (Err fault)
    not_more hs Memory before is = tt
    not_more hs (TakeUnread number fault) before is =
        subst (λ (n : ℕ). IsFirstUnread (files ++ file ∷ []) n fault) (sym is.0) (record {
          there = omega (arith, longer);
          before = λ earlier lt. (
            get_or before.takes earlier (take_at [] 0),
            subst (λ (f : List ℕ). HoldsSome f (get_or before.takes earlier (take_at [] 0))) (sym (same_at earlier lt)) (zip_at HoldsSome files before.takes earlier [] (take_at [] 0) before.held lt),
          );
          first = subst (λ (f : List ℕ). opened_of f ≡ Err fault) (sym last_at) is.1;
        })
    not_more hs fault before is = absurd is

    pub one_more : (hs made : Vec Excerpts Global) (h : Excerpts) → made.items ≡ hs.items ++ h ∷ [] → TakesIn mix files (Ok hs) → ReadsTake mix (length files) file (Ok h) → TakesIn mix (files ++ file ∷ []) (Ok made)
    one_more hs made h pushed before is = record {
      takes = before.takes ++ is.recording ∷ [];
      held = zip_more HoldsSome files before.takes file is.recording before.held is.holds;
      excerpts = more_excerpts mix before.takes hs.items made.items is.recording h (length files) (zip_long HoldsSome files before.takes before.held) before.excerpts is.shape is.are_excerpts pushed;
    }

-- ---- under their names
pub no_names : (old : View) (mix : MixContent) (hs : Vec Excerpts Global) → hs.items ≡ [] → ReadsNames old mix [] (Ok hs)
no_names old mix hs none = record {
  files = [];
  files_read = tt;
  takes_in = record { takes = []; held = tt; excerpts = subst (AreExcerpts mix []) (sym none) (no_excerpts mix) };
}

module _ (old : View) (mix : MixContent) (names : List (List ℕ)) (n : ℕ) (there : n < length names) where
  pub names_more : (takes made : Result (Vec Excerpts Global) NullFault) (next : Result Excerpts NullFault) → ReadsNames old mix (take n names) takes → ReadsNamed old mix n (get_or names n []) next
      → ((mix : MixContent) (files : List (List ℕ)) (file : List ℕ) → TakesIn mix files takes → ReadsTake mix (length files) file next → TakesIn mix (files ++ file ∷ []) made)
      → ReadsNames old mix (take (n + 1) names) made
  names_more takes made next before one pushed =
      let many : length before.files ≡ n = zip_long (IsReadOf old) (take n names) before.files before.files_read ∙ length-take-le n names (omega arith) in
      record {
        files = before.files ++ one.file ∷ [];
        files_read = subst (λ (ns : List (List ℕ)). AreReadOf old ns (before.files ++ one.file ∷ [])) (sym (take_more names n [] there)) (zip_more (IsReadOf old) (take n names) before.files (get_or names n []) one.file before.files_read one.file_read);
        takes_in = pushed mix before.files one.file before.takes_in (subst (λ (k : ℕ). ReadsTake mix k one.file next) (sym many) one.reads_take);
      }
