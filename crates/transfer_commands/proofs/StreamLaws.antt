-- The excerpts of a file that was read in one pass.
use Rattle.std.proofs.Common.{◌≡◌, ℕ, Err, IfOk, List, None, Ok, Option, Result, Some, inr, refl, sym, subst}
use Rattle.std.specs.Prelude.{IfSome}
use Rattle.dsd_bits.specs.declared.stretches.BitRange.{BitRange}
use Rattle.dsd_bits.specs.Shape.{HasShape}
use Rattle.splice_core.specs.Splices.{SpliceContent}
use Rattle.form_core.specs.Laws.{HeldIsOpened}
use Rattle.cut_core.specs.declared.excerpts.Excerpts.{Excerpts}
use Rattle.cut_core.specs.Excerpts.{ranges_of}
use Rattle.cut_core.specs.Opening.{ReturnsExcerpts, fault_of_take, take_in}
use Rattle.cut_core.specs.declared.fault.CutFault.{CutFault}
use Rattle.form_core.specs.Opening.{opened_of}
use Rattle.form_core.specs.declared.fault.ReadFault.{ReadFault}
use Rattle.sound_core.specs.Keeping.{IsKeptOf, KeepsFile, stretches_in}
use Rattle.sound_core.specs.Outlines.{AreStated, around_of}
use Rattle.sound_core.specs.declared.keeping.Kept.{Kept}
use Rattle.folder_core.specs.Files.{IsGiven, IsReadOf, View}
use Rattle.transfer_commands.specs.Excerpts.{ReadsExcerpts, HoldsExcerpts, AreExcerptsIn, AreExcerptsInSome, StreamsRead}
use Rattle.form_core.specs.Forms.{form_in}
use Rattle.transfer_commands.specs.declared.fault.CommandFault.{CommandFault}
use Rattle.sound_core.proofs.HeldLaws.{held, held_count, held_shape, held_silent}
use Rattle.transfer_commands.proofs.ReadLaws.{known_or_some}
use Rattle.request_core.proofs.FormLaws.{holds_as}

-- the excerpts of what was kept of a file are those of its recording
pub kept_excerpted : (kept : Kept) → HasShape kept.outline.recording → (splice : SpliceContent) (number : ℕ) (file : List ℕ) → AreStated (around_of kept.outline) → IsKeptOf (around_of kept.outline) (ranges_of splice number) (stretches_in kept) file
    → HoldsExcerpts splice number file (record { recording = kept.outline.recording; count = kept.outline.sound.count; stretches = kept.stretches })
kept_excerpted kept shape splice number file reported is =
    let outline = kept.outline in
    let silence = held_silent outline shape reported file is.0 is.1 in
    let many = sym (held_count outline shape reported file is.0 is.1) in
    record {
      recording = held outline shape reported file is.0 is.1;
      holds = record {
        form = form_in outline.sound.interleaving;
        holds = holds_as outline.sound.interleaving file (held outline shape reported file is.0 is.1) (reported.holds file is.0 is.1);
      };
      shape = held_shape outline shape reported file is.0 is.1;
      are_excerpts = λ j. record { recording = silence j; count = many j; stretches = is.2 j };
    }

-- ---- its take

-- it is what reading the file in order comes to
pub held_excerpts : HeldIsOpened → (splice : SpliceContent) (number : ℕ) (file : List ℕ) (excerpts : Excerpts) → HoldsExcerpts splice number file excerpts → ReturnsExcerpts splice number (Ok excerpts) (take_in number file)
held_excerpts law splice number file excerpts h =
    let opens = (law file h.holds.form h.recording).0 h.holds.holds in
    (h.recording, rw opens refl, h.shape, h.are_excerpts)

-- the excerpts of the bytes that a reader has left, if they are known
pub left_excerpted : (kept : Kept) (splice : SpliceContent) (number : ℕ) (excerpts : Excerpts) (ranges : List BitRange) → ranges ≡ ranges_of splice number
    → ((s : SpliceContent) (n : ℕ) (file : List ℕ) → AreStated (around_of kept.outline) → IsKeptOf (around_of kept.outline) (ranges_of s n) (stretches_in kept) file → HoldsExcerpts s n file excerpts)
    → (left : Option (List ℕ)) → KeepsFile left (around_of kept.outline) ranges (stretches_in kept) → IfSome left (λ file. HoldsExcerpts splice number file excerpts)
left_excerpted kept splice number excerpts ranges own reads_excerpts None is = tt
left_excerpted kept splice number excerpts ranges own reads_excerpts (Some file) is =
    reads_excerpts splice number file is.0 (subst (λ (r : List BitRange). IsKeptOf (around_of kept.outline) r (stretches_in kept) file) own is.1)

-- of whichever bytes were read
pub given_excerpted : (kept : Kept) (splice : SpliceContent) (number : ℕ) (excerpts : Excerpts) (ranges : List BitRange) → ranges ≡ ranges_of splice number
    → ((s : SpliceContent) (n : ℕ) (file : List ℕ) → AreStated (around_of kept.outline) → IsKeptOf (around_of kept.outline) (ranges_of s n) (stretches_in kept) file → HoldsExcerpts s n file excerpts)
    → AreStated (around_of kept.outline) → (read : List ℕ) → IsKeptOf (around_of kept.outline) ranges (stretches_in kept) read → HoldsExcerpts splice number read excerpts
given_excerpted kept splice number excerpts ranges own reads_excerpts reported read is =
    reads_excerpts splice number read reported (subst (λ (r : List BitRange). IsKeptOf (around_of kept.outline) r (stretches_in kept) read) own is)

-- a file that holds no recording has this fault as that of the take of a number
pub take_named : (number : ℕ) (file : List ℕ) (cause : ReadFault) → opened_of file ≡ Err cause → take_in number file ≡ Err (fault_of_take number cause)
take_named number file cause e = rw e refl

pub left_named : (left : Option (List ℕ)) (splice : SpliceContent) (number : ℕ) (cause : ReadFault) (fault : CutFault) → fault ≡ fault_of_take number cause → IfSome left (λ file. opened_of file ≡ Err cause) → IfSome left (λ file. AreExcerptsIn splice number file (Err fault))
left_named None splice number cause fault named e = tt
left_named (Some file) splice number cause fault named e = rw named (take_named number file cause e)

-- the file of a name was heard, whether the folder tells its bytes or not
streams_file : (view : View) (splice : SpliceContent) (number : ℕ) (name : List ℕ) (left : Option (List ℕ)) → IsGiven view name left → (found : Result Excerpts CutFault) → IfSome left (λ file. AreExcerptsIn splice number file found) → AreExcerptsInSome splice number found → StreamsRead view splice number name found
streams_file view splice number name left given found known some =
    let read = known_or_some view name left (λ file. AreExcerptsIn splice number file found) given known some in
    record { file = read.0; file_read = read.1; are_excerpts = read.2 }

excerpts_take : HeldIsOpened → (splice : SpliceContent) (number : ℕ) (file : List ℕ) (excerpts : Result Excerpts CutFault) → AreExcerptsIn splice number file excerpts → ReturnsExcerpts splice number excerpts (take_in number file)
excerpts_take law splice number file (Ok excerpts) is = held_excerpts law splice number file excerpts is
excerpts_take law splice number file (Err fault) is = inr is

-- of the file of a name
pub streamed_excerpted : HeldIsOpened → (old mid : View) (splice : SpliceContent) (number : ℕ) (name : List ℕ) (excerpts : Result Excerpts CutFault) → mid ≡ old → StreamsRead mid splice number name excerpts → ReadsExcerpts old splice number name excerpts
streamed_excerpted law old mid splice number name excerpts same found = record {
  file = found.file;
  file_read = subst (λ (v : View). IsReadOf v name found.file) same found.file_read;
  reads_excerpts = excerpts_take law splice number found.file excerpts found.are_excerpts;
}

-- the same of an answer
pub streams_found : (view : View) (splice : SpliceContent) (number : ℕ) (name : List ℕ) (left : Option (List ℕ)) → IsGiven view name left → (r : Result (Result Excerpts CutFault) CommandFault) → IfOk r (λ found. IfSome left (λ file. AreExcerptsIn splice number file found)) → IfOk r (AreExcerptsInSome splice number) → IfOk r (StreamsRead view splice number name)
streams_found view splice number name left given (Ok found) known some = streams_file view splice number name left given found known some
streams_found view splice number name left given (Err fault) known some = tt
