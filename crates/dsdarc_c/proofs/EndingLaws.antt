-- The end of a file, and what is kept for it.
use Rattle.std.proofs.Common.{◌≡◌, ℕ, zero, suc, ◌+◌, ◌-◌, ◌<◌, ◌≤◌, ◌↔◌, inl, inr, min, Result, Ok, Err, IfOk, Bool, true, false, List, [], ◌∷◌, ◌++◌, length, take, drop, replicate, slice_range, sym, subst, ap, ap₂, ◌∙◌, arith, append-nil, length-take, length-drop, take-append-drop}
use Rattle.std.proofs.Math.Seq.{take-nil}
use Rattle.std.proofs.lemmas.Bool.{cases_lt}
use Rattle.std.proofs.lemmas.List.{drop-drop, length-replicate, nil_from_length, take_all, take_min}
use Rattle.dsd_bits.specs.declared.blocks.BitOrder.{BitOrder}
use Rattle.dsd_bits.specs.declared.interleaving.Interleaving.TheVariants.{Bytes, Blocks}
use Rattle.dsd_bits.specs.declared.sound.Sound.{Sound}
use Rattle.dsd_bits.specs.Contents.{Content}
use Rattle.dsdiff_core.specs.Files.{IsDsdiff}
use Rattle.dsdiff_core.specs.Headers as dsdiff
use Rattle.dsdiff_core.specs.Headers.{left_after}
use Rattle.dsdiff_core.proofs.HeadLaws.{other_sound}
use Rattle.dsf_core.specs.Headers as dsf
use Rattle.dsf_core.specs.Laws.{SoundDoesNotMatter}
use Rattle.player_core.proofs.SliceLaws.{slices_meet}
use Rattle.sound_core.specs.Files.{HoldsSomeRecording, IsHeaderOf}
use Rattle.sound_core.proofs.ClosingLaws.{ends, form_ends_at, found, no_form, same_form}
use Rattle.sound_core.proofs.HeadLaws.{never_found}
use Rattle.sound_core.proofs.StatedLaws.{states_at}
use Rattle.std.specs.Prelude.{Vec}
use Rattle.std_heap.specs.declared.Global.{Global}
use Rattle.player_core.specs.declared.pausing.PausedPart.{PausedPart}
use Rattle.dsdarc_c.specs.Ending.{EndsAfterSound, IsAtEndOf}
use Rattle.dsdarc_c.specs.Pushing.{IsAtStage, IsPushing, IsUnstated}
use Rattle.dsdarc_c.specs.Whole.{BeginsWith, HasAt, KeepsForm, PlaysPushedFile, PlaysStageOf, waiting}
use Rattle.dsdarc_c.specs.declared.fault.PlayFault.{PlayFault}
use Rattle.dsdarc_c.specs.declared.fault.PlayFault.TheVariants as faults
use Rattle.dsdarc_c.specs.declared.pushing.Pushing.{Pushing}
use Rattle.dsdarc_c.specs.declared.pushing.Stage.{Stage}
use Rattle.dsdarc_c.specs.declared.pushing.Stage.TheVariants as stages

-- ---- what is kept after a sound
take-append : (n : ℕ) (xs ys : List ℕ) → take n (xs ++ ys) ≡ take n xs ++ take (n - length xs) ys
take-append zero xs ys = let none : zero - length xs ≡ 0 = omega arith in ap (λ k. take k ys) (sym none)
take-append (suc n) [] ys = let all : suc n ≡ suc n - length {A = ℕ} [] = omega arith in ap (λ k. take k ys) all
take-append (suc n) (x ∷ xs) ys = let less : n - length xs ≡ suc n - length (x ∷ xs) = omega arith in ap (λ zs. x ∷ zs) (take-append n xs ys) ∙ ap (λ k. x ∷ (take n xs ++ take k ys)) less

pub keeps_more : (file header : List ℕ) (s : Sound) (place : ℕ) (back piece kept : List ℕ) → s.start + s.size ≤ place → HasAt file place piece → (s.interleaving ≡ Bytes → kept ≡ take (left_after header s.size - length back) piece) → KeepsForm file header s place back
    → KeepsForm file header s (place + length piece) (back ++ kept)
keeps_more file header s place back piece kept after at cut keeps order =
    let w = left_after header s.size in
    let from = s.start + s.size in
    let old = slice_range file from place in
    let is = keeps order in
    let whole : old ++ piece ≡ slice_range file from (place + length piece) = ap (λ xs. old ++ xs) at ∙ slices_meet file from place (place + length piece) after (omega arith) in
    let rest : w - length back ≡ w - length old = omega (arith, ap length is, length-take w old) in
    ap₂ (λ xs ys. xs ++ ys) is (cut order ∙ ap (λ k. take k piece) rest) ∙ sym (take-append w old piece) ∙ ap (take w) whole

-- right after the sound nothing is kept
pub keeps_none : (file header : List ℕ) (s : Sound) (place : ℕ) → place ≡ s.start + s.size → KeepsForm file header s place []
keeps_none file header s place here order =
    let none : place - (s.start + s.size) ≡ 0 = omega (arith, here) in
    sym (ap (λ k. take (left_after header s.size) (take k (drop (s.start + s.size) file))) none ∙ take-nil (left_after header s.size))

-- ---- a file that ends after its sound
rest_is : (file header : List ℕ) → BeginsWith file header → file ≡ header ++ drop (length header) file
rest_is file header begins = sym (take-append-drop (length header) file) ∙ ap (λ xs. xs ++ drop (length header) file) (sym begins)

long_zeros : (n : ℕ) → length (replicate {A = ℕ} n 0) ≡ n
long_zeros n = length-replicate {A = ℕ} n 0

module _ (file header : List ℕ) (s : Sound) (back : List ℕ) (total : ℕ) (at : IsHeaderOf header s) (ends_after : EndsAfterSound file header s back total) where
  abbrev rest : List ℕ
  rest = drop (length header) file

  file_is : file ≡ header ++ rest
  file_is = rest_is file header ends_after.begins

  pub blocks_closed : (order : BitOrder) (b : Bool) → s.interleaving ≡ Blocks order → SoundDoesNotMatter → (b ≡ true) ↔ dsf.IsAccepted (header ++ replicate (total - length header) 0) → (b ≡ true) ↔ HoldsSomeRecording file
  blocks_closed order b stated any closed =
      let zeros : List ℕ = replicate (total - length header) 0 in
      let stops = ends header s at order stated in
      let size : length zeros ≡ length rest = omega (arith, long_zeros (total - length header), length-drop (length header) file, ends_after.long) in (
        λ yes. (let is = any header zeros rest stops size (closed.0 yes) in subst HoldsSomeRecording (sym file_is) (is.0, inr (is.1, is.2))),
        λ holds. closed.1 (any header rest zeros stops (sym size) (accepted (subst HoldsSomeRecording file_is holds))),
      )
    where
      accepted : HoldsSomeRecording (header ++ rest) → dsf.IsAccepted (header ++ rest)
      accepted holds = elim holds.1 [
        | inl form ↦ absurd (no_form header s at order stated rest holds.0 form)
        | inr (other, is) ↦ (holds.0, other, is)
      ]

  pub form_closed : (b : Bool) → s.interleaving ≡ Bytes → (b ≡ true) ↔ dsdiff.IsAccepted (header ++ (replicate s.size 0 ++ back)) → (b ≡ true) ↔ HoldsSomeRecording file
  form_closed b stated closed = (
    λ yes. (let is = closed.0 yes in
        let mine = other_sound header zeros sound back s is.0 end (long_zeros s.size) sound_long is.1 in
        subst HoldsSomeRecording (sym parted) (_, inl ((followed _).0 mine))),
    λ holds. (let is = accepted (subst HoldsSomeRecording parted holds) in
        let short = (followed is.0).1 is.1 in
        closed.1 (_, other_sound header sound zeros back s is.0 end sound_long (long_zeros s.size) short)),
  )
    where
      end : dsdiff.EndsAt header s
      end = form_ends_at header s at stated

      w : ℕ
      w = left_after header s.size

      zeros : List ℕ
      zeros = replicate s.size 0

      sound : List ℕ
      sound = take s.size rest

      after : List ℕ
      after = drop s.size rest

      more : List ℕ
      more = drop w after

      after_is : slice_range file (s.start + s.size) total ≡ after
      after_is =
          let n = total - (s.start + s.size) in
          let from : s.start + s.size ≡ length header + s.size = omega (arith, at.start) in
          ap (λ k. take n (drop k file)) from ∙ ap (take n) (sym (drop-drop s.size (length header) file)) ∙ take_all n after (omega (arith, length-drop s.size rest, length-drop (length header) file, ends_after.long, at.start))

      back_is : back ≡ take w after
      back_is = ends_after.form stated ∙ ap (take w) after_is

      sound_long : length sound ≡ s.size
      sound_long = omega (arith, length-take s.size rest, length-drop (length header) file, ends_after.long, ends_after.in_file, at.start)

      parted : file ≡ header ++ (sound ++ (back ++ more))
      parted = file_is ∙ ap (λ xs. header ++ xs) (sym (take-append-drop s.size rest) ∙ ap (λ xs. sound ++ xs) (sym (take-append-drop w after) ∙ ap (λ xs. xs ++ more) (sym back_is)))

      followed : (r : Content) → IsDsdiff (header ++ (sound ++ back)) r ↔ IsDsdiff (header ++ (sound ++ (back ++ more))) r
      followed r = elim (cases_lt (length back) w) [
        | inl short ↦ (
            let none : more ≡ [] = nil_from_length more (omega (arith, short, ap length back_is, length-take w after, length-drop w after)) in
            let same : back ++ more ≡ back = ap (λ xs. back ++ xs) none ∙ append-nil back in
            (λ is. subst (λ xs. IsDsdiff (header ++ (sound ++ xs)) r) (sym same) is, λ is. subst (λ xs. IsDsdiff (header ++ (sound ++ xs)) r) same is))
        | inr whole ↦ same_form header s at stated sound back more r sound_long whole
      ]

      accepted : HoldsSomeRecording (header ++ (sound ++ (back ++ more))) → dsdiff.IsAccepted (header ++ (sound ++ (back ++ more)))
      accepted holds = elim holds.1 [
        | inl form ↦ (holds.0, form)
        | inr (order, is) ↦ absurd (never_found header (sound ++ (back ++ more)) s holds.0 order (found header s at stated) is)
      ]

-- the same of an answer
pub form_closed_ok : {F : Type 0} (header : List ℕ) (s : Sound) (back : List ℕ) (total : ℕ) → IsHeaderOf header s → (r : Result Bool F) → s.interleaving ≡ Bytes → IfOk r (λ b. (b ≡ true) ↔ dsdiff.IsAccepted (header ++ (replicate s.size 0 ++ back)))
    → IfOk r (λ b. (file : List ℕ) → EndsAfterSound file header s back total → (b ≡ true) ↔ HoldsSomeRecording file)
form_closed_ok header s back total at (Ok b) stated closed = λ file ends_after. form_closed file header s back total at ends_after b stated closed
form_closed_ok header s back total at (Err e) stated closed = tt

-- ---- a file that ends before
-- it is its header, which is no recording
pub header_alone : (file header : List ℕ) → BeginsWith file header → length file ≡ length header → IsUnstated header → HoldsSomeRecording file → ⊥
header_alone file header begins long unstated holds =
    let same : file ≡ header = sym (take_all (length header) file (omega (arith, long))) ∙ sym begins in
    let is = subst HoldsSomeRecording same holds in
    unstated.refused is.0 is.1

-- it ends in its sound
pub cut_sound : (file header : List ℕ) (s : Sound) → BeginsWith file header → IsHeaderOf header s → length file < s.start + s.size → HoldsSomeRecording file → ⊥
cut_sound file header s begins at short holds =
    let is = rest_is file header begins in
    let whole = subst (HoldsSomeRecording) is holds in
    let has = (states_at header s at).has (drop (length header) file) whole.0 whole.1 in
    omega (arith, has.in_file, short, ap length is)

-- ---- a player
-- what is kept of a piece
pub cut_form : (piece kept : List ℕ) (m wanted w : ℕ) → kept ≡ take m piece → m ≡ min (length piece) wanted → wanted ≡ w → kept ≡ take w piece
cut_form piece kept m wanted w is least wanted_is = let same : m ≡ min w (length piece) = omega (arith, least, wanted_is) in is ∙ ap (λ k. take k piece) same ∙ take_min w piece

stage_at : (p : Pushing) (file : List ℕ) (start : ℕ) (pulled : List ℕ) (stage : Stage) → p.stage ≡ stage → PlaysPushedFile file start pulled p → PlaysStageOf p.taps file start (pulled ++ waiting p) p.header.items p.place stage
stage_at p file start pulled stage is plays = subst (PlaysStageOf p.taps file start (pulled ++ waiting p) p.header.items p.place) is plays.stage

pub ends_after_sound : (p : Pushing) (file : List ℕ) (s : Sound) (back : Vec ℕ Global) → IsPushing p → p.stage ≡ stages.After s back → IsAtEndOf file p → EndsAfterSound file p.header.items s back.items p.place
ends_after_sound p file s back keeps is (start, pulled, plays, long) =
    let w = stage_at p file start pulled (stages.After s back) is plays in
    let after = subst (IsAtStage p.taps p.header.items p.place) is keeps.stage in
    record { long = long; begins = w.0; in_file = after.after; form = w.2 }

pub not_at_header : (p : Pushing) (file : List ℕ) (walked : ℕ) → IsPushing p → p.stage ≡ stages.Header walked → IsAtEndOf file p → HoldsSomeRecording file → ⊥
not_at_header p file walked keeps is (start, pulled, plays, long) holds =
    let w = stage_at p file start pulled (stages.Header walked) is plays in
    let at = subst (IsAtStage p.taps p.header.items p.place) is keeps.stage in
    header_alone file p.header.items w.0 (long ∙ sym at.place_is) at.unstated holds

pub not_in_sound : (p : Pushing) (file : List ℕ) (s : Sound) (q : PausedPart) (left : ℕ) → IsPushing p → p.stage ≡ stages.Sound s q left → IsAtEndOf file p → HoldsSomeRecording file → ⊥
not_in_sound p file s q left keeps is (start, pulled, plays, long) holds =
    let w = stage_at p file start pulled (stages.Sound s q left) is plays in
    let at = subst (IsAtStage p.taps p.header.items p.place) is keeps.stage in
    cut_sound file p.header.items s w.begins at.0.header.ends (omega (arith, long, at.0.place_is, at.1)) holds

-- ---- an end
pub answered : (p : Pushing) (r : Result Bool PlayFault) (b : Bool) → r ≡ Ok b → (p.stage ≡ stages.Failed → r ≡ Err faults.AfterFault) → p.stage ≡ stages.Failed → ⊥
answered p r b is after failed = (let both : Ok b ≡ Err faults.AfterFault = sym is ∙ after failed in absurd cc)

pub never : {A : Type 0} → false ≡ true → A
never both = absurd cc
