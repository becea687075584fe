-- Channels that are filled with a sound that comes, and what the whole file holds.
use Rattle.std.proofs.Common.{◌≡◌, ◌∙◌, ℕ, ◌+◌, ◌%◌, ◌<◌, ◌≤◌, inl, inr, Bool, List, [], ◌++◌, Option, Some, None, ap, arith, get_or, length, refl, replicate, subst, sym, Global, Vec}
use Rattle.std.proofs.lemmas.Bool.{cases_lt}
use Rattle.std.proofs.lemmas.List.{ext_get_or, get_or-replicate, length-replicate, nil_from_length}
use Rattle.chunk_core.specs.declared.inlet.Inlet.{Inlet}
use Rattle.dsd_bits.specs.Contents.{Content}
use Rattle.dsd_bits.specs.Shape.{HasShape}
use Rattle.dsd_bits.specs.Sounds.{sound_channels, sound_size}
use Rattle.dsd_bits.specs.Stretches.{silent}
use Rattle.dsd_bits.specs.declared.interleaving.Interleaving.{Interleaving}
use Rattle.dsd_bits.specs.declared.interleaving.Interleaving.TheVariants.{Bytes, Blocks}
use Rattle.dsd_bits.specs.declared.sound.Sound.{Sound}
use Rattle.form_core.specs.Forms.{HoldsSome}
use Rattle.interleave_core.proofs.JoinLaws.{Appended, taken}
use Rattle.sound_core.specs.Files.{HoldsRecording}
use Rattle.sound_core.specs.Outlines.{AreStated, HoldsIn, around_of, with_sound}
use Rattle.sound_core.specs.Sinks.{IsFed, IsTakenOf, TakesFile, TakesGiven}
use Rattle.sound_core.specs.Stretches.{IsRoomy}
use Rattle.sound_core.specs.declared.outline.Outline.{Outline}
use Rattle.sound_core.specs.declared.part.SoundPart.{SoundPart}
use Rattle.sound_core.proofs.HeldLaws.{held_count, held_number, held_shape, held_silent}
use Rattle.sound_core.proofs.KeeperLaws.{channel_bits, no_size}
use Rattle.null_core.specs.Candidates.{FillsFile, FillsGiven, IsFilledOf}
use Rattle.null_core.specs.Filling.{AreLonger, HasMeasure, IsFilled, IsFilling}
use Rattle.null_core.specs.Masters.{with_bits}
use Rattle.null_core.specs.Reading.{MixedContent}
use Rattle.null_core.specs.Verdicts.{FitsFirst, IsOutlineOf}
use Rattle.null_core.specs.declared.filler.Filler.{Filler}
use Rattle.null_core.specs.declared.master_reading.Filled.{Filled}
use Rattle.null_core.specs.declared.part.Part.{Part}
use Rattle.null_core.proofs.FileLaws.{outline_holds}

-- ---- before the first byte
-- there are no bits yet
none_yet : (s : Sound) → replicate s.channels [] ≡ sound_channels s.interleaving s.channels 0 []
none_yet s =
    let none = sound_channels s.interleaving s.channels 0 [] in
    let empty : List (List Bool) = replicate s.channels [] in
    let joined = taken s.interleaving s.channels 0 0 [] [] refl (sym (no_size s.interleaving s.channels)) (sym (no_size s.interleaving s.channels)) in
    ext_get_or [] empty none (length-replicate {A = List Bool} s.channels [] ∙ sym joined.first_long) (λ c h.
    let below : c < s.channels = omega (arith, h, length-replicate {A = List Bool} s.channels []) in
    get_or-replicate {A = List Bool} s.channels c [] [] below ∙ sym (nil_from_length (get_or none c []) (joined.bits c below)))

pub filled_none : (s : Sound) (parts : List (Vec Part Global)) (channels : List (List Bool)) → length parts ≡ s.channels → channels ≡ replicate s.channels [] → IsFilled s 0 parts channels []
filled_none s parts channels many are = record { with_parts = many; channels_are = are ∙ none_yet s }

-- ---- channel by channel
-- to the first n channels their bits were added, and the others are as they were
pub record LongerUpTo (bits old now : List (List Bool)) (n : ℕ) : Type 0 where
  pub number : length now ≡ length old
  pub later : (k : ℕ) → n ≤ k → get_or now k [] ≡ get_or old k []
  pub longer : (k : ℕ) → k < n → get_or now k [] ≡ get_or old k [] ++ get_or bits k []

pub longer_none : (bits old : List (List Bool)) → LongerUpTo bits old old 0
longer_none bits old = record { number = refl; later = λ k h. refl; longer = λ k h. absurd (omega (arith, h)) }

pub longer_all : (bits old now : List (List Bool)) (n : ℕ) → LongerUpTo bits old now n → length old ≤ n → AreLonger bits old now
longer_all bits old now n so_far enough = record { number = so_far.number; each = λ c h. so_far.longer c (omega (arith, h, enough)) }

-- ---- one part more
module _ (part : SoundPart) (before bytes : List ℕ) (fed : IsFed part.sound part.done before) (size : length bytes ≡ sound_size part.sound.interleaving part.sound.channels part.bits) where
  abbrev s : Sound
  s = part.sound

  groups : part.done % 32768 ≡ 0
  groups = fed.groups (omega (arith, part.within, part.some))

  pub part_whole : s.interleaving ≡ Bytes → part.bits % 8 ≡ 0
  part_whole is = elim (cases_lt (part.done + part.bits) s.count) [
    | inl less ↦ omega (arith, part.groups less)
    | inr all ↦ omega (arith, all, part.within, groups, fed.whole is)
  ]

  abbrev more : List (List Bool)
  more = sound_channels s.interleaving s.channels part.bits bytes

  joined : Appended (sound_channels s.interleaving s.channels (part.done + part.bits) (before ++ bytes)) (sound_channels s.interleaving s.channels part.done before) more s.channels part.done
  joined = taken s.interleaving s.channels part.done part.bits before bytes groups fed.size size

  module _ (parts : List (Vec Part Global)) (channels : List (List Bool)) (filled : IsFilled s part.done parts channels before) where
    pub filled_number : length channels ≡ s.channels
    filled_number = ap length filled.channels_are ∙ joined.first_long

    pub filled_roomy : IsRoomy more channels
    filled_roomy = record {
      number = filled_number ∙ sym joined.more_long;
      room = λ c h.
          let below : c < s.channels = omega (arith, h, filled_number) in
          let own = ap (λ zs. length (get_or zs c [])) filled.channels_are ∙ joined.bits c below in
          let added = channel_bits s.interleaving s.channels part.bits bytes c fed.is_sound.some_channel part_whole size below in
          omega (arith, own, added, part.within, fed.is_sound.in_limit);
    }

    pub filled_more : (new : List (List Bool)) → AreLonger more channels new → IsFilled s (part.done + part.bits) parts new (before ++ bytes)
    filled_more new longer =
        let all = sound_channels s.interleaving s.channels (part.done + part.bits) (before ++ bytes) in
        record {
          with_parts = filled.with_parts;
          channels_are = ext_get_or [] new all (longer.number ∙ filled_number ∙ sym joined.all_long) (λ c h.
              let below : c < s.channels = omega (arith, h, longer.number, filled_number) in
              longer.each c (omega (arith, h, longer.number)) ∙ ap (λ zs. get_or zs c [] ++ get_or more c []) filled.channels_are ∙ sym (joined.each c below));
        }

-- ---- the whole file
-- a filler that took a whole sound
module _ (first f : Filler) (outline : Outline) (mixed : MixedContent) (own : first.mixed.now ≡ mixed) where
  abbrev made : Filled
  made = record { outline = outline; channels = f.channels }

  taken_filled : (file : List ℕ) → IsTakenOf (IsFilling first f) (around_of outline) file → IsFilledOf mixed made file
  taken_filled file (sound, stands, is) = (sound, stands, λ measure. (is.filled (subst (λ (m : MixedContent). HasMeasure m outline.sound) (sym (is.same ∙ own)) measure)).channels_are)

  pub file_filled : (left : Option (List ℕ)) → TakesFile (IsFilling first f) left (around_of outline) → FillsFile left mixed made
  file_filled None (stated, is) = (stated, tt)
  file_filled (Some file) (stated, is) = (stated, taken_filled file is)

  pub given_filled : {R : Type 0} (left : R → Option (List ℕ)) (i j : Inlet R) → TakesGiven (IsFilling first f) left i j (around_of outline) → FillsGiven left i j mixed made
  given_filled left i j (read, reads, is) = (read, reads, taken_filled read is)

-- ---- what the file holds
holds_recording : (interleaving : Interleaving) (file : List ℕ) (r : Content) → HoldsIn interleaving file r → HoldsRecording file r
holds_recording Bytes file r is = inl is
holds_recording (Blocks order) file r is = inr (order, is)

module _ (mixed : MixedContent) (filled : Filled) (shape : HasShape filled.outline.recording) (stated : AreStated (around_of filled.outline)) (file : List ℕ) (is : IsFilledOf mixed filled file) where
  abbrev outline : Outline
  outline = filled.outline

  -- the recording that the file holds
  abbrev pub filled_recording : Content
  filled_recording = with_sound outline.recording outline.sound is.0

  pub filled_holds : HoldsSome file filled_recording
  filled_holds = outline_holds outline stated file is.0 is.1

  pub filled_outline : IsOutlineOf outline.recording outline.sound.count filled_recording
  filled_outline = record { is_silent = held_silent outline shape stated file is.0 is.1; count_is = sym (held_count outline shape stated file is.0 is.1) }

  rate_is : outline.recording.rate ≡ outline.sound.rate
  rate_is =
      let stands = is.1 in
      let holds = holds_recording outline.sound.interleaving file filled_recording (stated.holds file is.0 stands) in
      (stated.states.has _ filled_recording (subst (λ (xs : List ℕ). HoldsRecording xs filled_recording) stands.file_is holds)).rate

  measure : FitsFirst mixed filled_recording → HasMeasure mixed outline.sound
  measure fits = record {
    rate = sym rate_is ∙ fits.alike.same_rate;
    number = sym (held_number outline shape stated file is.0 is.1) ∙ fits.alike.as_many_channels;
    long = sym (held_count outline shape stated file is.0 is.1) ∙ fits.long;
  }

  module _ (fits : FitsFirst mixed filled_recording) where
    pub filled_is : filled_recording ≡ with_bits outline.recording filled.channels.items
    filled_is = ap (with_bits outline.recording) (sym (is.2 (measure fits)))

    pub filled_shape : HasShape (with_bits outline.recording filled.channels.items)
    filled_shape = subst HasShape filled_is (held_shape outline shape stated file is.0 is.1)

    pub filled_silent : outline.recording ≡ silent (with_bits outline.recording filled.channels.items)
    filled_silent = held_silent outline shape stated file is.0 is.1 ∙ ap silent filled_is
