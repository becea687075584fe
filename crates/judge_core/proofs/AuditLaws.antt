-- What is found of a sound that comes, and of all of it.
use Rattle.std.proofs.Common.{◌≡◌, ℕ, ◌+◌, ◌-◌, ◌<◌, ◌≤◌, inl, inr, Bool, List, [], ◌++◌, length, get_or, set, replicate, Option, None, Some, refl, sym, ap, subst, ◌∙◌, arith}
use Rattle.std.specs.List.{range_with_len}
use Rattle.std.proofs.lemmas.Bool.{cases_lt}
use Rattle.std.proofs.lemmas.List.{get_or-replicate, get_or-set_other, get_or-set_same, length-replicate, length-set}
use Rattle.std.proofs.lemmas.Simd.{map-map}
use Rattle.chunk_core.specs.declared.inlet.Inlet.{Inlet}
use Rattle.dsd_bits.specs.declared.sound.Sound.{Sound}
use Rattle.dsd_bits.specs.declared.stretches.BitRange.{BitRange}
use Rattle.dsd_bits.specs.Channels.{count_of}
use Rattle.dsd_bits.specs.Contents.{Content}
use Rattle.dsd_bits.specs.Shape.{HasShape}
use Rattle.dsd_bits.specs.Sounds.{sound_channels, sound_size}
use Rattle.dsd_bits.specs.Stretches.{stretch_of, stretches_of}
use Rattle.form_core.specs.declared.form.Form.{Form}
use Rattle.interleave_core.proofs.JoinLaws.{Appended, taken}
use Rattle.cut_core.specs.Cuts.{AreAlike, CutContent, master_length, take_channels}
use Rattle.judge_core.specs.declared.finding.CuedPlace.{CuedPlace}
use Rattle.cut_core.specs.Masters.{HaveShape}
use Rattle.judge_core.specs.Comparing.{FindsOff}
use Rattle.judge_core.specs.Kept.{FindsCued, IsFoundOf, FindAllOff, bridges_kept}
use Rattle.sound_core.specs.Keepers.{Keeps}
use Rattle.sound_core.specs.Outlines.{AreStated, IsPlacedIn, around_of, with_sound}
use Rattle.sound_core.specs.Sinks.{IsTakenOf, TakesFile, TakesGiven}
use Rattle.sound_core.specs.Stretches.{items_of}
use Rattle.sound_core.specs.declared.outline.Outline.{Outline}
use Rattle.sound_core.specs.declared.part.SoundPart.{SoundPart}
use Rattle.sound_core.proofs.HeldLaws.{held_count, held_number, held_shape, held_silent}
use Rattle.sound_core.proofs.KeeperLaws.{channel_bits, from_whole, no_size, same_stretches}
use Rattle.judge_core.specs.Auditing.{AreParts, Audits, AuditsFile, AuditsGiven, HasMeasure, IsAuditOf, IsAuditing, FindMoreOff, bridge_range, bridge_ranges, found_in}
use Rattle.judge_core.specs.declared.auditing.Audited.{Audited}
use Rattle.judge_core.specs.declared.auditor.Auditor.{Auditor}

-- ---- before the first byte
pub audits_none : (cut : CutContent) (s : Sound) (ranges : List BitRange) (stretches : List (List (List Bool))) (firsts : List (Option ℕ)) → Keeps s ranges 0 stretches [] → firsts ≡ replicate (take_channels cut) None → Audits cut s ranges 0 stretches firsts []
audits_none cut s ranges stretches firsts keeps is = record {
  keeps = keeps;
  number = ap length is ∙ length-replicate (take_channels cut) None;
  states = λ measure c there.
      let none : get_or firsts c None ≡ None = ap (λ (l : List (Option ℕ)). get_or l c None) is ∙ get_or-replicate (take_channels cut) c None None there in
      let z = get_or (sound_channels s.interleaving s.channels 0 []) c [] in
      let long : length z ≡ 0 = channel_bits s.interleaving s.channels 0 [] c keeps.is_sound.some_channel (λ e. refl) (sym (no_size s.interleaving s.channels)) (omega (arith, there, measure.number)) in
      subst (FindsOff cut c z) (sym none) (λ p off. absurd (omega (arith, off.0, long)));
}

-- ---- channel by channel
-- of the first channels it is stated with the parts after them, and of the others as it was
pub record AuditedUpTo (cut : CutContent) (done : ℕ) (parts : List (List Bool)) (old now : List (Option ℕ)) (n : ℕ) : Type 0 where
  pub number : length now ≡ length old
  pub later : (c : ℕ) → n ≤ c → get_or now c None ≡ get_or old c None
  pub stated : (c : ℕ) → c < n → (before : List Bool) → length before ≡ done → FindsOff cut c before (get_or old c None) → FindsOff cut c (before ++ get_or parts c []) (get_or now c None)

pub stated_next : (cut : CutContent) (done : ℕ) (parts : List (List Bool)) (old now : List (Option ℕ)) (n : ℕ) (first : Option ℕ) → AuditedUpTo cut done parts old now n → n < length now
    → ((before : List Bool) → length before ≡ done → FindsOff cut n before (get_or now n None) → FindsOff cut n (before ++ get_or parts n []) first) → AuditedUpTo cut done parts old (set now n first) (n + 1)
stated_next cut done parts old now n first so_far low states = record {
  number = length-set now n first ∙ so_far.number;
  later = λ c h. get_or-set_other now n c first None (λ same. omega (arith, h, same)) ∙ so_far.later c (omega (arith, h));
  stated = λ c h before long off. elim (cases_lt c n) [
    | inl less ↦ subst (FindsOff cut c (before ++ get_or parts c [])) (sym (get_or-set_other now n c first None (λ same. omega (arith, less, same)))) (so_far.stated c less before long off)
    | inr at ↦ (
        let same : c ≡ n = omega (arith, h, at) in
        let here : FindsOff cut n before (get_or now n None) = subst (FindsOff cut n before) (sym (so_far.later n (omega arith))) (subst (λ k. FindsOff cut k before (get_or old k None)) same off) in
        subst (λ k. FindsOff cut k (before ++ get_or parts k []) (get_or (set now n first) k None)) (sym same) (subst (FindsOff cut n (before ++ get_or parts n [])) (sym (get_or-set_same now n first None low)) (states before long here)))
  ];
}

pub stated_all : (cut : CutContent) (done : ℕ) (parts : List (List Bool)) (old now : List (Option ℕ)) (n : ℕ) → AuditedUpTo cut done parts old now n → take_channels cut ≤ n → FindMoreOff cut done parts old now
stated_all cut done parts old now n so_far enough = record { number = so_far.number; states = λ c there. so_far.stated c (omega (arith, there, enough)) }

-- ---- one part more
module _ (cut : CutContent) (part : SoundPart) (ranges : List BitRange) (stretches : List (List (List Bool))) (firsts : List (Option ℕ)) (before bytes : List ℕ)
    (audits : Audits cut part.sound ranges part.done stretches firsts before) (size : length bytes ≡ sound_size part.sound.interleaving part.sound.channels part.bits) where
  abbrev s : Sound
  s = part.sound

  abbrev parts : List (List Bool)
  parts = sound_channels s.interleaving s.channels part.bits bytes

  joined : Appended (sound_channels s.interleaving s.channels (part.done + part.bits) (before ++ bytes)) (sound_channels s.interleaving s.channels part.done before) parts s.channels part.done
  joined = taken s.interleaving s.channels part.done part.bits before bytes (audits.keeps.groups (omega (arith, part.within, part.some))) audits.keeps.size size

  pub are_parts : HasMeasure cut s → AreParts cut part.done parts
  are_parts measure = record {
    number = joined.more_long ∙ measure.number;
    inside = λ c there.
        let whole = from_whole part ranges stretches before bytes audits.keeps size in
        let long = channel_bits s.interleaving s.channels part.bits bytes c audits.keeps.is_sound.some_channel whole size (omega (arith, there, measure.number)) in
        omega (arith, long, part.within, measure.long);
  }

  pub audits_more : (kept : List (List (List Bool))) → Keeps s ranges (part.done + part.bits) kept (before ++ bytes) → HasMeasure cut s → (next : List (Option ℕ)) → FindMoreOff cut part.done parts firsts next → Audits cut s ranges (part.done + part.bits) kept next (before ++ bytes)
  audits_more kept keeps measure next states = record {
    keeps = keeps;
    number = states.number ∙ audits.number;
    states = λ own c there.
        let low : c < s.channels = omega (arith, there, measure.number) in
        let first = get_or next c None in
        let stated = states.states c there (get_or (sound_channels s.interleaving s.channels part.done before) c []) (joined.bits c low) (audits.states measure c there) in
        subst (λ z. FindsOff cut c z first) (sym (joined.each c low)) stated;
  }

-- ---- all of it
-- the stretches of the bridges are their bits
pub bridges_are : (cut : CutContent) (zs : List (List Bool)) → stretches_of zs (bridge_ranges cut) ≡ bridges_kept cut zs
bridges_are cut zs = map-map (stretch_of zs) (bridge_range cut) (range_with_len 0 (length cut.splice.cues - 1))

-- an auditor that took a whole sound
module _ (first a : Auditor) (outline : Outline) (cut : CutContent) (own : first.cut.now ≡ cut) (ranges_are : first.keeper.ranges.now ≡ bridge_ranges cut)
    (shape : HasShape outline.recording) (differs : Option CuedPlace) (lowest : (r : Content) → HaveShape cut r.channels → FindAllOff cut r.channels a.firsts.items → FindsCued cut r differs) where
  abbrev made : Audited
  made = record { outline = outline; differs = differs; kept = a.keeper.stretches }

  abbrev t : Sound
  t = outline.sound

  module _ (stated : AreStated (around_of outline)) (file sound : List ℕ) (stands : IsPlacedIn (around_of outline) file sound) (is : IsAuditing first a t t.count sound) where
    abbrev held : Content
    held = with_sound outline.recording t sound

    own_shape : HasShape held
    own_shape = held_shape outline shape stated file sound stands

    measure : AreAlike cut.first held → count_of held.channels ≡ master_length cut.splice.cues → HasMeasure cut t
    measure alike long = record { number = sym (held_number outline shape stated file sound stands) ∙ alike.as_many_channels; long = sym (held_count outline shape stated file sound stands) ∙ long }

    have_shape : AreAlike cut.first held → count_of held.channels ≡ master_length cut.splice.cues → HaveShape cut held.channels
    have_shape alike long = record { as_many = alike.as_many_channels; long = λ k d lt. own_shape.level.same k d lt ∙ long }

    own_audits : Audits cut t a.keeper.ranges.now t.count (items_of a.keeper.stretches.items) a.firsts.items sound
    own_audits = subst (λ k. Audits k t a.keeper.ranges.now t.count (items_of a.keeper.stretches.items) a.firsts.items sound) (is.same ∙ own) is.audits

    found : (form : Form) → IsFoundOf cut (found_in form made) held
    found form = record {
      shaped = own_shape;
      recording_is = held_silent outline shape stated file sound stands;
      count_is = sym (held_count outline shape stated file sound stands);
      cued = λ alike long. lowest held (have_shape alike long) (own_audits.states (measure alike long));
      kept = λ alike long.
          same_stretches (sound_channels t.interleaving t.channels t.count sound) a.keeper.ranges.now (items_of a.keeper.stretches.items) is.audits.keeps.kept
          ∙ ap (stretches_of held.channels) (is.ranges ∙ ranges_are) ∙ bridges_are cut held.channels;
    }

  taken_audit : AreStated (around_of outline) → (file : List ℕ) → IsTakenOf (IsAuditing first a) (around_of outline) file → IsAuditOf cut made file
  taken_audit stated file (sound, stands, is) = (sound, stands, found stated file sound stands is)

  pub file_audited : (left : Option (List ℕ)) → TakesFile (IsAuditing first a) left (around_of outline) → AuditsFile left cut made
  file_audited None (stated, h) = (stated, tt)
  file_audited (Some file) (stated, h) = (stated, taken_audit stated file h)

  pub given_audited : {R : Type 0} (left : R → Option (List ℕ)) (i j : Inlet R) → AreStated (around_of outline) → TakesGiven (IsAuditing first a) left i j (around_of outline) → AuditsGiven left i j cut made
  given_audited left i j stated (read, reads, h) = (read, reads, taken_audit stated read h)
