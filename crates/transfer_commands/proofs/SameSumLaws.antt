-- The sums of a file, and of bytes that keep its sound.
use Rattle.std.proofs.Common.{◌≡◌, sym, ap, ◌∙◌}
use Rattle.dsd_bits.specs.Channels.{count_of}
use Rattle.dsd_bits.specs.Contents.{Content}
use Rattle.form_core.specs.Opening.{opened_of}
use Rattle.form_core.proofs.OpeningLaws.{held_is_opened}
use Rattle.transfer_core.proofs.ConversionLaws.{same_recording}
use Rattle.transfer_commands.specs.Summing.{AreSameSums, AreSumsOf, KeptSoundHasSameSums, digests_of}
use Rattle.transfer_commands.specs.declared.summing.Sums.{Sums}

-- recordings with the same sound have the same sums
of_sound : (r s : Content) (a b : Sums) → s.rate ≡ r.rate → s.channels ≡ r.channels → AreSumsOf r a → AreSumsOf s b → AreSameSums a b
of_sound r s a b rate channels of to = record {
  rate = of.rate ∙ sym rate ∙ sym to.rate;
  count = of.count ∙ sym (ap count_of channels) ∙ sym to.count;
  digests = of.digests ∙ sym (ap digests_of channels) ∙ sym to.digests;
}

pub kept_sound_has_same_sums : KeptSoundHasSameSums
kept_sound_has_same_sums file form bytes a b kept of to =
    let old : of.recording ≡ kept.before = same_recording (opened_of file) (record { form = of.holds.form; recording = of.recording }) (record { form = kept.source; recording = kept.before }) (held_is_opened file of.holds.form of.recording of.holds.holds) (held_is_opened file kept.source kept.before kept.file_holds) in
    let new : to.recording ≡ kept.after = same_recording (opened_of bytes) (record { form = to.holds.form; recording = to.recording }) (record { form = form; recording = kept.after }) (held_is_opened bytes to.holds.form to.recording to.holds.holds) (held_is_opened bytes form kept.after kept.bytes_hold) in
    of_sound of.recording to.recording a b
    (ap (λ (r : Content). r.rate) new ∙ kept.same_rate ∙ sym (ap (λ (r : Content). r.rate) old))
    (ap (λ (r : Content). r.channels) new ∙ kept.same_channels ∙ sym (ap (λ (r : Content). r.channels) old))
    of.are_sums to.are_sums
