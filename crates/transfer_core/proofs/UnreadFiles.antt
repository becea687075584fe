-- What is played of two files that differ only in bytes which no frame reads.
use Rattle.std.proofs.Common.{◌≡◌, ℕ, ◌+◌, ◌%◌, ◌/◌, ◌<◌, ◌≤◌, inl, inr, List, ◌++◌, length, drop, slice_index, Result, Ok, refl, sym, ap, subst, ◌∙◌, arith}
use Rattle.std.proofs.lemmas.Bool.{cases_lt}
use Rattle.std.proofs.lemmas.List.{get_or-drop, get_or-take, get_or_past}
use Rattle.dsd_bits.specs.declared.sound.Sound.{Sound}
use Rattle.dsd_bits.specs.Sounds.{sound_bytes}
use Rattle.fir_core.specs.Decimator.{Decimator}
use Rattle.player_core.specs.Groups.{place_in}
use Rattle.player_core.specs.declared.range.WaveRange.{WaveRange}
use Rattle.request_core.proofs.ProjectLaws.{says_decimator}
use Rattle.request_core.specs.Projects.{SaysDecimator}
use Rattle.request_core.specs.declared.fault.Fault.{Fault}
use Rattle.wave_core.specs.Heads.{text_in}
use Rattle.transfer_core.specs.Unread.{AreSameBut, IsOfSound, IsUnreadBy, SoundDoesNotMatter, UnreadDoNotMatter}
use Rattle.transfer_core.proofs.OtherSounds.{around_other, as_recording, first_fault, other_holds, recording_as}
use Rattle.transfer_core.proofs.UnreadLaws.{inside_same, pcm_same, sound_long}

abbrev said : Decimator → Result Decimator Fault
said d = Ok d

pub one_decimator : (project : List ℕ) (d e : Decimator) → SaysDecimator project d → SaysDecimator project e → d ≡ e
one_decimator project d e one other = let same : said d ≡ said e = sym (says_decimator project d one) ∙ says_decimator project e other in cc

-- bytes that lie outside the sound are the same
pub only_sound : (d : Decimator) (s : Sound) (range : WaveRange) (file other : List ℕ) → AreSameBut (IsUnreadBy d s range) file other → AreSameBut (IsOfSound s) file other
only_sound d s range file other same = record { long = same.long; same = λ place none. same.same place (λ unread. none unread.0) }

-- sound bytes by their places in a file
sound_byte : (file : List ℕ) (s : Sound) (p : ℕ) → p < s.size → slice_index (sound_bytes file s) p ≡ slice_index file (s.start + p)
sound_byte file s p low = get_or-take s.size (drop s.start file) p 0 low ∙ get_or-drop s.start file p 0

same_byte : (file other : List ℕ) (s : Sound) (p : ℕ) → s.start + s.size ≤ length file → s.start + s.size ≤ length other → slice_index other (s.start + p) ≡ slice_index file (s.start + p) → slice_index (sound_bytes other s) p ≡ slice_index (sound_bytes file s) p
same_byte file other s p in_file in_other same = elim (cases_lt p s.size) [
  | inl low ↦ sound_byte other s p low ∙ same ∙ sym (sound_byte file s p low)
  | inr past ↦ get_or_past (sound_bytes other s) p 0 (omega (arith, past, sound_long other s in_other)) ∙ sym (get_or_past (sound_bytes file s) p 0 (omega (arith, past, sound_long file s in_file)))
]

pub unread_do_not_matter : UnreadDoNotMatter
unread_do_not_matter project prefix rest other bytes d s range states says same plays =
    let file = prefix ++ rest in
    let twin = prefix ++ other in
    let r = plays.recording in
    let made = other_holds prefix rest other s states (only_sound d s range file twin same) r (recording_as file plays.form r plays.file_holds) in
    let has = states.has rest r (recording_as file plays.form r plays.file_holds) in
    let also = states.has other made.0 made.1 in
    let form = as_recording twin made.0 made.1 in
    let own : d ≡ plays.decimator = one_decimator project d plays.decimator says plays.project_says in
    let unread : AreSameBut (IsUnreadBy plays.decimator s range) file twin = subst (λ e. AreSameBut (IsUnreadBy e s range) file twin) own same in
    let pcm = pcm_same plays.decimator s states.is_sound states.whole file twin r made.0 has also range plays.inside
    (λ j i c frame reads low few.
    let p = place_in s.interleaving s.channels c (i / 8) in
    same_byte file twin s p has.in_file also.in_file (unread.same (s.start + p) (λ none. none.1 (j, i, c, frame, reads, low, few, refl)))) in
    record {
      decimator = plays.decimator;
      form = form.0;
      recording = made.0;
      project_says = plays.project_says;
      file_holds = form.1;
      rate_divided = ap (λ n. n % plays.decimator.factor) (also.rate ∙ sym has.rate) ∙ plays.rate_divided;
      inside = inside_same plays.decimator s states.is_sound states.whole file twin r made.0 has also range plays.inside;
      text = ap (text_in range.head) pcm ∙ plays.text;
    }

pub sound_does_not_matter : SoundDoesNotMatter
sound_does_not_matter = record {
  fault = λ prefix rest other s e states same fails. first_fault prefix rest other s states same e fails;
  around = λ prefix rest other s o states same stated around. around_other prefix rest other s states same o stated around;
}
