-- What a walk over the prefix of a file comes to.
use Rattle.std.proofs.Common.{◌≡◌, ℕ, ◌+◌, ◌≤◌, ◌<◌, Bool, true, false, cond, ltb, not, List, ◌++◌, length, take, drop, Option, Some, None, Result, Ok, Err, refl, sym, ap, ◌∙◌, arith}
use Rattle.std.proofs.lemmas.Bool.{le-ltb}
use Rattle.std.proofs.lemmas.List.{length-append}
use Rattle.chunk_core.specs.Steps.{◌>>=◌}
use Rattle.dsd_bits.specs.declared.sound.Sound.{Sound}
use Rattle.dsd_bits.specs.declared.sound.SoundAt.TheVariants.{More, Refused}
use Rattle.dsd_bits.specs.Ids.{same_id, DSD}
use Rattle.dsdiff_core.specs.declared.fault.DsdiffFault.{DsdiffFault}
use Rattle.dsdiff_core.specs.declared.fault.DsdiffFault.TheVariants as faults
use Rattle.dsdiff_core.specs.declared.locating.Located.{Located}
use Rattle.dsdiff_core.specs.declared.locating.Located.TheVariants as answers
use Rattle.dsdiff_core.specs.Fields.{form_end, form_size}
use Rattle.dsdiff_core.specs.Forms.{cut_form, form_end_in, top_of}
use Rattle.dsdiff_core.specs.Headers.{as_sound_at, form_of, sound_head_place, seek, sound_at, sound_with_head, sound_from, sound_in}
use Rattle.dsdiff_core.specs.Kinds.{FRM8}
use Rattle.dsdiff_core.specs.Reading.{recording_of}
use Rattle.dsdiff_core.specs.Walks.{IsLocated, IsStatedAt, without_fault}
use Rattle.dsdiff_core.proofs.HeaderEnds.{form_prefix}
use Rattle.dsdiff_core.proofs.HeaderLaws.{sought_of}
use Rattle.dsdiff_core.proofs.HeaderSteps.{long_prefix, short_prefix}
use Rattle.dsdiff_core.proofs.HeadLaws.{head_cut}

-- ---- what is stated of the sound, by where its head is sought
abbrev Place : Type 0
Place = Result (Option ℕ) DsdiffFault

sound_by : (prefix : List ℕ) (place : Place) → sound_head_place prefix ≡ place → sound_at prefix ≡ as_sound_at (place >>= λ at. sound_from prefix at)
unfolding sound_in
sound_by prefix place e = ap (λ (p : Place). as_sound_at (p >>= λ at. sound_from prefix at)) e

pub short_more : (prefix : List ℕ) → length prefix < 16 → sound_at prefix ≡ More
short_more prefix short = sound_by prefix (Ok None) (short_prefix prefix short)

abbrev form_then : List ℕ → Result (Unit {0}) DsdiffFault → Place
form_then prefix r = r >>= λ form. seek prefix

pub sought_is : (prefix : List ℕ) (place : Place) → 16 ≤ length prefix → form_of prefix ≡ Ok tt → seek prefix ≡ place → sound_head_place prefix ≡ place
sought_is prefix place long form sought = long_prefix prefix long ∙ ap (form_then prefix) form ∙ sought

pub form_refuses : (prefix : List ℕ) (e : DsdiffFault) → 16 ≤ length prefix → form_of prefix ≡ Err e → sound_at prefix ≡ Refused
form_refuses prefix e long form = sound_by prefix (Err e) (long_prefix prefix long ∙ ap (form_then prefix) form)

pub more_is : (prefix : List ℕ) → 16 ≤ length prefix → form_of prefix ≡ Ok tt → seek prefix ≡ Ok None → sound_at prefix ≡ More
more_is prefix long form sought = sound_by prefix (Ok None) (sought_is prefix (Ok None) long form sought)

pub lost_is : (prefix : List ℕ) (e : DsdiffFault) → 16 ≤ length prefix → form_of prefix ≡ Ok tt → seek prefix ≡ Err e → sound_at prefix ≡ Refused
lost_is prefix e long form sought = sound_by prefix (Err e) (sought_is prefix (Err e) long form sought)

abbrev stated_by : Result Sound DsdiffFault → Result (Option Sound) DsdiffFault
stated_by r = r >>= λ s. Ok (Some s)

module _ (prefix : List ℕ) (at : ℕ) (long : 16 ≤ length prefix) (form : form_of prefix ≡ Ok tt) (sought : seek prefix ≡ Ok (Some at)) where
  after_is : (stated : Result Sound DsdiffFault) → sound_with_head prefix at ≡ stated → sound_at prefix ≡ as_sound_at (stated_by stated)
  after_is stated e = sound_by prefix (Ok (Some at)) (sought_is prefix (Ok (Some at)) long form sought) ∙ ap (λ (r : Result Sound DsdiffFault). as_sound_at (stated_by r)) e

  pub stated_exact : (x : Located) → IsStatedAt (sound_with_head prefix at) at x → without_fault x ≡ sound_at prefix
  stated_exact (answers.Found s) h = sym (after_is (Ok s) h)
  stated_exact (answers.More place) h = absurd h
  stated_exact (answers.Refused e) h = absurd h
  stated_exact (answers.Unstated place) h = sym (after_is (Err h.1.0) h.1.1)
  stated_exact (answers.PastForm place) h = absurd h
  stated_exact answers.NoSound h = absurd h

  pub stated_located : (x : Located) → IsStatedAt (sound_with_head prefix at) at x → IsLocated prefix x
  stated_located (answers.Found s) h = after_is (Ok s) h
  stated_located (answers.More place) h = absurd h
  stated_located (answers.Refused e) h = absurd h
  stated_located (answers.Unstated place) h = rw h.0 ((sought_of prefix at sought).whole, head_cut prefix at form sought)
  stated_located (answers.PastForm place) h = absurd h
  stated_located answers.NoSound h = absurd h

-- ---- a form that doesn't begin is refused, whatever follows
abbrev err_in : (A : Type 0) → DsdiffFault → Result A DsdiffFault
err_in A e = Err e

err_same : (A B : Type 0) (d e : DsdiffFault) → err_in A d ≡ err_in A e → err_in B d ≡ err_in B e
err_same A B d e h = let same : d ≡ e = cc (h) in ap (err_in B) same

end_by : (a b c d : Bool) (n : ℕ) (small cut e : DsdiffFault) → cond (not a) (Err faults.NotDsdiff) (cond (not b) (Err faults.NotDsdiff) (cond c (Err small) (Ok tt))) ≡ err_in (Unit {0}) e
    → cond (not a) (Err faults.NotDsdiff) (cond (not b) (Err faults.NotDsdiff) (cond c (Err small) (cond d (Err cut) (Ok n)))) ≡ err_in ℕ e
end_by false b c d n small cut e h = err_same (Unit {0}) ℕ faults.NotDsdiff e h
end_by true false c d n small cut e h = err_same (Unit {0}) ℕ faults.NotDsdiff e h
end_by true true true d n small cut e h = err_same (Unit {0}) ℕ small e h
end_by true true false d n small cut e h = absurd cc

end_refused : (file : List ℕ) (e : DsdiffFault) → 16 ≤ length file → form_of file ≡ Err e → form_end_in file ≡ Err e
unfolding form_of form_end_in
end_refused file e long form =
    rw (le-ltb (length file) 16 long)
    (end_by (same_id (take 4 file) FRM8) (same_id (take 4 (drop 12 file)) DSD) (ltb (form_size file) 4) (ltb (length file + 1) (12 + form_size file)) (form_end file) (faults.FormCut (form_size file) 0) (cut_form (form_size file) (length file)) e form)

pub end_is_read : (file : List ℕ) (e : DsdiffFault) → form_end_in file ≡ Err e → recording_of file ≡ Err e
unfolding recording_of top_of
end_is_read file e h = rw h refl

pub form_refused : (prefix rest : List ℕ) (e : DsdiffFault) → 16 ≤ length prefix → form_of prefix ≡ Err e → recording_of (prefix ++ rest) ≡ Err e
form_refused prefix rest e long form = end_is_read (prefix ++ rest) e (end_refused (prefix ++ rest) e (omega (arith, long, length-append prefix rest)) (form_prefix prefix rest long ∙ form))
