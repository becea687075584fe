-- Bytes that state no sound yet.
use Rattle.std.proofs.Common.{◌≡◌, ℕ, ◌+◌, ◌<◌, ◌≤◌, inl, inr, List, [], ◌++◌, length, take, refl, sym, subst, ap, ◌∙◌, arith, append_assoc}
use Rattle.std.proofs.lemmas.Bool.{cases_lt}
use Rattle.std.proofs.lemmas.List.{take-append-le, take_all}
use Rattle.dsd_bits.specs.declared.interleaving.Interleaving.{Interleaving}
use Rattle.dsd_bits.specs.declared.interleaving.Interleaving.TheVariants.{Bytes, Blocks}
use Rattle.dsd_bits.specs.declared.sound.Sound.{Sound}
use Rattle.dsd_bits.specs.declared.sound.SoundAt.{SoundAt}
use Rattle.dsd_bits.specs.declared.sound.SoundAt.TheVariants.{More, Refused, Found}
use Rattle.dsd_bits.specs.Sounds.{IfMore}
use Rattle.dsdiff_core.specs.Headers as dsdiff
use Rattle.dsdiff_core.specs.Walks.{without_fault}
use Rattle.dsdiff_core.proofs.SeekLoop.{walked_first}
use Rattle.dsdiff_core.specs.declared.locating.Located.{Located}
use Rattle.dsdiff_core.specs.declared.locating.Located.TheVariants as answers
use Rattle.dsf_core.specs.Headers as dsf
use Rattle.dsf_core.proofs.HeaderLaws as blocks
use Rattle.sound_core.specs.Files.{HoldsSomeRecording, IsBeforeSound, IsHeaderOf, IsRefused, LeadsToSound}
use Rattle.sound_core.proofs.ClosingLaws.{ends_at}
use Rattle.sound_core.proofs.HeadLaws.{IsFound, dsf_more, other_head, stated_found}
use Rattle.sound_core.proofs.NamingLaws.{form_before, form_more}
use Rattle.sound_core.proofs.StatedLaws.{dsf_wanted, one_sound, stated_once, states_at}
use Rattle.dsdarc_c.specs.Pushing.{IsHeaderSoFar, IsUnstated}

-- ---- by the DSDIFF reading
pub form_unstated : (prefix : List ℕ) → More ≡ dsdiff.sound_at prefix → IsUnstated prefix
form_unstated prefix is = record { none = λ s states. none s s.interleaving (stated_found s.interleaving prefix s states.leads); refused = form_more prefix More is; before = form_before prefix More is }
  where
    none : (s : Sound) (o : Interleaving) → IsFound o prefix s → ⊥
    none s Bytes found = (let both : More ≡ Found s = is ∙ found in absurd cc)
    none s (Blocks order) found =
        let l = blocks.found_leads prefix s found in
        let refused : More ≡ Refused = is ∙ other_head prefix (omega (arith, l.holds.fields)) l.heads.first in
        absurd cc

-- an answer that neither has the sound nor wants more bytes
pub form_refused : (prefix : List ℕ) (x : Located) → without_fault x ≡ dsdiff.sound_at prefix → ((s : Sound) → x ≡ answers.Found s → ⊥) → ((at : ℕ) → x ≡ answers.More at → ⊥) → dsdiff.sound_at prefix ≡ Refused
form_refused prefix (answers.Found s) is found more = absurd (found s refl)
form_refused prefix (answers.More at) is found more = absurd (more at refl)
form_refused prefix x is found more = sym is

-- no bytes at all
no_bytes : More ≡ dsdiff.sound_at []
unfolding dsdiff.sound_in dsdiff.sound_head_place
no_bytes = refl

pub before_first : IsHeaderSoFar [] 0 16
before_first = record { place_is = refl; few = omega arith; unstated = form_unstated [] no_bytes; so_far = walked_first [] }

-- ---- by the DSF reading, where the DSDIFF reading refuses
pub blocks_unstated : (prefix : List ℕ) → dsdiff.sound_at prefix ≡ Refused → ((rest : List ℕ) → dsdiff.IsAccepted (prefix ++ rest) → ⊥) → (x : SoundAt) → x ≡ dsf.sound_at prefix → IfMore x (dsf.HoldsHead prefix → ⊥) → IfMore x (IsUnstated prefix)
blocks_unstated prefix no_sound no_form x is more = by x is (dsf_more prefix no_form x is more) (dsf_wanted prefix no_form x more)
  where
    none : (s : Sound) (o : Interleaving) → More ≡ dsf.sound_at prefix → IsFound o prefix s → ⊥
    none s Bytes is found = (let both : Refused ≡ Found s = sym no_sound ∙ found in absurd cc)
    none s (Blocks order) is found = (let both : More ≡ Found s = is ∙ found in absurd cc)

    by : (x : SoundAt) → x ≡ dsf.sound_at prefix → IfMore x (IsRefused prefix) → IfMore x (IsBeforeSound prefix) → IfMore x (IsUnstated prefix)
    by Refused is refused before = tt
    by (Found s) is refused before = tt
    by More is refused before = record { none = λ s states. none s s.interleaving is (stated_found s.interleaving prefix s states.leads); refused = refused; before = before }

-- ---- more bytes
-- the sound that is stated with more bytes comes after more bytes than there were
pub some_taken : (header piece : List ℕ) (s : Sound) → IsUnstated header → LeadsToSound (header ++ piece) s → length header ≤ s.start → length header + 1 ≤ s.start
some_taken header piece s unstated states far = elim (cases_lt (length header) s.start) [
  | inl more ↦ omega (arith, more)
  | inr least ↦ (
      let start : s.start ≡ length header = omega (arith, least, far) in
      let short : take s.start (header ++ piece) ≡ header = ap (λ n. take n (header ++ piece)) start ∙ take-append-le (length header) header piece (omega arith) ∙ all header in
      absurd (unstated.none s (states_at header s (subst (λ xs. IsHeaderOf xs s) short (ends_at (header ++ piece) s states)))))
]
  where
    all : (xs : List ℕ) → take (length xs) xs ≡ xs
    all xs = take_all (length xs) xs (omega arith)

-- where the sound that is stated with more bytes starts before, no recording begins so
pub none_begins : (header piece : List ℕ) (s : Sound) → IsUnstated header → LeadsToSound (header ++ piece) s → s.start < length header → (rest : List ℕ) → IsRefused ((header ++ piece) ++ rest)
none_begins header piece s unstated states before rest r holds =
    let one = one_sound ((header ++ piece) ++ rest) (r, holds) in
    let same : one.0 ≡ s = stated_once (header ++ piece) rest s one.0 states one.1 in
    let parted : (header ++ piece) ++ rest ≡ header ++ (piece ++ rest) = append_assoc header piece rest in
    let after = unstated.before (piece ++ rest) one.0 (subst HoldsSomeRecording parted (r, holds)) (subst (λ xs. LeadsToSound xs one.0) parted one.1) in
    omega (arith, after, before, ap (λ (t : Sound). t.start) same)
