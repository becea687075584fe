-- The bytes after a sound, by the format's own reading.
use Rattle.std.proofs.Common.{◌≡◌, ℕ, ◌≤◌, ◌↔◌, true, false, List, [], ◌++◌, length, take, Option, Some, None, refl, sym, subst, ap, ◌∙◌, arith, append_assoc, length-append, length-take-le}
use Rattle.std.proofs.lemmas.List.{take-append-le}
use Rattle.std.specs.Io.KnownBytes.{IsAtEnd}
use Rattle.dsd_bits.specs.declared.blocks.BitOrder.{BitOrder}
use Rattle.dsd_bits.specs.declared.interleaving.Interleaving.{Interleaving}
use Rattle.dsd_bits.specs.declared.interleaving.Interleaving.TheVariants.{Bytes, Blocks}
use Rattle.dsd_bits.specs.declared.sound.Sound.{Sound}
use Rattle.dsd_bits.specs.declared.sound.SoundAt.TheVariants.{Found}
use Rattle.dsd_bits.specs.Contents.{Content}
use Rattle.dsd_bits.specs.Ids.{DSD, same_id}
use Rattle.dsd_bits.specs.Sounds.{has_blocks}
use Rattle.dsdiff_core.specs.Fields.{form_size}
use Rattle.dsdiff_core.specs.Files.{IsDsdiff}
use Rattle.dsdiff_core.specs.Headers as dsdiff
use Rattle.dsdiff_core.specs.Kinds.{FRM8}
use Rattle.dsdiff_core.proofs.HeadLaws.{ends_at_head}
use Rattle.dsdiff_core.proofs.FormEnds.{form_ends}
use Rattle.dsdiff_core.proofs.HeaderEnds as form
use Rattle.dsdiff_core.proofs.LeadLaws.{number_prefix}
use Rattle.dsdiff_core.proofs.WalkLaws as form_walk
use Rattle.dsf_core.specs.Headers as dsf
use Rattle.dsf_core.proofs.HeaderLaws as blocks
use Rattle.dsf_core.proofs.HeaderLaws.{found_leads}
use Rattle.sound_core.specs.Files.{IsHeaderOf, StatesSoundAs, LeadsToSound}
use Rattle.sound_core.proofs.HeadLaws.{IsFound, found_stated, stated_found}

-- ---- the head, up to the sound
pub ends_at : (prefix : List ℕ) (s : Sound) → LeadsToSound prefix s → IsHeaderOf (take s.start prefix) s
ends_at prefix s states = record { leads = found_stated s.interleaving (take s.start prefix) s (by s.interleaving (stated_found s.interleaving prefix s states.leads)); start = sym (length-take-le s.start prefix states.within) }
  where
    by : (o : Interleaving) → IsFound o prefix s → IsFound o (take s.start prefix) s
    by Bytes e = form.ends_prefix prefix s e
    by (Blocks order) e = blocks.ends_prefix prefix s e

-- ---- where nothing is left
-- where nothing is left, nothing follows
pub nothing_left : (o : Option (List ℕ)) (rest : List ℕ) → IsAtEnd o → o ≡ Some rest → rest ≡ []
nothing_left None rest end known = absurd cc
nothing_left (Some xs) rest end known = let same : xs ≡ rest = cc in sym same ∙ end

pub apart : FRM8 ≡ DSD → ⊥
apart e = let differs : false ≡ true = ap (λ id. same_id id DSD) e in absurd cc

pub has_order : (o : Interleaving) → has_blocks o ≡ true → (order : BitOrder) × (o ≡ Blocks order)
has_order Bytes some = absurd cc
has_order (Blocks order) some = (order, refl)

pub no_order : (o : Interleaving) → has_blocks o ≡ false → o ≡ Bytes
no_order Bytes none = refl
no_order (Blocks order) none = absurd cc

-- ---- a DSF file
module _ (head : List ℕ) (s : Sound) (at : IsHeaderOf head s) (order : BitOrder) (stated : s.interleaving ≡ Blocks order) where
  pub leads : dsf.sound_at head ≡ Found s
  leads = stated_found (Blocks order) head s (subst (λ o. StatesSoundAs o head s) stated at.leads)

  pub ends : dsf.EndsAtSound head
  ends = (s, leads, at.start)

  -- no DSDIFF file begins so
  pub no_form : (rest : List ℕ) (r : Content) → IsDsdiff (head ++ rest) r → ⊥
  no_form rest r is =
      let lead = found_leads head s leads in
      let id : take 4 (head ++ rest) ≡ DSD = take-append-le 4 head rest (omega (arith, lead.holds.fields)) ∙ lead.heads.first in
      apart (sym is.form ∙ id)

-- ---- a DSDIFF file
module _ (head : List ℕ) (s : Sound) (at : IsHeaderOf head s) (stated : s.interleaving ≡ Bytes) where
  pub found : dsdiff.sound_at head ≡ Found s
  found = stated_found Bytes head s (subst (λ o. StatesSoundAs o head s) stated at.leads)

  pub form_ends_at : dsdiff.EndsAt head s
  form_ends_at = record { found = found; start = at.start }

  joined : (sound back rest : List ℕ) → (head ++ (sound ++ back)) ++ rest ≡ head ++ (sound ++ (back ++ rest))
  joined sound back rest = append_assoc head (sound ++ back) rest ∙ ap (λ xs. head ++ xs) (append_assoc sound back rest)

  pub same_form : (sound back rest : List ℕ) (r : Content) → length sound ≡ s.size → dsdiff.left_after head s.size ≤ length back → IsDsdiff (head ++ (sound ++ back)) r ↔ IsDsdiff (head ++ (sound ++ (back ++ rest))) r
  same_form sound back rest r long enough =
      let file = head ++ (sound ++ back) in
      let least : 28 ≤ length head = form_walk.long head (ends_at_head head s form_ends_at).0 in
      let size : form_size file ≡ form_size head = number_prefix 8 4 head (sound ++ back) (omega (arith, least)) in
      let law = form_ends file rest r (omega (arith, size, enough, long, length-append head (sound ++ back), length-append sound back)) in
      (λ is. subst (λ f. IsDsdiff f r) (joined sound back rest) (law.0 is), λ is. law.1 (subst (λ f. IsDsdiff f r) (sym (joined sound back rest)) is))
