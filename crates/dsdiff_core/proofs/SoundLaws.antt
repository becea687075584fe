-- The sound, in both directions.
use Rattle.std.proofs.Common.{◌≡◌, ℕ, ◌*◌, ◌/◌, ◌%◌, ◌^◌, ◌≤◌, Bool, true, false, cond, eqb, ltb, not, List, length, map, Option, Some, None, Result, Ok, Err, refl, subst}
use Rattle.std.proofs.lemmas.Bool.{ltb-false, le-ltb, eqb-true}
use Rattle.std.specs.Prelude.{find}
use Rattle.chunk_core.specs.declared.layout.Span.{Span}
use Rattle.chunk_core.specs.Places.{span_chunk}
use Rattle.chunk_core.specs.Steps.{◌>>=◌}
use Rattle.chunk_core.proofs.Steps.{guard_ok}
use Rattle.dsd_bits.specs.Ids.{DSD}
use Rattle.dsdiff_core.specs.declared.fault.DsdiffFault.{DsdiffFault}
use Rattle.dsdiff_core.specs.declared.fault.DsdiffFault.TheVariants as faults
use Rattle.dsdiff_core.specs.Headers.{frames_fit}
use Rattle.dsdiff_core.specs.Sounds.{stated_count, sound_leads, bytes_of_sound}
use Rattle.dsdiff_core.specs.Spans.{span_has}
use Rattle.dsdiff_core.proofs.Steps.{not_false}

-- whole frames of sound after the property
pub record IsSound (leads : Bool) (bytes : List ℕ) (number : ℕ) : Type 0 where
  pub after : leads ≡ false
  pub whole : length bytes % number ≡ 0
  pub not_long : 8 * (length bytes / number) ≤ 2 ^ 36

pub sound_ok : (leads : Bool) (o : Option (List ℕ)) (n : ℕ) (x : List ℕ) → bytes_of_sound leads o n ≡ Ok x → (o ≡ Some x) × IsSound leads x n
sound_ok leads None n x e = absurd cc
sound_ok leads (Some bytes) n x e =
    let a = guard_ok _ _ _ _ e in
    let b = guard_ok _ _ _ _ a.1 in
    let c = guard_ok _ _ _ _ b.1 in
    let same : bytes ≡ x = cc (c.1) in
    subst (λ (y : List ℕ). (Some bytes ≡ Some y) × IsSound leads y n) same (refl, record { after = a.0; whole = eqb-true _ _ (not_false _ b.0); not_long = ltb-false _ _ c.0 })

pub sound_again : (leads : Bool) (bytes : List ℕ) (n : ℕ) → IsSound leads bytes n → bytes_of_sound leads (Some bytes) n ≡ Ok bytes
sound_again leads bytes n s = rw (s.after, s.whole, le-ltb (2 ^ 36) (8 * (length bytes / n)) s.not_long) refl

-- the count of the sound that is found after the property
abbrev counts : ℕ → Result ℕ DsdiffFault
counts n = Ok n

counted : (bytes : List ℕ) (size n : ℕ) → length bytes ≡ size → (bytes_of_sound false (Some bytes) n >>= λ (sound : List ℕ). counts (8 * (length sound / n))) ≡ (frames_fit size n >>= λ (u : Unit {0}). counts (8 * (size / n)))
counted bytes size n e =
    subst (λ (k : ℕ). (bytes_of_sound false (Some bytes) n >>= λ (sound : List ℕ). counts (8 * (length sound / n))) ≡ (frames_fit k n >>= λ (u : Unit {0}). counts (8 * (k / n)))) e (by (not (eqb (length bytes % n) 0)) (ltb (2 ^ 36) (8 * (length bytes / n))))
  where
    by : (a b : Bool) → (cond a (Err (faults.PartFrame (length bytes) n)) (cond b (Err (faults.TooLong (length bytes) n)) (Ok bytes)) >>= λ (sound : List ℕ). counts (8 * (length sound / n))) ≡ (cond a (Err (faults.PartFrame (length bytes) n)) (cond b (Err (faults.TooLong (length bytes) n)) (Ok tt)) >>= λ (u : Unit {0}). counts (8 * (length bytes / n)))
    by true b = refl
    by false true = refl
    by false false = refl

pub count_is : (file : List ℕ) (top : List Span) (n : ℕ) (s : Span) → find (span_has DSD) top ≡ Some s → sound_leads (map (span_chunk file) top) ≡ false → length (span_chunk file s).content ≡ s.size
    → stated_count file top n ≡ (frames_fit s.size n >>= λ (u : Unit {0}). counts (8 * (s.size / n)))
count_is file top n s found after size = rw (found, after) (counted (span_chunk file s).content s.size n size)
