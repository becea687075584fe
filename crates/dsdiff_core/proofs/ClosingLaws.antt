-- What surrounds a sound decides whether the file is accepted, and states the rest of it.
use Rattle.std.proofs.Common.{◌≡◌, ◌↔◌, ℕ, Bool, true, false, List, [], ◌++◌, is_some, length, replicate, Option, Some, None, Result, Ok, Err, refl, sym, ap, subst, ◌∙◌}
use Rattle.std.specs.Result.{result_ok}
use Rattle.std.proofs.lemmas.List.{length-replicate}
use Rattle.std.proofs.lemmas.List.FromFn.{length-map-range_with_len}
use Rattle.chunk_core.specs.Steps.{◌>>=◌}
use Rattle.dsd_bits.specs.declared.sound.Sound.{Sound}
use Rattle.dsd_bits.specs.declared.sound.SoundAt.TheVariants.{Found}
use Rattle.dsd_bits.specs.Contents.{Content, Described, with_channels}
use Rattle.dsd_bits.specs.Lacing.{unlaced, unlaced_all}
use Rattle.dsdiff_core.specs.declared.fault.DsdiffFault.{DsdiffFault}
use Rattle.dsdiff_core.specs.Files.{IsDsdiff}
use Rattle.dsdiff_core.specs.Headers.{EndsAt, IsAccepted}
use Rattle.dsdiff_core.specs.Located.{stated_size}
use Rattle.dsdiff_core.specs.Outlines.{StatesOutline}
use Rattle.dsdiff_core.specs.SoundBytes.{description_of, with_zeros}
use Rattle.dsdiff_core.proofs.DescribedLaws.{accepts, described_alike, read_by, refuses, with_bits}
use Rattle.dsdiff_core.proofs.FileLaws.{is_dsdiff, parts_ok}
use Rattle.dsdiff_core.proofs.HeaderLaws.{if_found}
use Rattle.dsdiff_core.proofs.HeadLaws.{ends_at_head}

-- a file is accepted where it is described
decided : (file : List ℕ) (r : Result Described DsdiffFault) (b : Bool) → description_of file ≡ r → b ≡ is_some (result_ok r) → (b ≡ true) ↔ IsAccepted file
decided file (Ok d) b e is = (λ yes. accepts file d e, λ accepted. is)
decided file (Err f) b e is = (λ yes. (let both : true ≡ false = sym yes ∙ is in absurd cc), λ accepted. absurd (refuses file f e accepted))

pub decides : (prefix back : List ℕ) (s : Sound) (b : Bool) → EndsAt prefix s → b ≡ is_some (result_ok (description_of (with_zeros prefix back))) → (b ≡ true) ↔ IsAccepted (prefix ++ (replicate s.size 0 ++ back))
decides prefix back s b e is = subst (λ (n : ℕ). (b ≡ true) ↔ IsAccepted (prefix ++ (replicate n 0 ++ back))) (sym (ends_at_head prefix s e).1) (decided (with_zeros prefix back) (description_of (with_zeros prefix back)) b refl is)

-- the outline of what is described
abbrev pub outline_stated : Option Described → Option Content
outline_stated None = None
outline_stated (Some d) = Some (with_channels d (replicate (length d.ids) []))

pub long_zeros : (n : ℕ) → length (replicate {A = ℕ} n 0) ≡ n
long_zeros n = length-replicate {A = ℕ} n 0

outlined : (prefix back : List ℕ) (s : Sound) (r : Result Described DsdiffFault) → EndsAt prefix s → description_of (with_zeros prefix back) ≡ r → StatesOutline prefix s back (outline_stated (result_ok r))
outlined prefix back s (Err f) e is = λ sound long accepted.
    let p = ends_at_head prefix s e in
    refuses (prefix ++ (sound ++ back)) f (described_alike prefix (replicate (stated_size prefix) 0) back p.0 (long_zeros (stated_size prefix)) sound (long ∙ p.1) ∙ is) accepted
outlined prefix back s (Ok d) e is =
    let p = ends_at_head prefix s e in
    let holds : (sound : List ℕ) → length sound ≡ s.size → IsDsdiff (prefix ++ (sound ++ back)) (with_channels d (unlaced_all sound (length d.ids))) = λ sound long.
    (let read = read_by prefix (replicate (stated_size prefix) 0) back p.0 (long_zeros (stated_size prefix)) sound (long ∙ p.1) ∙ ap (λ (r : Result Described DsdiffFault). r >>= with_bits sound) is in
    is_dsdiff (prefix ++ (sound ++ back)) (with_channels d (unlaced_all sound (length d.ids))) (parts_ok (prefix ++ (sound ++ back)) (with_channels d (unlaced_all sound (length d.ids))) read)) in
    let zeros : List ℕ = replicate (stated_size prefix) 0 in
    let has = (if_found prefix (Found s) (sym e.found)) (zeros ++ back) (with_channels d (unlaced_all zeros (length d.ids))) (holds zeros (long_zeros (stated_size prefix) ∙ sym p.1)) in
    let number : length d.ids ≡ s.channels = sym (length-map-range_with_len (unlaced zeros (length d.ids)) 0 (length d.ids)) ∙ has.number in
    (ap (λ (n : ℕ). replicate n []) number, λ sound long. subst (λ (n : ℕ). IsDsdiff (prefix ++ (sound ++ back)) (with_channels d (unlaced_all sound n))) number (holds sound long))

pub outlines : (prefix back : List ℕ) (s : Sound) (o : Option Described) → EndsAt prefix s → o ≡ result_ok (description_of (with_zeros prefix back)) → StatesOutline prefix s back (outline_stated o)
outlines prefix back s o e is = subst (λ (x : Option Described). StatesOutline prefix s back (outline_stated x)) (sym is) (outlined prefix back s (description_of (with_zeros prefix back)) e refl)
