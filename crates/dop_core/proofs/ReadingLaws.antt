-- What bytes that were read of a file say of it.
use Rattle.std.proofs.Common.{◌≡◌, ℕ, ◌+◌, ◌<◌, ◌≤◌, Bool, true, false, List, [], ◌++◌, length, Option, None, Some, IfSome, IfErr, IsErrAnd, Result, Ok, Err, append-nil, append_assoc, refl, sym, ap, subst, ◌∙◌, length-append, arith}
use Rattle.std.specs.Io.KnownBytes.{IsAtEnd}
use Rattle.std.proofs.KnownBytes.{Consumes-trans}
use Rattle.std.proofs.lemmas.Bool.{le-ltb, lt-ltb}
use Rattle.chunk_core.specs.Inlets.{PullsBytes, inlet_reader}
use Rattle.chunk_core.specs.Numbers.{id_at}
use Rattle.chunk_core.specs.declared.inlet.Inlet.{Inlet}
use Rattle.dsd_bits.specs.Ids.{same_id}
use Rattle.dop_core.specs.declared.fault.DopFault.{DopFault}
use Rattle.dop_core.specs.declared.fault.DopFault.TheVariants.{NoData, NotWave}
use Rattle.dop_core.specs.declared.stop.DopStop.{DopStop}
use Rattle.dop_core.specs.declared.stop.DopStop.TheVariants as stops
use Rattle.dop_core.specs.Fields.{DATA, chunk_from, is_wave, next_of}
use Rattle.dop_core.specs.Fronts.{IsFront}
use Rattle.dop_core.specs.Pieces.{HoldsMore, IfRefused, IsOutside, NamesAfter}
use Rattle.dop_core.specs.Reading.{data_of, head_of, recording_of}
use Rattle.dop_core.proofs.ChunkLaws.{IsWalking, walk_ends, walk_finds, walk_on}
use Rattle.dop_core.proofs.FrontLaws.{id_in, next_in}

-- ---- what comes later

pub if_end : (P : List ℕ → Type 0) (left : Option (List ℕ)) (read : List ℕ) → IsAtEnd left → P read → IfSome left (λ rest. P (read ++ rest))
if_end P None read end p = tt
if_end P (Some rest) read end p = subst P (sym (ap (λ xs. read ++ xs) end ∙ append-nil read)) p

pub if_any : (P : List ℕ → Type 0) (left : Option (List ℕ)) → ((rest : List ℕ) → P rest) → IfSome left P
if_any P None p = tt
if_any P (Some rest) p = p rest

module _ {R : Type 0} (left : R → Option (List ℕ)) where
  -- two readings
  pub pulls_on : (a b c : Inlet R) (xs ys : List ℕ) → PullsBytes left a b xs → PullsBytes left b c ys → PullsBytes left a c (xs ++ ys)
  pulls_on a b c xs ys one two = Consumes-trans (left (inlet_reader a)) (left (inlet_reader b)) (left (inlet_reader c)) xs ys one two

  pub pulls_grown : (a b c : Inlet R) (front more all : List ℕ) → all ≡ front ++ more → PullsBytes left a b front → PullsBytes left b c more → PullsBytes left a c all
  pulls_grown a b c front more all is one two = subst (PullsBytes left a c) (sym is) (pulls_on a b c front more one two)

  -- a fault of bytes that end the file
  pub names_end : (a b : Inlet R) (before read : List ℕ) (e : DopFault) → PullsBytes left a b read → IsAtEnd (left (inlet_reader b)) → recording_of (before ++ read) ≡ Err e → NamesAfter left a b before e
  names_end a b before read e pulled end is = record {
    read = read;
    pulled = pulled;
    now = is;
    later = if_end (λ xs. recording_of (before ++ xs) ≡ Err e) (left (inlet_reader b)) read end is;
  }

  -- a fault of bytes, whatever follows
  pub names_any : (a b : Inlet R) (before read : List ℕ) (e : DopFault) → PullsBytes left a b read → ((rest : List ℕ) → recording_of (before ++ (read ++ rest)) ≡ Err e) → NamesAfter left a b before e
  names_any a b before read e pulled is = record {
    read = read;
    pulled = pulled;
    now = subst (λ xs. recording_of (before ++ xs) ≡ Err e) (append-nil read) (is []);
    later = if_any (λ rest. recording_of (before ++ (read ++ rest)) ≡ Err e) (left (inlet_reader b)) is;
  }

-- ---- a fault from outside

names_none : (f : DopStop) (P : DopFault → Type 0) → IsOutside f → IfRefused f P
names_none (stops.Refused fault) P h = absurd h
names_none stops.ReadFailed P h = tt
names_none stops.WriteFailed P h = tt
names_none stops.Changed P h = tt
names_none stops.Memory P h = tt

pub outside : {X : Type 0} (r : Result X DopStop) (f : DopStop) → IsErrAnd r (λ g. g ≡ f) → IsOutside f → IfErr r IsOutside
outside (Ok x) f same h = absurd same
outside (Err g) f same h = subst IsOutside (sym same) h

pub outside_named : {X : Type 0} (r : Result X DopStop) (f : DopStop) (P : DopFault → Type 0) → IsErrAnd r (λ g. g ≡ f) → IsOutside f → IfErr r (λ stop. IfRefused stop P)
outside_named (Ok x) f P same h = absurd same
outside_named (Err g) f P same h = names_none g P (subst IsOutside (sym same) h)

-- ---- what is held grows by a piece

pub grown : (before held now read more piece : List ℕ) → held ≡ before ++ read → now ≡ held ++ more → more ≡ piece → now ≡ before ++ (read ++ piece)
grown before held now read more piece was is same = is ∙ ap (λ xs. held ++ xs) same ∙ ap (λ xs. xs ++ piece) was ∙ append_assoc before read piece

-- the piece ends the file
pub held_to_end : {R : Type 0} (left : R → Option (List ℕ)) (a b : Inlet R) (before now read : List ℕ) (wanted : ℕ) → PullsBytes left a b read → now ≡ before ++ read → length now < wanted → IsAtEnd (left (inlet_reader b)) → HoldsMore left a b before now wanted false
held_to_end left a b before now read wanted pulled is less end = record {
  read = read;
  pulled = pulled;
  appended = is;
  whole = λ all. absurd cc;
  short = λ part. less;
  at_end = λ part. end;
}

-- no list in memory is that long
pub not_whole : (b : Bool) (n : ℕ) → (b ≡ true → n ≡ 18446744073709551615) → n < 9223372036854775808 → b ≡ false
not_whole true n all few = absurd (omega (arith, all refl, few))
not_whole false n all few = refl

-- ---- the bytes before the first sample

pub wave_in : (front rest : List ℕ) → 12 ≤ length front → is_wave (front ++ rest) ≡ is_wave front
unfolding is_wave
wave_in front rest long = rw (le-ltb (length (front ++ rest)) 12 (omega (arith, long, length-append front rest)), le-ltb (length front) 12 long, id_in 0 front rest (omega (arith, long)), id_in 8 front rest (omega (arith, long))) refl

pub short_wave : (file : List ℕ) → length file < 12 → is_wave file ≡ false
unfolding is_wave
short_wave file short = rw (lt-ltb (length file) 12 short) refl

pub wave_grown : (front more all : List ℕ) → all ≡ front ++ more → 12 ≤ length front → is_wave front ≡ true → is_wave all ≡ true
wave_grown front more all is long wave = ap is_wave is ∙ wave_in front more long ∙ wave

pub not_wave : (file : List ℕ) → is_wave file ≡ false → recording_of file ≡ Err NotWave
unfolding recording_of head_of data_of
not_wave file is = rw is refl

pub no_data : (file : List ℕ) → is_wave file ≡ true → chunk_from DATA file 12 ≡ None → recording_of file ≡ Err NoData
unfolding recording_of head_of data_of
no_data file is none = rw (is, none) refl

pub data_found : (file : List ℕ) (d : ℕ) → is_wave file ≡ true → chunk_from DATA file 12 ≡ Some d → data_of file ≡ Ok d
unfolding data_of
data_found file d is found = rw (is, found) refl

-- no data chunk begins before this place, in any file that begins with these bytes
abbrev pub Walks : List ℕ → ℕ → Type 0
Walks front at = (rest : List ℕ) → IsWalking DATA (front ++ rest) 12 at

pub walk_more : (front more : List ℕ) (at : ℕ) → Walks front at → Walks (front ++ more) at
walk_more front more at w = λ rest. subst (λ file. IsWalking DATA file 12 at) (sym (append_assoc front more rest)) (w (more ++ rest))

pub walk_grown : (front more all : List ℕ) (at : ℕ) → all ≡ front ++ more → Walks front at → Walks all at
walk_grown front more all at is w = subst (λ xs. Walks xs at) (sym is) (walk_more front more at w)

pub walk_next : (front : List ℕ) (at : ℕ) → at + 8 ≤ length front → same_id (id_at front at) DATA ≡ false → Walks front at → Walks front (next_of front at)
walk_next front at inside other w = λ rest.
    let in_file : at + 8 ≤ length (front ++ rest) = omega (arith, inside, length-append front rest) in
    subst (IsWalking DATA (front ++ rest) 12) (next_in at front rest inside) (walk_on DATA (front ++ rest) at 12 (w rest) in_file (ap (λ xs. same_id xs DATA) (id_in at front rest (omega (arith, inside))) ∙ other))

pub walk_none : (front : List ℕ) (at : ℕ) → length front < at + 8 → Walks front at → is_wave front ≡ true → recording_of front ≡ Err NoData
walk_none front at short w wave =
    let all : front ++ [] ≡ front = append-nil front in
    no_data front wave (sym (walk_ends DATA front at 12 (subst (λ file. IsWalking DATA file 12 at) all (w [])) short))

pub walk_found : (front : List ℕ) (at : ℕ) → length front ≡ at + 8 → same_id (id_at front at) DATA ≡ true → Walks front at → is_wave front ≡ true → IsFront front
walk_found front at long same w wave = record {
  place = at;
  long = long;
  found = λ rest.
      let in_file : at + 8 ≤ length (front ++ rest) = omega (arith, long, length-append front rest) in
      data_found (front ++ rest) at (wave_in front rest (omega (arith, long, (w []).after)) ∙ wave) (sym (walk_finds DATA (front ++ rest) at 12 (w rest) in_file (ap (λ xs. same_id xs DATA) (id_in at front rest (omega (arith, long))) ∙ same)));
}
