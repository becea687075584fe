-- Chunks that were kept and written are kept again.
use Rattle.std.proofs.Common.{◌≡◌, Bool, true, false, cond, not, List, [], ◌∷◌, All, map, filter, get_or, refl, sym, ap, ◌∙◌}
use Rattle.std.specs.Prelude.{◌||◌}
use Rattle.std.specs.List.{AllByRecursion}
use Rattle.std.proofs.lemmas.List.Elements.{All-filter, filter_passes}
use Rattle.chunk_core.specs.Chunks.{Chunk}
use Rattle.dsd_bits.specs.declared.marks.Place.{Place}
use Rattle.dsd_bits.specs.declared.marks.Place.TheVariants.{Property, Master, Form}
use Rattle.dsd_bits.specs.Contents.{OtherContent}
use Rattle.dsd_bits.specs.Shape.{same_place, at_place, has_part}
use Rattle.dsdiff_core.specs.Others.{other_in, kept}
use Rattle.dsdiff_core.specs.Writing.{other_chunk}

-- neither of two tests passes
pub or_left : (a b : Bool) → (a || b) ≡ false → a ≡ false
or_left true b h = h
or_left false b h = refl

pub or_right : (a b : Bool) → (a || b) ≡ false → b ≡ false
or_right true b h = cc
or_right false b h = h

-- a test on places says whether they are the same
same_place-true : (a b : Place) → same_place a b ≡ true → a ≡ b
same_place-true Property Property h = refl
same_place-true Property Master h = cc
same_place-true Property Form h = cc
same_place-true Master Property h = cc
same_place-true Master Master h = refl
same_place-true Master Form h = cc
same_place-true Form Property h = cc
same_place-true Form Master h = cc
same_place-true Form Form h = refl

-- a chunk that is kept at a place
pub record IsKeptAt (place : Place) (o : OtherContent) : Type 0 where
  pub place_is : o.place ≡ place
  pub no_part : has_part place o.id o.bytes ≡ false

-- the chunks of a place are kept there
pub stand_there : (place : Place) (others : List OtherContent) → All (λ o. has_part o.place o.id o.bytes ≡ false) others → All (IsKeptAt place) (at_place place others)
stand_there place others h k d lt =
    let test : OtherContent → Bool = λ o. same_place o.place place in
    let here = same_place-true _ place (filter_passes test others k d lt) in
    let free = All-filter test (λ o. has_part o.place o.id o.bytes ≡ false) others h k d lt in
    let o = get_or (at_place place others) k d in
    record { place_is = here; no_part = ap (λ p. has_part p o.id o.bytes) (sym here) ∙ free }

-- a test that only parts of the recording pass finds no other chunk
pub none_found : (p : Chunk → Bool) (place : Place) (os : List OtherContent) → ((o : OtherContent) → has_part place o.id o.bytes ≡ false → p (other_chunk o) ≡ false)
    → AllByRecursion (IsKeptAt place) os → filter p (map other_chunk os) ≡ []
none_found p place [] fails h = refl
none_found p place (o ∷ os) fails h = ap (λ b. cond b (other_chunk o ∷ filter p (map other_chunk os)) (filter p (map other_chunk os))) (fails o h.0.no_part) ∙ none_found p place os fails h.1

-- they are kept as they were
pub kept_again : (place : Place) (os : List OtherContent) → AllByRecursion (IsKeptAt place) os → kept place (map other_chunk os) ≡ os
kept_again place [] h = refl
kept_again place (o ∷ os) h =
    let rest : List Chunk = filter (λ c. not (has_part place c.id c.content)) (map other_chunk os) in
    let back = sym h.0.place_is in
    ap (λ b. map (other_in place) (cond (not b) (other_chunk o ∷ rest) rest)) h.0.no_part
    ∙ (λ i. record { place = back i; id = o.id; bytes = o.bytes } ∷ kept_again place os h.1 i)
