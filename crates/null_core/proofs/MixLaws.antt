-- Laws of parts that are added one after the other.
use Rattle.std.proofs.Common.{◌≡◌, ℕ, ◌+◌, ◌<◌, ◌≤◌, ◌^◌, ℤ, pos, ◌+ℤ◌, unsigned_abs, List, [], ◌∷◌, ◌++◌, length, map, take, drop, get_or, refl, sym, ◌∙◌, ap, subst, arith, if◌then◌else◌}
use Rattle.std.proofs.Math.IntN.{+ℤ_idl, +ℤ_idr, +ℤ_assoc}
use Rattle.std.proofs.lemmas.List.{ext_get_or, map_push, take-append-le, take_more, take_all}
use Rattle.std.proofs.lemmas.List.FromFn.{get_or-map-range_with_len, length-map-range_with_len}
use Rattle.std.proofs.lemmas.List.Elements.{All-take}
use Rattle.std.proofs.lemmas.List.Sums.{sum_by-take-le}
use Rattle.clip_core.specs.Mixes.{total}
use Rattle.null_core.specs.Mixing.{AreFewParts, IsPartAdded, mixes_from}
use Rattle.null_core.specs.Parts.{IsPart, PartContent, added, has_place, mix_at}
use Rattle.null_core.proofs.SmallLaws.{mix_small}

total_push : (xs : List ℤ) (x : ℤ) → total (xs ++ x ∷ []) ≡ total xs +ℤ x
total_push [] x = +ℤ_idr x ∙ sym (+ℤ_idl x)
total_push (y ∷ ys) x = ap (λ z. y +ℤ z) (total_push ys x) ∙ sym (+ℤ_assoc y (total ys) x)

mix_push : (parts : List PartContent) (p : PartContent) (m : ℕ) → mix_at (parts ++ p ∷ []) m ≡ mix_at parts m +ℤ added m p
mix_push parts p m = ap total (map_push (added m) parts p) ∙ total_push (map (added m) parts) (added m p)

-- the numbers are the mix of the first parts
pub record IsMixOf (parts : List PartContent) (j from number : ℕ) (mixed : List ℤ) : Type 0 where
  pub long : length mixed ≡ number
  pub each : (i : ℕ) → i < number → get_or mixed i (pos 0) ≡ mix_at (take j parts) (from + i)

pub one_more_mixed : (parts : List PartContent) (j from number : ℕ) (old new : List ℤ) (p : PartContent) → j < length parts → p ≡ get_or parts j p → IsPartAdded p from old new → IsMixOf parts j from number old → IsMixOf parts (j + 1) from number new
one_more_mixed parts j from number old new p there is adds sofar = record {
  long = adds.long ∙ sofar.long;
  each = λ i inside.
      adds.each i (omega (arith, inside, sofar.long)) ∙ ap (λ z. z +ℤ added (from + i) p) (sofar.each i inside)
      ∙ sym (mix_push (take j parts) p (from + i))
      ∙ ap (λ ps. mix_at ps (from + i)) (ap (λ q. take j parts ++ q ∷ []) is ∙ sym (take_more parts j p there));
}

module _ (parts : List PartContent) (few : AreFewParts parts) (from number : ℕ) (mixed : List ℤ) where
  -- at most 64 parts are at a place, so the mix is small
  mix_bound : (j m : ℕ) → unsigned_abs (mix_at (take j parts) m) ≤ 2 ^ 60
  mix_bound j m = omega (arith, mix_small (take j parts) (All-take IsPart j parts few.each_fits) m, sum_by-take-le (λ p. if has_place m p then 1 else 0) parts j, few.apart m)

  pub mixed_small : (j : ℕ) → IsMixOf parts j from number mixed → (i : ℕ) → i < length mixed → unsigned_abs (get_or mixed i (pos 0)) ≤ 2 ^ 60
  mixed_small j sofar i inside = subst (λ (z : ℤ). unsigned_abs z ≤ 2 ^ 60) (sym (sofar.each i (omega (arith, inside, sofar.long)))) (mix_bound j (from + i))

  pub all_mixed : (j : ℕ) → length parts ≤ j → IsMixOf parts j from number mixed → mixed ≡ mixes_from parts from number
  all_mixed j past sofar = ext_get_or (pos 0) mixed (mixes_from parts from number) (sofar.long ∙ sym (length-map-range_with_len (mix_at parts) from number))
      (λ i inside. let below : i < number = omega (arith, inside, sofar.long) in
      sofar.each i below ∙ ap (λ ps. mix_at ps (from + i)) (take_all j parts past) ∙ sym (get_or-map-range_with_len (mix_at parts) from number i (from + i) (pos 0) below refl))

-- what was written back to a list as long
pub written_back : (n : ℕ) (xs ys : List ℤ) → n ≡ length ys → length xs ≡ length ys → take n (xs ++ drop (length xs) ys) ≡ xs
written_back n xs ys long same =
    take-append-le n xs (drop (length xs) ys) (omega (arith, long, same)) ∙ take_all n xs (omega (arith, long, same))
