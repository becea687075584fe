-- To which residuals a channel nulls, by its stretches.
use Rattle.std.proofs.Common.{ℕ, ◌≤◌, Bool, List, [], ◌∷◌, All, get_or, subst, arith}
use Rattle.std.proofs.lemmas.List.Elements.{All-cons, All-get_or, All-head, All-nil, All-tail}
use Rattle.std.proofs.lemmas.Option.{get_or_from_slice_get, slice_get_within}
use Rattle.null_core.specs.declared.stretch.Stretch.{Stretch}
use Rattle.null_core.specs.Judged.{Nulls}
use Rattle.null_core.specs.Laws.{GreatestIsLeast, StretchesTellNulls}
use Rattle.null_core.specs.Parts.{AskedContent}
use Rattle.null_core.specs.Stretches.{AreStretches, IsStretch, greatest_residual}

abbrev IsAtMost : ℕ → Stretch → Type 0
IsAtMost most s = s.residual ≤ most

-- a stretch's residual is that of one of its places
each_at_most : (a : AskedContent) (bits : List Bool) (ss : List Stretch) (most : ℕ) → AreStretches a bits ss → Nulls a bits most → All (IsAtMost most) ss
each_at_most a bits ss most are nulls = λ k d lt.
    let greatest = (are.each k d lt).greatest in
    omega (arith, greatest.size, nulls (get_or ss k d).place greatest.judged.judged)

-- each judged place is in a stretch
nulls_by_each : (a : AskedContent) (bits : List Bool) (ss : List Stretch) (most : ℕ) → AreStretches a bits ss → All (IsAtMost most) ss → Nulls a bits most
nulls_by_each a bits ss most are small = λ n judged.
    let in' = are.all n judged judged.inside in
    let s = in'.1 in
    let there = slice_get_within ss in'.0 s in'.2 in
    let same = get_or_from_slice_get ss in'.0 s s in'.2 in
    let is : IsStretch a bits s = subst (IsStretch a bits) same (All-get_or (IsStretch a bits) ss in'.0 s there are.each) in
    let low : s.residual ≤ most = subst (IsAtMost most) same (All-get_or (IsAtMost most) ss in'.0 s there small) in
    omega (arith, is.greatest.most n (record { judged = judged; from = in'.3; to = in'.4 }), low)

pub stretches_tell_nulls : StretchesTellNulls
stretches_tell_nulls a bits ss most are = (each_at_most a bits ss most are, nulls_by_each a bits ss most are)

-- ---- the greatest of all

greatest_at_most : (ss : List Stretch) (most : ℕ) → All (IsAtMost most) ss → greatest_residual ss ≤ most
greatest_at_most [] most small = omega arith
greatest_at_most (s ∷ ss) most small = omega (arith, All-head (IsAtMost most) s ss small, greatest_at_most ss most (All-tail (IsAtMost most) s ss small))

at_most_greatest : (ss : List Stretch) (most : ℕ) → greatest_residual ss ≤ most → All (IsAtMost most) ss
at_most_greatest [] most le = All-nil (IsAtMost most)
at_most_greatest (s ∷ ss) most le = All-cons (IsAtMost most) s ss (omega (arith, le)) (at_most_greatest ss most (omega (arith, le)))

pub greatest_is_least : GreatestIsLeast
greatest_is_least a bits ss most are = (λ nulls. greatest_at_most ss most (each_at_most a bits ss most are nulls), λ le. nulls_by_each a bits ss most are (at_most_greatest ss most le))
