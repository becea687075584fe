use Rattle.std.proofs.Common.{◌≡◌, ℕ, ◌+◌, ◌<◌, ◌∷◌, [], ◌++◌, zero, suc, sym, ap, subst, ◌∙◌, arith}
use Rattle.std.specs.List.{range_with_len}
use Rattle.std.proofs.lemmas.List.FromFn.{get_or-range_with_len, length-range_with_len}
use Rattle.speaker_core.specs.Reordering.{NamesChannels}
use Rattle.speaker_core.proofs.speakers.in_place.Goals as goal

one_more : (a n : ℕ) → range_with_len a (suc n) ≡ range_with_len a n ++ (a + n) ∷ []
one_more a zero = let same : a ≡ a + zero = omega arith in ap (λ m. m ∷ []) same
one_more a (suc n) = let same : a + 1 + n ≡ a + suc n = omega arith in ap (λ l. a ∷ l) (one_more (a + 1) n ∙ ap (λ m. range_with_len (a + 1) n ++ m ∷ []) same)

own_order : (n : ℕ) → NamesChannels (range_with_len 0 n)
own_order n k d within =
    let few : k < n = omega (arith, within, length-range_with_len 0 n) in
    omega (arith, get_or-range_with_len 0 n k d few, few, length-range_with_len 0 n)

pub loop-c-preserved : goal.loop-c-preserved
loop-c-preserved c =
    let n = c.loop-c.c in
    let next : n + 1 ≡ suc n = omega arith in
    let last : 0 + n ≡ n = omega arith in
    c.in_ok-push.ensures.items ∙ ap (λ l. l ++ n ∷ []) c.loop-c.invariant ∙ ap (λ m. range_with_len 0 n ++ m ∷ []) (sym last) ∙ sym (one_more 0 n) ∙ ap (range_with_len 0) (sym next)

pub returns-clause-channels : goal.returns-clause-channels
returns-clause-channels c = subst NamesChannels (sym c.loop-c.invariant) (own_order c.loop-c.c)
