use Rattle.std.proofs.Common.{ℕ, List, ◌≡◌, ◌++◌, ◌+◌, ◌∙◌, ap, append_assoc, drop, length, subst, sym, take}
use Rattle.std.proofs.lemmas.List.{drop-drop, take-append-drop, take_at}
use Rattle.dsdarc_c.specs.Joined.{joined_waiting}
use Rattle.dsdarc_c.specs.JoinedWhole.{GaveFirst, PlaysJoinStage}
use Rattle.dsdarc_c.proofs.JoinedLaws.{all_first, fewer_gave}
use Rattle.dsdarc_c.proofs.joined_pulling.pull_joined.Goals as goal
use Rattle.dsdarc_c.proofs.joined_pulling.pull_joined.Goals.{After-copy_from_slice}

-- what waits is what is taken and what waits then
parted : (n k : ℕ) (xs ys more : List ℕ) → ys ≡ take n (drop k xs) → length ys ≡ n → drop k xs ≡ take n (ys ++ more) ++ drop (k + n) xs
parted n k xs ys more is long = sym (take-append-drop n (drop k xs)) ∙ ap (λ l. l ++ drop n (drop k xs)) (sym is ∙ sym (take_at ys more n long)) ∙ ap (λ l. take n (ys ++ more) ++ l) (drop-drop n k xs)

-- the bytes that are taken
first : (c : After-copy_from_slice) → c.copy_from_slice.new.self ≡ take c.min-count.result (joined_waiting c.args.p.now)
first c =
    let whole = c.split_at.ensures.back ∙ ap (drop c.args.p.now.pulled) c.deref.ensures.value in
    c.copy_from_slice.ensures.after ∙ c.split_at-2.ensures.front ∙ ap (take c.min-count.result) whole

long : (c : After-copy_from_slice) → length c.copy_from_slice.new.self ≡ c.min-count.result
long c = ap length c.copy_from_slice.ensures.after ∙ c.split_at-2.ensures.front_len

left : (c : After-copy_from_slice) → joined_waiting c.args.p.now ≡ take c.min-count.result (c.copy_from_slice.new.self ++ c.split_at_mut-to.result.1.now) ++ drop (c.args.p.now.pulled + c.min-count.result) c.args.p.now.pending.items
left c = parted c.min-count.result c.args.p.now.pulled c.args.p.now.pending.items c.copy_from_slice.new.self c.split_at_mut-to.result.1.now (first c) (long c)

moved : (c : After-copy_from_slice) (pulled : List ℕ) → pulled ++ joined_waiting c.args.p.now ≡ (pulled ++ take c.min-count.result (c.copy_from_slice.new.self ++ c.split_at_mut-to.result.1.now)) ++ drop (c.args.p.now.pulled + c.min-count.result) c.args.p.now.pending.items
moved c pulled = ap (λ l. pulled ++ l) (left c) ∙ sym (append_assoc pulled _ _)

pub returns-clause-plays : goal.returns-clause-plays
returns-clause-plays c way before file pulled plays =
    let p = c.args.p.now in
    let all = moved (goal.at.returns-clause-plays c).After-copy_from_slice pulled in
    record { bits = plays.bits; plays = plays.plays; stage = subst (PlaysJoinStage way p.stage (before ++ plays.bits)) all plays.stage }

pub returns-clause-prefix : goal.returns-clause-prefix
returns-clause-prefix c way before file pulled plays =
    let p = c.args.p.now in
    let all = moved (goal.at.returns-clause-prefix c).After-copy_from_slice pulled in
    let whole = all_first way before file pulled p c.requires plays in
    fewer_gave way before file _ _ (subst (GaveFirst way before file) all whole)
