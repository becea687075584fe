use Rattle.std.proofs.Common.{List, ℕ, ◌≡◌, ◌+◌, ◌*◌, ◌/◌, ◌<◌, ◌∙◌, ◌++◌, [], ◌∷◌, ap, arith, drop, length, length-set, min, subst, sym, take}
use Rattle.std.proofs.lemmas.Int.{ints}
use Rattle.std.proofs.lemmas.List.{drop-drop, drop-set-lt, take_more_set}
use Rattle.dsdarc_c.specs.Numbers.{AreSamplesIn, AreWholeSamples, first_samples}
use Rattle.dsdarc_c.specs.Whole.{IsPrefixOfFrames, PlaysStageOf, waiting}
use Rattle.dsdarc_c.proofs.NumberLaws.{kept, more_samples, parted_at}
use Rattle.dsdarc_c.specs.Pushing.{AreWholeFrames}
use Rattle.dsdarc_c.proofs.WaitingLaws.{left_whole, samples_whole}
use Rattle.dsdarc_c.proofs.WholeLaws.{fewer_first, prefix_of}
use Rattle.dsdarc_c.proofs.samples.pull_numbers.Goals as goal

pub loop-place-preserved : goal.loop-place-preserved
loop-place-preserved c =
    let l = c.loop-place in
    let r = c.number_at.result in
    let size = c.if-width-eq16.size in
    let left = c.split_at.result.1.now in
    let same : kept r ≡ r = omega (arith, ints) in
    let inside : l.place < length l.out = omega arith in
    let more = more_samples (size * 8) size l.place left (take l.place l.out) r l.invariant.1 c.number_at.ensures.in_range c.number_at.ensures.written in
    let given = take_more_set l.out l.place (kept r) inside ∙ ap (λ z. take l.place l.out ++ (z ∷ [])) same in
    let others = drop-set-lt (l.place + 1) l.out l.place (kept r) (omega arith) ∙ sym (drop-drop 1 l.place l.out) in (
      omega (arith, length-set l.out l.place (kept r)),
      subst (AreSamplesIn (size * 8) (take ((l.place + 1) * size) left)) (sym given) more,
      others ∙ ap (drop 1) l.invariant.2 ∙ drop-drop 1 l.place c.args.out.now,
    )

pub returns-clause-plays : goal.returns-clause-plays
returns-clause-plays c file start pulled plays =
    let p = c.args.p.now in
    let n = c.min-count.result in
    let size : p.taps.width / 8 ≡ c.if-width-eq16.size = grind arith in
    let all = parted_at (n * (p.taps.width / 8)) p.pulled pulled p.pending.items ∙ ap (λ s. (pulled ++ first_samples p n) ++ drop (p.pulled + n * s) p.pending.items) size in
    record { stage = subst (λ out. PlaysStageOf p.taps file start out p.header.items p.place p.stage) all plays.stage }

pub returns-clause-prefix : goal.returns-clause-prefix
returns-clause-prefix c file start pulled plays =
    let p = c.args.p.now in
    let n = c.min-count.result * (p.taps.width / 8) in
    let first = prefix_of p.taps file start (pulled ++ waiting p) p.header.items p.place p.stage c.requires.stage plays.stage in
    fewer_first p.taps file start (pulled ++ first_samples p c.min-count.result) (drop (p.pulled + n) p.pending.items) (subst (IsPrefixOfFrames p.taps file start) (parted_at n p.pulled pulled p.pending.items) first)

pub returns-clause-whole : goal.returns-clause-whole
returns-clause-whole c waits fits =
    let p = c.args.p.now in
    let size : p.taps.width / 8 ≡ c.if-width-eq16.size = grind arith in
    let both = samples_whole p.taps p.stated (length c.args.out.now) (length (waiting p)) c.if-width-eq16.size (omega arith) size fits waits in
    let left = ap (λ (xs : List ℕ). length xs / c.if-width-eq16.size) (c.split_at.ensures.back ∙ ap (drop p.pulled) c.deref.ensures.value) in
    let count : min (length c.args.out.now) (length (waiting p) / c.if-width-eq16.size) ≡ c.min-count.result = omega (arith, c.min-count.ensures, left) in
    let given = subst (AreWholeSamples p.stated) count both.0 in
    let bytes = subst (λ n. AreWholeFrames p.taps p.stated (n * c.if-width-eq16.size)) count both.1 in
    (given, left_whole p (c.min-count.result * c.if-width-eq16.size) waits bytes)
