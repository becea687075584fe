use Rattle.std.proofs.Common.{rules, nat_le, sym, subst}
use Rattle.std.proofs.lemmas.Fn.{always_returns_same}
use Rattle.clip_core.proofs.PointLaws.{AreAround, IsLineAt, IsParted, between, ended, free, is_parted, parted, started}
use Rattle.clip_core.proofs.lines.line_at.Goals as goal
use Rattle.clip_core.proofs.lines.line_at.Goals.{After-partition_point-next, After-split_at, Joined-last, in-Some-Some, in-Some-None, in-None-Some, in-None-None}

found : (c : After-partition_point-next) → IsParted c.args.points.now c.args.k c.partition_point-next.result
found c =
    let points = c.args.points.now in
    let point = c.partition_point-next.ensures.partitioned (λ p. nat_le p.place c.args.k) (always_returns_same _ _ _ (λ a r f k. search rules)) (parted points c.args.k c.requires.points.rising) in
    is_parted points c.args.k c.partition_point-next.result c.partition_point-next.ensures.bound point

around : (c : After-split_at) → AreAround c.args.points.now c.args.k c.partition_point-next.result c.split_at.result.0.now c.split_at.result.1.now
around c =
    let halves = c.split_at.ensures in
    record {
      parts = found (goal.at.After-split_at c).After-partition_point-next;
      long = halves.front_len;
      rest = halves.back_len;
      same = halves.by_index.1;
      tail = halves.by_index.2;
    }

chosen : (c : Joined-last) → IsLineAt c.args.points.now c.args.k c.match-last.result.0 c.match-last.result.1.0
chosen c =
    let points = c.args.points.now in
    let k = c.args.k in
    let fine = c.requires.points in
    let below = c.requires.place in
    let n = c.partition_point-next.result in
    let before = c.split_at.result.0.now in
    let after = c.split_at.result.1.now in
    let all = around (goal.at.Joined-last c).After-split_at in
    elim c.match-last.branch [
      | in-Some-Some w ↦ subst (λ r. IsLineAt points k r.0 r.1.0) (sym w.result-is) (between points fine k n below before after all w.in-Some-Some.from.now w.in-Some-Some.to.now w.in-Some-Some.ensures.value w.in-Some-Some.ensures'.value)
      | in-Some-None w ↦ subst (λ r. IsLineAt points k r.0 r.1.0) (sym w.result-is) (ended points fine k n below before after all w.in-Some-None.last.now w.in-Some-None.ensures.value w.in-Some-None.ensures'.value)
      | in-None-Some w ↦ subst (λ r. IsLineAt points k r.0 r.1.0) (sym w.result-is) (started points fine k n below before after all w.in-None-Some.first.now w.in-None-Some.ensures.value w.in-None-Some.ensures'.value)
      | in-None-None w ↦ subst (λ r. IsLineAt points k r.0 r.1.0) (sym w.result-is) (free points fine k n below before after all w.in-None-None.ensures.value w.in-None-None.ensures'.value)
    ]

pub invariant_of-result : goal.invariant_of-result
invariant_of-result c = record { limits = (chosen c).limits }

pub returns-clause-place : goal.returns-clause-place
returns-clause-place c = let line = chosen (goal.at.returns-clause-place c).Joined-last in record { begun = line.begun; not_ended = line.not_ended }

pub returns-clause-gains : goal.returns-clause-gains
returns-clause-gains c k on = (chosen (goal.at.returns-clause-gains c).Joined-last).gains k on.begun on.not_ended
