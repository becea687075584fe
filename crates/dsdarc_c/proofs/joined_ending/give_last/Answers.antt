use Rattle.std.proofs.Common.{◌≡◌, ◌∙◌, ◌++◌, ap, drop, subst, sym}
use Rattle.std.proofs.lemmas.List.{drop-append-le}
use Rattle.dsdarc_c.specs.Joined.{joined_waiting}
use Rattle.dsdarc_c.proofs.JoinedLaws.{GaveSoFar, all_given, failed_joined, so_far}
use Rattle.dsdarc_c.proofs.joined_ending.give_last.Goals as goal
use Rattle.dsdarc_c.proofs.joined_ending.give_last.Goals.{In_ok-extend_from_slice}

-- what waits then
waits : (c : In_ok-extend_from_slice) → drop c.args.p.now.pulled c.extend_from_slice.new.self.items ≡ joined_waiting c.args.p.now ++ c.in_ok-finish.ensures.more
waits c =
    let p = c.args.p.now in
    let last = c.as_slice.ensures.value ∙ c.in_ok-finish.ensures.appends ∙ ap (λ xs. xs ++ c.in_ok-finish.ensures.more) c.new-last.ensures.items in
    ap (drop p.pulled) (c.in_ok-extend_from_slice.ensures.items ∙ ap (λ xs. p.pending.items ++ xs) last)
    ∙ drop-append-le p.pulled p.pending.items c.in_ok-finish.ensures.more c.requires.joined.pulled

pub returns-clause-ends : goal.returns-clause-ends
returns-clause-ends c way bytes pulled is has =
    all_given way c.args.giver bytes pulled (joined_waiting c.args.p.now) c.in_ok-finish.ensures.more _ is (waits (goal.at.returns-clause-ends c).In_ok-extend_from_slice) (λ frames long. c.in_ok-finish.ensures.all bytes (pulled ++ joined_waiting c.args.p.now) frames long has)

pub returns-clause-plays : goal.returns-clause-plays
returns-clause-plays c way before file bits pulled own is has = record {
  bits = bits;
  plays = own;
  stage = (is, all_given way c.args.giver (before ++ bits) pulled (joined_waiting c.args.p.now) c.in_ok-finish.ensures.more _ is (waits (goal.at.returns-clause-plays c).In_ok-extend_from_slice) (λ frames long. c.in_ok-finish.ensures.all (before ++ bits) (pulled ++ joined_waiting c.args.p.now) frames long has));
}

pub returns-in_err-finish-clause-plays : goal.returns-in_err-finish-clause-plays
returns-in_err-finish-clause-plays c way before file bits pulled own is has =
    failed_joined way before file pulled c.args.p.now c.requires.stage (so_far way before file bits (pulled ++ joined_waiting c.args.p.now) c.args.giver c.requires.ready own is has)

pub returns-in_err-extend_from_slice-clause-plays : goal.returns-in_err-extend_from_slice-clause-plays
returns-in_err-extend_from_slice-clause-plays c way before file bits pulled own is has =
    let p = c.args.p.now in
    let first = so_far way before file bits (pulled ++ joined_waiting p) c.args.giver c.requires.ready own is has in
    failed_joined way before file pulled _ c.requires.stage (subst (λ xs. GaveSoFar way before file (pulled ++ drop p.pulled xs)) (sym c.in_err-extend_from_slice.ensures.items) first)
