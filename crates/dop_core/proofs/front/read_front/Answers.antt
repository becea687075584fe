use Rattle.std.proofs.Common.{◌≡◌, ◌+◌, ◌<◌, ◌≤◌, true, false, List, ℕ, [], ◌++◌, length, ap, ap₂, subst, sym, ◌∙◌, arith}
use Rattle.chunk_core.specs.Inlets.{PullsBytes}
use Rattle.chunk_core.specs.Numbers.{id_at}
use Rattle.dsd_bits.specs.Ids.{same_id}
use Rattle.dop_core.specs.Fields.{DATA, is_wave, next_of}
use Rattle.dop_core.proofs.ChunkLaws.{walk_begins}
use Rattle.dop_core.proofs.ReadingLaws.{Walks, names_any, names_end, not_wave, outside_named, pulls_grown, short_wave, walk_found, walk_grown, walk_next, walk_none, wave_grown, wave_in}
use Rattle.dop_core.proofs.front.read_front.Goals as goal
use Rattle.dop_core.proofs.front.read_front.Given.{Over}
use Rattle.dop_core.proofs.front.read_front.Goals.{In_ok-is_long, then-not-is_long-via-then-not-is_long, then-not-is_long-via-else-not-is_long+then-not-is_wave}

-- the first bytes
first_pulled : (g : Over) (c : In_ok-is_long g) → PullsBytes g.R.Read.remaining c.args.inlet.now c.hold_until.new.inlet c.hold_until.new.held.items
first_pulled g c = subst (PullsBytes g.R.Read.remaining c.args.inlet.now c.hold_until.new.inlet) (sym (c.in_ok-is_long.ensures.read.appended ∙ ap (λ xs. xs ++ c.in_ok-is_long.ensures.read.read) c.new-front.ensures.items)) c.in_ok-is_long.ensures.read.pulled

pub returns-then-not-is_long-clause-named : goal.returns-then-not-is_long-clause-named
returns-then-not-is_long-clause-named g c =
    let read = c.in_ok-is_long.ensures.read in
    let pulled = first_pulled g (goal.at.returns-then-not-is_long-clause-named g c).In_ok-is_long in
    let front = c.hold_until.new.held.items in
    elim c.then-not-is_long.branch [
      | then-not-is_long-via-then-not-is_long w ↦ names_end g.R.Read.remaining c.args.inlet.now c.hold_until.new.inlet [] front _ pulled (read.at_end w.if-not-is_long.true) (not_wave front (short_wave front (read.short w.if-not-is_long.true)))
      | then-not-is_long-via-else-not-is_long+then-not-is_wave w ↦
          let other : is_wave front ≡ false = ap is_wave (sym w.deref.ensures.value) ∙ sym w.is_wave.ensures ∙ w.if-not-is_wave.true in
          names_any g.R.Read.remaining c.args.inlet.now c.hold_until.new.inlet [] front _ pulled (λ rest. not_wave (front ++ rest) (wave_in front rest (omega (arith, read.whole w.if-not-is_long.false)) ∙ other))
    ]

pub loop-front-init : goal.loop-front-init
loop-front-init g c =
    let read = c.in_ok-is_long.ensures.read in
    let front = c.hold_until.new.held.items in
    let long : length front ≡ 12 = read.whole c.if-not-is_long.false in
    record {
      pulled = first_pulled g (goal.at.loop-front-init g c).In_ok-is_long;
      wave = ap is_wave (sym c.deref.ensures.value) ∙ sym c.is_wave.ensures ∙ c.if-not-is_wave.false;
      long = omega (arith, long);
      walks = subst (Walks front) (sym long) (λ rest. walk_begins DATA (front ++ rest) 12);
    }

pub returns-then-not-branch-clause-named : goal.returns-then-not-branch-clause-named
returns-then-not-branch-clause-named g c =
    let inv = c.loop-front.invariant in
    let before = c.loop-front.front.items in
    let read = c.in_ok-hold_until.ensures.read in
    let front = c.hold_until-in-loop-front.new.held.items in
    let none = c.if-not-branch.true in
    let short : length front < length before + 8 = omega (arith, read.short none, c.len-at.ensures) in
    let pulled = pulls_grown g.R.Read.remaining c.args.inlet.now c.loop-front.inlet c.hold_until-in-loop-front.new.inlet before read.read front read.appended inv.pulled read.pulled in
    names_end g.R.Read.remaining c.args.inlet.now c.hold_until-in-loop-front.new.inlet [] front _ pulled (read.at_end none) (walk_none front (length before) short (walk_grown before read.read front (length before) read.appended inv.walks) (wave_grown before read.read front read.appended inv.long inv.wave))

pub returns-then-has_id-clause-front : goal.returns-then-has_id-clause-front
returns-then-has_id-clause-front g c =
    let inv = c.loop-front.invariant in
    let before = c.loop-front.front.items in
    let read = c.in_ok-hold_until.ensures.read in
    let front = c.hold_until-in-loop-front.new.held.items in
    let at : length before ≡ c.len-at.result = omega (arith, c.len-at.ensures) in
    let long : length front ≡ length before + 8 = omega (arith, read.whole c.if-not-branch.false, c.len-at.ensures) in
    let same : same_id (id_at front (length before)) DATA ≡ true = ap₂ (λ (xs : List ℕ) (n : ℕ). same_id (id_at xs n) DATA) (sym c.deref-in-loop-front.ensures.value) at ∙ sym c.has_id.ensures ∙ c.if-has_id.true in
    record {
      pulled = pulls_grown g.R.Read.remaining c.args.inlet.now c.loop-front.inlet c.hold_until-in-loop-front.new.inlet before read.read front read.appended inv.pulled read.pulled;
      is_front = walk_found front (length before) long same (walk_grown before read.read front (length before) read.appended inv.walks) (wave_grown before read.read front read.appended inv.long inv.wave);
    }

pub returns-then-not-branch-2-clause-named : goal.returns-then-not-branch-2-clause-named
returns-then-not-branch-2-clause-named g c =
    let inv = c.loop-front.invariant in
    let before = c.loop-front.front.items in
    let read = c.in_ok-hold_until.ensures.read in
    let front = c.hold_until-in-loop-front.new.held.items in
    let next = c.in_ok-hold_until-2.ensures.read in
    let all = c.hold_until-in-loop-front-2.new.held.items in
    let at : length before ≡ c.len-at.result = omega (arith, c.len-at.ensures) in
    let long : length before + 8 ≤ length front = omega (arith, read.whole c.if-not-branch.false, c.len-at.ensures) in
    let other : same_id (id_at front (length before)) DATA ≡ false = ap₂ (λ (xs : List ℕ) (n : ℕ). same_id (id_at xs n) DATA) (sym c.deref-in-loop-front.ensures.value) at ∙ sym c.has_id.ensures ∙ c.if-has_id.false in
    let place : next_of front (length before) ≡ c.next_of-next.result = ap₂ next_of (sym c.deref-in-loop-front-2.ensures.value) at ∙ sym c.next_of-next.ensures in
    let none = c.if-not-branch-2.true in
    let short : length all < next_of front (length before) + 8 = omega (arith, next.short none, place) in
    let pulled = pulls_grown g.R.Read.remaining c.args.inlet.now c.loop-front.inlet c.hold_until-in-loop-front.new.inlet before read.read front read.appended inv.pulled read.pulled in
    let more = pulls_grown g.R.Read.remaining c.args.inlet.now c.hold_until-in-loop-front.new.inlet c.hold_until-in-loop-front-2.new.inlet front next.read all next.appended pulled next.pulled in
    let wave = wave_grown before read.read front read.appended inv.long inv.wave in
    let walks = walk_next front (length before) long other (walk_grown before read.read front (length before) read.appended inv.walks) in
    names_end g.R.Read.remaining c.args.inlet.now c.hold_until-in-loop-front-2.new.inlet [] all _ more (next.at_end none) (walk_none all (next_of front (length before)) short (walk_grown front next.read all (next_of front (length before)) next.appended walks) (wave_grown front next.read all next.appended (omega (arith, long, inv.long)) wave))

pub loop-front-preserved : goal.loop-front-preserved
loop-front-preserved g c =
    let inv = c.loop-front.invariant in
    let before = c.loop-front.front.items in
    let read = c.in_ok-hold_until.ensures.read in
    let front = c.hold_until-in-loop-front.new.held.items in
    let next = c.in_ok-hold_until-2.ensures.read in
    let all = c.hold_until-in-loop-front-2.new.held.items in
    let at : length before ≡ c.len-at.result = omega (arith, c.len-at.ensures) in
    let long : length before + 8 ≤ length front = omega (arith, read.whole c.if-not-branch.false, c.len-at.ensures) in
    let other : same_id (id_at front (length before)) DATA ≡ false = ap₂ (λ (xs : List ℕ) (n : ℕ). same_id (id_at xs n) DATA) (sym c.deref-in-loop-front.ensures.value) at ∙ sym c.has_id.ensures ∙ c.if-has_id.false in
    let place : next_of front (length before) ≡ length all = ap₂ next_of (sym c.deref-in-loop-front-2.ensures.value) at ∙ sym c.next_of-next.ensures ∙ sym (next.whole c.if-not-branch-2.false) in
    let pulled = pulls_grown g.R.Read.remaining c.args.inlet.now c.loop-front.inlet c.hold_until-in-loop-front.new.inlet before read.read front read.appended inv.pulled read.pulled in
    let wave = wave_grown before read.read front read.appended inv.long inv.wave in
    let walks = walk_next front (length before) long other (walk_grown before read.read front (length before) read.appended inv.walks) in
    record {
      pulled = pulls_grown g.R.Read.remaining c.args.inlet.now c.hold_until-in-loop-front.new.inlet c.hold_until-in-loop-front-2.new.inlet front next.read all next.appended pulled next.pulled;
      wave = wave_grown front next.read all next.appended (omega (arith, long, inv.long)) wave;
      long = omega (arith, place, long, inv.long);
      walks = subst (Walks all) place (walk_grown front next.read all (next_of front (length before)) next.appended walks);
    }

pub returns-in_err-is_long-clause-named : goal.returns-in_err-is_long-clause-named
returns-in_err-is_long-clause-named g c = outside_named c.from_residual.result _ _ c.from_residual.ensures.1 c.in_err-is_long.ensures.fault

pub returns-in_err-hold_until-clause-named : goal.returns-in_err-hold_until-clause-named
returns-in_err-hold_until-clause-named g c = outside_named c.from_residual-in_err-hold_until.result _ _ c.from_residual-in_err-hold_until.ensures.1 c.in_err-hold_until.ensures.fault

pub returns-in_err-hold_until-2-clause-named : goal.returns-in_err-hold_until-2-clause-named
returns-in_err-hold_until-2-clause-named g c = outside_named c.from_residual-in_err-hold_until-2.result _ _ c.from_residual-in_err-hold_until-2.ensures.1 c.in_err-hold_until-2.ensures.fault
