use Rattle.std.proofs.Common.{List, ℕ, ◌≡◌, ◌++◌, ◌∙◌, ap, arith, inr, length, refl, subst, sym, take}
use Rattle.sound_core.specs.Files.{IsHeaderOf, IsRefused, LeadsToSound}
use Rattle.sound_core.proofs.ClosingLaws.{ends_at}
use Rattle.dsdarc_c.specs.Pushing.{IsPushedHeader}
use Rattle.dsdarc_c.specs.Whole.{BeginsWith}
use Rattle.dsdarc_c.proofs.BareLaws.{none_waits}
use Rattle.dsdarc_c.proofs.HeaderLaws.{none_begins}
use Rattle.dsdarc_c.proofs.WholeLaws.{begins_fewer, begins_more}
use Rattle.dsdarc_c.proofs.bare_taking.push_bare_header.Goals as goal

pub returns-then-sound-before-clause-refused : goal.returns-then-sound-before-clause-refused
returns-then-sound-before-clause-refused c =
    let s = c.in-Found.sound in
    let states = subst (λ xs. LeadsToSound xs s) (c.as_slice.ensures.value ∙ c.in_ok-extend_from_slice.ensures.items) (rw c.in-Found.is at c.in_ok-at.ensures.found) in
    none_begins c.args.p.now.header.items c.args.piece.now s c.requires.header.unstated states (omega (arith, c.if-sound-before.true, c.len-before.ensures))

pub returns-else-len-gt-MOST_HELD-clause-plays : goal.returns-else-len-gt-MOST_HELD-clause-plays
returns-else-len-gt-MOST_HELD-clause-plays c file begins at =
    let p = c.args.p.now in
    let all = begins_more file p.header.items c.args.piece.now p.place c.requires.header.place_is begins at in
    record { stage = (subst (BeginsWith file) (sym c.in_ok-extend_from_slice.ensures.items) all, refl, none_waits p (omega (arith, ap length c.requires.none))) }

pub returns-in-Refused-clause-refused : goal.returns-in-Refused-clause-refused
returns-in-Refused-clause-refused c =
    let refused = rw c.in-Refused.is at c.in_ok-at.ensures.refused in
    subst (λ (xs : List ℕ). (rest : List ℕ) → IsRefused (xs ++ rest)) (c.as_slice.ensures.value ∙ c.in_ok-extend_from_slice.ensures.items) refused

pub returns-else-sound-gt-MOST_HALF-clause-keeps : goal.returns-else-sound-gt-MOST_HALF-clause-keeps
returns-else-sound-gt-MOST_HALF-clause-keeps c =
    let s = c.in-Found.sound in
    let states = rw c.in-Found.is at c.in_ok-at.ensures.found in
    let items : take s.start c.as_slice.result.now ≡ c.truncate.new.self.items = ap (λ (xs : List ℕ). take s.start xs) c.as_slice.ensures.value ∙ sym c.truncate.ensures.items in
    let pushed : IsPushedHeader c.truncate.new.self.items s =
    record {
      ends = subst (λ xs. IsHeaderOf xs s) items (ends_at c.as_slice.result.now s states);
      is_sound = states.is_sound;
      whole = states.whole;
      start_low = c.if-sound-gt-MOST_HELD.false;
      size_low = c.if-sound-gt-MOST_HALF.false;
    } in
    record { pulled = c.requires.pulled; stated = pushed; known = refl; stage = (pushed, refl); none = c.requires.none }

pub returns-else-sound-gt-MOST_HALF-clause-takes : goal.returns-else-sound-gt-MOST_HALF-clause-takes
returns-else-sound-gt-MOST_HALF-clause-takes c =
    let s = c.in-Found.sound in
    let states = subst (λ xs. LeadsToSound xs s) (c.as_slice.ensures.value ∙ c.in_ok-extend_from_slice.ensures.items) (rw c.in-Found.is at c.in_ok-at.ensures.found) in
    inr (s, record { states = states; start_low = c.if-sound-gt-MOST_HELD.false; size_low = c.if-sound-gt-MOST_HALF.false; up_to = omega (arith, c.if-sound-before.false, c.len-before.ensures) })

pub returns-else-sound-gt-MOST_HALF-clause-plays : goal.returns-else-sound-gt-MOST_HALF-clause-plays
returns-else-sound-gt-MOST_HALF-clause-plays c file begins at =
    let p = c.args.p.now in
    let s = c.in-Found.sound in
    let all = begins_more file p.header.items c.args.piece.now p.place c.requires.header.place_is begins at in
    let items = ap (λ (xs : List ℕ). take s.start xs) (sym c.in_ok-extend_from_slice.ensures.items) ∙ sym c.truncate.ensures.items in
    record { stage = (subst (BeginsWith file) items (begins_fewer file _ s.start all), refl, none_waits p (omega (arith, ap length c.requires.none))) }
