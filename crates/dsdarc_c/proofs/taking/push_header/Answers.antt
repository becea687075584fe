use Rattle.std.proofs.Common.{List, ℕ, ◌≡◌, ◌++◌, ◌∙◌, IsTrue, ap, arith, inl, inr, length, length-append, refl, subst, sym, take}
use Rattle.dsdiff_core.specs.Walks.{IsWalked}
use Rattle.dsdiff_core.proofs.SeekLoop.{walked_later}
use Rattle.sound_core.specs.Files.{IsHeaderOf, IsRefused, LeadsToSound}
use Rattle.sound_core.proofs.ClosingLaws.{ends_at}
use Rattle.dsdarc_c.specs.Pushing.{IsUnstated}
use Rattle.dsdarc_c.specs.Whole.{BeginsWith}
use Rattle.dsdarc_c.proofs.HeaderLaws.{none_begins, some_taken}
use Rattle.dsdarc_c.proofs.KeepLaws.{none_kept}
use Rattle.dsdarc_c.proofs.WholeLaws.{begins_fewer, begins_more}
use Rattle.dsdarc_c.proofs.taking.push_header.Goals as goal

pub start_sound-requires : goal.start_sound-requires
start_sound-requires c =
    let s = c.in-Found.sound in
    let states = rw c.in-Found.is at c.in_ok-at.ensures.found in
    let items : take s.start c.as_slice.result.now ≡ c.truncate.new.self.items = ap (λ (xs : List ℕ). take s.start xs) c.as_slice.ensures.value ∙ sym c.truncate.ensures.items in
    record {
      header = record {
        ends = subst (λ xs. IsHeaderOf xs s) items (ends_at c.as_slice.result.now s states);
        is_sound = states.is_sound;
        whole = states.whole;
        start_low = c.if-sound-gt-MOST_HELD.false;
        size_low = c.if-sound-gt-MOST_HALF.false;
      };
    }

pub returns-in_ok-start_sound-in-Found-clause-plays : goal.returns-in_ok-start_sound-in-Found-clause-plays
returns-in_ok-start_sound-in-Found-clause-plays c file begins waits at =
    let p = c.args.p.now in
    let s = c.in-Found.sound in
    let all = begins_more file p.header.items c.args.piece.now p.place c.requires.header.place_is begins at in
    let items = ap (λ (xs : List ℕ). take s.start xs) (sym c.in_ok-extend_from_slice.ensures.items) ∙ sym c.truncate.ensures.items in
    c.in_ok-start_sound-in-Found.ensures.plays file (subst (BeginsWith file) items (begins_fewer file _ s.start all))

-- the header with more bytes
pub returns-else-len-gt-MOST_HELD-clause-keeps : goal.returns-else-len-gt-MOST_HELD-clause-keeps
returns-else-len-gt-MOST_HELD-clause-keeps c =
    let states = rw c.in-More.is at c.in_ok-at.ensures.more in
    record {
      pulled = c.requires.pulled;
      stated = none_kept c.args.p.now.stated _ c.requires.unknown;
      known = c.requires.unknown;
      stage = record {
        place_is = omega (arith, c.requires.header.place_is, ap length c.in_ok-extend_from_slice.ensures.items, length-append c.args.p.now.header.items c.args.piece.now);
        few = omega (arith, c.requires.header.place_is, ap length c.in_ok-extend_from_slice.ensures.items, length-append c.args.p.now.header.items c.args.piece.now, c.if-len-gt-MOST_HELD.false, c.len.ensures);
        unstated = subst IsUnstated c.as_slice.ensures.value states;
        so_far = subst (λ xs. IsWalked xs c.in-More.at) c.as_slice.ensures.value (rw c.in-More.is at c.in_ok-at.ensures.walked);
      };
      whole = c.requires.whole;
    }

pub returns-else-len-gt-MOST_HELD-clause-takes : goal.returns-else-len-gt-MOST_HELD-clause-takes
returns-else-len-gt-MOST_HELD-clause-takes c =
    let states = rw c.in-More.is at c.in_ok-at.ensures.more in
    inl (refl, subst IsUnstated (c.as_slice.ensures.value ∙ c.in_ok-extend_from_slice.ensures.items) states, omega (arith, c.if-len-gt-MOST_HELD.false, c.len.ensures, ap length c.in_ok-extend_from_slice.ensures.items))

pub stated_by-requires : goal.stated_by-requires
stated_by-requires c = subst (λ xs. IsWalked xs c.args.walked) (sym (c.as_slice.ensures.value ∙ c.in_ok-extend_from_slice.ensures.items)) (walked_later c.args.p.now.header.items c.args.piece.now c.args.walked c.requires.header.so_far)

pub returns-then-len-gt-MOST_HELD-clause-refused : goal.returns-then-len-gt-MOST_HELD-clause-refused
returns-then-len-gt-MOST_HELD-clause-refused c =
    let states = rw c.in-More.is at c.in_ok-at.ensures.more in
    inl (subst IsUnstated (c.as_slice.ensures.value ∙ c.in_ok-extend_from_slice.ensures.items) states, omega (arith, c.if-len-gt-MOST_HELD.true, c.len.ensures, ap length c.in_ok-extend_from_slice.ensures.items))

pub returns-in-Refused-clause-refused : goal.returns-in-Refused-clause-refused
returns-in-Refused-clause-refused c =
    let refused = rw c.in-Refused.is at c.in_ok-at.ensures.refused in
    subst (λ (xs : List ℕ). (rest : List ℕ) → IsRefused (xs ++ rest)) (c.as_slice.ensures.value ∙ c.in_ok-extend_from_slice.ensures.items) refused

pub returns-in_ok-start_sound-in-Found-clause-takes : goal.returns-in_ok-start_sound-in-Found-clause-takes
returns-in_ok-start_sound-in-Found-clause-takes c =
    let s = c.in-Found.sound in
    let header = c.args.p.now.header.items in
    let states = subst (λ xs. LeadsToSound xs s) (c.as_slice.ensures.value ∙ c.in_ok-extend_from_slice.ensures.items) (rw c.in-Found.is at c.in_ok-at.ensures.found) in
    inr (
      s,
      record {
        states = states;
        divided = c.rate_fits.ensures.0 (subst IsTrue (sym c.if-not-rate_fits.false) refl);
        start_low = c.if-sound-gt-MOST_HELD.false;
        size_low = c.if-sound-gt-MOST_HALF.false;
        up_to = omega (arith, c.if-sound-before.false, c.len-before.ensures);
      },
    )

pub returns-in_ok-start_sound-in-Found-clause-some : goal.returns-in_ok-start_sound-in-Found-clause-some
returns-in_ok-start_sound-in-Found-clause-some c more =
    let s = c.in-Found.sound in
    let header = c.args.p.now.header.items in
    let states = subst (λ xs. LeadsToSound xs s) (c.as_slice.ensures.value ∙ c.in_ok-extend_from_slice.ensures.items) (rw c.in-Found.is at c.in_ok-at.ensures.found) in
    omega (arith, some_taken header c.args.piece.now s c.requires.header.unstated states (omega (arith, c.if-sound-before.false, c.len-before.ensures)), c.len-before.ensures)

pub returns-else-len-gt-MOST_HELD-clause-plays : goal.returns-else-len-gt-MOST_HELD-clause-plays
returns-else-len-gt-MOST_HELD-clause-plays c file begins waits at =
    let p = c.args.p.now in
    let all = begins_more file p.header.items c.args.piece.now p.place c.requires.header.place_is begins at in
    record { stage = (subst (BeginsWith file) (sym c.in_ok-extend_from_slice.ensures.items) all, refl, waits) }

pub returns-then-sound-before-clause-refused : goal.returns-then-sound-before-clause-refused
returns-then-sound-before-clause-refused c =
    let s = c.in-Found.sound in
    let states = subst (λ xs. LeadsToSound xs s) (c.as_slice.ensures.value ∙ c.in_ok-extend_from_slice.ensures.items) (rw c.in-Found.is at c.in_ok-at.ensures.found) in
    none_begins c.args.p.now.header.items c.args.piece.now s c.requires.header.unstated states (omega (arith, c.if-sound-before.true, c.len-before.ensures))
