use Rattle.std.proofs.Common.{None, [], ◌≡◌, ◌+◌, ◌≤◌, ◌<◌, ◌++◌, ◌∙◌, ◌^◌, ℕ, List, ap, arith, inl, inr, length, refl, subst, sym}
use Rattle.std.specs.Io.KnownBytes.{IsAtEnd}
use Rattle.chunk_core.specs.Inlets.{inlet_failures, inlet_reader}
use Rattle.dsdiff_core.specs.Faulty.{AreNext, IsFaulty, next_place}
use Rattle.dsdiff_core.proofs.FaultyPlaces.{next_head}
use Rattle.sound_core.specs.declared.passing.Passed.TheVariants as passed
use Rattle.std.proofs.lemmas.Bool.{cases_lt}
use Rattle.sound_core.specs.Readers.{FallsShort, Passes}
use Rattle.sound_core.proofs.FaultLaws.{fault_is}
use Rattle.sound_core.proofs.PassingLaws.{after_all, chunk_cut, ends_here, faulty_here, form_passed, next_enough, next_here, no_head, on_later, on_short, pad_missing, pad_passed, walks_after}
use Rattle.sound_core.proofs.ReaderLaws.{counts_later, same_counts}
use Rattle.sound_core.proofs.passing.pass_chunk.Goals as goal

pub read_until-requires : goal.read_until-requires
read_until-requires g c = record { reading = c.requires.reading }

pub returns-in_err-read_until : goal.returns-in_err-read_until
returns-in_err-read_until g c =
    rw (fault_is c.from_residual.result _ c.from_residual.ensures.1) (record {
      same = c.read_until.ensures.same;
      reading = tt;
      passed = λ file on. tt;
      later = tt;
      counts = same_counts c.args.reader.now c.read_until.new.self c.in_err-read_until.field-0.0 c.in_err-read_until.ensures.counts;
      fault = c.in_err-read_until.ensures.fault;
    })

pub returns-in_err-pass-clause-counts : goal.returns-in_err-pass-clause-counts
returns-in_err-pass-clause-counts g c =
    rw (fault_is c.from_residual-in_err-pass.result _ c.from_residual-in_err-pass.ensures.1) (counts_later c.args.reader.now c.drop_ahead.new.self c.pass-2.new.self c.in_err-pass.field-0.0 (c.drop_ahead.ensures.same.limit ∙ c.read_until.ensures.same.limit) (omega (arith, ap inlet_failures c.drop_ahead.ensures.untouched, c.in_ok-read_until.ensures.counts.failures)) c.in_err-pass.ensures.counts)

pub returns-in_err-pass-2-clause-counts : goal.returns-in_err-pass-2-clause-counts
returns-in_err-pass-2-clause-counts g c =
    rw (fault_is c.from_residual-in_err-pass-2.result _ c.from_residual-in_err-pass-2.ensures.1) (counts_later c.args.reader.now c.pass-2.new.self c.pass-3.new.self c.in_err-pass-2.field-0.0 (c.pass-2.ensures.same.limit ∙ c.drop_ahead.ensures.same.limit ∙ c.read_until.ensures.same.limit) (omega (arith, ap inlet_failures c.drop_ahead.ensures.untouched, c.in_ok-read_until.ensures.counts.failures, c.in_ok-pass.ensures.counts.failures)) c.in_err-pass-2.ensures.counts)

pub returns-in_default-clause-passed : goal.returns-in_default-clause-passed
returns-in_default-clause-passed g c = λ file on.
    let left = g.R.Read.remaining in
    let mid = c.read_until.new.self in
    let until = c.in_ok-read_until.ensures.read in
    let bytes = until.bytes in
    let now = on_later left c.args.reader.now mid file bytes c.args.start on until.reads c.read_until.ensures.same.given until.appended in
    let is = sym c.as_slice-bytes.ensures.value in
    walks_after left c.args.reader.now mid c.pass.new.self file bytes (passed.All c.args.start c.head-begun.result) until.reads
    (form_passed left mid (file ++ bytes) c.args.start now c.pass.new.self c.pass.ensures.same.given c.head-begun.result c.in_ok-_whole._whole c.left_of-left.result c.left_of-left.ensures c.in_ok-_whole.ensures.ok c.in_ok-_whole.ensures.short (λ tail.
    let next : AreNext ((file ++ bytes) ++ tail) c.args.start c.as_slice-bytes.result.now = subst (λ (xs : List ℕ). AreNext ((file ++ bytes) ++ tail) c.args.start xs) is (next_enough left mid (file ++ bytes) c.args.start now tail c.left_of-left.result c.left_of-left.ensures (omega (arith, c.if-len-wanted.false, c.len.ensures, c.min-wanted.ensures))) in (
      elim (cases_lt (length mid.ahead.now.items) 12) [
        | inl few ↦ no_head left mid (file ++ bytes) c.args.start now tail c.left_of-left.result c.left_of-left.ensures (omega (arith, few, c.if-len-wanted.false, c.len.ensures, c.min-wanted.ensures))
        | inr head ↦ c.in_default.ensures.last refl (subst (λ (xs : List ℕ). 12 ≤ length xs) is head) ((file ++ bytes) ++ tail) (now.faulty tail) next (omega (arith, now.inside, on_short left mid (file ++ bytes) c.args.start now c.in_ok-read_until.ensures.reading))
      ],
      next_head ((file ++ bytes) ++ tail) c.args.start c.as_slice-bytes.result.now c.head-begun.result next c.head-begun.ensures,
    )))

pub returns-then-not-branch-clause-passed : goal.returns-then-not-branch-clause-passed
returns-then-not-branch-clause-passed g c = λ file on.
    let left = g.R.Read.remaining in
    let mid = c.read_until.new.self in
    let until = c.in_ok-read_until.ensures.read in
    let bytes = until.bytes in
    let now = on_later left c.args.reader.now mid file bytes c.args.start on until.reads c.read_until.ensures.same.given until.appended in
    let cut = subst (λ i. FallsShort left i c.pass-2.new.self.inlet.now c.in-Some.next.size c.drop_ahead.new.self.ahead.now.items) c.drop_ahead.ensures.untouched (c.in_ok-pass.ensures.short c.if-not-branch.true) in
    walks_after left c.args.reader.now mid c.pass-2.new.self file bytes (passed.All c.args.start c.head-begun.result) until.reads
    (chunk_cut left mid (file ++ bytes) c.args.start now c.pass-2.new.self (c.pass-2.ensures.same.given ∙ c.drop_ahead.ensures.same.given) c.head-begun.result c.in-Some.next.size c.drop_ahead.new.self.ahead.now.items c.drop_ahead.ensures.rest (subst (λ (xs : List ℕ). 12 ≤ length xs) c.as_slice-bytes.ensures.value c.in-Some.ensures.head)
    (λ tail.
    let next : AreNext ((file ++ bytes) ++ tail) c.args.start c.as_slice-bytes.result.now = subst (λ (xs : List ℕ). AreNext ((file ++ bytes) ++ tail) c.args.start xs) (sym c.as_slice-bytes.ensures.value) (next_enough left mid (file ++ bytes) c.args.start now tail c.left_of-left.result c.left_of-left.ensures (omega (arith, c.if-len-wanted.false, c.len.ensures, c.min-wanted.ensures))) in
    (c.in-Some.ensures.size ((file ++ bytes) ++ tail) next, next_head ((file ++ bytes) ++ tail) c.args.start c.as_slice-bytes.result.now c.head-begun.result next c.head-begun.ensures)) cut)

pub returns-then-len-wanted-clause-passed : goal.returns-then-len-wanted-clause-passed
returns-then-len-wanted-clause-passed g c = λ file on.
    let left = g.R.Read.remaining in
    let mid = c.read_until.new.self in
    let until = c.in_ok-read_until.ensures.read in
    let bytes = until.bytes in
    let now = on_later left c.args.reader.now mid file bytes c.args.start on until.reads c.read_until.ensures.same.given until.appended in
    let end : IsAtEnd (left (inlet_reader mid.inlet.now)) = elim until.enough [
      | inl enough ↦ absurd (omega (arith, enough, c.if-len-wanted.true, c.len.ensures))
      | inr end ↦ end
    ] in
    walks_after left c.args.reader.now mid mid file bytes (passed.All c.last_passed-next.result.0 c.last_passed-next.result.1) until.reads
    (ends_here left mid (file ++ bytes) c.args.start now c.last_passed-next.result.0 c.last_passed-next.result.1 end (c.last_passed-next.ensures (file ++ bytes) (faulty_here left mid (file ++ bytes) c.args.start now)
    (subst (λ (xs : List ℕ). AreNext (file ++ bytes) c.args.start xs) (sym c.as_slice.ensures.value) (next_here left mid (file ++ bytes) c.args.start now)) (on_short left mid (file ++ bytes) c.args.start now c.in_ok-read_until.ensures.reading)))

pub returns-then-not-branch-2-clause-passed : goal.returns-then-not-branch-2-clause-passed
returns-then-not-branch-2-clause-passed g c = λ file on.
    let left = g.R.Read.remaining in
    let mid = c.read_until.new.self in
    let k = c.pass-2.new.self in
    let until = c.in_ok-read_until.ensures.read in
    let bytes = until.bytes in
    let rest = c.drop_ahead.new.self.ahead.now.items in
    let size = c.in-Some.next.size in
    let now = on_later left c.args.reader.now mid file bytes c.args.start on until.reads c.read_until.ensures.same.given until.appended in
    let p = subst (λ i. Passes left i k.inlet.now size rest k.ahead.now.items) c.drop_ahead.ensures.untouched (c.in_ok-pass.ensures.ok c.if-not-branch.false) in
    let same : k.given ≡ mid.given = c.pass-2.ensures.same.given ∙ c.drop_ahead.ensures.same.given in
    let head : 12 ≤ length mid.ahead.now.items = subst (λ (xs : List ℕ). 12 ≤ length xs) c.as_slice-bytes.ensures.value c.in-Some.ensures.head in
    let after = c.in-Some.next.after in
    let told = after_all left mid (file ++ bytes) c.args.start now k same size rest c.drop_ahead.ensures.rest head p after
    (λ tail. next_enough left mid (file ++ bytes) c.args.start now tail c.left_of-left.result c.left_of-left.ensures (omega (arith, c.if-len-wanted.false, c.len.ensures, c.min-wanted.ensures)))
    (subst (λ (xs : List ℕ). (f : List ℕ) → IsFaulty f c.args.start → AreNext f c.args.start xs → next_place c.args.start + 12 + size ≤ length f → next_place c.args.start + 12 + size < 2 ^ 64 → IsFaulty f after × (after.end ≡ next_place c.args.start + 12 + size)) c.as_slice-bytes.ensures.value c.in-Some.ensures.after)
    c.in_ok-pass.ensures.reading in
    walks_after left c.args.reader.now mid c.pass-3.new.self file bytes (passed.All after None) until.reads
    (pad_missing left mid (file ++ bytes) c.args.start now k same size rest c.drop_ahead.ensures.rest head p after (told []).1 (λ tail. (told tail).0) c.pass-3.new.self c.pass-3.ensures.same.given (c.in_ok-pass-2.ensures.short c.if-not-branch-2.true))

pub returns-clause-passed : goal.returns-clause-passed
returns-clause-passed g c = λ file on.
    let left = g.R.Read.remaining in
    let mid = c.read_until.new.self in
    let k = c.pass-2.new.self in
    let until = c.in_ok-read_until.ensures.read in
    let bytes = until.bytes in
    let rest = c.drop_ahead.new.self.ahead.now.items in
    let size = c.in-Some.next.size in
    let now = on_later left c.args.reader.now mid file bytes c.args.start on until.reads c.read_until.ensures.same.given until.appended in
    let p = subst (λ i. Passes left i k.inlet.now size rest k.ahead.now.items) c.drop_ahead.ensures.untouched (c.in_ok-pass.ensures.ok c.if-not-branch.false) in
    let same : k.given ≡ mid.given = c.pass-2.ensures.same.given ∙ c.drop_ahead.ensures.same.given in
    let head : 12 ≤ length mid.ahead.now.items = subst (λ (xs : List ℕ). 12 ≤ length xs) c.as_slice-bytes.ensures.value c.in-Some.ensures.head in
    let after = c.in-Some.next.after in
    let told = after_all left mid (file ++ bytes) c.args.start now k same size rest c.drop_ahead.ensures.rest head p after
    (λ tail. next_enough left mid (file ++ bytes) c.args.start now tail c.left_of-left.result c.left_of-left.ensures (omega (arith, c.if-len-wanted.false, c.len.ensures, c.min-wanted.ensures)))
    (subst (λ (xs : List ℕ). (f : List ℕ) → IsFaulty f c.args.start → AreNext f c.args.start xs → next_place c.args.start + 12 + size ≤ length f → next_place c.args.start + 12 + size < 2 ^ 64 → IsFaulty f after × (after.end ≡ next_place c.args.start + 12 + size)) c.as_slice-bytes.ensures.value c.in-Some.ensures.after)
    c.in_ok-pass.ensures.reading in
    walks_after left c.args.reader.now mid c.pass-3.new.self file bytes (passed.More after) until.reads
    (pad_passed left mid (file ++ bytes) c.args.start now k same size rest c.drop_ahead.ensures.rest head p after (told []).1 (λ tail. (told tail).0) c.pass-3.new.self c.pass-3.ensures.same.given (c.in_ok-pass-2.ensures.ok c.if-not-branch-2.false))

pub returns-clause-later : goal.returns-clause-later
returns-clause-later g c =
    let file = c.requires.on.0 in
    let on = c.requires.on.1 in
    let left = g.R.Read.remaining in
    let mid = c.read_until.new.self in
    let k = c.pass-2.new.self in
    let until = c.in_ok-read_until.ensures.read in
    let bytes = until.bytes in
    let rest = c.drop_ahead.new.self.ahead.now.items in
    let size = c.in-Some.next.size in
    let now = on_later left c.args.reader.now mid file bytes c.args.start on until.reads c.read_until.ensures.same.given until.appended in
    let p = subst (λ i. Passes left i k.inlet.now size rest k.ahead.now.items) c.drop_ahead.ensures.untouched (c.in_ok-pass.ensures.ok c.if-not-branch.false) in
    let same : k.given ≡ mid.given = c.pass-2.ensures.same.given ∙ c.drop_ahead.ensures.same.given in
    let head : 12 ≤ length mid.ahead.now.items = subst (λ (xs : List ℕ). 12 ≤ length xs) c.as_slice-bytes.ensures.value c.in-Some.ensures.head in
    let after = c.in-Some.next.after in
    let told = after_all left mid (file ++ bytes) c.args.start now k same size rest c.drop_ahead.ensures.rest head p after
    (λ tail. next_enough left mid (file ++ bytes) c.args.start now tail c.left_of-left.result c.left_of-left.ensures (omega (arith, c.if-len-wanted.false, c.len.ensures, c.min-wanted.ensures)))
    (subst (λ (xs : List ℕ). (f : List ℕ) → IsFaulty f c.args.start → AreNext f c.args.start xs → next_place c.args.start + 12 + size ≤ length f → next_place c.args.start + 12 + size < 2 ^ 64 → IsFaulty f after × (after.end ≡ next_place c.args.start + 12 + size)) c.as_slice-bytes.ensures.value c.in-Some.ensures.after)
    c.in_ok-pass.ensures.reading in
    omega (arith, (told []).1)
