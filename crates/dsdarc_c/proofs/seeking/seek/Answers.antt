use Rattle.std.proofs.Common.{◌≡◌, ◌≤◌, ◌+◌, ◌∙◌, [], Err, IfErr, IfOk, MatchResult, Ok, Result, ap, arith, subst, sym, ℕ}
use Rattle.std.specs.Int.{div_ceil}
use Rattle.std.proofs.lemmas.Result.{err_from_is_err_and}
use Rattle.dsd_bits.specs.declared.sound.Sound.{Sound}
use Rattle.player_core.specs.Laws.{total_frames}
use Rattle.dsdarc_c.specs.Pushing.{IsPushedHeader}
use Rattle.dsdarc_c.specs.Seeking.{GoesTo, RefusesSeek}
use Rattle.dsdarc_c.specs.declared.fault.PlayFault.{PlayFault}
use Rattle.dsdarc_c.specs.declared.pushing.Pushing.{Pushing}
use Rattle.dsdarc_c.specs.declared.fault.PlayFault.TheVariants as faults
use Rattle.dsdarc_c.specs.Whole.{PlaysPushedFile, waiting}
use Rattle.dsdarc_c.specs.declared.pushing.Stage.TheVariants as stages
use Rattle.dsdarc_c.proofs.WholeLaws.{failed_plays}
use Rattle.dsdarc_c.proofs.seeking.seek.Goals as goal

-- what holds of an answer, and of a refusal by what is known of it
either : {T F : Type 0} (A B C : Type 0) (r : Result T F) → IfOk r (λ x. A) → IfErr r (λ f. C) → (C → B) → MatchResult r (λ x. A) (λ f. B)
either A B C (Ok x) ok err f = ok
either A B C (Err e) ok err f = f err

-- out of memory may come at any time
memory_alone : {T : Type 0} (P : PlayFault → Type 0) (r : Result T PlayFault) → P faults.Memory → IfErr r (λ f. f ≡ faults.Memory) → IfErr r P
memory_alone P (Ok x) memory is = tt
memory_alone P (Err e) memory is = subst P (sym is) memory

goes : (p : Pushing) (s : Sound) (frame : ℕ) (r : Result ℕ PlayFault) → IsPushedHeader p.header.items s → frame ≤ total_frames p.taps s → IfOk r (λ place. (s.start ≤ place) × (place ≤ s.start + s.size)) → IfOk r (GoesTo p frame)
goes p s frame (Ok place) header has within = record { sound = s; header = header; has = has; from = within.0; to = within.1 }
goes p s frame (Err e) header has within = tt

pub returns-in_err-sound-clause-refused : goal.returns-in_err-sound-clause-refused
returns-in_err-sound-clause-refused c =
    let is = err_from_is_err_and c.from_residual.result c.from_residual.ensures.1 in
    let same = is.1 ∙ ap Err is.2 in
    subst (λ r. IfErr r (RefusesSeek c.args.p.now c.args.frame)) (sym same) (c.in_err-sound.ensures.refused c.args.frame)

pub returns-clause-plays : goal.returns-clause-plays
returns-clause-plays c file start pulled plays =
    let p = c.args.p.now in
    let new = c.seek_in.new.p in
    either (PlaysPushedFile file c.args.frame [] new) (PlaysPushedFile file start pulled new) ((new.stage ≡ stages.Failed) × (waiting new ≡ [])) c.seek_in.result
    (c.seek_in.ensures.plays file (c.in_ok-sound.ensures.begins file start pulled plays)) c.seek_in.ensures.failed (λ failed.
    failed_plays p new file start pulled c.requires plays c.seek_in.ensures.taps failed.0 failed.1)

pub returns-clause-refused : goal.returns-clause-refused
returns-clause-refused c = memory_alone (RefusesSeek c.args.p.now c.args.frame) c.seek_in.result tt c.seek_in.ensures.memory

pub returns-clause-accepted : goal.returns-clause-accepted
returns-clause-accepted c =
    let p = c.args.p.now in
    let s = c.in_ok-sound.sound in
    let total : c.div_ceil.result ≡ total_frames p.taps s = c.div_ceil.ensures ∙ ap (λ n. div_ceil s.count n) c.factor.ensures.value in
    goes p s c.args.frame c.seek_in.result c.in_ok-sound.ensures.header (omega (arith, total, c.if-frame-div_ceil.false)) c.seek_in.ensures.within
