use Rattle.std.proofs.Common.{◌≡◌, ◌++◌, ◌+◌, ◌-◌, ◌∙◌, ap₂, arith, length, subst, sym}
use Rattle.dsd_bits.specs.declared.interleaving.Interleaving.TheVariants.{Bytes}
use Rattle.dsdiff_core.specs.Headers.{left_after}
use Rattle.dsdarc_c.specs.Bare.{bare_waiting}
use Rattle.dsdarc_c.specs.BareWhole.{PlaysBareStage}
use Rattle.dsdarc_c.specs.Whole.{KeepsForm}
use Rattle.dsdarc_c.specs.declared.bare.BareStage.TheVariants as stages
use Rattle.dsdarc_c.proofs.BareLaws.{bits_prefix}
use Rattle.dsdarc_c.proofs.EndingLaws.{cut_form, keeps_more}
use Rattle.dsdarc_c.proofs.bare_taking.push_bare_after.Goals as goal

pub returns-in_err-extend_from_slice-clause-plays : goal.returns-in_err-extend_from_slice-clause-plays
returns-in_err-extend_from_slice-clause-plays c file start pulled plays at =
    let p = c.args.p.now in
    let stage = stages.After c.args.sound c.args.back in
    record { stage = subst (λ s. PlaysBareStage p.layout file start (pulled ++ bare_waiting p) p.header.items p.place s) (sym c.requires.failed) (bits_prefix p.layout file start (pulled ++ bare_waiting p) p.header.items p.place stage c.requires.after plays) }

pub returns-clause-plays : goal.returns-clause-plays
returns-clause-plays c file start pulled plays at =
    let p = c.args.p.now in
    let s = c.args.sound in
    let old = c.args.back.items in
    let piece = c.args.piece.now in
    let kept = c.split_at.result.0.now in
    let long : c.len.result ≡ length old = omega (arith, c.len.ensures, c.args.back.ok.0) in
    let cut = λ (order : s.interleaving ≡ Bytes). cut_form piece kept c.min.result c.form_bytes_wanted-wanted.result (left_after p.header.items s.size - length old) c.split_at.ensures.front (omega (arith, c.min.ensures))
    (c.form_bytes_wanted-wanted.ensures.form order ∙ ap₂ (λ xs n. left_after xs s.size - n) c.as_slice.ensures.value long) in
    let form = keeps_more file p.header.items s p.place old piece kept c.requires.after.after at cut plays.2 in
    record { stage = (plays.0, plays.1, subst (λ xs. KeepsForm file p.header.items s (p.place + length piece) xs) (sym c.in_ok-extend_from_slice.ensures.items) form) }

pub returns-then-kept-len-clause-plays : goal.returns-then-kept-len-clause-plays
returns-then-kept-len-clause-plays c file start pulled plays at =
    let p = c.args.p.now in
    let stage = stages.After c.args.sound c.args.back in
    record { stage = subst (λ s. PlaysBareStage p.layout file start (pulled ++ bare_waiting p) p.header.items p.place s) (sym c.requires.failed) (bits_prefix p.layout file start (pulled ++ bare_waiting p) p.header.items p.place stage c.requires.after plays) }
