use Rattle.std.proofs.Common.{◌≡◌, ℤ, List, Vec, Global, Bool, false, true, ap, arith, length, map, refl, subst, sym, ◌∙◌}
use Rattle.std.proofs.lemmas.List.{length-map}
use Rattle.toml.specs.View.{items_view}
use Rattle.clip_core.specs.declared.clip.Clip.{Clip}
use Rattle.clip_core.specs.Clips.{clip_content}
use Rattle.project_core.specs.Tables.{list_of}
use Rattle.project_core.proofs.StepLaws.{gives_fault, step_fails, then_fails, then_is}
use Rattle.mix_core.specs.ReadingMix.{are_apart, clips_of, parts_at}
use Rattle.mix_core.proofs.mix_table.parts_at.Goals as goal
use Rattle.mix_core.proofs.mix_table.parts_at.Goals.{After-len}

abbrev held : Vec ℤ Global → List ℤ
held taps = taps.items

-- the number of decoders
number_is : (c : After-len) → length (map held c.in_ok-decoders-2.decoders.items) ≡ c.len.result
number_is c = omega (arith, length-map c.in_ok-decoders-2.decoders.items held)

-- whether the clips are apart
apart_is : (clips found : List Clip) (b : Bool) → found ≡ clips → b ≡ are_apart (map clip_content found) → are_apart (map clip_content clips) ≡ b
apart_is clips found b same is = subst (λ (cs : List Clip). are_apart (map clip_content cs) ≡ b) same (sym is)

pub returns-in_err-decoders : goal.returns-in_err-decoders
unfolding parts_at
returns-in_err-decoders c =
    let e = c.in_err-decoders.field-0.0 in
    gives_fault _ _ e _ c.from_residual.ensures.1 (step_fails e _ _ c.in_err-decoders.ensures)

pub returns-in_err-clips : goal.returns-in_err-clips
unfolding parts_at
returns-in_err-clips c =
    let e = c.in_err-clips.field-0.0 in
    gives_fault _ _ e _ c.from_residual-in_err-clips.ensures.1 (then_fails e _ _ _ c.in_ok-decoders.ensures (step_fails e _ _ c.in_err-clips.ensures))

pub returns-in_err-decoders-2 : goal.returns-in_err-decoders-2
unfolding parts_at
returns-in_err-decoders-2 c =
    let e = c.in_err-decoders-2.field-0.0 in
    gives_fault _ _ e _ c.from_residual-in_err-decoders-2.ensures.1 (then_fails e _ _ _ c.in_ok-decoders.ensures (then_fails e _ _ _ c.in_ok-clips.ensures (step_fails e _ _ c.in_err-decoders-2.ensures)))

pub returns-in_err-clips-2 : goal.returns-in_err-clips-2
unfolding parts_at
returns-in_err-clips-2 c =
    let e = c.in_err-clips-2.field-0.0 in
    let number = number_is (goal.at.returns-in_err-clips-2 c).After-len in
    gives_fault _ _ e _ c.from_residual-in_err-clips-2.ensures.1 (then_fails e _ _ _ c.in_ok-decoders.ensures (then_fails e _ _ _ c.in_ok-clips.ensures (then_fails e _ _ _ c.in_ok-decoders-2.ensures (rw number (step_fails e _ _ c.in_err-clips-2.ensures)))))

pub returns-then-not-are_apart : goal.returns-then-not-are_apart
unfolding parts_at
returns-then-not-are_apart c =
    let number = number_is (goal.at.returns-then-not-are_apart c).After-len in
    let clips = ap (λ n. clips_of c.args.takes n (list_of (items_view c.in_ok-clips.clips.now))) number ∙ c.in_ok-clips-2.ensures in
    let apart = apart_is c.in_ok-clips-2.clips.items c.deref.result.now false c.deref.ensures.value c.if-not-are_apart.ensures in
    then_is _ _ _ _ c.in_ok-decoders.ensures (then_is _ _ _ _ c.in_ok-clips.ensures (then_is _ _ _ _ c.in_ok-decoders-2.ensures (then_is _ _ _ _ clips (rw apart refl))))

pub returns : goal.returns
unfolding parts_at
returns c =
    let number = number_is (goal.at.returns c).After-len in
    let clips = ap (λ n. clips_of c.args.takes n (list_of (items_view c.in_ok-clips.clips.now))) number ∙ c.in_ok-clips-2.ensures in
    let apart = apart_is c.in_ok-clips-2.clips.items c.deref.result.now true c.deref.ensures.value c.if-not-are_apart.ensures in
    then_is _ _ _ _ c.in_ok-decoders.ensures (then_is _ _ _ _ c.in_ok-clips.ensures (then_is _ _ _ _ c.in_ok-decoders-2.ensures (then_is _ _ _ _ clips (rw apart refl))))
