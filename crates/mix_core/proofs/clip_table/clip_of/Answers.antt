use Rattle.std.proofs.Common.{◌≡◌, ◌+◌, ◌-◌, ◌^◌, ap, arith, refl, ◌∙◌}
use Rattle.toml.specs.View.{table_view}
use Rattle.project_core.specs.declared.key.Key.TheVariants as keys
use Rattle.project_core.specs.declared.key.Table.TheVariants as tables
use Rattle.project_core.proofs.StepLaws.{gives_fault, step_fails, then_fails, then_is}
use Rattle.mix_core.specs.Reading.{number_at}
use Rattle.mix_core.specs.ReadingMix.{clip_of}
use Rattle.mix_core.proofs.clip_table.clip_of.Goals as goal
use Rattle.mix_core.proofs.clip_table.clip_of.Goals.{After-saturating_sub-after}

-- the bound of the length
bound_is : (c : After-saturating_sub-after) → 2 ^ 36 + 1 - c.in_ok-at.at ≡ c.saturating_sub-after.result
bound_is c = omega arith

pub returns-in_err-decoder : goal.returns-in_err-decoder
unfolding clip_of
returns-in_err-decoder c =
    gives_fault _ _ c.in_err-decoder.field-0.0 _ c.from_residual-in_err-decoder.ensures.1
    (then_fails c.in_err-decoder.field-0.0 _ _ _ c.in_ok-table.ensures (then_fails c.in_err-decoder.field-0.0 _ _ _ c.in_ok-take.ensures (step_fails c.in_err-decoder.field-0.0 _ _ c.in_err-decoder.ensures)))

pub returns-in_err-start : goal.returns-in_err-start
unfolding clip_of
returns-in_err-start c =
    gives_fault _ _ c.in_err-start.field-0.0 _ c.from_residual-in_err-start.ensures.1
    (then_fails c.in_err-start.field-0.0 _ _ _ c.in_ok-table.ensures (then_fails c.in_err-start.field-0.0 _ _ _ c.in_ok-take.ensures (then_fails c.in_err-start.field-0.0 _ _ _ c.in_ok-decoder.ensures (step_fails c.in_err-start.field-0.0 _ _ c.in_err-start.ensures))))

pub returns-in_err-at : goal.returns-in_err-at
unfolding clip_of
returns-in_err-at c =
    gives_fault _ _ c.in_err-at.field-0.0 _ c.from_residual-in_err-at.ensures.1
    (then_fails c.in_err-at.field-0.0 _ _ _ c.in_ok-table.ensures (then_fails c.in_err-at.field-0.0 _ _ _ c.in_ok-take.ensures (then_fails c.in_err-at.field-0.0 _ _ _ c.in_ok-decoder.ensures (then_fails c.in_err-at.field-0.0 _ _ _ c.in_ok-start.ensures (step_fails c.in_err-at.field-0.0 _ _ c.in_err-at.ensures)))))

pub returns-in_err-length : goal.returns-in_err-length
unfolding clip_of
returns-in_err-length c =
    let bound = bound_is (goal.at.returns-in_err-length c).After-saturating_sub-after in
    gives_fault _ _ c.in_err-length.field-0.0 _ c.from_residual-in_err-length.ensures.1
    (then_fails c.in_err-length.field-0.0 _ _ _ c.in_ok-table.ensures (then_fails c.in_err-length.field-0.0 _ _ _ c.in_ok-take.ensures (then_fails c.in_err-length.field-0.0 _ _ _ c.in_ok-decoder.ensures (then_fails c.in_err-length.field-0.0 _ _ _ c.in_ok-start.ensures (then_fails c.in_err-length.field-0.0 _ _ _ c.in_ok-at.ensures (rw bound (step_fails c.in_err-length.field-0.0 _ _ c.in_err-length.ensures)))))))

pub returns-in_err-gains : goal.returns-in_err-gains
unfolding clip_of
returns-in_err-gains c =
    let bound = bound_is (goal.at.returns-in_err-gains c).After-saturating_sub-after in
    let length = ap (λ n. number_at keys.Length (tables.Clip c.args.number) 1 n (table_view c.in_ok-table.table.now)) bound ∙ c.in_ok-length.ensures in
    gives_fault _ _ c.in_err-gains.field-0.0 _ c.from_residual-in_err-gains.ensures.1
    (then_fails c.in_err-gains.field-0.0 _ _ _ c.in_ok-table.ensures (then_fails c.in_err-gains.field-0.0 _ _ _ c.in_ok-take.ensures (then_fails c.in_err-gains.field-0.0 _ _ _ c.in_ok-decoder.ensures (then_fails c.in_err-gains.field-0.0 _ _ _ c.in_ok-start.ensures (then_fails c.in_err-gains.field-0.0 _ _ _ c.in_ok-at.ensures (then_fails c.in_err-gains.field-0.0 _ _ _ length (step_fails c.in_err-gains.field-0.0 _ _ c.in_err-gains.ensures)))))))

pub returns : goal.returns
unfolding clip_of
returns c =
    let bound = bound_is (goal.at.returns c).After-saturating_sub-after in
    let length = ap (λ n. number_at keys.Length (tables.Clip c.args.number) 1 n (table_view c.in_ok-table.table.now)) bound ∙ c.in_ok-length.ensures in
    then_is _ _ _ _ c.in_ok-table.ensures (then_is _ _ _ _ c.in_ok-take.ensures (then_is _ _ _ _ c.in_ok-decoder.ensures (then_is _ _ _ _ c.in_ok-start.ensures (then_is _ _ _ _ c.in_ok-at.ensures (then_is _ _ _ _ length (then_is _ _ _ _ c.in_ok-gains.ensures refl))))))
