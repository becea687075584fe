use Rattle.std.proofs.Common.{◌≡◌, ◌+◌, ◌^◌, ap, arith, length, map, refl, string_bytes, ◌∙◌}
use Rattle.std.proofs.lemmas.List.{length-map}
use Rattle.toml.specs.View.{table_view}
use Rattle.project_core.specs.declared.key.Key.TheVariants as keys
use Rattle.project_core.specs.declared.key.Table.TheVariants as tables
use Rattle.project_core.proofs.TableLaws.{table_ok}
use Rattle.project_core.proofs.StepLaws.{gives_fault, step_fails, then_fails, then_is}
use Rattle.mix_core.specs.ReadingMix.{mix_of, parts_at}
use Rattle.mix_core.proofs.NumberLaws.{number_ok}
use Rattle.mix_core.proofs.MixLaws.{read_says}
use Rattle.mix_core.proofs.mix_table.mix_of.Goals as goal
use Rattle.mix_core.proofs.mix_table.mix_of.Goals.{After-len}

pub overflow_cast-result : goal.overflow_cast-result
overflow_cast-result c =
    let unit = number_ok keys.Unit tables.Mix 1 (2 ^ 28 + 1) (table_view c.in_ok-table.table.now) c.in_ok-unit.unit c.in_ok-unit.ensures in
    omega (arith, unit.2)

pub invariant_of-result : goal.invariant_of-result
invariant_of-result c =
    let takes : length (map string_bytes c.in_ok-takes.takes.items) ≡ c.len.result = omega (arith, length-map c.in_ok-takes.takes.items string_bytes) in
    record {
      limits = (read_says (table_view c.in_ok-table.table.now) _ (table_ok _ _ _ _ _ c.in_ok-table.ensures).1 (record {
        unit = c.in_ok-unit.ensures;
        audible = c.in_ok-audible.ensures;
        limit = c.in_ok-limit.ensures;
        every = c.in_ok-every.ensures;
        takes = c.in_ok-takes.ensures;
        parts = rw takes c.in_ok-parts.ensures;
      })).limits;
    }

-- the number of takes
number_is : (c : After-len) → length (map string_bytes c.in_ok-takes.takes.items) ≡ c.len.result
number_is c = omega (arith, length-map c.in_ok-takes.takes.items string_bytes)

pub returns-in_err-audible : goal.returns-in_err-audible
unfolding mix_of
returns-in_err-audible c =
    gives_fault _ _ c.in_err-audible.field-0.0 _ c.from_residual-in_err-audible.ensures.1
    (then_fails c.in_err-audible.field-0.0 _ _ _ c.in_ok-table.ensures (then_fails c.in_err-audible.field-0.0 _ _ _ c.in_ok-unit.ensures (step_fails c.in_err-audible.field-0.0 _ _ c.in_err-audible.ensures)))

pub returns-in_err-limit : goal.returns-in_err-limit
unfolding mix_of
returns-in_err-limit c =
    gives_fault _ _ c.in_err-limit.field-0.0 _ c.from_residual-in_err-limit.ensures.1
    (then_fails c.in_err-limit.field-0.0 _ _ _ c.in_ok-table.ensures (then_fails c.in_err-limit.field-0.0 _ _ _ c.in_ok-unit.ensures (then_fails c.in_err-limit.field-0.0 _ _ _ c.in_ok-audible.ensures (step_fails c.in_err-limit.field-0.0 _ _ c.in_err-limit.ensures))))

pub returns-in_err-every : goal.returns-in_err-every
unfolding mix_of
returns-in_err-every c =
    gives_fault _ _ c.in_err-every.field-0.0 _ c.from_residual-in_err-every.ensures.1
    (then_fails c.in_err-every.field-0.0 _ _ _ c.in_ok-table.ensures (then_fails c.in_err-every.field-0.0 _ _ _ c.in_ok-unit.ensures (then_fails c.in_err-every.field-0.0 _ _ _ c.in_ok-audible.ensures (then_fails c.in_err-every.field-0.0 _ _ _ c.in_ok-limit.ensures (step_fails c.in_err-every.field-0.0 _ _ c.in_err-every.ensures)))))

pub returns-in_err-takes : goal.returns-in_err-takes
unfolding mix_of
returns-in_err-takes c =
    gives_fault _ _ c.in_err-takes.field-0.0 _ c.from_residual-in_err-takes.ensures.1
    (then_fails c.in_err-takes.field-0.0 _ _ _ c.in_ok-table.ensures (then_fails c.in_err-takes.field-0.0 _ _ _ c.in_ok-unit.ensures (then_fails c.in_err-takes.field-0.0 _ _ _ c.in_ok-audible.ensures (then_fails c.in_err-takes.field-0.0 _ _ _ c.in_ok-limit.ensures (then_fails c.in_err-takes.field-0.0 _ _ _ c.in_ok-every.ensures (step_fails c.in_err-takes.field-0.0 _ _ c.in_err-takes.ensures))))))

pub returns-in_err-parts : goal.returns-in_err-parts
unfolding mix_of
returns-in_err-parts c =
    let number = number_is (goal.at.returns-in_err-parts c).After-len in
    gives_fault _ _ c.in_err-parts.field-0.0 _ c.from_residual-in_err-parts.ensures.1
    (then_fails c.in_err-parts.field-0.0 _ _ _ c.in_ok-table.ensures (then_fails c.in_err-parts.field-0.0 _ _ _ c.in_ok-unit.ensures (then_fails c.in_err-parts.field-0.0 _ _ _ c.in_ok-audible.ensures (then_fails c.in_err-parts.field-0.0 _ _ _ c.in_ok-limit.ensures (then_fails c.in_err-parts.field-0.0 _ _ _ c.in_ok-every.ensures (then_fails c.in_err-parts.field-0.0 _ _ _ c.in_ok-takes.ensures (rw number (step_fails c.in_err-parts.field-0.0 _ _ c.in_err-parts.ensures))))))))

pub returns : goal.returns
unfolding mix_of
returns c =
    let number = number_is (goal.at.returns c).After-len in
    let parts = ap (λ n. parts_at n (table_view c.in_ok-table.table.now)) number ∙ c.in_ok-parts.ensures in
    then_is _ _ _ _ c.in_ok-table.ensures (then_is _ _ _ _ c.in_ok-unit.ensures (then_is _ _ _ _ c.in_ok-audible.ensures (then_is _ _ _ _ c.in_ok-limit.ensures (then_is _ _ _ _ c.in_ok-every.ensures (then_is _ _ _ _ c.in_ok-takes.ensures (then_is _ _ _ _ parts refl))))))
