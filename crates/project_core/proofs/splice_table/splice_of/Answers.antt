use Rattle.std.proofs.Common.{arith, map, length, string_bytes, ◌≡◌, ◌-◌, ap₂, refl, sym, ◌∙◌}
use Rattle.std.proofs.lemmas.Bool.{ne_eqb}
use Rattle.std.proofs.lemmas.List.{length-map}
use Rattle.splice_core.specs.Cues.{cue_content, last_bridge}
use Rattle.project_core.specs.ReadingSplice.{cues_at, splice_of}
use Rattle.toml.specs.View.{table_view}
use Rattle.project_core.proofs.SpliceLaws.{weights_ok, cues_ok}
use Rattle.project_core.proofs.TakeLaws.{takes_ok}
use Rattle.project_core.proofs.StepLaws.{gives_fault, step_fails, then_fails, then_is}
use Rattle.project_core.proofs.splice_table.splice_of.Goals as goal
use Rattle.project_core.proofs.splice_table.splice_of.Goals.{After-len-2}

pub cues_at-requires : goal.cues_at-requires
cues_at-requires c = omega (arith, (weights_ok _ c.in_ok-weights.weights.items c.in_ok-weights.ensures).1.few_weights)

pub invariant_of-result : goal.invariant_of-result
invariant_of-result c =
    let takes = takes_ok _ _ (map string_bytes c.in_ok-takes.takes.items) c.in_ok-takes.ensures in
    let cues = cues_ok _ _ _ (map cue_content c.in_ok-cues.cues.items) c.in_ok-cues.ensures in
    let m : length c.in_ok-weights.weights.items ≡ c.len.result = omega arith in
    let n : length c.in_ok-takes.takes.items ≡ c.len-2.result = omega arith in
    let last : last_bridge (map cue_content c.in_ok-cues.cues.items) ≡ 0 = rw (← c.deref.ensures.value) (sym c.last_bridge-bridge.ensures ∙ c.if-bridge-ne0.false) in
    record {
      limits = record {
        weights_fit = (weights_ok _ c.in_ok-weights.weights.items c.in_ok-weights.ensures).1;
        some_takes = simp length-map at takes.1.0;
        few_takes = simp length-map at takes.1.1;
        some_cues = cues.1.0;
        few_cues = cues.1.1;
        each_fits = rw (m, n) cues.2;
        no_last_bridge = last;
      };
    }

-- the numbers that the cues are read with
numbers_are : (c : After-len-2) → (length c.in_ok-weights.weights.items ≡ c.len.result) × (length (map string_bytes c.in_ok-takes.takes.items) ≡ c.len-2.result)
numbers_are c = (omega arith, omega (arith, length-map c.in_ok-takes.takes.items string_bytes))

pub returns-in_err-cues : goal.returns-in_err-cues
unfolding splice_of
returns-in_err-cues c =
    let numbers = numbers_are (goal.at.returns-in_err-cues c).After-len-2 in
    gives_fault _ _ c.in_err-cues.field-0.0 _ c.from_residual-in_err-cues.ensures.1
    (then_fails c.in_err-cues.field-0.0 _ _ _ c.in_ok-table.ensures (then_fails c.in_err-cues.field-0.0 _ _ _ c.in_ok-weights.ensures (then_fails c.in_err-cues.field-0.0 _ _ _ c.in_ok-takes.ensures (rw (numbers.0, numbers.1) (step_fails c.in_err-cues.field-0.0 _ _ c.in_err-cues.ensures)))))

pub returns-then-bridge-ne0 : goal.returns-then-bridge-ne0
unfolding splice_of
returns-then-bridge-ne0 c =
    let numbers = numbers_are (goal.at.returns-then-bridge-ne0 c).After-len-2 in
    let cues = ap₂ (λ m n. cues_at m n (table_view c.in_ok-table.table.now)) numbers.0 numbers.1 ∙ c.in_ok-cues.ensures in
    let last : last_bridge (map cue_content c.in_ok-cues.cues.items) ≡ c.last_bridge-bridge.result = rw (← c.deref.ensures.value) (sym c.last_bridge-bridge.ensures) in
    let number : length (map cue_content c.in_ok-cues.cues.items) - 1 ≡ c.saturating_sub-cue.result = omega (arith, length-map c.in_ok-cues.cues.items cue_content) in
    then_is _ _ _ _ c.in_ok-table.ensures (then_is _ _ _ _ c.in_ok-weights.ensures (then_is _ _ _ _ c.in_ok-takes.ensures (then_is _ _ _ _ cues (rw (last, number, ne_eqb _ 0 c.if-bridge-ne0.true) refl))))

pub returns : goal.returns
unfolding splice_of
returns c =
    let numbers = numbers_are (goal.at.returns c).After-len-2 in
    let cues = ap₂ (λ m n. cues_at m n (table_view c.in_ok-table.table.now)) numbers.0 numbers.1 ∙ c.in_ok-cues.ensures in
    let last : last_bridge (map cue_content c.in_ok-cues.cues.items) ≡ c.last_bridge-bridge.result = rw (← c.deref.ensures.value) (sym c.last_bridge-bridge.ensures) in
    then_is _ _ _ _ c.in_ok-table.ensures (then_is _ _ _ _ c.in_ok-weights.ensures (then_is _ _ _ _ c.in_ok-takes.ensures (then_is _ _ _ _ cues (rw (last, c.if-bridge-ne0.false) refl))))
