-- Best sums that are capped at the cost.
use Rattle.std.proofs.Common.{◌≡◌, ℕ, ◌+◌, ◌<◌, ◌≤◌, min, Bool, List, [], length, map, get_or, sym, ap, ◌∙◌, arith}
use Rattle.std.proofs.lemmas.List.{get_or-map, length-map}
use Rattle.cost_core.specs.Trellis.{Trellis, states, next}
use Rattle.cost_core.specs.Tables.{IsTable, row_in, value_in}
use Rattle.cost_core.specs.Validity.{IsValid}
use Rattle.cost_core.specs.Bridges.{bridge_cost}
use Rattle.cost_core.specs.StateCosts.{trellis_of}
use Rattle.cost_core.proofs.Limits.{costs_in_bounds}
use Rattle.cost_core.proofs.Walks.{next_below}
use Rattle.trellis_core.specs.Handing.{CappedRowsAreValid, capped_at}
use Rattle.trellis_core.proofs.LeastSums.{best_rows_are_valid}

-- the rows of a capped table, and their values
module _ (t : Trellis) (c : ℕ) (rows : List (List ℕ)) (table : IsTable t rows) where
  cap_row : (level : ℕ) → level ≤ t.levels → row_in (map (capped_at c) rows) level ≡ capped_at c (row_in rows level)
  cap_row level h = get_or-map (capped_at c) rows level [] [] (omega (arith, table.levels_in))

  pub capped_table : IsTable t (map (capped_at c) rows)
  capped_table = record {
    levels_in = length-map rows (capped_at c) ∙ table.levels_in;
    states_in = λ level h. ap length (cap_row level h) ∙ length-map (row_in rows level) (λ v. min v c) ∙ table.states_in level h;
  }

  pub capped_value : (level q : ℕ) → level ≤ t.levels → q < states t → min (value_in rows level q) c ≡ value_in (map (capped_at c) rows) level q
  capped_value level q h hq =
      sym (ap (λ row. get_or row q 0) (cap_row level h) ∙ get_or-map (λ v. min v c) (row_in rows level) q 0 0 (omega (arith, hq, table.states_in level h)))

-- bounds that are capped at the cost stay valid
capped_valid : (t : Trellis) (a b : ℕ → ℕ → ℕ) (c : ℕ) (x : List Bool) → t.start < states t → ((level q : ℕ) → level ≤ t.levels → q < states t → min (a level q) c ≡ b level q) → IsValid t a c x → IsValid t b c x
capped_valid t a b c x start capped v = record {
  bounded = λ level q h hq. omega (arith, v.bounded level q h hq, capped level q h hq);
  at_start = omega (arith, capped 0 t.start (omega arith) start, v.at_start);
  at_step = λ level q bit h hq. omega (arith, v.at_step level q bit h hq, capped level q (omega arith) hq, capped (level + 1) (next t.width q bit) (omega arith) (next_below t q bit));
  at_end = λ q hq. omega (arith, v.at_end q hq, capped t.levels q (omega arith) hq);
  is_cost = v.is_cost;
}

pub capped_rows_are_valid : CappedRowsAreValid
capped_rows_are_valid d rows x limits best least =
    let t = trellis_of d in
    let c = bridge_cost d x in (
      capped_table t c rows best.is_table,
      capped_valid t (value_in rows) (value_in (map (capped_at c) rows)) c x (costs_in_bounds d limits).start_in (capped_value t c rows best.is_table) (best_rows_are_valid d rows x limits best least),
    )
