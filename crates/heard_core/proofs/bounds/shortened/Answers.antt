use Rattle.std.proofs.Common.{◌≡◌, ◌∙◌, ◌+◌, ◌/◌, ◌^◌, arith, min}
use Rattle.heard_core.proofs.BoundLaws.{above_low, below_high, rounded_fits}
use Rattle.heard_core.proofs.bounds.shortened.Goals as goal

pub overflow_add-rounded : goal.overflow_add-rounded
overflow_add-rounded c = record { fits = rounded_fits c.args.high c.saturating_sub-spare.result c.from.result c.ranges.high.fits (c.from.ensures ∙ c.min.ensures) }

pub returns-then-rounded-gt-MOST : goal.returns-then-rounded-gt-MOST
returns-then-rounded-gt-MOST c n l h = c.unknown.ensures n

pub returns : goal.returns
returns c n l h known =
    let spare = c.saturating_sub-spare.result in
    let shift : c.args.shift + c.from-2.result ≡ c.args.shift + spare = (λ i. c.args.shift + c.from-2.ensures i) in
    let high : c.args.high / 2 ^ spare + c.from.result ≡ c.args.high / 2 ^ spare + min spare 1 = (λ i. c.args.high / 2 ^ spare + (c.from.ensures ∙ c.min.ensures) i) in
    record {
      at_least = above_low c.args.low spare c.args.shift _ _ n (omega (arith, c.min-2.ensures)) shift l;
      at_most = below_high c.args.high spare c.args.shift _ _ n high shift h;
    }
