use Rattle.std.proofs.Common.{◌≡◌, ◌+◌, ◌-◌, ◌*◌, Bool, List, [], ◌∷◌, ◌++◌, length, sym, ap, ap₂, ◌∙◌, arith, append_assoc, length-append}
use Rattle.std.proofs.lemmas.List.FromFn.{length-map-range_with_len, map-range_with_len_more}
use Rattle.dsd_bits.proofs.ExitLaws.{no_value}
use Rattle.native_core.specs.Native.{silence, silence_bit}
use Rattle.native_core.proofs.FillLaws.{units_fit}
use Rattle.native_core.proofs.filling.fill.Goals as goal

pub push_bit-requires : goal.push_bit-requires
push_bit-requires c =
    let count = c.len-count.result in
    let i = c.loop-i.i in
    let channel = c.args.channel.now in
    let most = units_fit c.args.unit count c.requires.unit (omega (arith, c.len-count.ensures.in_limit, c.len-count.ensures.value)) in
    let stop = ap (λ d. d * c.args.unit) c.div_ceil.ensures in
    let long = ap length c.loop-i.invariant.made ∙ length-append channel (silence count (i - count)) in
    omega (arith, c.loop-i.invariant.from, c.loop-i-test.true, most, stop, long, length-map-range_with_len silence_bit count (i - count), c.len-count.ensures.value)

pub loop-i-preserved : goal.loop-i-preserved
loop-i-preserved c =
    let count = c.len-count.result in
    let i = c.loop-i.i in
    let channel = c.args.channel.now in
    let from = c.loop-i.invariant.from in
    let more : silence count (i + 1 - count) ≡ silence count (i - count) ++ silence_bit i ∷ [] =
    ap (silence count) (omega (arith, from)) ∙ map-range_with_len_more silence_bit count (i - count) i (omega (arith, from)) in
    record {
      made = c.in_ok-push_bit.ensures.ok ∙ ap₂ (λ (xs : List Bool) (b : Bool). xs ++ b ∷ []) c.loop-i.invariant.made c.silence_at.ensures ∙ append_assoc channel (silence count (i - count)) (silence_bit i ∷ []) ∙ ap (λ s. channel ++ s) (sym more);
      from = omega (arith, from);
    }

pub returns-in_err-push_range : goal.returns-in_err-push_range
returns-in_err-push_range c = no_value _ _ c.from_residual.result c.from_residual.ensures.1

pub returns-in_err-push_bit : goal.returns-in_err-push_bit
returns-in_err-push_bit c = no_value _ _ c.from_residual-in_err-push_bit.result c.from_residual-in_err-push_bit.ensures.1
