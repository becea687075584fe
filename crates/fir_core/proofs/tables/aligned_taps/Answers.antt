use Rattle.std.proofs.Common.{◌+◌, ◌-◌, ◌*◌, ◌%◌, ◌∙◌, ap, arith, reverse}
use Rattle.fir_core.specs.Windows.{aligned}
use Rattle.fir_core.proofs.WindowLaws.{aligned_made}
use Rattle.fir_core.proofs.tables.aligned_taps.Goals as goal

pub returns : goal.returns
returns c =
    let a = c.taps.inside in
    aligned_made a.taps.items c.new-made.result.items c.resize.new.self.items c.as_slice-2.result.now c.extend_from_slice.new.self.items c.resize-2.new.self.items a.delay
    (c.len-number.result + (7 - a.delay % 8)) (8 * c.div_ceil-size.result) c.new-made.result.len c.extend_from_slice.new.self.len
    (omega (arith, c.len-number.ensures, a.taps.ok.0)) (ap (λ m. 8 * m) c.div_ceil-size.ensures) c.new-made.ensures.items c.new-made.ensures.len c.in_ok-resize.ensures.items
    (c.as_slice-2.ensures.value ∙ c.reverse.ensures.items ∙ ap reverse (c.in_ok-reversed.ensures.items ∙ c.as_slice.ensures.value))
    c.in_ok-extend_from_slice.ensures.items (omega (arith, c.extend_from_slice.new.self.ok.0)) c.in_ok-resize-2.ensures.items
    ∙ ap (λ d. aligned d.taps d.delay) c.taps.view_is
