use Rattle.std.proofs.Common.{◌≡◌, ◌^◌, ◌-◌, ◌++◌, false, List, [], OnOk, Option, string_bytes, subst, ℕ}
use Rattle.std.specs.Fmt.{AppendsText, format_spec, padded_integral, styled_digits_output}
use Rattle.std.specs.Option.{option_map}
use Rattle.std.proofs.lemmas.Fmt.{hex_byte}
use Rattle.command_core.proofs.summing.push_byte.Goals as goal

pub returns : goal.returns
returns c =
    let small = c.ranges.byte.fits in
    let old = string_bytes c.args.text.now in
    let new = string_bytes c.write.new.self in
    let styled = subst (λ s. OnOk c.write.result (AppendsText old new (styled_digits_output c.in_radix.result s))) c.laid_out.ensures c.write.ensures.bytes in
    let padded = subst (λ (o : Option (List ℕ)). OnOk c.write.result (AppendsText old new (option_map (padded_integral (format_spec 32 0 4 2 (2 ^ 64 - 1)) false []) o))) c.in_radix.ensures styled in
    subst (λ (xs : List ℕ). OnOk c.write.result (new ≡ old ++ xs)) (hex_byte false c.args.byte small) padded
