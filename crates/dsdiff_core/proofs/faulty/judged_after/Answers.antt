use Rattle.std.proofs.Common.{ap, sym}
use Rattle.dsdiff_core.proofs.FaultyLaws.{judged_on}
use Rattle.dsdiff_core.proofs.faulty.judged_after.Goals as goal

pub returns : goal.returns
returns c = λ file lead s j own is_property.
    judged_on file lead s c.args.start _ c.args.id c.eq-is_version.result c.args.is_property c.eq-is_sound.result c.is_second-second.result j own (sym c.eq-is_version.ensures) is_property (sym c.eq-is_sound.ensures) c.is_second-second.ensures
    (ap (λ x. x.0) c.fault_with-fault.ensures) (ap (λ x. x.1) c.fault_with-fault.ensures) c.either.ensures c.either-2.ensures c.either-3.ensures
