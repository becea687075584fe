use Rattle.std.proofs.Common.{◌≡◌, length, subst}
use Rattle.std.proofs.lemmas.List.Elements.{All-more}
use Rattle.dsd_bits.specs.declared.marks.Other.{Other}
use Rattle.dsd_bits.specs.Contents.{OtherContent, other_content}
use Rattle.dsdiff_core.proofs.WritingLemmas.{all_seen}
use Rattle.dsdiff_core.proofs.fields.others_fit.Goals as goal

pub loop-other-preserved : goal.loop-other-preserved
loop-other-preserved c =
    let Fits : Other → Type 0 = λ o. length o.id ≡ 4 in
    All-more Fits c.args.others.now c.loop-other.other-index c.other-item.result c.loop-other-test.true c.loop-other.invariant (subst Fits c.other-item.is c.id_fits.ensures)

pub returns : goal.returns
returns c = all_seen (λ (o : OtherContent). length o.id ≡ 4) other_content c.args.others.now c.loop-other.other-index c.loop-other-test.false c.loop-other.invariant
