use Rattle.std.proofs.Common.{◌≡◌, sym, subst, arith}
use Rattle.dsd_bits.specs.Lacing.{AreLaced, laced}
use Rattle.dsd_bits.proofs.LacingLemmas.{are_laced}
use Rattle.dsd_bits.proofs.lacing.lace_bytes.Goals as goal

pub returns-clause-places : goal.returns-clause-places
returns-clause-places c =
    let channels = c.args.channels.now in
    let text : c.push_laced.new.out.items ≡ laced channels = grind arith in
    subst (AreLaced channels) (sym text) (are_laced channels c.requires.level c.requires.whole_bytes c.requires.channel_number.0)
