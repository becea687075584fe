use Rattle.std.proofs.Common.{◌≡◌, ◌∙◌, ap, arith, length}
use Rattle.dsd_bits.specs.declared.interleaving.Interleaving.TheVariants.{Bytes}
use Rattle.dsd_bits.proofs.ShiftingLemmas.{written_back}
use Rattle.player_core.specs.Groups.{channel_part}
use Rattle.player_core.proofs.GroupLaws.{strided_is}
use Rattle.player_core.proofs.groups.fill_strided.Goals as goal

pub returns : goal.returns
returns c =
    let size : length c.pick.new.to ≡ c.resize.new.self.len = omega (arith, c.pick.auto.to, c.as_mut_slice.ensures.len, c.in_ok-resize.ensures.len) in
    let number : length c.pick.new.to ≡ c.args.number = omega (arith, size, c.in_ok-resize.ensures.len) in
    written_back c.pick.new.to _ c.resize.new.self.len size
    ∙ strided_is c.pick.new.to c.args.groups.now c.args.channels c.args.channel (λ frame h. c.pick.ensures frame (omega (arith, c.pick.auto.to)))
    ∙ ap (channel_part Bytes c.args.channels c.args.groups.now c.args.channel 0) number
