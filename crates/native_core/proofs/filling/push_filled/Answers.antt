use Rattle.std.proofs.Common.{◌≡◌, ◌%◌, ap, ◌∙◌}
use Rattle.dsd_bits.specs.Channels.{count_of}
use Rattle.dsd_bits.specs.Sounds.{sound_channels}
use Rattle.native_core.specs.Native.{all_filled}
use Rattle.native_core.proofs.ChannelLaws.{all_whole, filled_has, has_count, has_level, sound_has}
use Rattle.native_core.proofs.FillLaws.{units_whole}
use Rattle.native_core.proofs.filling.push_filled.Goals as goal

pub returns-then-stretch-unit-eq0 : goal.returns-then-stretch-unit-eq0
returns-then-stretch-unit-eq0 c =
    let s = c.args.stretch in
    let channels = sound_channels c.args.from s.channels s.count c.args.bytes.now in
    let same : all_filled c.args.unit channels ≡ channels = all_whole c.args.unit channels s.channels s.count c.requires.unit c.if-stretch-unit-eq0.true (sound_has c.args.from s.channels s.count c.args.bytes.now s.channel_number.0 c.requires.size c.requires.from_whole) in
    record { ok = rw same c.push_reinterleaved.ensures.ok }

pub push_laced-requires-clause-level : goal.push_laced-requires-clause-level
push_laced-requires-clause-level c =
    let s = c.args.stretch in
    let u = c.args.unit in
    let channels = sound_channels c.args.from s.channels s.count c.args.bytes.now in
    let has = filled_has u channels s.channels s.count c.requires.unit (sound_has c.args.from s.channels s.count c.args.bytes.now s.channel_number.0 c.requires.size c.requires.from_whole) in
    let is : c.deref-2.result.now ≡ all_filled u channels = c.deref-2.ensures.value ∙ c.in_ok-full.ensures ∙ ap (all_filled u) (c.deref.ensures.value ∙ c.in_ok-channels.ensures.bits) in
    rw is (has_level (all_filled u channels) s.channels _ s.channel_number.0 has)

pub push_laced-requires-clause-whole_bytes : goal.push_laced-requires-clause-whole_bytes
push_laced-requires-clause-whole_bytes c =
    let s = c.args.stretch in
    let u = c.args.unit in
    let channels = sound_channels c.args.from s.channels s.count c.args.bytes.now in
    let has = filled_has u channels s.channels s.count c.requires.unit (sound_has c.args.from s.channels s.count c.args.bytes.now s.channel_number.0 c.requires.size c.requires.from_whole) in
    let is : c.deref-2.result.now ≡ all_filled u channels = c.deref-2.ensures.value ∙ c.in_ok-full.ensures ∙ ap (all_filled u) (c.deref.ensures.value ∙ c.in_ok-channels.ensures.bits) in
    ap (λ xs. count_of xs % 8) is ∙ ap (λ k. k % 8) (has_count (all_filled u channels) s.channels _ s.channel_number.0 has) ∙ units_whole u s.count c.requires.unit
