use Rattle.std.proofs.Common.{◌≡◌, ◌*◌, ◌/◌, ◌++◌, length, sym, refl, inr, ap, ap₂, ◌∙◌, arith}
use Rattle.std.specs.Int.{div_ceil}
use Rattle.std.proofs.Math.Nat.{mul_assoc}
use Rattle.dsd_bits.specs.declared.interleaving.Interleaving.TheVariants.{Bytes}
use Rattle.dsd_bits.specs.Lacing.{laced}
use Rattle.dsd_bits.specs.Sounds.{sound_channels, sound_size}
use Rattle.interleave_core.proofs.FrameLaws.{same_frames}
use Rattle.native_core.specs.Native.{all_filled, dop_samples, native_of}
use Rattle.native_core.specs.declared.layout.Layout.TheVariants as layouts
use Rattle.native_core.proofs.ChannelLaws.{all_whole, filled_has, laced_long, sound_has}
use Rattle.native_core.proofs.native.push_samples.Goals as goal

pub push_dop-requires-clause-whole : goal.push_dop-requires-clause-whole
push_dop-requires-clause-whole c =
    let s = c.args.stretch in
    let d = s.count / 16 in
    let from_bytes : c.args.from ≡ Bytes = c.in-Bytes.is in
    (d, c.requires.size ∙ ap (λ o. sound_size o s.channels s.count) from_bytes ∙ ap (λ m. m * s.channels) (let m : s.count / 8 ≡ 2 * d = omega (arith, c.if-stretch-eq0.true) in m) ∙ mul_assoc 2 d s.channels)

pub returns-in-Bytes : goal.returns-in-Bytes
returns-in-Bytes c =
    let s = c.args.stretch in
    let from = c.args.from in
    let bytes = c.args.bytes.now in
    let from_bytes : from ≡ Bytes = c.in-Bytes.is in
    let channels = sound_channels from s.channels s.count bytes in
    let has = sound_has from s.channels s.count bytes s.channel_number.0 c.requires.size c.requires.from_whole in
    let size = c.requires.size ∙ ap (λ o. sound_size o s.channels s.count) from_bytes in
    let is : laced (all_filled 16 channels) ≡ bytes = ap laced (all_whole 16 channels s.channels s.count (inr refl) c.if-stretch-eq0.true has)
    ∙ same_frames bytes s.channels s.count s.channel_number.0 (c.requires.from_whole from_bytes) size s.in_limit (λ k. omega (arith, c.type_inv.bytes k)) from Bytes from_bytes refl in
    let same : dop_samples s.channels bytes ≡ native_of layouts.Dop from s.channels s.count bytes = sym (ap₂ dop_samples has.number is) in
    record { ok = rw (← same) c.push_dop.ensures }

pub push_dop-requires-in_default-clause-whole : goal.push_dop-requires-in_default-clause-whole
push_dop-requires-in_default-clause-whole c =
    let s = c.args.stretch in
    let d = div_ceil s.count 16 in
    let channels = sound_channels c.args.from s.channels s.count c.args.bytes.now in
    let has = filled_has 16 channels s.channels s.count (inr refl) (sound_has c.args.from s.channels s.count c.args.bytes.now s.channel_number.0 c.requires.size c.requires.from_whole) in
    let is : c.deref.result.now ≡ laced (all_filled 16 channels) = c.deref.ensures.value ∙ c.in_ok-push_filled-in_default.ensures.ok ∙ ap (λ bs. bs ++ laced (all_filled 16 channels)) c.new-own.ensures.items in
    (d, ap length is ∙ laced_long (all_filled 16 channels) s.channels (d * 16) s.channel_number.0 has ∙ ap (λ m. m * s.channels) (let m : d * 16 / 8 ≡ 2 * d = omega arith in m) ∙ mul_assoc 2 d s.channels)

pub returns-in_ok-push_filled-in_default : goal.returns-in_ok-push_filled-in_default
returns-in_ok-push_filled-in_default c =
    let s = c.args.stretch in
    let from = c.args.from in
    let bytes = c.args.bytes.now in
    let channels = sound_channels from s.channels s.count bytes in
    let number = (sound_has from s.channels s.count bytes s.channel_number.0 c.requires.size c.requires.from_whole).number in
    let is : c.deref.result.now ≡ laced (all_filled 16 channels) = c.deref.ensures.value ∙ c.in_ok-push_filled-in_default.ensures.ok ∙ ap (λ bs. bs ++ laced (all_filled 16 channels)) c.new-own.ensures.items in
    let same : dop_samples s.channels c.deref.result.now ≡ native_of layouts.Dop from s.channels s.count bytes =
    ap (dop_samples s.channels) is ∙ ap (λ m. dop_samples m (laced (all_filled 16 channels))) (sym number) in
    record { ok = rw (← same) c.push_dop-in_default.ensures }
