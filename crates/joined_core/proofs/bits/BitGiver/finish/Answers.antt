use Rattle.std.proofs.Common.{◌≡◌, ◌*◌, ◌/◌, ◌∙◌, ap, arith, length, take}
use Rattle.dsd_bits.specs.declared.interleaving.Interleaving.TheVariants.{Bytes}
use Rattle.native_core.specs.Native.{native_of}
use Rattle.joined_core.proofs.BitLaws.{all_given, on_map}
use Rattle.joined_core.proofs.bits.BitGiver.finish.Goals as goal

pub push_native-requires-clause-size : goal.push_native-requires-clause-size
push_native-requires-clause-size c =
    let n = c.args.self.now.channels in
    let frames = c.len.result / n in
    let same : frames ≡ frames * 8 / 8 = omega arith in
    c.split_at.ensures.front_len ∙ ap (λ m. m * n) same

pub returns : goal.returns
returns c =
    let g = c.args.self.now in
    let n = g.channels in
    let front = c.split_at.result.0.now in
    let long : c.len.result ≡ length g.part.items = omega (arith, c.len.ensures, g.part.ok.0) in
    let front_is : front ≡ take (c.len.result / n * n) g.part.items = c.split_at.ensures.front ∙ ap (take (c.len.result / n * n)) c.deref.ensures.value in
    on_map c.push_native.result
    (λ ok. record {
      more = native_of g.layout Bytes n (c.len.result / n * 8) front;
      appends = ok;
      all = λ bytes given frames whole h. all_given g c.requires.ready.some c.len.result long front front_is bytes given frames whole h;
    }) c.push_native.ensures.ok
