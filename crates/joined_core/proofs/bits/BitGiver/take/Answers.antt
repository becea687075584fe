use Rattle.std.proofs.Common.{◌≡◌, ◌*◌, ◌/◌, ◌≤◌, ◌++◌, ◌∙◌, ap, arith, drop, length, length-append, refl, sym, take}
use Rattle.std.proofs.Math.Nat.{div-mul-le_self}
use Rattle.dsd_bits.specs.declared.interleaving.Interleaving.TheVariants.{Bytes}
use Rattle.native_core.specs.Native.{native_of}
use Rattle.joined_core.specs.Bits.{groups_size}
use Rattle.joined_core.proofs.BitLaws.{given_on, group_bytes}
use Rattle.joined_core.proofs.bits.BitGiver.take.Goals as goal

pub push_native-requires-clause-size : goal.push_native-requires-clause-size
push_native-requires-clause-size c = c.split_at.ensures.front_len ∙ sym (group_bytes c.args.self.channels (c.len.result / (c.args.self.channels * 4096)))

pub returns : goal.returns
returns c =
    let g = c.args.self in
    let n = g.channels in
    let bytes = c.args.bytes.now in
    let k = c.len.result / (n * 4096) in
    let held : c.deref.result.now ≡ g.part.items ++ bytes = c.deref.ensures.value ∙ c.in_ok-extend_from_slice.ensures.items in
    let long : c.len.result ≡ length (g.part.items ++ bytes) = omega (arith, c.len.ensures, c.extend_from_slice.new.self.ok.0, ap length c.in_ok-extend_from_slice.ensures.items) in
    let few : groups_size n k ≤ length (g.part.items ++ bytes) = omega (arith, long, div-mul-le_self c.len.result (n * 4096)) in
    let whole : c.split_at.result.0.now ≡ take (groups_size n k) (g.part.items ++ bytes) = c.split_at.ensures.front ∙ ap (take (groups_size n k)) held in
    let rest : c.in_ok-from_slice.field-0.items ≡ drop (groups_size n k) (g.part.items ++ bytes) = c.in_ok-from_slice.ensures.items ∙ c.split_at.ensures.back ∙ ap (drop (groups_size n k)) held in
    record {
      ready = record {
        some = c.requires.ready.some;
        six = c.requires.ready.six;
        few = omega (arith, c.requires.few);
        part = omega (arith, ap length c.in_ok-from_slice.ensures.items, c.split_at.ensures.back_len, ap length held, length-append g.part.items bytes, c.requires.ready.part);
      };
      layout = refl;
      channels = refl;
      fed = refl;
      more = native_of g.layout Bytes n (k * 32768) (take (groups_size n k) (g.part.items ++ bytes));
      appends = c.in_ok-push_native.ensures.ok ∙ ap (λ xs. c.args.out.now.items ++ native_of g.layout Bytes n (k * 32768) xs) whole;
      gives = λ before given h. given_on g c.requires.ready.some before given h bytes k _ few refl refl refl rest;
    }
