use Rattle.std.proofs.Common.{◌≡◌, ◌-◌, ◌^◌, ◌∙◌, pos, ap, length, map, replicate, refl, subst, sym, arith}
use Rattle.std.proofs.lemmas.List.{length-replicate}
use Rattle.std.proofs.lemmas.List.FromFn.{length-map-range_with_len}
use Rattle.null_core.specs.Mixing.{AreSmall, mixes_from}
use Rattle.null_core.specs.Parts.{mix_at, part_content}
use Rattle.null_core.proofs.AroundLaws.{only_zeros}
use Rattle.null_core.proofs.MixLaws.{written_back}
use Rattle.null_core.proofs.mixing.mix_between.Goals as goal
use Rattle.null_core.proofs.mixing.mix_between.Goals.{After-deref_mut-2}

zeros : (c : After-deref_mut-2) → c.deref_mut-2.result.now ≡ replicate (c.args.to - c.args.from) (pos 0)
zeros c =
    let number = c.args.to - c.args.from in
    c.deref_mut-2.ensures.value ∙ only_zeros c.clear.new.self.items c.resize-2.new.self.items number number c.clear.new.self.len refl c.clear.ensures.items (omega (arith, c.clear.new.self.ok.0)) c.in_ok-resize-2.ensures.items

long : (c : After-deref_mut-2) → length c.deref_mut-2.result.now ≡ c.args.to - c.args.from
long c = ap length (zeros c) ∙ length-replicate (c.args.to - c.args.from) (pos 0)

pub add_parts-requires : goal.add_parts-requires
add_parts-requires c =
    let p = (goal.at.add_parts-requires c).After-deref_mut-2 in
    record {
      parts = c.requires.parts;
      long = omega (arith, c.deref_mut.ensures.len, c.in_ok-resize.ensures.len, long p);
      inside = omega (arith, long p, c.requires.in_order, c.requires.inside);
      zeros = zeros p ∙ ap (λ n. replicate n (pos 0)) (sym (long p));
    }

pub returns : goal.returns
returns c =
    let p = (goal.at.returns c).After-deref_mut-2 in
    let parts = map part_content c.args.parts.now in
    let mixed = c.add_parts.new.mixed in
    let items = c.resize-2.new.self.items in
    let same : length mixed ≡ length items =
    ap length c.add_parts.ensures.mix ∙ length-map-range_with_len (mix_at parts) c.args.from (length c.deref_mut-2.result.now) ∙ ap length c.deref_mut-2.ensures.value in
    let back = written_back c.resize-2.new.self.len mixed items (omega (arith, c.resize-2.new.self.ok.0)) same in
    record {
      mix = back ∙ c.add_parts.ensures.mix ∙ ap (mixes_from parts c.args.from) (long p);
      bound = subst (AreSmall (2 ^ 60)) (sym back) c.add_parts.ensures.bound;
    }
