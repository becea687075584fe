use Rattle.std.proofs.Common.{◌≡◌, ◌+◌, ◌-◌, ◌^◌, IfOk, map, length, ap, sym, ◌∙◌, subst, arith}
use Rattle.std.proofs.lemmas.List.FromFn.{length-map-range_with_len}
use Rattle.null_core.specs.Judging.{AppendErrors}
use Rattle.null_core.specs.Mixing.{AreSmall, mixes_from}
use Rattle.null_core.specs.Parts.{asked_content, mix_at, part_content}
use Rattle.null_core.proofs.errors.push_errors.Goals as goal
use Rattle.null_core.proofs.errors.push_errors.Goals.{After-deref}

mix_is : (c : After-deref) → c.deref.result.now ≡ mixes_from (map part_content c.args.asked.parts.now) c.args.from (c.args.to - c.args.from)
mix_is c = c.deref.ensures.value ∙ c.in_ok-mix_between.ensures.mix

long : (c : After-deref) → length c.deref.result.now ≡ c.args.to - c.args.from
long c = ap length (mix_is c) ∙ length-map-range_with_len (mix_at (map part_content c.args.asked.parts.now)) c.args.from (c.args.to - c.args.from)

pub push_quiet-requires : goal.push_quiet-requires
push_quiet-requires c =
    let here = (goal.at.push_quiet-requires c).After-deref in
    record {
      unit = c.requires.asked.unit_fits;
      inside = omega (arith, long here, c.requires.in_order, c.requires.inside);
      mix = mix_is here ∙ ap (mixes_from (map part_content c.args.asked.parts.now) c.args.from) (sym (long here));
      small = subst (AreSmall (2 ^ 60)) (sym c.deref.ensures.value) c.in_ok-mix_between.ensures.bound;
    }

pub returns : goal.returns
returns c =
    let here = (goal.at.returns c).After-deref in
    let end : c.args.from + length c.deref.result.now ≡ c.args.to = omega (arith, long here, c.requires.in_order) in
    subst (λ to. IfOk c.push_quiet.result (AppendErrors (asked_content c.args.asked) c.args.bits.now c.args.from to c.args.errors.now.items c.push_quiet.new.errors.items)) end c.push_quiet.ensures
