use Rattle.std.proofs.Common.{◌≡◌, ◌<◌, ◌∙◌, [], arith, get_or, length, refl, subst}
use Rattle.std.specs.Prelude.{string_bytes}
use Rattle.std.proofs.lemmas.List.{length-map, take_all}
use Rattle.clip_core.specs.Contents.{mix_content}
use Rattle.folder_core.specs.Files.{View}
use Rattle.null_commands.specs.Sources.{ReadsNamed, ReadsNames}
use Rattle.null_commands.proofs.TakeLaws.{names_more, no_names}
use Rattle.null_commands.proofs.sources.read_takes.Goals as goal

pub loop-number-preserved : goal.loop-number-preserved
loop-number-preserved g c =
    let old = g.F.Folder.view c.args.folder.now in
    let mix = mix_content c.args.mix.now in
    let so_far = c.loop-number.invariant in
    let n = c.loop-number.number in
    let read = c.in_ok-next.ensures in
    let there : n < length mix.takes = omega (arith, c.loop-number-test.true, c.len-number-end.ensures, length-map c.args.mix.now.takes.items string_bytes) in
    record {
      same = c.numbered_take.ensures.same ∙ so_far.same;
      takes = names_more old mix mix.takes n there c.loop-number.takes c.push_take-takes.result c.in_ok-next.next so_far.takes (subst (λ (v : View). ReadsNamed v mix n (get_or mix.takes n []) c.in_ok-next.next) so_far.same read.take) c.push_take-takes.ensures;
    }

pub loop-number-init : goal.loop-number-init
loop-number-init g c = record {
  same = refl;
  takes = no_names (g.F.Folder.view c.args.folder.now) (mix_content c.args.mix.now) c.new.result c.new.ensures.items;
}

pub numbered_take-requires : goal.numbered_take-requires
numbered_take-requires g c = omega (arith, c.loop-number-test.true, c.len-number-end.ensures, length-map c.args.mix.now.takes.items string_bytes)

pub returns-in_err-next-clause-same : goal.returns-in_err-next-clause-same
returns-in_err-next-clause-same g c = c.numbered_take.ensures.same ∙ c.loop-number.invariant.same

pub returns : goal.returns
returns g c =
    let mix = mix_content c.args.mix.now in
    let n = c.loop-number.number in
    let so_far = c.loop-number.invariant in
    let many : n ≡ length mix.takes = omega (arith, c.loop-number-test.false, c.loop-number.auto.number-end, c.len-number-end.ensures, length-map c.args.mix.now.takes.items string_bytes) in
    record {
      same = so_far.same;
      takes = subst (λ names. ReadsNames (g.F.Folder.view c.args.folder.now) mix names c.loop-number.takes) (take_all n mix.takes (omega (arith, many))) so_far.takes;
      fault = tt;
    }
