use Rattle.std.proofs.Common.{◌≡◌, ◌∙◌, ◌∷◌, ◌+◌, [], ap, arith, length, map, subst, sym}
use Rattle.std.proofs.lemmas.List.{length-map, map-append}
use Rattle.std.proofs.lemmas.Result.{err_from_is_err_and}
use Rattle.clip_core.specs.Clips.{clip_content}
use Rattle.clip_core.specs.Contents.{mix_content}
use Rattle.null_core.specs.Parts.{part_content}
use Rattle.null_core.specs.Reading.{mixed_of}
use Rattle.null_core.proofs.ChannelLaws.{ArePartsTo, all_parts, no_parts, one_more}
use Rattle.null_core.proofs.channels.parts_of.Goals as goal

pub loop-clip-init : goal.loop-clip-init
loop-clip-init c = rw c.new-parts.ensures.items (no_parts (mixed_of (mix_content c.args.mix.now) c.args.takes.now) c.args.channel)

pub part_of-requires : goal.part_of-requires
part_of-requires c = record {
  mixed = c.requires.mixed;
  decoders = c.requires.decoders;
  channel = c.requires.channel;
  clip = omega (arith, c.loop-clip-test.true, c.len-clip-end.ensures, length-map c.args.mix.now.clips.items clip_content);
}

pub returns-in_err-push : goal.returns-in_err-push
returns-in_err-push c = let e = err_from_is_err_and c.from_residual.result c.from_residual.ensures.1 in record { parts = rw e.1 tt; fit = rw e.1 tt }

pub loop-clip-preserved : goal.loop-clip-preserved
loop-clip-preserved c =
    let mixed = mixed_of (mix_content c.args.mix.now) c.args.takes.now in
    let parts = c.loop-clip.parts.items in
    let more = one_more mixed c.args.channel c.loop-clip.clip (map part_content parts) (part_content c.part_of.result) c.loop-clip.invariant c.part_of.ensures.part c.part_of.ensures.fits in
    subst (ArePartsTo mixed c.args.channel (c.loop-clip.clip + 1)) (sym (ap (map part_content) c.in_ok-push.ensures.items ∙ map-append part_content parts (c.part_of.result ∷ []))) more

pub returns : goal.returns
returns c =
    let mixed = mixed_of (mix_content c.args.mix.now) c.args.takes.now in
    let parts = map part_content c.loop-clip.parts.items in
    let end : c.loop-clip.clip ≡ length (mix_content c.args.mix.now).clips = omega (arith, c.loop-clip-test.false, c.loop-clip.auto.clip-end, c.len-clip-end.ensures, length-map c.args.mix.now.clips.items clip_content) in
    record { parts = all_parts mixed c.args.channel parts (subst (λ n. ArePartsTo mixed c.args.channel n parts) end c.loop-clip.invariant); fit = c.loop-clip.invariant.fit }
