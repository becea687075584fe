use Rattle.std.proofs.Common.{◌≡◌, ◌∙◌, ◌+◌, ◌++◌, ◌∷◌, [], List, ap, arith, map, sym, take, subst}
use Rattle.std.proofs.lemmas.List.{map-append, take_all, take_more}
use Rattle.null_core.specs.declared.part.Part.{Part}
use Rattle.null_core.specs.Alone.{AreHeard}
use Rattle.null_core.specs.Parts.{PartContent, part_content}
use Rattle.null_core.proofs.AloneLaws.{is_alone_from}
use Rattle.null_core.proofs.alone.alone_at.Goals as goal

pub returns : goal.returns
returns c =
    let loop = c.loop-part in
    let all : take loop.part-index c.args.parts.now ≡ c.args.parts.now = take_all loop.part-index c.args.parts.now c.loop-part-test.false in
    is_alone_from (map part_content c.args.parts.now) c.args.m loop.until loop.invariant.some loop.heard
    (λ k from to. subst (λ (parts : List Part). AreHeard loop.heard (map part_content parts) c.args.m k) all (loop.invariant.each k from to)) c.source_of.result c.source_of.ensures

pub loop-part-preserved : goal.loop-part-preserved
loop-part-preserved c =
    let parts = c.args.parts.now in
    let i = c.loop-part.part-index in
    let part = c.part-item.result in
    let kept = c.loop-part.invariant in
    let next = c.part_heard-next.ensures in
    let more : map part_content (take (i + 1) parts) ≡ map part_content (take i parts) ++ part_content part ∷ [] =
    ap (map part_content) (take_more parts i part c.loop-part-test.true) ∙ map-append part_content (take i parts) _ ∙ ap (λ (p : Part). map part_content (take i parts) ++ part_content p ∷ []) (sym c.part-item.is) in
    record {
      some = omega (arith, c.min-until.ensures, kept.some, next.some);
      each = λ k from to. subst (λ (parts : List PartContent). AreHeard c.with-heard.result parts c.args.m k) (sym more)
          (c.with-heard.ensures (map part_content (take i parts)) (part_content part) c.args.m k (kept.each k from (omega (arith, c.min-until.ensures, to))) (next.each k from (omega (arith, c.min-until.ensures, to))));
    }
