use Rattle.std.proofs.Common.{◌≡◌, ◌∙◌, ap, arith, get_or, length, map, string_bytes, subst, sym}
use Rattle.std.proofs.lemmas.List.{get_or-map, length-map}
use Rattle.std.proofs.lemmas.List.Elements.{All-get_or}
use Rattle.splice_core.specs.Cues.{CueContent, IsCueWithin, cue_content}
use Rattle.cut_core.proofs.cues.cue_at.Goals as goal

pub returns-clause-fits : goal.returns-clause-fits
returns-clause-fits c =
    let splice = c.args.splice.now in
    let cue = c.index.result.now in
    let lt = c.requires in
    let is : get_or (map cue_content splice.cues.items) c.args.number (cue_content cue) ≡ cue_content cue = get_or-map cue_content splice.cues.items c.args.number cue (cue_content cue) (omega (arith, length-map splice.cues.items cue_content)) ∙ ap cue_content (sym c.index.ensures) in
    let fits = All-get_or (IsCueWithin (length splice.weights.items) (length splice.takes.items)) (map cue_content splice.cues.items) c.args.number (cue_content cue) lt splice.limits.each_fits in
    rw (length-map splice.takes.items string_bytes) (subst (λ (q : CueContent). IsCueWithin (length splice.weights.items) (length splice.takes.items) q) is fits)
