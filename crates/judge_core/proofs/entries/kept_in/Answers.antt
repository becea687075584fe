use Rattle.std.proofs.Common.{◌≡◌, ◌<◌, ◌∙◌, Bool, Global, List, Vec, [], ap, arith, get_or, length, sym}
use Rattle.std.proofs.lemmas.List.{get_or-map, get_or_default, length-map}
use Rattle.judge_core.specs.Kept.{kept_items}
use Rattle.judge_core.proofs.entries.kept_in.Goals as goal

pub returns : goal.returns
returns c =
    let kept = c.args.kept.now in
    let items = λ (row : Vec (List Bool) Global). row.items in
    let row = c.index-kept-cue.result in
    let there : c.args.place.cue < length kept = omega (arith, c.requires.cue, length-map kept items) in
    let row_is : row.items ≡ get_or (kept_items kept) c.args.place.cue [] = ap items c.index-kept-cue.is ∙ sym (get_or-map items kept c.args.place.cue row [] there) in
    c.index.ensures ∙ get_or_default row.items c.args.place.channel c.index.result.now [] (omega (arith, c.requires.channel, ap length row_is)) ∙ ap (λ (l : List (List Bool)). get_or l c.args.place.channel []) row_is

pub bounds-kept-cue : goal.bounds-kept-cue
bounds-kept-cue c = omega (arith, c.requires.cue, length-map c.args.kept.now (λ (row : Vec (List Bool) Global). row.items))
