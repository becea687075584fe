use Rattle.std.proofs.Common.{◌<◌, ◌∙◌, Bool, List, [], Vec, ap, arith, get_or, length, sym}
use Rattle.std.proofs.lemmas.List.{get_or-map, get_or_read_under, length-map}
use Rattle.std.specs.declared.alloc.Global.{Global}
use Rattle.cut_core.specs.Excerpts.{ExcerptsContent}
use Rattle.cut_core.proofs.cues.stretch.Goals as goal

pub returns : goal.returns
returns c =
    let f = λ (s : Vec (List Bool) Global). s.items in
    let stretches = c.take_of.result.now.stretches.items in
    let are = ap (λ (h : ExcerptsContent). h.stretches) c.take_of.ensures.excerpts in
    let there : c.args.cue < length stretches = omega (arith, ap length are, length-map stretches f, c.requires.there.cue_there) in
    let own = ap f c.index.ensures ∙ sym (get_or-map f stretches c.args.cue c.index.result.now [] there) ∙ ap (λ l. get_or l c.args.cue []) are in
    get_or_read_under c.index.result.now.items c.args.channel _ c.index-2.result.now [] c.index-2.ensures c.requires.there.channel_there (ap length (sym own)) ∙ ap (λ l. get_or l c.args.channel []) own
