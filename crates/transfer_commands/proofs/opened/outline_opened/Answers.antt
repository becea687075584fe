use Rattle.std.proofs.Common.{ap, subst}
use Rattle.std.proofs.lemmas.Result.{IfErr-weaker, IfOk-weaker}
use Rattle.folder_core.specs.GappedFiles.{left_but_gaps}
use Rattle.transfer_commands.specs.Outlining.{IsUnoutlinedLeft, OutlinesLeft}
use Rattle.transfer_commands.proofs.SkippedLaws.{joined, outlined_without, unoutlined_without}
use Rattle.transfer_commands.proofs.opened.outline_opened.Goals as goal

pub returns-clause-found : goal.returns-clause-found
returns-clause-found g c =
    let opened = c.args.opened in
    let left = g.F.In.Read.remaining in
    let bytes = opened.prefix.items in
    let gaps = c.sound_gap.result in
    let same = joined c.new.result.inner.items bytes c.deref.result.now c.new.result.pos gaps (left_but_gaps left c.rest_but-rest.result) (left opened.file) c.chain.ensures.bytes (ap (λ v. v.items) c.new.ensures.inner) c.new.ensures.position c.rest_but-rest.ensures c.deref.ensures.value in
    IfOk-weaker c.outline_reader.result _ _ (λ outline h. outlined_without bytes opened.sound gaps c.requires c.sound_gap.ensures (left opened.file) outline (subst (λ o. OutlinesLeft o outline) same h)) c.outline_reader.ensures.found

pub returns-clause-fault : goal.returns-clause-fault
returns-clause-fault g c =
    let opened = c.args.opened in
    let left = g.F.In.Read.remaining in
    let bytes = opened.prefix.items in
    let gaps = c.sound_gap.result in
    let same = joined c.new.result.inner.items bytes c.deref.result.now c.new.result.pos gaps (left_but_gaps left c.rest_but-rest.result) (left opened.file) c.chain.ensures.bytes (ap (λ v. v.items) c.new.ensures.inner) c.new.ensures.position c.rest_but-rest.ensures c.deref.ensures.value in
    IfErr-weaker c.outline_reader.result _ _ (λ fault h. unoutlined_without bytes opened.sound gaps c.requires c.sound_gap.ensures (left opened.file) fault (subst (λ o. IsUnoutlinedLeft o fault) same h)) c.outline_reader.ensures.fault
