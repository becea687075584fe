use Rattle.std.proofs.Common.{ap, subst}
use Rattle.std.proofs.lemmas.Result.{IfErr-weaker, IfOk-weaker}
use Rattle.folder_core.specs.GappedFiles.{left_but_gaps}
use Rattle.transfer_commands.specs.Neighbours.{KeepsLeft}
use Rattle.transfer_commands.specs.Outlining.{IsUnoutlinedLeft}
use Rattle.transfer_commands.proofs.NeighbourLaws.{kept_without}
use Rattle.transfer_commands.proofs.SkippedLaws.{joined, unoutlined_without}
use Rattle.transfer_commands.proofs.neighbour.kept_of.Goals as goal

pub returns-clause-kept : goal.returns-clause-kept
returns-clause-kept g c =
    let opened = c.args.opened in
    let left = g.F.In.Read.remaining in
    let bytes = opened.prefix.items in
    let gaps = c.gaps_beside-gaps.result in
    let beside = c.gaps_beside-gaps.ensures in
    let states = c.requires.states in
    let same = joined c.new.result.inner.items bytes c.deref.result.now c.new.result.pos gaps (left_but_gaps left c.rest_but-rest.result) (left opened.file) c.chain.ensures.bytes (ap (λ v. v.items) c.new.ensures.inner) c.new.ensures.position c.rest_but-rest.ensures c.deref.ensures.value in
    IfOk-weaker c.keep_reader.result _ _ (λ k h. kept_without bytes opened.sound c.args.range gaps states beside.in_sound (beside.unkept states.is_sound) (left opened.file) k (subst (λ o. KeepsLeft o c.args.range k) same h)) c.keep_reader.ensures.kept

pub returns-clause-fault : goal.returns-clause-fault
returns-clause-fault g c =
    let opened = c.args.opened in
    let left = g.F.In.Read.remaining in
    let bytes = opened.prefix.items in
    let gaps = c.gaps_beside-gaps.result in
    let same = joined c.new.result.inner.items bytes c.deref.result.now c.new.result.pos gaps (left_but_gaps left c.rest_but-rest.result) (left opened.file) c.chain.ensures.bytes (ap (λ v. v.items) c.new.ensures.inner) c.new.ensures.position c.rest_but-rest.ensures c.deref.ensures.value in
    IfErr-weaker c.keep_reader.result _ _ (λ fault h. unoutlined_without bytes opened.sound gaps c.requires.states c.gaps_beside-gaps.ensures.in_sound (left opened.file) fault (subst (λ o. IsUnoutlinedLeft o fault) same h)) c.keep_reader.ensures.fault
