use Rattle.std.proofs.Common.{ap, subst}
use Rattle.folder_core.specs.GappedFiles.{left_but_gaps}
use Rattle.transfer_commands.specs.Playing.{PlaysTo}
use Rattle.transfer_commands.proofs.SkippedLaws.{joined, played_without}
use Rattle.transfer_commands.proofs.playing.play_source.Goals as goal

pub returns : goal.returns
returns g c =
    let source = c.args.source in
    let held = g.F.Out.Write.contents in
    let left = g.F.In.Read.remaining in
    let bytes = source.prefix.items in
    let same = joined c.new.result.inner.items bytes c.deref.result.now c.new.result.pos source.gaps (left_but_gaps left c.rest_but-rest.result) (left source.file) c.chain.ensures.bytes (ap (λ v. v.items) c.new.ensures.inner) c.new.ensures.position c.rest_but-rest.ensures c.deref.ensures.value in
    played_without held source.project.now source.range bytes source.gaps c.requires (left source.file) c.args.wave c.play_reader.result.1 c.play_reader.result.0
    (subst (λ o. PlaysTo held source.project.now source.range o c.args.wave c.play_reader.result.1 c.play_reader.result.0) same c.play_reader.ensures)
