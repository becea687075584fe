use Rattle.std.proofs.Common.{◌∙◌, IfOk, subst}
use Rattle.clip_core.specs.Contents.{mix_content}
use Rattle.folder_core.specs.Files.{View}
use Rattle.null_commands.specs.Sources.{ReadsNames}
use Rattle.null_commands.proofs.SourceLaws.{with_read, with_unread}
use Rattle.null_commands.proofs.sources.read_sources.Goals as goal

pub returns : goal.returns
returns g c =
    let old = g.F.Folder.view c.args.folder.now in
    let mix = c.in_ok-mix.mix in
    let takes = c.read_takes-takes.result in
    let read = c.read_mix.ensures.same in
    record {
      same = c.read_takes-takes.ensures.same ∙ read;
      sources = with_read old c.args.name.now mix takes c.with_takes.result c.in_ok-mix.ensures.mix (subst (λ (v : View). IfOk takes (ReadsNames v (mix_content mix) (mix_content mix).takes)) read c.read_takes-takes.ensures.takes) c.with_takes.ensures.sources;
      fault = with_unread old c.args.name.now takes c.with_takes.result c.read_takes-takes.ensures.fault c.with_takes.ensures.fault;
    }
