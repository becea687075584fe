use Rattle.std.proofs.Common.{◌≡◌, take}
use Rattle.clip_core.specs.Contents.{mix_content}
use Rattle.null_commands.specs.Sources.{ReadsNames}
use Rattle.null_commands.proofs.sources.read_takes.Given as goal

abbrev pub invariant-loop-number : goal.invariant-loop-number
invariant-loop-number g l = record {
  same : g.F.Folder.view l.folder ≡ g.F.Folder.view l.initial.folder;
  takes : ReadsNames (g.F.Folder.view l.initial.folder) (mix_content l.mix) (take l.number (mix_content l.mix).takes) l.takes;
}
