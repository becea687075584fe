use Rattle.std.proofs.Common.{◌≡◌, take}
use Rattle.splice_core.specs.Splices.{splice_content}
use Rattle.cut_core.specs.Opening.{IsOfTakes}
use Rattle.transfer_commands.specs.Excerpts.{ReadsAllExcerpts}
use Rattle.transfer_commands.proofs.excerpts.read_excerpts.Given as goal

abbrev pub invariant-loop-number : goal.invariant-loop-number
invariant-loop-number g l = record {
  same : g.F.Folder.view l.folder ≡ g.F.Folder.view l.initial.folder;
  excerpts : ReadsAllExcerpts (g.F.Folder.view l.initial.folder) (splice_content l.splice) (take l.number (splice_content l.splice).takes) l.excerpts;
  of : IsOfTakes (splice_content l.splice) l.number l.excerpts;
}
