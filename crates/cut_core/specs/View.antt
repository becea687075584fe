-- What a `Cut` means.
use Rattle.std.specs.Prelude.{List, map}
use Rattle.dsd_bits.specs.Contents.{Content}
use Rattle.splice_core.specs.Splices.{splice_content}
use Rattle.cut_core.specs.declared.cut.Cut.TheInside.{Inside}
use Rattle.cut_core.specs.Cuts.{CutContent, FitTakes}
use Rattle.cut_core.specs.Excerpts.{AreExcerpts, excerpts_content, cut_of_excerpts}
use Rattle.cut_core.specs.Rooms.{HaveRoom}

-- the cut of the splice and of what was read, as the fields hold them
abbrev pub cut_content : Inside → CutContent
cut_content x = cut_of_excerpts (splice_content x.splice) (map excerpts_content x.takes.items)

-- the fields hold what was read of takes that can be cut
pub record KeepsCut (x : Inside) : Type 0 where
  pub takes : List Content
  pub excerpts : AreExcerpts (splice_content x.splice) takes x.takes.items
  pub fit : FitTakes (splice_content x.splice) takes
  pub room : HaveRoom (splice_content x.splice) takes
