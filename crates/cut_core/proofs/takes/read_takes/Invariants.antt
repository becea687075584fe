use Rattle.std.proofs.Common.{◌≡◌, ◌≤◌, List, Ok, length, vec_len, vec_capacity}
use Rattle.dsd_bits.specs.Contents.{Content}
use Rattle.splice_core.specs.Splices.{splice_content}
use Rattle.cut_core.specs.Excerpts.{AreExcerpts}
use Rattle.cut_core.specs.Opening.{file_bytes, takes_before}
use Rattle.cut_core.proofs.takes.read_takes.Given as goal

abbrev pub invariant-loop-number : goal.invariant-loop-number
invariant-loop-number l = record {
  whole : List Content;
  before : takes_before (file_bytes l.files) l.number ≡ Ok whole;
  many : length whole ≡ l.number;
  excerpts : AreExcerpts (splice_content l.splice) whole l.takes.items;
  len : vec_len l.takes ≡ l.number;
  room : length l.files ≤ vec_capacity l.takes;
}
