use Rattle.std.proofs.Common.{◌≡◌, ◌<◌, ◌≤◌, ℕ, List, length, vec_len, vec_capacity}
use Rattle.dsd_bits.specs.Contents.{Content}
use Rattle.form_core.specs.Forms.{HoldsSome}
use Rattle.clip_core.specs.Contents.{mix_content}
use Rattle.cut_core.specs.Cuts.{take_at}
use Rattle.cut_core.specs.Opening.{file_bytes}
use Rattle.null_core.specs.Calling.{file_at}
use Rattle.null_core.specs.Holding.{AreExcerpts}
use Rattle.null_core.proofs.calling.read_takes.Given as goal

abbrev pub invariant-loop-number : goal.invariant-loop-number
invariant-loop-number l = record {
  whole : List Content;
  inside : l.number ≤ length l.files;
  many : length whole ≡ l.number;
  held : (i : ℕ) → i < l.number → HoldsSome (file_at (file_bytes l.files) i) (take_at whole i);
  excerpts : AreExcerpts (mix_content l.mix) whole l.takes.items;
  len : vec_len l.takes ≡ l.number;
  room : length l.files ≤ vec_capacity l.takes;
}
