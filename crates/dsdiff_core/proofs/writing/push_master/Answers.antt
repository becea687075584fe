use Rattle.std.proofs.Common.{arith}
use Rattle.std.proofs.lemmas.Bool.Decides.{nat_tests}
use Rattle.dsdiff_core.specs.Writing.{master_chunks}
use Rattle.dsdiff_core.proofs.WritingLemmas.{master_none, master_some}
use Rattle.dsdiff_core.proofs.writing.push_master.Goals as goal
use Rattle.dsdiff_core.proofs.writing.push_master.Goals.{then-not-is_empty+in_ok-push_chunk, else-not-is_empty}

pub returns : goal.returns
returns c =
    let cs = master_chunks c.args.recording.now in
    elim c.if-not-is_empty.branch [
      | then-not-is_empty+in_ok-push_chunk w ↦
          master_some cs c.in_ok-master.master.items c.args.out.now.items _ c.in_ok-master.ensures (grind (arith, nat_tests)) (grind arith)
      | else-not-is_empty w ↦ master_none cs c.in_ok-master.master.items c.args.out.now.items _ c.in_ok-master.ensures (grind (arith, nat_tests)) (grind arith)
    ]
