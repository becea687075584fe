use Rattle.std.proofs.Common.{IfOk, subst}
use Rattle.null_core.specs.Candidates.{HoldsCandidate}
use Rattle.null_core.specs.Files.{IsReadIn}
use Rattle.null_core.proofs.calling.judge_file.Goals as goal

pub returns : goal.returns
returns c =
    let read = c.read_master-found in
    record {
      found = c.judge_found.ensures.found c.args.file.now (subst (λ b. IfOk read.result (IsReadIn (HoldsCandidate c.args.mixed.now) b.now)) c.new.ensures.reader read.ensures.found);
      memory = c.judge_found.ensures.memory;
    }
