use Rattle.chunk_core.specs.Inlets.{inlet_reader}
use Rattle.null_core.specs.Candidates.{HoldsCandidate, IsFilledOf}
use Rattle.null_core.proofs.FileLaws.{given_read, left_read}
use Rattle.null_core.proofs.master_reading.read_master.Goals as goal

pub returns-in-Ok-clause-found : goal.returns-in-Ok-clause-found
returns-in-Ok-clause-found g c = left_read (HoldsCandidate c.args.mixed.now) c.candidate_of.result (IsFilledOf c.args.mixed.now c.in-Ok.filled) c.candidate_of.ensures (g.R.Read.remaining (inlet_reader c.args.inlet.now)) c.in-Ok.ensures.ok.1

pub returns-in-Ok-clause-any_reader : goal.returns-in-Ok-clause-any_reader
returns-in-Ok-clause-any_reader g c = given_read (HoldsCandidate c.args.mixed.now) c.candidate_of.result (IsFilledOf c.args.mixed.now c.in-Ok.filled) c.candidate_of.ensures g.R.Read.remaining c.args.inlet.now c.fill.new.inlet c.in-Ok.ensures.any_reader

pub candidate_of-requires : goal.candidate_of-requires
candidate_of-requires g c =
    let given = c.in-Ok.ensures.any_reader in
    record { stated = c.in-Ok.ensures.ok.0; file = given.0; is = given.2 }
