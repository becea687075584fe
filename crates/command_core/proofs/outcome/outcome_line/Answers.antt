use Rattle.command_core.proofs.outcome.outcome_line.Goals as goal

pub returns-in-Played : goal.returns-in-Played
returns-in-Played c = rw c.in-Played.is c.played_line.ensures

pub returns-in-Spoken : goal.returns-in-Spoken
returns-in-Spoken c = rw c.in-Spoken.is c.played_line-in-Spoken.ensures

pub returns-in-Rejected : goal.returns-in-Rejected
returns-in-Rejected c = rw c.in-Rejected.is c.rejected_line.ensures

pub returns-in-WriteFailed : goal.returns-in-WriteFailed
returns-in-WriteFailed c = rw c.in-WriteFailed.is c.format-in-WriteFailed.ensures.ok
