use Rattle.archive_core.proofs.planning.PlannedMaster.write_certificate.Goals as goal

pub returns : goal.returns
returns g c = record { ok = c.certify.ensures.ok; err = c.certify.ensures.err; failures = c.certify.ensures.failures }
