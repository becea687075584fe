use Rattle.command_core.proofs.performing.convert_all.Goals as goal

pub returns-then-speakers : goal.returns-then-speakers
returns-then-speakers g c = rw c.if-speakers.true (c.convert_speakers_file.result, c.converted_speakers.ensures, c.convert_speakers_file.ensures)

pub returns-else-speakers : goal.returns-else-speakers
returns-else-speakers g c = rw c.if-speakers.false (c.convert_file.result, c.converted.ensures, c.convert_file.ensures)
