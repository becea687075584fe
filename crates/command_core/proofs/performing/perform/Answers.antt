use Rattle.command_core.proofs.performing.perform.Goals as goal

pub returns-in-PlayDop : goal.returns-in-PlayDop
returns-in-PlayDop g c = record { done = rw c.in-PlayDop.is (c.play_dop_file.result, c.played.ensures, c.play_dop_file.ensures); sums = tt; same = tt }

pub returns-in-Edit : goal.returns-in-Edit
returns-in-Edit g c = record { done = rw c.in-Edit.is (c.edit_files.result, c.edited.ensures, c.edit_files.ensures); sums = tt; same = tt }

pub returns-in-Check : goal.returns-in-Check
returns-in-Check g c = record { done = rw c.in-Check.is (c.check_files.result, c.judged.ensures, c.check_files.ensures); sums = tt; same = tt }

pub returns-in-NullTest : goal.returns-in-NullTest
returns-in-NullTest g c = record { done = rw c.in-NullTest.is (c.null_test_files.result, c.tested.ensures, c.null_test_files.ensures); sums = tt; same = tt }

pub returns-in-Info : goal.returns-in-Info
returns-in-Info g c = record { done = rw c.in-Info.is (c.open_file.result, c.reported.ensures, c.open_file.ensures); sums = tt; same = tt }
