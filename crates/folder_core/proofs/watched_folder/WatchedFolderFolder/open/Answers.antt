use Rattle.folder_core.proofs.watched_folder.WatchedFolderFolder.open.Goals as goal

pub returns-clause-bytes : goal.returns-clause-bytes
returns-clause-bytes g c = c.in_ok-file.ensures.bytes
