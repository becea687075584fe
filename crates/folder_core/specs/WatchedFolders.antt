-- What contracts see of a folder that is watched.
use Rattle.std.specs.Prelude.{Bool, is_some}
use Rattle.folder_core.specs.declared.progress.ProgressLine.{ProgressLine}
use Rattle.folder_core.specs.declared.watched_folder.WatchedFile.{WatchedFile}
use Rattle.folder_core.specs.declared.watched_folder.WatchedFolder.{WatchedFolder}

-- the folder that is watched
abbrev pub watched_folder : {F R : Type 0} → WatchedFolder F R → F
watched_folder folder = folder.folder

-- the file that is watched
abbrev pub watched_file : {I R : Type 0} → WatchedFile I R → I
watched_file file = file.file

-- whether anything is shown: it is known when the folder was made
abbrev pub shows : {F R : Type 0} → WatchedFolder F R → Bool
shows folder = is_some folder.start

-- whether a line is ever written: it is known when it was made
abbrev pub is_written : {R : Type 0} → ProgressLine R → Bool
is_written line = is_some line.start
