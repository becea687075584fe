-- Which files the folder of the operating system doesn't replace.
use Rattle.std.specs.Prelude.{◌==◌, ◌&&◌, Bool, List, take}
use Rattle.std.specs.List.{list_any}
use Rattle.folder_core.specs.declared.opened.FileId.{FileId}
use Rattle.folder_core.specs.declared.opened.Opened.{Opened}

-- whether a file is one of these: it has the device and the number of one
abbrev pub is_among : FileId → List FileId → Bool
is_among file files = list_any (λ other. (other.device == file.device) && (other.inode == file.inode)) files

-- the files that may not be replaced, which are the first of those that were opened
abbrev pub protected_files : Opened → List FileId
protected_files opened = take opened.protected opened.sources.items
