-- What contracts see of a folder in memory.
use Rattle.std.specs.Prelude.{option_map, true}
use Rattle.std.specs.BTreeMap.{get_by_text}
use Rattle.folder_core.specs.Files.{Files, View}
use Rattle.folder_core.specs.declared.memory_folder.MemoryFolder.{MemoryFolder}

-- the bytes of the file of each name
abbrev pub files_of : MemoryFolder → Files
files_of folder = λ name. option_map (λ v. v.items) (get_by_text folder.files name)

-- its bytes are known, each opening gives those, and an old file is kept
abbrev pub view_of : MemoryFolder → View
view_of folder = record { is_known = true; given = λ time. files_of folder; file = files_of folder; keeps_old = true }
