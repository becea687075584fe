-- A file of a folder whose prefix was read.
use Rattle.std.specs.Prelude.{ℕ, List, Option}
use Rattle.std.specs.Io.KnownBytes.{prepend_known}
use Rattle.transfer_commands.specs.declared.opened.OpenedFile.{OpenedFile}

-- the bytes of a file from its start: those that were read, and those that it has left
abbrev pub left_of : {R : Type 0} → (R → Option (List ℕ)) → OpenedFile R → Option (List ℕ)
left_of left opened = prepend_known opened.prefix.items (left opened.file)
