-- Why a command is refused, by the fault of a file.
use Rattle.folder_core.specs.declared.fault.FileFault.{FileFault}
use Rattle.folder_core.specs.declared.fault.FileFault.TheVariants as files
use Rattle.request_core.specs.declared.fault.Fault.TheVariants.{Memory}
use Rattle.transfer_commands.specs.declared.fault.CommandFault.{CommandFault}
use Rattle.transfer_commands.specs.declared.fault.CommandFault.TheVariants.{Call, ReadFailed, WriteFailed}

-- a file that could not be read or written
abbrev pub of_file : FileFault → CommandFault
of_file files.ReadFailed = ReadFailed
of_file files.WriteFailed = WriteFailed
of_file files.Memory = Call Memory
