-- Which fault of a call a fault of a lower call becomes.
use Rattle.std.specs.Prelude.{◌≡◌, Result, Ok, Err, ⊤}
use Rattle.dsdiff_core.specs.declared.write_fault.WriteFault.{WriteFault}
use Rattle.dsdiff_core.specs.declared.write_fault.WriteFault.TheVariants as writes
use Rattle.project_core.specs.declared.fault.ProjectFault.{ProjectFault}
use Rattle.project_core.specs.declared.fault.ProjectFault.TheVariants as projects
use Rattle.sound_core.specs.declared.fault.StreamFault.{StreamFault}
use Rattle.sound_core.specs.declared.fault.StreamFault.TheVariants as streams
use Rattle.sound_core.specs.declared.fault.Unread.{Unread}
use Rattle.sound_core.specs.declared.fault.Unread.TheVariants as answers
use Rattle.wave_core.specs.declared.fault.WaveFault.{WaveFault}
use Rattle.wave_core.specs.declared.fault.WaveFault.TheVariants as waves
use Rattle.form_core.specs.declared.fault.ReadFault.{ReadFault}
use Rattle.form_core.specs.declared.fault.ReadFault.TheVariants as reads
use Rattle.cut_core.specs.declared.fault.CutFault.{CutFault}
use Rattle.cut_core.specs.declared.fault.CutFault.TheVariants as cuts
use Rattle.request_core.specs.declared.fault.Fault.{Fault}
use Rattle.request_core.specs.declared.fault.Fault.TheVariants.{Project, FileUnread, FileRefused, Cut, Stream, NotWholeBytes, Memory}

-- of a project
abbrev pub fault_of_project : ProjectFault → Fault
fault_of_project projects.Memory = Memory
fault_of_project fault = Project fault

-- of a file that is read
abbrev pub fault_of_file : ReadFault → Fault
fault_of_file reads.Memory = Memory
fault_of_file fault = FileUnread fault

-- of a cut
abbrev pub fault_of_cut : CutFault → Fault
fault_of_cut cuts.NotWholeBytes = NotWholeBytes
fault_of_cut cuts.Memory = Memory
fault_of_cut fault = Cut fault

-- of the WAVE text
abbrev pub fault_of_wave : WaveFault → Fault
fault_of_wave waves.TooLarge = Stream streams.TooLarge
fault_of_wave waves.Memory = Memory

-- of a DSDIFF file that is written
abbrev pub fault_of_writing : WriteFault → Fault
fault_of_writing writes.NotWholeBytes = NotWholeBytes
fault_of_writing writes.Memory = Memory

-- of a file that is read or played piece by piece
abbrev pub fault_of_stream : StreamFault → Fault
fault_of_stream streams.Memory = Memory
fault_of_stream fault = Stream fault

-- of a file that is played from a reader: its first fault, or that of reading or playing it
abbrev pub fault_of_unread : Unread → Fault
fault_of_unread (answers.Refused reads.Memory) = Memory
fault_of_unread (answers.Refused fault) = FileRefused fault
fault_of_unread (answers.Stream fault) = fault_of_stream fault

-- a fault of such a file that P holds of, under its name here
abbrev pub OfUnread : (Unread → Type 0) → Fault → Type 0
OfUnread P fault = (u : Unread) × (fault ≡ fault_of_unread u) × P u

-- if the fault names the first one of a file that is played, that one has this property
abbrev pub IfNamed : Fault → (ReadFault → Type 0) → Type 0
IfNamed (FileRefused fault) P = P fault
IfNamed fault P = ⊤

-- a fault of a stream that P holds of, under its name here
abbrev pub OfStream : (StreamFault → Type 0) → Fault → Type 0
OfStream P fault = (f : StreamFault) × (fault ≡ fault_of_stream f) × P f

-- an answer as one of a stream, by which the failures of devices are counted: any other fault counts none, nor does running out of memory
abbrev pub as_stream : {X : Type 0} → Result X Fault → Result X StreamFault
as_stream (Ok x) = Ok x
as_stream (Err (Stream fault)) = Err fault
as_stream (Err fault) = Err streams.Memory
