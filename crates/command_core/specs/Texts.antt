-- The texts of faults and of reasons against a master, as they are printed after `fault: ` and `rejected `.
use Rattle.std.specs.Prelude.{List, ◌++◌, codes, ℕ}
use Rattle.std.specs.Fmt.{decimal}
use Rattle.cert_core.specs.declared.verdict.CertReason.{CertReason}
use Rattle.cert_core.specs.declared.verdict.CertReason.TheVariants as entries
use Rattle.chunk_core.specs.declared.fault.ChunkFault.{ChunkFault}
use Rattle.chunk_core.specs.declared.fault.ChunkFault.TheVariants as chunks
use Rattle.cut_core.specs.declared.fault.CutFault.{CutFault}
use Rattle.cut_core.specs.declared.fault.CutFault.TheVariants as cuts
use Rattle.dop_core.specs.declared.fault.DopFault.{DopFault}
use Rattle.dop_core.specs.declared.fault.DopFault.TheVariants as dops
use Rattle.dsdiff_core.specs.declared.fault.DsdiffFault.{DsdiffFault}
use Rattle.dsdiff_core.specs.declared.fault.DsdiffFault.TheVariants as dsdiffs
use Rattle.dsf_core.specs.declared.fault.DsfFault.{DsfFault}
use Rattle.dsf_core.specs.declared.fault.DsfFault.TheVariants as dsfs
use Rattle.form_core.specs.Infos.{id_text}
use Rattle.form_core.specs.declared.fault.ReadFault.{ReadFault}
use Rattle.form_core.specs.declared.fault.ReadFault.TheVariants as reads
use Rattle.project_core.specs.Keys.{key_name}
use Rattle.project_core.specs.declared.fault.ProjectFault.{ProjectFault}
use Rattle.project_core.specs.declared.fault.ProjectFault.TheVariants as projects
use Rattle.request_core.specs.declared.fault.Fault.{Fault}
use Rattle.request_core.specs.declared.fault.Fault.TheVariants as faults
use Rattle.request_core.specs.declared.reason.Reason.{Reason}
use Rattle.request_core.specs.declared.reason.Reason.TheVariants as reasons
use Rattle.request_core.specs.declared.span_fault.SpanFault.{SpanFault}
use Rattle.request_core.specs.declared.span_fault.SpanFault.TheVariants as spans
use Rattle.sound_core.specs.declared.fault.StreamFault.{StreamFault}
use Rattle.sound_core.specs.declared.fault.StreamFault.TheVariants as streams
use Rattle.transfer_commands.specs.declared.fault.CommandFault.TheVariants as commands
use Rattle.transfer_commands.specs.declared.neighbour.NeighbourFault.{NeighbourFault}
use Rattle.transfer_commands.specs.declared.neighbour.NeighbourFault.TheVariants as neighbours

-- of bytes that are no list of chunks: a name and the place of the chunk
unfoldable pub chunk_text : ChunkFault → List ℕ
chunk_text (chunks.HeadCut place) = codes "HeadCut " ++ decimal place
chunk_text (chunks.DataCut place id size) = codes "DataCut " ++ decimal place
chunk_text chunks.Memory = codes "Memory"

-- of a DSDIFF file: a name, for `Chunk` and `Twice` followed by what is wrong with the chunks, and by the ID
unfoldable pub dsdiff_text : DsdiffFault → List ℕ
dsdiff_text dsdiffs.NotDsdiff = codes "NotDsdiff"
dsdiff_text (dsdiffs.FormCut size missing) = codes "FormCut"
dsdiff_text (dsdiffs.Chunk fault) = codes "Chunk " ++ chunk_text fault
dsdiff_text (dsdiffs.NoVersion id) = codes "NoVersion"
dsdiff_text (dsdiffs.BadVersion version) = codes "BadVersion"
dsdiff_text (dsdiffs.Twice id) = codes "Twice" ++ id_text id
dsdiff_text dsdiffs.NoProperty = codes "NoProperty"
dsdiff_text dsdiffs.NoRate = codes "NoRate"
dsdiff_text dsdiffs.NoChannels = codes "NoChannels"
dsdiff_text dsdiffs.NoCompression = codes "NoCompression"
dsdiff_text (dsdiffs.Compressed kind) = codes "Compressed"
dsdiff_text (dsdiffs.BadRate rate) = codes "BadRate"
dsdiff_text (dsdiffs.BadChannelNumber number) = codes "BadChannelNumber"
dsdiff_text dsdiffs.NoSound = codes "NoSound"
dsdiff_text dsdiffs.SoundBeforeProperty = codes "SoundBeforeProperty"
dsdiff_text (dsdiffs.PartFrame size channels) = codes "PartFrame"
dsdiff_text (dsdiffs.TooLong size channels) = codes "TooLong"
dsdiff_text dsdiffs.BadMark = codes "BadMark"
dsdiff_text dsdiffs.Memory = codes "Memory"

-- of a DSF file: a name
unfoldable pub dsf_text : DsfFault → List ℕ
dsf_text dsfs.NotDsf = codes "NotDsf"
dsf_text (dsfs.HeadCut count) = codes "HeadCut"
dsf_text (dsfs.BadFormat what) = codes "BadFormat"
dsf_text (dsfs.BadVersion version) = codes "BadVersion"
dsf_text (dsfs.BadChannelNumber number) = codes "BadChannelNumber"
dsf_text (dsfs.BadRate rate) = codes "BadRate"
dsf_text (dsfs.BadBits bits) = codes "BadBits"
dsf_text (dsfs.BadBlock size) = codes "BadBlock"
dsf_text (dsfs.TooLong count) = codes "TooLong"
dsf_text (dsfs.DataCut sound) = codes "DataCut"
dsf_text (dsfs.BadPointer tag end length) = codes "BadPointer"
dsf_text dsfs.Memory = codes "Memory"

-- of a file of DoP samples: a name, and for `BadMarker` the frame
unfoldable pub dop_text : DopFault → List ℕ
dop_text dops.NotWave = codes "NotWave"
dop_text dops.NoData = codes "NoData"
dop_text dops.NoFormat = codes "NoFormat"
dop_text dops.NotPcm24 = codes "NotPcm24"
dop_text (dops.BadChannelNumber number) = codes "BadChannelNumber"
dop_text (dops.BadRate rate) = codes "BadRate"
dop_text (dops.NoSize size) = codes "NoSize"
dop_text (dops.DataCut size there) = codes "DataCut"
dop_text dops.PartFrame = codes "PartFrame"
dop_text (dops.BadMarker frame) = codes "BadMarker " ++ decimal frame
dop_text dops.CountCut = codes "CountCut"
dop_text (dops.BadCount count) = codes "BadCount"
dop_text dops.Memory = codes "Memory"

-- of a file of any form: the form and what is wrong with it, or a name
unfoldable pub read_text : ReadFault → List ℕ
read_text reads.UnknownForm = codes "UnknownForm"
read_text (reads.Dsdiff fault) = codes "Dsdiff " ++ dsdiff_text fault
read_text (reads.Dsf fault) = codes "Dsf " ++ dsf_text fault
read_text reads.Memory = codes "Memory"

-- of a project text or a mix text: a name, and the key or the number of the cue or clip if there is one
unfoldable pub project_text : ProjectFault → List ℕ
project_text projects.NotToml = codes "NotToml"
project_text (projects.UnknownKey table) = codes "UnknownKey"
project_text (projects.MissingKey key table) = codes "MissingKey " ++ key_name key
project_text (projects.WrongKind key table) = codes "WrongKind " ++ key_name key
project_text (projects.OutOfLimit key table) = codes "OutOfLimit " ++ key_name key
project_text (projects.NoTake number take takes) = codes "NoTake " ++ decimal number
project_text (projects.ShortCue cue start stop weights) = codes "ShortCue " ++ decimal cue
project_text (projects.LastBridge cue bridge) = codes "LastBridge"
project_text projects.Memory = codes "Memory"

-- of a splice that can't be cut: a name, the number of the take or cue if there is one, and what is wrong with a file
unfoldable pub cut_text : CutFault → List ℕ
cut_text cuts.TakeNumber = codes "TakeNumber"
cut_text (cuts.TakeUnread take fault) = codes "TakeUnread " ++ decimal take ++ codes " " ++ read_text fault
cut_text (cuts.TakeMismatch take) = codes "TakeMismatch " ++ decimal take
cut_text (cuts.CueOutside cue) = codes "CueOutside " ++ decimal cue
cut_text cuts.MasterTooLong = codes "MasterTooLong"
cut_text cuts.NotWholeBytes = codes "NotWholeBytes"
cut_text (cuts.NoRoomBefore cue) = codes "NoRoomBefore " ++ decimal cue
cut_text (cuts.NoRoomAfter cue) = codes "NoRoomAfter " ++ decimal cue
cut_text cuts.Memory = codes "Memory"

-- of a file that is read, played or written piece by piece: a name
unfoldable pub stream_text : StreamFault → List ℕ
stream_text streams.FileRefused = codes "FileRefused"
stream_text streams.RateNotDivided = codes "RateNotDivided"
stream_text streams.TooLarge = codes "TooLarge"
stream_text streams.ReadFailed = codes "ReadFailed"
stream_text streams.WriteFailed = codes "WriteFailed"
stream_text streams.TurnLimit = codes "TurnLimit"
stream_text streams.Memory = codes "Memory"

-- of a part that isn't in the recording: a name
unfoldable pub span_text : SpanFault → List ℕ
span_text spans.NoMark = codes "NoMark"
span_text spans.PartOutside = codes "PartOutside"
span_text spans.PartReversed = codes "PartReversed"

-- of a call: a name, and what is wrong with the project text, the mix text or the file, or the number of the clip; of a
-- cut or a stream the text above
unfoldable pub fault_text : Fault → List ℕ
fault_text (faults.Project fault) = codes "Project " ++ project_text fault
fault_text faults.NoDecimation = codes "NoDecimation"
fault_text faults.NoSplice = codes "NoSplice"
fault_text (faults.FileUnread fault) = codes "FileUnread " ++ read_text fault
fault_text (faults.FileRefused fault) = codes "FileRefused"
fault_text (faults.Cut fault) = cut_text fault
fault_text (faults.Mix fault) = codes "Mix " ++ project_text fault
fault_text (faults.ClipOutside clip) = codes "ClipOutside " ++ decimal clip
fault_text (faults.Stream fault) = stream_text fault
fault_text faults.NotWholeBytes = codes "NotWholeBytes"
fault_text faults.Memory = codes "Memory"

-- of a file that is no neighbour of another: a name, or what is wrong with the file
unfoldable pub neighbour_text : NeighbourFault → List ℕ
neighbour_text (neighbours.Command (commands.Call fault)) = fault_text fault
neighbour_text (neighbours.Command commands.ReadFailed) = codes "ReadFailed"
neighbour_text (neighbours.Command commands.WriteFailed) = codes "WriteFailed"
neighbour_text neighbours.OtherRate = codes "OtherRate"
neighbour_text neighbours.OtherChannels = codes "OtherChannels"
neighbour_text neighbours.NotWholeBytes = codes "NotWholeBytes"

-- of an entry of a certificate: a name, and each number that it has
unfoldable pub entry_text : CertReason → List ℕ
entry_text entries.Cut = codes "Cut"
entry_text entries.Head = codes "Head"
entry_text entries.Length = codes "Length"
entry_text entries.Bound = codes "Bound"
entry_text (entries.Row level) = codes "Row " ++ decimal level
entry_text entries.Start = codes "Start"
entry_text (entries.Step level state) = codes "Step " ++ decimal level ++ codes " " ++ decimal state
entry_text (entries.End state) = codes "End " ++ decimal state
entry_text entries.Cost = codes "Cost"
entry_text entries.Extra = codes "Extra"

-- of a master that is rejected: a name, the channel and the place of a bit or the number of an entry, and what is wrong
-- with the certificate
unfoldable pub reason_text : Reason → List ℕ
reason_text (reasons.MasterUnread fault) = codes "MasterUnread"
reason_text (reasons.MasterShape found wanted) = codes "MasterShape"
reason_text (reasons.MasterLength found wanted) = codes "MasterLength"
reason_text reasons.MasterMarks = codes "MasterMarks"
reason_text (reasons.CuedBit channel place) = codes "CuedBit " ++ decimal channel ++ codes " " ++ decimal place
reason_text (reasons.CertHead reason) = codes "CertHead " ++ entry_text reason
reason_text (reasons.Cert entry reason) = codes "Cert " ++ decimal entry ++ codes " " ++ entry_text reason
reason_text reasons.CertExtra = codes "CertExtra"
