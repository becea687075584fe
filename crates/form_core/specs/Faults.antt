-- Which fault of reading a file represents a fault of its format.
use Rattle.dsdiff_core.specs.declared.fault.DsdiffFault.{DsdiffFault}
use Rattle.dsdiff_core.specs.declared.fault.DsdiffFault.TheVariants as dsdiffs
use Rattle.dsf_core.specs.declared.fault.DsfFault.{DsfFault}
use Rattle.dsf_core.specs.declared.fault.DsfFault.TheVariants as dsfs
use Rattle.form_core.specs.declared.fault.ReadFault.{ReadFault}
use Rattle.form_core.specs.declared.fault.ReadFault.TheVariants.{UnknownForm, Dsdiff, Dsf, Memory}

-- for a DSDIFF file; a file that is not a DSDIFF file is of no known form
abbrev pub dsdiff_fault : DsdiffFault → ReadFault
dsdiff_fault dsdiffs.NotDsdiff = UnknownForm
dsdiff_fault dsdiffs.Memory = Memory
dsdiff_fault fault = Dsdiff fault

-- for a DSF file, likewise
abbrev pub dsf_fault : DsfFault → ReadFault
dsf_fault dsfs.NotDsf = UnknownForm
dsf_fault dsfs.Memory = Memory
dsf_fault fault = Dsf fault
