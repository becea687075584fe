-- Reading a project text, to its content or the first fault.
use Rattle.std.specs.Prelude.{ℕ, List, Option, Result, Ok, Err, if◌then◌else◌}
use Rattle.toml.specs.Data.{Members, get_member}
use Rattle.fir_core.specs.Decimator.{Decimator}
use Rattle.project_core.specs.declared.key.Key.TheVariants as keys
use Rattle.project_core.specs.declared.key.Table.TheVariants.{Document}
use Rattle.project_core.specs.declared.fault.ProjectFault.{ProjectFault}
use Rattle.project_core.specs.declared.fault.ProjectFault.TheVariants.{UnknownKey}
use Rattle.project_core.specs.Keys.{key_name, top_keys}
use Rattle.splice_core.specs.Splices.{SpliceContent}
use Rattle.project_core.specs.Projects.{ProjectContent}
use Rattle.project_core.specs.Steps.{◌>>=◌, optional}
use Rattle.project_core.specs.Tables.{has_only}
use Rattle.project_core.specs.Reading.{document}
use Rattle.project_core.specs.ReadingDecimate.{decimate_of}
use Rattle.project_core.specs.ReadingSplice.{splice_of}

-- the decimator, if there is one
unfoldable pub decimate_in : Members → Result (Option Decimator) ProjectFault
decimate_in table = optional decimate_of (get_member (key_name keys.Decimate) table)

-- the splice, if there is one
unfoldable pub splice_in : Members → Result (Option SpliceContent) ProjectFault
splice_in table = optional splice_of (get_member (key_name keys.Splice) table)

-- the project of a document
unfoldable pub project_of : Members → Result ProjectContent ProjectFault
project_of table =
    if has_only top_keys table
    then decimate_in table >>= (λ d. splice_in table >>= (λ s. Ok (record { decimate = d; splice = s })))
    else Err (UnknownKey Document)

-- the project of a text
unfoldable pub project_at : List ℕ → Result ProjectContent ProjectFault
project_at bytes = do
  table ← document bytes
  project_of table
