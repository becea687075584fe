-- The names of forms.
use Rattle.std.specs.Prelude.{ℕ, List, Option, Some, None, codes, if◌then◌else◌}
use Rattle.std.specs.Str.{bytes_eq}
use Rattle.form_core.specs.declared.form.Form.{Form}
use Rattle.form_core.specs.declared.form.Form.TheVariants.{Dsdiff, Dsf, Dsf8}

-- the name of a form
abbrev pub name_of : Form → List ℕ
name_of Dsdiff = codes "dsdiff"
name_of Dsf = codes "dsf"
name_of Dsf8 = codes "dsf8"

-- the form with a name, if there is one
abbrev pub form_named : List ℕ → Option Form
form_named name =
    if bytes_eq name (codes "dsdiff") then Some Dsdiff
    else if bytes_eq name (codes "dsf") then Some Dsf
    else if bytes_eq name (codes "dsf8") then Some Dsf8
    else None
