-- What is printed about a file.
use Rattle.std.specs.Prelude.{ℕ, ◌/◌, ◌%◌, false, List, [], ◌∷◌, ◌++◌, codes, flat_map, length}
use Rattle.std.specs.Fmt.{decimal, digit_glyph, signed_decimal}
use Rattle.dsd_bits.specs.Contents.{Described, MarkContent}
use Rattle.dsdiff_core.specs.MarkPlaces.{place_of}
use Rattle.form_core.specs.declared.form.Form.{Form}
use Rattle.form_core.specs.FormNames.{name_of}

-- the lines of the form, the rate in hertz, the number of channels and the number of samples of each
abbrev pub first_lines : Form → Described → List ℕ
first_lines form d = codes "form " ++ name_of form
    ++ codes "\nrate " ++ decimal d.rate
    ++ codes "\nchannels " ++ decimal (length d.ids)
    ++ codes "\nsamples " ++ decimal d.count

-- the two hexadecimal digits of a byte, `a` to `f` in small letters
abbrev pub hexadecimal : ℕ → List ℕ
hexadecimal byte = digit_glyph false (byte / 16) ∷ digit_glyph false (byte % 16) ∷ []

-- a space and a channel's ID: the digits of its bytes
abbrev pub id_text : List ℕ → List ℕ
id_text id = codes " " ++ flat_map hexadecimal id

-- the line of the channels' IDs
abbrev pub ids_line : List (List ℕ) → List ℕ
ids_line ids = codes "\nids" ++ flat_map id_text ids

-- the line of a mark: its place in samples at the rate, its type and its channel
abbrev pub mark_line : ℕ → MarkContent → List ℕ
mark_line rate mark = codes "\nmark " ++ signed_decimal (place_of mark rate)
    ++ codes " type " ++ decimal mark.kind
    ++ codes " channel " ++ decimal mark.channel

-- all lines, without the end of the last; after the IDs come the layout, the marks, the number of kept chunks, and the
-- number of bytes of the tag
abbrev pub info_text : Form → Described → List ℕ
info_text form d = first_lines form d ++ ids_line d.ids
    ++ codes "\nlayout " ++ decimal d.layout
    ++ codes "\nmarks " ++ decimal (length d.marks) ++ flat_map (mark_line d.rate) d.marks
    ++ codes "\nothers " ++ decimal (length d.others)
    ++ codes "\ntag " ++ decimal (length d.tag)
