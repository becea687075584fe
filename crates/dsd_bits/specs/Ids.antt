-- The IDs of the DSDIFF 1.5 chunks whose content a recording holds in parts of its own.
use Rattle.std.specs.Prelude.{ℕ, Bool, List, codes, bytes_eq}

-- the two IDs are the same bytes
abbrev pub same_id : List ℕ → List ℕ → Bool
same_id a b = bytes_eq a b

-- the version of the format: `FVER`
abbrev pub FVER : List ℕ
FVER = codes "FVER"

-- properties: `PROP`
abbrev pub PROP : List ℕ
PROP = codes "PROP"

-- the type of properties that are about the sound: `SND `
abbrev pub SND : List ℕ
SND = codes "SND "

-- the rate: `FS  `
abbrev pub FS : List ℕ
FS = codes "FS  "

-- the channels: `CHNL`
abbrev pub CHNL : List ℕ
CHNL = codes "CHNL"

-- the kind of compression: `CMPR`
abbrev pub CMPR : List ℕ
CMPR = codes "CMPR"

-- the sound: `DSD `
abbrev pub DSD : List ℕ
DSD = codes "DSD "

-- the information of an edited master: `DIIN`
abbrev pub DIIN : List ℕ
DIIN = codes "DIIN"

-- a mark in an edited master: `MARK`
abbrev pub MARK : List ℕ
MARK = codes "MARK"
