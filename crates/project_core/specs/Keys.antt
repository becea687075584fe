-- The names of the keys, and which keys a table has.
use Rattle.std.specs.Prelude.{ℕ, List, [], ◌∷◌, codes}
use Rattle.project_core.specs.declared.key.Key.{Key}
use Rattle.project_core.specs.declared.key.Key.TheVariants.{Decimate, Taps, Factor, Delay, Shift, Width, Splice, Weights, Takes, Cue, Take, Start, Stop, Bridge, Target, Line, Title, Mix, Unit, Audible, Limit, Every, Decoder, Clip, At, Length, Gain, Gains}

-- a key as a text spells it
unfoldable pub key_name : Key → List ℕ
key_name Decimate = codes "decimate"
key_name Taps = codes "taps"
key_name Factor = codes "factor"
key_name Delay = codes "delay"
key_name Shift = codes "shift"
key_name Width = codes "width"
key_name Splice = codes "splice"
key_name Weights = codes "weights"
key_name Takes = codes "takes"
key_name Cue = codes "cue"
key_name Take = codes "take"
key_name Start = codes "start"
key_name Stop = codes "stop"
key_name Bridge = codes "bridge"
key_name Target = codes "target"
key_name Line = codes "line"
key_name Title = codes "title"
key_name Mix = codes "mix"
key_name Unit = codes "unit"
key_name Audible = codes "audible"
key_name Limit = codes "limit"
key_name Every = codes "every"
key_name Decoder = codes "decoder"
key_name Clip = codes "clip"
key_name At = codes "at"
key_name Length = codes "length"
key_name Gain = codes "gain"
key_name Gains = codes "gains"

-- the keys of a project text
abbrev pub top_keys : List Key
top_keys = Decimate ∷ Splice ∷ []

-- the keys of the table `decimate`
abbrev pub decimate_keys : List Key
decimate_keys = Taps ∷ Factor ∷ Delay ∷ Shift ∷ Width ∷ []

-- the keys of the table `splice`
abbrev pub splice_keys : List Key
splice_keys = Weights ∷ Takes ∷ Cue ∷ []

-- the keys of a cue
abbrev pub cue_keys : List Key
cue_keys = Take ∷ Start ∷ Stop ∷ Bridge ∷ Target ∷ Line ∷ Title ∷ []
