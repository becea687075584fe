-- Which keys the tables of a mix text have.
use Rattle.std.specs.Prelude.{List, [], ◌∷◌}
use Rattle.project_core.specs.declared.key.Key.{Key}
use Rattle.project_core.specs.declared.key.Key.TheVariants as keys

-- the keys of a mix text
abbrev pub text_keys : List Key
text_keys = keys.Mix ∷ []

-- the keys of the table `mix`
abbrev pub mix_keys : List Key
mix_keys = keys.Unit ∷ keys.Audible ∷ keys.Limit ∷ keys.Every ∷ keys.Takes ∷ keys.Decoder ∷ keys.Clip ∷ []

-- the keys of a decoder
abbrev pub decoder_keys : List Key
decoder_keys = keys.Taps ∷ []

-- the keys of a clip
abbrev pub clip_keys : List Key
clip_keys = keys.Take ∷ keys.Decoder ∷ keys.Start ∷ keys.At ∷ keys.Length ∷ keys.Gain ∷ keys.Gains ∷ []
