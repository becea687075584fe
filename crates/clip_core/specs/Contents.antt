-- What a mix holds.
use Rattle.clip_core.specs.declared.mix.Mix.{Mix}
use Rattle.clip_core.specs.Mixes.{MixContent, mix_of}

-- what a mix holds
abbrev pub mix_content : Mix → MixContent
mix_content x = mix_of x.unit x.audible.items x.limit x.every x.takes.items x.decoders.items x.clips.items
