-- What a `Mixed` means.
use Rattle.std.specs.Prelude.{◌≡◌, map}
use Rattle.clip_core.specs.Contents.{mix_content}
use Rattle.cut_core.specs.Excerpts.{excerpts_content}
use Rattle.null_core.specs.Reading.{IsMixed, MixedContent}
use Rattle.null_core.specs.declared.mixed.Mixed.TheInside.{Inside}

-- the mix and what was read, as the fields hold them
abbrev pub mixed_content : Inside → MixedContent
mixed_content x = record { mix = mix_content x.mix; read = map excerpts_content x.takes.items }

-- the fields hold what was read of takes that fit, the mix's decoders and what it says can be heard
pub record KeepsMixed (x : Inside) : Type 0 where
  pub mixed : IsMixed (mixed_content x)
  pub decoders : x.decoders.items ≡ (mix_content x.mix).decoders
  pub audible : x.audible ≡ (mix_content x.mix).audible
