-- What each giver gives, however it gives.
use Rattle.std.proofs.Common.{List, ℕ, ap₂}
use Rattle.dsd_bits.specs.declared.sound.Sound.{Sound}
use Rattle.fir_core.specs.Decimator.{Decimator}
use Rattle.joined_core.specs.Frames.{TakesFrames}
use Rattle.joined_core.specs.Givers.{GivenComesFirst, Takes, frames_way}
use Rattle.joined_core.specs.declared.frames.FrameGiver.{FrameGiver}
use Rattle.joined_core.specs.declared.giver.Giver.TheVariants as givers
use Rattle.joined_core.proofs.BitLaws.{bits_first}
use Rattle.joined_core.proofs.FrameLaws as laws

pub given_comes_first : GivenComesFirst
given_comes_first (givers.Bits g) bytes given ready h = λ rest frames long few. bits_first g ready.some bytes given rest frames h long
given_comes_first (givers.Frames g) bytes given ready h = λ rest frames long few. laws.given_first g ready bytes given h rest frames long few

pub frames_taken : (g new : FrameGiver) (bytes out_old out_new : List ℕ) → TakesFrames g bytes out_old out_new new → Takes (givers.Frames g) bytes out_old out_new (givers.Frames new)
frames_taken g new bytes out_old out_new e = record {
  ready = e.ready;
  way = ap₂ (λ (d : Decimator) (s : Sound). frames_way d s.rate s.channels) e.taps e.sound;
  fed = e.fed;
  more = e.more;
  appends = e.appends;
  gives = e.gives;
}
