-- What a player of a part holds beside its filter.
use Rattle.std.specs.Prelude.{◌≡◌, ℕ, List}
use Rattle.fir_core.specs.Decimator.{Decimator}
use Rattle.player_core.specs.PartView.{IsPartFed, IsPartPlayer, part_fed, part_filter, part_rest}
use Rattle.player_core.specs.declared.player.Player.{Player}
use Rattle.player_core.specs.declared.parts.PartPlayer.{PartPlayer}
use Rattle.player_core.specs.declared.pausing.PausedPart.{PausedPart}
use Rattle.player_core.specs.declared.pausing.PausedPlayer.{PausedPlayer}

-- this is what the player of a sound holds beside its filter
pub record IsPaused (p : Player) (q : PausedPlayer) : Type 0 where
  pub sound : q.sound ≡ p.sound
  pub fed : q.fed ≡ p.fed
  pub streams : q.streams ≡ p.streams
  pub held : q.held ≡ p.held

-- this is what the player of a part holds beside its filter
pub record IsPausedPart (p : PartPlayer) (q : PausedPart) : Type 0 where
  pub player : IsPaused p.player q.player
  pub start : q.start ≡ p.start
  pub skip : q.skip ≡ p.skip
  pub stop : q.stop ≡ p.stop
  pub given : q.given ≡ p.given

-- both play the same part, and were fed as many bytes
pub record IsSamePlace (old new : PartPlayer) : Type 0 where
  pub rest : part_rest new ≡ part_rest old
  pub fed : part_fed new ≡ part_fed old
  pub start : new.start ≡ old.start
  pub skip : new.skip ≡ old.skip
  pub stop : new.stop ≡ old.stop

-- the new player can play on, if the one that was paused could, by this filter
abbrev pub ResumesReady : PausedPart → Decimator → PartPlayer → Type 0
ResumesReady q d new = (p : PartPlayer) → IsPausedPart p q → part_filter p ≡ d → IsPartPlayer p → IsPartPlayer new

-- the new player was fed what the one that was paused was fed, by this filter
abbrev pub ResumesFed : PausedPart → Decimator → PartPlayer → Type 0
ResumesFed q d new = (p : PartPlayer) (bytes : List ℕ) → IsPausedPart p q → part_filter p ≡ d → IsPartFed p bytes → IsPartFed new bytes
