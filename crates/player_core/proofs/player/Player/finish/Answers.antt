use Rattle.std.proofs.Common.{◌≡◌, ℕ, ℤ, ◌-◌, ◌/◌, ◌++◌, ◌∙◌, List, length, map, sym, ap, ap₂, arith}
use Rattle.std.specs.Int.{div_ceil}
use Rattle.std.specs.List.{flat_map, range_with_len}
use Rattle.fir_core.specs.Decimator.{IsWithinLimits}
use Rattle.wave_core.specs.Frames.{frames_of}
use Rattle.wave_core.specs.Texts.{sample_bytes}
use Rattle.player_core.specs.Due.{bytes_known, channel_whole, frames_due}
use Rattle.player_core.specs.Frames.{tile_of}
use Rattle.player_core.specs.PlayerView.{AllFit, AreChannels, IsPlayerFed, IsPlayer}
use Rattle.player_core.specs.declared.player.Player.{Player}
use Rattle.player_core.proofs.FinishLaws.{gives_all, known_whole, rest_in_range}
use Rattle.player_core.proofs.StepLaws.{all_whole, filter_known}
use Rattle.player_core.proofs.player.Player.finish.Goals as goal
use Rattle.player_core.proofs.player.Player.finish.Goals.{After-deref}

known : (p : Player) → IsPlayer p → IsWithinLimits p.taps.now
known p is = filter_known p.taps.now p.sound.count (bytes_known p.sound p.fed) p.streams.items (omega (arith, is.number, is.sound.some_channel)) is.each

pub finish_all-requires : goal.finish_all-requires
finish_all-requires c =
    let p = c.args.self.now in
    rw c.deref_mut.ensures.value (record { ready = all_whole p.taps.now p.sound p.streams.items p.fed (ap (bytes_known p.sound) c.requires.all ∙ known_whole p.sound c.requires.ready.sound c.requires.ready.whole) c.requires.ready.each })

-- what the streams gave, after whatever bytes came
made : (c : After-deref) (bytes : List ℕ) → IsPlayerFed c.args.self.now bytes
    → c.finish_all.new.tile.items ≡ tile_of c.args.self.now.taps.now (map (channel_whole c.args.self.now.sound bytes) (range_with_len 0 c.args.self.now.sound.channels)) (frames_due c.args.self.now.taps.now c.args.self.now.sound (length bytes)) (div_ceil c.args.self.now.sound.count c.args.self.now.taps.now.factor - frames_due c.args.self.now.taps.now c.args.self.now.sound (length bytes))
made c bytes fed =
    let p = c.args.self.now in
    let e = c.deref_mut.ensures.value in
    let number : length c.deref_mut.result.now ≡ p.sound.channels = ap length e ∙ c.requires.ready.number in
    let are : AreChannels p.taps.now p.sound.count (bytes_known p.sound (length bytes)) c.deref_mut.result.now = rw (e, ← fed.fed) c.requires.ready.each in
    let fit : AllFit p.sound c.deref_mut.result.now bytes = rw e fed.each in
    c.in_ok-finish_all.ensures p.taps.now p.sound number bytes are fit

pub push_tile-requires-clause-values : goal.push_tile-requires-clause-values
push_tile-requires-clause-values c =
    let p = c.args.self.now in
    let past = c.requires.ready.history in
    rw c.deref.ensures.value (rest_in_range p.sound c.requires.ready.sound c.requires.ready.whole past.0 (sym past.1.fed ∙ c.requires.all) p.taps.now c.finish_all.new.tile.items c.width.result c.width.ensures.value (known p c.requires.ready).known_width
    (made (goal.at.push_tile-requires-clause-values c).After-deref past.0 past.1))

pub returns-clause-ok : goal.returns-clause-ok
returns-clause-ok c =
    let p = c.args.self.now in
    let s = p.sound in
    let d = p.taps.now in (
      flat_map (sample_bytes d.width) (frames_of c.finish_all.new.tile.items (length c.finish_all.new.tile.items / s.channels)),
      c.in_ok-push_tile.ensures ∙ ap₂ (λ (w : ℕ) (xs : List ℤ). c.args.out.now.items ++ flat_map (sample_bytes w) (frames_of xs (length xs / s.channels))) c.width.ensures.value c.deref.ensures.value,
      λ before fed. gives_all s c.requires.ready.sound c.requires.ready.whole before (sym fed.fed ∙ c.requires.all) d c.finish_all.new.tile.items (known p c.requires.ready).least_factor (made (goal.at.returns-clause-ok c).After-deref before fed),
    )
