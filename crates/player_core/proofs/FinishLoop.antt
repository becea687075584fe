-- The streams of a sound, finished one after the other.
use Rattle.std.proofs.Common.{◌≡◌, ◌≢◌, ℕ, ◌+◌, ◌-◌, ◌<◌, ◌≤◌, ℤ, List, ◌++◌, map, length, get_or, set, sym, subst, ap, ◌∙◌, arith, get_or-set_other, length-set}
use Rattle.std.specs.List.{range_with_len}
use Rattle.std.specs.Int.{div_ceil}
use Rattle.dsd_bits.specs.declared.sound.Sound.{Sound}
use Rattle.fir_core.specs.Decimator.{Decimator, samples_of}
use Rattle.fir_core.specs.Streams.{Finishes, Fits}
use Rattle.fir_core.specs.StreamView.{state_of}
use Rattle.fir_core.specs.declared.stream.Stream.{Stream}
use Rattle.player_core.specs.Due.{bytes_known, channel_bytes, channel_whole, frames_due}
use Rattle.player_core.specs.Frames.{tile_of}
use Rattle.player_core.specs.PlayerView.{AllFit, AreChannels, IsChannel}
use Rattle.player_core.proofs.FeedLaws.{tile_more}
use Rattle.player_core.proofs.FinishLaws.{rest_of}

-- the first streams gave their rest, and the others are as they were
pub record FinishedUpTo (old now : List Stream) (tile : List ℤ) (c : ℕ) : Type 0 where
  pub long : length now ≡ length old
  pub later : (k : ℕ) (t : Stream) → c ≤ k → get_or now k t ≡ get_or old k t
  pub given : (d : Decimator) (s : Sound) (bytes : List ℕ) → AreChannels d s.count (bytes_known s (length bytes)) old → AllFit s old bytes
      → tile ≡ tile_of d (map (channel_whole s bytes) (range_with_len 0 c)) (frames_due d s (length bytes)) (div_ceil s.count d.factor - frames_due d s (length bytes))

pub finished_next : (old now : List Stream) (tile tile' : List ℤ) (c : ℕ) (new t : Stream) → FinishedUpTo old now tile c → c < length old → Finishes (state_of (get_or now c t)) tile tile'
    → FinishedUpTo old (set now c new) tile' (c + 1)
finished_next old now tile tile' c new t so_far low finishes = record {
  long = length-set now c new ∙ so_far.long;
  later = λ k u h. let differs : k ≢ c = omega arith in get_or-set_other now c k new u differs ∙ so_far.later k u (omega arith);
  given = λ d s bytes are fits.
      let same : get_or old c t ≡ get_or now c t = sym (so_far.later c t (omega arith)) in
      let chan = subst (IsChannel d s.count (bytes_known s (length bytes))) same (are c t low) in
      let fit = subst (λ (u : Stream). Fits (state_of u) (channel_bytes s bytes c)) same (fits c t low) in
      let least : 8 ≤ d.factor = subst (λ (e : Decimator). 8 ≤ e.factor) chan.filter chan.ready.limits.least_factor in
      let n = frames_due d s (length bytes) in
      let m = div_ceil s.count d.factor - n in
      rest_of d s bytes c least (get_or now c t) (bytes_known s (length bytes)) tile tile' chan finishes fit
      ∙ ap (λ xs. xs ++ samples_of d (channel_whole s bytes c) n m) (so_far.given d s bytes are fits)
      ∙ sym (tile_more d (channel_whole s bytes) n m c);
}
