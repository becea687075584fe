-- Channels that were taken from frames.
use Rattle.std.proofs.Common.{◌≡◌, ℕ, ◌*◌, ◌/◌, ◌%◌, ◌≤◌, Bool, List, [], length, get_or, sym, ap, ◌∙◌, refl, arith, add-zero}
use Rattle.std.proofs.lemmas.List.Elements.{All-map}
use Rattle.std.proofs.lemmas.List.FromFn.{length-map-range_with_len, get_or-map-range_with_len}
use Rattle.std.proofs.lemmas.Nat.{mod-mul-add}
use Rattle.std.specs.List.{range_with_len}
use Rattle.dsd_bits.specs.Channels.{IsLevel, count_of}
use Rattle.dsd_bits.specs.Lacing.{laced_bit, unlaced, unlaced_all}
use Rattle.interleave_core.proofs.PlaceLaws.{times_over}

module _ (bytes : List ℕ) (n count : ℕ) (some : 1 ≤ n) (whole : count % 8 ≡ 0) (size : length bytes ≡ count / 8 * n) where
  pub frames_are : length bytes / n ≡ count / 8
  frames_are = ap (λ k. k / n) size ∙ times_over (count / 8) n some

  -- no frame is cut
  pub no_part : length bytes % n ≡ 0
  no_part = ap (λ k. k % n) (size ∙ sym (add-zero (count / 8 * n))) ∙ mod-mul-add (count / 8) n 0 some

  pub channel_long : (c : ℕ) → length (unlaced bytes n c) ≡ count
  channel_long c = length-map-range_with_len (laced_bit bytes n c) 0 (8 * (length bytes / n)) ∙ omega (arith, frames_are)

  pub unlaced_number : length (unlaced_all bytes n) ≡ n
  unlaced_number = length-map-range_with_len (unlaced bytes n) 0 n

  pub unlaced_count : count_of (unlaced_all bytes n) ≡ count
  unlaced_count = ap length (get_or-map-range_with_len (unlaced bytes n) 0 n 0 0 [] (omega arith) refl) ∙ channel_long 0

  pub unlaced_level : IsLevel (unlaced_all bytes n)
  unlaced_level = record {
    same = All-map (λ (channel : List Bool). length channel ≡ count_of (unlaced_all bytes n)) (unlaced bytes n) (range_with_len 0 n) (λ k d lt. channel_long (get_or (range_with_len 0 n) k d) ∙ sym unlaced_count);
  }
