-- A part's player before its first byte.
use Rattle.std.proofs.Common.{◌≡◌, ℕ, ◌-◌, ◌*◌, ◌%◌, ◌≤◌, List, [], drop, length, slice_range, sym, ap, ap₂, ◌∙◌, arith}
use Rattle.dsd_bits.specs.declared.interleaving.Interleaving.TheVariants.{Bytes}
use Rattle.dsd_bits.specs.declared.sound.Sound.{Sound}
use Rattle.dsd_bits.specs.Sounds.{IsSound}
use Rattle.fir_core.specs.Decimator.{Decimator, IsWithinLimits}
use Rattle.wave_core.specs.Sizes.{block_align}
use Rattle.player_core.specs.Due.{all_bytes}
use Rattle.player_core.specs.Groups.{group_size}
use Rattle.player_core.specs.Laws.{total_frames}
use Rattle.player_core.specs.Parts.{frames_before, groups_before, part_bytes, rest_of}
use Rattle.player_core.specs.PartView.{IsPartFed, IsPartOf}
use Rattle.player_core.specs.PlayerView.{IsPlayerFed, filter_of, sound_of}
use Rattle.player_core.specs.declared.parts.PartPlayer.{PartPlayer}
use Rattle.player_core.proofs.PartLaws.{frames_few, part_of_rest, places_are, reaches_enough, some_factor}
use Rattle.player_core.proofs.SoundLaws.{nothing_is_due}

module _ (d : Decimator) (s : Sound) (limits : IsWithinLimits d) (is : IsSound s) (whole : s.interleaving ≡ Bytes → s.count % 8 ≡ 0) (start stop : ℕ) (ordered : start ≤ stop) (inside : stop ≤ total_frames d s) where
  abbrev k : ℕ
  k = groups_before d s.interleaving start

  abbrev m : ℕ
  m = frames_before d s.interleaving start

  abbrev align : ℕ
  align = block_align s.channels d.width

  rest_gives : (bytes : List ℕ) → length bytes ≡ s.size → slice_range (all_bytes d (rest_of s k) (drop (k * group_size s.interleaving s.channels) bytes)) ((start - m) * align) ((stop - m) * align) ≡ part_bytes d s bytes start stop
  rest_gives bytes all =
      part_of_rest s is whole k bytes all d m (places_are d s.interleaving limits start) start stop (some_factor d s.interleaving limits) ordered inside
      (omega (arith, frames_few d s.interleaving limits start)) (reaches_enough d s.interleaving limits start)

  pub new_part : (p : PartPlayer) → filter_of p.player ≡ d → sound_of p.player ≡ rest_of s k → p.start ≡ k * group_size s.interleaving s.channels → p.skip ≡ (start - m) * align → p.stop ≡ (stop - m) * align → IsPartOf d s start stop p
  new_part p filter sound at skip end = record {
    filter_is = filter;
    rest_is = sound;
    start_is = at;
    skip_is = skip;
    stop_is = end;
    gives = λ bytes all.
        ap₂ (λ e t. slice_range (all_bytes e t (drop p.start bytes)) p.skip p.stop) filter sound
        ∙ ap (λ n. slice_range (all_bytes d (rest_of s k) (drop n bytes)) p.skip p.stop) at
        ∙ ap₂ (λ a b. slice_range (all_bytes d (rest_of s k) (drop (k * group_size s.interleaving s.channels) bytes)) a b) skip end
        ∙ rest_gives bytes all;
  }

pub new_fed : (p : PartPlayer) → IsPlayerFed p.player [] → p.given ≡ 0 → IsPartFed p []
new_fed p fed none = record { fed = fed; given = none ∙ sym (ap length (nothing_is_due (filter_of p.player) (sound_of p.player))) }
