-- The sound that a prefix states, field by field and by reading in order.
use Rattle.std.proofs.Common.{◌≡◌, ℕ, List, sym, ap, ◌∙◌, arith}
use Rattle.dsd_bits.specs.declared.sound.Sound.{Sound}
use Rattle.dsd_bits.specs.declared.sound.SoundAt.TheVariants.{Found}
use Rattle.dsf_core.specs.Headers.{HoldsHead, StatesSound, sound_at}
use Rattle.dsf_core.specs.Laws.{FoundIsStated, SoundIsStated}
use Rattle.dsf_core.specs.Reading.{stated_sound}
use Rattle.dsf_core.proofs.FileLaws.{Leads, leads_of, prefix_again}
use Rattle.dsf_core.proofs.HeaderLaws.{found, found_leads, prefix_found, sound_of_stated}

states : (prefix : List ℕ) (s : Sound) → Leads prefix s → StatesSound prefix s
states prefix s l = record {
  first = l.heads.first;
  first_is = l.heads.first_is;
  second = l.heads.second;
  second_long = l.heads.second_long;
  third = l.heads.third;
  third_long = l.heads.third_long;
  whole_head = l.holds.head;
  version_is = l.limits.version_is;
  format_is = l.heads.format_is;
  some_channel = l.limits.some_channel;
  six_channels = l.limits.six_channels;
  rate_low = l.limits.rate_low;
  rate_high = l.limits.rate_high;
  order = l.order;
  order_is = l.limits.order_is;
  block_is = l.limits.block_is;
  not_long = l.limits.not_long;
  in_chunk = l.fits;
  stated = l.stated;
}

stated_found : (prefix : List ℕ) (s : Sound) → StatesSound prefix s → sound_at prefix ≡ Found s
stated_found prefix s t =
    let holds : HoldsHead prefix = record { fields = omega (arith, t.second_long, t.whole_head); head = t.whole_head } in
    let reads = prefix_again prefix t.order
    (record { first = t.first; first_is = t.first_is; second = t.second; second_long = t.second_long; third = t.third; third_long = t.third_long; format_is = t.format_is })
    (record { version_is = t.version_is; some_channel = t.some_channel; six_channels = t.six_channels; rate_low = t.rate_low; rate_high = t.rate_high; order_is = t.order_is; block_is = t.block_is; not_long = t.not_long })
    holds t.in_chunk in
    prefix_found prefix t.order holds reads ∙ ap found (sym t.stated)

-- ---- the laws

pub found_is_stated : FoundIsStated
found_is_stated prefix s = (λ e. states prefix s (found_leads prefix s e), stated_found prefix s)

pub sound_is_stated : SoundIsStated
sound_is_stated file r order h = (stated_sound file order, states file (stated_sound file order) (leads_of file r order h), sound_of_stated file r order h)
