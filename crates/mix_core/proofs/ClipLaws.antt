-- A clip is read exactly where its table says it.
use Rattle.std.proofs.Common.{◌≡◌, ℕ, ◌+◌, ◌-◌, ◌≤◌, ◌<◌, ◌^◌, Result, Ok, refl, arith}
use Rattle.toml.specs.Data.{Data, table, Members, get_member}
use Rattle.clip_core.specs.Clips.{ClipContent, GainContent, IsClipWithin}
use Rattle.project_core.specs.declared.key.Key.TheVariants as keys
use Rattle.project_core.specs.declared.key.Table.TheVariants as tables
use Rattle.project_core.specs.declared.fault.ProjectFault.{ProjectFault}
use Rattle.project_core.specs.Keys.{key_name}
use Rattle.project_core.specs.ReadingTakes.{take_number_at}
use Rattle.project_core.specs.Steps.{◌>>=◌}
use Rattle.project_core.proofs.TableLaws.{SaysTable, bind_ok, table_ok}
use Rattle.project_core.proofs.TableAgain.{table_again}
use Rattle.project_core.proofs.TakeLaws.{take_ok, take_again}
use Rattle.mix_core.specs.Keys.{clip_keys}
use Rattle.mix_core.specs.Meaning.{IsClip}
use Rattle.mix_core.specs.Reading.{number_at, number_or_least_at}
use Rattle.mix_core.specs.ReadingGains.{gains_at}
use Rattle.mix_core.specs.ReadingMix.{clip_of}
use Rattle.mix_core.proofs.NumberLaws.{number_again, number_ok, number_or_again, number_or_ok, same_value}
use Rattle.mix_core.proofs.GainLaws.{gains_again, gains_ok}

-- the parts of a clip that was read from a table
parts : (take decoder start at : Result ℕ ProjectFault) (length : ℕ → Result ℕ ProjectFault) (gains : Result GainContent ProjectFault) (c : ClipContent)
    → (take >>= λ a. decoder >>= λ b. start >>= λ s. at >>= λ m. length m >>= λ n. gains >>= λ g. Ok (record { take = a; decoder = b; start = s; at = m; length = n; gains = g })) ≡ Ok c
    → (take ≡ Ok c.take) × (decoder ≡ Ok c.decoder) × (start ≡ Ok c.start) × (at ≡ Ok c.at) × (length c.at ≡ Ok c.length) × (gains ≡ Ok c.gains)
parts take decoder start at length gains c e =
    let a = bind_ok take _ c e in
    let b = bind_ok decoder _ c a.2 in
    let s = bind_ok start _ c b.2 in
    let m = bind_ok at _ c s.2 in
    let n = bind_ok (length m.0) _ c m.2 in
    let g = bind_ok gains _ c n.2 in
    let made : ClipContent = record { take = a.0; decoder = b.0; start = s.0; at = m.0; length = n.0; gains = g.0 } in
    let same = same_value (Ok made) made c refl g.2 in
    rw (← same) (a.1, b.1, s.1, m.1, n.1, g.1)

pub clip_ok : (takes decoders i : ℕ) → 0 < decoders → (d : Data) (c : ClipContent) → clip_of takes decoders i d ≡ Ok c → SaysTable (IsClip takes decoders) d c
unfolding clip_of number_or_least_at
clip_ok takes decoders i some d c e =
    let a = bind_ok _ _ c e in
    let t = a.0 in
    let known = table_ok keys.Clip (tables.Clip i) clip_keys d t a.1 in
    let q = parts (take_number_at (tables.Clip i) i takes t) (number_or_least_at keys.Decoder (tables.Clip i) 0 decoders t) (number_at keys.Start (tables.Clip i) 0 (2 ^ 36 + 1) t) (number_at keys.At (tables.Clip i) 0 (2 ^ 36 + 1) t) (λ m. number_at keys.Length (tables.Clip i) 1 (2 ^ 36 + 1 - m) t) (gains_at (tables.Clip i) t) c a.2 in
    let take = take_ok (tables.Clip i) i takes t c.take q.0 in
    let decoder = number_or_ok keys.Decoder (tables.Clip i) 0 decoders (get_member (key_name keys.Decoder) t) c.decoder some q.1 in
    let start = number_ok keys.Start (tables.Clip i) 0 (2 ^ 36 + 1) t c.start q.2 in
    let at = number_ok keys.At (tables.Clip i) 0 (2 ^ 36 + 1) t c.at q.3 in
    let length = number_ok keys.Length (tables.Clip i) 1 (2 ^ 36 + 1 - c.at) t c.length q.4 in
    let gains = gains_ok (tables.Clip i) t c.gains q.5 in
    let starts : c.start ≤ 2 ^ 36 = omega (arith, start.2) in
    let ends : c.at + c.length ≤ 2 ^ 36 = omega (arith, at.2, length.2) in
    let limits : IsClipWithin takes decoders c = record { take_is_there = take.1; decoder_is_there = decoder.2; start_fits = starts; some_places = length.1; end_fits = ends; gains_fit = gains.fit } in
    (t, known.0, record { no_others = known.1; take = take.0; decoder = decoder.0; start = start.0; at = at.0; length = length.0; gain = gains.gain; gains = gains.gains; some_lists = gains.some_lists; limits = limits })

pub clip_again : (takes decoders i : ℕ) (t : Members) (c : ClipContent) → IsClip takes decoders t c → clip_of takes decoders i (table t) ≡ Ok c
unfolding clip_of number_or_least_at
clip_again takes decoders i t c h =
    let ends = h.limits.end_fits in
    let places = h.limits.some_places in
    let at : c.at < 2 ^ 36 + 1 = omega arith in
    let start : c.start < 2 ^ 36 + 1 = omega (arith, h.limits.start_fits) in
    let length : c.length < 2 ^ 36 + 1 - c.at = omega arith in
    rw (
      table_again keys.Clip (tables.Clip i) clip_keys t h.no_others,
      take_again (tables.Clip i) i takes t c.take h.take h.limits.take_is_there,
      number_or_again keys.Decoder (tables.Clip i) 0 decoders (get_member (key_name keys.Decoder) t) c.decoder h.decoder (omega arith) h.limits.decoder_is_there,
      number_again keys.Start (tables.Clip i) 0 (2 ^ 36 + 1) t c.start h.start (omega arith) start,
      number_again keys.At (tables.Clip i) 0 (2 ^ 36 + 1) t c.at h.at (omega arith) at,
      number_again keys.Length (tables.Clip i) 1 (2 ^ 36 + 1 - c.at) t c.length h.length places length,
      gains_again (tables.Clip i) t c.gains (record { gain = h.gain; gains = h.gains; some_lists = h.some_lists; fit = h.limits.gains_fit }),
    )
