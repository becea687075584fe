-- What a run gives of more bytes.
use Rattle.std.proofs.Common.{◌≡◌, ℕ, ◌+◌, ◌-◌, ◌*◌, ◌%◌, ◌<◌, ◌≤◌, List, ◌++◌, length, take, drop, None, Some, sym, refl, ap, ap₂, ◌∙◌, arith, length-append, length-take, length-drop}
use Rattle.std.proofs.Math.Nat.{add-mul}
use Rattle.std.proofs.lemmas.List.{drop-drop, take_all}
use Rattle.dsd_bits.specs.declared.interleaving.Interleaving.TheVariants.{Bytes}
use Rattle.dsd_bits.specs.declared.sound.Sound.{Sound}
use Rattle.dsd_bits.specs.Sounds.{sound_size}
use Rattle.native_core.specs.Native.{frame_number, frame_size, native_of}
use Rattle.native_core.specs.Runs.{GivesMore, IsReady, frames_size, group_size, run_fed}
use Rattle.native_core.specs.declared.run.BitRun.{BitRun}
use Rattle.native_core.proofs.NativeLaws.{native_has_size}
use Rattle.native_core.proofs.RunLaws.{frames_add, given_on, groups_size, held_is, less_times, size_after}

module _ (r : BitRun) (ready : IsReady r) (bytes : List ℕ) where
  abbrev s : Sound
  s = r.sound

  abbrev gs : ℕ
  gs = group_size s

  abbrev held : List ℕ
  held = r.part.items ++ bytes

  abbrev used : ℕ → ℕ
  used b = sound_size s.interleaving s.channels b

  -- the frames of so many bits more
  abbrev pub made_of : ℕ → List ℕ
  made_of b = native_of r.layout s.interleaving s.channels b (take (used b) held)

  pub made_long : (b : ℕ) → used b ≤ length held → (s.interleaving ≡ Bytes → b % 8 ≡ 0) → length (made_of b) ≡ frames_size r.layout s (frame_number r.layout b)
  made_long b few whole =
      native_has_size r.layout s.interleaving s.channels b (take (used b) held) ready.sound.some_channel (omega (arith, length-take (used b) held, few)) whole

  -- what is given of them is whole frames
  pub given_whole : (b : ℕ) → used b ≤ length held → (s.interleaving ≡ Bytes → b % 8 ≡ 0) → (n : ℕ) × (length (drop r.skip (made_of b)) ≡ frames_size r.layout s n)
  given_whole b few whole =
      let f = frame_size r.layout s.channels in
      let most = frame_number r.layout b in
      let left = ready.skips.0 in
      (most - left, omega (arith, length-drop r.skip (made_of b), made_long b few whole, ready.skips.1, less_times most left f))

  -- ---- to the sound's end
  last_bits : ℕ
  last_bits = s.count - r.group * 32768

  last_used : run_fed r + length bytes ≡ s.size → used (s.count - r.group * 32768) ≡ length held
  last_used ends =
      omega (arith, ends, length-append r.part.items bytes, ready.sound.size, size_after s.interleaving s.channels s.count r.group ready.some)

  pub gives_last : (more : List ℕ) → run_fed r + length bytes ≡ s.size → more ≡ drop r.skip (made_of (s.count - r.group * 32768)) → GivesMore r bytes more None
  gives_last more ends more_is = (
    ends,
    λ start came given h.
        let b = s.count - r.group * 32768 in
        let here = last_used ends in
        let count : r.group * 32768 + b ≡ s.count = omega (arith, ready.some) in
        let all : take (r.group * gs + used b) (came ++ bytes) ≡ came ++ bytes = take_all (r.group * gs + used b) (came ++ bytes) (omega (arith, length-append came bytes, h.long, here, length-append r.part.items bytes)) in
        ap (λ xs. given ++ xs) more_is
        ∙ given_on r.layout s ready.sound start r.group came r.part.items bytes h.long h.part b r.skip given (omega (arith, here)) h.skip h.given_is
        ∙ ap₂ (λ (k : ℕ) (xs : List ℕ). drop (frames_size r.layout s start) (native_of r.layout s.interleaving s.channels k xs)) count all,
  )

  pub last_whole : run_fed r + length bytes ≡ s.size → (n : ℕ) × (length (drop r.skip (made_of (s.count - r.group * 32768))) ≡ frames_size r.layout s n)
  last_whole ends =
      given_whole (s.count - r.group * 32768) (omega (arith, last_used ends)) (λ order. omega (arith, ready.whole order))

  -- ---- whole groups
  module _ (k : ℕ) (few : used (k * 32768) ≤ length held) where
    used_is : used (k * 32768) ≡ k * gs
    used_is = groups_size s.interleaving s.channels k

    pub groups_whole : (n : ℕ) × (length (drop r.skip (made_of (k * 32768))) ≡ frames_size r.layout s n)
    groups_whole = given_whole (k * 32768) few (λ order. omega arith)

    pub gives_groups : (more : List ℕ) (t : BitRun) → run_fed r + length bytes < s.size → (r.group + k) * 32768 ≤ s.count → more ≡ drop r.skip (made_of (k * 32768)) → t.group ≡ r.group + k → t.part.items ≡ drop (used (k * 32768)) held → t.skip ≡ r.skip - length (made_of (k * 32768))
        → GivesMore r bytes more (Some (record { layout = r.layout; sound = r.sound; group = t.group; part = t.part; skip = t.skip }))
    gives_groups more t inside some more_is group_is part_is skip_is =
        let q : BitRun = record { layout = r.layout; sound = r.sound; group = t.group; part = t.part; skip = t.skip } in
        let f = frame_size r.layout s.channels in
        let size = made_long (k * 32768) few (λ order. omega arith) in
        let groups : t.group * gs ≡ r.group * gs + k * gs = ap (λ m. m * gs) group_is ∙ add-mul r.group k gs in
        let part_long : length t.part.items ≡ length held - k * gs = ap length part_is ∙ length-drop (used (k * 32768)) held ∙ ap (λ m. length held - m) used_is in
        let fed : run_fed q ≡ run_fed r + length bytes = omega (arith, groups, part_long, few, used_is, length-append r.part.items bytes) in
        let frames : frames_size r.layout s (frame_number r.layout (t.group * 32768)) ≡ frames_size r.layout s (frame_number r.layout (r.group * 32768)) + frames_size r.layout s (frame_number r.layout (k * 32768)) =
        ap (λ m. frames_size r.layout s (frame_number r.layout (m * 32768))) group_is ∙ ap (λ m. m * f) (frames_add r.layout r.group k) ∙ add-mul (frame_number r.layout (r.group * 32768)) (frame_number r.layout (k * 32768)) f in (
          record {
            sound = ready.sound;
            whole = ready.whole;
            some = omega (arith, some, ap (λ m. m * 32768) group_is);
            fits = omega (arith, fed, inside);
            skips = (ready.skips.0 - frame_number r.layout (k * 32768), omega (arith, skip_is, size, ready.skips.1, less_times ready.skips.0 (frame_number r.layout (k * 32768)) f));
          },
          record { layout = refl; sound = refl },
          fed,
          omega (arith, fed, inside),
          λ start came given h.
              let bits : t.group * 32768 ≡ r.group * 32768 + k * 32768 = ap (λ m. m * 32768) group_is ∙ add-mul r.group k 32768 in
              let place : r.group * gs + used (k * 32768) ≡ t.group * gs = omega (arith, groups, used_is) in
              record {
                long = omega (arith, fed, length-append came bytes, h.long);
                part = part_is ∙ ap (drop (used (k * 32768))) (held_is r.layout s ready.sound start r.group came r.part.items bytes h.long h.part) ∙ drop-drop (used (k * 32768)) (r.group * gs) (came ++ bytes) ∙ ap (λ m. drop m (came ++ bytes)) place;
                skip = omega (arith, skip_is, h.skip, size, frames);
                given_is = ap (λ xs. given ++ xs) more_is
                    ∙ given_on r.layout s ready.sound start r.group came r.part.items bytes h.long h.part (k * 32768) r.skip given few h.skip h.given_is
                    ∙ ap₂ (λ (b m : ℕ). drop (frames_size r.layout s start) (native_of r.layout s.interleaving s.channels b (take m (came ++ bytes)))) (sym bits) place;
              },
        )
