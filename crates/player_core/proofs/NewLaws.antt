-- Streams before their first byte.
use Rattle.std.proofs.Common.{◌≡◌, ℕ, ◌*◌, min, List, [], ◌∷◌, ◌++◌, length, get_or, refl, sym, subst, ap, ◌∙◌, inl, inr, arith, length-append, ◌-◌}
use Rattle.std.proofs.lemmas.Bool.{cases_lt}
use Rattle.std.proofs.lemmas.List.{get_or_append_left, get_or-append_right}
use Rattle.std.specs.Int.{div_ceil}
use Rattle.std.proofs.Math.Nat.{zero-div}
use Rattle.dsd_bits.specs.declared.sound.Sound.{Sound}
use Rattle.fir_core.specs.Decimator.{Decimator}
use Rattle.fir_core.specs.Streams.{Fits}
use Rattle.fir_core.specs.StreamView.{IsStream, state_of}
use Rattle.fir_core.specs.declared.stream.Stream.{Stream}
use Rattle.player_core.specs.Due.{bytes_known}
use Rattle.player_core.specs.Groups.{channel_part, group_size, part_size}
use Rattle.player_core.specs.PlayerView.{AllFit, AreChannels, AreNew, IsChannel}

pub one_new_more : (d : Decimator) (count : ℕ) (streams more : List Stream) (new : Stream) → more ≡ streams ++ new ∷ [] → AreNew d count streams
    → IsStream new → state_of new ≡ record { decimator = d; count = count; fed = 0; held = [] } → Fits (state_of new) [] → AreNew d count more
one_new_more d count streams more new is are ready made fits = subst (AreNew d count) (sym is) (λ c t h. elim (cases_lt c (length streams)) [
  | inl before ↦
      let e = get_or_append_left streams (new ∷ []) t c before in
      subst (λ (u : Stream). IsChannel d count 0 u × Fits (state_of u) []) (sym e) (are c t before)
  | inr last ↦
      let at : c ≡ length streams = omega (arith, length-append streams (new ∷ []), h) in
      let e : get_or (streams ++ new ∷ []) c t ≡ new = get_or-append_right streams (new ∷ []) (length streams) c t refl last ∙ ap (λ n. get_or (new ∷ []) n t) (let z : c - length streams ≡ 0 = omega arith in z) in
      subst (λ (u : Stream). IsChannel d count 0 u × Fits (state_of u) []) (sym e)
      (record { ready = ready; filter = ap (λ s. s.decimator) made; bits = ap (λ s. s.count) made; bytes = ap (λ s. s.fed) made }, fits)
])

-- ---- before the first byte
pub none_known : (s : Sound) → bytes_known s 0 ≡ 0
none_known s = ap (λ n. min (div_ceil s.count 8) (n * part_size s.interleaving)) (zero-div (group_size s.interleaving s.channels)) ∙ omega arith

pub new_channels : (d : Decimator) (s : Sound) (streams : List Stream) → AreNew d s.count streams → AreChannels d s.count (bytes_known s 0) streams
new_channels d s streams are = λ c t h. subst (λ n. IsChannel d s.count n (get_or streams c t)) (sym (none_known s)) (are c t h).0

pub new_fit : (d : Decimator) (s : Sound) (streams : List Stream) → AreNew d s.count streams → AllFit s streams []
new_fit d s streams are = λ c t h. subst (Fits (state_of (get_or streams c t))) (sym (ap (channel_part s.interleaving s.channels [] c 0) (none_known s))) (are c t h).1
