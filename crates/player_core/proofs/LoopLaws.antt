-- The streams of a sound, fed one after the other.
use Rattle.std.proofs.Common.{◌≡◌, ◌≢◌, ℕ, ◌+◌, ◌-◌, ◌*◌, ◌<◌, ◌≤◌, ℤ, List, ◌++◌, map, length, get_or, set, refl, sym, subst, ap, ◌∙◌, inl, inr, arith, get_or-set_other, get_or-set_same, length-set}
use Rattle.std.specs.List.{range_with_len}
use Rattle.std.proofs.lemmas.Bool.{cases_lt}
use Rattle.dsd_bits.specs.declared.sound.Sound.{Sound}
use Rattle.fir_core.specs.Decimator.{Decimator, samples_of}
use Rattle.fir_core.specs.Streams.{Feeds, Fits}
use Rattle.fir_core.specs.StreamView.{IsStream, state_of}
use Rattle.fir_core.specs.declared.stream.Stream.{Stream}
use Rattle.player_core.specs.Due.{bytes_known, channel_bits, channel_bytes, frames_due}
use Rattle.player_core.specs.Frames.{tile_of}
use Rattle.player_core.specs.Groups.{channel_part, group_size}
use Rattle.player_core.specs.PlayerView.{AllFit, AreChannels, HasParts, IsChannel}
use Rattle.player_core.specs.declared.groups.WholeGroups.{WholeGroups}
use Rattle.player_core.proofs.FeedLaws.{fits_all, gives, tile_more}

-- the first streams were fed, and the others are as they were
pub record FedUpTo (s : Sound) (number : ℕ) (groups : List ℕ) (old now : List Stream) (tile : List ℤ) (c : ℕ) : Type 0 where
  pub long : length now ≡ length old
  pub later : (k : ℕ) (t : Stream) → c ≤ k → get_or now k t ≡ get_or old k t
  pub done : (d : Decimator) (fed : ℕ) → AreChannels d s.count fed old → (k : ℕ) (t : Stream) → k < c → IsChannel d s.count (fed + number) (get_or now k t)
  pub fits : (d : Decimator) (fed : ℕ) → AreChannels d s.count fed old → (prefix : List ℕ) (k : ℕ) → length prefix ≡ k * group_size s.interleaving s.channels
      → bytes_known s (length prefix) ≡ fed → bytes_known s (length (prefix ++ groups)) ≡ fed + number → AllFit s old prefix
      → ((i : ℕ) (t : Stream) → i < c → Fits (state_of (get_or now i t)) (channel_bytes s (prefix ++ groups) i))
      × (tile ≡ tile_of d (map (channel_bits s (prefix ++ groups)) (range_with_len 0 c)) (frames_due d s (length prefix)) (frames_due d s (length (prefix ++ groups)) - frames_due d s (length prefix)))

module _ (s : Sound) (number : ℕ) (groups : List ℕ) (old now : List Stream) (tile tile' : List ℤ) (c : ℕ) (new t : Stream)
    (so_far : FedUpTo s number groups old now tile c) (low : c < length old) (few : length old ≤ s.channels)
    (ready : IsStream new) (feeds : Feeds (state_of (get_or now c t)) (state_of new) (channel_part s.interleaving s.channels groups c 0 number) tile tile')
    (fed_is : new.fed ≡ (get_or now c t).fed + number) (filter : new.taps ≡ (get_or now c t).taps) (bits : new.count ≡ (get_or now c t).count) where
  same : get_or now c t ≡ get_or old c t
  same = so_far.later c t (omega arith)

  set_to : List Stream
  set_to = set now c new

  here : (u : Stream) → get_or set_to c u ≡ new
  unfolding set_to
  here u = get_or-set_same now c new u (omega (arith, so_far.long))

  other : (k : ℕ) (u : Stream) → k ≢ c → get_or set_to k u ≡ get_or now k u
  unfolding set_to
  other k u differs = get_or-set_other now c k new u differs

  channel : (d : Decimator) (fed : ℕ) → AreChannels d s.count fed old → IsChannel d s.count fed (get_or now c t)
  channel d fed are = subst (IsChannel d s.count fed) (sym same) (are c t low)

  pub fed_next : FedUpTo s number groups old (set now c new) tile' (c + 1)
  unfolding set_to
  fed_next = record {
    long = length-set now c new ∙ so_far.long;
    later = λ k u h. other k u (omega arith) ∙ so_far.later k u (omega arith);
    done = λ d fed are k u h. elim (cases_lt k c) [
      | inl before ↦ subst (IsChannel d s.count (fed + number)) (sym (other k u (omega arith))) (so_far.done d fed are k u before)
      | inr at ↦
          let is : k ≡ c = omega arith in
          let was = channel d fed are in
          subst (λ (n : ℕ). IsChannel d s.count (fed + number) (get_or set_to n u)) (sym is)
          (subst (IsChannel d s.count (fed + number)) (sym (here u)) (record {
            ready = ready;
            filter = filter ∙ was.filter;
            bits = bits ∙ was.bits;
            bytes = fed_is ∙ ap (λ n. n + number) was.bytes;
          }))
    ];
    fits = λ d fed are prefix k long was is all.
        let so = so_far.fits d fed are prefix k long was is all in
        let chan = channel d fed are in
        let fit : Fits (state_of (get_or now c t)) (channel_bytes s prefix c) = subst (λ (u : Stream). Fits (state_of u) (channel_bytes s prefix c)) (sym same) (all c t low) in
        let least : 8 ≤ d.factor = subst (λ (e : Decimator). 8 ≤ e.factor) chan.filter chan.ready.limits.least_factor in
        let within : c < s.channels = omega arith in
        let n = frames_due d s (length prefix) in
        let m = frames_due d s (length (prefix ++ groups)) - n in (
          λ i u h. elim (cases_lt i c) [
            | inl before ↦ subst (λ (v : Stream). Fits (state_of v) (channel_bytes s (prefix ++ groups) i)) (sym (other i u (omega arith))) (so.0 i u before)
            | inr at ↦
                let at_c : i ≡ c = omega arith in
                subst (λ (j : ℕ). Fits (state_of (get_or set_to j u)) (channel_bytes s (prefix ++ groups) j)) (sym at_c)
                (subst (λ (v : Stream). Fits (state_of v) (channel_bytes s (prefix ++ groups) c)) (sym (here u))
                (fits_all d s fed number prefix groups k c within long was is (get_or now c t) new tile tile' chan.filter chan.bits feeds fit))
          ],
          gives d s fed number prefix groups k c within long was is (get_or now c t) new tile tile' least chan.filter chan.bits feeds fit
              ∙ ap (λ xs. xs ++ samples_of d (channel_bits s (prefix ++ groups) c) n m) so.1 ∙ sym (tile_more d (channel_bits s (prefix ++ groups)) n m c),
        );
  }

-- the same of any sound whose channels have the groups' bytes
pub record FedAsGroups (groups : WholeGroups) (old now : List Stream) (tile : List ℤ) (c : ℕ) : Type 0 where
  pub long : length now ≡ length old
  pub later : (k : ℕ) (t : Stream) → c ≤ k → get_or now k t ≡ get_or old k t
  pub every : (s : Sound) (bytes : List ℕ) → HasParts s bytes groups → FedUpTo s groups.number bytes old now tile c

pub groups_next : (groups : WholeGroups) (old now : List Stream) (tile tile' : List ℤ) (c : ℕ) (new t : Stream) → FedAsGroups groups old now tile c → c < length old → length old ≡ groups.channels
    → IsStream new → Feeds (state_of (get_or now c t)) (state_of new) (channel_part groups.interleaving groups.channels groups.bytes.now c 0 groups.number) tile tile'
    → new.fed ≡ (get_or now c t).fed + groups.number → new.taps ≡ (get_or now c t).taps → new.count ≡ (get_or now c t).count → FedAsGroups groups old (set now c new) tile' (c + 1)
groups_next groups old now tile tile' c new t so_far low few ready feeds fed_is filter bits = record {
  long = length-set now c new ∙ so_far.long;
  later = λ k u h. get_or-set_other now c k new u (omega arith) ∙ so_far.later k u (omega arith);
  every = λ s bytes has. fed_next s groups.number bytes old now tile tile' c new t (so_far.every s bytes has) low (omega (arith, few, has.number)) ready
      (subst (λ (xs : List ℕ). Feeds (state_of (get_or now c t)) (state_of new) xs tile tile') (sym (has.same c (omega (arith, low, few)))) feeds) fed_is filter bits;
}

-- the groups are bytes of a sound of their own
abbrev pub own_sound : WholeGroups → ℕ → Sound
own_sound groups count = record { rate = 0; channels = groups.channels; count = count; start = 0; size = 0; interleaving = groups.interleaving }

pub own_parts : (groups : WholeGroups) (count : ℕ) → HasParts (own_sound groups count) groups.bytes.now groups
own_parts groups count = record { number = refl; same = λ c h. refl }
