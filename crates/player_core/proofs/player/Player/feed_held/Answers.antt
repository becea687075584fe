use Rattle.std.proofs.Common.{◌≡◌, ℕ, ℤ, ◌+◌, ◌-◌, ◌*◌, ◌/◌, ◌%◌, ◌<◌, ◌++◌, ◌∙◌, List, length, length-append, take, drop, refl, sym, subst, ap, ap₂, arith}
use Rattle.std.specs.List.{flat_map}
use Rattle.std.proofs.Math.Nat.{div-mul-le_self}
use Rattle.std.proofs.Math.Seq.{take-append_seam}
use Rattle.std.proofs.lemmas.Result.{IfOk-from_err}
use Rattle.fir_core.specs.Decimator.{IsWithinLimits}
use Rattle.wave_core.specs.Frames.{frames_of}
use Rattle.wave_core.specs.Texts.{sample_bytes}
use Rattle.player_core.specs.Due.{bytes_known}
use Rattle.player_core.specs.Groups.{group_size, part_size}
use Rattle.player_core.specs.PlayerView.{AreChannels, FeedAll, IsPlayerFed}
use Rattle.player_core.proofs.FeedLaws.{mul_some, some_part}
use Rattle.player_core.proofs.StepLaws.{all_fit, gives_due, groups_size, known_grows, known_more, held_next, filter_known, held_size, in_range, ready_more}
use Rattle.player_core.proofs.player.Player.feed_held.Goals as goal
use Rattle.player_core.proofs.player.Player.feed_held.Goals.{After-deref_mut, After-deref-2, After-drop_first}

pub overflow_sub-number : goal.overflow_sub-number
overflow_sub-number c =
    let s = c.args.self.now.sound in
    omega (arith, c.bytes_known.ensures, c.bytes_known-2.ensures, known_grows s c.args.self.now.fed (c.args.self.now.fed + length c.args.bytes.now) c.requires.ready.sound.some_channel (omega arith))

pub feed_all-requires-clause-ready : goal.feed_all-requires-clause-ready
feed_all-requires-clause-ready c =
    let p = c.args.self.now in
    rw c.deref_mut.ensures.value (ready_more p.taps.now p.sound p.streams.items p.fed (p.fed + length c.args.bytes.now) (c.bytes_known.result - c.bytes_known-2.result) c.requires.ready.sound.some_channel (omega arith)
    (rw (c.bytes_known.ensures, c.bytes_known-2.ensures) refl) c.requires.ready.each)

-- the whole groups that are fed
groups_are : (c : After-deref_mut) → c.split_at.result.0.now ≡ take (length (c.args.self.now.held.items ++ c.args.bytes.now) / group_size c.args.self.now.sound.interleaving c.args.self.now.sound.channels * group_size c.args.self.now.sound.interleaving c.args.self.now.sound.channels) (c.args.self.now.held.items ++ c.args.bytes.now)
groups_are c =
    let all = c.deref.ensures.value ∙ c.in_ok-extend_from_slice.ensures.items in
    let size : c.len.result ≡ length (c.args.self.now.held.items ++ c.args.bytes.now) = omega (arith, c.len.ensures, c.extend_from_slice.new.self.ok.0, ap length c.in_ok-extend_from_slice.ensures.items) in
    c.split_at.ensures.front ∙ ap₂ (λ n (g : ℕ). take (n / g * g) c.deref.result.now) size c.group_size-size.ensures
    ∙ ap (take (length (c.args.self.now.held.items ++ c.args.bytes.now) / group_size c.args.self.now.sound.interleaving c.args.self.now.sound.channels * group_size c.args.self.now.sound.interleaving c.args.self.now.sound.channels)) all

pub feed_all-requires-clause-enough : goal.feed_all-requires-clause-enough
feed_all-requires-clause-enough c =
    let p = c.args.self.now in
    let s = p.sound in
    let past = c.requires.ready.history in
    let rest = held_size past.0 p.held.items (group_size s.interleaving s.channels) past.1.held ∙ ap (λ n. n % group_size s.interleaving s.channels) (sym past.1.fed) in
    let size = ap length (groups_are (goal.at.feed_all-requires-clause-enough c).After-deref_mut) ∙ groups_size p.held.items c.args.bytes.now (group_size s.interleaving s.channels) in
    rw (c.bytes_known.ensures, c.bytes_known-2.ensures) (known_more s p.fed (length c.args.bytes.now) (length p.held.items) (length c.split_at.result.0.now) c.requires.ready.sound.some_channel rest size)

next_known : (c : After-deref_mut) (before : List ℕ) → IsPlayerFed c.args.self.now before
    → bytes_known c.args.self.now.sound (length (before ++ c.args.bytes.now)) ≡ bytes_known c.args.self.now.sound c.args.self.now.fed + (c.bytes_known.result - c.bytes_known-2.result)
next_known c before fed =
    let s = c.args.self.now.sound in
    let n = c.args.self.now.fed in
    let size : length (before ++ c.args.bytes.now) ≡ n + length c.args.bytes.now = omega (arith, length-append before c.args.bytes.now, fed.fed) in
    let grows = known_grows s n (n + length c.args.bytes.now) c.requires.ready.sound.some_channel (omega arith) in
    ap (bytes_known s) size ∙ omega (arith, grows, c.bytes_known.ensures, c.bytes_known-2.ensures)

streams_are : (c : After-deref-2) → AreChannels c.args.self.now.taps.now c.args.self.now.sound.count (bytes_known c.args.self.now.sound c.args.self.now.fed) c.deref_mut.result.now
streams_are c = rw c.deref_mut.ensures.value c.requires.ready.each

fed_all : (c : After-deref-2) → FeedAll c.args.self.now.taps.now c.args.self.now.sound (bytes_known c.args.self.now.sound c.args.self.now.fed) (c.bytes_known.result - c.bytes_known-2.result) c.args.self.now.streams.items c.feed_all.new.streams c.split_at.result.0.now c.feed_all.new.tile.items
fed_all c = rw c.deref_mut.ensures.value at (c.in_ok-feed_all.ensures.fed c.args.self.now.sound c.split_at.result.0.now (record { number = refl; same = λ i h. refl }) c.args.self.now.taps.now (bytes_known c.args.self.now.sound c.args.self.now.fed) (streams_are c))

number_is : (c : After-deref-2) → length c.feed_all.new.streams ≡ c.args.self.now.sound.channels
number_is c = omega (arith, c.feed_all.auto.streams, c.deref_mut.ensures.len, ap length c.deref_mut.ensures.value, c.requires.ready.number)

known : (c : After-deref-2) → IsWithinLimits c.args.self.now.taps.now
known c = filter_known c.args.self.now.taps.now c.args.self.now.sound.count (bytes_known c.args.self.now.sound c.args.self.now.fed) c.args.self.now.streams.items (omega (arith, c.requires.ready.number, c.requires.ready.sound.some_channel)) c.requires.ready.each

pub push_tile-requires-clause-values : goal.push_tile-requires-clause-values
push_tile-requires-clause-values c =
    let p = c.args.self.now in
    let s = p.sound in
    let d = p.taps.now in
    let past = c.requires.ready.history in
    let e = (goal.at.push_tile-requires-clause-values c).After-deref_mut in
    rw c.deref-2.ensures.value (in_range s past.0 c.args.bytes.now c.requires.ready.sound.some_channel d p.streams.items c.feed_all.new.streams c.feed_all.new.tile.items (bytes_known s p.fed) (c.bytes_known.result - c.bytes_known-2.result)
    c.requires.ready.number (number_is c) (known c).least_factor (ap (bytes_known s) (sym past.1.fed)) (next_known e past.0 past.1) past.1.each p.held.items c.split_at.result.0.now past.1.held (groups_are e)
    (fed_all c) c.width.result c.width.ensures.value (known c).known_width)

streams_back : (c : After-deref-2) → take c.args.self.now.streams.len (c.feed_all.new.streams ++ drop (length c.feed_all.new.streams) c.args.self.now.streams.items) ≡ c.feed_all.new.streams
streams_back c =
    let size : c.args.self.now.streams.len ≡ length c.feed_all.new.streams = omega (arith, c.feed_all.auto.streams, ap length c.deref_mut.ensures.value, c.args.self.now.streams.ok.0) in
    ap (λ n. take n (c.feed_all.new.streams ++ drop (length c.feed_all.new.streams) c.args.self.now.streams.items)) size ∙ take-append_seam c.feed_all.new.streams (drop (length c.feed_all.new.streams) c.args.self.now.streams.items)

-- what is held then
held_now : (c : After-drop_first) → c.drop_first.new.held.items ≡ drop (length (c.args.self.now.held.items ++ c.args.bytes.now) / group_size c.args.self.now.sound.interleaving c.args.self.now.sound.channels * group_size c.args.self.now.sound.interleaving c.args.self.now.sound.channels) (c.args.self.now.held.items ++ c.args.bytes.now)
held_now c =
    let size : c.len.result ≡ length (c.args.self.now.held.items ++ c.args.bytes.now) = omega (arith, c.len.ensures, c.extend_from_slice.new.self.ok.0, ap length c.in_ok-extend_from_slice.ensures.items) in
    c.drop_first.ensures ∙ ap₂ (λ n (g : ℕ). drop (n / g * g) c.extend_from_slice.new.self.items) size c.group_size-size.ensures
    ∙ ap (drop (length (c.args.self.now.held.items ++ c.args.bytes.now) / group_size c.args.self.now.sound.interleaving c.args.self.now.sound.channels * group_size c.args.self.now.sound.interleaving c.args.self.now.sound.channels)) c.in_ok-extend_from_slice.ensures.items

pub returns-clause-ok : goal.returns-clause-ok
returns-clause-ok c =
    let p = c.args.self.now in
    let s = p.sound in
    let d = p.taps.now in
    let w = (goal.at.returns-clause-ok c).After-deref-2 in
    let e = (goal.at.returns-clause-ok c).After-deref_mut in (
      flat_map (sample_bytes d.width) (frames_of c.feed_all.new.tile.items (length c.feed_all.new.tile.items / s.channels)),
      c.in_ok-push_tile.ensures ∙ ap₂ (λ (w : ℕ) (xs : List ℤ). c.args.out.now.items ++ flat_map (sample_bytes w) (frames_of xs (length xs / s.channels))) c.width.ensures.value c.deref-2.ensures.value,
      λ before fed. (
        record {
          fed = omega (arith, length-append before c.args.bytes.now, fed.fed);
          held = held_now (goal.at.returns-clause-ok c).After-drop_first ∙ held_next s before c.args.bytes.now c.requires.ready.sound.some_channel p.held.items fed.held;
          each = rw (streams_back w) (all_fit s before c.args.bytes.now c.requires.ready.sound.some_channel d p.streams.items c.feed_all.new.streams c.feed_all.new.tile.items (bytes_known s p.fed) (c.bytes_known.result - c.bytes_known-2.result)
              c.requires.ready.number (number_is w) (known w).least_factor (ap (bytes_known s) (sym fed.fed)) (next_known e before fed) fed.each p.held.items c.split_at.result.0.now fed.held (groups_are e) (fed_all w));
        },
        gives_due s before c.args.bytes.now c.requires.ready.sound.some_channel d p.streams.items c.feed_all.new.streams c.feed_all.new.tile.items (bytes_known s p.fed) (c.bytes_known.result - c.bytes_known-2.result)
            c.requires.ready.number (number_is w) (known w).least_factor (ap (bytes_known s) (sym fed.fed)) (next_known e before fed) fed.each p.held.items c.split_at.result.0.now fed.held (groups_are e) (fed_all w),
      ),
    )

pub returns-clause-ready : goal.returns-clause-ready
returns-clause-ready c =
    let p = c.args.self.now in
    let s = p.sound in
    let past = c.requires.ready.history in
    let w = (goal.at.returns-clause-ready c).After-deref-2 in
    let grows = known_grows s p.fed (p.fed + length c.args.bytes.now) c.requires.ready.sound.some_channel (omega arith) in
    let reached : bytes_known s p.fed + (c.bytes_known.result - c.bytes_known-2.result) ≡ bytes_known s (p.fed + length c.args.bytes.now) = omega (arith, grows, c.bytes_known.ensures, c.bytes_known-2.ensures) in
    record {
      sound = c.requires.ready.sound;
      whole = c.requires.ready.whole;
      within = c.requires.few;
      number = rw (streams_back w) (number_is w);
      each = rw (streams_back w, ← reached) (c.in_ok-feed_all.ensures.channels p.taps.now s.count (bytes_known s p.fed) (streams_are w));
      history = (past.0 ++ c.args.bytes.now, ((returns-clause-ok c).2 past.0 past.1).0);
    }

pub bytes_known-requires : goal.bytes_known-requires
bytes_known-requires c = (c.requires.ready.sound.some_channel, c.requires.ready.sound.six_channels)

pub bytes_known-requires-2 : goal.bytes_known-requires-2
bytes_known-requires-2 c = (c.requires.ready.sound.some_channel, c.requires.ready.sound.six_channels)

pub group_size-size-requires : goal.group_size-size-requires
group_size-size-requires c = c.requires.ready.sound.six_channels

pub nonzero_div-whole : goal.nonzero_div-whole
nonzero_div-whole c = subst (λ n. 0 < n) (sym c.group_size-size.ensures) (mul_some c.args.self.now.sound.channels (part_size c.args.self.now.sound.interleaving) c.requires.ready.sound.some_channel (some_part c.args.self.now.sound.interleaving))

pub overflow_mul-whole : goal.overflow_mul-whole
overflow_mul-whole c = omega (arith, div-mul-le_self c.len.result c.group_size-size.result)

pub split_at-requires : goal.split_at-requires
split_at-requires c = omega (arith, div-mul-le_self c.len.result c.group_size-size.result, c.len.ensures, c.deref.ensures.len)

pub drop_first-requires : goal.drop_first-requires
drop_first-requires c = omega (arith, div-mul-le_self c.len.result c.group_size-size.result, c.len.ensures, c.extend_from_slice.new.self.ok.0)

pub feed_all-requires-clause-channels : goal.feed_all-requires-clause-channels
feed_all-requires-clause-channels c = (ap length c.deref_mut.ensures.value ∙ c.requires.ready.number, c.requires.ready.sound.six_channels)

pub push_tile-requires-clause-channels : goal.push_tile-requires-clause-channels
push_tile-requires-clause-channels c = c.requires.ready.sound.some_channel

pub push_tile-requires-clause-width : goal.push_tile-requires-clause-width
push_tile-requires-clause-width c = c.width.ensures.known

-- ---- the exits

pub returns-clause-same : goal.returns-clause-same
returns-clause-same c = (refl, refl)

pub returns-clause-fed : goal.returns-clause-fed
returns-clause-fed c = refl

pub returns-in_err-extend_from_slice-clause-same : goal.returns-in_err-extend_from_slice-clause-same
returns-in_err-extend_from_slice-clause-same c = (refl, refl)

pub returns-in_err-extend_from_slice-clause-ready : goal.returns-in_err-extend_from_slice-clause-ready
returns-in_err-extend_from_slice-clause-ready c = IfOk-from_err c.from_residual.result _ c.from_residual.ensures.0

pub returns-in_err-extend_from_slice-clause-fed : goal.returns-in_err-extend_from_slice-clause-fed
returns-in_err-extend_from_slice-clause-fed c = IfOk-from_err c.from_residual.result _ c.from_residual.ensures.0

pub returns-in_err-extend_from_slice-clause-ok : goal.returns-in_err-extend_from_slice-clause-ok
returns-in_err-extend_from_slice-clause-ok c = IfOk-from_err c.from_residual.result _ c.from_residual.ensures.0

pub returns-in_err-feed_all-clause-same : goal.returns-in_err-feed_all-clause-same
returns-in_err-feed_all-clause-same c = (refl, refl)

pub returns-in_err-feed_all-clause-ready : goal.returns-in_err-feed_all-clause-ready
returns-in_err-feed_all-clause-ready c = IfOk-from_err c.from_residual-in_err-feed_all.result _ c.from_residual-in_err-feed_all.ensures.0

pub returns-in_err-feed_all-clause-fed : goal.returns-in_err-feed_all-clause-fed
returns-in_err-feed_all-clause-fed c = IfOk-from_err c.from_residual-in_err-feed_all.result _ c.from_residual-in_err-feed_all.ensures.0

pub returns-in_err-feed_all-clause-ok : goal.returns-in_err-feed_all-clause-ok
returns-in_err-feed_all-clause-ok c = IfOk-from_err c.from_residual-in_err-feed_all.result _ c.from_residual-in_err-feed_all.ensures.0

pub returns-in_err-push_tile-clause-same : goal.returns-in_err-push_tile-clause-same
returns-in_err-push_tile-clause-same c = (refl, refl)

pub returns-in_err-push_tile-clause-ready : goal.returns-in_err-push_tile-clause-ready
returns-in_err-push_tile-clause-ready c = IfOk-from_err c.from_residual-in_err-push_tile.result _ c.from_residual-in_err-push_tile.ensures.0

pub returns-in_err-push_tile-clause-fed : goal.returns-in_err-push_tile-clause-fed
returns-in_err-push_tile-clause-fed c = IfOk-from_err c.from_residual-in_err-push_tile.result _ c.from_residual-in_err-push_tile.ensures.0

pub returns-in_err-push_tile-clause-ok : goal.returns-in_err-push_tile-clause-ok
returns-in_err-push_tile-clause-ok c = IfOk-from_err c.from_residual-in_err-push_tile.result _ c.from_residual-in_err-push_tile.ensures.0
