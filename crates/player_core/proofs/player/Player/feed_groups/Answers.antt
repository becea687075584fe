use Rattle.std.proofs.Common.{◌≡◌, ℕ, ℤ, ◌+◌, ◌*◌, ◌/◌, ◌≤◌, ◌++◌, ◌∙◌, List, [], length, length-append, take, drop, refl, sym, subst, ap, ap₂, arith}
use Rattle.std.specs.List.{flat_map}
use Rattle.std.proofs.Math.Seq.{take-append_seam}
use Rattle.std.proofs.lemmas.List.{drop_all, take_all}
use Rattle.fir_core.specs.Decimator.{IsWithinLimits}
use Rattle.wave_core.specs.Frames.{frames_of}
use Rattle.wave_core.specs.Texts.{sample_bytes}
use Rattle.player_core.specs.Due.{bytes_known}
use Rattle.player_core.specs.Groups.{group_size}
use Rattle.player_core.specs.PlayerView.{AreChannels, FeedAll, HasParts, IsPlayerFed}
use Rattle.player_core.proofs.SoundLaws.{few_size}
use Rattle.player_core.proofs.StepLaws.{all_fit, filter_known, gives_due, held_next, in_range, ready_more}
use Rattle.player_core.proofs.player.Player.feed_groups.Goals as goal
use Rattle.player_core.proofs.player.Player.feed_groups.Goals.{After-deref, After-deref_mut}

pub overflow_add-fed : goal.overflow_add-fed
overflow_add-fed c =
    let s = c.args.self.now.sound in
    let sound = c.requires.ready.sound in
    omega (arith, c.requires.few, sound.size, few_size s.interleaving s.channels s.count sound.six_channels sound.in_limit)

pub feed_all-requires-clause-channels : goal.feed_all-requires-clause-channels
feed_all-requires-clause-channels c = (ap length c.deref_mut.ensures.value ∙ c.requires.ready.number ∙ c.requires.groups.parts.number, subst (λ n. n ≤ 6) c.requires.groups.parts.number c.requires.ready.sound.six_channels)

pub feed_all-requires-clause-ready : goal.feed_all-requires-clause-ready
feed_all-requires-clause-ready c =
    let p = c.args.self.now in
    rw c.deref_mut.ensures.value (ready_more p.taps.now p.sound p.streams.items p.fed (p.fed + c.args.size) c.args.groups.number c.requires.ready.sound.some_channel (omega arith)
    (omega (arith, c.requires.groups.number)) c.requires.ready.each)

pub feed_all-requires-clause-enough : goal.feed_all-requires-clause-enough
feed_all-requires-clause-enough c = c.requires.groups.enough

-- the streams before
streams_are : (c : After-deref) → AreChannels c.args.self.now.taps.now c.args.self.now.sound.count (bytes_known c.args.self.now.sound c.args.self.now.fed) c.deref_mut.result.now
streams_are c = rw c.deref_mut.ensures.value c.requires.ready.each

number_is : (c : After-deref) → length c.feed_all.new.streams ≡ c.args.self.now.sound.channels
number_is c = omega (arith, c.feed_all.auto.streams, c.deref_mut.ensures.len, ap length c.deref_mut.ensures.value, c.requires.ready.number)

known : (c : After-deref) → IsWithinLimits c.args.self.now.taps.now
known c = filter_known c.args.self.now.taps.now c.args.self.now.sound.count (bytes_known c.args.self.now.sound c.args.self.now.fed) c.args.self.now.streams.items (omega (arith, c.requires.ready.number, c.requires.ready.sound.some_channel)) c.requires.ready.each

streams_back : (c : After-deref) → take c.args.self.now.streams.len (c.feed_all.new.streams ++ drop (length c.feed_all.new.streams) c.args.self.now.streams.items) ≡ c.feed_all.new.streams
streams_back c =
    let size : c.args.self.now.streams.len ≡ length c.feed_all.new.streams = omega (arith, c.feed_all.auto.streams, ap length c.deref_mut.ensures.value, c.args.self.now.streams.ok.0) in
    ap (λ n. take n (c.feed_all.new.streams ++ drop (length c.feed_all.new.streams) c.args.self.now.streams.items)) size ∙ take-append_seam c.feed_all.new.streams (drop (length c.feed_all.new.streams) c.args.self.now.streams.items)

-- what the groups stand for, after what came before
module _ (c : After-deref) (bytes : List ℕ) (long : length bytes ≡ c.args.size) (has : HasParts c.args.self.now.sound bytes c.args.groups) where
  fed_all : FeedAll c.args.self.now.taps.now c.args.self.now.sound (bytes_known c.args.self.now.sound c.args.self.now.fed) c.args.groups.number c.args.self.now.streams.items c.feed_all.new.streams bytes c.feed_all.new.tile.items
  fed_all = rw c.deref_mut.ensures.value at (c.in_ok-feed_all.ensures.fed c.args.self.now.sound bytes has c.args.self.now.taps.now (bytes_known c.args.self.now.sound c.args.self.now.fed) (streams_are c))

  whole : length bytes ≡ length bytes / group_size c.args.self.now.sound.interleaving c.args.self.now.sound.channels * group_size c.args.self.now.sound.interleaving c.args.self.now.sound.channels
  whole = subst (λ n. n ≡ n / group_size c.args.self.now.sound.interleaving c.args.self.now.sound.channels * group_size c.args.self.now.sound.interleaving c.args.self.now.sound.channels) (sym long) c.requires.groups.whole

  given : bytes ≡ take (length bytes / group_size c.args.self.now.sound.interleaving c.args.self.now.sound.channels * group_size c.args.self.now.sound.interleaving c.args.self.now.sound.channels) bytes
  given = sym (take_all _ bytes (omega (arith, whole)))

  module _ (before : List ℕ) (fed : IsPlayerFed c.args.self.now before) where
    held : [] ≡ drop (length before / group_size c.args.self.now.sound.interleaving c.args.self.now.sound.channels * group_size c.args.self.now.sound.interleaving c.args.self.now.sound.channels) before
    held = sym c.requires.nothing_held ∙ fed.held

    next_known : bytes_known c.args.self.now.sound (length (before ++ bytes)) ≡ bytes_known c.args.self.now.sound c.args.self.now.fed + c.args.groups.number
    next_known =
        let size : length (before ++ bytes) ≡ c.args.self.now.fed + c.args.size = omega (arith, length-append before bytes, fed.fed, long) in
        ap (bytes_known c.args.self.now.sound) size ∙ c.requires.groups.number

    held_now : [] ≡ drop (length (before ++ bytes) / group_size c.args.self.now.sound.interleaving c.args.self.now.sound.channels * group_size c.args.self.now.sound.interleaving c.args.self.now.sound.channels) (before ++ bytes)
    held_now = sym (drop_all _ bytes (omega (arith, whole))) ∙ held_next c.args.self.now.sound before bytes c.requires.ready.sound.some_channel [] held

pub push_tile-requires-clause-channels : goal.push_tile-requires-clause-channels
push_tile-requires-clause-channels c = c.requires.ready.sound.some_channel

pub push_tile-requires-clause-width : goal.push_tile-requires-clause-width
push_tile-requires-clause-width c = c.width.ensures.known

pub push_tile-requires-clause-values : goal.push_tile-requires-clause-values
push_tile-requires-clause-values c =
    let p = c.args.self.now in
    let s = p.sound in
    let d = p.taps.now in
    let past = c.requires.ready.history in
    let next = c.requires.groups in
    let w = goal.at.push_tile-requires-clause-values c in
    rw c.deref.ensures.value (in_range s past.0 next.bytes c.requires.ready.sound.some_channel d p.streams.items c.feed_all.new.streams c.feed_all.new.tile.items (bytes_known s p.fed) c.args.groups.number
    c.requires.ready.number (number_is c) (known c).least_factor (ap (bytes_known s) (sym past.1.fed)) (next_known c next.bytes next.long next.parts past.0 past.1) past.1.each [] next.bytes (held c next.bytes next.long next.parts past.0 past.1) (given c next.bytes next.long next.parts)
    (fed_all c next.bytes next.long next.parts) c.width.result c.width.ensures.value (known c).known_width)

pub returns-clause-ok : goal.returns-clause-ok
returns-clause-ok c = λ bytes long has.
    let p = c.args.self.now in
    let s = p.sound in
    let d = p.taps.now in
    let w = (goal.at.returns-clause-ok c).After-deref in (
      flat_map (sample_bytes d.width) (frames_of c.feed_all.new.tile.items (length c.feed_all.new.tile.items / s.channels)),
      c.in_ok-push_tile.ensures ∙ ap₂ (λ (w : ℕ) (xs : List ℤ). c.args.out.now.items ++ flat_map (sample_bytes w) (frames_of xs (length xs / s.channels))) c.width.ensures.value c.deref.ensures.value,
      λ before fed. (
        record {
          fed = omega (arith, length-append before bytes, fed.fed, long);
          held = c.requires.nothing_held ∙ held_now w bytes long has before fed;
          each = rw (streams_back w) (all_fit s before bytes c.requires.ready.sound.some_channel d p.streams.items c.feed_all.new.streams c.feed_all.new.tile.items (bytes_known s p.fed) c.args.groups.number
              c.requires.ready.number (number_is w) (known w).least_factor (ap (bytes_known s) (sym fed.fed)) (next_known w bytes long has before fed) fed.each [] bytes (held w bytes long has before fed) (given w bytes long has) (fed_all w bytes long has));
        },
        gives_due s before bytes c.requires.ready.sound.some_channel d p.streams.items c.feed_all.new.streams c.feed_all.new.tile.items (bytes_known s p.fed) c.args.groups.number
            c.requires.ready.number (number_is w) (known w).least_factor (ap (bytes_known s) (sym fed.fed)) (next_known w bytes long has before fed) fed.each [] bytes (held w bytes long has before fed) (given w bytes long has) (fed_all w bytes long has),
      ),
    )

pub returns-clause-ready : goal.returns-clause-ready
returns-clause-ready c =
    let p = c.args.self.now in
    let s = p.sound in
    let past = c.requires.ready.history in
    let next = c.requires.groups in
    let w = (goal.at.returns-clause-ready c).After-deref in
    record {
      sound = c.requires.ready.sound;
      whole = c.requires.ready.whole;
      within = c.requires.few;
      number = rw (streams_back w) (number_is w);
      each = rw (streams_back w, next.number) (c.in_ok-feed_all.ensures.channels p.taps.now s.count (bytes_known s p.fed) (streams_are w));
      history = (past.0 ++ next.bytes, ((returns-clause-ok c next.bytes next.long next.parts).2 past.0 past.1).0);
    }

-- ---- the exits

pub returns-clause-same : goal.returns-clause-same
returns-clause-same c = (refl, refl)

pub returns-clause-fed : goal.returns-clause-fed
returns-clause-fed c = refl
