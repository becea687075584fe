use Rattle.std.proofs.Common.{List, ℕ, ◌≡◌, ◌+◌, ◌*◌, ◌/◌, ◌++◌, ◌∙◌, ap, append_assoc, arith, length, subst, sym, take}
use Rattle.std.specs.Int.{div_ceil}
use Rattle.dsd_bits.specs.declared.sound.Sound.{Sound}
use Rattle.player_core.specs.Laws.{total_frames}
use Rattle.player_core.specs.PartView.{IsPartOf, part_fed, part_rest}
use Rattle.joined_core.specs.Frames.{joined_sound}
use Rattle.joined_core.proofs.BitLaws.{on_map}
use Rattle.joined_core.proofs.FrameLaws.{all_given, each_few, is_sound, number_inside, rest_long, tail_long}
use Rattle.joined_core.proofs.frames.FrameGiver.finish.Goals as goal
use Rattle.joined_core.proofs.frames.FrameGiver.finish.Goals.{After-div_ceil-total, After-len, In_ok-player}

pub joined_sound-sound-requires-clause-few : goal.joined_sound-sound-requires-clause-few
joined_sound-sound-requires-clause-few c =
    let h = c.requires.ready.history in
    omega (arith, each_few c.args.self.now c.requires.ready h.0 h.1 h.2)

pub new-requires-clause-sound : goal.new-requires-clause-sound
new-requires-clause-sound c =
    let g = c.args.self.now in
    let h = c.requires.ready.history in
    rw c.joined_sound-sound.ensures (is_sound g.sound.rate g.sound.channels (g.fed / g.sound.channels) c.requires.ready.rate c.requires.ready.some c.requires.ready.six (omega (arith, each_few g c.requires.ready h.0 h.1 h.2)))

pub new-requires-clause-whole : goal.new-requires-clause-whole
new-requires-clause-whole c = rw c.joined_sound-sound.ensures (λ _. omega arith)

-- how many frames there are
total : (c : After-div_ceil-total) → c.div_ceil-total.result ≡ total_frames c.args.self.now.taps c.joined_sound-sound.result
total c = c.div_ceil-total.ensures ∙ ap (div_ceil c.joined_sound-sound.result.count) c.factor.ensures.value

pub new-requires-clause-order : goal.new-requires-clause-order
new-requires-clause-order c =
    let g = c.args.self.now in
    let h = c.requires.ready.history in
    let inside = number_inside g c.requires.ready h.0 h.1 h.2 in
    omega (arith, total (goal.at.new-requires-clause-order c).After-div_ceil-total, ap (λ (s : Sound). total_frames g.taps s) c.joined_sound-sound.ensures, inside)

pub new-requires-clause-inside : goal.new-requires-clause-inside
new-requires-clause-inside c = omega (arith, total (goal.at.new-requires-clause-inside c).After-div_ceil-total)

-- the player plays the rest
part : (c : In_ok-player) → IsPartOf c.args.self.now.taps (joined_sound c.args.self.now.sound.rate c.args.self.now.sound.channels (c.args.self.now.fed / c.args.self.now.sound.channels)) c.args.self.now.number (total_frames c.args.self.now.taps (joined_sound c.args.self.now.sound.rate c.args.self.now.sound.channels (c.args.self.now.fed / c.args.self.now.sound.channels))) c.in_ok-player.player
part c =
    let g = c.args.self.now in
    let is : c.div_ceil-total.result ≡ total_frames g.taps c.joined_sound-sound.result = c.div_ceil-total.ensures ∙ ap (div_ceil c.joined_sound-sound.result.count) c.factor.ensures.value in
    let here = subst (λ t. IsPartOf g.taps c.joined_sound-sound.result g.number t c.in_ok-player.player) is c.in_ok-player.ensures.part in
    subst (λ (s : Sound). IsPartOf g.taps s g.number (total_frames g.taps s) c.in_ok-player.player) c.joined_sound-sound.ensures here

-- all bytes of it are those that are kept
all : (c : After-len) (last : List ℕ) → length last ≡ c.len.result / c.args.self.now.sound.channels * c.args.self.now.sound.channels → part_fed c.in_ok-player.player + length last ≡ (part_rest c.in_ok-player.player).size
all c last is =
    let g = c.args.self.now in
    let n = g.sound.channels in
    let h = c.requires.ready.history in
    let sound = joined_sound g.sound.rate n (g.fed / n) in
    let total_is : c.div_ceil-total.result ≡ total_frames g.taps c.joined_sound-sound.result = c.div_ceil-total.ensures ∙ ap (div_ceil c.joined_sound-sound.result.count) c.factor.ensures.value in
    let here = subst (λ t. IsPartOf g.taps c.joined_sound-sound.result g.number t c.in_ok-player.player) total_is c.in_ok-player.ensures.part in
    let of = subst (λ (s : Sound). IsPartOf g.taps s g.number (total_frames g.taps s) c.in_ok-player.player) c.joined_sound-sound.ensures here in
    let long : c.len.result ≡ length g.tail.items = omega (arith, c.len.ensures, g.tail.ok.0) in
    let size : length last ≡ length g.tail.items / n * n = is ∙ ap (λ k. k / n * n) long in
    omega (arith, c.in_ok-player.ensures.fed.fed.fed, size, tail_long g c.requires.ready h.0 h.1 h.2, rest_long g c.requires.ready h.0 h.1 h.2 (total_frames g.taps sound) c.in_ok-player.player of)

pub feed-requires-clause-few : goal.feed-requires-clause-few
feed-requires-clause-few c = omega (arith, all (goal.at.feed-requires-clause-few c).After-len c.split_at.result.0.now c.split_at.ensures.front_len)

pub finish-requires-clause-all : goal.finish-requires-clause-all
finish-requires-clause-all c =
    c.in_ok-feed.ensures.fed ∙ all (goal.at.finish-requires-clause-all c).After-len c.split_at.result.0.now c.split_at.ensures.front_len ∙ sym (ap (λ (s : Sound). s.size) c.feed.ensures.same.rest)

pub returns : goal.returns
returns c =
    let g = c.args.self.now in
    let n = g.sound.channels in
    let fed = c.in_ok-feed.ensures.ok in
    let long : c.len.result ≡ length g.tail.items = omega (arith, c.len.ensures, g.tail.ok.0) in
    let last = c.split_at.ensures.front ∙ ap (take (c.len.result / n * n)) c.deref.ensures.value ∙ ap (λ k. take (k / n * n) g.tail.items) long in
    on_map c.finish.result
    (λ ok. record {
      more = fed.0 ++ ok.0;
      appends = ok.1 ∙ ap (λ xs. xs ++ ok.0) fed.1 ∙ append_assoc c.args.out.now.items fed.0 ok.0;
      all = λ bytes given frames whole h. all_given g c.requires.ready bytes given h frames whole c.split_at.result.0.now last c.in_ok-player.player c.feed.new.self (part (goal.at.returns c).In_ok-player) c.in_ok-player.ensures.fed c.feed.ensures.same fed.0 ok.0 fed.2 ok.2;
    }) c.finish.ensures.ok
