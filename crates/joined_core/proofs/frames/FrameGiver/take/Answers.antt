use Rattle.std.proofs.Common.{◌≡◌, ◌+◌, ◌-◌, ◌*◌, ◌/◌, ◌^◌, ◌≤◌, ◌++◌, ◌∙◌, ap, ap₂, arith, drop, length, length-append, min, mul-le-mul_right, refl}
use Rattle.wave_core.specs.Sizes.{block_align}
use Rattle.joined_core.proofs.FrameLaws.{first_more, given_on, number_small, read_times, room_now, some_align, then_small}
use Rattle.joined_core.proofs.frames.FrameGiver.take.Goals as goal
use Rattle.joined_core.proofs.frames.FrameGiver.take.Goals.{After-frame_size, After-len}

pub play_some-requires : goal.play_some-requires
play_some-requires c =
    let g = c.args.self in
    let h = c.requires.ready.history in
    record { left = (g.sound, h.0, h.1, h.2.player, h.2.played, room_now g c.requires.ready h.0 h.1 h.2 (length c.args.bytes.now) c.requires.few) }

-- how many bytes were given
more : (c : After-len) → c.len.result ≡ c.len-given.result + length c.in_ok-paused.ensures.more
more c =
    let e = c.in_ok-paused.ensures in
    omega (arith, c.len.ensures, c.play_some.new.out.ok.0, c.len-given.ensures, c.args.out.now.ok.0, ap length e.appends, length-append c.args.out.now.items e.more)

pub overflow_sub-now : goal.overflow_sub-now
overflow_sub-now c = omega (arith, more (goal.at.overflow_sub-now c).After-len)

pub nonzero_div-now : goal.nonzero_div-now
nonzero_div-now c = omega (arith, c.frame_size.ensures, some_align c.args.self.taps c.requires.ready.limits c.args.self.sound.channels c.requires.ready.some)

-- how many frames they are
frames : (c : After-frame_size) → (c.len.result - c.len-given.result) / c.frame_size.result ≡ length c.in_ok-paused.ensures.more / block_align c.args.self.sound.channels c.args.self.taps.width
frames c =
    let e = c.in_ok-paused.ensures in
    let size : c.len.result - c.len-given.result ≡ length e.more = omega (arith, c.len.ensures, c.play_some.new.out.ok.0, c.len-given.ensures, c.args.out.now.ok.0, ap length e.appends, length-append c.args.out.now.items e.more) in
    ap₂ (λ a b. a / b) size c.frame_size.ensures

-- few were given then
few : (c : After-frame_size) → c.args.self.number + (c.len.result - c.len-given.result) / c.frame_size.result ≤ 2 ^ 34
few c =
    let g = c.args.self in
    let h = c.requires.ready.history in
    let e = c.in_ok-paused.ensures in
    let on = e.plays g.sound h.0 h.1 h.2.player h.2.played in
    omega (arith, frames c, then_small g c.requires.ready h.0 h.1 h.2 c.args.bytes.now e.more on.0 c.in_ok-paused.paused on.1)

pub overflow_add-now : goal.overflow_add-now
overflow_add-now c = omega (arith, few (goal.at.overflow_add-now c).After-frame_size)

pub first_read-requires : goal.first_read-requires
first_read-requires c =
    let h = c.requires.ready.history in
    omega (arith, number_small c.args.self c.requires.ready h.0 h.1 h.2)

pub overflow_mul-first_read : goal.overflow_mul-first_read
overflow_mul-first_read c =
    let g = c.args.self in
    let h = c.requires.ready.history in
    omega (arith, read_times g.taps c.requires.ready.limits c.first_read.result g.number g.sound.channels c.first_read.ensures (omega (arith, number_small g c.requires.ready h.0 h.1 h.2)) c.requires.ready.six)

pub first_read-requires-2 : goal.first_read-requires-2
first_read-requires-2 c = omega (arith, few (goal.at.first_read-requires-2 c).After-frame_size)

pub overflow_mul-keep_from : goal.overflow_mul-keep_from
overflow_mul-keep_from c =
    let g = c.args.self in
    omega (arith, read_times g.taps c.requires.ready.limits c.first_read-2.result _ g.sound.channels c.first_read-2.ensures (omega (arith, few (goal.at.overflow_mul-keep_from c).After-frame_size)) c.requires.ready.six)

pub overflow_sub-keep_from : goal.overflow_sub-keep_from
overflow_sub-keep_from c =
    let g = c.args.self in
    let now = g.number + (c.len.result - c.len-given.result) / c.frame_size.result in
    let later : c.first_read.result ≤ c.first_read-2.result = omega (arith, c.first_read.ensures, c.first_read-2.ensures, first_more g.taps c.requires.ready.limits g.number now (omega arith)) in
    let product : c.first_read.result * g.sound.channels ≤ c.first_read-2.result * g.sound.channels = mul-le-mul_right g.sound.channels later in
    omega (arith, c.min-kept_from.ensures, product)

pub overflow_add-result : goal.overflow_add-result
overflow_add-result c = omega (arith, c.requires.few, c.requires.ready.six)

pub returns : goal.returns
returns c =
    let g = c.args.self in
    let r = c.requires.ready in
    let bytes = c.args.bytes.now in
    let n = g.sound.channels in
    let e = c.in_ok-paused.ensures in
    let h = r.history in
    let number = ap (λ k. g.number + k) (frames (goal.at.returns c).After-frame_size) in
    let tail = c.in_ok-tail.ensures ∙ ap₂ (λ a b. drop (a * n - b) (g.tail.items ++ bytes)) c.first_read-2.ensures (c.min-kept_from.ensures ∙ ap (λ a. min (a * n) g.fed) c.first_read.ensures) in
    record {
      ready = record {
        limits = r.limits;
        some = r.some;
        six = r.six;
        rate = r.rate;
        longest_is = r.longest_is;
        few = omega (arith, c.requires.few);
        history = (h.0 ++ bytes, h.1 ++ e.more, (let on = e.plays g.sound h.0 h.1 h.2.player h.2.played in given_on g r h.0 h.1 h.2 bytes e.more on.0 c.in_ok-paused.paused on.1 _ refl refl refl refl number tail));
      };
      taps = refl;
      sound = refl;
      fed = refl;
      more = e.more;
      appends = e.appends;
      gives = λ before given has. (let on = e.plays g.sound before given has.player has.played in given_on g r before given has bytes e.more on.0 c.in_ok-paused.paused on.1 _ refl refl refl refl number tail);
    }
