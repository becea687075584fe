use Rattle.std.proofs.Common.{◌≡◌, ℕ, ◌+◌, ◌-◌, ◌*◌, ◌/◌, ◌<◌, ◌≤◌, List, ◌++◌, length, take, drop, refl, ap, ap₂, ◌∙◌, arith, length-append}
use Rattle.std.proofs.lemmas.Bool.{eqb-true}
use Rattle.dsd_bits.specs.Sounds.{sound_size}
use Rattle.dsd_bits.proofs.ExitLaws.{no_value}
use Rattle.native_core.specs.Native.{native_of}
use Rattle.native_core.specs.Runs.{group_size, run_fed}
use Rattle.native_core.proofs.FeedLaws.{gives_groups, gives_last, groups_whole, last_whole, made_of}
use Rattle.native_core.proofs.RunLaws.{left_out, not_yet}
use Rattle.native_core.proofs.run.BitRun.feed.Goals as goal
use Rattle.native_core.proofs.run.BitRun.feed.Goals.{After-drop_after, After-len}

-- how many bytes there are now
held_is : (c : After-len) → c.len.result ≡ length c.args.self.part.items + length c.args.bytes.now
held_is c = omega (arith, c.len.ensures, c.extend_from_slice.new.self.ok.0, ap length c.in_ok-extend_from_slice.ensures.items, length-append c.args.self.part.items c.args.bytes.now)

pub bits_due-count-requires-clause-last : goal.bits_due-count-requires-clause-last
bits_due-count-requires-clause-last c ends = omega (arith, eqb-true _ _ ends, c.fed.ensures, held_is c)

pub bits_due-count-requires-clause-more : goal.bits_due-count-requires-clause-more
bits_due-count-requires-clause-more c goes_on = not_yet c.fed.result (length c.args.bytes.now) c.args.self.sound.size _ c.requires.few goes_on c.fed.ensures (omega (arith, held_is c))

pub segment_size-size-requires-clause-in_limit : goal.segment_size-size-requires-clause-in_limit
segment_size-size-requires-clause-in_limit c = omega (arith, c.bits_due-count.ensures.inside, c.requires.ready.sound.in_limit)

pub split_at-requires : goal.split_at-requires
split_at-requires c = omega (arith, c.segment_size-size.ensures, c.bits_due-count.ensures.held, c.len.ensures, c.deref.ensures.len)

pub push_native-requires-clause-size : goal.push_native-requires-clause-size
push_native-requires-clause-size c = c.split_at.ensures.front_len ∙ c.segment_size-size.ensures

-- what was appended before bytes were left out
out_is : (c : After-drop_after) → c.push_native.new.out.items ≡ c.args.out.now.items ++ made_of c.args.self c.requires.ready c.args.bytes.now c.bits_due-count.result
out_is c =
    let r = c.args.self in
    let s = r.sound in
    let b = c.bits_due-count.result in
    let items = c.deref.ensures.value ∙ c.in_ok-extend_from_slice.ensures.items in
    let whole = c.split_at.ensures.front ∙ ap₂ (λ (n : ℕ) (xs : List ℕ). take n xs) c.segment_size-size.ensures items in
    c.in_ok-push_native.ensures.ok ∙ ap (λ ys. c.args.out.now.items ++ native_of r.layout s.interleaving s.channels b ys) whole

-- how many bytes it is
added_is : (c : After-drop_after) → c.len-2.result - c.len-kept.result ≡ length (made_of c.args.self c.requires.ready c.args.bytes.now c.bits_due-count.result)
added_is c =
    let made = made_of c.args.self c.requires.ready c.args.bytes.now c.bits_due-count.result in
    omega (arith, c.len-2.ensures, c.len-kept.ensures, c.push_native.new.out.ok.0, c.args.out.now.ok.0, ap length (out_is c), length-append c.args.out.now.items made)

-- what is appended
appended_is : (c : After-drop_after) → c.drop_after.new.held.items ≡ c.args.out.now.items ++ drop c.args.self.skip (made_of c.args.self c.requires.ready c.args.bytes.now c.bits_due-count.result)
appended_is c =
    let out = c.args.out.now.items in
    let made = made_of c.args.self c.requires.ready c.args.bytes.now c.bits_due-count.result in
    c.drop_after.ensures ∙ ap (λ xs. take c.len-kept.result xs ++ drop (c.len-kept.result + c.min.result) xs) (out_is c)
    ∙ left_out out made c.len-kept.result (c.len-2.result - c.len-kept.result) c.min.result c.args.self.skip (omega (arith, c.len-kept.ensures, c.args.out.now.ok.0)) (added_is c) c.min.ensures

pub returns-then-last : goal.returns-then-last
returns-then-last c =
    let r = c.args.self in
    let ready = c.requires.ready in
    let bytes = c.args.bytes.now in
    let ends : run_fed r + length bytes ≡ r.sound.size = grind (arith, c.if-last.true, c.fed.ensures) in
    let bits : c.bits_due-count.result ≡ r.sound.count - r.group * 32768 = grind (arith, c.bits_due-count.ensures.value, c.if-last.true) in
    let more = drop r.skip (made_of r ready bytes (r.sound.count - r.group * 32768)) in
    record {
      more = more;
      appends = appended_is (goal.at.returns-then-last c).After-drop_after ∙ ap (λ b. c.args.out.now.items ++ drop r.skip (made_of r ready bytes b)) bits;
      frames = last_whole r ready bytes ends;
      gives = gives_last r ready bytes more ends refl;
    }

pub returns : goal.returns
returns c =
    let r = c.args.self in
    let ready = c.requires.ready in
    let s = r.sound in
    let bytes = c.args.bytes.now in
    let k = c.len.result / group_size s in
    let inside : run_fed r + length bytes < s.size = grind (arith, c.if-last.false, c.fed.ensures, c.requires.few) in
    let bits : c.bits_due-count.result ≡ k * 32768 = grind (arith, c.bits_due-count.ensures.value, c.if-last.false) in
    let held : c.extend_from_slice.new.self.items ≡ r.part.items ++ bytes = c.in_ok-extend_from_slice.ensures.items in
    let long : c.len.result ≡ length (r.part.items ++ bytes) = omega (arith, c.len.ensures, c.extend_from_slice.new.self.ok.0, ap length held) in
    let few : sound_size s.interleaving s.channels (k * 32768) ≤ length (r.part.items ++ bytes) = omega (arith, long, c.bits_due-count.ensures.held, ap (sound_size s.interleaving s.channels) bits) in
    let used : 0 + c.segment_size-size.result ≡ sound_size s.interleaving s.channels (k * 32768) = omega (arith, c.segment_size-size.ensures, ap (sound_size s.interleaving s.channels) bits) in
    let rest : c.drop_after-2.new.held.items ≡ drop (sound_size s.interleaving s.channels (k * 32768)) (r.part.items ++ bytes) =
    c.drop_after-2.ensures ∙ ap₂ (λ (n : ℕ) (xs : List ℕ). drop n xs) used held in
    let group : r.group + c.bits_due-count.result / 32768 ≡ r.group + k = omega (arith, bits) in
    let more = drop r.skip (made_of r ready bytes (k * 32768)) in
    let added = added_is (goal.at.returns c).After-drop_after ∙ ap (λ b. length (made_of r ready bytes b)) bits in
    record {
      more = more;
      appends = appended_is (goal.at.returns c).After-drop_after ∙ ap (λ b. c.args.out.now.items ++ drop r.skip (made_of r ready bytes b)) bits;
      frames = groups_whole r ready bytes k few;
      gives = gives_groups r ready bytes k few more (record { layout = r.layout; sound = s; group = r.group + c.bits_due-count.result / 32768; part = c.drop_after-2.new.held; skip = c.saturating_sub.result }) inside (omega (arith, c.bits_due-count.ensures.inside, bits)) refl group rest (omega (arith, c.saturating_sub.ensures, added));
    }

pub returns-in_err-extend_from_slice : goal.returns-in_err-extend_from_slice
returns-in_err-extend_from_slice c = no_value _ _ c.from_residual.result c.from_residual.ensures.1

pub returns-in_err-push_native : goal.returns-in_err-push_native
returns-in_err-push_native c = no_value _ _ c.from_residual-in_err-push_native.result c.from_residual-in_err-push_native.ensures.1
