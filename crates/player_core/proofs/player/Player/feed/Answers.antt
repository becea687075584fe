use Rattle.std.proofs.Common.{rules, ◌≡◌, ◌+◌, ◌*◌, ◌/◌, ◌%◌, ◌∙◌, arith, ap, length, refl, sym}
use Rattle.std.proofs.lemmas.Nat.{div-add-mod'}
use Rattle.player_core.specs.Groups.{group_size}
use Rattle.player_core.proofs.SoundLaws.{few_size}
use Rattle.player_core.proofs.StepLaws.{held_size, known_grows, known_more}
use Rattle.player_core.proofs.player.Player.feed.Goals as goal

pub overflow_add-fed : goal.overflow_add-fed
overflow_add-fed c =
    let s = c.args.self.now.sound in
    let sound = c.requires.ready.sound in
    omega (arith, c.requires.few, sound.size, few_size s.interleaving s.channels s.count sound.six_channels sound.in_limit)

pub overflow_sub-number : goal.overflow_sub-number
overflow_sub-number c =
    let p = c.args.self.now in
    omega (arith, c.bytes_known.ensures, c.bytes_known-2.ensures, known_grows p.sound p.fed (p.fed + length c.args.bytes.now) c.requires.ready.sound.some_channel (omega arith))

pub feed_groups-requires-clause-groups : goal.feed_groups-requires-clause-groups
feed_groups-requires-clause-groups c =
    let p = c.args.self.now in
    let s = p.sound in
    let n = length c.args.bytes.now in
    let gs = group_size s.interleaving s.channels in
    let past = c.requires.ready.history in
    let none : length p.held.items ≡ 0 = search rules in
    let rest : 0 ≡ p.fed % gs = sym none ∙ held_size past.0 p.held.items gs past.1.held ∙ ap (λ k. k % gs) (sym past.1.fed) in
    let even : n % gs ≡ 0 = ap (λ k. n % k) (sym c.group_size.ensures) ∙ omega (arith, c.if-bytes-group_size-ne0.false) in
    let whole : n ≡ n / gs * gs = omega (arith, even, div-add-mod' n gs) in
    let zero : n ≡ 0 + n = omega arith in
    let grows = known_grows s p.fed (p.fed + n) c.requires.ready.sound.some_channel (omega arith) in
    record {
      bytes = c.args.bytes.now;
      long = refl;
      parts = record { number = refl; same = λ i h. refl };
      enough = rw (c.bytes_known.ensures, c.bytes_known-2.ensures) (known_more s p.fed n 0 n c.requires.ready.sound.some_channel rest (whole ∙ ap (λ k. k / gs * gs) zero));
      whole = whole;
      number = omega (arith, c.bytes_known.ensures, c.bytes_known-2.ensures, grows);
    }
