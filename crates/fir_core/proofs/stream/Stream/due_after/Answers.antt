use Rattle.std.proofs.Common.{◌≡◌, ◌+◌, ◌-◌, ◌*◌, ◌∙◌, min, ap, ap₂, arith, length}
use Rattle.fir_core.specs.Streams as Streams
use Rattle.fir_core.specs.Streams.{base}
use Rattle.fir_core.specs.StreamView.{state_of}
use Rattle.fir_core.proofs.StreamLaws.{base_before, cut_within, few_due, given_grows}
use Rattle.fir_core.proofs.stream.Stream.due_after.Goals as goal
use Rattle.fir_core.proofs.stream.Stream.due_after.Goals.{After-len, After-min-2}

base_is : (c : After-len) → c.args.self.now.fed - c.len.result ≡ base (state_of c.args.self.now)
base_is c =
    let held : c.len.result ≡ length c.args.self.now.held.items = omega (arith, c.len.ensures, c.args.self.now.held.ok.0) in
    ap (λ n. c.args.self.now.fed - n) held

cut_is : (c : After-min-2) → c.min-2.result ≡ min (Streams.begins c.args.self.now.taps (Streams.due_number c.args.self.now.taps c.args.self.now.count (c.args.self.now.fed + c.args.more))) (c.args.self.now.fed + c.args.more)
cut_is c =
    c.min-2.ensures ∙ ap (λ m. min m (c.args.self.now.fed + c.args.more)) (c.begins.ensures ∙ ap (Streams.begins c.args.self.now.taps) c.due_number-next.ensures)

pub overflow_sub-number : goal.overflow_sub-number
overflow_sub-number c =
    rw (c.due_number-next.ensures, c.due_number-given.ensures) (given_grows (state_of c.args.self.now) c.args.more c.requires.ready.limits c.requires.ready.ready c.requires.few)

pub place_of-requires : goal.place_of-requires
place_of-requires c =
    rw c.due_number-given.ensures (few_due c.args.self.now.taps c.args.self.now.count c.args.self.now.fed c.requires.ready.ready.in_limit c.requires.ready.limits.least_factor c.requires.ready.limits.greatest_factor)

pub overflow_sub-first : goal.overflow_sub-first
overflow_sub-first c =
    rw (base_is (goal.at.overflow_sub-first c).After-len, c.place_of.ensures, c.due_number-given.ensures) (base_before (state_of c.args.self.now) c.args.more c.requires.ready.limits c.requires.ready.ready c.requires.few)

pub begins-requires-clause-few : goal.begins-requires-clause-few
begins-requires-clause-few c =
    rw c.due_number-next.ensures (few_due c.args.self.now.taps c.args.self.now.count (c.args.self.now.fed + c.args.more) c.requires.ready.ready.in_limit c.requires.ready.limits.least_factor c.requires.ready.limits.greatest_factor)

pub overflow_sub-cut : goal.overflow_sub-cut
overflow_sub-cut c =
    rw (base_is (goal.at.overflow_sub-cut c).After-len, cut_is c) (cut_within (state_of c.args.self.now) c.args.more c.requires.ready.limits c.requires.ready.ready c.requires.few)

pub returns : goal.returns
returns c = record {
  number = ap₂ ◌-◌ c.due_number-next.ensures c.due_number-given.ensures;
  first = let d = c.args.self.now.taps in
      ap₂ (λ m n. m - 8 * n) (c.place_of.ensures ∙ ap (λ m. m * d.factor + d.delay) c.due_number-given.ensures) (base_is (goal.at.returns c).After-len);
  stop = c.saturating_sub-stop.ensures ∙ ap₂ (λ m n. m - 8 * n) c.min.ensures (base_is (goal.at.returns c).After-len);
  cut = ap₂ ◌-◌ (cut_is (goal.at.returns c).After-min-2) (base_is (goal.at.returns c).After-len);
}
