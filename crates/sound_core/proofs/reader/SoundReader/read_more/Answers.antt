use Rattle.std.proofs.Common.{◌≡◌, ◌+◌, ◌++◌, ◌∙◌, ap, ap₂, arith, length, refl, take}
use Rattle.sound_core.proofs.FaultLaws.{fault_is}
use Rattle.sound_core.proofs.ReaderLaws.{counts_memory}
use Rattle.sound_core.proofs.reader.SoundReader.read_more.Goals as goal

pub pull_after-requires : goal.pull_after-requires
pull_after-requires g c = record { reading = c.requires.reading; room = omega arith; fits = omega arith }

pub split_at-requires : goal.split_at-requires
split_at-requires g c = omega (arith, c.in_ok-count.ensures.read.few, c.in_ok-count.ensures.reading.size, ap length c.deref.ensures.value)

pub returns-in_err-count : goal.returns-in_err-count
returns-in_err-count g c =
    rw (fault_is c.from_residual.result _ c.from_residual.ensures.1) (record {
      same = c.pull_after.ensures.same;
      reading = tt;
      read = tt;
      end = tt;
      turn = tt;
      none = λ stops. c.in_err-count.ensures.none;
      counts = c.in_err-count.ensures.counts;
      fault = c.in_err-count.ensures.fault;
    })

pub returns-in_err-extend_from_slice : goal.returns-in_err-extend_from_slice
returns-in_err-extend_from_slice g c =
    let same = c.pull_after.ensures.same in
    rw (fault_is c.from_residual-in_err-extend_from_slice.result _ c.from_residual-in_err-extend_from_slice.ensures.1) (record {
      same = record { reference = same.reference; given = same.given; limit = same.limit };
      reading = tt;
      read = tt;
      end = tt;
      turn = tt;
      none = λ stops. absurd stops;
      counts = counts_memory c.args.self.now c.pull_after.new.self _ _ refl c.in_ok-count.ensures.counts;
      fault = tt;
    })

pub returns : goal.returns
returns g c =
    let same = c.pull_after.ensures.same in
    let still = c.in_ok-count.ensures.reading in
    let all = c.in_ok-count.ensures.counts in
    let pulls = c.in_ok-count.ensures.read in
    let own : c.in_ok-count.count ≡ 0 + c.in_ok-count.count = omega arith in
    record {
      same = record { reference = same.reference; given = same.given; limit = same.limit };
      reading = record { ready = still.ready; budget = still.budget; size = still.size };
      read = (
        pulls.read,
        pulls.reads,
        pulls.number,
        c.in_ok-extend_from_slice.ensures.items ∙ ap₂ (λ xs ys. xs ++ ys) c.pull_after.ensures.kept (c.split_at.ensures.front ∙ ap (take c.in_ok-count.count) c.deref.ensures.value ∙ ap (λ n. take n c.pull_after.new.self.block.now.items) own ∙ pulls.prefix),
      );
      end = pulls.end;
      turn = c.in_ok-count.ensures.turn;
      none = tt;
      counts = record { failures = all.failures; turns = all.turns; most = all.most };
      fault = tt;
    }
