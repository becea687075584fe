use Rattle.std.proofs.Common.{◌≡◌, ◌+◌, ◌-◌, ◌++◌, ◌∙◌, ℕ, List, Err, ap, arith, length, refl, subst, sym}
use Rattle.std.proofs.lemmas.Result.{IfErr-weaker, IfOk-weaker}
use Rattle.chunk_core.specs.Numbers.{number_at}
use Rattle.chunk_core.specs.declared.numbers.Order.TheVariants.{Big}
use Rattle.dsdiff_core.specs.Located.{stated_size}
use Rattle.dsdiff_core.proofs.CutLaws.{head_is_chunk}
use Rattle.dsdiff_core.proofs.WalkLaws.{long}
use Rattle.form_core.specs.Opening.{opened_of}
use Rattle.sound_core.specs.Faults.{IsReadingFault}
use Rattle.sound_core.proofs.FaultLaws.{fault_is}
use Rattle.sound_core.proofs.ReaderLaws.{counts_later, counts_ok, same_counts, same_on}
use Rattle.sound_core.proofs.UnsureLaws.{counts_then, sound_cut, sound_passed}
use Rattle.sound_core.proofs.naming.name_after.Goals as goal
use Rattle.sound_core.proofs.naming.name_after.Goals.{After-u64_at-size}
use Rattle.sound_core.proofs.naming.name_after.Given.{Over}

pub u64_at-size-requires : goal.u64_at-size-requires
u64_at-size-requires g c = omega (arith, long c.args.head.now c.requires.head)

pub pass-requires : goal.pass-requires
pass-requires g c = record { reading = c.requires.reading }

-- how many bytes the sound has
size_is : (g : Over) (c : After-u64_at-size g) → c.u64_at-size.result ≡ stated_size c.args.head.now
size_is g c =
    let head = c.args.head.now in
    let place : length head - 8 ≡ length head - 12 + 4 = omega (arith, long head c.requires.head) in
    c.u64_at-size.ensures ∙ ap (number_at Big 8 head) place

pub returns-in_err-pass : goal.returns-in_err-pass
returns-in_err-pass g c =
    rw (fault_is c.from_residual.result _ c.from_residual.ensures.1) (record {
      same = c.pass.ensures.same;
      named = λ first reads. tt;
      counts = same_counts c.args.reader.now c.pass.new.self c.in_err-pass.field-0.0 c.in_err-pass.ensures.counts;
      fault = c.in_err-pass.ensures.fault;
    })

pub cut_fault-requires : goal.cut_fault-requires
cut_fault-requires g c = head_is_chunk c.args.head.now c.requires.head

pub returns-then-not-branch : goal.returns-then-not-branch
returns-then-not-branch g c =
    let at = (goal.at.returns-then-not-branch g c).After-u64_at-size in
    record {
      same = c.pass.ensures.same;
      named = λ first reads. rw (c.from.ensures, c.cut_fault.ensures.value) (sound_cut g.R.Read.remaining first c.args.reader.now.inlet.now c.args.head.now c.args.reader.now.ahead.now.items reads c.pass.new.self.inlet.now c.u64_at-size.result _ c.args.reader.now.given c.requires.head (size_is g at) (c.in_ok-pass.ensures.short c.if-not-branch.true) c.requires.given
          (omega (arith, c.given.ensures, c.pass.ensures.same.given)));
      counts = counts_ok c.args.reader.now c.args.reader.now c.pass.new.self _ _ refl refl c.in_ok-pass.ensures.counts;
      fault = tt;
    }

pub bytes_after_sound-requires : goal.bytes_after_sound-requires
bytes_after_sound-requires g c = c.requires.head

pub read_until-requires : goal.read_until-requires
read_until-requires g c = record { reading = c.in_ok-pass.ensures.reading }

pub returns-in_err-read_until : goal.returns-in_err-read_until
returns-in_err-read_until g c =
    rw (fault_is c.from_residual-in_err-read_until.result _ c.from_residual-in_err-read_until.ensures.1) (record {
      same = same_on c.args.reader.now c.pass.new.self c.read_until.new.self c.pass.ensures.same c.read_until.ensures.same;
      named = λ first reads. tt;
      counts = counts_later c.args.reader.now c.pass.new.self c.read_until.new.self c.in_err-read_until.field-0.0 c.pass.ensures.same.limit (omega (arith, c.in_ok-pass.ensures.counts.failures)) c.in_err-read_until.ensures.counts;
      fault = c.in_err-read_until.ensures.fault;
    })

pub fault_around-requires : goal.fault_around-requires
fault_around-requires g c = c.requires.head

pub returns : goal.returns
returns g c =
    let at = (goal.at.returns g c).After-u64_at-size in
    record {
      same = same_on c.args.reader.now c.pass.new.self c.read_until.new.self c.pass.ensures.same c.read_until.ensures.same;
      named = λ first reads. IfOk-weaker c.fault_around.result _ _ (λ e stated.
          sound_passed g.R.Read.remaining first c.args.reader.now.inlet.now c.args.head.now c.args.reader.now.ahead.now.items reads c.pass.new.self.inlet.now c.read_until.new.self.inlet.now c.pass.new.self.ahead.now.items c.read_until.new.self.ahead.now.items c.u64_at-size.result c.bytes_after_sound.result e c.requires.head (size_is g at) c.bytes_after_sound.ensures.value (c.in_ok-pass.ensures.ok c.if-not-branch.false) c.in_ok-read_until.ensures.read
          (subst (λ (xs : List ℕ). (sound : List ℕ) → length sound ≡ stated_size c.args.head.now → opened_of (c.args.head.now ++ (sound ++ xs)) ≡ Err e) c.as_slice.ensures.value stated)) c.fault_around.ensures.named;
      counts = counts_then {X = ℕ} c.args.reader.now c.read_until.new.self _ c.fault_around.result c.fault_around.ensures.fault (counts_ok c.args.reader.now c.pass.new.self c.read_until.new.self _ 0 c.pass.ensures.same.limit (omega (arith, c.in_ok-pass.ensures.counts.failures)) c.in_ok-read_until.ensures.counts);
      fault = IfErr-weaker c.fault_around.result _ _ (λ f is. subst IsReadingFault (sym is) tt) c.fault_around.ensures.fault;
    }
