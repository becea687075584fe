-- A decimator is read exactly where its table says it.
use Rattle.std.proofs.Common.{◌≡◌, ℕ, ◌<◌, ◌^◌, ℤ, List, Option, Some, None, Result, Ok, Err, refl, arith, sum_by, unsigned_abs, inl, inr}
use Rattle.toml.specs.Data.{Data, table, Members}
use Rattle.fir_core.specs.declared.fault.TapsFault.{TapsFault}
use Rattle.fir_core.specs.Decimator.{Decimator, IsWithinLimits}
use Rattle.fir_core.specs.declared.fault.TapsFault.TheVariants.{TapNumber, TapSum, Factor, Delay, Shift, Width, Memory}
use Rattle.fir_core.specs.Faults.{broken_limit, named_limit}
use Rattle.fir_core.proofs.LimitLaws.{IsWithinLimits-from_no_fault, no_fault-from_IsWithinLimits}
use Rattle.project_core.specs.declared.key.Key.TheVariants as keys
use Rattle.project_core.specs.declared.key.Table.TheVariants as tables
use Rattle.project_core.specs.declared.fault.ProjectFault.{ProjectFault}
use Rattle.project_core.specs.declared.fault.ProjectFault.TheVariants as faults
use Rattle.project_core.specs.Faults.{limit_fault}
use Rattle.project_core.specs.Keys.{decimate_keys}
use Rattle.project_core.specs.Steps.{◌>>=◌, Fails}
use Rattle.project_core.specs.Reading.{integers_at, table_of, unsigned_at}
use Rattle.project_core.specs.ReadingDecimate.{decimate_of, unless_broken}
use Rattle.project_core.specs.Meaning.{IsDecimate}
use Rattle.project_core.proofs.TableLaws.{bind_ok, integers_ok, table_ok, unsigned_ok}
use Rattle.project_core.proofs.TableAgain.{fits_by_sum, integers_again, table_again, unsigned_again}

unless_ok : (o : Option TapsFault) (d y : Decimator) → unless_broken o d ≡ Ok y → (o ≡ None) × (d ≡ y)
unless_ok None d y e = (refl, cc)
unless_ok (Some fault) d y e = absurd cc

-- the parts of a decimator that was read
parts : (taps : Result (List ℤ) ProjectFault) (factor delay shift width : Result ℕ ProjectFault) (y : Decimator)
    → (taps >>= λ a. factor >>= λ b. delay >>= λ c. shift >>= λ d. width >>= λ f. let made : Decimator = record { taps = a; factor = b; delay = c; shift = d; width = f } in unless_broken (broken_limit made) made) ≡ Ok y
    → (taps ≡ Ok y.taps) × (factor ≡ Ok y.factor) × (delay ≡ Ok y.delay) × (shift ≡ Ok y.shift) × (width ≡ Ok y.width) × (broken_limit y ≡ None)
parts (Err x) factor delay shift width y e = absurd cc
parts (Ok a) (Err x) delay shift width y e = absurd cc
parts (Ok a) (Ok b) (Err x) shift width y e = absurd cc
parts (Ok a) (Ok b) (Ok c) (Err x) width y e = absurd cc
parts (Ok a) (Ok b) (Ok c) (Ok d) (Err x) y e = absurd cc
parts (Ok a) (Ok b) (Ok c) (Ok d) (Ok f) y e =
    let made : Decimator = record { taps = a; factor = b; delay = c; shift = d; width = f } in
    let w = unless_ok (broken_limit made) made y e in
    let same = w.1 in
    rw (← same) (refl, refl, refl, refl, refl, w.0)

pub decimate_ok : (d : Data) (y : Decimator) → decimate_of d ≡ Ok y → (t : Members) × (d ≡ table t) × IsDecimate t y
unfolding decimate_of
decimate_ok d y e =
    let a = bind_ok (table_of keys.Decimate tables.Decimate decimate_keys d) (λ t. integers_at keys.Taps tables.Decimate t >>= λ a. unsigned_at keys.Factor tables.Decimate t >>= λ b. unsigned_at keys.Delay tables.Decimate t >>= λ c. unsigned_at keys.Shift tables.Decimate t >>= λ d. unsigned_at keys.Width tables.Decimate t >>= λ f. let made : Decimator = record { taps = a; factor = b; delay = c; shift = d; width = f } in unless_broken (broken_limit made) made) y e in
    let t = a.0 in
    let known = table_ok keys.Decimate tables.Decimate decimate_keys d t a.1 in
    let q = parts (integers_at keys.Taps tables.Decimate t) (unsigned_at keys.Factor tables.Decimate t) (unsigned_at keys.Delay tables.Decimate t) (unsigned_at keys.Shift tables.Decimate t) (unsigned_at keys.Width tables.Decimate t) y a.2 in (
      t,
      known.0,
      record {
        no_others = known.1;
        taps = integers_ok keys.Taps tables.Decimate t y.taps q.0;
        factor = unsigned_ok keys.Factor tables.Decimate t y.factor q.1;
        delay = unsigned_ok keys.Delay tables.Decimate t y.delay q.2;
        shift = unsigned_ok keys.Shift tables.Decimate t y.shift q.3;
        width = unsigned_ok keys.Width tables.Decimate t y.width q.4;
        limits = IsWithinLimits-from_no_fault y q.5;
      },
    )

small_width : (d : Decimator) → IsWithinLimits d → d.width < 2 ^ 32
small_width d h = elim h.known_width [ inl e ↦ omega arith | inr e ↦ omega arith ]

pub decimate_again : (t : Members) (y : Decimator) → IsDecimate t y → decimate_of (table t) ≡ Ok y
unfolding decimate_of
decimate_again t y h =
    let sum : sum_by unsigned_abs y.taps < 2 ^ 31 = omega (arith, h.limits.small_sum) in
    let factor : y.factor < 2 ^ 32 = omega (arith, h.limits.greatest_factor) in
    let delay : y.delay < 2 ^ 32 = omega (arith, h.limits.delay_in_taps, h.limits.few_taps) in
    let shift : y.shift < 2 ^ 32 = omega (arith, h.limits.small_shift) in
    rw (
      table_again keys.Decimate tables.Decimate decimate_keys t h.no_others,
      integers_again keys.Taps tables.Decimate t y.taps h.taps (fits_by_sum y.taps sum),
      unsigned_again keys.Factor tables.Decimate t y.factor h.factor factor,
      unsigned_again keys.Delay tables.Decimate t y.delay h.delay delay,
      unsigned_again keys.Shift tables.Decimate t y.shift h.shift shift,
      unsigned_again keys.Width tables.Decimate t y.width h.width (small_width y h.limits),
      no_fault-from_IsWithinLimits y h.limits,
    )

-- what is refused where the factor is read
pub factor_fails : (value : Data) (t : Members) (taps : List ℤ) (e : ProjectFault) → table_of keys.Decimate tables.Decimate decimate_keys value ≡ Ok t → integers_at keys.Taps tables.Decimate t ≡ Ok taps → Fails e (unsigned_at keys.Factor tables.Decimate t) → Fails e (decimate_of value)
unfolding decimate_of
factor_fails value t taps faults.Memory is_table are_taps is = tt
factor_fails value t taps e is_table are_taps is = rw (is_table, are_taps, is) refl

-- what is refused where a limit is broken
pub broken_fails : (d : Decimator) (fault : TapsFault) → broken_limit d ≡ named_limit fault → Fails (limit_fault fault) (unless_broken (broken_limit d) d)
broken_fails d Memory e = tt
broken_fails d TapNumber e = rw e
broken_fails d TapSum e = rw e
broken_fails d Factor e = rw e
broken_fails d Delay e = rw e
broken_fails d Shift e = rw e
broken_fails d Width e = rw e

pub unbroken_is : (d made : Decimator) → broken_limit d ≡ None → made ≡ d → unless_broken (broken_limit d) d ≡ Ok made
unbroken_is d made e is = rw (e, is)
