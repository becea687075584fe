use Rattle.std.proofs.Common.{◌≡◌, ◌↔◌, ◌%◌, ℕ, Ok, Err, Result, refl}
use Rattle.std.proofs.lemmas.Result.{IfOk-weaker, err_from_is_err_and}
use Rattle.dsd_bits.specs.declared.blocks.BitOrder.{BitOrder}
use Rattle.dsd_bits.specs.declared.blocks.BitOrder.TheVariants.{LeastFirst, MostFirst}
use Rattle.dsd_bits.specs.declared.interleaving.Interleaving.TheVariants.{Bytes, Blocks}
use Rattle.dsdiff_core.specs.declared.write_fault.WriteFault.{WriteFault}
use Rattle.dsdiff_core.specs.declared.write_fault.WriteFault.TheVariants.{NotWholeBytes, Memory}
use Rattle.form_core.specs.declared.parts.Ends.{Ends}
use Rattle.form_core.proofs.parts.ends_in.Goals as goal

-- blocks hold any number of bits
fits : (order : BitOrder) (count : ℕ) → Blocks order ≡ Bytes → count % 8 ≡ 0
fits order count e = absurd cc

made : (x : Ends) (F : Type 0) → F → ((let r : Result Ends WriteFault = Ok x in r) ≡ Err NotWholeBytes) ↔ (F → ⊥)
made x F f = (λ e. absurd cc, λ none. absurd (none f))

no_memory : (F : Type 0) → F → ((let r : Result Ends WriteFault = Err Memory in r) ≡ Err NotWholeBytes) ↔ (F → ⊥)
no_memory F f = (λ e. absurd cc, λ none. absurd (none f))

pub returns-in-Dsdiff : goal.returns-in-Dsdiff
returns-in-Dsdiff c =
    let reported = c.around_frames.ensures in
    rw c.in-Dsdiff.is (record {
      head = reported.head;
      tail = reported.tail;
      fits = IfOk-weaker c.around_frames.result _ _ (λ ends whole e. whole) reported.fits;
      not_whole_bytes = (λ e whole. reported.not_whole_bytes.0 e (whole refl), λ none. reported.not_whole_bytes.1 (λ whole. none (λ e. whole)));
    })

pub returns-in_ok-around_blocks-in-Dsf : goal.returns-in_ok-around_blocks-in-Dsf
returns-in_ok-around_blocks-in-Dsf c =
    let reported = c.in_ok-around_blocks-in-Dsf.ensures in
    rw c.in-Dsf.is (record { head = reported.head; tail = reported.tail; fits = fits LeastFirst c.args.count; not_whole_bytes = made _ _ (fits LeastFirst c.args.count) })

pub returns-in_ok-around_blocks-in-Dsf8 : goal.returns-in_ok-around_blocks-in-Dsf8
returns-in_ok-around_blocks-in-Dsf8 c =
    let reported = c.in_ok-around_blocks-in-Dsf8.ensures in
    rw c.in-Dsf8.is (record { head = reported.head; tail = reported.tail; fits = fits MostFirst c.args.count; not_whole_bytes = made _ _ (fits MostFirst c.args.count) })

pub returns-in_err-around_blocks-in-Dsf : goal.returns-in_err-around_blocks-in-Dsf
returns-in_err-around_blocks-in-Dsf c =
    let e = err_from_is_err_and c.from_residual.result c.from_residual.ensures.1 in
    rw (e.1, e.2, c.in-Dsf.is) (record { head = tt; tail = tt; fits = tt; not_whole_bytes = no_memory _ (fits LeastFirst c.args.count) })

pub returns-in_err-around_blocks-in-Dsf8 : goal.returns-in_err-around_blocks-in-Dsf8
returns-in_err-around_blocks-in-Dsf8 c =
    let e = err_from_is_err_and c.from_residual-in_err-around_blocks-in-Dsf8.result c.from_residual-in_err-around_blocks-in-Dsf8.ensures.1 in
    rw (e.1, e.2, c.in-Dsf8.is) (record { head = tt; tail = tt; fits = tt; not_whole_bytes = no_memory _ (fits MostFirst c.args.count) })
