use Rattle.std.proofs.Common.{◌≡◌, arith, length}
use Rattle.std.specs.Prelude.{string_bytes}
use Rattle.std.proofs.lemmas.List.{length-map}
use Rattle.std.proofs.lemmas.Result.{err_from_is_err_and}
use Rattle.dsd_bits.proofs.ExitLaws.{no_value}
use Rattle.clip_core.specs.Contents.{mix_content}
use Rattle.cut_core.specs.Opening.{file_bytes}
use Rattle.null_core.proofs.CallingLaws.{mixed_fault, mixed_from, of_takes, take_fault, text_fault}
use Rattle.null_core.proofs.calling.read_mixed.Goals as goal
use Rattle.null_core.proofs.calling.read_mixed.Goals.{In_ok-takes}

as_many : (c : In_ok-takes) → length (file_bytes c.args.files.now) ≡ length (mix_content c.in_ok-mix.mix).takes
as_many c = omega (arith, length-map c.args.files.now (λ file. file.items), c.len.ensures, c.if-files-len.false, length-map c.in_ok-mix.mix.takes.items string_bytes, c.in_ok-mix.mix.takes.ok)

pub returns-in_err-mix : goal.returns-in_err-mix
returns-in_err-mix c =
    let p = err_from_is_err_and c.from_residual.result c.from_residual.ensures.1 in
    record {
      made = no_value _ _ c.from_residual.result c.from_residual.ensures.1;
      refused = rw (p.1, p.2) (text_fault c.args.text.now (file_bytes c.args.files.now) c.in_err-mix.field-0.0 c.in_err-mix.ensures.exact);
    }

pub returns-then-files-len : goal.returns-then-files-len
returns-then-files-len c = record {
  made = tt;
  refused = record {
    mix = mix_content c.in_ok-mix.mix;
    says = c.in_ok-mix.ensures.found;
    other = λ same. c.if-files-len.true (omega (arith, same, length-map c.args.files.now (λ file. file.items), c.len.ensures, length-map c.in_ok-mix.mix.takes.items string_bytes, c.in_ok-mix.mix.takes.ok));
  };
}

pub returns-in_err-takes : goal.returns-in_err-takes
returns-in_err-takes c =
    let p = err_from_is_err_and c.from_residual-in_err-takes.result c.from_residual-in_err-takes.ensures.1 in
    let same : length (file_bytes c.args.files.now) ≡ length (mix_content c.in_ok-mix.mix).takes = omega (arith, length-map c.args.files.now (λ file. file.items), c.len.ensures, c.if-files-len.false, length-map c.in_ok-mix.mix.takes.items string_bytes, c.in_ok-mix.mix.takes.ok) in
    record {
      made = no_value _ _ c.from_residual-in_err-takes.result c.from_residual-in_err-takes.ensures.1;
      refused = rw (p.1, p.2) (take_fault c.args.text.now (file_bytes c.args.files.now) (mix_content c.in_ok-mix.mix) c.in_ok-mix.ensures.found same c.in_err-takes.field-0.0 c.in_err-takes.ensures.fault);
    }

pub of-requires : goal.of-requires
of-requires c =
    let here = (goal.at.of-requires c).In_ok-takes in
    of_takes c.args.text.now (file_bytes c.args.files.now) (mix_content c.in_ok-mix.mix) c.in_ok-mix.ensures.found (as_many here) c.in_ok-takes.takes c.in_ok-takes.ensures.made

pub returns-in_err-of : goal.returns-in_err-of
returns-in_err-of c =
    let here = (goal.at.returns-in_err-of c).In_ok-takes in
    let p = err_from_is_err_and c.from_residual-in_err-of.result c.from_residual-in_err-of.ensures.1 in
    let reads = c.in_ok-takes.ensures.made in
    record {
      made = no_value _ _ c.from_residual-in_err-of.result c.from_residual-in_err-of.ensures.1;
      refused = rw (p.1, p.2) (mixed_fault c.args.text.now (file_bytes c.args.files.now) (mix_content c.in_ok-mix.mix) c.in_ok-mix.ensures.found (as_many here) reads.takes reads.held c.in_ok-takes.takes.items reads.excerpts c.in_err-of.field-0.0 c.in_err-of.ensures.fault);
    }

pub returns : goal.returns
returns c =
    let here = (goal.at.returns c).In_ok-takes in
    record {
      made = mixed_from c.args.text.now (file_bytes c.args.files.now) (mix_content c.in_ok-mix.mix) c.in_ok-mix.ensures.found (as_many here) c.in_ok-takes.takes c.in_ok-takes.ensures.made c.in_ok-of.field-0 c.in_ok-of.ensures.made c.in_ok-of.ensures.fit;
      refused = tt;
    }
