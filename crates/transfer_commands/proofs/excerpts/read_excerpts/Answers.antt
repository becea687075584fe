use Rattle.std.proofs.Common.{◌≡◌, ◌<◌, ◌∙◌, [], Err, ap, get_or, length, map, refl, subst, arith}
use Rattle.std.specs.Prelude.{string_bytes}
use Rattle.std.proofs.lemmas.List.{length-map, take_all}
use Rattle.std.proofs.lemmas.Result.{err_from_is_err_and}
use Rattle.dsd_bits.proofs.ExitLaws.{no_value}
use Rattle.splice_core.specs.Splices.{splice_content}
use Rattle.cut_core.specs.Excerpts.{AreExcerpts, excerpts_content}
use Rattle.cut_core.specs.Opening.{IsOfTakes}
use Rattle.folder_core.specs.Files.{View}
use Rattle.transfer_commands.specs.Excerpts.{ReadsExcerpts, ReadsAllExcerpts}
use Rattle.transfer_commands.specs.Outlining.{IsUnread}
use Rattle.transfer_commands.proofs.ExcerptLaws.{err_says, files_more}
use Rattle.transfer_commands.proofs.excerpts.read_excerpts.Goals as goal

pub loop-number-preserved : goal.loop-number-preserved
loop-number-preserved g c =
    let old = g.F.Folder.view c.args.folder.now in
    let splice = splice_content c.args.splice.now in
    let so_far = c.loop-number.invariant in
    let n = c.loop-number.number in
    let read = c.in_ok-next.ensures in
    let there : n < length splice.takes = omega (arith, c.loop-number-test.true, c.len-number-end.ensures, length-map c.args.splice.now.takes.items string_bytes) in
    record {
      same = c.named_excerpts.ensures.same ∙ so_far.same;
      excerpts = files_more old splice splice.takes n there c.loop-number.excerpts c.push_excerpts-excerpts.result c.in_ok-next.next so_far.excerpts (subst (λ (v : View). ReadsExcerpts v splice n (get_or splice.takes n []) c.in_ok-next.next) so_far.same read.excerpts) (c.push_excerpts-excerpts.ensures.excerpts splice);
      of = c.push_excerpts-excerpts.ensures.of splice n so_far.of read.of;
    }

pub loop-number-init : goal.loop-number-init
loop-number-init g c =
    let none : AreExcerpts (splice_content c.args.splice.now) [] c.new.result.items = record { shaped = λ i d there. absurd (omega (arith, there)); excerpts = ap (map excerpts_content) c.new.ensures.items } in
    record {
      same = refl;
      excerpts = record { files = []; read = tt; reads_excerpts = ([], refl, none) };
      of = ([], none, refl);
    }

pub returns-in_err-next : goal.returns-in_err-next
returns-in_err-next g c =
    let so_far = c.loop-number.invariant in
    let r = c.from_residual.result in
    let e = err_from_is_err_and r c.from_residual.ensures.1 in
    record {
      same = c.named_excerpts.ensures.same ∙ so_far.same;
      excerpts = no_value _ _ r c.from_residual.ensures.1;
      of = no_value _ _ r c.from_residual.ensures.1;
      fault = err_says r _ IsUnread (e.1 ∙ ap Err e.2) (c.in_err-next.ensures.fault);
    }

pub returns : goal.returns
returns g c =
    let splice = splice_content c.args.splice.now in
    let n = c.loop-number.number in
    let so_far = c.loop-number.invariant in
    let many : n ≡ length splice.takes = omega (arith, c.loop-number-test.false, c.loop-number.auto.number-end, c.len-number-end.ensures, length-map c.args.splice.now.takes.items string_bytes) in
    record {
      same = so_far.same;
      excerpts = subst (λ names. ReadsAllExcerpts (g.F.Folder.view c.args.folder.now) splice names c.loop-number.excerpts) (take_all n splice.takes (omega (arith, many))) so_far.excerpts;
      of = subst (λ k. IsOfTakes splice k c.loop-number.excerpts) many so_far.of;
      fault = tt;
    }

pub named_excerpts-requires : goal.named_excerpts-requires
named_excerpts-requires g c = omega (arith, c.loop-number-test.true, c.len-number-end.ensures, length-map c.args.splice.now.takes.items string_bytes)
