use Rattle.std.proofs.Common.{Ok, subst, sym}
use Rattle.std.proofs.lemmas.Result.{err_from_is_err_and}
use Rattle.dsd_bits.specs.Contents.{Described}
use Rattle.dsf_core.specs.Headers.{Describes, DescribesSound}
use Rattle.dsf_core.proofs.DescribingLaws.{described, describes_sound, leads, no_fault, refused}
use Rattle.dsf_core.proofs.FileLaws.{is_sound}
use Rattle.dsf_core.proofs.describing.describe.Goals as goal

pub returns-in_err-header : goal.returns-in_err-header
returns-in_err-header c = no_fault c.args.prefix.now c.in_err-header.field-0.0 _ c.requires.at_sound c.in_err-header.ensures

pub returns-in_err-check_ends : goal.returns-in_err-check_ends
returns-in_err-check_ends c =
    let e = err_from_is_err_and c.from_residual-in_err-check_ends.result c.from_residual-in_err-check_ends.ensures.1 in
    rw (e.1, e.2) (record { stated = refused c.args.prefix.now c.in_ok-header.header (sym c.in_ok-header.ensures) c.args.tag.items c.args.total c.in_err-check_ends.field-0.0 (sym c.in_err-check_ends.ensures); sound = tt })

pub description_of-requires : goal.description_of-requires
description_of-requires c = record { in_limits = is_sound c.args.prefix.now c.in_ok-header.header.sound (leads c.args.prefix.now c.in_ok-header.header (sym c.in_ok-header.ensures)) }

pub returns : goal.returns
returns c =
    let made = c.in_ok-description_of.ensures in record {
      stated = subst (λ (d : Described). Describes c.args.prefix.now c.args.total c.args.tag.items (Ok d)) (sym made)
          (described c.args.prefix.now c.in_ok-header.header (sym c.in_ok-header.ensures) c.args.tag.items c.args.total tt (sym c.in_ok-check_ends.ensures));
      sound = λ s found. subst (DescribesSound s) (sym made) (describes_sound c.args.prefix.now c.in_ok-header.header (sym c.in_ok-header.ensures) c.args.tag.items s found);
    }
