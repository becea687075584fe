use Rattle.std.proofs.Common.{◌∙◌, Err, ap, refl, subst}
use Rattle.std.proofs.lemmas.Result.{err_from_is_err_and}
use Rattle.dsd_bits.proofs.ExitLaws.{no_value}
use Rattle.folder_core.specs.Files.{IsGiven, View}
use Rattle.transfer_commands.specs.Opening.{left_of}
use Rattle.transfer_commands.specs.PartPlaying.{IsUnfound}
use Rattle.transfer_commands.specs.declared.parts.PartFault.TheVariants.{Command}
use Rattle.transfer_commands.proofs.ExcerptLaws.{err_says}
use Rattle.transfer_commands.proofs.FindingLaws.{found_in_sound, unfound_in_sound, unopened_unfound}
use Rattle.transfer_commands.proofs.RefusalLaws.{not_true}
use Rattle.transfer_commands.proofs.parts.find_part.Goals as goal

pub returns-in_err-part : goal.returns-in_err-part
returns-in_err-part g c =
    let r = c.from_residual.result in
    let is = c.from_residual.ensures.1 in
    let e = err_from_is_err_and r is in
    record {
      same = c.part_of.ensures.same;
      found = no_value _ _ r is;
      states = no_value _ _ r is;
      given = no_value _ _ r is;
      refused = err_says r _ _ (e.1 ∙ ap Err e.2) c.in_err-part.ensures.refused;
    }

pub returns-in_err-opened : goal.returns-in_err-opened
returns-in_err-opened g c =
    let r = c.from_residual-in_err-opened.result in
    let is = c.from_residual-in_err-opened.ensures.1 in
    let e = err_from_is_err_and r is in
    let fault = c.in_err-opened.field-0.0 in
    let none = unopened_unfound c.args.project.now c.args.input.now (g.F.Folder.view c.part_of.new.folder) c.args.span fault c.in_err-opened.ensures.fault in
    record {
      same = c.open_prefix.ensures.same ∙ c.part_of.ensures.same;
      found = no_value _ _ r is;
      states = no_value _ _ r is;
      given = no_value _ _ r is;
      refused = err_says r _ _ (e.1 ∙ ap Err e.2) (subst (λ (v : View). IsUnfound c.args.project.now c.args.input.now v c.args.span (Command fault)) c.part_of.ensures.same none);
    }

pub returns-then-reopens : goal.returns-then-reopens
returns-then-reopens g c = record {
  same = c.open_prefix.ensures.same ∙ c.part_of.ensures.same;
  found = c.in_ok-part.ensures.found;
  states = c.in_ok-opened.ensures.states;
  given = subst (λ (v : View). IsGiven v c.args.input.now (left_of g.F.In.Read.remaining c.in_ok-opened.opened)) c.part_of.ensures.same c.in_ok-opened.ensures.given;
  refused = tt;
}

pub returns-then-names_mark : goal.returns-then-names_mark
returns-then-names_mark g c = record { same = refl; found = tt; states = tt; given = tt; refused = tt }

pub returns-in_err-opened-2 : goal.returns-in_err-opened-2
returns-in_err-opened-2 g c =
    let r = c.from_residual-in_err-opened-2.result in
    let is = c.from_residual-in_err-opened-2.ensures.1 in
    let e = err_from_is_err_and r is in
    record {
      same = c.open_prefix-2.ensures.same;
      found = no_value _ _ r is;
      states = no_value _ _ r is;
      given = no_value _ _ r is;
      refused = err_says r _ _ (e.1 ∙ ap Err e.2) (unopened_unfound c.args.project.now c.args.input.now (g.F.Folder.view c.args.folder.now) c.args.span c.in_err-opened-2.field-0.0 c.in_err-opened-2.ensures.fault);
    }

pub returns-in_err-part-2 : goal.returns-in_err-part-2
returns-in_err-part-2 g c =
    let opened = c.in_ok-opened-2.opened in
    let r = c.from_residual-in_err-part-2.result in
    let is = c.from_residual-in_err-part-2.ensures.1 in
    let e = err_from_is_err_and r is in
    record {
      same = c.open_prefix-2.ensures.same;
      found = no_value _ _ r is;
      states = no_value _ _ r is;
      given = no_value _ _ r is;
      refused = err_says r _ _ (e.1 ∙ ap Err e.2) (unfound_in_sound c.args.project.now c.args.input.now opened.prefix.items (g.F.Folder.view c.args.folder.now) (g.F.In.Read.remaining opened.file) opened.sound c.args.span c.in_ok-opened-2.ensures.given c.in_ok-opened-2.ensures.states
          (λ named. not_true (c.if-names_mark.ensures.1 named)) c.in_err-part-2.field-0.0 c.in_err-part-2.ensures.refused);
    }

pub returns : goal.returns
returns g c =
    let opened = c.in_ok-opened-2.opened in
    let part = c.in_ok-part-2.part in
    let found = c.in_ok-part-2.ensures in
    record {
      same = c.open_prefix-2.ensures.same;
      found = (
        found.project,
        found.factor,
        found_in_sound c.args.project.now c.args.input.now opened.prefix.items (g.F.Folder.view c.args.folder.now) (g.F.In.Read.remaining opened.file) opened.sound c.args.span c.in_ok-opened-2.ensures.given c.in_ok-opened-2.ensures.states part.start part.stop found.found,
      );
      states = c.in_ok-opened-2.ensures.states;
      given = c.in_ok-opened-2.ensures.given;
      refused = tt;
    }
