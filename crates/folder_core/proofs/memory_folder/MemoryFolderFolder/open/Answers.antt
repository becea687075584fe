use Rattle.std.proofs.Common.{◌≡◌, ◌∙◌, Some, ap, drop, option_map, refl, sym}
use Rattle.std.proofs.lemmas.List.Elements.{same_from_all_zip}
use Rattle.std.proofs.lemmas.Result.{err_from_is_err_and}
use Rattle.std.specs.Option.{option_copied}
use Rattle.folder_core.proofs.memory_folder.MemoryFolderFolder.open.Goals as goal

pub returns-in_err-file : goal.returns-in_err-file
returns-in_err-file c =
    let e = err_from_is_err_and c.from_residual.result c.from_residual.ensures.1 in
    record { same = refl; bytes = rw e.1 tt }

pub returns-in-Err : goal.returns-in-Err
returns-in-Err c = record { same = refl; bytes = tt }

pub returns-in-Ok : goal.returns-in-Ok
returns-in-Ok c =
    let file = c.in_ok-file.file.now.items in
    record {
      same = refl;
      bytes = λ stated. (
        file,
        (0, ap (option_map (λ v. v.items)) (sym c.get.ensures.value ∙ ap option_copied c.in_ok-file.ensures.ok_part)),
        (λ j. Some (drop (c.new.ensures.position j) (c.new.ensures.inner j).items)) ∙ ap Some (same_from_all_zip (λ x y. y ≡ x) file c.in-Ok.file.items c.in-Ok.ensures.cases.0 (λ x y is. is)),
      );
    }
