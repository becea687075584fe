use Rattle.std.proofs.Common.{◌≡◌, arith, ap, option_map, refl}
use Rattle.std.specs.BTreeMap.{get_by_text}
use Rattle.std.proofs.lemmas.Map.Text.{text_keys}
use Rattle.folder_core.proofs.memory_folder.MemoryFolder.put.Goals as goal

pub returns-clause-others : goal.returns-clause-others
returns-clause-others c = record {
  others = λ other differs.
      let e : get_by_text c.insert.new.self other ≡ get_by_text c.args.self.now.files other = grind (arith, text_keys) in
      ap (option_map (λ v. v.items)) e;
  same_known = refl;
  same_keeping = refl;
}
