use Rattle.std.proofs.Common.{◌≡◌, ℕ, Global, Vec, map, take}
use Rattle.std.specs.Prelude.{string_bytes}
use Rattle.folder_core.specs.Files.{AreReadOf}
use Rattle.folder_core.proofs.files.read_files.Given as goal

abbrev pub invariant-loop-name : goal.invariant-loop-name
invariant-loop-name g l = record {
  same : g.F.Folder.view l.folder ≡ g.F.Folder.view l.initial.folder;
  bytes : AreReadOf (g.F.Folder.view l.initial.folder) (map string_bytes (take l.name-index l.names)) (map (λ (file : Vec ℕ Global). file.items) l.files.items);
}
