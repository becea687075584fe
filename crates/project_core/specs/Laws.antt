-- Laws: how the words of the contracts are related.
use Rattle.std.specs.Prelude.{◌≡◌, ◌↔◌, ℕ, List, Ok}
use Rattle.project_core.specs.Projects.{ProjectContent}
use Rattle.project_core.specs.Meaning.{IsProject}
use Rattle.project_core.specs.ReadingProject.{project_at}

-- a text describes at most one project
abbrev pub OneProject : Type 0
OneProject = (bytes : List ℕ) (p q : ProjectContent) → IsProject bytes p → IsProject bytes q → p ≡ q

-- reading in order returns a project exactly if the text describes it
abbrev pub ReadAsSaid : Type 0
ReadAsSaid = (bytes : List ℕ) (p : ProjectContent) → (project_at bytes ≡ Ok p) ↔ IsProject bytes p
