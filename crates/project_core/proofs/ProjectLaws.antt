-- A project is read exactly where its text says it.
use Rattle.std.proofs.Common.{◌≡◌, ℕ, List, Option, Some, None, Result, Ok, Err, refl, sym, ap, ◌∙◌}
use Rattle.std.specs.Prelude.{IfOk}
use Rattle.toml.specs.Data.{Data, table, Members, get_member}
use Rattle.fir_core.specs.Decimator.{Decimator}
use Rattle.project_core.specs.declared.key.Key.TheVariants as keys
use Rattle.project_core.specs.declared.project.Project.{Project}
use Rattle.project_core.specs.declared.fault.ProjectFault.{ProjectFault}
use Rattle.project_core.specs.declared.fault.ProjectFault.TheVariants.{NotToml}
use Rattle.project_core.specs.Keys.{key_name, top_keys}
use Rattle.project_core.specs.Steps.{◌>>=◌, Gives, optional}
use Rattle.project_core.specs.Tables.{has_only, table_in}
use Rattle.project_core.specs.Reading.{document}
use Rattle.project_core.specs.ReadingDecimate.{decimate_of}
use Rattle.splice_core.specs.Splices.{SpliceContent}
use Rattle.project_core.specs.ReadingSplice.{splice_of}
use Rattle.project_core.specs.Projects.{ProjectContent, project_content}
use Rattle.project_core.specs.ReadingProject.{decimate_in, splice_in, project_of, project_at}
use Rattle.project_core.specs.Meaning.{SaysOptional, IsDecimate, IsSplice, IsProjectTable, IsProject}
use Rattle.project_core.proofs.KeyLaws.{finds_only, has_only_from}
use Rattle.project_core.proofs.TableLaws.{bind_ok, ok_or_ok, tested}
use Rattle.project_core.proofs.DecimateLaws.{decimate_ok, decimate_again}
use Rattle.project_core.proofs.SpliceLaws.{splice_ok, splice_again}

optional_ok : {A : Type 0} (f : Data → Result A ProjectFault) (P : Members → A → Type 0) → ((d : Data) (x : A) → f d ≡ Ok x → (t : Members) × (d ≡ table t) × P t x) → (o : Option Data) (x : Option A) → optional f o ≡ Ok x → SaysOptional P o x
optional_ok f P step None None e = tt
optional_ok f P step None (Some x) e = absurd cc
optional_ok f P step (Some d) None e =
    let a = bind_ok (f d) (λ x. Ok (Some x)) None e in
    absurd (let h : Some a.0 ≡ None = cc in cc)
optional_ok {A = A} f P step (Some d) (Some x) e =
    let a = bind_ok (f d) (λ x. Ok (Some x)) (Some x) e in
    let same : a.0 ≡ x = cc in
    step d x (a.1 ∙ ap (λ (y : A). Ok y) same)

optional_again : {A : Type 0} (f : Data → Result A ProjectFault) (P : Members → A → Type 0) → ((t : Members) (x : A) → P t x → f (table t) ≡ Ok x) → (o : Option Data) (x : Option A) → SaysOptional P o x → optional f o ≡ Ok x
optional_again f P step None None h = refl
optional_again f P step None (Some x) h = absurd h
optional_again f P step (Some d) None h = absurd h
optional_again f P step (Some d) (Some x) h = rw (h.1, step h.0 x h.2)

parts : (d : Result (Option Decimator) ProjectFault) (s : Result (Option SpliceContent) ProjectFault) (p : ProjectContent) → (d >>= λ x. s >>= λ y. Ok (record { decimate = x; splice = y })) ≡ Ok p → (d ≡ Ok p.decimate) × (s ≡ Ok p.splice)
parts (Err x) s p e = absurd cc
parts (Ok d) (Err x) p e = absurd cc
parts (Ok d) (Ok s) p e =
    let made : ProjectContent = record { decimate = d; splice = s } in
    let same : made ≡ p = cc in
    rw (← same) (refl, refl)

top_ok : (t : Members) (p : ProjectContent) → project_of t ≡ Ok p → IsProjectTable t p
unfolding project_of decimate_in splice_in
top_ok t p e =
    let a = tested (has_only top_keys t) _ (decimate_in t >>= λ d. splice_in t >>= λ s. Ok (record { decimate = d; splice = s })) p e in
    let q = parts (decimate_in t) (splice_in t) p a.1 in
    record {
      no_others = finds_only top_keys t a.0;
      decimate = optional_ok decimate_of IsDecimate decimate_ok (get_member (key_name keys.Decimate) t) p.decimate q.0;
      splice = optional_ok splice_of IsSplice splice_ok (get_member (key_name keys.Splice) t) p.splice q.1;
    }

top_again : (t : Members) (p : ProjectContent) → IsProjectTable t p → project_of t ≡ Ok p
unfolding project_of decimate_in splice_in
top_again t p h =
    rw (
      has_only_from top_keys t h.no_others,
      optional_again decimate_of IsDecimate decimate_again (get_member (key_name keys.Decimate) t) p.decimate h.decimate,
      optional_again splice_of IsSplice splice_again (get_member (key_name keys.Splice) t) p.splice h.splice,
    )

pub project_ok : (bytes : List ℕ) (p : ProjectContent) → project_at bytes ≡ Ok p → IsProject bytes p
unfolding project_at document
project_ok bytes p e =
    let a = bind_ok (document bytes) project_of p e in
    (a.0, ok_or_ok (table_in bytes) NotToml a.0 a.1, top_ok a.0 p a.2)

pub project_again : (bytes : List ℕ) (p : ProjectContent) → IsProject bytes p → project_at bytes ≡ Ok p
unfolding project_at document
project_again bytes p h = rw h.1 (top_again h.0 p h.2)

pub is_found : (bytes : List ℕ) (r : Result Project ProjectFault) → Gives project_content r (project_at bytes) → IfOk r (λ p. IsProject bytes (project_content p))
is_found bytes (Ok p) h = project_ok bytes (project_content p) h
is_found bytes (Err e) h = tt

-- a text says one project at most
pub one_project : (bytes : List ℕ) (p q : ProjectContent) → IsProject bytes p → IsProject bytes q → p ≡ q
one_project bytes p q hp hq =
    let both : Ok p ≡ Ok q = sym (project_again bytes p hp) ∙ project_again bytes q hq in
    cc
