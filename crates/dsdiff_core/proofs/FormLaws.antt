-- The form and its chunks, in both directions.
use Rattle.std.proofs.Common.{◌≡◌, ℕ, ◌+◌, ◌-◌, ◌≤◌, ◌<◌, true, false, not, List, [], ◌∷◌, length, map, take, drop, Ok, Err, refl, arith}
use Rattle.std.specs.Prelude.{slice_index}
use Rattle.std.proofs.lemmas.Bool.{ltb-false, le-ltb, lt-ltb, eqb-true}
use Rattle.chunk_core.specs.declared.layout.Span.{Span}
use Rattle.chunk_core.specs.Chunks.{Chunk}
use Rattle.chunk_core.specs.Places.{span_chunk}
use Rattle.chunk_core.specs.Reading.{spans_in}
use Rattle.chunk_core.proofs.Steps.{bind_then, guard_ok}
use Rattle.dsd_bits.specs.Ids.{same_id, FVER, DSD}
use Rattle.dsdiff_core.specs.declared.fault.DsdiffFault.TheVariants as faults
use Rattle.dsdiff_core.specs.Fields.{form_size, form_end}
use Rattle.dsdiff_core.specs.Forms.{cut_form, form_end_in, top_of, known_version}
use Rattle.dsdiff_core.specs.Kinds.{FRM8, has_id}
use Rattle.dsdiff_core.specs.Spans.{once_each, top_kinds}
use Rattle.dsdiff_core.specs.Steps.{walked}
use Rattle.dsdiff_core.proofs.KindLaws.{id_is}
use Rattle.dsdiff_core.proofs.OnceLaws.{Once, none_yet, once_again, once_ok}
use Rattle.dsdiff_core.proofs.Steps.{not_false, under_ok, walked_ok}

pub same_again : (a b : List ℕ) → same_id b b ≡ true → a ≡ b → not (same_id a b) ≡ false
same_again a b r e = rw (e, r) refl

-- a form that is there but for its last pad
pub record IsForm (file : List ℕ) : Type 0 where
  pub long : 16 ≤ length file
  pub form : take 4 file ≡ FRM8
  pub kind : take 4 (drop 12 file) ≡ DSD
  pub holds_type : 4 ≤ form_size file
  pub in_file : 12 + form_size file ≤ length file + 1

pub end_ok : (file : List ℕ) (n : ℕ) → form_end_in file ≡ Ok n → IsForm file × (form_end file ≡ n)
unfolding form_end_in
end_ok file n e =
    let a = guard_ok _ _ _ _ e in
    let b = guard_ok _ _ _ _ a.1 in
    let c = guard_ok _ _ _ _ b.1 in
    let d = guard_ok _ _ _ _ c.1 in
    let f = guard_ok _ _ _ _ d.1 in
    let same : form_end file ≡ n = cc (f.1) in (
      record {
        long = ltb-false _ _ a.0;
        form = id_is _ _ (not_false _ b.0);
        kind = id_is _ _ (not_false _ c.0);
        holds_type = ltb-false _ _ d.0;
        in_file = ltb-false _ _ f.0;
      },
      same,
    )

pub end_again : (file : List ℕ) → IsForm file → form_end_in file ≡ Ok (form_end file)
unfolding form_end_in
end_again file h =
    rw (le-ltb (length file) 16 h.long, same_again (take 4 file) FRM8 refl h.form, same_again (take 4 (drop 12 file)) DSD refl h.kind, le-ltb (form_size file) 4 h.holds_type, le-ltb (length file + 1) (12 + form_size file) h.in_file) refl

-- the first chunk is a version that is known
pub record IsVersion (cs : List Chunk) : Type 0 where
  pub version : Chunk
  pub later : List Chunk
  pub is : cs ≡ version ∷ later
  pub id : has_id FVER version ≡ true
  pub long : 4 ≤ length version.content
  pub main : slice_index version.content 0 ≡ 1

pub version_ok : (cs : List Chunk) (u : Unit {0}) → known_version cs ≡ Ok u → IsVersion cs
version_ok [] u e = absurd cc
version_ok (c ∷ cs) u e =
    let a = guard_ok _ _ _ _ e in
    let b = guard_ok _ _ _ _ a.1 in
    let d = under_ok _ tt u (faults.BadVersion (take 4 c.content)) b.1 in
    record { version = c; later = cs; is = refl; id = not_false _ a.0; long = ltb-false _ _ b.0; main = eqb-true _ _ d.0 }

pub version_again : (cs : List Chunk) → IsVersion cs → known_version cs ≡ Ok tt
version_again cs v = rw (v.is, v.id, le-ltb (length v.version.content) 4 v.long, v.main) refl

-- the chunks of the form
pub record IsTop (file : List ℕ) (top : List Span) : Type 0 where
  pub form : IsForm file
  pub spans : spans_in file 16 (form_end file) ≡ Ok top
  pub version : IsVersion (map (span_chunk file) top)
  pub once : Once (top_kinds file) top

pub top_ok : (file : List ℕ) (top : List Span) → top_of file ≡ Ok top → IsTop file top
unfolding top_of
top_ok file top e =
    bind_then (form_end_in file) _ top e (λ n e1 h1.
    bind_then (walked (spans_in file 16 n)) _ top h1 (λ found e2 h2.
    bind_then (known_version (map (span_chunk file) found)) _ top h2 (λ u e3 h3.
    bind_then (once_each (top_kinds file) [] found) _ top h3 (λ w e4 h4.
    let same : found ≡ top = cc (h4) in
    let f = end_ok file n e1 in
    rw (← same) (record {
      form = f.0;
      spans = rw f.1 (walked_ok (spans_in file 16 n) found e2);
      version = version_ok (map (span_chunk file) found) u e3;
      once = once_ok (top_kinds file) [] found w e4 (none_yet (top_kinds file));
    })))))

pub top_again : (file : List ℕ) (top : List Span) → IsTop file top → top_of file ≡ Ok top
unfolding top_of
top_again file top t =
    rw (end_again file t.form, t.spans, version_again (map (span_chunk file) top) t.version, once_again (top_kinds file) [] top t.once) refl

-- a form that is there
pub form_there : (file : List ℕ) → 16 ≤ length file → not (same_id (take 4 file) FRM8) ≡ false → not (same_id (take 4 (drop 12 file)) DSD) ≡ false → 4 ≤ form_size file → 12 + form_size file ≤ length file + 1 → form_end_in file ≡ Ok (form_end file)
unfolding form_end_in
form_there file long id kind holds fits = rw (le-ltb (length file) 16 long, id, kind, le-ltb (form_size file) 4 holds, le-ltb (length file + 1) (12 + form_size file) fits) refl

-- a form whose size is too small
pub form_small : (file : List ℕ) → 16 ≤ length file → not (same_id (take 4 file) FRM8) ≡ false → not (same_id (take 4 (drop 12 file)) DSD) ≡ false → form_size file < 4 → form_end_in file ≡ Err (faults.FormCut (form_size file) 0)
unfolding form_end_in
form_small file long id kind small = rw (le-ltb (length file) 16 long, id, kind, lt-ltb (form_size file) 4 small) refl

-- a form that goes past the file's end
pub form_cut : (file : List ℕ) → 16 ≤ length file → not (same_id (take 4 file) FRM8) ≡ false → not (same_id (take 4 (drop 12 file)) DSD) ≡ false → length file + 1 < 12 + form_size file
    → form_end_in file ≡ Err (cut_form (form_size file) (length file))
unfolding form_end_in
form_cut file long id kind cut = rw (le-ltb (length file) 16 long, id, kind, le-ltb (form_size file) 4 (omega (arith, long, cut)), lt-ltb (length file + 1) (12 + form_size file) cut) refl

-- the bytes after the form's size are fewer than it names
pub cut_by : (file : List ℕ) (size : ℕ) → 16 ≤ length file → length file - 11 < size → size ≡ form_size file → length file + 1 < 12 + form_size file
cut_by file size long few e = omega (arith, e)
