-- A file and bytes after its form.
use Rattle.std.proofs.Common.{◌≡◌, ℕ, ◌+◌, ◌-◌, ◌≤◌, List, ◌++◌, length, take, drop, sym, ap, subst, ◌∙◌, arith}
use Rattle.std.specs.Prelude.{slice_range}
use Rattle.std.proofs.lemmas.List.{length-append}
use Rattle.chunk_core.specs.Chunks.{chunks}
use Rattle.dsd_bits.specs.Contents.{Content}
use Rattle.dsdiff_core.specs.Fields.{form_end, form_size}
use Rattle.dsdiff_core.specs.Files.{IsDsdiff}
use Rattle.dsdiff_core.specs.Laws.{FormEnds}
use Rattle.dsdiff_core.proofs.LeadLaws.{number_prefix, part_header}

-- the forms of two files are the same
record SameForm (file made : List ℕ) : Type 0 where
  form : take 4 made ≡ take 4 file
  kind : take 4 (drop 12 made) ≡ take 4 (drop 12 file)
  size : form_size made ≡ form_size file
  range : slice_range made 16 (form_end made) ≡ slice_range file 16 (form_end file)

same_held : (file made : List ℕ) (r : Content) → SameForm file made → 12 + form_size made ≤ length made → IsDsdiff file r → IsDsdiff made r
same_held file made r same whole h = record {
  long = omega (arith, h.holds_type, same.size);
  form = same.form ∙ h.form;
  kind = same.kind ∙ h.kind;
  holds_type = omega (arith, h.holds_type, same.size);
  in_file = omega arith;
  top = h.top;
  are_top = subst (λ (bs : List ℕ). chunks bs h.top) (sym same.range) h.are_top;
  version = h.version;
  later = h.later;
  version_first = h.version_first;
  version_once = h.version_once;
  version_long = h.version_long;
  version_main = h.version_main;
  property = h.property;
  sound = h.sound;
  property_then_sound = h.property_then_sound;
  property_is = h.property_is;
  sound_is = h.sound_is;
  number = h.number;
  states = h.states;
  ids = h.ids;
  whole = h.whole;
  not_long = h.not_long;
  channels = h.channels;
  masters = h.masters;
  are_masters = h.are_masters;
  whole_marks = h.whole_marks;
  marks = h.marks;
  others = h.others;
  layout = h.layout;
  tag = h.tag;
}

same_back : (file made : List ℕ) → SameForm file made → SameForm made file
same_back file made s = record { form = sym s.form; kind = sym s.kind; size = sym s.size; range = sym s.range }

same_form : (file rest : List ℕ) → 16 ≤ length file → 12 + form_size file ≤ length file → SameForm file (file ++ rest)
same_form file rest long whole =
    let size : form_size (file ++ rest) ≡ form_size file = number_prefix 8 4 file rest (omega arith) in
    let end : form_end (file ++ rest) ≡ form_end file = omega (arith, size, length-append file rest) in
    record {
      form = part_header 4 0 file rest (omega arith);
      kind = part_header 4 12 file rest (omega arith);
      size = size;
      range = ap (slice_range (file ++ rest) 16) end ∙ part_header (form_end file - 16) 16 file rest (omega arith);
    }

pub form_ends : FormEnds
form_ends file rest r whole =
    let size : form_size (file ++ rest) ≡ form_size file = number_prefix 8 4 file rest (omega arith) in (
      λ h. same_held file (file ++ rest) r (same_form file rest h.long whole) (omega (arith, size, length-append file rest)) h,
      λ h. same_held (file ++ rest) file r (same_back file (file ++ rest) (same_form file rest (omega (arith, size, h.holds_type)) whole)) whole h,
    )
