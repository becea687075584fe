-- What was read of a file, part by part, and what its outline tells.
use Rattle.std.proofs.Common.{◌≡◌, ◌≢◌, ℕ, ◌+◌, ◌<◌, ◌≤◌, List, [], ◌++◌, length, take, drop, Option, None, Some, refl, sym, subst, ap, ◌∙◌, arith, append_assoc, append-nil, length-append, length-take, take-append-drop}
use Rattle.std.specs.Io.KnownBytes.{Consumes, IsAtEnd}
use Rattle.chunk_core.specs.Inlets.{inlet_reader}
use Rattle.chunk_core.specs.declared.inlet.Inlet.{Inlet}
use Rattle.sound_core.specs.Outlines.{ReadsTag}
use Rattle.sound_core.specs.Readers.{FallsShort, Passes}
use Rattle.sound_core.specs.Reads.{Reads, ReadsAll, ReadsToEnd}
use Rattle.sound_core.proofs.ReadLaws.{reads_none, reads_on}

-- as many bytes are left as there are after those that were read
pub left_is : {R : Type 0} (left : R → Option (List ℕ)) (i j : Inlet R) (read : List ℕ) → Reads left i j read → (xs : List ℕ) → left (inlet_reader i) ≡ Some xs → (ys : List ℕ) × (left (inlet_reader j) ≡ Some ys) × (xs ≡ read ++ ys)
left_is left i j read reads xs known = by (left (inlet_reader j)) refl (subst (λ o. Consumes o (left (inlet_reader j)) read) known reads.consumed)
  where
    by : (o : Option (List ℕ)) → left (inlet_reader j) ≡ o → Consumes (Some xs) (left (inlet_reader j)) read → (ys : List ℕ) × (left (inlet_reader j) ≡ Some ys) × (xs ≡ read ++ ys)
    by None is h = absurd (subst (λ o. Consumes (Some xs) o read) is h)
    by (Some ys) is h = (ys, is, subst (λ o. Consumes (Some xs) o read) is h)

-- ---- bytes that are passed
pub pass_none : {R : Type 0} (left : R → Option (List ℕ)) (i : Inlet R) (ahead : List ℕ) → Passes left i i 0 ahead ahead
pass_none left i ahead = record { passed = []; read = []; reads = reads_none left i; parts = append-nil ahead; long = refl }

module _ {R : Type 0} (left : R → Option (List ℕ)) (i j : Inlet R) (n : ℕ) (old ahead : List ℕ) (passes : Passes left i j n old ahead) where
  -- all that is buffered is passed, and more is read
  pub pass_more : (k : Inlet R) (read : List ℕ) → Reads left j k read → Passes left i k (n + length ahead) old read
  pass_more k read reads = record {
    passed = passes.passed ++ ahead;
    read = passes.read ++ read;
    reads = reads_on left i j k passes.read read passes.reads reads;
    parts = sym (append_assoc old passes.read read) ∙ ap (λ xs. xs ++ read) passes.parts;
    long = omega (arith, length-append passes.passed ahead, passes.long);
  }

  -- the first buffered bytes are passed
  pub pass_part : (k : Inlet R) (m : ℕ) (rest : List ℕ) → k ≡ j → m ≤ length ahead → rest ≡ drop m ahead → Passes left i k (n + m) old rest
  pass_part k m rest same within is = record {
    passed = passes.passed ++ take m ahead;
    read = passes.read;
    reads = subst (λ l. Reads left i l passes.read) (sym same) passes.reads;
    parts = passes.parts ∙ ap (λ xs. passes.passed ++ xs) (sym (take-append-drop m ahead) ∙ ap (λ xs. take m ahead ++ xs) (sym is)) ∙ sym (append_assoc passes.passed (take m ahead) rest);
    long = omega (arith, length-append passes.passed (take m ahead), length-take m ahead, passes.long, within);
  }

  -- the bytes end before
  pub pass_short : (k : Inlet R) (read : List ℕ) (wanted : ℕ) → Reads left j k read → length read ≡ 0 → IsAtEnd (left (inlet_reader k)) → n + length ahead < wanted → FallsShort left i k wanted old
  pass_short k read wanted reads none end less = record {
    read = passes.read ++ read;
    reads = reads_on left i j k passes.read read passes.reads reads;
    few = omega (arith, less, none, ap length passes.parts, length-append old passes.read, length-append passes.passed ahead, passes.long, length-append old (passes.read ++ read), length-append passes.read read);
    at_end = end;
  }

-- ---- what is between a sound and a tag
pub tag_none : {R : Type 0} (left : R → Option (List ℕ)) (i j : Inlet R) (place stop gap : ℕ) (back none : List ℕ) → place ≡ 0 → (all : ReadsToEnd left i j) → none ≡ [] → gap ≡ length back + length all.bytes → ReadsTag left i j place stop back none gap
tag_none left i j place stop gap back none zero all is size = record {
  passed = back ++ all.bytes;
  read = all.bytes;
  reads = all.reads;
  at_end = all.at_end;
  parts = sym (append-nil (back ++ all.bytes)) ∙ ap (λ xs. (back ++ all.bytes) ++ xs) (sym is);
  long = omega (arith, length-append back all.bytes, size);
  none = λ _. is;
  at_place = λ some. absurd (some zero);
}

pub tag_some : {R : Type 0} (left : R → Option (List ℕ)) (i j k : Inlet R) (place stop gap : ℕ) (back rest tag : List ℕ) → place ≢ 0 → stop + gap ≡ place → Passes left i j gap back rest → ReadsAll left j k rest tag → ReadsTag left i k place stop back tag gap
tag_some left i j k place stop gap back rest tag some at passes all = record {
  passed = passes.passed;
  read = passes.read ++ all.bytes;
  reads = reads_on left i j k passes.read all.bytes passes.reads all.reads;
  at_end = all.at_end;
  parts = sym (append_assoc back passes.read all.bytes) ∙ ap (λ xs. xs ++ all.bytes) passes.parts ∙ append_assoc passes.passed rest all.bytes ∙ ap (λ xs. passes.passed ++ xs) (sym all.appended);
  long = passes.long;
  none = λ zero. absurd (some zero);
  at_place = λ _. at;
}
