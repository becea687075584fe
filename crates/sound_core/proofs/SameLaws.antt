-- Two outlines of one file are equal.
use Rattle.std.proofs.Common.{◌≡◌, ℕ, ◌+◌, ◌≤◌, inl, inr, List, [], ◌++◌, length, take, drop, sym, subst, ap, ap₂, ◌∙◌, arith, length-append, take-append-drop}
use Rattle.std.proofs.lemmas.Bool.{cases_lt}
use Rattle.std.proofs.lemmas.List.{append_cancel_left, take-append-le}
use Rattle.std.proofs.Math.Seq.{take-append_seam}
use Rattle.std.specs.Prelude.{nat_lt}
use Rattle.dsd_bits.specs.declared.interleaving.Interleaving.{Interleaving}
use Rattle.dsd_bits.specs.declared.interleaving.Interleaving.TheVariants.{Bytes, Blocks}
use Rattle.dsd_bits.specs.declared.sound.Sound.{Sound}
use Rattle.dsd_bits.specs.Contents.{Content}
use Rattle.dsdiff_core.specs.Headers.{left_after}
use Rattle.sound_core.specs.Files.{HoldsRecording, IsRefused, LeadsToSound}
use Rattle.sound_core.specs.Outlines.{AreAround, AreStated, HoldsIn, KeepsAfter, IsPlacedIn, Surroundings, with_sound}
use Rattle.sound_core.specs.Relays.{IsSameAround}
use Rattle.sound_core.proofs.StatedLaws.{stated_once}

-- of two lists that are the same as wholes, prefixes of one length are the same, and so is what follows
pub same_prefix : (xs ys us vs : List ℕ) → xs ++ us ≡ ys ++ vs → length xs ≡ length ys → xs ≡ ys
same_prefix xs ys us vs e long = sym (take-append_seam xs us) ∙ ap₂ (λ n zs. take n zs) long e ∙ take-append_seam ys vs

pub same_rest : (xs ys us vs : List ℕ) → xs ++ us ≡ ys ++ vs → length xs ≡ length ys → us ≡ vs
same_rest xs ys us vs e long = append_cancel_left ys us vs (ap (λ zs. zs ++ us) (sym (same_prefix xs ys us vs e long)) ∙ e)

-- of two lists with equal wholes, one begins with the other
longer : (xs ys us vs : List ℕ) → xs ++ us ≡ ys ++ vs → length xs ≤ length ys → ys ≡ xs ++ drop (length xs) ys
longer xs ys us vs e few =
    let first : take (length xs) ys ≡ xs = sym (take-append-le (length xs) ys vs few) ∙ ap (take (length xs)) (sym e) ∙ take-append_seam xs us in
    sym (take-append-drop (length xs) ys) ∙ ap (λ zs. zs ++ drop (length xs) ys) first

-- two prefixes of a file state one sound
pub stated_same : (prefix other rest more : List ℕ) → prefix ++ rest ≡ other ++ more → (s t : Sound) → LeadsToSound prefix s → LeadsToSound other t → t ≡ s
stated_same prefix other rest more e s t states also = elim (cases_lt (length prefix) (length other)) [
  | inl less ↦ stated_once prefix (drop (length prefix) other) s t states (subst (λ xs. LeadsToSound xs t) (longer prefix other rest more e (omega (arith, less))) also)
  | inr most ↦ sym (stated_once other (drop (length other) prefix) t s also (subst (λ xs. LeadsToSound xs s) (longer other prefix more rest (sym e) most) states))
]

-- ---- a file that is some sound in an outline holds a recording
pub holds_in : (o : Interleaving) (file : List ℕ) (r : Content) → HoldsIn o file r → HoldsRecording file r
holds_in Bytes file r h = inl h
holds_in (Blocks order) file r h = inr (order, h)

pub not_refused : (o : Surroundings) → AreStated o → (file : List ℕ) → AreAround o file → IsRefused file → ⊥
not_refused o stated file (sound, stands) refused =
    let r = with_sound o.recording o.sound sound in
    refused r (holds_in o.sound.interleaving file r (stated.holds file sound stands))

-- ---- two outlines
module _ (o p : Surroundings) (stated : AreStated o) (also : AreStated p) (file sound other : List ℕ) (stands : IsPlacedIn o file sound) (again : IsPlacedIn p file other) where
  abbrev after : Surroundings → List ℕ → List ℕ → List ℕ
  after q gap rest = gap ++ (q.back ++ rest)

  wholes : o.head ++ (sound ++ after o stands.gap stands.rest) ≡ p.head ++ (other ++ after p again.gap again.rest)
  wholes = sym stands.file_is ∙ again.file_is

  pub sound_same : p.sound ≡ o.sound
  sound_same = stated_same o.head p.head (sound ++ after o stands.gap stands.rest) (other ++ after p again.gap again.rest) wholes o.sound p.sound stated.states also.states

  heads_long : length o.head ≡ length p.head
  heads_long = sym stated.start ∙ ap (λ (t : Sound). t.start) (sym sound_same) ∙ also.start

  head_same : o.head ≡ p.head
  head_same = same_prefix o.head p.head (sound ++ after o stands.gap stands.rest) (other ++ after p again.gap again.rest) wholes heads_long

  sounds_long : length sound ≡ length other
  sounds_long = stands.sound_long ∙ ap (λ (t : Sound). t.size) (sym sound_same) ∙ sym again.sound_long

  after_same : after o stands.gap stands.rest ≡ after p again.gap again.rest
  after_same =
      same_rest sound other (after o stands.gap stands.rest) (after p again.gap again.rest)
      (same_rest o.head p.head (sound ++ after o stands.gap stands.rest) (other ++ after p again.gap again.rest) wholes heads_long) sounds_long

  left_same : left_after o.head o.sound.size ≡ left_after p.head p.sound.size
  left_same = ap₂ (λ xs (t : Sound). left_after xs t.size) head_same (sym sound_same)

  place_same : drop (o.sound.start + o.sound.size) file ≡ drop (p.sound.start + p.sound.size) file
  place_same = ap (λ (t : Sound). drop (t.start + t.size) file) (sym sound_same)

  -- two files that end are as long
  gaps : o.back ≡ p.back → stands.rest ≡ [] → again.rest ≡ [] → o.gap ≡ p.gap
  gaps back none nothing =
      omega (arith, stands.gap_long, again.gap_long, ap length after_same, length-append stands.gap (o.back ++ stands.rest), length-append again.gap (p.back ++ again.rest), length-append o.back stands.rest, length-append p.back again.rest, ap length back, ap length none, ap length nothing)

  pub same_around : IsSameAround o p
  same_around = by o.sound.interleaving (stated.keeps file sound stands) (subst (λ (t : Sound). KeepsAfter t.interleaving p file) sound_same (also.keeps file other again))
    where
      by : (i : Interleaving) → KeepsAfter i o file → KeepsAfter i p file → IsSameAround o p
      by Bytes k l = record {
        gap = k.0 ∙ sym l.0;
        ends = k.2 ∙ ap₂ (λ xs n. nat_lt (length xs) n) place_same left_same ∙ sym l.2;
        head = head_same;
        back = k.1 ∙ ap₂ (λ n xs. take n xs) left_same place_same ∙ sym l.1;
      }
      by (Blocks order) k l = record {
        gap = gaps (k.0 ∙ sym l.0) (stands.ended k.1) (again.ended l.1);
        ends = k.1 ∙ sym l.1;
        head = head_same;
        back = k.0 ∙ sym l.0;
      }

-- what is some sound in one of two equal outlines is one in the other
pub same_holds : (o p : Surroundings) → p.sound ≡ o.sound → IsSameAround p o → (file sound : List ℕ) → IsPlacedIn p file sound → IsPlacedIn o file sound
same_holds o p sound_is same file sound stands = record {
  gap = stands.gap;
  rest = stands.rest;
  file_is = stands.file_is ∙ ap₂ (λ xs ys. xs ++ (sound ++ (stands.gap ++ (ys ++ stands.rest)))) same.head same.back;
  sound_long = stands.sound_long ∙ ap (λ (t : Sound). t.size) sound_is;
  gap_long = stands.gap_long ∙ same.gap;
  ended = λ yes. stands.ended (same.ends ∙ yes);
}
