-- A target is read exactly where its table says it.
use Rattle.std.proofs.Common.{◌≡◌, ℕ, ◌≤◌, ℤ, unsigned_abs, Bool, true, false, cond, List, [], ◌∷◌, get_or, Option, Some, None, option_map, Ok, Err, codes, refl, sym, ap, ◌∙◌, arith, inl, inr, ◌⊎◌}
use Rattle.std.specs.Str.{bytes_eq}
use Rattle.std.proofs.lemmas.Bool.{and_parts, le-leb, leb-true}
use Rattle.std.proofs.lemmas.Slice.Eq.{bytes_eq-Decides}
use Rattle.toml.specs.Data.{Data, string, Members, get_member}
use Rattle.project_core.specs.declared.key.Key.TheVariants as keys
use Rattle.project_core.specs.declared.key.Table.{Table}
use Rattle.splice_core.specs.declared.cue.Target.{Target}
use Rattle.splice_core.specs.declared.cue.Target.TheVariants.{Fade, Line}
use Rattle.splice_core.specs.Cues.{IsLine, IsTarget}
use Rattle.project_core.specs.declared.fault.ProjectFault.TheVariants.{OutOfLimit}
use Rattle.project_core.specs.Keys.{key_name}
use Rattle.project_core.specs.Meaning.{line_ends, target_name}
use Rattle.project_core.specs.Reading.{integers_at}
use Rattle.project_core.specs.ReadingCue.{fade_at, fade_of, is_end, line_at, line_of, target_at, target_name_at, target_name_of, target_named}
use Rattle.project_core.specs.Tables.{numbers}
use Rattle.project_core.proofs.TableAgain.{fits_one, integers_again}
use Rattle.project_core.proofs.TableLaws.{bind_ok, integers_ok, passed, text_ok}

-- what a table says of a target: its name, or none for the fade, and the ends of a line
pub record SaysTarget (t : Members) (g : Target) : Type 0 where
  pub name : (get_member (key_name keys.Target) t ≡ Some (string (target_name g))) ⊎ ((get_member (key_name keys.Target) t ≡ None) × (g ≡ Fade))
  pub line : get_member (key_name keys.Line) t ≡ option_map numbers (line_ends g)
  pub limits : IsTarget g

-- ---- what was read was said
name_found : (cue : Table) (o : Option Data) (n : List ℕ) → target_name_of cue o ≡ Ok n → (o ≡ Some (string n)) ⊎ ((o ≡ None) × (n ≡ codes "fade"))
name_found cue None n e = let same : codes "fade" ≡ n = cc in inr (refl, sym same)
name_found cue (Some d) n e = inl (ap (λ (x : Data). Some x) (text_ok keys.Target cue d n e))

fade_limits : IsTarget Fade
fade_limits = λ a b e. absurd cc

fade_found : (cue : Table) (o : Option Data) (g : Target) → fade_of cue o ≡ Ok g → (o ≡ None) × (g ≡ Fade)
fade_found cue None g e = let same : Fade ≡ g = cc in (refl, sym same)
fade_found cue (Some d) g e = absurd cc

line_limits : (a b : ℤ) → IsLine a b → IsTarget (Line a b)
line_limits a b fits = λ c d e. (let p : a ≡ c = cc in let q : b ≡ d = cc in rw (← p, ← q) fits)

line_found : (cue : Table) (zs : List ℤ) (g : Target) → line_of cue zs ≡ Ok g → (a : ℤ) × (b : ℤ) × (zs ≡ a ∷ b ∷ []) × (g ≡ Line a b) × IsLine a b
line_found cue [] g e = absurd cc
line_found cue (a ∷ []) g e = absurd cc
line_found cue (a ∷ b ∷ []) g e =
    let p = passed _ (OutOfLimit keys.Line cue) (Line a b) g e in
    let q = and_parts (is_end a) (is_end b) p.0 in
    (a, b, refl, sym p.1, record { a_fits = leb-true (unsigned_abs a) 4096 q.0; b_fits = leb-true (unsigned_abs b) 4096 q.1 })
line_found cue (a ∷ b ∷ c ∷ zs) g e = absurd cc

fade_said : (cue : Table) (t : Members) (n : List ℕ) (g : Target) → (get_member (key_name keys.Target) t ≡ Some (string n)) ⊎ ((get_member (key_name keys.Target) t ≡ None) × (n ≡ codes "fade")) → n ≡ codes "fade" → fade_at cue t ≡ Ok g → SaysTarget t g
unfolding fade_at
fade_said cue t n g (inl there) is e =
    let p = fade_found cue (get_member (key_name keys.Line) t) g e in
    rw p.1 (record { name = inl (there ∙ ap (λ (s : List ℕ). Some (string s)) is); line = p.0; limits = fade_limits })
fade_said cue t n g (inr none) is e =
    let p = fade_found cue (get_member (key_name keys.Line) t) g e in
    rw p.1 (record { name = inr (none.0, refl); line = p.0; limits = fade_limits })

line_said : (cue : Table) (t : Members) (n : List ℕ) (g : Target) → (get_member (key_name keys.Target) t ≡ Some (string n)) ⊎ ((get_member (key_name keys.Target) t ≡ None) × (n ≡ codes "fade")) → n ≡ codes "line" → line_at cue t ≡ Ok g → SaysTarget t g
unfolding line_at
line_said cue t n g (inl there) is e =
    let p = bind_ok (integers_at keys.Line cue t) (line_of cue) g e in
    let (a, b, both, target, fits) = line_found cue p.0 g p.2 in
    rw target (record { name = inl (there ∙ ap (λ (s : List ℕ). Some (string s)) is); line = integers_ok keys.Line cue t p.0 p.1 ∙ ap (λ (zs : List ℤ). Some (numbers zs)) both; limits = line_limits a b fits })
line_said cue t n g (inr none) is e = let first : 102 ≡ 108 = ap (λ (s : List ℕ). get_or s 0 0) (sym none.1 ∙ is) in absurd (omega (arith, first))

named_said : (cue : Table) (t : Members) (n : List ℕ) (g : Target) → (get_member (key_name keys.Target) t ≡ Some (string n)) ⊎ ((get_member (key_name keys.Target) t ≡ None) × (n ≡ codes "fade")) → target_named cue n t ≡ Ok g → SaysTarget t g
named_said cue t n g stated e = by (bytes_eq n (codes "fade")) (bytes_eq n (codes "line")) refl refl e
  where
    by : (p q : Bool) → bytes_eq n (codes "fade") ≡ p → bytes_eq n (codes "line") ≡ q → cond p (fade_at cue t) (cond q (line_at cue t) (Err (OutOfLimit keys.Target cue))) ≡ Ok g → SaysTarget t g
    by true q is or e = fade_said cue t n g stated ((bytes_eq-Decides n (codes "fade")).0 is) e
    by false true isnt is e = line_said cue t n g stated ((bytes_eq-Decides n (codes "line")).0 is) e
    by false false isnt nor e = absurd cc

pub target_ok : (cue : Table) (t : Members) (g : Target) → target_at cue t ≡ Ok g → SaysTarget t g
unfolding target_at target_name_at
target_ok cue t g e =
    let p = bind_ok (target_name_of cue (get_member (key_name keys.Target) t)) (λ n. target_named cue n t) g e in
    named_said cue t p.0 g (name_found cue (get_member (key_name keys.Target) t) p.0 p.1) p.2

-- ---- what is said is read
end_is : (z : ℤ) → unsigned_abs z ≤ 4096 → is_end z ≡ true
end_is z h = le-leb (unsigned_abs z) 4096 h

line_read : (cue : Table) (t : Members) (a b : ℤ) → get_member (key_name keys.Line) t ≡ Some (numbers (a ∷ b ∷ [])) → IsLine a b → line_at cue t ≡ Ok (Line a b)
unfolding line_at
line_read cue t a b stated fits =
    rw (integers_again keys.Line cue t (a ∷ b ∷ []) stated (fits_one a (omega (arith, fits.a_fits)), (fits_one b (omega (arith, fits.b_fits)), tt)), end_is a fits.a_fits, end_is b fits.b_fits)

name_read : (cue : Table) (o : Option Data) (g : Target) → (o ≡ Some (string (target_name g))) ⊎ ((o ≡ None) × (g ≡ Fade)) → target_name_of cue o ≡ Ok (target_name g)
name_read cue o g (inl h) = rw h
name_read cue o g (inr h) = rw (h.0, h.1)

pub target_again : (cue : Table) (t : Members) (g : Target) → SaysTarget t g → target_at cue t ≡ Ok g
unfolding target_at target_name_at fade_at
target_again cue t Fade says = rw (name_read cue (get_member (key_name keys.Target) t) Fade says.name, says.line)
target_again cue t (Line a b) says = rw (name_read cue (get_member (key_name keys.Target) t) (Line a b) says.name, line_read cue t a b says.line (says.limits a b refl))
