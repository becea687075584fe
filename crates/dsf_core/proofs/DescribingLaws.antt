-- What a prefix states of a file besides its bits, and where such a file ends.
use Rattle.std.proofs.Common.{◌≡◌, ◌↔◌, replicate, ℕ, ◌-◌, ◌≤◌, inl, inr, Bool, true, List, ◌++◌, length, drop, Ok, Err, refl, sym, ap, subst, ◌∙◌, arith}
use Rattle.std.proofs.lemmas.List.{length-append, length-replicate}
use Rattle.chunk_core.specs.Steps.{◌>>=◌}
use Rattle.dsd_bits.specs.declared.interleaving.Interleaving.TheVariants.{Blocks}
use Rattle.dsd_bits.specs.declared.sound.Sound.{Sound}
use Rattle.dsd_bits.specs.declared.sound.SoundAt.TheVariants.{Found}
use Rattle.dsd_bits.specs.Blocks.{blocks_size}
use Rattle.dsd_bits.specs.Contents.{with_channels}
use Rattle.dsd_bits.specs.Sounds.{sound_bytes, sound_channels}
use Rattle.dsd_bits.proofs.SoundLemmas.{unblocked_all-take}
use Rattle.dsf_core.specs.declared.fault.DsfFault.{DsfFault}
use Rattle.dsf_core.specs.declared.header.Header.{Header}
use Rattle.dsf_core.specs.Fields.{needed, pointer, tag_from}
use Rattle.dsf_core.specs.Headers.{Describes, DescribesSound, EndsAtSound, IsAccepted, IsTagPlace, sound_at}
use Rattle.dsf_core.specs.Laws.{SoundDoesNotMatter}
use Rattle.dsf_core.specs.Reading.{described_by, ends_fit, file_header, stated_header, recording_of}
use Rattle.dsf_core.proofs.FileLaws.{Ends, Leads, done, ends_again, is_dsf, prefix_done, prefix_ok, prefix_read, stated}
use Rattle.dsf_core.proofs.HeaderLaws.{found_prefix, pointer_is, prefix_same}
use Rattle.dsf_core.proofs.ShapeLaws.{id_for_each}
use Rattle.dsf_core.proofs.Steps.{fails}

-- what a prefix states is so for every file that begins with it, and such a file is judged by its length
module _ (prefix : List ℕ) (f : Header) (reads : file_header prefix ≡ Ok f) where
  pub leads : Leads prefix f.sound
  leads = (prefix_ok prefix f reads).0

  f_is : f ≡ stated_header prefix (prefix_ok prefix f reads).0.order
  f_is = (prefix_ok prefix f reads).1

  tag_same : (rest : List ℕ) → f.tag_at ≡ pointer (prefix ++ rest)
  tag_same rest = ap (λ (g : Header). g.tag_at) f_is ∙ sym (pointer_is prefix rest (prefix_ok prefix f reads).0.holds)

  read_by : (rest : List ℕ) → recording_of (prefix ++ rest) ≡ (ends_fit f (length (prefix ++ rest)) >>= (λ u. done (stated (prefix ++ rest) f, f.order)))
  unfolding recording_of
  read_by rest = rw (prefix_same prefix rest (prefix_ok prefix f reads).0.holds, reads) refl

  pub ends_accepted : (rest : List ℕ) (u : Unit {0}) → ends_fit f (length (prefix ++ rest)) ≡ Ok u → IsAccepted (prefix ++ rest)
  ends_accepted rest u e = (stated (prefix ++ rest) f, f.order, is_dsf (prefix ++ rest) (stated (prefix ++ rest) f, f.order) (read_by rest ∙ rw e refl))

  pub accepted_ends : (rest : List ℕ) → IsAccepted (prefix ++ rest) → Ends f (length (prefix ++ rest))
  accepted_ends rest (r, order, file) =
      let again : prefix_done f ≡ prefix_done (stated_header (prefix ++ rest) order) = sym reads ∙ sym (prefix_same prefix rest (prefix_ok prefix f reads).0.holds) ∙ prefix_read (prefix ++ rest) r order file in
      let same : f ≡ stated_header (prefix ++ rest) order = cc in
      subst (λ (g : Header). Ends g (length (prefix ++ rest))) (sym same) (record { enough = file.in_file; tag = file.after })

  -- a file that goes on with zeros is accepted exactly where it ends well
  pub closes_is : (total : ℕ) → length prefix ≤ total → (test : Bool) → (test ≡ true) ↔ (ends_fit f total ≡ Ok tt) → (test ≡ true) ↔ IsAccepted (prefix ++ replicate (total - length prefix) 0)
  closes_is total whole test is =
      let zeros : List ℕ = replicate (total - length prefix) 0 in
      let long : length (prefix ++ zeros) ≡ total = omega (arith, length-append prefix zeros, length-replicate {A = ℕ} (total - length prefix) 0) in
      (λ e. ends_accepted zeros tt (ap (ends_fit f) long ∙ is.0 e), λ accepted. is.1 (ap (ends_fit f) (sym long) ∙ ends_again f (length (prefix ++ zeros)) (accepted_ends zeros accepted)))

  -- the description of a file of n bytes with this tag
  pub described : (tag : List ℕ) (total : ℕ) (u : Unit {0}) → ends_fit f total ≡ Ok u → Describes prefix total tag (Ok (described_by f tag))
  described tag total u ends = λ rest t order size tag_is found order_is.
      let file : List ℕ = prefix ++ rest in
      let g = found_prefix prefix t found in
      let own : f ≡ g.1 = (let same : prefix_done f ≡ prefix_done g.1 = sym reads ∙ g.2 in cc) in
      let t_is : f.sound ≡ t = ap (λ (h : Header). h.sound) own ∙ g.3 in
      let blocks : Blocks f.order ≡ f.sound.interleaving = subst (λ (h : Header). Blocks h.order ≡ h.sound.interleaving) (sym f_is) refl in
      let o_is : f.order ≡ order = (let same : Blocks f.order ≡ Blocks order = blocks ∙ ap (λ (x : Sound). x.interleaving) t_is ∙ order_is in cc) in
      let need : f.sound.size ≡ blocks_size f.sound.channels f.sound.count = subst (λ (h : Header). h.sound.size ≡ blocks_size h.sound.channels h.sound.count) (sym f_is) refl in
      let whole = unblocked_all-take f.order (drop f.sound.start file) f.sound.channels f.sound.count f.sound.size (omega (arith, need)) in
      let ended : ends_fit f (length file) ≡ Ok u = ap (ends_fit f) size ∙ ends in
      let tags : tag_from f.tag_at file ≡ tag = ap (λ (p : ℕ). tag_from p file) (tag_same rest) ∙ sym tag_is in
      let read : recording_of file ≡ done (stated file f, f.order) = read_by rest ∙ rw ended refl in
      read
      ∙ (λ j. done (with_channels (described_by f (tags j)) (sym whole j), f.order))
      ∙ (λ j. done (with_channels (described_by f tag) (sound_channels (blocks j) f.sound.channels f.sound.count (sound_bytes file f.sound)), f.order))
      ∙ (λ j. done (with_channels (described_by f tag) (sound_channels (t_is j).interleaving (t_is j).channels (t_is j).count (sound_bytes file (t_is j))), o_is j))

  pub describes_sound : (tag : List ℕ) (t : Sound) → sound_at prefix ≡ Found t → DescribesSound t (described_by f tag)
  describes_sound tag t found =
      let g = found_prefix prefix t found in
      let own : f ≡ g.1 = (let same : prefix_done f ≡ prefix_done g.1 = sym reads ∙ g.2 in cc) in
      subst (λ (x : Sound). DescribesSound x (described_by f tag)) (ap (λ (h : Header). h.sound) own ∙ g.3) (record { rate = refl; number = id_for_each f.sound.channels; count = refl })

  -- or the first fault of such files
  pub refused : (tag : List ℕ) (total : ℕ) (e : DsfFault) → ends_fit f total ≡ Err e → Describes prefix total tag (Err e)
  refused tag total e ends = λ rest size.
      let ended : ends_fit f (length (prefix ++ rest)) ≡ Err e = ap (ends_fit f) size ∙ ends in
      fails e (recording_of (prefix ++ rest)) (read_by rest ∙ rw ended refl)

-- a prefix that ends at its sound states it
pub at_sound : (prefix : List ℕ) → EndsAtSound prefix → (f : Header) × (file_header prefix ≡ Ok f) × (f.sound.start ≡ length prefix)
at_sound prefix (s, found, at) =
    let f = found_prefix prefix s found in
    (f.1, f.2, ap (λ (t : Sound). t.start) f.3 ∙ at)

pub no_fault : (prefix : List ℕ) (e : DsfFault) (P : Type 0) → EndsAtSound prefix → Err e ≡ file_header prefix → P
no_fault prefix e P ends fault = let none : Err e ≡ prefix_done (at_sound prefix ends).0 = fault ∙ (at_sound prefix ends).1 in absurd cc

-- ---- the laws

pub other_bytes : SoundDoesNotMatter
other_bytes prefix rest other ends same accepted =
    let a = at_sound prefix ends in
    let long : length (prefix ++ rest) ≡ length (prefix ++ other) = omega (arith, same, length-append prefix rest, length-append prefix other) in
    ends_accepted prefix a.0 a.1 other tt (ends_again a.0 (length (prefix ++ other)) (subst (Ends a.0) long (accepted_ends prefix a.0 a.1 rest accepted)))

-- the tag
pub tag_place_is : (prefix : List ℕ) (place : ℕ) → EndsAtSound prefix → place ≡ pointer prefix → IsTagPlace prefix place
tag_place_is prefix place ends e =
    let a = at_sound prefix ends in
    let l = leads prefix a.0 a.1 in
    let size : a.0.sound.size ≡ needed prefix = ap (λ (t : Sound). t.size) l.stated in
    record {
      tag = λ rest. rw (pointer_is prefix rest l.holds, ← e) refl;
      after = λ rest accepted.
          let at : a.0.tag_at ≡ place = tag_same prefix a.0 a.1 rest ∙ pointer_is prefix rest l.holds ∙ sym e in
          elim (accepted_ends prefix a.0 a.1 rest accepted).tag [
            | inl none ↦ inl (sym at ∙ none)
            | inr there ↦ inr (omega (arith, there.0, at, size, a.2), omega (arith, there.1, at))
          ];
    }
