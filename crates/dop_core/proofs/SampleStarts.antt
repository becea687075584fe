-- What of the bits of samples was written when their reading ends early.
use Rattle.std.proofs.Common.{◌≡◌, ℕ, ◌+◌, ◌-◌, ◌*◌, ◌%◌, ◌<◌, ◌≤◌, List, [], ◌++◌, drop, length, min, take, Option, None, Some, IfSome, OnErr, Result, Ok, Err, sym, ap, subst, ◌∙◌, length-append, take-append-drop, arith}
use Rattle.std.specs.Io.KnownBytes.{Appends, Consumes}
use Rattle.std.proofs.KnownBytes.{Appends-nil}
use Rattle.std.proofs.Math.Nat.{add-mul}
use Rattle.std.proofs.Math.Seq.{take-append_seam}
use Rattle.std.proofs.lemmas.List.{take-append-le}
use Rattle.std.proofs.lemmas.Nat.{mul-le}
use Rattle.chunk_core.specs.Inlets.{PullsBytes, inlet_reader}
use Rattle.chunk_core.specs.Outlets.{AppendsPrefix, Puts, PutsPrefix, outlet_writer}
use Rattle.chunk_core.specs.declared.inlet.Inlet.{Inlet}
use Rattle.chunk_core.specs.declared.outlet.Outlet.{Outlet}
use Rattle.dsd_bits.specs.declared.interleaving.Interleaving.{Interleaving}
use Rattle.form_core.specs.Parts.{interleaving_in}
use Rattle.form_core.specs.declared.form.Form.{Form}
use Rattle.interleave_core.specs.Reinterleaving.{laced_in}
use Rattle.dop_core.specs.declared.outline.DopOutline.{DopOutline}
use Rattle.dop_core.specs.Converting.{StartsSamples, bits_in}
use Rattle.dop_core.specs.Outlines.{IsOutline}
use Rattle.dop_core.specs.Reading.{dop_channels}
use Rattle.dop_core.specs.Sounds.{sound_long}
use Rattle.dop_core.proofs.BitLaws.{laced_none, so_far, so_far_all, so_far_on}
use Rattle.dop_core.proofs.PlayLaws.{prefix_more, prefix_on, whole_prefix}

pub any_refused : {X E : Type 0} {P : Type 0} (r : Result X E) → P → OnErr r P
any_refused (Ok x) p = tt
any_refused (Err e) p = p

-- no bits are no bytes
pub nothing_laced : (to : Interleaving) (n count : ℕ) (held : Option (List ℕ)) → 1 ≤ n → Appends held held (laced_in to (dop_channels n [] (min count (16 * 0))))
nothing_laced to n count held some =
    let none : min count (16 * 0) ≡ 0 = omega arith in
    subst (Appends held held) (sym (ap (λ k. laced_in to (dop_channels n [] k)) none ∙ laced_none to n [] some)) (Appends-nil held)

-- the first bytes of two lists that are one
front_of : (xs ys sound back : List ℕ) → sound ++ back ≡ xs ++ ys → length xs ≤ length sound → sound ≡ xs ++ drop (length xs) sound
front_of xs ys sound back same few =
    let one : take (length xs) sound ≡ xs = sym (take-append-le (length xs) sound back few) ∙ ap (take (length xs)) same ∙ take-append_seam xs ys in
    sym (take-append-drop (length xs) sound) ∙ ap (λ zs. zs ++ drop (length xs) sound) one

module _ {R W : Type 0} (left : R → Option (List ℕ)) (held : W → Option (List ℕ)) (o : DopOutline) (is : IsOutline o) (form : Form) (i : Inlet R) where
  abbrev to : Interleaving
  to = interleaving_in form

  abbrev n : ℕ
  n = o.head.channels

  -- a prefix of the bits of the first frames is one of all bits
  starts_by : (j : Inlet R) (a b : Outlet W) (sound : List ℕ) (done : ℕ) → PullsBytes left i j sound → length sound ≡ 3 * (done * n) → done ≤ o.head.frames → (done < o.head.frames → 16 * done % 32768 ≡ 0)
      → PutsPrefix held a b (so_far to n o.head.frames o.count is.some is.most is.least sound done) → StartsSamples left i o form held a b
  starts_by j a b sound done pulled long within groups put = by (left (inlet_reader i)) (left (inlet_reader j)) pulled
    where
      fits : 3 * (done * n) ≤ sound_long o.head
      fits = let rows = mul-le done n o.head.frames n within (omega arith) in omega (arith, rows)

      whole : (all back later : List ℕ) → all ++ back ≡ sound ++ later → length all ≡ sound_long o.head → AppendsPrefix (held (outlet_writer a)) (held (outlet_writer b)) (bits_in form o all)
      whole all back later same size =
          let parts : all ≡ sound ++ drop (length sound) all = front_of sound later all back same (omega (arith, long, size, fits)) in
          let bits = so_far_all to n o.head.frames o.count is.some is.most is.least sound (drop (length sound) all) done within groups long (ap length (sym parts) ∙ size) in
          subst (AppendsPrefix (held (outlet_writer a)) (held (outlet_writer b))) (sym (ap (λ (xs : List ℕ). laced_in to (dop_channels n xs o.count)) parts ∙ bits.1)) (prefix_more (held (outlet_writer a)) (held (outlet_writer b)) _ bits.0 put)

      by : (x y : Option (List ℕ)) → Consumes x y sound → IfSome x (λ rest. (all back : List ℕ) → rest ≡ all ++ back → length all ≡ sound_long o.head → PutsPrefix held a b (bits_in form o all))
      by None y c = tt
      by (Some x) None c = absurd c
      by (Some x) (Some y) c = λ all back parts size. whole all back y (sym parts ∙ c) size

  -- all that was due was written
  pub so_far_starts : (j : Inlet R) (a b : Outlet W) (sound : List ℕ) (done : ℕ) → PullsBytes left i j sound → length sound ≡ 3 * (done * n) → done ≤ o.head.frames → (done < o.head.frames → 16 * done % 32768 ≡ 0)
      → Puts held a b (laced_in to (dop_channels n sound (min o.count (16 * done)))) → StartsSamples left i o form held a b
  so_far_starts j a b sound done pulled long within groups put = starts_by j a b sound done pulled long within groups (whole_prefix (held (outlet_writer a)) (held (outlet_writer b)) _ put)

  -- of the next piece a prefix was written
  pub piece_starts : (j k : Inlet R) (a b c : Outlet W) (sound piece : List ℕ) (done more : ℕ) → PullsBytes left i k (sound ++ piece) → length sound ≡ 3 * (done * n) → length piece ≡ 3 * (more * n) → done < o.head.frames → done + more ≤ o.head.frames → 16 * done % 32768 ≡ 0
      → (done + more < o.head.frames → 16 * (done + more) % 32768 ≡ 0) → Puts held a b (laced_in to (dop_channels n sound (min o.count (16 * done)))) → PutsPrefix held b c (laced_in to (dop_channels n piece (min (o.count - 16 * done) (16 * more)))) → StartsSamples left i o form held a c
  piece_starts j k a b c sound piece done more pulled long size less within groups next put part =
      let both : length (sound ++ piece) ≡ 3 * ((done + more) * n) = omega (arith, length-append sound piece, long, size, add-mul done more n) in
      starts_by k a c (sound ++ piece) (done + more) pulled both within next
      (subst (AppendsPrefix (held (outlet_writer a)) (held (outlet_writer c))) (sym (so_far_on to n o.head.frames o.count is.some is.most is.least sound piece done more less within groups long)) (prefix_on (held (outlet_writer a)) (held (outlet_writer b)) (held (outlet_writer c)) _ _ put part))
