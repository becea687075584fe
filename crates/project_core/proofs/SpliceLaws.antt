-- A splice that was read is what its table says.
use Rattle.std.proofs.Common.{◌≡◌, ℕ, ◌≤◌, ℤ, Bool, true, false, ◌&&◌, cond, eqb, List, [], ◌∷◌, length, map, Some, Ok, Err, refl, sym, ap, subst, ◌∙◌, arith, sum_by, unsigned_abs}
use Rattle.std.specs.Prelude.{nat_le, All}
use Rattle.std.specs.List.{AllZip}
use Rattle.std.proofs.lemmas.Bool.{eqb-true, eq-eqb, leb-true, le-leb, and_parts}
use Rattle.std.proofs.lemmas.List.{length-map}
use Rattle.std.proofs.lemmas.List.Elements.{All-from_recursion}
use Rattle.std.proofs.lemmas.Slice.Zip.{AllZip-long}
use Rattle.toml.specs.Data.{Data, array, table, Members}
use Rattle.toml.specs.View.{items_of}
use Rattle.project_core.specs.declared.key.Key.TheVariants as keys
use Rattle.project_core.specs.declared.key.Table.TheVariants as tables
use Rattle.project_core.specs.declared.fault.ProjectFault.TheVariants.{OutOfLimit}
use Rattle.project_core.specs.Steps.{◌>>=◌, each}
use Rattle.project_core.specs.Reading.{integers_at, items_at}
use Rattle.project_core.specs.Tables.{Has, numbers}
use Rattle.splice_core.specs.Cues.{CueContent, AreWeights, last_bridge, IsCueWithin, IsSplicing}
use Rattle.project_core.specs.ReadingCue.{cue_of}
use Rattle.project_core.specs.ReadingSplice.{are_weights, weights_at, cues_of, cues_at, splice_of}
use Rattle.splice_core.specs.Splices.{SpliceContent}
use Rattle.project_core.specs.Keys.{splice_keys}
use Rattle.project_core.specs.Meaning.{IsCue, IsSplice}
use Rattle.project_core.proofs.TableLaws.{SaysTable, bind_ok, passed, table_ok, tables_of, each_ok, zip_right, items_ok, integers_ok}
use Rattle.project_core.proofs.TableAgain.{table_again, items_again, integers_again, zip_again, fits_by_sum}
use Rattle.project_core.proofs.TakeLaws.{takes_ok, takes_again}
use Rattle.project_core.proofs.CueLaws.{cue_ok, cue_again}

weights_parts : (ws : List ℤ) → are_weights ws ≡ true → AreWeights ws
weights_parts ws h =
    let p = and_parts (nat_le 2 (length ws) && nat_le (length ws) 12) (nat_le (sum_by unsigned_abs ws) 4096) h in
    let q = and_parts (nat_le 2 (length ws)) (nat_le (length ws) 12) p.0 in
    record { two_weights = leb-true 2 (length ws) q.0; few_weights = leb-true (length ws) 12 q.1; small_sum = leb-true (sum_by unsigned_abs ws) 4096 p.1 }

pub weights_ok : (t : Members) (ws : List ℤ) → weights_at t ≡ Ok ws → Has t keys.Weights (numbers ws) × AreWeights ws
unfolding weights_at
weights_ok t ws e =
    let a = bind_ok (integers_at keys.Weights tables.Splice t) (λ ws. cond (are_weights ws) (Ok ws) (Err (OutOfLimit keys.Weights tables.Splice))) ws e in
    let b = passed (are_weights a.0) (OutOfLimit keys.Weights tables.Splice) a.0 ws a.2 in
    subst (λ (xs : List ℤ). Has t keys.Weights (numbers xs) × AreWeights xs) b.1 (integers_ok keys.Weights tables.Splice t a.0 a.1, weights_parts a.0 b.0)

pub cues_ok : (weights takes : ℕ) (t : Members) (ps : List CueContent) → cues_at weights takes t ≡ Ok ps
    → ((ts : List Members) × Has t keys.Cue (array (items_of (map table ts))) × AllZip (IsCue weights takes) ts ps) × ((1 ≤ length ps) × (length ps ≤ 256)) × All (IsCueWithin weights takes) ps
unfolding cues_at cues_of
cues_ok weights takes t ps e =
    let a = bind_ok (items_at keys.Cue tables.Splice 256 t) (λ ds. each (cue_of weights takes) 0 ds) ps e in
    let items = items_ok keys.Cue tables.Splice 256 t a.0 a.1 in
    let zip = each_ok (cue_of weights takes) (SaysTable (IsCue weights takes)) (λ i d p h. cue_ok weights takes i d p h) 0 a.0 ps a.2 in
    let stated = tables_of (IsCue weights takes) a.0 ps zip in
    let long : length ps ≡ length a.0 = AllZip-long (SaysTable (IsCue weights takes)) a.0 ps zip in
    let some = items.1.0 in
    let few = items.1.1 in
    let each_fits = zip_right (SaysTable (IsCue weights takes)) (IsCueWithin weights takes) (λ d p h. h.2.limits) a.0 ps zip in
    ((stated.0, items.0 ∙ ap (λ (ds : List Data). Some (array (items_of ds))) stated.1, stated.2), (omega arith, omega arith), All-from_recursion (IsCueWithin weights takes) ps each_fits)

pub splice_ok : (d : Data) (s : SpliceContent) → splice_of d ≡ Ok s → (t : Members) × (d ≡ table t) × IsSplice t s
unfolding splice_of
splice_ok d s e =
    let a = bind_ok _ _ s e in
    let t = a.0 in
    let b = bind_ok _ _ s a.2 in
    let c = bind_ok _ _ s b.2 in
    let f = bind_ok _ _ s c.2 in
    let made : SpliceContent = record { weights = b.0; takes = c.0; cues = f.0 } in
    let g = passed (eqb (last_bridge f.0) 0) _ made s f.2 in
    let known = table_ok keys.Splice tables.Splice splice_keys d t a.1 in
    let weights = weights_ok t b.0 b.1 in
    let takes = takes_ok tables.Splice t c.0 c.1 in
    let cues = cues_ok (length b.0) (length c.0) t f.0 f.1 in
    let limits : IsSplicing b.0 (length c.0) f.0 = record { weights_fit = weights.1; some_takes = takes.1.0; few_takes = takes.1.1; some_cues = cues.1.0; few_cues = cues.1.1; each_fits = cues.2; no_last_bridge = eqb-true (last_bridge f.0) 0 g.0 } in
    let says : IsSplice t made = record { no_others = known.1; weights = weights.0; takes = takes.0; cues = cues.0; limits = limits } in
    (t, known.0, subst (λ (x : SpliceContent). IsSplice t x) g.1 says)

weights_kept : (ws : List ℤ) → AreWeights ws → are_weights ws ≡ true
weights_kept ws h = rw (le-leb 2 (length ws) h.two_weights, le-leb (length ws) 12 h.few_weights, le-leb (sum_by unsigned_abs ws) 4096 h.small_sum)

pub weights_taken : (t : Members) (ws : List ℤ) → integers_at keys.Weights tables.Splice t ≡ Ok ws → AreWeights ws → weights_at t ≡ Ok ws
unfolding weights_at
weights_taken t ws is fit = rw (is, weights_kept ws fit) refl

untrue : (b : Bool) → (b ≡ true → ⊥) → b ≡ false
untrue true h = absurd (h refl)
untrue false h = refl

pub weights_refused : (t : Members) (ws : List ℤ) → integers_at keys.Weights tables.Splice t ≡ Ok ws → (AreWeights ws → ⊥) → weights_at t ≡ Err (OutOfLimit keys.Weights tables.Splice)
unfolding weights_at
weights_refused t ws is unfit = rw (is, untrue (are_weights ws) (λ fit. unfit (weights_parts ws fit))) refl

pub weights_again : (t : Members) (ws : List ℤ) → Has t keys.Weights (numbers ws) → AreWeights ws → weights_at t ≡ Ok ws
unfolding weights_at
weights_again t ws h fit =
    rw (integers_again keys.Weights tables.Splice t ws h (fits_by_sum ws (omega (arith, fit.small_sum))), weights_kept ws fit)

pub cues_again : (weights takes : ℕ) (t : Members) (ts : List Members) (ps : List CueContent) → Has t keys.Cue (array (items_of (map table ts))) → AllZip (IsCue weights takes) ts ps → (1 ≤ length ps) × (length ps ≤ 256) → cues_at weights takes t ≡ Ok ps
unfolding cues_at cues_of
cues_again weights takes t ts ps h zip fit =
    let long : length (map table ts) ≡ length ps = length-map ts table ∙ sym (AllZip-long (IsCue weights takes) ts ps zip) in
    let some = fit.0 in
    let few = fit.1 in
    rw (items_again keys.Cue tables.Splice 256 t (map table ts) h (omega arith, omega arith))
    (zip_again (cue_of weights takes) table (IsCue weights takes) (λ i s p says. cue_again weights takes i s p says) 0 ts ps zip)

pub splice_again : (t : Members) (s : SpliceContent) → IsSplice t s → splice_of (table t) ≡ Ok s
unfolding splice_of
splice_again t s h =
    rw (
      table_again keys.Splice tables.Splice splice_keys t h.no_others,
      weights_again t s.weights h.weights h.limits.weights_fit,
      takes_again tables.Splice t s.takes h.takes (h.limits.some_takes, h.limits.few_takes),
      cues_again (length s.weights) (length s.takes) t h.cues.0 s.cues h.cues.1 h.cues.2 (h.limits.some_cues, h.limits.few_cues),
      eq-eqb (last_bridge s.cues) 0 h.limits.no_last_bridge,
    )
