-- What a `Cut` keeps, read off its fields.
use Rattle.std.proofs.Common.{◌≡◌, ℕ, ◌+◌, ◌-◌, ◌<◌, ◌≤◌, Bool, List, [], Ok, Err, Option, inr, length, map, get_or, slice_range, refl, sym, ap, subst, ◌∙◌, arith}
use Rattle.std.proofs.lemmas.List.{length-map}
use Rattle.std.proofs.lemmas.List.FromFn.{length-map-range_with_len}
use Rattle.dsd_bits.specs.Contents.{Content}
use Rattle.splice_core.specs.Cues.{IsSplicing}
use Rattle.splice_core.specs.Splices.{SpliceContent, splice_content}
use Rattle.cost_core.specs.Bridges.{Bridging}
use Rattle.cost_core.specs.Channels.{FadesJoin}
use Rattle.cost_core.specs.Faults.{CanBridge}
use Rattle.cost_core.specs.Windows.{bridging_at, splice_cue}
use Rattle.cost_core.proofs.Windows.{splicing}
use Rattle.form_core.specs.declared.form.Form.{Form}
use Rattle.form_core.specs.Steps.{FailsUnless}
use Rattle.cut_core.specs.declared.fault.CutFault.{CutFault}
use Rattle.cut_core.specs.declared.fault.CutFault.TheVariants.{Memory}
use Rattle.cut_core.specs.declared.cut.Cut.TheInside.{Inside}
use Rattle.cut_core.specs.declared.excerpts.Excerpts.{Excerpts}
use Rattle.cut_core.specs.Cuts.{cue_bits, cut_with, each_below, no_bridging, take_channels, window}
use Rattle.cut_core.specs.Excerpts.{AreExcerpts, HasStretch, ExcerptsContent, excerpts_content, cut_of_excerpts, shape_of, start_in, stop_in, stretch_at}
use Rattle.cut_core.specs.Keeping.{CanCut}
use Rattle.cut_core.specs.Opening.{cut_from, fitting}
use Rattle.cut_core.specs.View.{KeepsCut, cut_content}
use Rattle.cut_core.proofs.ExcerptLaws.{below_at, can_bridge, can_cut, cue_excerpted, excerpted_is, has_stretch, long_first, number}

-- there are as many excerpts as takes
pub excerpted_long : (splice : SpliceContent) (takes : List Content) (hs : List Excerpts) → AreExcerpts splice takes hs → length hs ≡ length takes
excerpted_long splice takes hs are =
    sym (length-map hs excerpts_content) ∙ ap length are.excerpts ∙ length-map-range_with_len {X = ExcerptsContent} _ 0 (length takes)

module _ (x : Inside) (keeps : KeepsCut x) where
  abbrev splice : SpliceContent
  splice = splice_content x.splice

  abbrev hs : List ExcerptsContent
  hs = map excerpts_content x.takes.items

  fine : IsSplicing splice.weights (length splice.takes) splice.cues
  fine = splicing x.splice

  pub as_many : length x.takes.items ≡ length splice.takes
  as_many = excerpted_long splice keeps.takes x.takes.items keeps.excerpts ∙ keeps.fit.as_many

  view : cut_content x ≡ cut_with splice keeps.takes
  view = ap (cut_of_excerpts splice) keeps.excerpts.excerpts ∙ excerpted_is splice keeps.takes fine keeps.fit keeps.room

  number_is : take_channels (cut_content x) ≡ number splice keeps.takes fine keeps.fit
  number_is = ap take_channels view ∙ long_first splice keeps.takes fine keeps.fit keeps.excerpts.shaped

  pub can : FadesJoin → CanCut (cut_content x)
  can law = subst CanCut (sym view) (can_cut splice keeps.takes fine keeps.fit keeps.excerpts.shaped law)

  module _ (c : ℕ) (there : c < take_channels (cut_content x)) where
    pub stretch_there : (i : ℕ) → i < length splice.cues → HasStretch splice hs c i
    stretch_there i lt = subst (λ (l : List ExcerptsContent). HasStretch splice l c i) (sym keeps.excerpts.excerpts) (has_stretch splice keeps.takes fine keeps.fit c i (omega (arith, number_is, there)) lt)

    pub cue_there : (i : ℕ) → i < length splice.cues → (start_in splice i ≤ stop_in splice i) × (stop_in splice i ≤ length (stretch_at splice hs c i))
    cue_there i lt = subst (λ (l : List ExcerptsContent). (start_in splice i ≤ stop_in splice i) × (stop_in splice i ≤ length (stretch_at splice l c i))) (sym keeps.excerpts.excerpts) (cue_excerpted splice keeps.takes fine keeps.fit keeps.excerpts.shaped c i (omega (arith, number_is, there)) lt)

    pub bits_there : (i : ℕ) → i < length splice.cues → cue_bits (cut_content x) c i ≡ slice_range (stretch_at splice hs c i) (start_in splice i) (stop_in splice i)
    bits_there i lt =
        let number = take_channels (cut_content x) in
        let at : ℕ → ℕ → List Bool = λ i c. slice_range (stretch_at splice hs c i) (start_in splice i) (stop_in splice i) in
        ap (λ (l : List (List Bool)). get_or l c []) (below_at (length splice.cues) (λ i. each_below number (at i)) i [] lt) ∙ below_at number (at i) c [] there

    pub window_there : (i : ℕ) → i + 1 < length splice.cues → window (cut_content x) c i ≡ bridging_at splice i (stretch_at splice hs c i) (stop_in splice i) (stretch_at splice hs c (i + 1)) (start_in splice (i + 1))
    window_there i lt =
        let number = take_channels (cut_content x) in
        let at : ℕ → ℕ → Bridging = λ i c. bridging_at splice i (stretch_at splice hs c i) (stop_in splice i) (stretch_at splice hs c (i + 1)) (start_in splice (i + 1)) in
        ap (λ (l : List Bridging). get_or l c no_bridging) (below_at (length splice.cues - 1) (λ i. each_below number (at i)) i [] (omega arith)) ∙ below_at number (at i) c no_bridging there

    pub bridge_there : (i : ℕ) → i + 1 < length splice.cues → 1 ≤ (splice_cue splice i).bridge → CanBridge splice i (stretch_at splice hs c i) (stop_in splice i) (stretch_at splice hs c (i + 1)) (start_in splice (i + 1))
    bridge_there i lt some =
        subst (λ (l : List ExcerptsContent). CanBridge splice i (stretch_at splice l c i) (stop_in splice i) (stretch_at splice l c (i + 1)) (start_in splice (i + 1))) (sym keeps.excerpts.excerpts)
        (can_bridge splice keeps.takes fine keeps.fit keeps.excerpts.shaped keeps.room c i (omega (arith, number_is, there)) lt some)

-- the same room of the same bits
pub room_again : (splice : SpliceContent) (i : ℕ) (a x : List Bool) (stop p : ℕ) (b y : List Bool) (start q : ℕ) → a ≡ x → stop ≡ p → b ≡ y → start ≡ q → CanBridge splice i a stop b start → CanBridge splice i x p y q
room_again splice i a x stop p b y start q ea es eb et room =
    subst (λ (z : List Bool). CanBridge splice i z p y q) ea (subst (λ (n : ℕ). CanBridge splice i a n y q) es (subst (λ (z : List Bool). CanBridge splice i a stop z q) eb (subst (λ (n : ℕ). CanBridge splice i a stop b n) et room)))

-- ---- the reading of takes whose excerpts were kept
pub cut_fits : (form : Option Form) (splice : SpliceContent) (takes : List Content) → fitting form splice (map shape_of takes) ≡ Ok tt → cut_from form splice takes ≡ Ok (cut_with splice takes)
unfolding cut_from
cut_fits form splice takes e = rw e refl

pub cut_fails : (form : Option Form) (splice : SpliceContent) (takes : List Content) (fault : CutFault) → Err fault ≡ fitting form splice (map shape_of takes) → FailsUnless Memory fault (cut_from form splice takes)
unfolding cut_from
cut_fails form splice takes fault e = inr (rw (← e) refl)
