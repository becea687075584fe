-- What was read of takes has their shapes, and the bits that clips need.
use Rattle.std.proofs.Common.{◌≡◌, ℕ, ◌+◌, ◌-◌, ◌<◌, ◌≤◌, Bool, inl, inr, List, [], length, map, get_or, slice_range, sym, ap, subst, ◌∙◌, arith, eq-eqb, ◌==◌, ◌^◌}
use Rattle.std.proofs.lemmas.Bool.{and_from, cases_lt, cond-true}
use Rattle.std.proofs.lemmas.List.{get_or-map, get_or_past, length-map, length-replicate}
use Rattle.std.proofs.lemmas.List.FromFn.{get_or-map-range_with_len, length-map-range_with_len}
use Rattle.std.proofs.lemmas.List.Elements.{All-get_or}
use Rattle.dsd_bits.specs.Channels.{count_of}
use Rattle.dsd_bits.specs.Contents.{Content}
use Rattle.dsd_bits.specs.Shape.{HasShape}
use Rattle.dsd_bits.specs.Stretches.{stretch_of}
use Rattle.clip_core.specs.Clips.{IsClipWithin, points_of}
use Rattle.clip_core.specs.Gains.{ArePoints}
use Rattle.clip_core.specs.Mixes.{AreTaps, IsMixing, MixContent}
use Rattle.cut_core.specs.Cuts.{each_below, take_at}
use Rattle.cut_core.specs.Excerpts.{ExcerptsContent, TakeShape, excerpts_at, excerpts_content, excerpts_shape}
use Rattle.cut_core.specs.declared.excerpts.Excerpts.{Excerpts}
use Rattle.null_core.specs.Fitting.{IsFaultOf, ShapesFit, read_shapes, shapes_of}
use Rattle.null_core.specs.Asking.{part_of}
use Rattle.null_core.specs.Holding.{AreExcerpts, clip_at, clip_range, excerpts_of, is_kept, range_of, ranges_of}
use Rattle.null_core.specs.Likeness.{IsExcerptOf}
use Rattle.null_core.specs.Parts.{IsPart, PartContent}
use Rattle.null_core.specs.Reading.{HasBits, IsFaultOfTakes, IsHolder, IsMixed, IsReadOf, MixedContent, TakesFit, bits_at, channels_of, mixed_of}
use Rattle.null_core.proofs.ExcerptLaws.{length-slice}
use Rattle.null_core.proofs.HoldingLaws.{Serves, holder_below, holder_kept, serving}
use Rattle.null_core.specs.declared.fault.MixedFault.{MixedFault}
use Rattle.null_core.specs.declared.fault.MixedFault.TheVariants.{TakeMismatch, ClipOutside, ClipGains, Memory}

-- the element of a number
below_at : {X : Type 0} (n : ℕ) (f : ℕ → X) (i : ℕ) (d : X) → i < n → get_or (each_below n f) i d ≡ f i
below_at n f i d lt = get_or-map-range_with_len f 0 n i i d lt (omega arith)

-- ---- what was read of takes
module _ (mixed : MixedContent) (takes : List Content) (of : IsReadOf mixed takes) where
  at : ℕ → ExcerptsContent
  at number = excerpts_of mixed.mix number (take_at takes number)

  pub read_long : length mixed.read ≡ length takes
  read_long = ap length of.read ∙ length-map-range_with_len {X = ExcerptsContent} _ 0 (length takes)

  pub read_is : (number : ℕ) → number < length takes → excerpts_at mixed.read number ≡ excerpts_of mixed.mix number (take_at takes number)
  read_is number lt = ap (λ (read : List ExcerptsContent). excerpts_at read number) of.read ∙ below_at (length takes) (λ number. excerpts_of mixed.mix number (take_at takes number)) number _ lt

  shape_is : (number : ℕ) → read_shapes mixed.read number ≡ shapes_of takes number
  shape_is number = elim (cases_lt number (length takes)) [
    | inl lt ↦
        let many = length-replicate {A = List Bool} (length (take_at takes number).channels) [] in
        ap excerpts_shape (read_is number lt) ∙ (λ j. record { rate = (take_at takes number).rate; channels = many j; count = count_of (take_at takes number).channels })
    | inr past ↦
        let none = get_or_past mixed.read number (record { recording = take_at [] 0; count = 0; stretches = [] }) (omega (arith, read_long, past)) in
        ap excerpts_shape none ∙ sym (ap (λ (r : Content). record { rate = r.rate; channels = length r.channels; count = count_of r.channels }) (get_or_past takes number (take_at [] 0) past))
  ]

  pub shapes_are : read_shapes mixed.read ≡ shapes_of takes
  shapes_are j number = shape_is number j

-- ---- what was read for a clip
-- clip i as a channel has it, with the bits that were read for clip `held`
abbrev pub held_part : MixedContent → ℕ → ℕ → ℕ → PartContent
held_part mixed channel i held = record (part_of mixed.mix [] channel (clip_at mixed.mix i)) {
  bits = bits_at mixed.read (clip_at mixed.mix i).take held channel;
  start = (clip_at mixed.mix i).start - (clip_range mixed.mix held).start;
}

module _ (mixed : MixedContent) (is : IsMixed mixed) (takes : List Content) (of : IsReadOf mixed takes) where
  pub as_many : length takes ≡ length mixed.mix.takes
  as_many = sym (read_long mixed takes of) ∙ read_long mixed is.takes is.read ∙ is.as_many

  pub fit : ShapesFit mixed.mix (shapes_of takes)
  fit = subst (ShapesFit mixed.mix) (sym (shapes_are mixed is.takes is.read) ∙ shapes_are mixed takes of) is.fit

  module _ (mixing : IsMixing mixed.mix) (channel i held : ℕ) (there : i < length mixed.mix.clips) (channel_there : channel < channels_of mixed) (holder : IsHolder mixed.mix i held) where
    abbrev t : ℕ
    t = (clip_at mixed.mix i).take

    abbrev zs : List (List Bool)
    zs = (take_at takes t).channels

    within : IsClipWithin (length mixed.mix.takes) (length mixed.mix.decoders) (clip_at mixed.mix i)
    within = All-get_or (IsClipWithin (length mixed.mix.takes) (length mixed.mix.decoders)) mixed.mix.clips i _ there mixing.each_fits

    take_there : t < length takes
    take_there = omega (arith, within.take_is_there, as_many)

    channels_are : length zs ≡ channels_of mixed
    channels_are = (fit.alike t (omega (arith, take_there, as_many))).as_many_channels ∙ sym (ap (λ (s : ℕ → TakeShape). (s 0).channels) (shapes_are mixed takes of))

    serves_it : Serves mixed.mix i held
    serves_it = serving mixed.mix i held holder.here

    held_there : held < length mixed.mix.clips
    held_there = omega (arith, holder_below mixed.mix i held holder, there)

    range_is : get_or (ranges_of mixed.mix t) held (record { start = 0; stop = 0 }) ≡ clip_range mixed.mix held
    range_is =
        below_at (length mixed.mix.clips) (range_of mixed.mix t) held _ held_there
        ∙ cond-true _ _ _ (and_from ((clip_at mixed.mix held).take == t) (is_kept mixed.mix held) (eq-eqb _ _ serves_it.same_take) (holder_kept mixed.mix i held holder))

    ranges_long : length (ranges_of mixed.mix t) ≡ length mixed.mix.clips
    ranges_long = length-map-range_with_len (range_of mixed.mix t) 0 (length mixed.mix.clips)

    stretches_are : get_or (excerpts_at mixed.read t).stretches held [] ≡ stretch_of zs (clip_range mixed.mix held)
    stretches_are =
        ap (λ (h : ExcerptsContent). get_or h.stretches held []) (read_is mixed takes of t take_there)
        ∙ get_or-map (stretch_of zs) (ranges_of mixed.mix t) held (record { start = 0; stop = 0 }) [] (omega (arith, ranges_long, held_there))
        ∙ ap (stretch_of zs) range_is

    abbrev cut : List Bool → List Bool
    cut z = slice_range z (clip_range mixed.mix held).start (clip_range mixed.mix held).stop

    pub has_bits : HasBits mixed.read t held channel
    has_bits = record {
      take_there = omega (arith, take_there, read_long mixed takes of);
      clip_there = omega (arith, ap (λ (h : ExcerptsContent). length h.stretches) (read_is mixed takes of t take_there), length-map (ranges_of mixed.mix t) (stretch_of zs), ranges_long, held_there);
      channel_there = omega (arith, ap length stretches_are, length-map zs cut, channels_are, channel_there);
    }

    pub bits_are : bits_at mixed.read t held channel ≡ slice_range (get_or zs channel []) (clip_range mixed.mix held).start (clip_range mixed.mix held).stop
    bits_are = ap (λ (l : List (List Bool)). get_or l channel []) stretches_are ∙ get_or-map cut zs channel [] [] (omega (arith, channels_are, channel_there))

    pub starts_before : (clip_range mixed.mix held).start ≤ (clip_at mixed.mix i).start
    starts_before = omega (arith, serves_it.before)

    pub is_excerpt : IsExcerptOf (part_of mixed.mix takes channel (clip_at mixed.mix i)) (held_part mixed channel i held)
    is_excerpt = record {
      from = (clip_range mixed.mix held).start;
      to = (clip_range mixed.mix held).stop;
      is = λ j. record (part_of mixed.mix takes channel (clip_at mixed.mix i)) { bits = bits_are j; start = (clip_at mixed.mix i).start - (clip_range mixed.mix held).start };
      low = serves_it.before;
      high = serves_it.after;
    }

    long : length (get_or zs channel []) ≡ count_of zs
    long =
        let shape = All-get_or HasShape takes t _ take_there of.shaped in
        All-get_or (λ z. length z ≡ count_of zs) zs channel [] (omega (arith, channels_are, channel_there)) shape.level.same

    bits_reach : (clip_at mixed.mix i).start - (clip_range mixed.mix held).start + (clip_at mixed.mix i).length ≤ length (bits_at mixed.read t held channel)
    bits_reach = omega (arith, ap length bits_are, length-slice (get_or zs channel []) (clip_range mixed.mix held).start (clip_range mixed.mix held).stop, long, (fit.each_fits i there).inside, starts_before, serves_it.after)

    pub held_fits : ArePoints (points_of (clip_at mixed.mix i).gains channel) → IsPart (held_part mixed channel i held)
    held_fits points = record {
      end_fits = within.end_fits;
      bits_reach = bits_reach;
      points_fit = points;
      taps_fit = All-get_or (AreTaps (2 ^ 28)) mixed.mix.decoders (clip_at mixed.mix i).decoder [] within.decoder_is_there mixing.decoders_fit;
    }

-- ---- excerpts of takes
pub is_read : (mix : MixContent) (whole : List Content) (hs : List Excerpts) → AreExcerpts mix whole hs → IsReadOf (mixed_of mix hs) whole
is_read mix whole hs are = record { shaped = are.shaped; read = are.excerpts }

module _ (mix : MixContent) (hs : List Excerpts) where
  pub takes_fit : ShapesFit mix (read_shapes (map excerpts_content hs)) → TakesFit mix hs
  takes_fit fit whole are = subst (ShapesFit mix) (shapes_are (mixed_of mix hs) whole (is_read mix whole hs are)) fit

  fault_too : (fault : MixedFault) → IsFaultOf mix (read_shapes (map excerpts_content hs)) fault → (whole : List Content) → AreExcerpts mix whole hs → IsFaultOf mix (shapes_of whole) fault
  fault_too fault is whole are = subst (λ (shapes : ℕ → TakeShape). IsFaultOf mix shapes fault) (shapes_are (mixed_of mix hs) whole (is_read mix whole hs are)) is

  pub fault_of_takes : (fault : MixedFault) → IsFaultOf mix (read_shapes (map excerpts_content hs)) fault → IsFaultOfTakes mix hs fault
  fault_of_takes Memory is = tt
  fault_of_takes (TakeMismatch number) is = fault_too (TakeMismatch number) is
  fault_of_takes (ClipOutside i) is = fault_too (ClipOutside i) is
  fault_of_takes (ClipGains i) is = fault_too (ClipGains i) is
