-- What files and a splice come to is what reading them in order comes to.
use Rattle.std.proofs.Common.{◌≡◌, ℕ, zero, suc, ◌+◌, ◌-◌, ◌%◌, ◌<◌, ◌≤◌, ◌^◌, inl, inr, Bool, true, false, cond, eqb, leb, List, [], ◌∷◌, ◌++◌, Option, None, Some, Result, Ok, Err, length, map, get_or, take, add-one, refl, sym, ap, subst, ◌∙◌, arith}
use Rattle.std.specs.Prelude.{IfOk}
use Rattle.std.specs.List.{AllZip}
use Rattle.std.proofs.lemmas.Bool.{and_parts, cases_eq, cases_lt, eq-eqb, eqb-true, le-leb, le-ltb, leb-true, ltb-false, ne_eqb}
use Rattle.std.proofs.lemmas.List.{get_or-map, get_or_default, get_or_past, length-map, take_all, take_more}
use Rattle.chunk_core.proofs.Steps.{bind_then}
use Rattle.chunk_core.specs.Steps.{◌>>=◌}
use Rattle.dsd_bits.specs.Contents.{Content}
use Rattle.splice_core.specs.Splices.{SpliceContent}
use Rattle.cost_core.specs.Faults as costs
use Rattle.cost_core.specs.declared.fault.RoomFault.{RoomFault}
use Rattle.cost_core.specs.declared.fault.RoomFault.TheVariants as rooms
use Rattle.form_core.specs.Forms.{HoldsSome}
use Rattle.form_core.specs.Opening.{opened_of}
use Rattle.form_core.specs.Steps.{GivesUnless, map_err}
use Rattle.form_core.specs.declared.fault.ReadFault.{ReadFault}
use Rattle.form_core.specs.declared.form.Form.{Form}
use Rattle.form_core.specs.declared.form.Form.TheVariants as forms
use Rattle.form_core.specs.declared.opening.Opened.{Opened}
use Rattle.form_core.proofs.OpeningLaws.{held_is_opened, opened_is_held}
use Rattle.cut_core.specs.declared.fault.CutFault.{CutFault}
use Rattle.cut_core.specs.declared.fault.CutFault.TheVariants.{MasterTooLong, Memory, NotWholeBytes, TakeNumber}
use Rattle.cost_core.specs.Windows.{splice_cue}
use Rattle.cut_core.specs.Cuts.{CutContent, FitTakes, IsAlike, IsInside, count_at, cut_with, master_length, take_at}
use Rattle.cut_core.specs.Excerpts.{TakeShape, shape_at, shape_of, shape_of_cue}
use Rattle.cut_core.specs.Laws.{OpensInOrder}
use Rattle.cut_core.specs.Opening.{AreRead, IsWhole, OpensCut, alike_at, cut_from, cut_of, each_before, fault_of_take, fitting, inside_at, required, take_from, takes_before, takes_of, whole_in}
use Rattle.cut_core.specs.Rooms.{HasRoomAt, HaveRoom, room_at, wanted}
use Rattle.cut_core.proofs.Steps.{each_at, each_from, met}
use Rattle.cut_core.proofs.ZipLaws.{zip_at, zip_long, zip_more}

-- ---- whole bytes
whole_met : (form : Option Form) (splice : SpliceContent) → IsWhole form splice → whole_in form splice ≡ true
whole_met None splice h = refl
whole_met (Some forms.Dsdiff) splice h = eq-eqb (master_length splice.cues % 8) 0 (h refl)
whole_met (Some forms.Dsf) splice h = refl
whole_met (Some forms.Dsf8) splice h = refl

whole_is : (form : Option Form) (splice : SpliceContent) → whole_in form splice ≡ true → IsWhole form splice
whole_is None splice e = λ h. absurd cc
whole_is (Some forms.Dsdiff) splice e = λ h. eqb-true (master_length splice.cues % 8) 0 e
whole_is (Some forms.Dsf) splice e = λ h. absurd cc
whole_is (Some forms.Dsf8) splice e = λ h. absurd cc

-- a cut that fits but for its last byte
pub not_whole : (form : Option Form) (splice : SpliceContent) (shapes : List TakeShape)
    → Ok tt ≡ each_before (length shapes) (alike_at shapes) → Ok tt ≡ each_before (length splice.cues) (inside_at splice shapes)
    → master_length splice.cues ≤ 2 ^ 36 → whole_in form splice ≡ false → Err NotWholeBytes ≡ fitting form splice shapes
unfolding fitting
not_whole form splice shapes alike inside in_limit whole = rw (sym alike, sym inside, le-leb _ _ in_limit, whole) refl

-- ---- room
wants_none : (i : ℕ) (o : Option RoomFault) → wanted i o ≡ Ok tt → o ≡ None
wants_none i None e = refl
wants_none i (Some rooms.NoRoomBefore) e = absurd cc
wants_none i (Some rooms.NoRoomAfter) e = absurd cc

neither : (p q : Bool) (x y : RoomFault) → cond p (Some x) (cond q (Some y) None) ≡ None → (p ≡ false) × (q ≡ false)
neither true q x y e = absurd cc
neither false true x y e = absurd cc
neither false false x y e = (refl, refl)

-- ---- the shapes of takes
pub shape_of_take : (takes : List Content) (i : ℕ) → shape_at (map shape_of takes) i ≡ shape_of (take_at takes i)
shape_of_take takes i = elim (cases_lt i (length takes)) [
  | inl there ↦ get_or-map shape_of takes i _ _ there
  | inr past ↦ (
      let nothing : get_or takes i _ ≡ take_at [] 0 = get_or_past takes i _ past in
      let none : get_or (map shape_of takes) i _ ≡ shape_of (take_at [] 0) = get_or_past (map shape_of takes) i _ (omega (arith, length-map takes shape_of, past)) in
      none ∙ ap shape_of (sym nothing)
      )
]

module _ (splice : SpliceContent) (takes : List Content) (i : ℕ) where
  count_is : (shape_of_cue splice (map shape_of takes) i).count ≡ count_at splice takes i
  count_is = ap (λ (s : TakeShape). s.count) (shape_of_take takes (splice_cue splice i).take)

  room_met : HasRoomAt splice takes i → room_at splice (map shape_of takes) i ≡ Ok tt
  room_met h = elim (cases_eq (splice_cue splice i).bridge 0) [
    | inl none ↦ rw none refl
    | inr some ↦ (let room = h (omega (arith, some)) in rw (ne_eqb (splice_cue splice i).bridge 0 some, count_is, le-ltb _ _ room.before, le-ltb _ _ room.after) refl)
  ]

  room_is : room_at splice (map shape_of takes) i ≡ Ok tt → HasRoomAt splice takes i
  room_is e = λ some.
      let bridged : room_at splice (map shape_of takes) i ≡ wanted i (costs.missing_room splice i (count_at splice takes i)) = rw (ne_eqb (splice_cue splice i).bridge 0 (λ none. omega (arith, none, some)), count_is) refl in
      let room = neither _ _ _ _ (wants_none i _ (sym bridged ∙ e)) in
      record { before = ltb-false _ _ room.0; after = ltb-false _ _ room.1 }

-- ---- a splice and takes
module _ (form : Option Form) (splice : SpliceContent) (takes : List Content) where
  abbrev pub shapes : List TakeShape
  shapes = map shape_of takes

  long_shapes : length shapes ≡ length takes
  long_shapes = length-map takes shape_of

  pub fits_met : FitTakes splice takes → IsWhole form splice → HaveRoom splice takes → fitting form splice shapes ≡ Ok tt
  unfolding fitting
  fits_met fit whole room =
      let alike = each_from (alike_at shapes) (length shapes) (λ i lt.
      let a : IsAlike takes (take_at takes i) = fit.alike i _ (omega (arith, long_shapes, lt)) in
      rw (shape_of_take takes i, shape_of_take takes 0, eq-eqb _ _ a.same_rate, eq-eqb _ _ a.as_many_channels) refl) in
      let inside = each_from (inside_at splice shapes) (length splice.cues) (λ i lt. let a : IsInside takes (splice_cue splice i) = fit.inside i _ lt in rw (count_is splice takes i, le-leb _ _ a) refl) in
      let rooms = each_from (room_at splice shapes) (length splice.cues - 1) (λ i lt. room_met splice takes i (room i (omega arith))) in
      rw (alike, inside, le-leb _ _ fit.in_limit, whole_met form splice whole) rooms

  pub fits_is : length takes ≡ length splice.takes → fitting form splice shapes ≡ Ok tt → FitTakes splice takes × IsWhole form splice × HaveRoom splice takes
  unfolding fitting
  fits_is as_many e =
      bind_then (each_before (length shapes) (alike_at shapes)) _ tt e (λ a alike e. bind_then (each_before (length splice.cues) (inside_at splice shapes)) _ tt e (λ b inside e. bind_then (required (leb (master_length splice.cues) (2 ^ 36)) MasterTooLong) _ tt e (λ c in_limit e. bind_then (required (whole_in form splice) NotWholeBytes) _ tt e (λ d whole room. (
        record {
          as_many = as_many;
          alike = λ i d lt.
              let parts = and_parts _ _ (met _ _ tt (each_at (alike_at shapes) (length shapes) alike i (omega (arith, long_shapes, lt)))) in
              let here = shape_of_take takes i in
              let first = shape_of_take takes 0 in
              let rate : (take_at takes i).rate ≡ (take_at takes 0).rate = sym (ap (λ (s : TakeShape). s.rate) here) ∙ eqb-true _ _ parts.0 ∙ ap (λ (s : TakeShape). s.rate) first in
              let number : length (take_at takes i).channels ≡ length (take_at takes 0).channels = sym (ap (λ (s : TakeShape). s.channels) here) ∙ eqb-true _ _ parts.1 ∙ ap (λ (s : TakeShape). s.channels) first in
              subst (IsAlike takes) (get_or_default takes i _ d lt) (record { same_rate = rate; as_many_channels = number });
          inside = λ i d lt.
              let within : (splice_cue splice i).stop ≤ (shape_of_cue splice shapes i).count = leb-true _ _ (met _ _ tt (each_at (inside_at splice shapes) (length splice.cues) inside i lt)) in
              let inside : IsInside takes (splice_cue splice i) = omega (arith, count_is splice takes i, within) in
              subst (IsInside takes) (get_or_default splice.cues i _ d lt) inside;
          in_limit = leb-true _ _ (met _ _ c in_limit);
        },
        whole_is form splice (met _ _ d whole),
        λ i lt. room_is splice takes i (each_at (room_at splice shapes) (length splice.cues - 1) room i (omega arith)),
      )))))

-- ---- files
module _ (files : List (List ℕ)) where
  take_is : (i : ℕ) (r : Content) → take_from files i ≡ Ok r → HoldsSome (get_or files i []) r
  take_is i r e = by_reading (opened_of (get_or files i [])) refl e
    where
      by_reading : (reading : Result Opened ReadFault) → opened_of (get_or files i []) ≡ reading → (map_err (fault_of_take i) reading >>= λ opened. Ok opened.recording) ≡ Ok r → HoldsSome (get_or files i []) r
      by_reading (Ok x) is e = let same : x.recording ≡ r = cc in rw (← same) (record { form = x.form; holds = opened_is_held (get_or files i []) x is })
      by_reading (Err f) is e = absurd cc

  pub takes_are : (n : ℕ) (takes : List Content) → n ≤ length files → takes_before files n ≡ Ok takes → AllZip HoldsSome (take n files) takes
  takes_are zero takes le e = let none : [] ≡ takes = cc in rw (← none) tt
  takes_are (suc n) takes le e =
      bind_then (takes_before files n) _ takes e (λ before b e. bind_then (take_from files n) _ takes e (λ r here e.
      let same : before ++ r ∷ [] ≡ takes = cc in
      rw (← add-one n, take_more files n [] (omega arith), ← same) (zip_more HoldsSome (take n files) before (get_or files n []) r (takes_are n before (omega arith) b) (take_is n r here))))

  pub takes_met : (takes : List Content) → AllZip HoldsSome files takes → (n : ℕ) → n ≤ length files → takes_before files n ≡ Ok (take n takes)
  takes_met takes held zero le = refl
  takes_met takes held (suc n) le =
      let lt : n < length takes = omega (arith, zip_long HoldsSome files takes held) in
      let holds : HoldsSome (get_or files n []) (take_at takes n) = zip_at HoldsSome files takes n [] _ held (omega arith) in
      let last : take (n + 1) takes ≡ take n takes ++ take_at takes n ∷ [] = take_more takes n _ lt in
      rw (takes_met takes held n (omega arith), held_is_opened (get_or files n []) holds.form (take_at takes n) holds.holds, ← add-one n, last) refl

-- ---- the cut
module _ (splice : SpliceContent) (files : List (List ℕ)) where
  pub files_are : (takes : List Content) → takes_of splice files ≡ Ok takes → AreRead splice files takes
  unfolding takes_of
  files_are takes e =
      bind_then (required (eqb (length files) (length splice.takes)) TakeNumber) _ takes e (λ a as_many e.
      record { as_many = eqb-true _ _ (met _ _ a as_many); held = subst (λ (l : List (List ℕ)). AllZip HoldsSome l takes) (take_all (length files) files (omega arith)) (takes_are files (length files) takes (omega arith) e) })

  pub files_met : (takes : List Content) → AreRead splice files takes → takes_of splice files ≡ Ok takes
  unfolding takes_of
  files_met takes read = rw (eq-eqb _ _ read.as_many) (takes_met files takes read.held (length files) (omega arith) ∙ ap (λ (l : List Content). Ok l) (take_all (length files) takes (omega (arith, zip_long HoldsSome files takes read.held))))

  -- takes that are read and fit are opened
  pub opened : (form : Option Form) (takes : List Content) → takes_of splice files ≡ Ok takes → fitting form splice (map shape_of takes) ≡ Ok tt → OpensCut splice files form (cut_with splice takes)
  opened form takes e fits =
      let read = files_are takes e in
      let parts = fits_is form splice takes (omega (arith, read.as_many, zip_long HoldsSome files takes read.held)) fits in
      record { takes = takes; read = read; cut_is = refl; fit = parts.0; whole = parts.1; room = parts.2 }

  opens_met : (form : Option Form) (cut : CutContent) → OpensCut splice files form cut → cut_of splice files form ≡ Ok cut
  unfolding cut_of cut_from
  opens_met form cut opens = rw (files_met opens.takes opens.read, fits_met form splice opens.takes opens.fit opens.whole opens.room, opens.cut_is) refl

  opens_are : (form : Option Form) (cut : CutContent) → cut_of splice files form ≡ Ok cut → OpensCut splice files form cut
  unfolding cut_of cut_from
  opens_are form cut e =
      bind_then (takes_of splice files) _ cut e (λ takes read e. bind_then (fitting form splice (map shape_of takes)) _ cut e (λ u fits e.
      let same : cut_with splice takes ≡ cut = cc in
      subst (OpensCut splice files form) same (opened form takes read fits)))

  -- of takes that were read
  pub read_on : (form : Option Form) (takes : List Content) → takes_of splice files ≡ Ok takes → cut_of splice files form ≡ cut_from form splice takes
  unfolding cut_of
  read_on form takes e = rw e refl

  pub gives_opens : (form : Option Form) (answer : Result CutContent CutFault) → GivesUnless Memory (λ cut. cut) answer (cut_of splice files form) → IfOk answer (OpensCut splice files form)
  gives_opens form (Ok cut) e = opens_are form cut e
  gives_opens form (Err fault) e = tt

pub opens_in_order : OpensInOrder
opens_in_order = λ splice files form cut. (opens_met splice files form cut, opens_are splice files form cut)
