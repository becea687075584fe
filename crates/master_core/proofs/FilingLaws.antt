-- The file of the best master, part by part.
use Rattle.std.proofs.Common.{◌≡◌, ℕ, ◌*◌, ◌/◌, ◌≤◌, ◌<◌, ◌^◌, Bool, List, [], ◌++◌, Option, Some, length, get_or, replicate, refl, sym, ap, ap₂, subst, ◌∙◌, arith}
use Rattle.std.specs.Io.KnownBytes.{Appends}
use Rattle.std.proofs.KnownBytes.{Appends-trans}
use Rattle.std.specs.Int.{div_ceil}
use Rattle.std.proofs.Math.Nat.{mul-le-mul_right}
use Rattle.std.proofs.lemmas.List.{get_or-replicate, length-append, length-replicate}
use Rattle.std.proofs.lemmas.List.Elements.{All-nil}
use Rattle.std.proofs.lemmas.List.FromFn.{length-map-range_with_len}
use Rattle.chunk_core.specs.Outlets.{AppendsPart}
use Rattle.dsd_bits.specs.declared.interleaving.Interleaving.{Interleaving}
use Rattle.dsd_bits.specs.declared.interleaving.Interleaving.TheVariants.{Bytes, Blocks}
use Rattle.dsd_bits.specs.Blocks.{block_byte}
use Rattle.dsd_bits.specs.Channels.{count_of}
use Rattle.dsd_bits.specs.Lacing.{laced_byte}
use Rattle.dsd_bits.specs.Contents.{Described}
use Rattle.dsd_bits.specs.Shape.{AreDescribed, IsDescription}
use Rattle.dsd_bits.specs.Sounds.{sound_size}
use Rattle.interleave_core.specs.Reinterleaving.{laced_in}
use Rattle.dsdiff_core.specs.ReadAgain.{FitsFields}
use Rattle.form_core.specs.declared.form.Form.{Form}
use Rattle.form_core.specs.declared.parts.Ends.{Ends}
use Rattle.form_core.specs.Forms.{text_in}
use Rattle.form_core.specs.Laws.{WrittenIsRead}
use Rattle.form_core.specs.Parts.{FitsIn, FormsWrittenInParts, head_in, interleaving_in, tail_in}
use Rattle.form_core.specs.Writing.{HoldsSound}
use Rattle.cut_core.specs.Cuts.{CutContent, master_length, take_channels}
use Rattle.cut_core.specs.Keeping.{CanCut}
use Rattle.cut_core.proofs.CutLaws.{first_shape}
use Rattle.cut_core.proofs.ZipLaws.{zip_numbers_long}
use Rattle.master_core.specs.Filing.{AreMasterEnds, WritesMaster, WritesMasterPrefix, silent_master}
use Rattle.master_core.specs.Best.{IsBestChannel, marks_in, master_of}
use Rattle.master_core.specs.Writing.{HasOneBest, WritesBest, WritesBestPrefix}
use Rattle.master_core.proofs.MasterLaws.{marks_short, master_shape}
use Rattle.master_core.proofs.WritingLaws.{prefix_more, prefix_on}

-- a master without its channels
abbrev pub silent_description : CutContent → Form → Described
silent_description cut form = record { rate = cut.first.rate; count = 0; ids = cut.first.ids; layout = cut.first.layout; marks = marks_in form cut; others = []; tag = [] }

-- it keeps the rules of descriptions
pub description_shape : (cut : CutContent) → CanCut cut → (form : Form) → IsDescription (silent_description cut form)
description_shape cut can form =
    let first = first_shape cut can in
    record {
      rate_low = first.rate_low;
      rate_high = first.rate_high;
      some_channel = omega (arith, first.some_channel, first.id_for_each);
      six_channels = omega (arith, first.six_channels, first.id_for_each);
      in_limit = omega arith;
      layout_fits = first.layout_fits ∙ sym first.id_for_each;
      short_texts = marks_short form cut can;
      in_order = refl;
      no_parts = All-nil _;
    }

-- and says how many empty channels there are
pub are_silent : (cut : CutContent) → CanCut cut → (form : Form) → AreDescribed (silent_description cut form) (replicate (take_channels cut) [])
are_silent cut can form =
    let first = first_shape cut can in
    let many : length (replicate {A = List Bool} (take_channels cut) []) ≡ take_channels cut = length-replicate (take_channels cut) [] in
    record {
      number = many ∙ sym first.id_for_each;
      level = record { same = λ k d lt. empty k d (omega (arith, many)) ∙ sym (empty 0 [] (omega (arith, first.some_channel))) };
      count = empty 0 [] (omega (arith, first.some_channel));
    }
  where
    empty : (k : ℕ) (d : List Bool) → k < take_channels cut → length (get_or (replicate (take_channels cut) []) k d) ≡ 0
    empty k d lt = ap length (get_or-replicate (take_channels cut) k [] d lt)

-- how many sound bytes there are
sound_long : (to : Interleaving) (zs : List (List Bool)) → length (laced_in to zs) ≡ sound_size to (length zs) (count_of zs)
sound_long Bytes zs = length-map-range_with_len (laced_byte zs) 0 _
sound_long (Blocks order) zs = length-map-range_with_len (block_byte order zs) 0 _

sound_small : (to : Interleaving) (number count : ℕ) → number ≤ 6 → count ≤ 2 ^ 36 → sound_size to number count ≤ 2 ^ 40
sound_small Bytes number count few short = let below : count / 8 * number ≤ 8589934592 * number = mul-le-mul_right number (omega arith) in omega (arith, below, few)
sound_small (Blocks order) number count few short = let below : div_ceil count 32768 * number ≤ 2097152 * number = mul-le-mul_right number (omega arith) in omega (arith, below, few)

module _ (cut : CutContent) (form : Form) (law : FormsWrittenInParts) (ends : Ends) (are : AreMasterEnds cut form ends) (one : HasOneBest cut) (some : 1 ≤ take_channels cut) where
  abbrev sound : List ℕ
  sound = laced_in (interleaving_in form) one.channels

  -- the file
  abbrev pub file : List ℕ
  file = ends.head.items ++ (sound ++ ends.tail.items)

  many : length one.channels ≡ take_channels cut
  many = zip_numbers_long (IsBestChannel cut) (take_channels cut) one.channels one.best

  count : count_of one.channels ≡ master_length cut.splice.cues
  count = one.long 0 [] (omega (arith, many, some))

  pub file_is : text_in form (master_of cut form one.channels) ≡ Some file
  file_is =
      let r = silent_master cut form in
      law form r one.channels (length-replicate (take_channels cut) [] ∙ sym many) (subst (FitsIn form) (sym count) are.fits)
      ∙ ap (λ n. Some (head_in form r n ++ (sound ++ tail_in form r n))) count
      ∙ ap₂ (λ (h t : List ℕ). Some (h ++ (sound ++ t))) (sym are.head) (sym are.tail)

  -- it is read again
  module _ (can : CanCut cut) (law_again : WrittenIsRead) where
    file_short : length file < 2 ^ 63
    file_short =
        let few = (first_shape cut can).six_channels in
        let long : length sound ≡ sound_size (interleaving_in form) (length one.channels) (count_of one.channels) = sound_long (interleaving_in form) one.channels in
        let small = sound_small (interleaving_in form) (length one.channels) (count_of one.channels) (omega (arith, many, few)) (omega (arith, count, can.in_limit)) in
        omega (arith, length-append ends.head.items (sound ++ ends.tail.items), length-append sound ends.tail.items, long, small, are.head_short, are.tail_short)

    fields : FitsFields (master_of cut form one.channels)
    fields = record { ids = are.fields.ids; marks = are.fields.marks; others = are.fields.others }

    pub file_holds : HoldsSound form (master_of cut form one.channels) file
    file_holds = law_again form (master_of cut form one.channels) file (master_shape cut can form one.channels one.best one.long) fields file_is file_short

  module _ (a0 a1 : Option (List ℕ)) where
    pub head_prefix : AppendsPart a0 a1 ends.head.items → WritesMasterPrefix cut form a0 a1
    head_prefix p = record { channels = one.channels; best = one.best; text = file; text_is = file_is; written = prefix_more a0 a1 ends.head.items (sound ++ ends.tail.items) p }

    module _ (head_out : Appends a0 a1 ends.head.items) (a2 : Option (List ℕ)) where
      pub sound_prefix : WritesBestPrefix cut (interleaving_in form) a1 a2 → WritesMasterPrefix cut form a0 a2
      sound_prefix p =
          let here : AppendsPart a1 a2 sound = subst (λ zs. AppendsPart a1 a2 (laced_in (interleaving_in form) zs)) (one.only p.channels p.best) p.written in
          record { channels = one.channels; best = one.best; text = file; text_is = file_is; written = prefix_on a0 a1 a2 ends.head.items (sound ++ ends.tail.items) head_out (prefix_more a1 a2 sound ends.tail.items here) }

      module _ (written : WritesBest cut (interleaving_in form) a1 a2) (a3 : Option (List ℕ)) where
        sound_out : Appends a1 a2 sound
        sound_out = subst (λ zs. Appends a1 a2 (laced_in (interleaving_in form) zs)) (one.only written.channels written.best) written.written

        pub tail_prefix : AppendsPart a2 a3 ends.tail.items → WritesMasterPrefix cut form a0 a3
        tail_prefix p = record { channels = one.channels; best = one.best; text = file; text_is = file_is; written = prefix_on a0 a1 a3 ends.head.items (sound ++ ends.tail.items) head_out (prefix_on a1 a2 a3 sound ends.tail.items sound_out p) }

        pub file_whole : Appends a2 a3 ends.tail.items → WritesMaster cut form a0 a3
        file_whole tail_out = record { channels = one.channels; best = one.best; text = file; text_is = file_is; written = Appends-trans a0 a1 a3 ends.head.items (sound ++ ends.tail.items) head_out (Appends-trans a1 a2 a3 sound ends.tail.items sound_out tail_out) }
