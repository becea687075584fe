-- A master has one certificate. It is accepted with it if its bridges are least.
use Rattle.std.proofs.Common.{◌≡◌, ℕ, ◌-◌, ◌<◌, Bool, List, [], ◌∷◌, None, get_or, length, take, refl, sym, ap, subst, ◌∙◌, arith}
use Rattle.std.specs.List.{All, AllZip}
use Rattle.std.proofs.lemmas.List.{take_all}
use Rattle.std.proofs.lemmas.List.Elements.{All-map, All-weaker}
use Rattle.dsd_bits.specs.Channels.{count_of}
use Rattle.dsd_bits.specs.Contents.{Content}
use Rattle.cost_core.specs.Channels.{HaveLengths, Part, channel}
use Rattle.cost_core.specs.Bridges.{IsLeastBridge}
use Rattle.form_core.specs.declared.form.Form.{Form}
use Rattle.form_core.specs.declared.opening.Opened.{Opened}
use Rattle.form_core.specs.Forms.{HoldsAs}
use Rattle.cut_core.specs.Bridges.{IsPlace, bridges}
use Rattle.cut_core.specs.Cuts.{CutContent, cue_bits, master_length, take_channels, window}
use Rattle.cut_core.specs.Keeping.{CanCut}
use Rattle.cut_core.proofs.ZipLaws.{zip_at, zip_number, zip_numbers_long, zip_range}
use Rattle.master_core.specs.Certificates.{cert_of}
use Rattle.cut_core.specs.Masters.{HoldCues, IsMasterOf, rebuilt, AreLeastChannels, AreMasterChannels, IsLeastChannel, IsLeastPart, IsMasterChannel, channel_numbers, part_at, parts_of, total_cost}
use Rattle.cut_core.specs.Claims.{IsCertOf, claim_at, claims}
use Rattle.master_core.proofs.CertLaws.{IsShowable, text_is_cert}
use Rattle.cut_core.proofs.ChannelLaws.{before_long, bridge_in_channel, is_rebuilt, part_is, part_number, whole_length}
use Rattle.request_core.specs.Cutting.{SaysCut}
use Rattle.archive_core.specs.Laws.{LeastIsAccepted, OneCertificate}
use Rattle.judge_core.proofs.AcceptedLaws.{cut_can, places_from, plain_cut, window_within}
use Rattle.judge_core.proofs.CheckLaws.{one_held}
use Rattle.request_core.proofs.CuttingLaws.{one_cut, says_cut}

-- ---- a project and files come to one cut, and a file holds one recording
same_cut : (project : List ℕ) (files : List (List ℕ)) (s t : CutContent) → SaysCut project files None s → SaysCut project files None t → s ≡ t
same_cut project files s t a b = one_cut project files None t b s (says_cut project files None s a)

same_recording : (file : List ℕ) (form other : Form) (r s : Content) → HoldsAs file form r → HoldsAs file other s → r ≡ s
same_recording file form other r s a b = ap (λ (o : Opened). o.recording) (one_held file form other r s a b)

pub one_certificate : OneCertificate
one_certificate = λ project files master one other a b.
    let cut = same_cut project files a.cut b.cut a.says b.says in
    let held = same_recording master a.form b.form a.recording b.recording a.file_holds b.file_holds in
    a.text ∙ (λ j. cert_of (cut j) (held j).channels) ∙ sym b.text

-- ---- a master of a cut
least_lengths : (ps : List Part) (xs : List (List Bool)) → AllZip IsLeastPart ps xs → HaveLengths ps xs
unfolding HaveLengths
least_lengths [] [] h = tt
least_lengths [] (x ∷ xs) h = absurd h
least_lengths (p ∷ ps) [] h = absurd h
least_lengths (p ∷ ps) (x ∷ xs) h = (h.0.long, least_lengths ps xs h.1)

lengths_many : (ps : List Part) (xs : List (List Bool)) → HaveLengths ps xs → length xs ≡ length ps
unfolding HaveLengths
lengths_many [] [] h = refl
lengths_many [] (x ∷ xs) h = absurd h
lengths_many (p ∷ ps) [] h = absurd h
lengths_many (p ∷ ps) (x ∷ xs) h = omega (arith, lengths_many ps xs h.1)

module _ (project : List ℕ) (files : List (List ℕ)) (cut : CutContent) (says : SaysCut project files None cut) (zs : List (List Bool)) where
  can : CanCut (plain_cut cut)
  can = cut_can project files cut says

  channel_long : (c : ℕ) → c < take_channels cut → (z : List Bool) → IsMasterChannel cut c z → length z ≡ master_length cut.splice.cues
  channel_long c there z made =
      let n = length cut.splice.cues - 1 in
      let some = can.splicing.some_cues in
      let ps = parts_of cut c in
      let all : take n ps ≡ ps = take_all n ps (omega (arith, part_number (plain_cut cut) can c there)) in
      let many : length made.bridges ≡ length ps = lengths_many ps made.bridges made.lengths in
      let bits : take n made.bridges ≡ made.bridges = take_all n made.bridges (omega (arith, many, part_number (plain_cut cut) can c there)) in
      let long = before_long (plain_cut cut) can c there made.bridges made.lengths n (omega (arith, some)) in
      ap length made.made ∙ ap length (sym (λ j. channel (cue_bits cut c 0) (all j) (bits j))) ∙ long ∙ whole_length (plain_cut cut) can n (omega (arith, some))

  count_is : AreMasterChannels cut zs → count_of zs ≡ master_length cut.splice.cues
  count_is made =
      let some : 0 < take_channels cut = omega (arith, can.shaped.some_channel) in
      channel_long 0 some (get_or zs 0 []) (zip_number (IsMasterChannel cut) (take_channels cut) zs 0 [] made some)

  cued : AreMasterChannels cut zs → HoldCues cut (channel_numbers cut) zs
  cued made = zip_range (IsMasterChannel cut) (λ c z. z ≡ rebuilt cut c z) (take_channels cut) 0 zs (λ c z low high m. is_rebuilt (plain_cut cut) can c (omega arith) z m.bridges m.lengths m.made) made

  -- its bridges can be shown to be least
  showable : AreLeastChannels cut zs → All IsShowable (claims cut zs)
  showable least = All-map IsShowable (claim_at cut zs) (bridges cut) (All-weaker (IsPlace cut) (λ p. IsShowable (claim_at cut zs p)) (λ p place.
      let c = p.channel in
      let i = p.cue in
      let there = place.channel_there in
      let lt = place.cue_there in
      let below : i < length cut.splice.cues - 1 = omega (arith, lt) in
      let ps = parts_of cut c in
      let d = part_at cut c i in
      let z = zip_number (IsLeastChannel cut) (take_channels cut) zs c [] least there in
      let at = zip_at IsLeastPart ps z.bridges i d [] z.least (omega (arith, part_number (plain_cut cut) can c there, below)) in
      let own = subst (λ (q : Part). IsLeastPart q (get_or z.bridges i [])) (part_is (plain_cut cut) can c there i d below) at in
      let bits = bridge_in_channel (plain_cut cut) can c there (get_or zs c []) z.bridges (least_lengths ps z.bridges z.least) z.made i below in
      (window_within project files cut says c i there lt, subst (IsLeastBridge (window cut c i)) (sym bits) own)) (bridges cut) (places_from cut (length cut.splice.cues - 1) 0 (omega arith)))

  shown : AreLeastChannels cut zs → IsCertOf cut zs (cert_of cut zs)
  shown least = text_is_cert (length cut.splice.weights) (claims cut zs) (showable least)

-- ---- a least master
pub least_is_accepted : LeastIsAccepted
least_is_accepted = λ project files master cert own least text.
    let cut = own.cut in
    let zs = own.recording.channels in
    let made = own.made in
    let least_cut = same_cut project files least.cut cut least.says own.says in
    let least_held = same_recording master least.form own.form least.recording own.recording least.file_holds own.file_holds in
    let text_cut = same_cut project files text.cut cut text.says own.says in
    let text_held = same_recording master text.form own.form text.recording own.recording text.file_holds own.file_holds in
    let are_least : AreLeastChannels cut zs = subst (λ (k : CutContent). AreLeastChannels k zs) least_cut (subst (λ (r : Content). AreLeastChannels least.cut r.channels) least_held least.least) in
    let is_text : cert ≡ cert_of cut zs = text.text ∙ (λ j. cert_of (text_cut j) (text_held j).channels) in
    let is_master : IsMasterOf cut own.form own.recording = record {
      shape = record { same_rate = own.same_rate; as_many_channels = zip_numbers_long (IsMasterChannel cut) (take_channels cut) zs made };
      long = count_is project files cut own.says zs made;
      titled = own.titled;
      cued = cued project files cut own.says zs made;
    } in
    let shows : IsCertOf cut zs cert = subst (IsCertOf cut zs) (sym is_text) (shown project files cut own.says zs are_least) in
    (total_cost cut zs, record { cut = cut; says = own.says; form = own.form; recording = own.recording; master_holds = own.file_holds; is_master = is_master; shown = shows; cost_is = refl })
