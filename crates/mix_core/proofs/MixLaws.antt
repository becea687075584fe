-- A mix is read exactly where its text says it.
use Rattle.std.proofs.Common.{◌≡◌, ℕ, ◌+◌, ◌≤◌, ◌<◌, ◌^◌, ℤ, List, length, map, Some, Result, Ok, Err, refl, sym, ap, subst, ◌∙◌, arith}
use Rattle.std.specs.Prelude.{IfOk}
use Rattle.std.specs.List.{AllZip}
use Rattle.std.proofs.lemmas.List.{length-map}
use Rattle.std.proofs.lemmas.List.Elements.{All-from_recursion}
use Rattle.std.proofs.lemmas.Slice.Zip.{AllZip-long}
use Rattle.toml.specs.Data.{Data, array, table, Members, get_member}
use Rattle.toml.specs.View.{items_of}
use Rattle.clip_core.specs.declared.mix.Mix.{Mix}
use Rattle.clip_core.specs.Clips.{ClipContent, IsClipWithin}
use Rattle.clip_core.specs.Contents.{mix_content}
use Rattle.clip_core.specs.Mixes.{AreApart, AreTaps, IsMixing, MixContent}
use Rattle.project_core.specs.declared.key.Key.{Key}
use Rattle.project_core.specs.declared.key.Key.TheVariants as keys
use Rattle.project_core.specs.declared.key.Table.TheVariants as tables
use Rattle.project_core.specs.declared.fault.ProjectFault.{ProjectFault}
use Rattle.project_core.specs.declared.fault.ProjectFault.TheVariants.{NotToml, OutOfLimit, UnknownKey}
use Rattle.project_core.specs.Keys.{key_name}
use Rattle.project_core.specs.Reading.{document, items_at, table_of, value_at}
use Rattle.project_core.specs.ReadingTakes.{takes_at}
use Rattle.project_core.specs.Steps.{◌>>=◌, Gives, each}
use Rattle.project_core.specs.Tables.{FindsOnly, Has, has_only, table_in}
use Rattle.project_core.proofs.KeyLaws.{finds_only, has_only_from}
use Rattle.project_core.proofs.TableLaws.{SaysTable, bind_ok, each_ok, items_ok, ok_or_ok, passed, table_ok, tables_of, tested, value_ok, zip_right}
use Rattle.project_core.proofs.TableAgain.{items_again, table_again, value_again, zip_again}
use Rattle.project_core.proofs.TakeLaws.{takes_again, takes_ok}
use Rattle.mix_core.specs.Keys.{text_keys, mix_keys, decoder_keys}
use Rattle.mix_core.specs.Meaning.{IsClip, IsDecoder, IsMix, IsMixDocument, IsMixTable}
use Rattle.mix_core.specs.Reading.{audible_at, number_at, number_or_least_at, taps_at}
use Rattle.mix_core.specs.ReadingMix.{are_apart, clip_of, clips_of, decoder_of, decoders_of, mix_at, mix_in, mix_of, parts_at}
use Rattle.mix_core.proofs.NumberLaws.{audible_again, audible_ok, number_again, number_ok, number_or_again, number_or_ok, same_value, taps_again, taps_ok}
use Rattle.mix_core.proofs.OverlapLaws.{apart, apart_again}
use Rattle.mix_core.proofs.ClipLaws.{clip_again, clip_ok}

decoder_ok : (i : ℕ) (d : Data) (taps : List ℤ) → decoder_of i d ≡ Ok taps → SaysTable IsDecoder d taps
unfolding decoder_of
decoder_ok i d taps e =
    let a = bind_ok (table_of keys.Decoder (tables.Decoder i) decoder_keys d) (taps_at keys.Taps (tables.Decoder i) (2 ^ 28)) taps e in
    let known = table_ok keys.Decoder (tables.Decoder i) decoder_keys d a.0 a.1 in
    let b = taps_ok keys.Taps (tables.Decoder i) (2 ^ 28) a.0 taps a.2 in
    (a.0, known.0, record { no_others = known.1; taps = b.0; limits = b.1 })

decoder_again : (i : ℕ) (t : Members) (taps : List ℤ) → IsDecoder t taps → decoder_of i (table t) ≡ Ok taps
unfolding decoder_of
decoder_again i t taps h = rw (table_again keys.Decoder (tables.Decoder i) decoder_keys t h.no_others) (taps_again keys.Taps (tables.Decoder i) (2 ^ 28) t taps h.taps h.limits (omega arith))

-- at a key there is a table for each of these
abbrev pub SaysTables : {B : Type 0} → Key → (Members → B → Type 0) → Members → List B → Type 0
SaysTables key R t ys = (ts : List Members) × Has t key (array (items_of (map table ts))) × AllZip R ts ys

-- what was read from the tables at a key
tables_ok : {B : Type 0} (key : Key) (most : ℕ) (R : Members → B → Type 0) (f : ℕ → Data → Result B ProjectFault) → ((i : ℕ) (d : Data) (y : B) → f i d ≡ Ok y → SaysTable R d y) → (t : Members) (ds : List Data) (ys : List B) → items_at key tables.Mix most t ≡ Ok ds → each f 0 ds ≡ Ok ys
    → SaysTables key R t ys × (1 ≤ length ys) × (length ys ≤ most)
tables_ok key most R f step t ds ys e are =
    let items = items_ok key tables.Mix most t ds e in
    let zip = each_ok f (SaysTable R) step 0 ds ys are in
    let stated = tables_of R ds ys zip in
    let long : length ys ≡ length ds = AllZip-long (SaysTable R) ds ys zip in
    let some = items.1.0 in
    let few = items.1.1 in
    ((stated.0, items.0 ∙ ap (λ (xs : List Data). Some (array (items_of xs))) stated.1, stated.2), omega arith, omega arith)

items_said : {B : Type 0} (key : Key) (most : ℕ) (R : Members → B → Type 0) (t : Members) (ys : List B) (h : SaysTables key R t ys) → 1 ≤ length ys → length ys ≤ most → items_at key tables.Mix most t ≡ Ok (map table h.0)
items_said key most R t ys h some few =
    let long : length (map table h.0) ≡ length ys = length-map h.0 table ∙ sym (AllZip-long R h.0 ys h.2) in
    items_again key tables.Mix most t (map table h.0) h.1 (omega arith, omega arith)

-- what a table says of decoders and clips, for a number of takes
pub record SaysParts (takes : ℕ) (t : Members) (decoders : List (List ℤ)) (clips : List ClipContent) : Type 0 where
  pub decoders_said : SaysTables keys.Decoder IsDecoder t decoders
  pub some_decoders : 1 ≤ length decoders
  pub few_decoders : length decoders ≤ 16
  pub clips_said : SaysTables keys.Clip (IsClip takes (length decoders)) t clips
  pub some_clips : 1 ≤ length clips
  pub few_clips : length clips ≤ 1024
  pub apart : AreApart clips

pub parts_ok : (takes : ℕ) (t : Members) (p : List (List ℤ) × List ClipContent) → parts_at takes t ≡ Ok p → SaysParts takes t p.0 p.1
unfolding parts_at decoders_of clips_of
parts_ok takes t p e =
    let a = bind_ok (items_at keys.Decoder tables.Mix 16 t) _ p e in
    let b = bind_ok (items_at keys.Clip tables.Mix 1024 t) _ p a.2 in
    let c = bind_ok (each decoder_of 0 a.0) _ p b.2 in
    let f = bind_ok (each (clip_of takes (length c.0)) 0 b.0) _ p c.2 in
    let g = passed (are_apart f.0) (OutOfLimit keys.Clip tables.Mix) (c.0, f.0) p f.2 in
    let decoders = tables_ok keys.Decoder 16 IsDecoder decoder_of decoder_ok t a.0 c.0 a.1 c.1 in
    let some : 0 < length c.0 = omega (arith, decoders.1) in
    let clips = tables_ok keys.Clip 1024 (IsClip takes (length c.0)) (clip_of takes (length c.0)) (λ i d y h. clip_ok takes (length c.0) i some d y h) t b.0 f.0 b.1 f.1 in
    let says : SaysParts takes t c.0 f.0 = record { decoders_said = decoders.0; some_decoders = decoders.1; few_decoders = decoders.2; clips_said = clips.0; some_clips = clips.1; few_clips = clips.2; apart = apart f.0 g.0 } in
    subst (λ (q : List (List ℤ) × List ClipContent). SaysParts takes t q.0 q.1) g.1 says

parts_again : (takes : ℕ) (t : Members) (decoders : List (List ℤ)) (clips : List ClipContent) → SaysParts takes t decoders clips → parts_at takes t ≡ Ok (decoders, clips)
unfolding parts_at decoders_of clips_of
parts_again takes t decoders clips h =
    rw (
      items_said keys.Decoder 16 IsDecoder t decoders h.decoders_said h.some_decoders h.few_decoders,
      items_said keys.Clip 1024 (IsClip takes (length decoders)) t clips h.clips_said h.some_clips h.few_clips,
      zip_again decoder_of table IsDecoder decoder_again 0 h.decoders_said.0 decoders h.decoders_said.2,
      zip_again (clip_of takes (length decoders)) table (IsClip takes (length decoders)) (clip_again takes (length decoders)) 0 h.clips_said.0 clips h.clips_said.2,
      apart_again clips h.apart,
    )

-- the steps by which a mix is read from a table
pub record IsReadFrom (t : Members) (x : MixContent) : Type 0 where
  pub unit : number_at keys.Unit tables.Mix 1 (2 ^ 28 + 1) t ≡ Ok x.unit
  pub audible : audible_at t ≡ Ok x.audible
  pub limit : number_at keys.Limit tables.Mix 0 (2 ^ 63) t ≡ Ok x.limit
  pub every : number_or_least_at keys.Every tables.Mix 1 65 t ≡ Ok x.every
  pub takes : takes_at tables.Mix t ≡ Ok x.takes
  pub parts : parts_at (length x.takes) t ≡ Ok (x.decoders, x.clips)

-- what is read so is what the table says, and within its limits
pub read_says : (t : Members) (x : MixContent) → FindsOnly mix_keys t → IsReadFrom t x → IsMixTable t x
unfolding number_or_least_at
read_says t x known read =
    let unit = number_ok keys.Unit tables.Mix 1 (2 ^ 28 + 1) t x.unit read.unit in
    let audible = audible_ok t x.audible read.audible in
    let limit = number_ok keys.Limit tables.Mix 0 (2 ^ 63) t x.limit read.limit in
    let every = number_or_ok keys.Every tables.Mix 1 65 (get_member (key_name keys.Every) t) x.every (omega arith) read.every in
    let takes = takes_ok tables.Mix t x.takes read.takes in
    let parts = parts_ok (length x.takes) t (x.decoders, x.clips) read.parts in
    let decoders_fit = zip_right IsDecoder (AreTaps (2 ^ 28)) (λ m y h. h.limits) parts.decoders_said.0 x.decoders parts.decoders_said.2 in
    let each_fits = zip_right (IsClip (length x.takes) (length x.decoders)) (IsClipWithin (length x.takes) (length x.decoders)) (λ m y h. h.limits) parts.clips_said.0 x.clips parts.clips_said.2 in
    let unit_fits : x.unit ≤ 2 ^ 28 = omega (arith, unit.2) in
    let every_fits : x.every ≤ 64 = omega (arith, every.2) in
    let limits : IsMixing x =
    record {
      some_unit = unit.1;
      unit_fits = unit_fits;
      audible_fits = audible.1;
      audible_sum = audible.2;
      limit_fits = limit.2;
      some_every = every.1;
      every_fits = every_fits;
      some_takes = takes.1.0;
      few_takes = takes.1.1;
      some_decoders = parts.some_decoders;
      few_decoders = parts.few_decoders;
      decoders_fit = All-from_recursion (AreTaps (2 ^ 28)) x.decoders decoders_fit;
      some_clips = parts.some_clips;
      few_clips = parts.few_clips;
      each_fits = All-from_recursion (IsClipWithin (length x.takes) (length x.decoders)) x.clips each_fits;
      apart = parts.apart;
    } in
    record { no_others = known; unit = unit.0; audible = audible.0; limit = limit.0; every = every.0; takes = takes.0; decoders = parts.decoders_said; clips = parts.clips_said; limits = limits }

pub mix_ok : (d : Data) (x : MixContent) → mix_of d ≡ Ok x → SaysTable IsMixTable d x
unfolding mix_of
mix_ok d x e =
    let a = bind_ok (table_of keys.Mix tables.Mix mix_keys d) _ x e in
    let t = a.0 in
    let known = table_ok keys.Mix tables.Mix mix_keys d t a.1 in
    let unit = bind_ok _ _ x a.2 in
    let audible = bind_ok _ _ x unit.2 in
    let limit = bind_ok _ _ x audible.2 in
    let every = bind_ok _ _ x limit.2 in
    let takes = bind_ok _ _ x every.2 in
    let parts = bind_ok _ _ x takes.2 in
    let made : MixContent = record { unit = unit.0; audible = audible.0; limit = limit.0; every = every.0; takes = takes.0; decoders = parts.0.0; clips = parts.0.1 } in
    let same = same_value (Ok made) made x refl parts.2 in
    let read : IsReadFrom t made = record { unit = unit.1; audible = audible.1; limit = limit.1; every = every.1; takes = takes.1; parts = parts.1 } in
    (t, known.0, subst (λ (y : MixContent). IsMixTable t y) same (read_says t made known.1 read))

mix_again : (t : Members) (x : MixContent) → IsMixTable t x → mix_of (table t) ≡ Ok x
unfolding mix_of number_or_least_at
mix_again t x h =
    let unit : x.unit < 2 ^ 28 + 1 = omega (arith, h.limits.unit_fits) in
    let every : x.every < 65 = omega (arith, h.limits.every_fits) in
    let parts : SaysParts (length x.takes) t x.decoders x.clips =
    record { decoders_said = h.decoders; some_decoders = h.limits.some_decoders; few_decoders = h.limits.few_decoders; clips_said = h.clips; some_clips = h.limits.some_clips; few_clips = h.limits.few_clips; apart = h.limits.apart } in
    rw (
      table_again keys.Mix tables.Mix mix_keys t h.no_others,
      number_again keys.Unit tables.Mix 1 (2 ^ 28 + 1) t x.unit h.unit h.limits.some_unit unit,
      audible_again t x.audible h.audible h.limits.audible_fits h.limits.audible_sum,
      number_again keys.Limit tables.Mix 0 (2 ^ 63) t x.limit h.limit (omega arith) h.limits.limit_fits,
      number_or_again keys.Every tables.Mix 1 65 (get_member (key_name keys.Every) t) x.every h.every h.limits.some_every every,
      takes_again tables.Mix t x.takes h.takes (h.limits.some_takes, h.limits.few_takes),
      parts_again (length x.takes) t x.decoders x.clips parts,
    )

in_ok : (t : Members) (x : MixContent) → mix_in t ≡ Ok x → IsMixDocument t x
unfolding mix_in
in_ok t x e =
    let a = tested (has_only text_keys t) (UnknownKey tables.MixDocument) (value_at keys.Mix tables.MixDocument t >>= mix_of) x e in
    let b = bind_ok (value_at keys.Mix tables.MixDocument t) mix_of x a.1 in
    let m = mix_ok b.0 x b.2 in
    record { no_others = finds_only text_keys t a.0; mix = (m.0, value_ok keys.Mix tables.MixDocument t b.0 b.1 ∙ ap (λ (d : Data). Some d) m.1, m.2) }

in_again : (t : Members) (x : MixContent) → IsMixDocument t x → mix_in t ≡ Ok x
unfolding mix_in
in_again t x h = rw (has_only_from text_keys t h.no_others, value_again keys.Mix tables.MixDocument t (table h.mix.0) h.mix.1) (mix_again h.mix.0 x h.mix.2)

pub text_ok : (bytes : List ℕ) (x : MixContent) → mix_at bytes ≡ Ok x → IsMix bytes x
unfolding mix_at document
text_ok bytes x e =
    let a = bind_ok (document bytes) mix_in x e in
    (a.0, ok_or_ok (table_in bytes) NotToml a.0 a.1, in_ok a.0 x a.2)

pub text_again : (bytes : List ℕ) (x : MixContent) → IsMix bytes x → mix_at bytes ≡ Ok x
unfolding mix_at document
text_again bytes x h = rw h.1 (in_again h.0 x h.2)

pub is_found : (bytes : List ℕ) (r : Result Mix ProjectFault) → Gives mix_content r (mix_at bytes) → IfOk r (λ x. IsMix bytes (mix_content x))
is_found bytes (Ok x) h = text_ok bytes (mix_content x) h
is_found bytes (Err e) h = tt

-- a text says one mix at most
pub one_mix : (bytes : List ℕ) (x y : MixContent) → IsMix bytes x → IsMix bytes y → x ≡ y
one_mix bytes x y hx hy = same_value (mix_at bytes) x y (text_again bytes x hx) (text_again bytes y hy)
