-- The sound property, in both directions.
use Rattle.std.proofs.Common.{◌≡◌, ℕ, ◌+◌, ◌*◌, ◌≤◌, true, false, cond, ltb, List, [], Option, Some, None, length, take, drop, Ok, Err, refl, sym, ap, ◌∙◌, arith}
use Rattle.std.specs.Prelude.{find, option_map}
use Rattle.std.proofs.lemmas.Bool.{ltb-false, le-ltb}
use Rattle.std.proofs.lemmas.List.{length-take}
use Rattle.byteorder.specs.Endian.{big_number}
use Rattle.chunk_core.specs.declared.layout.Span.{Span}
use Rattle.chunk_core.specs.Places.{span_chunk}
use Rattle.chunk_core.specs.Reading.{spans_in}
use Rattle.chunk_core.proofs.Steps.{bind_ok, bind_then, guard_ok}
use Rattle.dsd_bits.specs.Ids.{same_id, FS, CHNL, CMPR, DSD}
use Rattle.dsdiff_core.specs.declared.fault.DsdiffFault.TheVariants as faults
use Rattle.dsdiff_core.specs.Fields.{ids_in}
use Rattle.dsdiff_core.specs.Properties.{PropertyFields, fields_of, limits_of, ids_and_number, property_of, rate_of, raw_of}
use Rattle.dsdiff_core.specs.Spans.{data_with, holds_property, once_each, property_kinds, span_has}
use Rattle.dsdiff_core.specs.Steps.{some_or, walked}
use Rattle.dsdiff_core.proofs.KindLaws.{id_is}
use Rattle.dsdiff_core.proofs.OnceLaws.{Once, none_yet, once_again, once_ok}
use Rattle.dsdiff_core.proofs.Steps.{some_ok, under_ok, walked_ok}

-- what the data of the three chunks state
pub record IsStatedAt (rates names kinds : List ℕ) (hertz : ℕ) (named : List (List ℕ)) : Type 0 where
  pub rate_long : 4 ≤ length rates
  pub rate : hertz ≡ big_number 4 rates
  pub rate_low : 1000000 ≤ hertz
  pub rate_high : hertz ≤ 50000000
  pub some_channel : 1 ≤ big_number 2 names
  pub six_channels : big_number 2 names ≤ 6
  pub names_long : 2 + 4 * big_number 2 names ≤ length names
  pub ids : named ≡ ids_in (big_number 2 names) (drop 2 names)
  pub raw : take 4 kinds ≡ DSD

rate_ok : (o : Option (List ℕ)) (n : ℕ) → rate_of o ≡ Ok n → (bytes : List ℕ) × (o ≡ Some bytes) × (4 ≤ length bytes) × (n ≡ big_number 4 bytes)
rate_ok None n e = absurd cc
rate_ok (Some bytes) n e = let a = guard_ok _ _ _ _ e in let same : big_number 4 bytes ≡ n = cc (a.1) in (bytes, refl, ltb-false _ _ a.0, sym same)

names_ok : (o : Option (List ℕ)) (x : ℕ × List ℕ) → ids_and_number o ≡ Ok x → (bytes : List ℕ) × (o ≡ Some bytes) × (2 + 4 * big_number 2 bytes ≤ length bytes) × (x ≡ (big_number 2 bytes, drop 2 bytes))
names_ok None x e = absurd cc
names_ok (Some bytes) x e =
    let made : ℕ × List ℕ = (big_number 2 bytes, drop 2 bytes) in
    let a = guard_ok (ltb (length bytes) 2) faults.NoChannels (cond (ltb (length bytes) (2 + 4 * big_number 2 bytes)) (Err faults.NoChannels) (Ok made)) x e in
    let b = guard_ok (ltb (length bytes) (2 + 4 * big_number 2 bytes)) faults.NoChannels (Ok made) x a.1 in
    let same : made ≡ x = cc (b.1) in (bytes, refl, ltb-false _ _ b.0, sym same)

raw_ok : (o : Option (List ℕ)) (u : Unit {0}) → raw_of o ≡ Ok u → (bytes : List ℕ) × (o ≡ Some bytes) × (take 4 bytes ≡ DSD)
raw_ok None u e = absurd cc
raw_ok (Some bytes) u e =
    let a = guard_ok _ _ _ _ e in
    let b = under_ok (same_id (take 4 bytes) DSD) tt u (faults.Compressed (take 4 bytes)) a.1 in (bytes, refl, id_is _ _ b.0)

limits_ok : (rate n : ℕ) (u : Unit {0}) → limits_of rate n ≡ Ok u → (1000000 ≤ rate) × (rate ≤ 50000000) × (1 ≤ n) × (n ≤ 6)
limits_ok rate n u e =
    let a = guard_ok _ _ _ _ e in
    let b = guard_ok _ _ _ _ a.1 in
    let c = guard_ok _ _ _ _ b.1 in
    let d = guard_ok _ _ _ _ c.1 in
    (ltb-false _ _ a.0, ltb-false _ _ b.0, ltb-false _ _ c.0, ltb-false _ _ d.0)

fields_ok : (rates names kinds : Option (List ℕ)) (x : ℕ × List (List ℕ)) → fields_of rates names kinds ≡ Ok x
    → (a b c : List ℕ) × (rates ≡ Some a) × (names ≡ Some b) × (kinds ≡ Some c) × IsStatedAt a b c x.0 x.1
unfolding fields_of
fields_ok rates names kinds x e =
    let a = bind_ok (rate_of rates) _ _ e in
    let b = bind_ok (ids_and_number names) _ _ a.2 in
    let c = bind_ok (raw_of kinds) _ _ b.2 in
    let d = bind_ok (limits_of a.0 b.0.0) _ _ c.2 in
    let r = rate_ok rates a.0 a.1 in
    let n = names_ok names b.0 b.1 in
    let k = raw_ok kinds c.0 c.1 in
    let l = limits_ok a.0 b.0.0 d.0 d.1 in
    let number : b.0.0 ≡ big_number 2 n.0 = ap (λ (p : ℕ × List ℕ). p.0) n.3 in
    let bytes : b.0.1 ≡ drop 2 n.0 = ap (λ (p : ℕ × List ℕ). p.1) n.3 in
    let made : ℕ × List (List ℕ) = (a.0, ids_in b.0.0 b.0.1) in
    let same : made ≡ x = cc (d.2) in
    let rate-is : x.0 ≡ a.0 = ap (λ (p : ℕ × List (List ℕ)). p.0) (sym same) in
    let ids-is : x.1 ≡ ids_in b.0.0 b.0.1 = ap (λ (p : ℕ × List (List ℕ)). p.1) (sym same) in (
      r.0,
      n.0,
      k.0,
      r.1,
      n.1,
      k.1,
      record {
        rate_long = r.2;
        rate = rate-is ∙ r.3;
        rate_low = rw rate-is l.0;
        rate_high = rw rate-is l.1;
        some_channel = rw (← number) l.2;
        six_channels = rw (← number) l.3;
        names_long = n.2;
        ids = ids-is ∙ ap (λ (k : ℕ). ids_in k b.0.1) number ∙ ap (λ (bs : List ℕ). ids_in (big_number 2 n.0) bs) bytes;
        raw = k.2;
      },
    )

fields_again : (a b c : List ℕ) (rate : ℕ) (ids : List (List ℕ)) → IsStatedAt a b c rate ids → fields_of (Some a) (Some b) (Some c) ≡ Ok (rate, ids)
unfolding fields_of
fields_again a b c rate ids f =
    let raw_long : 4 ≤ length c = omega (arith, ap length f.raw, length-take 4 c) in
    let low : ltb (big_number 4 a) 1000000 ≡ false = le-ltb _ _ (omega (arith, f.rate, f.rate_low)) in
    let high : ltb 50000000 (big_number 4 a) ≡ false = le-ltb _ _ (omega (arith, f.rate, f.rate_high)) in
    let yes : same_id (take 4 c) DSD ≡ true = rw f.raw refl in
    let made : ℕ × List (List ℕ) = (big_number 4 a, ids_in (big_number 2 b) (drop 2 b)) in
    let wanted : ℕ × List (List ℕ) = (rate, ids) in
    let same : made ≡ wanted = λ i. (sym f.rate i, sym f.ids i) in
    rw (le-ltb (length a) 4 f.rate_long, le-ltb (length b) 2 (omega (arith, f.names_long)), le-ltb (length b) (2 + 4 * big_number 2 b) f.names_long, le-ltb (length c) 4 raw_long, yes, low, high, le-ltb (big_number 2 b) 1 f.some_channel, le-ltb 6 (big_number 2 b) f.six_channels) (ap (λ (p : ℕ × List (List ℕ)). Ok p) same)

-- ---- the data of a chunk

data_at : (file : List ℕ) (o : Option Span) (bytes : List ℕ) → option_map (λ s. (span_chunk file s).content) o ≡ Some bytes → (s : Span) × (o ≡ Some s) × ((span_chunk file s).content ≡ bytes)
data_at file None bytes e = absurd cc
data_at file (Some s) bytes e = (s, refl, cc (e))

pub data_ok : (file id : List ℕ) (ss : List Span) (bytes : List ℕ) → data_with file id ss ≡ Some bytes → (s : Span) × (find (span_has id) ss ≡ Some s) × ((span_chunk file s).content ≡ bytes)
data_ok file id ss bytes e = data_at file (find (span_has id) ss) bytes e

-- ---- the property

-- the sound property that states this
pub record IsProperty (file : List ℕ) (top : List Span) (stated : PropertyFields) : Type 0 where
  pub property : Span
  pub found : find (holds_property file) top ≡ Some property
  pub spans : spans_in file (property.start + 4) (property.start + property.size) ≡ Ok stated.parts
  pub once : Once property_kinds stated.parts
  pub rates : List ℕ
  pub names : List ℕ
  pub kinds : List ℕ
  pub at_rates : data_with file FS stated.parts ≡ Some rates
  pub at_names : data_with file CHNL stated.parts ≡ Some names
  pub at_kinds : data_with file CMPR stated.parts ≡ Some kinds
  pub is_stated : IsStatedAt rates names kinds stated.rate stated.ids

abbrev pub stated_by : ℕ → List (List ℕ) → List Span → PropertyFields
stated_by rate ids parts = record { rate = rate; ids = ids; parts = parts }

pub property_ok : (file : List ℕ) (top : List Span) (stated : PropertyFields) → property_of file top ≡ Ok stated → IsProperty file top stated
unfolding property_of
property_ok file top stated e =
    bind_then (some_or faults.NoProperty (find (holds_property file) top)) _ stated e (λ property e1 h1.
    bind_then (walked (spans_in file (property.start + 4) (property.start + property.size))) _ stated h1 (λ parts e2 h2.
    bind_then (once_each property_kinds [] parts) _ stated h2 (λ u e3 h3.
    bind_then (fields_of (data_with file FS parts) (data_with file CHNL parts) (data_with file CMPR parts)) _ stated h3 (λ fields e4 h4.
    let same : stated_by fields.0 fields.1 parts ≡ stated = cc (h4) in
    let f = fields_ok (data_with file FS parts) (data_with file CHNL parts) (data_with file CMPR parts) fields e4 in
    rw (← same) (record {
      property = property;
      found = some_ok faults.NoProperty (find (holds_property file) top) property e1;
      spans = walked_ok (spans_in file (property.start + 4) (property.start + property.size)) parts e2;
      once = once_ok property_kinds [] parts u e3 (none_yet property_kinds);
      rates = f.0;
      names = f.1;
      kinds = f.2;
      at_rates = f.3;
      at_names = f.4;
      at_kinds = f.5;
      is_stated = f.6;
    })))))

pub property_again : (file : List ℕ) (top : List Span) (stated : PropertyFields) → IsProperty file top stated → property_of file top ≡ Ok stated
unfolding property_of
property_again file top stated p =
    rw (p.found, p.spans, once_again property_kinds [] stated.parts p.once, p.at_rates, p.at_names, p.at_kinds, fields_again p.rates p.names p.kinds stated.rate stated.ids p.is_stated) refl

-- the fields of the chunks, which were looked for in the same chunks three times
pub fields_with : (file : List ℕ) (parts ss-0 ss-1 ss-2 : List Span) (rates names kinds : Option (List ℕ)) → ss-0 ≡ parts → ss-1 ≡ parts → ss-2 ≡ parts
    → rates ≡ data_with file FS ss-0 → names ≡ data_with file CHNL ss-1 → kinds ≡ data_with file CMPR ss-2
    → fields_of rates names kinds ≡ fields_of (data_with file FS parts) (data_with file CHNL parts) (data_with file CMPR parts)
fields_with file parts ss-0 ss-1 ss-2 rates names kinds e-0 e-1 e-2 r n k = rw (r, n, k, e-0, e-1, e-2) refl
