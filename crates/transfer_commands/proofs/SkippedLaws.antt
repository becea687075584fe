-- What is played and outlined of a file whose gaps were read as zeros.
use Rattle.std.proofs.Common.{◌≡◌, ℕ, ◌+◌, ◌-◌, inl, inr, List, ◌++◌, drop, length, slice_index, Option, None, Some, Result, Ok, Err, length-append, refl, sym, ap, subst, ◌∙◌, arith}
use Rattle.std.specs.Io.KnownBytes.{prepend_known}
use Rattle.std.specs.Fmt.{option_append}
use Rattle.std.proofs.lemmas.Bool.{cases_lt}
use Rattle.std.proofs.lemmas.List.{get_or_append_left, get_or-append_right}
use Rattle.dsd_bits.specs.declared.sound.Sound.{Sound}
use Rattle.fir_core.specs.Decimator.{Decimator, IsWithinLimits}
use Rattle.folder_core.specs.GappedFiles.{LiesInGap, zeroed, zeroed_known}
use Rattle.folder_core.specs.declared.gapped_file.Gaps.{Gaps}
use Rattle.folder_core.proofs.ZeroLaws.{other_place, zeroed_at, zeroed_by_none, zeroed_long}
use Rattle.form_core.specs.Opening.{opened_of}
use Rattle.form_core.specs.declared.fault.ReadFault.{ReadFault}
use Rattle.player_core.specs.Playing.{Applies}
use Rattle.player_core.specs.declared.range.WaveRange.{WaveRange}
use Rattle.toml.specs.Data.{Data}
use Rattle.project_core.specs.Meaning.{IsDecimate, SaysOptional}
use Rattle.request_core.specs.Faults.{IfNamed}
use Rattle.request_core.specs.Projects.{SaysDecimator}
use Rattle.request_core.specs.declared.fault.Fault as calls
use Rattle.request_core.specs.declared.fault.Fault.TheVariants.{FileRefused}
use Rattle.sound_core.specs.Files.{IsRefused, LeadsToSound}
use Rattle.sound_core.specs.Naming.{IfRefusedAs, plain}
use Rattle.sound_core.specs.Outlines.{around_of}
use Rattle.sound_core.specs.declared.fault.StreamFault.{StreamFault}
use Rattle.sound_core.specs.declared.fault.StreamFault.TheVariants as streams
use Rattle.sound_core.specs.declared.fault.Unread.{Unread}
use Rattle.sound_core.specs.declared.fault.Unread.TheVariants as answers
use Rattle.sound_core.specs.declared.outline.Outline.{Outline}
use Rattle.sound_core.proofs.SameLaws.{stated_same}
use Rattle.transfer_core.specs.Spans.{AreFramesOf}
use Rattle.wave_core.specs.declared.head.WaveHead.{WaveHead}
use Rattle.transfer_core.specs.Streaming.{PlaysRange, StreamApplies, part_range}
use Rattle.transfer_core.specs.declared.frames.PlayedFrames.{PlayedFrames}
use Rattle.transfer_core.specs.Unread.{AreSameBut, IsOfSound, IsUnreadBy}
use Rattle.transfer_core.proofs.OtherSounds.{around_other, first_fault, other_holds}
use Rattle.transfer_core.proofs.UnreadFiles.{one_decimator, unread_do_not_matter}
use Rattle.transfer_commands.specs.Gaps.{AreEmpty, AreNotNeeded, AreUnread, HoldNoBitOf, IsFactorOf, LieInSound}
use Rattle.transfer_commands.specs.Outlining.{IsFirstFault, IsUnoutlinedLeft, OutlinesLeft}
use Rattle.transfer_commands.specs.Playing.{PlaysTo}
use Rattle.transfer_commands.specs.declared.fault.CommandFault.{CommandFault}
use Rattle.transfer_commands.specs.declared.fault.CommandFault.TheVariants.{Call, ReadFailed, WriteFailed}

-- ---- a file, and the same with zeros in its gaps
module _ (prefix rest : List ℕ) (gaps : Gaps) where
  abbrev pub own : List ℕ
  own = prefix ++ rest

  abbrev pub filled : List ℕ
  filled = prefix ++ zeroed gaps (length prefix) rest

  same_place : (place : ℕ) → (LiesInGap gaps place 1 → ⊥) → slice_index own place ≡ slice_index filled place
  same_place place beside = elim (cases_lt place (length prefix)) [
    | inl low ↦ get_or_append_left prefix rest 0 place low ∙ sym (get_or_append_left prefix (zeroed gaps (length prefix) rest) 0 place low)
    | inr high ↦ (
        let k = place - length prefix in
        let at : length prefix + k ≡ place = omega (arith, high) in
        let out = other_place gaps (length prefix + k) (λ within. beside (subst (λ n. LiesInGap gaps n 1) at within)) in
        get_or-append_right prefix rest (length prefix) place 0 refl high ∙ zeroed_at gaps (length prefix) rest k out ∙ sym (get_or-append_right prefix (zeroed gaps (length prefix) rest) (length prefix) place 0 refl high))
  ]

  pub same_but : (P : ℕ → Type 0) → ((place : ℕ) → LiesInGap gaps place 1 → P place) → AreSameBut P filled own
  same_but P all = record {
    long = omega (arith, length-append prefix rest, length-append prefix (zeroed gaps (length prefix) rest), zeroed_long gaps (length prefix) rest);
    same = λ place none. same_place place (λ within. none (all place within));
  }

turned : (P : ℕ → Type 0) (file other : List ℕ) → AreSameBut P file other → AreSameBut P other file
turned P file other same = record { long = sym same.long; same = λ place none. sym (same.same place none) }

-- ---- what a file with another sound has, as this one
module _ (prefix rest other : List ℕ) (s : Sound) (states : LeadsToSound prefix s) (same : AreSameBut (IsOfSound s) (prefix ++ rest) (prefix ++ other)) where
  none_held : IsRefused (prefix ++ rest) → IsRefused (prefix ++ other)
  none_held none = λ r holds. let made = other_holds prefix other rest s states (turned _ _ _ same) r holds in none made.0 made.1

  states_own : (begin after : List ℕ) (t : Sound) → prefix ++ rest ≡ begin ++ after → LeadsToSound begin t → LeadsToSound prefix t
  states_own begin after t is also = subst (LeadsToSound prefix) (sym (stated_same prefix begin rest after is s t states also)) states

  applies_other : (d : Decimator) (range : WaveRange) (f : StreamFault) → Applies d range (prefix ++ rest) f → Applies d range (prefix ++ other) f
  applies_other d range streams.FileRefused (inl none) = inl (none_held none)
  applies_other d range streams.FileRefused (inr h) =
      inr (record { prefix = prefix; rest = other; sound = h.sound; file_is = refl; states = states_own h.prefix h.rest h.sound h.file_is h.states; outside = h.outside })
  applies_other d range streams.RateNotDivided h =
      record { prefix = prefix; rest = other; sound = h.sound; file_is = refl; states = states_own h.prefix h.rest h.sound h.file_is h.states; not_divided = h.not_divided }
  applies_other d range streams.TooLarge h = record {
    prefix = prefix;
    rest = other;
    sound = h.sound;
    file_is = refl;
    states = states_own h.prefix h.rest h.sound h.file_is h.states;
    inside = h.inside;
    divided = h.divided;
    large = h.large;
  }
  applies_other d range streams.ReadFailed h = tt
  applies_other d range streams.WriteFailed h = tt
  applies_other d range streams.TurnLimit h = tt
  applies_other d range streams.Memory h = tt

  refused_other : (u : Unread) → IfRefusedAs u (λ fault. opened_of (prefix ++ rest) ≡ Err fault) → IfRefusedAs u (λ fault. opened_of (prefix ++ other) ≡ Err fault)
  refused_other (answers.Refused e) h = first_fault prefix rest other s states same e h
  refused_other (answers.Stream f) h = tt

  stream_other : (project : List ℕ) (range : WaveRange) (fault : calls.Fault) → StreamApplies (Some (prefix ++ rest)) project range fault → StreamApplies (Some (prefix ++ other)) project range fault
  stream_other project range fault (inl first) = inl first
  stream_other project range fault (inr (d, says, h)) =
      inr (d, says, (h.0, h.1, record { applies = applies_other d range (plain h.0) h.2.applies; first = refused_other h.0 h.2.first; exact = h.2.exact }))

  named_other : (cause : ReadFault) → IsFirstFault (Some (prefix ++ rest)) cause → IsFirstFault (Some (prefix ++ other)) cause
  named_other cause h = (first_fault prefix rest other s states same cause h.0, h.1)

  if_named_other : (fault : calls.Fault) → IfNamed fault (IsFirstFault (Some (prefix ++ rest))) → IfNamed fault (IsFirstFault (Some (prefix ++ other)))
  if_named_other (FileRefused cause) h = named_other cause h
  if_named_other fault h = tt

-- ---- a prefix that was read, and what follows it
appended : (prefix : List ℕ) (left : Option (List ℕ)) → option_append (Some prefix) left ≡ prepend_known prefix left
appended prefix None = refl
appended prefix (Some rest) = refl

pub joined : {all : Option (List ℕ)} (xs prefix seen : List ℕ) (pos : ℕ) (gaps : Gaps) (rest left : Option (List ℕ)) → all ≡ option_append (Some (drop pos xs)) rest → xs ≡ prefix → pos ≡ 0 → rest ≡ zeroed_known gaps (length seen) left → seen ≡ prefix
    → all ≡ prepend_known prefix (zeroed_known gaps (length prefix) left)
joined xs prefix seen pos gaps rest left is same none later also =
    is
    ∙ ap (λ n. option_append (Some (drop n xs)) rest) none
    ∙ ap (λ bytes. option_append (Some bytes) rest) same
    ∙ ap (option_append (Some prefix)) (later ∙ ap (λ (bytes : List ℕ). zeroed_known gaps (length bytes) left) also)
    ∙ appended prefix (zeroed_known gaps (length prefix) left)

-- ---- what is played
module _ (project : List ℕ) (range : WaveRange) (prefix rest : List ℕ) (s : Sound) (gaps : Gaps) (unread : AreUnread project range prefix s gaps) where
  but_unread : (d : Decimator) → SaysDecimator project d → AreSameBut (IsUnreadBy d s range) (filled prefix rest gaps) (own prefix rest gaps)
  but_unread d says = same_but prefix rest gaps (IsUnreadBy d s range) (λ place within. (unread.in_sound place within, unread.unread d says place within))

  but_sound : AreSameBut (IsOfSound s) (filled prefix rest gaps) (own prefix rest gaps)
  but_sound = same_but prefix rest gaps (IsOfSound s) unread.in_sound

  plays_own : (bytes : List ℕ) → PlaysRange project range (filled prefix rest gaps) bytes → PlaysRange project range (own prefix rest gaps) bytes
  plays_own bytes plays =
      unread_do_not_matter project prefix (zeroed gaps (length prefix) rest) rest bytes plays.decimator s range unread.leads plays.project_says (but_unread plays.decimator plays.project_says) plays

  plays_filled : (bytes : List ℕ) → PlaysRange project range (own prefix rest gaps) bytes → PlaysRange project range (filled prefix rest gaps) bytes
  plays_filled bytes plays =
      unread_do_not_matter project prefix rest (zeroed gaps (length prefix) rest) bytes plays.decimator s range unread.leads plays.project_says (turned _ _ _ (but_unread plays.decimator plays.project_says)) plays

  unread_played : {W : Type 0} (held : W → Option (List ℕ)) (old new : W) (came : Result ℕ calls.Fault) → PlaysTo held project range (Some (filled prefix rest gaps)) old new came → PlaysTo held project range (Some (own prefix rest gaps)) old new came
  unread_played held old new (Ok n) h = record { plays = (h.plays.0, plays_own h.plays.0 h.plays.1, h.plays.2, h.plays.3); some = h.some }
  unread_played held old new (Err fault) h = record {
    stands = stream_other prefix (zeroed gaps (length prefix) rest) rest s unread.leads but_sound project range fault h.stands;
    named = if_named_other prefix (zeroed gaps (length prefix) rest) rest s unread.leads but_sound fault h.named;
    outside = λ bytes plays. h.outside bytes (plays_filled bytes plays);
    prefix = λ bytes plays. h.prefix bytes (plays_filled bytes plays);
    none = h.none;
  }

-- gaps without a byte
none_filled : (prefix rest : List ℕ) (gaps : Gaps) → AreEmpty gaps → filled prefix rest gaps ≡ own prefix rest gaps
none_filled prefix rest gaps empty = ap (λ bytes. prefix ++ bytes) (zeroed_by_none gaps (length prefix) rest empty)

-- a file that is played but for bytes that are not needed
pub played_without : {W : Type 0} (held : W → Option (List ℕ)) (project : List ℕ) (range : WaveRange) (prefix : List ℕ) (gaps : Gaps) → AreNotNeeded project range prefix gaps → (left : Option (List ℕ)) (old new : W) (came : Result ℕ calls.Fault)
    → PlaysTo held project range (prepend_known prefix (zeroed_known gaps (length prefix) left)) old new came → PlaysTo held project range (prepend_known prefix left) old new came
played_without held project range prefix gaps unneeded None old new came h = h
played_without held project range prefix gaps (inl empty) (Some rest) old new came h = subst (λ file. PlaysTo held project range (Some file) old new came) (none_filled prefix rest gaps empty) h
played_without held project range prefix gaps (inr (s, unread)) (Some rest) old new came h = unread_played project range prefix rest s gaps unread held old new came h

-- ---- what a file holds besides its sound
module _ (prefix : List ℕ) (s : Sound) (gaps : Gaps) (states : LeadsToSound prefix s) (in_sound : LieInSound s gaps) where
  but_sound_of : (rest : List ℕ) → AreSameBut (IsOfSound s) (filled prefix rest gaps) (own prefix rest gaps)
  but_sound_of rest = same_but prefix rest gaps (IsOfSound s) in_sound

  pub outlined_without : (left : Option (List ℕ)) (outline : Outline) → OutlinesLeft (prepend_known prefix (zeroed_known gaps (length prefix) left)) outline → OutlinesLeft (prepend_known prefix left) outline
  outlined_without None outline h = h
  outlined_without (Some rest) outline h = record {
    reported = h.reported;
    known = around_other prefix (zeroed gaps (length prefix) rest) rest s states (but_sound_of rest) (around_of outline) h.reported h.known;
    some = h.some;
  }

  pub unoutlined_without : (left : Option (List ℕ)) (fault : CommandFault) → IsUnoutlinedLeft (prepend_known prefix (zeroed_known gaps (length prefix) left)) fault → IsUnoutlinedLeft (prepend_known prefix left) fault
  unoutlined_without None fault h = h
  unoutlined_without (Some rest) (Call fault) (inl none) = inl none
  unoutlined_without (Some rest) (Call fault) (inr h) = inr (record {
    cause = h.cause;
    first = named_other prefix (zeroed gaps (length prefix) rest) rest s states (but_sound_of rest) h.cause h.first;
    named = h.named;
  })
  unoutlined_without (Some rest) ReadFailed h = tt
  unoutlined_without (Some rest) WriteFailed h = absurd h

-- ---- the project's filter
pub limits_said : (project : List ℕ) (d : Decimator) → SaysDecimator project d → IsWithinLimits d
limits_said project d says = by _ says.project.decimate says.has says.says.2.decimate
  where
    by : (found : Option Data) (p : Option Decimator) → p ≡ Some d → SaysOptional IsDecimate found p → IsWithinLimits d
    by None None is h = absurd cc
    by None (Some e) is h = absurd h
    by (Some x) None is h = absurd h
    by (Some x) (Some e) is h = (let same : e ≡ d = cc in subst IsWithinLimits same h.2.limits)

-- the factor of frames that a project plays is that of its filter
pub factor_said : (project : List ℕ) (rate count : ℕ) (f : PlayedFrames) → AreFramesOf project rate count f → IsFactorOf project f.factor
factor_said project rate count f are = λ d says. ap (λ (e : Decimator). e.factor) (one_decimator project d are.decimator says are.says) ∙ sym are.factor_is

-- what is around a part is not needed for it
pub around_unneeded : (head : WaveHead) (project : List ℕ) (prefix : List ℕ) (s : Sound) (factor start stop : ℕ) (gaps : Gaps) → LeadsToSound prefix s → IsFactorOf project factor → LieInSound s gaps → HoldNoBitOf s factor start stop gaps → AreNotNeeded project (part_range head start stop) prefix gaps
around_unneeded head project prefix s factor start stop gaps states is within unread = inr (
  s,
  record {
    leads = states;
    in_sound = within;
    unread = λ d says place gap read.
        unread d (limits_said project d says) (is d says) read.0 read.1 read.2 read.3.0 read.3.1 read.4 read.5 read.6 (subst (λ p. LiesInGap gaps p 1) read.7 gap);
  },
)
