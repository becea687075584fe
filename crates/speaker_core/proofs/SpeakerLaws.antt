-- How many channels a channel type has whose loudspeakers are those of channels.
use Rattle.std.proofs.Common.{◌≡◌, ℕ, ◌+◌, Bool, true, false, ◌&&◌, List, [], ◌++◌, length, Option, None, Some, arith, refl, sym, ap, subst, ◌∙◌, if◌then◌else◌}
use Rattle.std.specs.Prelude.{is_some, nat_eq, option_to_list}
use Rattle.std.proofs.lemmas.Bool.{eqb-true}
use Rattle.dsd_bits.specs.Layouts.{layout_channels}
use Rattle.speaker_core.specs.Speakers.{all_speakers, are_named, channel_with, channels_of, layout_with, speaker_mask}

-- ---- whichever loudspeakers there are
abbrev both : (Bool → Bool) → Bool
both p = p true && p false

and_both : (a b : Bool) → (a && b) ≡ true → (a ≡ true) × (b ≡ true)
and_both true b is = (refl, is)
and_both false b is = absurd cc

both_says : (p : Bool → Bool) → both p ≡ true → (b : Bool) → p b ≡ true
both_says p is true = (and_both (p true) (p false) is).0
both_says p is false = (and_both (p true) (p false) is).1

abbrev bit : Bool → ℕ → ℕ
bit has value = if has then value else 0

abbrev bits : Bool → Bool → Bool → Bool → Bool → Bool → ℕ
bits a b c d e f = bit a 1 + (bit b 2 + (bit c 4 + (bit d 8 + (bit e 16 + bit f 32))))

abbrev number : Bool → Bool → Bool → Bool → Bool → Bool → ℕ
number a b c d e f = bit a 1 + (bit b 1 + (bit c 1 + (bit d 1 + (bit e 1 + (bit f 1 + 0)))))

abbrev channels_or : Option ℕ → ℕ → ℕ
channels_or None other = other
channels_or (Some layout) other = layout_channels layout

abbrev fits : Bool → Bool → Bool → Bool → Bool → Bool → Bool
fits a b c d e f = nat_eq (channels_or (layout_with (bits a b c d e f)) (number a b c d e f)) (number a b c d e f)

all_fit : both (λ a. both (λ b. both (λ c. both (λ d. both (λ e. both (fits a b c d e)))))) ≡ true
all_fit = refl

each_fits : (a b c d e f : Bool) → fits a b c d e f ≡ true
each_fits a b c d e f =
    both_says (fits a b c d e) (both_says (λ e. both (fits a b c d e)) (both_says (λ d. both (λ e. both (fits a b c d e))) (both_says (λ c. both (λ d. both (λ e. both (fits a b c d e))))
    (both_says (λ b. both (λ c. both (λ d. both (λ e. both (fits a b c d e))))) (both_says (λ a. both (λ b. both (λ c. both (λ d. both (λ e. both (fits a b c d e)))))) all_fit a) b) c) d) e) f

type_fits : (layout : ℕ) (a b c d e f : Bool) → layout_with (bits a b c d e f) ≡ Some layout → layout_channels layout ≡ number a b c d e f
type_fits layout a b c d e f is =
    let own = number a b c d e f in
    eqb-true (layout_channels layout) own (subst (λ o. nat_eq (channels_or o own) own ≡ true) is (each_fits a b c d e f))

-- ---- the channels
one_or_none : (found : Option ℕ) (rest : List ℕ) → length (option_to_list found ++ rest) ≡ bit (is_some found) 1 + length rest
one_or_none None rest = omega arith
one_or_none (Some c) rest = omega arith

six : (a b c d e f : Option ℕ) → length (option_to_list a ++ (option_to_list b ++ (option_to_list c ++ (option_to_list d ++ (option_to_list e ++ (option_to_list f ++ []))))))
    ≡ number (is_some a) (is_some b) (is_some c) (is_some d) (is_some e) (is_some f)
six a b c d e f =
    one_or_none a _ ∙ ap (λ n. bit (is_some a) 1 + n) (one_or_none b _ ∙ ap (λ n. bit (is_some b) 1 + n) (one_or_none c _ ∙ ap (λ n. bit (is_some c) 1 + n)
    (one_or_none d _ ∙ ap (λ n. bit (is_some d) 1 + n) (one_or_none e _ ∙ ap (λ n. bit (is_some e) 1 + n) (one_or_none f [])))))

abbrev own_bits : List (Option ℕ) → ℕ
own_bits channels = bits (is_some (channel_with 0 channels 0)) (is_some (channel_with 1 channels 0)) (is_some (channel_with 2 channels 0)) (is_some (channel_with 3 channels 0)) (is_some (channel_with 4 channels 0)) (is_some (channel_with 5 channels 0))

-- a channel type that has the loudspeakers of channels has as many
pub layout_fits : (channels : List (Option ℕ)) (layout : ℕ) → layout_with (speaker_mask channels) ≡ Some layout → layout_channels layout ≡ length channels
layout_fits channels layout is = by (are_named channels) refl
  where
    by : (named : Bool) → are_named channels ≡ named → layout_channels layout ≡ length channels
    by true named =
        let mask : speaker_mask channels ≡ own_bits channels = ap (λ b. if b then own_bits channels else 0) named in
        type_fits layout (is_some (channel_with 0 channels 0)) (is_some (channel_with 1 channels 0)) (is_some (channel_with 2 channels 0)) (is_some (channel_with 3 channels 0)) (is_some (channel_with 4 channels 0)) (is_some (channel_with 5 channels 0)) (sym (ap layout_with mask) ∙ is)
        ∙ sym (six (channel_with 0 channels 0) (channel_with 1 channels 0) (channel_with 2 channels 0) (channel_with 3 channels 0) (channel_with 4 channels 0) (channel_with 5 channels 0))
        ∙ eqb-true (length (channels_of channels all_speakers)) (length channels) named
    by false named =
        let none : layout_with (speaker_mask channels) ≡ None = ap (λ b. layout_with (if b then own_bits channels else 0)) named in
        let no : None ≡ Some layout = sym none ∙ is in
        absurd cc
