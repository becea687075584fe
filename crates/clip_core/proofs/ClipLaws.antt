-- The points of a channel, and the ends of clips.
use Rattle.std.proofs.Common.{◌≡◌, ℕ, ◌+◌, ◌<◌, ◌≤◌, ◌^◌, List, [], All, length, get_or, map, drop, max, ap, subst, sym, inl, inr, ltb, true, Vec, Global, ◌∙◌, arith}
use Rattle.std.proofs.lemmas.Bool.{cases_lt, ltb-true}
use Rattle.std.proofs.lemmas.List.{at_drop_more, get_or_past, get_or-map, length-map}
use Rattle.std.specs.Ordering.{nat_cmp, ord_max}
use Rattle.clip_core.specs.declared.clip.Clip.{Clip}
use Rattle.clip_core.specs.declared.gain.Point.{Point}
use Rattle.clip_core.specs.Clips.{AreGains, GainContent, alike, clip_content, each, full, points_of}
use Rattle.clip_core.specs.Gains.{ArePoints}
use Rattle.clip_core.specs.Mixes.{clip_end, mix_length}

-- no points are within their limits
pub no_points : ArePoints []
no_points = record { few = omega arith; each = λ i d inside. absurd (omega arith); rising = λ i p q here next. cc }

-- the points of a channel are within their limits
pub points_within : (gains : GainContent) (c : ℕ) → AreGains gains → ArePoints (points_of gains c)
points_within full c fine = no_points
points_within (alike points) c fine = (fine 0 [] (omega arith)).within
points_within (each lists) c fine = elim (cases_lt c (length lists)) [
  | inl inside ↦ (fine c [] inside).within
  | inr outside ↦ rw (get_or_past lists c [] outside) no_points
]

-- the list of a channel
pub list_of : (lists : List (Vec Point Global)) (c : ℕ) (points : Vec Point Global) → true ≡ ltb c (length lists) → points ≡ get_or lists c points → points.items ≡ points_of (each (map (λ (p : Vec Point Global). p.items) lists)) c
list_of lists c points inside is = ap (λ (p : Vec Point Global). p.items) is ∙ sym (get_or-map (λ (p : Vec Point Global). p.items) lists c points [] (ltb-true c (length lists) (sym inside)))

-- past the last list there is none
pub no_list : (lists : List (Vec Point Global)) (c : ℕ) → length lists ≤ c → [] ≡ points_of (each (map (λ (p : Vec Point Global). p.items) lists)) c
no_list lists c outside = sym (get_or_past (map (λ (p : Vec Point Global). p.items) lists) c [] (omega (arith, outside, length-map lists (λ (p : Vec Point Global). p.items))))

-- a clip among others ends as they do
pub end_within : (clips : List Clip) → All (λ c. clip_end c ≤ 2 ^ 36) (map clip_content clips) → (i : ℕ) (clip : Clip) → i < length clips → clip ≡ get_or clips i clip → clip.at + clip.length ≤ 2 ^ 36
end_within clips fine i clip inside is =
    let there = get_or-map clip_content clips i clip (clip_content clip) inside in
    subst (λ (c : Clip). c.at + c.length ≤ 2 ^ 36) (sym is) (subst (λ c. clip_end c ≤ 2 ^ 36) there (fine i (clip_content clip) (omega (arith, inside, length-map clips clip_content))))

-- the greater of two numbers
pub greater : (a b : ℕ) → ord_max nat_cmp a b ≡ max a b
greater a b = grind arith

-- one clip more
pub longest_so_far : (clips : List Clip) (i : ℕ) (clip : Clip) (n : ℕ) → i < length clips → clip ≡ get_or clips i clip → max (max n (clip.at + clip.length)) (mix_length (map clip_content (drop (i + 1) clips))) ≡ max n (mix_length (map clip_content (drop i clips)))
longest_so_far clips i clip n inside is =
    let left = at_drop_more (λ xs. mix_length (map clip_content xs)) clips i clip inside in
    let more : max (clip.at + clip.length) (mix_length (map clip_content (drop (i + 1) clips))) ≡ mix_length (map clip_content (drop i clips)) =
    ap (λ (c : Clip). max (c.at + c.length) (mix_length (map clip_content (drop (i + 1) clips)))) is ∙ sym left in
    omega (arith, more)
