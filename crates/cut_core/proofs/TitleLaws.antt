-- The marks of titles, cue by cue.
use Rattle.std.proofs.Common.{◌≡◌, ℕ, ◌+◌, ◌<◌, ◌≤◌, List, ◌++◌, length, get_or, drop, append_assoc, sym, ap, ◌∙◌}
use Rattle.std.proofs.lemmas.List.{append-nil, drop_more, drop_all}
use Rattle.dsd_bits.specs.Contents.{MarkContent}
use Rattle.splice_core.specs.Cues.{CueContent}
use Rattle.cut_core.specs.Cuts.{span}
use Rattle.cut_core.specs.Titles.{mark_of_title, titles_from}

-- one cue more
pub titled_more : (rate place i : ℕ) (cues : List CueContent) (d : CueContent) (before after total : List MarkContent) → i < length cues → before ++ titles_from rate place (drop i cues) ≡ total
    → after ≡ before ++ mark_of_title rate place (get_or cues i d).title → after ++ titles_from rate (place + span (get_or cues i d)) (drop (i + 1) cues) ≡ total
unfolding titles_from
titled_more rate place i cues d before after total lt so_far one =
    let cue = get_or cues i d in
    let rest = titles_from rate (place + span cue) (drop (i + 1) cues) in
    ap (λ (l : List MarkContent). l ++ rest) one ∙ append_assoc before (mark_of_title rate place cue.title) rest ∙ ap (λ (l : List CueContent). before ++ titles_from rate place l) (sym (drop_more cues i d lt)) ∙ so_far

-- all cues
pub titled_all : (rate place i : ℕ) (cues : List CueContent) (made total : List MarkContent) → length cues ≤ i → made ++ titles_from rate place (drop i cues) ≡ total → made ≡ total
unfolding titles_from
titled_all rate place i cues made total ge h =
    sym (append-nil made) ∙ ap (λ (l : List CueContent). made ++ titles_from rate place l) (sym (drop_all i cues ge)) ∙ h
