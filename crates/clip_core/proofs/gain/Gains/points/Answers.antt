use Rattle.std.proofs.Common.{◌≡◌, ◌≤◌, List, Vec, Global, get_or, length, ltb, true, refl, sym, subst, ◌∙◌}
use Rattle.clip_core.specs.declared.gain.Point.{Point}
use Rattle.clip_core.specs.Clips.{gain_content, points_of}
use Rattle.clip_core.specs.Gains.{ArePoints}
use Rattle.clip_core.proofs.ClipLaws.{list_of, no_list, no_points, points_within}
use Rattle.clip_core.proofs.gain.Gains.points.Goals as goal

pub returns-in-Full : goal.returns-in-Full
returns-in-Full c = record { points = rw c.in-Full.is refl; within = λ fine. no_points }

pub returns-in-Alike : goal.returns-in-Alike
returns-in-Alike c =
    let is : c.as_slice.result.now ≡ points_of (gain_content c.args.self.now) c.args.channel = rw c.in-Alike.is c.as_slice.ensures.value in
    record { points = is; within = λ fine. subst ArePoints (sym is) (points_within (gain_content c.args.self.now) c.args.channel fine) }

pub returns-in-Some : goal.returns-in-Some
returns-in-Some c =
    let found = c.in-Some.ensures.lookup in
    let points = c.in-Some.points.now in
    let lists = c.deref.ensures.value in
    let inside = subst (λ (xs : List (Vec Point Global)). true ≡ ltb c.args.channel (length xs)) lists found.0 in
    let value = subst (λ (xs : List (Vec Point Global)). points ≡ get_or xs c.args.channel points) lists found.1 in
    let is : c.as_slice-in-Some.result.now ≡ points_of (gain_content c.args.self.now) c.args.channel =
    rw c.in-Each.is (c.as_slice-in-Some.ensures.value ∙ list_of c.in-Each.lists.items c.args.channel points inside value) in
    record { points = is; within = λ fine. subst ArePoints (sym is) (points_within (gain_content c.args.self.now) c.args.channel fine) }

pub returns-in-None : goal.returns-in-None
returns-in-None c =
    let outside = subst (λ (xs : List (Vec Point Global)). length xs ≤ c.args.channel) c.deref.ensures.value c.in-None.ensures.lookup.3 in
    record { points = rw c.in-Each.is (no_list c.in-Each.lists.items c.args.channel outside); within = λ fine. no_points }
