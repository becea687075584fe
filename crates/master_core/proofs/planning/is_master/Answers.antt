use Rattle.std.proofs.Common.{◌≡◌, ◌∙◌, ap, List, refl, subst}
use Rattle.std.specs.List.{All}
use Rattle.cut_core.specs.Bridges.{IsPlace}
use Rattle.cut_core.specs.declared.bridges.BridgePlace.{BridgePlace}
use Rattle.cut_core.proofs.CutLaws.{first_shape}
use Rattle.master_core.specs.Choosing.{chosen_claims}
use Rattle.cut_core.specs.Claims.{windows_total}
use Rattle.master_core.specs.Best.{master_of}
use Rattle.cut_core.specs.Masters.{total_cost}
use Rattle.master_core.proofs.ChoiceLaws.{claims_stand, costs_stand}
use Rattle.master_core.proofs.FilingLaws as files
use Rattle.master_core.proofs.MasterLaws.{are_channels, best_are_least, cues_held, is_master, shape_is}
use Rattle.cut_core.proofs.LeastLaws.{cost_least}
use Rattle.master_core.proofs.PartLaws.{one_best}
use Rattle.cut_core.proofs.TotalLaws.{windows_are_total}
use Rattle.master_core.proofs.planning.is_master.Goals as goal

pub returns : goal.returns
returns c =
    let cut = c.args.cut.now in
    let form = c.args.form in
    let can = c.can_cut.ensures in
    let made = c.args.bridges.now in
    let ends = c.args.ends.now in
    let are = c.requires.bridges in
    let one = one_best cut can made.chosen.items are.chosen in
    let zs = one.channels in
    let some = (first_shape cut can).some_channel in
    let law = c.written_in_parts.ensures in
    let each = subst (All (IsPlace cut)) are.places_are are.each_there in
    let windows : made.total ≡ windows_total cut zs = c.requires.total ∙ costs_stand cut zs can one.best made.chosen.items are.chosen each in
    let over_all : windows_total cut zs ≡ total_cost cut zs = windows_are_total cut zs can (shape_is cut can form zs one.best one.long) (cues_held cut can form zs one.best one.long) c.places_are_windows.ensures in
    record {
      channels = zs;
      best = one.best;
      only = one.only;
      master = is_master cut can form zs one.best one.long (master_of cut form zs) refl;
      whole = are_channels cut can form zs one.best one.long;
      cost_is = windows ∙ over_all;
      joint = cost_least cut can c.least_together.ensures zs made.total (best_are_least cut zs one.best) (windows ∙ over_all);
      windows = windows;
      shows = ap (λ (ps : List BridgePlace). chosen_claims cut ps made.chosen.items) are.places_are ∙ claims_stand cut zs can one.best made.chosen.items are.chosen each;
      file = files.file cut form law ends c.requires.ends one some;
      text = files.file_is cut form law ends c.requires.ends one some;
      read_again = files.file_holds cut form law ends c.requires.ends one some can c.written_is_read.ensures;
    }
