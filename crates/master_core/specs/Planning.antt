-- What is planned for a master.
use Rattle.std.specs.Prelude.{◌≡◌, ℕ, Bool, List, Some}
use Rattle.form_core.specs.declared.form.Form.{Form}
use Rattle.form_core.specs.Forms.{text_in}
use Rattle.form_core.specs.Writing.{HoldsSound}
use Rattle.cut_core.specs.Cuts.{CutContent}
use Rattle.cut_core.specs.Masters.{IsMasterOf, AreMasterChannels, CostLeast, total_cost}
use Rattle.master_core.specs.Choosing.{chosen_claims}
use Rattle.cut_core.specs.Claims.{claims, windows_total}
use Rattle.master_core.specs.Best.{AreBestChannels, master_of}
use Rattle.master_core.specs.declared.choosing.ChosenBridges.{ChosenBridges}

-- the cut has one list of best channels, and no other: they make a master with the cost of the bridges, and no master
-- costs less; the bridges are what a certificate shows of them; this is their file, and it is read again
pub record PlansMaster (cut : CutContent) (form : Form) (made : ChosenBridges) : Type 0 where
  pub channels : List (List Bool)
  pub best : AreBestChannels cut channels
  pub only : (others : List (List Bool)) → AreBestChannels cut others → others ≡ channels
  pub master : IsMasterOf cut form (master_of cut form channels)
  pub whole : AreMasterChannels cut channels
  pub cost_is : made.total ≡ total_cost cut channels
  pub joint : CostLeast cut channels made.total
  pub windows : made.total ≡ windows_total cut channels
  pub shows : chosen_claims cut made.places.items made.chosen.items ≡ claims cut channels
  pub file : List ℕ
  pub text : text_in form (master_of cut form channels) ≡ Some file
  pub read_again : HoldsSound form (master_of cut form channels) file
