-- What is edited is what a project and takes come to, and which fault comes first.
use Rattle.std.proofs.Common.{◌≡◌, ℕ, Bool, List, length, None, Some, refl, sym, ap, subst, ◌∙◌}
use Rattle.dsd_bits.specs.Channels.{count_of}
use Rattle.dsd_bits.specs.Contents.{Content}
use Rattle.dsdiff_core.specs.declared.write_fault.WriteFault.{WriteFault}
use Rattle.dsdiff_core.specs.declared.write_fault.WriteFault.TheVariants as writes
use Rattle.splice_core.specs.Splices.{SpliceContent}
use Rattle.form_core.specs.declared.form.Form.{Form}
use Rattle.form_core.specs.declared.form.Form.TheVariants as forms
use Rattle.form_core.specs.Forms.{text_in}
use Rattle.form_core.specs.Parts.{FitsIn}
use Rattle.form_core.specs.Writing.{HoldsSound}
use Rattle.cut_core.specs.Cuts.{CutContent, master_length}
use Rattle.cut_core.specs.Opening.{IsWhole}
use Rattle.master_core.specs.Certificates.{cert_of}
use Rattle.cut_core.specs.Masters.{HoldCues, IsMasterOf, AreMasterChannels, CostLeast, channel_numbers, total_cost}
use Rattle.cut_core.specs.Claims.{IsCertOf, windows_total}
use Rattle.master_core.specs.Best.{AreBestChannels, IsBestMaster, master_of}
use Rattle.master_core.proofs.MasterLaws.{one_master}
use Rattle.judge_core.specs.Accepting.{Accepts, CostsLeast, CostsWindows, IsMaster}
use Rattle.archive_core.specs.Editing.{IsCertificate}
use Rattle.request_core.specs.Cutting.{SaysCut}

-- where no form is asked for, none is refused
no_form : (form : Form) → None ≡ Some form → ⊥
no_form form e = absurd cc

-- a cut into a file of a form is a cut
pub any_form : (project : List ℕ) (files : List (List ℕ)) (form : Form) (cut : CutContent) → SaysCut project files (Some form) cut → SaysCut project files None cut
any_form project files form cut says = record {
  splice = says.splice;
  project_says = says.project_says;
  opens = record { takes = says.opens.takes; cut_is = says.opens.cut_is; read = says.opens.read; fit = says.opens.fit; whole = λ e. absurd (no_form forms.Dsdiff e); room = says.opens.room };
}

-- one cut comes to one master
pub one_answer : (s t : CutContent) (form : Form) (p q : Content) (made file : List ℕ) (m n : ℕ) → s ≡ t → IsBestMaster s form p m → IsBestMaster t form q n → text_in form p ≡ Some made → text_in form q ≡ Some file → (made ≡ file) × (m ≡ n)
one_answer s t form p q made file m n e h k text reported =
    let both = one_master t form p q m n (subst (λ (x : CutContent). IsBestMaster x form p m) e h) k in
    let texts : Some made ≡ Some file = sym text ∙ ap (text_in form) both.0 ∙ reported in
    let same : made ≡ file = cc in
    (same, both.1)

-- one cut has one file in a form
pub one_file : (cut : CutContent) (form : Form) (xs ys : List (List Bool)) (made file : List ℕ) → AreBestChannels cut xs → AreBestChannels cut ys → text_in form (master_of cut form xs) ≡ Some made → text_in form (master_of cut form ys) ≡ Some file → made ≡ file
one_file cut form xs ys made file h k text reported =
    let both = one_answer cut cut form (master_of cut form xs) (master_of cut form ys) made file (total_cost cut xs) (total_cost cut ys) refl
    (record { channels = xs; best = h; recording_is = refl; cost_is = refl }) (record { channels = ys; best = k; recording_is = refl; cost_is = refl }) text reported in
    both.0

-- a cut into whole bytes fits a file of the form
fits_form : (form : Form) (splice : SpliceContent) → IsWhole (Some form) splice → FitsIn form (master_length splice.cues)
fits_form forms.Dsdiff splice whole = λ e. whole refl
fits_form forms.Dsf splice whole = λ e. absurd cc
fits_form forms.Dsf8 splice whole = λ e. absurd cc

pub plan_only_memory : (form : Form) (splice : SpliceContent) → IsWhole (Some form) splice → (e : WriteFault) → (e ≡ writes.NotWholeBytes → FitsIn form (master_length splice.cues) → ⊥) → e ≡ writes.Memory
plan_only_memory form splice whole writes.NotWholeBytes h = absurd (h refl (fits_form form splice whole))
plan_only_memory form splice whole writes.Memory h = refl

-- a file with the sound of a master is a master
module _ (project : List ℕ) (files : List (List ℕ)) (cut : CutContent) (says : SaysCut project files None cut) (form : Form) (r : Content) (is : IsMasterOf cut form r) (file : List ℕ) (sound : HoldsSound form r file) where
  again : IsMasterOf cut form sound.again
  again = record {
    shape = record { same_rate = sound.same_rate ∙ is.shape.same_rate; as_many_channels = ap length sound.same_channels ∙ is.shape.as_many_channels };
    long = ap count_of sound.same_channels ∙ is.long;
    titled = λ e. sound.same_marks e ∙ is.titled e;
    cued = subst (HoldCues cut (channel_numbers cut)) (sym sound.same_channels) is.cued;
  }

  pub file_is_master : AreMasterChannels cut r.channels → IsMaster project files file
  file_is_master made = record {
    cut = cut;
    says = says;
    form = form;
    recording = sound.again;
    file_holds = sound.holds;
    same_rate = again.shape.same_rate;
    made = subst (AreMasterChannels cut) (sym sound.same_channels) made;
    titled = again.titled;
  }

  pub file_is_accepted : (cert : List ℕ) (cost : ℕ) → IsCertOf cut r.channels cert → cost ≡ total_cost cut r.channels → Accepts project files file cert cost
  file_is_accepted cert cost shown is_cost = record {
    cut = cut;
    says = says;
    form = form;
    recording = sound.again;
    master_holds = sound.holds;
    is_master = again;
    shown = subst (λ (zs : List (List Bool)). IsCertOf cut zs cert) (sym sound.same_channels) shown;
    cost_is = is_cost ∙ ap (total_cost cut) (sym sound.same_channels);
  }

  pub file_certificate : (cert : List ℕ) → cert ≡ cert_of cut r.channels → IsCertificate project files file cert
  file_certificate cert is_text = record {
    cut = cut;
    says = says;
    form = form;
    recording = sound.again;
    file_holds = sound.holds;
    text = is_text ∙ ap (cert_of cut) (sym sound.same_channels);
  }

  pub file_costs : (cost : ℕ) → cost ≡ windows_total cut r.channels → CostsWindows project files file cost
  file_costs cost is_cost = record {
    cut = cut;
    says = says;
    form = form;
    recording = sound.again;
    file_holds = sound.holds;
    cost_is = is_cost ∙ ap (windows_total cut) (sym sound.same_channels);
  }

  pub file_least : AreMasterChannels cut r.channels → (cost : ℕ) → CostLeast cut r.channels cost → CostsLeast project files file cost
  file_least made cost least = record {
    cut = cut;
    says = says;
    form = form;
    recording = sound.again;
    file_holds = sound.holds;
    made = subst (AreMasterChannels cut) (sym sound.same_channels) made;
    least = subst (λ (zs : List (List Bool)). CostLeast cut zs cost) (sym sound.same_channels) least;
  }
