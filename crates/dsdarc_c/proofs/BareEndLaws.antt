-- The end of a file of which the bits are pulled.
use Rattle.std.proofs.Common.{◌≡◌, ℕ, List, sym, subst, ◌∙◌, arith}
use Rattle.std.specs.Prelude.{Vec}
use Rattle.std_heap.specs.declared.Global.{Global}
use Rattle.dsd_bits.specs.declared.sound.Sound.{Sound}
use Rattle.native_core.specs.declared.run.BitRun.{BitRun}
use Rattle.sound_core.specs.Files.{HoldsSomeRecording}
use Rattle.dsdarc_c.specs.Bare.{IsAtBareStage, IsBare}
use Rattle.dsdarc_c.specs.BareCalls.{IsAtBareEnd}
use Rattle.dsdarc_c.specs.Ending.{EndsAfterSound}
use Rattle.dsdarc_c.specs.declared.bare.Bare.{Bare}
use Rattle.dsdarc_c.specs.declared.bare.BareStage.TheVariants as stages
use Rattle.dsdarc_c.proofs.BareLaws.{bare_stage_is}
use Rattle.dsdarc_c.proofs.EndingLaws.{cut_sound, header_alone}

pub bare_ends_after : (p : Bare) (file : List ℕ) (s : Sound) (back : Vec ℕ Global) → IsBare p → p.stage ≡ stages.After s back → IsAtBareEnd file p → EndsAfterSound file p.header.items s back.items p.place
bare_ends_after p file s back keeps is (start, pulled, plays, long) =
    let w = bare_stage_is p file start pulled (stages.After s back) is plays in
    let after = subst (IsAtBareStage p.layout p.header.items p.place) is keeps.stage in
    record { long = long; begins = w.0; in_file = after.after; form = w.2 }

pub bare_not_at_header : (p : Bare) (file : List ℕ) (walked : ℕ) → IsBare p → p.stage ≡ stages.Header walked → IsAtBareEnd file p → HoldsSomeRecording file → ⊥
bare_not_at_header p file walked keeps is (start, pulled, plays, long) holds =
    let w = bare_stage_is p file start pulled (stages.Header walked) is plays in
    let at = subst (IsAtBareStage p.layout p.header.items p.place) is keeps.stage in
    header_alone file p.header.items w.0 (long ∙ sym at.place_is) at.unstated holds

pub bare_not_in_sound : (p : Bare) (file : List ℕ) (s : Sound) (r : BitRun) → IsBare p → p.stage ≡ stages.Sound s r → IsAtBareEnd file p → HoldsSomeRecording file → ⊥
bare_not_in_sound p file s r keeps is (start, pulled, plays, long) holds =
    let w = bare_stage_is p file start pulled (stages.Sound s r) is plays in
    let at = subst (IsAtBareStage p.layout p.header.items p.place) is keeps.stage in
    cut_sound file p.header.items s w.begins at.0.ends (omega (arith, long, at.2)) holds
