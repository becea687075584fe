-- What is played of a project and a file.
use Rattle.std.specs.Prelude.{◌≡◌, ℕ, ◌%◌, List, Some, Result, Err, nat_eq, if◌then◌else◌}
use Rattle.std.specs.Option.{ok_or}
use Rattle.chunk_core.specs.Steps.{◌>>=◌}
use Rattle.dsd_bits.specs.Contents.{Content}
use Rattle.fir_core.specs.Decimator.{Decimator}
use Rattle.wave_core.specs.Texts.{wave_text}
use Rattle.player_core.specs.Samples.{pcm}
use Rattle.form_core.specs.declared.form.Form.{Form}
use Rattle.form_core.specs.Forms.{HoldsAs}
use Rattle.form_core.specs.Opening.{opened_of}
use Rattle.sound_core.specs.declared.fault.StreamFault.TheVariants.{RateNotDivided, TooLarge}
use Rattle.request_core.specs.declared.fault.Fault.{Fault}
use Rattle.request_core.specs.declared.fault.Fault.TheVariants.{Stream}
use Rattle.request_core.specs.Faults.{fault_of_file}
use Rattle.request_core.specs.Projects.{SaysDecimator, decimator_of_text}
use Rattle.form_core.specs.Steps.{map_err}

-- the project's text says a decimator, the file holds a recording, the factor divides its rate, and these bytes are the
-- WAVE text of its samples
pub record Plays (project file bytes : List ℕ) : Type 0 where
  pub decimator : Decimator
  pub form : Form
  pub recording : Content
  pub project_says : SaysDecimator project decimator
  pub file_holds : HoldsAs file form recording
  pub rate_divided : recording.rate % decimator.factor ≡ 0
  pub text : wave_text (pcm recording decimator) ≡ Some bytes

-- the bytes that project and file play, or the first fault: project, its decimator, file, rate, size
unfoldable pub played_of : List ℕ → List ℕ → Result (List ℕ) Fault
played_of project file = do
  d ← decimator_of_text project
  opened ← map_err fault_of_file (opened_of file)
  if nat_eq (opened.recording.rate % d.factor) 0 then ok_or (wave_text (pcm opened.recording d)) (Stream TooLarge) else Err (Stream RateNotDivided)
