-- Reading a file in a fixed order, to a recording or the first fault.
use Rattle.std.specs.Prelude.{ℕ, List, [], ◌++◌, filter, length, map, Result, Ok}
use Rattle.chunk_core.specs.declared.layout.Span.{Span}
use Rattle.chunk_core.specs.Places.{span_chunk}
use Rattle.chunk_core.specs.Steps.{◌>>=◌}
use Rattle.dsd_bits.specs.declared.marks.Place.TheVariants.{Property, Master, Form}
use Rattle.dsd_bits.specs.Contents.{Content, MarkContent, OtherContent}
use Rattle.dsd_bits.specs.Ids.{DSD, MARK}
use Rattle.dsd_bits.specs.Lacing.{unlaced_all}
use Rattle.dsd_bits.specs.Layouts.{usual_layout}
use Rattle.dsdiff_core.specs.declared.fault.DsdiffFault.{DsdiffFault}
use Rattle.dsdiff_core.specs.Forms.{top_of}
use Rattle.dsdiff_core.specs.Kinds.{has_id}
use Rattle.dsdiff_core.specs.Marks.{mark_in}
use Rattle.dsdiff_core.specs.Masters.{masters_of}
use Rattle.dsdiff_core.specs.Others.{kept}
use Rattle.dsdiff_core.specs.Properties.{property_of}
use Rattle.dsdiff_core.specs.Sounds.{sound_leads, bytes_of_sound}
use Rattle.dsdiff_core.specs.Spans.{data_with}

-- the marks among the chunks of the edited masters
abbrev pub marks_of : List ℕ → List Span → List MarkContent
marks_of file inner = map mark_in (filter (has_id MARK) (map (span_chunk file) inner))

-- what is kept of the chunks of the sound property, of the edited masters and of the form
abbrev pub kept_others : List ℕ → List Span → List Span → List Span → List OtherContent
kept_others file parts inner top =
    kept Property (map (span_chunk file) parts) ++ (kept Master (map (span_chunk file) inner) ++ kept Form (map (span_chunk file) top))

-- the recording in a file, or the first fault
unfoldable pub recording_of : List ℕ → Result Content DsdiffFault
recording_of file = do
  top ← top_of file
  stated ← property_of file top
  sound ← bytes_of_sound (sound_leads (map (span_chunk file) top)) (data_with file DSD top) (length stated.ids)
  inner ← masters_of file top
  Ok (record {
    rate = stated.rate;
    channels = unlaced_all sound (length stated.ids);
    ids = stated.ids;
    layout = usual_layout (length stated.ids);
    marks = marks_of file inner;
    others = kept_others file stated.parts inner top;
    tag = [];
  })
