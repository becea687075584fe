use Rattle.cut_core.proofs.takes.excerpts_of_file.Goals as goal

pub returns : goal.returns
returns c = record {
  excerpts = (c.in_ok-recording.recording, c.in_ok-recording.ensures.exact, c.in_ok-recording.ensures.shape, c.in_ok-take_excerpts.ensures);
  of = (c.in_ok-recording.recording, c.in_ok-recording.ensures.shape, c.in_ok-take_excerpts.ensures);
}
