use Rattle.std.proofs.Common.{◌≡◌, drop, map}
use Rattle.chunk_core.specs.Places.{span_chunk}
use Rattle.dsdiff_core.specs.Sounds.{sound_leads}
use Rattle.dsdiff_core.specs.Held.{held}
use Rattle.dsdiff_core.proofs.sound.leads.Given as goal

abbrev pub invariant-loop-span : goal.invariant-loop-span
invariant-loop-span l = sound_leads (map (span_chunk (held l.file)) (drop l.span-index l.top)) ≡ sound_leads (map (span_chunk (held l.file)) l.top)
