use Rattle.std.proofs.Common.{List, ℕ, is_some, refl, ap, subst, ◌∙◌}
use Rattle.std.specs.Prelude.{find}
use Rattle.dsdiff_core.specs.Faulty.{TellFault}
use Rattle.dsdiff_core.specs.Spans.{holds_property}
use Rattle.dsdiff_core.proofs.FaultyPlaces.{starts}
use Rattle.dsdiff_core.proofs.faulty.start_of.Goals as goal

pub returns-clause-faulty : goal.returns-clause-faulty
returns-clause-faulty c = λ rest.
    let lead = c.args.lead.now in
    let told = subst (λ (file : List ℕ). TellFault file lead c.in-Some.fault c.in-Some.is_open) c.whole-file.ensures.value (rw c.in-Some.is at c.in_ok-fault.ensures.fault) in
    starts c.args.prefix.now rest c.args.at lead c.requires.place.0 c.requires.place.2 c.requires.found _ c.requires.begins c.requires.form c.requires.place.1 c.requires.place.3 told refl refl
    (c.is_some.ensures ∙ ap is_some c.first_with.ensures)
    (c.is_some-2.ensures ∙ ap is_some c.first_sound_property.ensures.value ∙ ap (λ (file : List ℕ). is_some (find (holds_property file) lead)) c.whole-file.ensures.value)
    (c.is_some-3.ensures ∙ ap is_some c.first_with-2.ensures)
