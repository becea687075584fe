use Rattle.dsdarc_c.specs.BareCalls.{RefusesChoice, RefusesFilter}
use Rattle.dsdarc_c.proofs.JoinedLaws.{if_err_map, refused_by}
use Rattle.dsdarc_c.proofs.joined_choosing.first_sound.Goals as goal

pub returns-in-Choosing-clause-refused : goal.returns-in-Choosing-clause-refused
returns-in-Choosing-clause-refused c = if_err_map _ _ c.open_sound.result (λ fault is layout. refused_by c.args.p.now (RefusesChoice c.args.p.now.bare layout) (λ none. none) (λ none. none) fault (is.0 layout)) c.open_sound.ensures.refused

pub returns-in-Choosing-clause-refused_filter : goal.returns-in-Choosing-clause-refused_filter
returns-in-Choosing-clause-refused_filter c = if_err_map _ _ c.open_sound.result (λ fault is d. refused_by c.args.p.now (RefusesFilter c.args.p.now.bare d) (λ none. none) (λ none. none) fault (is.1 d)) c.open_sound.ensures.refused
