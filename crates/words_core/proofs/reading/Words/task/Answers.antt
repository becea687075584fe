use Rattle.std.proofs.Common.{IfErr, IfOk}
use Rattle.words_core.specs.Asked.{HasPlaces, IsUnasked, LineAsks, TakesForm}
use Rattle.words_core.proofs.ReadingLaws.{forms_kept, kept_or, places_kept, task_asked, task_refused}
use Rattle.words_core.proofs.reading.Words.task.Goals as goal

pub returns : goal.returns
returns c =
    let read = c.args.self.now in
    let asked = c.any_task.result in
    let told = c.unless_no_text.result in
    record {
      asked = λ line was. kept_or (λ r. IfOk r (LineAsks line)) asked told c.unless_no_text.ensures (task_asked read asked c.any_task.ensures.asked line was) (λ word. tt);
      refused = λ line was. kept_or (λ r. IfErr r (IsUnasked line)) asked told c.unless_no_text.ensures (task_refused read asked c.any_task.ensures.refused line was) (λ word. tt);
      places = kept_or (λ r. IfOk r HasPlaces) asked told c.unless_no_text.ensures (places_kept read.command.now read asked c.any_task.ensures.asked) (λ word. tt);
      faults = kept_or (λ r. IfErr r TakesForm) asked told c.unless_no_text.ensures (forms_kept read.command.now read asked c.any_task.ensures.refused) (λ word. tt);
    }
