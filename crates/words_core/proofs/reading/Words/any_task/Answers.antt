use Rattle.std.proofs.Common.{IfErr, IfOk, subst, sym}
use Rattle.words_core.specs.Reading.{ReadAsks, ReadRefused}
use Rattle.words_core.proofs.reading.Words.any_task.Goals as goal

pub returns-in-info : goal.returns-in-info
returns-in-info c = record {
  asked = subst (λ command. IfOk c.info_task.result (ReadAsks command c.args.self.now)) (sym c.in-info.is) c.info_task.ensures.asked;
  refused = subst (λ command. IfErr c.info_task.result (ReadRefused command c.args.self.now)) (sym c.in-info.is) c.info_task.ensures.refused;
}

pub returns-in-convert : goal.returns-in-convert
returns-in-convert c = record {
  asked = subst (λ command. IfOk c.convert_task.result (ReadAsks command c.args.self.now)) (sym c.in-convert.is) c.convert_task.ensures.asked;
  refused = subst (λ command. IfErr c.convert_task.result (ReadRefused command c.args.self.now)) (sym c.in-convert.is) c.convert_task.ensures.refused;
}

pub returns-in-play : goal.returns-in-play
returns-in-play c = record {
  asked = subst (λ command. IfOk c.play_task.result (ReadAsks command c.args.self.now)) (sym c.in-play.is) c.play_task.ensures.asked;
  refused = subst (λ command. IfErr c.play_task.result (ReadRefused command c.args.self.now)) (sym c.in-play.is) c.play_task.ensures.refused;
}

pub returns-in-edit : goal.returns-in-edit
returns-in-edit c = record {
  asked = subst (λ command. IfOk c.edit_task.result (ReadAsks command c.args.self.now)) (sym c.in-edit.is) c.edit_task.ensures.asked;
  refused = subst (λ command. IfErr c.edit_task.result (ReadRefused command c.args.self.now)) (sym c.in-edit.is) c.edit_task.ensures.refused;
}

pub returns-in-check : goal.returns-in-check
returns-in-check c = record {
  asked = subst (λ command. IfOk c.check_task.result (ReadAsks command c.args.self.now)) (sym c.in-check.is) c.check_task.ensures.asked;
  refused = subst (λ command. IfErr c.check_task.result (ReadRefused command c.args.self.now)) (sym c.in-check.is) c.check_task.ensures.refused;
}

pub returns-in-nulltest : goal.returns-in-nulltest
returns-in-nulltest c = record {
  asked = subst (λ command. IfOk c.null_test_task.result (ReadAsks command c.args.self.now)) (sym c.in-nulltest.is) c.null_test_task.ensures.asked;
  refused = subst (λ command. IfErr c.null_test_task.result (ReadRefused command c.args.self.now)) (sym c.in-nulltest.is) c.null_test_task.ensures.refused;
}

pub returns-in-sum : goal.returns-in-sum
returns-in-sum c = record {
  asked = subst (λ command. IfOk c.sum_task.result (ReadAsks command c.args.self.now)) (sym c.in-sum.is) c.sum_task.ensures.asked;
  refused = subst (λ command. IfErr c.sum_task.result (ReadRefused command c.args.self.now)) (sym c.in-sum.is) c.sum_task.ensures.refused;
}
