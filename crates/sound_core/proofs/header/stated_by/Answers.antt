use Rattle.dsd_bits.specs.declared.sound.SoundAt.TheVariants.{More, Found}
use Rattle.sound_core.proofs.NamingLaws.{form_before, form_found, form_more, lost_refuses, past_refuses, unstated_refuses}
use Rattle.sound_core.proofs.header.stated_by.Goals as goal

pub returns-in-Found-clause-found : goal.returns-in-Found-clause-found
returns-in-Found-clause-found c = form_found c.args.prefix.now (Found c.in-Found.sound) (rw c.in-Found.is at c.in_ok-sound.ensures.exact)

pub stated_later-requires : goal.stated_later-requires
stated_later-requires c = record {
  walked = rw c.in-More.is at c.in_ok-sound.ensures.stated;
  refused = form_more c.args.prefix.now More (rw c.in-More.is at c.in_ok-sound.ensures.exact);
  before = form_before c.args.prefix.now More (rw c.in-More.is at c.in_ok-sound.ensures.exact);
}

pub returns-in-Unstated-clause-refused : goal.returns-in-Unstated-clause-refused
returns-in-Unstated-clause-refused c = unstated_refuses c.args.prefix.now c.in-Unstated.at (rw c.in-Unstated.is at c.in_ok-sound.ensures.stated).1 (rw c.in-Unstated.is at c.in_ok-sound.ensures.exact)

pub returns-in-Unstated-clause-sure : goal.returns-in-Unstated-clause-sure
returns-in-Unstated-clause-sure c = rw c.in-Unstated.is at c.in_ok-sound.ensures.stated

pub returns-in-PastForm-clause-refused : goal.returns-in-PastForm-clause-refused
returns-in-PastForm-clause-refused c = past_refuses c.args.prefix.now c.in-PastForm.at (rw c.in-PastForm.is at c.in_ok-sound.ensures.stated).1 (rw c.in-PastForm.is at c.in_ok-sound.ensures.exact)

pub returns-in-PastForm-clause-sure : goal.returns-in-PastForm-clause-sure
returns-in-PastForm-clause-sure c = rw c.in-PastForm.is at c.in_ok-sound.ensures.stated

pub returns-in-NoSound-clause-refused : goal.returns-in-NoSound-clause-refused
returns-in-NoSound-clause-refused c = lost_refuses c.args.prefix.now (rw c.in-NoSound.is at c.in_ok-sound.ensures.stated).0 (rw c.in-NoSound.is at c.in_ok-sound.ensures.exact)

pub returns-in-NoSound-clause-sure : goal.returns-in-NoSound-clause-sure
returns-in-NoSound-clause-sure c = (rw c.in-NoSound.is at c.in_ok-sound.ensures.stated).0
