use Rattle.std.proofs.Common.{inr, refl, subst}
use Rattle.std.specs.Prelude.{⊤}
use Rattle.sound_core.specs.Causes.{IsCause}
use Rattle.sound_core.specs.declared.cause.Cause.TheVariants as causes
use Rattle.sound_core.specs.Naming.{NamesFault}
use Rattle.sound_core.proofs.ReaderLaws.{counts_none_refused, same_self}
use Rattle.sound_core.proofs.UnsureLaws.{counts_unread, how_unread, stated_unread}
use Rattle.sound_core.proofs.naming.refusal_of.Goals as goal

pub returns-in-Fault : goal.returns-in-Fault
returns-in-Fault g c = record {
  same = same_self c.args.reader.now;
  named = λ first known. subst (IsCause ⊤ g.R.Read.remaining first c.args.reader.now) c.in-Fault.is known;
  how = tt;
  counts = counts_none_refused c.args.reader.now c.args.reader.now refl c.requires.counted;
}

pub name_untold-requires : goal.name_untold-requires
name_untold-requires g c = record { known = (c.requires.known.0, subst (IsCause ⊤ g.R.Read.remaining c.requires.known.0 c.args.reader.now) c.in-Unstated.is c.requires.known.1) }

pub returns-in-Unstated : goal.returns-in-Unstated
returns-in-Unstated g c =
    let r = c.name_untold.result in
    record {
      same = c.name_untold.ensures.same;
      named = λ first known. rw c.unread_of.ensures (stated_unread (NamesFault g.R.Read.remaining first c.name_untold.new.reader.inlet.now) r (c.name_untold.ensures.named first (subst (IsCause ⊤ g.R.Read.remaining first c.args.reader.now) c.in-Unstated.is known)));
      how = rw (c.unread_of.ensures, c.in-Unstated.is) (how_unread (causes.Unstated c.in-Unstated.at) r tt c.name_untold.ensures.fault);
      counts = rw c.unread_of.ensures (counts_unread c.args.reader.now c.name_untold.new.reader r c.name_untold.ensures.counts);
    }

pub name_past_form-requires : goal.name_past_form-requires
name_past_form-requires g c = record { known = (c.requires.known.0, subst (IsCause ⊤ g.R.Read.remaining c.requires.known.0 c.args.reader.now) c.in-PastForm.is c.requires.known.1) }

pub returns-in-PastForm : goal.returns-in-PastForm
returns-in-PastForm g c =
    let r = c.name_past_form.result in
    record {
      same = c.name_past_form.ensures.same;
      named = λ first known. rw c.unread_of-in-PastForm.ensures (stated_unread (NamesFault g.R.Read.remaining first c.name_past_form.new.reader.inlet.now) r (c.name_past_form.ensures.named first (subst (IsCause ⊤ g.R.Read.remaining first c.args.reader.now) c.in-PastForm.is known)));
      how = rw (c.unread_of-in-PastForm.ensures, c.in-PastForm.is) (how_unread (causes.PastForm c.in-PastForm.at) r tt c.name_past_form.ensures.fault);
      counts = rw c.unread_of-in-PastForm.ensures (counts_unread c.args.reader.now c.name_past_form.new.reader r c.name_past_form.ensures.counts);
    }

pub name_faulty-requires : goal.name_faulty-requires
name_faulty-requires g c = record { known = (c.requires.known.0, subst (IsCause ⊤ g.R.Read.remaining c.requires.known.0 c.args.reader.now) c.in-Faulty.is c.requires.known.1) }

pub returns-in-Faulty : goal.returns-in-Faulty
returns-in-Faulty g c =
    let r = c.name_faulty.result in
    record {
      same = c.name_faulty.ensures.same;
      named = λ first known. rw c.unread_of-in-Faulty.ensures (stated_unread (NamesFault g.R.Read.remaining first c.name_faulty.new.reader.inlet.now) r (c.name_faulty.ensures.named first (subst (IsCause ⊤ g.R.Read.remaining first c.args.reader.now) c.in-Faulty.is known)));
      how = rw (c.unread_of-in-Faulty.ensures, c.in-Faulty.is) (how_unread (causes.Faulty c.in-Faulty.start) r tt c.name_faulty.ensures.fault);
      counts = rw c.unread_of-in-Faulty.ensures (counts_unread c.args.reader.now c.name_faulty.new.reader r c.name_faulty.ensures.counts);
    }

pub name_soundless-requires : goal.name_soundless-requires
name_soundless-requires g c = record { known = (c.requires.known.0, subst (IsCause ⊤ g.R.Read.remaining c.requires.known.0 c.args.reader.now) c.in-NoSound.is c.requires.known.1) }

pub returns-in-NoSound : goal.returns-in-NoSound
returns-in-NoSound g c =
    let r = c.name_soundless.result in
    record {
      same = c.name_soundless.ensures.same;
      named = λ first known. rw c.unread_of-in-NoSound.ensures (stated_unread (NamesFault g.R.Read.remaining first c.name_soundless.new.reader.inlet.now) r (c.name_soundless.ensures.named first (subst (IsCause ⊤ g.R.Read.remaining first c.args.reader.now) c.in-NoSound.is known)));
      how = rw (c.unread_of-in-NoSound.ensures, c.in-NoSound.is) (how_unread causes.NoSound r tt c.name_soundless.ensures.fault);
      counts = rw c.unread_of-in-NoSound.ensures (counts_unread c.args.reader.now c.name_soundless.new.reader r c.name_soundless.ensures.counts);
    }

pub returns-in-Unknown : goal.returns-in-Unknown
returns-in-Unknown g c = record {
  same = same_self c.args.reader.now;
  named = λ first known. tt;
  how = inr (refl, c.in-Unknown.is);
  counts = counts_none_refused c.args.reader.now c.args.reader.now refl c.requires.counted;
}
