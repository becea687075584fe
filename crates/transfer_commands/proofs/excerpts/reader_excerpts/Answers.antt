use Rattle.std.proofs.Common.{◌∙◌, Err, List, Option, ℕ, ap, subst}
use Rattle.std.specs.Prelude.{IfSome}
use Rattle.splice_core.specs.Splices.{splice_content}
use Rattle.sound_core.proofs.NamingLaws.{file_named}
use Rattle.transfer_commands.specs.Excerpts.{HoldsExcerpts, AreExcerptsIn}
use Rattle.transfer_commands.proofs.StreamLaws.{given_excerpted, left_excerpted, left_named, take_named}
use Rattle.transfer_commands.proofs.excerpts.reader_excerpts.Goals as goal

pub returns-in-Ok-read_stretches : goal.returns-in-Ok-read_stretches
returns-in-Ok-read_stretches g c =
    let read = c.in-Ok-read_stretches.ensures in
    let splice = splice_content c.args.splice.now in
    let left_is = ap g.R.Read.remaining c.new-inlet.ensures.reader in
    let own = c.deref.ensures.value ∙ c.in-Ok.ensures in
    let some = given_excerpted c.in-Ok-read_stretches.kept splice c.args.number c.excerpts_by.result c.deref.result.now own c.excerpts_by.ensures
    read.ok.0 read.any_reader.0 read.any_reader.2 in
    record {
      excerpts = subst (λ (o : Option (List ℕ)). IfSome o (λ file. HoldsExcerpts splice c.args.number file c.excerpts_by.result)) left_is (left_excerpted c.in-Ok-read_stretches.kept splice c.args.number c.excerpts_by.result c.deref.result.now own c.excerpts_by.ensures _ read.ok);
      any_reader = (read.any_reader.0, some);
      of = (some.recording, some.shape, some.are_excerpts);
      fault = tt;
    }

pub returns-in-Err-Refused : goal.returns-in-Err-Refused
returns-in-Err-Refused g c =
    let named = rw c.in-Err-Refused.field-0-is at c.in-Err-Refused.ensures.named in
    let splice = splice_content c.args.splice.now in
    record {
      excerpts = subst (λ (o : Option (List ℕ)). IfSome o (λ file. AreExcerptsIn splice c.args.number file (Err c.take_unread.result))) (ap g.R.Read.remaining c.new-inlet.ensures.reader)
          (left_named _ splice c.args.number c.in-Err-Refused.fault c.take_unread.result c.take_unread.ensures (file_named g.R.Read.remaining _ _ c.in-Err-Refused.fault named));
      any_reader = (named.read, rw c.take_unread.ensures (take_named c.args.number named.read c.in-Err-Refused.fault named.sure.now));
      of = tt;
      fault = tt;
    }

pub returns-in_default : goal.returns-in_default
returns-in_default g c = record { excerpts = tt; any_reader = tt; of = tt; fault = tt }

pub returns : goal.returns
returns g c = record { excerpts = tt; any_reader = tt; of = tt; fault = tt }
