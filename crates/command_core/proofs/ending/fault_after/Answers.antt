use Rattle.std.proofs.Common.{◌∙◌, inr, refl, subst}
use Rattle.folder_core.specs.Files.{Opens, View}
use Rattle.command_core.proofs.ending.fault_after.Goals as goal

pub returns-then-reads_through-2 : goal.returns-then-reads_through-2
returns-then-reads_through-2 g c = record {
  same = c.reads_through-then-reads_through.ensures.same ∙ c.reads_through.ensures.same;
  fault = inr refl;
  opened = λ _. (
    c.reads_through.ensures.opened c.if-reads_through.true,
    subst (λ (v : View). Opens v c.args.cert.now) c.reads_through.ensures.same (c.reads_through-then-reads_through.ensures.opened c.if-reads_through-2.true),
  );
}
