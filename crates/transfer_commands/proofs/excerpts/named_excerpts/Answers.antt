use Rattle.std.proofs.Common.{◌≡◌, ◌<◌, ◌∙◌, [], Global, List, String, ℕ, ap, arith, get_or, length, map, refl, subst, sym}
use Rattle.std.specs.Prelude.{string_bytes}
use Rattle.std.proofs.lemmas.List.{get_or-map, length-map}
use Rattle.std.proofs.lemmas.Result.{IfOk-weaker}
use Rattle.splice_core.specs.Splices.{splice_content}
use Rattle.transfer_commands.specs.Excerpts.{StreamsRead}
use Rattle.transfer_commands.proofs.StreamLaws.{streamed_excerpted}
use Rattle.transfer_commands.proofs.excerpts.named_excerpts.Goals as goal

-- the name of a number, as bytes
named : (names : List (String Global)) (n : ℕ) (name : String Global) (bytes : List ℕ) → n < length (map string_bytes names) → name ≡ get_or names n name → bytes ≡ string_bytes name → bytes ≡ get_or (map string_bytes names) n []
named names n name bytes there is own = own ∙ ap string_bytes is ∙ sym (get_or-map string_bytes names n name [] (omega (arith, there, length-map names string_bytes)))

pub returns : goal.returns
returns g c =
    let old = g.F.Folder.view c.args.folder.now in
    let splice = splice_content c.args.splice.now in
    let n = c.args.number in
    let name = named c.args.splice.now.takes.items n c.index-name.result.now c.deref.result.now c.requires c.index-name.ensures c.deref.ensures in
    record {
      same = c.streamed_excerpts.ensures.same;
      excerpts = IfOk-weaker c.streamed_excerpts.result _ _ (λ excerpts found.
          streamed_excerpted c.held_is_opened.ensures old old splice n (get_or splice.takes n []) excerpts refl (subst (λ (name : List ℕ). StreamsRead old splice n name excerpts) name found)) c.streamed_excerpts.ensures.excerpts;
      of = c.streamed_excerpts.ensures.of;
      fault = c.streamed_excerpts.ensures.fault;
    }
