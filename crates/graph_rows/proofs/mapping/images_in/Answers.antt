use Rattle.std.proofs.Common.{◌≡◌, ◌++◌, ◌^◌, ◌<◌, length, rules}
use Rattle.graph_theory.specs.Mapping.{mapping_line}
use Rattle.graph_theory.proofs.MappingWords.{AreNumbers32-push, yes_text-push}
use Rattle.graph_rows.proofs.mapping.images_in.Goals as goal

pub loop-rest-preserved : goal.loop-rest-preserved
loop-rest-preserved c =
    let l = c.loop-rest in
    let t = c.in-Some-line_in.image in
    let small : t < 2 ^ 32 = search rules in
    let line : l.rest.now ≡ mapping_line (length l.images.items) t ++ c.in-Some-line_in.more.now = search rules in
    let items = c.in_ok-push-in-Some-line_in.ensures.items in
    record {
      images = rw items (AreNumbers32-push l.images.items t l.invariant.images small);
      text = rw items (yes_text-push c.args.bytes.now l.images.items l.rest.now c.in-Some-line_in.more.now t l.invariant.text line);
    }
