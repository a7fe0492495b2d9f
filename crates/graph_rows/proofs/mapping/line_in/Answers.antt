use Rattle.std.proofs.Common.{◌≡◌, ◌++◌, codes, rules}
use Rattle.std.specs.Fmt.{decimal}
use Rattle.graph_theory.proofs.MappingWords.{HasNoLine-arrow, HasNoLine-feed, HasNoLine-image}
use Rattle.graph_rows.proofs.mapping.line_in.Goals as goal

pub returns-in_default-after : goal.returns-in_default-after
returns-in_default-after c =
    let e : c.args.bytes.now ≡ decimal c.args.vertex ++ c.in-Some.arrow.now = search rules in
    HasNoLine-arrow c.args.vertex c.args.bytes.now c.in-Some.arrow.now e c.in_default-after.ensures

pub returns-in_default-first_line : goal.returns-in_default-first_line
returns-in_default-first_line c =
    let e : c.args.bytes.now ≡ decimal c.args.vertex ++ c.in-Some.arrow.now = search rules in
    let f : c.in-Some.arrow.now ≡ codes " -> " ++ c.in-Some-after.image.now = search rules in
    HasNoLine-feed c.args.vertex c.args.bytes.now c.in-Some.arrow.now c.in-Some-after.image.now e f c.in_default-first_line.ensures.split

pub returns-in-None : goal.returns-in-None
returns-in-None c =
    let e : c.args.bytes.now ≡ decimal c.args.vertex ++ c.in-Some.arrow.now = search rules in
    let f : c.in-Some.arrow.now ≡ codes " -> " ++ c.in-Some-after.image.now = search rules in
    HasNoLine-image c.args.vertex c.args.bytes.now c.in-Some.arrow.now c.in-Some-after.image.now c.in-Some-first_line.word.now c.in-Some-first_line.rest.now e f
    c.in-Some-first_line.ensures.split c.in-Some-first_line.ensures.first c.in-None.ensures
