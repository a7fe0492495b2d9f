use Rattle.std.proofs.Common.{◌≡◌, Some, rules}
use Rattle.std.specs.Cmp.Lexicographic.{other_text}
use Rattle.graph_theory.specs.Text.{number_of}
use Rattle.graph_theory.proofs.MappingWords.{no_image, other_image}
use Rattle.graph_rows.proofs.mapping.image_in.Goals as goal

pub returns-in_default : goal.returns-in_default
returns-in_default c = no_image c.args.word.now c.number_in.result c.number_in.ensures c.in_default.is

pub returns-else-eq : goal.returns-else-eq
returns-else-eq c =
    let number : number_of c.args.word.now ≡ Some c.in-Some.image = cc (c.number_in.ensures, c.in-Some.is) in
    other_image c.args.word.now c.as_bytes.result.now c.in-Some.image number (search rules) (other_text _ _ c.if-eq.ensures)
