use Rattle.std.proofs.Common.{◌≡◌, ℕ, List, [], ◌∷◌, ◌++◌, subst, ap, ◌∙◌}
use Rattle.std.proofs.lemmas.Bool.Decides.{Decides-eqb}
use Rattle.std.proofs.lemmas.Slice.Eq.{strip_suffix_is}
use Rattle.log_theory.specs.OpbReading.{without_returns}
use Rattle.opb_text.specs.Cutting.{HasNo}
use Rattle.opb_text.proofs.LineEnds.{HasNo-front, without_returns-return, without_returns-line}
use Rattle.opb_text.proofs.line_words.without_return.Goals as goal

pub returns-in-Some : goal.returns-in-Some
returns-in-Some c =
    let cases = strip_suffix_is Decides-eqb c.args.line.now (13 ∷ []) c.strip_suffix.result c.strip_suffix.ensures.cases in
    let e : c.args.line.now ≡ c.in-Some.front.now ++ 13 ∷ [] = rw c.in-Some.is at cases in
    let h = subst (HasNo 10) e c.requires in
    record {
      none = HasNo-front 10 c.in-Some.front.now (13 ∷ []) h;
      same = λ rest. ap (λ (t : List ℕ). without_returns (t ++ 10 ∷ rest)) e ∙ without_returns-return c.in-Some.front.now rest h;
    }

pub returns-in-None : goal.returns-in-None
returns-in-None c =
    let cases = strip_suffix_is Decides-eqb c.args.line.now (13 ∷ []) c.strip_suffix.result c.strip_suffix.ensures.cases in
    record {
      none = c.requires;
      same = λ rest. without_returns-line c.args.line.now rest c.requires (rw c.in-None.is at cases);
    }
