use Rattle.std.proofs.Common.{◌∙◌, sym, inl, inr}
use Rattle.std.specs.Cmp.Lexicographic.{other_text}
use Rattle.job_list.proofs.Pieces.{no_target_cut, from_not}
use Rattle.job_list.proofs.parts.target_in.Goals as goal

pub returns-then-ne : goal.returns-then-ne
returns-then-ne c = no_target_cut c.args.rest.now c.in-Some.target.now c.in-Some.last.now c.in-Some.ensures.0 c.in-Some.ensures.1 (inl (λ e. other_text _ _ (from_not _ c.if-ne.ensures) (e ∙ sym c.as_slice.ensures)))

pub returns-then-not-is_name : goal.returns-then-not-is_name
returns-then-not-is_name c = no_target_cut c.args.rest.now c.in-Some.target.now c.in-Some.last.now c.in-Some.ensures.0 c.in-Some.ensures.1 (inr c.if-not-is_name.ensures)
