use Rattle.proof_theory.proofs.Rules.{axiom_form_holds, sum_holds, times_holds, divide_holds, saturate_holds, contradiction_fails}
use Rattle.proof_theory.proofs.rule_laws.Goals as goal

pub returns : goal.returns
returns c = record {
  axiom_holds = axiom_form_holds;
  sum = sum_holds;
  times = times_holds;
  divide = divide_holds;
  saturate = saturate_holds;
  contradiction = contradiction_fails;
}
