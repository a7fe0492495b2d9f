use Rattle.std.proofs.Common.{◌≡◌, ◌++◌, ℕ, List, [], length, false, arith, ap, sym, nat_eq}
use Rattle.std.proofs.lemmas.Bool.Decides.{nat_tests}
use Rattle.proof_checker.proofs.FedLines.{some_text, text_behind}
use Rattle.proof_checker.proofs.checker.behind_claim.Goals as goal

some_length : (xs : List ℕ) → false ≡ nat_eq (length xs) 0 → xs ≡ [] → ⊥
some_length xs h e = let l = ap (length {A = ℕ}) e in grind (arith, nat_tests)

pub returns-else-is_empty : goal.returns-else-is_empty
returns-else-is_empty c lines tail rest = sym (text_behind c.args.number c.args.claim (c.args.text.now ++ rest) (some_text c.args.text.now rest (some_length _ c.if-is_empty.ensures)))
