-- The logs of answers.

use Rattle.std.specs.Prelude.{◌≡◌, ℕ, true, List, [], ◌∷◌, Option, Some, is_some, refl}
use Rattle.std.proofs.Common.{subst, ap, sym}
use Rattle.graph_theory.specs.Embedding.{Problem}
use Rattle.log_theory.specs.declared.profile.Profile.{Profile}
use Rattle.log_theory.specs.declared.step.Step.{Step}
use Rattle.log_theory.specs.declared.step.Verdict.TheVariants.{Satisfiable}
use Rattle.log_theory.specs.Profiles.{log_profile}
use Rattle.merged_log.specs.Profiles.{in_profile}
use Rattle.merged_log.specs.Steps.{log_text}
use Rattle.merged_log.proofs.Profiled.{profile_told}
use Rattle.proof_collection.specs.declared.proof.Proof.TheVariants.{Logged, Unlogged}
use Rattle.proof_files.specs.Findings.{IsFound, IsAccepted, Texts, texts, steps_of, verdict_on}
use Rattle.proof_files.specs.TwoFiles.{TwoFiles, AreWhole}
use Rattle.proof_files.specs.declared.finding.Finding.{Finding}
use Rattle.proof_files.specs.declared.finding.Finding.TheVariants as found
use Rattle.command_line.specs.declared.commands.ProveWords.{ProveWords}
use Rattle.subgraph_cli.specs.Disk.{Disk}
use Rattle.subgraph_cli.specs.Deciding.{IsRight, IsFindingOf, decision_of, Shows, StopsOfAnswer}
use Rattle.subgraph_cli.specs.Proving.{IsLogOf, HoldProof, map_log, files_of}
use Rattle.subgraph_cli.specs.declared.deciding.Answer.{Answer}
use Rattle.subgraph_cli.specs.declared.deciding.Answer.TheVariants as answer

-- The log of what was found is that of the decision.
log_of : (a : Answer) (f : Finding) (q : Problem) → IsFindingOf f a → IsFound q f → IsRight a q true → IsLogOf (decision_of a) q (log_text (steps_of q f))
log_of (answer.Yes m) (found.Embedding map) q same holds right = (m.items, right, ap (λ (xs : List ℕ). map_log q xs) same)
log_of (answer.Yes m) (found.Refutation parts) q same holds right = absurd same
log_of (answer.Yes m) found.Nothing q same holds right = absurd same
log_of (answer.Nothing (Logged lines)) (found.Embedding map) q same holds right = absurd same
log_of (answer.Nothing (Logged lines)) (found.Refutation parts) q same holds right = (right.0, holds.merged.accepted)
log_of (answer.Nothing (Logged lines)) found.Nothing q same holds right = absurd same
log_of (answer.Nothing Unlogged) f q same holds right = absurd right.1
log_of answer.Unknown (found.Embedding map) q same holds right = absurd same
log_of answer.Unknown (found.Refutation parts) q same holds right = absurd same
log_of answer.Unknown found.Nothing q same holds right = refl

-- A proof that is asked for stopped as the writing of what was found did.
pub stops_of_answer : (stops : TwoFiles → Texts → Type 0) (a : Answer) (f : Finding) (q : Problem) (prove : Option ProveWords) (names : ProveWords) (d : Disk)
    → prove ≡ Some names → IsFindingOf f a → IsFound q f → IsRight a q (is_some prove) → stops (files_of names d) (texts names.profile q f)
    → StopsOfAnswer stops a q prove d
stops_of_answer stops a f q prove names d asked same holds right stopped = record {
  names = names;
  asked = asked;
  log = log_text (steps_of q f);
  log_is = log_of a f q same holds (subst (λ (p : Option ProveWords). IsRight a q (is_some p)) asked right);
  stopped = stopped;
}

-- The steps behind the first.
abbrev behind : List Step → List Step
behind [] = []
behind (s ∷ ss) = ss

-- The log of a finding begins with a head.
told : (profile : Profile) (q : Problem) (f : Finding) → log_profile (in_profile profile (log_text (steps_of q f))) ≡ Some profile
told profile q (found.Embedding map) = profile_told profile (behind (steps_of q (found.Embedding map)))
told profile q (found.Refutation parts) = profile_told profile (behind (steps_of q (found.Refutation parts)))
told profile q found.Nothing = profile_told profile (behind (steps_of q found.Nothing))

-- The files hold a proof of what was found.
held_of : (f : Finding) (q : Problem) (names : ProveWords) (d : Disk) → AreWhole (files_of names d) (texts names.profile q f) → IsAccepted names.profile q f
    → HoldProof names d.after q (log_text (steps_of q f)) (verdict_on f)
held_of f q names d whole accepted = record { encoding_is = whole.encoding_is; log_is = whole.log_is; profile_is = told names.profile q f; accepts = accepted }

shown : (a : Answer) (f : Finding) (q : Problem) (names : ProveWords) (d : Disk) → IsFindingOf f a → IsFound q f → IsRight a q true
    → HoldProof names d.after q (log_text (steps_of q f)) (verdict_on f) → Shows a (Some names) d.after q
shown (answer.Yes m) (found.Embedding map) q names d same holds right proof = subst (λ (xs : List ℕ). HoldProof names d.after q (map_log q xs) Satisfiable) same proof
shown (answer.Yes m) (found.Refutation parts) q names d same holds right proof = absurd same
shown (answer.Yes m) found.Nothing q names d same holds right proof = absurd same
shown (answer.Nothing (Logged lines)) (found.Embedding map) q names d same holds right proof = absurd same
shown (answer.Nothing (Logged lines)) (found.Refutation parts) q names d same holds right proof = (log_text (steps_of q (found.Refutation parts)), holds.merged.accepted, proof)
shown (answer.Nothing (Logged lines)) found.Nothing q names d same holds right proof = absurd same
shown (answer.Nothing Unlogged) f q names d same holds right proof = absurd right.1
shown answer.Unknown (found.Embedding map) q names d same holds right proof = absurd same
shown answer.Unknown (found.Refutation parts) q names d same holds right proof = absurd same
shown answer.Unknown found.Nothing q names d same holds right proof = proof

-- A proof that is asked for is that of the answer.
pub proof_of_answer : (a : Answer) (f : Finding) (q : Problem) (prove : Option ProveWords) (names : ProveWords) (d : Disk)
    → prove ≡ Some names → IsFindingOf f a → IsFound q f → IsRight a q (is_some prove) → AreWhole (files_of names d) (texts names.profile q f) → IsAccepted names.profile q f
    → Shows a prove d.after q
proof_of_answer a f q prove names d asked same holds right whole accepted =
    subst (λ (p : Option ProveWords). Shows a p d.after q) (sym asked)
    (shown a f q names d same holds (subst (λ (p : Option ProveWords). IsRight a q (is_some p)) asked right) (held_of f q names d whole accepted))
