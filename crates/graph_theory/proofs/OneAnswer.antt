-- A reader that answers truly gives the one answer that there is.

use Rattle.std.specs.Prelude.{◌≡◌, ℕ, List, Result, Ok, Err, IfOk, IfErr, MatchResult, refl}
use Rattle.graph_theory.specs.Lad.{Vertex, Reads}
use Rattle.graph_theory.specs.LadFault.{Fault, OnWord, TextLaws}
use Rattle.graph_theory.specs.declared.lad_text.LadKind.{LadKind}
use Rattle.graph_theory.specs.declared.lad_text.LadCause.{LadCause}
use Rattle.graph_theory.specs.declared.lad_text.LadFault.{LadFault}
use Rattle.graph_theory.specs.declared.lad_text.LadFault.TheVariants.{Word, NoMemory}

-- Where the text reads, the answer is its vertices or want of memory.
pub only_reading : {X : Type 0} (laws : TextLaws) (ws : List (List ℕ)) (kind : LadKind) (limit : ℕ) (vertices : X → List Vertex) (r : Result X LadFault)
    → IfOk r (λ x. Reads ws kind limit (vertices x)) → IfErr r (λ e. OnWord e (Fault ws kind limit)) → (vs : List Vertex) → Reads ws kind limit vs
    → MatchResult r (λ x. vertices x ≡ vs) (λ e. e ≡ NoMemory)
only_reading laws ws kind limit vertices (Ok x) h k vs reads = laws.one_reading ws kind limit (vertices x) vs h reads
only_reading laws ws kind limit vertices (Err NoMemory) h k vs reads = refl
only_reading laws ws kind limit vertices (Err (Word w cause)) h k vs reads = absurd (laws.no_fault ws kind limit vs w cause reads k)

-- Where it has a fault, the answer is that fault or want of memory.
pub only_fault : {X : Type 0} (laws : TextLaws) (ws : List (List ℕ)) (kind : LadKind) (limit : ℕ) (vertices : X → List Vertex) (r : Result X LadFault)
    → IfOk r (λ x. Reads ws kind limit (vertices x)) → IfErr r (λ e. OnWord e (Fault ws kind limit)) → (w : ℕ) (cause : LadCause) → Fault ws kind limit w cause
    → MatchResult r (λ _. ⊥) (λ e. OnWord e (λ v d. (v ≡ w) × (d ≡ cause)))
only_fault laws ws kind limit vertices (Ok x) h k w cause fault = laws.no_fault ws kind limit (vertices x) w cause h fault
only_fault laws ws kind limit vertices (Err NoMemory) h k w cause fault = tt
only_fault laws ws kind limit vertices (Err (Word v d)) h k w cause fault = laws.one_fault ws kind limit v w d cause k fault
