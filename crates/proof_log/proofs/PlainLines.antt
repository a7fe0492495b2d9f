-- What the words of a line tell in a log without hints, read from the left.
use Rattle.std.proofs.Common.{◌≡◌, ℕ, Bool, true, false, cond, ◌&&◌, codes, List, [], ◌∷◌, Option, Some, None, Result, Ok, Err, IfOk, refl, sym, ap, subst, ◌∙◌}
use Rattle.proof_theory.specs.declared.literal.Literal.{Literal}
use Rattle.log_theory.specs.declared.profile.Profile.TheVariants.{Hinted, Plain}
use Rattle.log_theory.specs.declared.step.Name.{Name}
use Rattle.log_theory.specs.declared.step.Step.{Step}
use Rattle.log_theory.specs.declared.step.Step.TheVariants.{Head, U}
use Rattle.proof_log.specs.declared.fault.StepFault.{StepFault}
use Rattle.log_theory.specs.Words.{same_word}
use Rattle.log_theory.specs.LogText.{literal_of, name_of, all_of, part, closed, when_closed, u_from, step_behind, step_of_words, IsStep}
use Rattle.log_theory.specs.Profiles.{plain_u, plain_head, plain_step, IsStepIn}
use Rattle.log_theory.proofs.Dropping.{other_plain, lone_plain, same_word_is}
use Rattle.proof_log.specs.Pieces.{none_left}
use Rattle.proof_log.specs.Reading.{Listed, items_told, closed_items, IsTold}
use Rattle.proof_log.proofs.FromLeft.{items_told_parted}
use Rattle.proof_log.proofs.LineKinds.{closed_parted, closed_done, closed_left}
use Rattle.proof_log.proofs.Ranges.{Within, name_within, literals_within, closed_within, step_within}
use Rattle.log_theory.specs.LogText.{AreLiterals, IsName}

plain_told : (name : List ℕ) (ws : List (List ℕ)) → plain_step (codes "u" ∷ name ∷ ws) ≡ u_from (name_of name) (closed_items (items_told literal_of ws)) (Some [])
plain_told name ws = ap (λ (o : Option (List Literal)). u_from (name_of name) o (Some [])) (closed_parted (all_of literal_of) (part ws) ∙ ap (λ (o : Option (Listed Literal)). closed_items o) (sym (items_told_parted literal_of ws)))

-- A line of unit propagation whose name is read.
pub plain_line : (ws vs : List (List ℕ)) (word : List ℕ) (name : Name) → ws ≡ word ∷ vs → name_of word ≡ Some name
    → plain_step (codes "u" ∷ ws) ≡ u_from (Some name) (closed_items (items_told literal_of vs)) (Some [])
plain_line ws vs word name e n =
    ap (λ (x : List (List ℕ)). plain_step (codes "u" ∷ x)) e ∙ plain_told word vs ∙ ap (λ (o : Option Name). u_from o (closed_items (items_told literal_of vs)) (Some [])) n

pub plain_done : (ws vs : List (List ℕ)) (word : List ℕ) (name : Name) (lits : List Literal) (rest : List (List ℕ)) → ws ≡ word ∷ vs → name_of word ≡ Some name
    → items_told literal_of vs ≡ Some (record { items = lits; rest = rest }) → none_left rest ≡ true → plain_step (codes "u" ∷ ws) ≡ Some (U name lits [])
plain_done ws vs word name lits rest e n told d =
    plain_line ws vs word name e n ∙ ap (λ (o : Option (Listed Literal)). u_from (Some name) (closed_items o) (Some [])) told ∙ ap (λ (o : Option (List Literal)). u_from (Some name) o (Some [])) (closed_done lits rest d)

pub plain_left : (ws vs : List (List ℕ)) (word : List ℕ) (name : Name) (lits : List Literal) (rest : List (List ℕ)) → ws ≡ word ∷ vs → name_of word ≡ Some name
    → items_told literal_of vs ≡ Some (record { items = lits; rest = rest }) → none_left rest ≡ false → plain_step (codes "u" ∷ ws) ≡ None
plain_left ws vs word name lits rest e n told d =
    plain_line ws vs word name e n ∙ ap (λ (o : Option (Listed Literal)). u_from (Some name) (closed_items o) (Some [])) told ∙ ap (λ (o : Option (List Literal)). u_from (Some name) o (Some [])) (closed_left lits rest d)

-- A line whose name is none.
pub plain_nameless : (ws vs : List (List ℕ)) (word : List ℕ) → ws ≡ word ∷ vs → name_of word ≡ None → plain_step (codes "u" ∷ ws) ≡ None
plain_nameless ws vs word e n = ap (λ (x : List (List ℕ)). plain_step (codes "u" ∷ x)) e ∙ ap (λ (o : Option Name). u_from o (when_closed (all_of literal_of) (closed (part vs))) (Some [])) n

-- A line's first word is one of those that are read in another way.
pub plain_of_kind : (kind s : List ℕ) (ws : List (List ℕ)) (r : Result Step StepFault) → same_word kind s ≡ true → IsTold r (plain_step (s ∷ ws)) → IsTold r (plain_step (kind ∷ ws))
plain_of_kind kind s ws r e h = subst (λ (k : List ℕ). IsTold r (plain_step (k ∷ ws))) (sym (same_word_is kind s e)) h

-- Or it is not.
pub plain_of_other : (kind : List ℕ) (ws : List (List ℕ)) (r : Result Step StepFault) → same_word kind (codes "u") ≡ false → same_word kind (codes "embedding") ≡ false → IsTold r (step_behind kind ws) → IsTold r (plain_step (kind ∷ ws))
plain_of_other kind [] r e f h = h
plain_of_other kind (v ∷ ws) r e f h =
    subst (λ (o : Option Step). IsTold r o)
    (sym (ap (λ (x : Bool). cond x (plain_u v ws) (cond (same_word kind (codes "embedding")) (plain_head (v ∷ ws)) (step_of_words (kind ∷ v ∷ ws)))) e
    ∙ ap (λ (x : Bool). cond x (plain_head (v ∷ ws)) (step_of_words (kind ∷ v ∷ ws))) f)) h

-- ---- the ranges of what is told

-- A step that is told, where it is one of a log without hints.
some_is : (x s : Step) → let a : Option Step = Some x in let b : Option Step = Some s in a ≡ b → IsStepIn Plain x → IsStepIn Plain s
some_is x s e h = let g : x ≡ s = cc in subst (λ (y : Step). IsStepIn Plain y) g h

u_is : (a : Option Name) (b : Option (List Literal)) (s : Step) → Within IsName a → Within AreLiterals b → u_from a b (Some []) ≡ Some s → IsStepIn Plain s
u_is None b s h k e = absurd cc
u_is (Some n) None s h k e = absurd cc
u_is (Some n) (Some ls) s h k e = some_is (U n ls []) s e ((h.is, k.is, tt), refl)

head_is : (ws : List (List ℕ)) (s : Step) → plain_head ws ≡ Some s → IsStepIn Plain s
head_is [] s e = absurd cc
head_is (v ∷ []) s e = absurd cc
head_is (v ∷ w ∷ []) s e = by-test (same_word v (codes "proof") && same_word w (codes "2")) e
  where
    by-test : (x : Bool) → cond x (Some Head) None ≡ Some s → IsStepIn Plain s
    by-test true g = some_is Head s g (tt, refl)
    by-test false g = absurd cc
head_is (v ∷ w ∷ x ∷ ws) s e = absurd cc

within_is : (P : Step → Type 0) (o : Option Step) (s : Step) → Within P o → o ≡ Some s → P s
within_is P None s h e = absurd cc
within_is P (Some t) s h e = let g : t ≡ s = cc in subst P g h.is

-- What words tell is a step of a log without hints.
plain_is : (kind : List ℕ) (ws : List (List ℕ)) (s : Step) → plain_step (kind ∷ ws) ≡ Some s → IsStepIn Plain s
plain_is kind [] s e = (within_is IsStep (step_behind kind []) s (step_within kind []) e, lone_plain kind s e)
plain_is kind (v ∷ ws) s e = by-u (same_word kind (codes "u")) refl e
  where
    by-head : (x : Bool) → same_word kind (codes "u") ≡ false → cond x (plain_head (v ∷ ws)) (step_of_words (kind ∷ v ∷ ws)) ≡ Some s → IsStepIn Plain s
    by-head true t g = head_is (v ∷ ws) s g
    by-head false t g = (within_is IsStep (step_behind kind (v ∷ ws)) s (step_within kind (v ∷ ws)) g, other_plain kind v ws s t g)

    by-u : (x : Bool) → same_word kind (codes "u") ≡ x → cond x (plain_u v ws) (cond (same_word kind (codes "embedding")) (plain_head (v ∷ ws)) (step_of_words (kind ∷ v ∷ ws))) ≡ Some s → IsStepIn Plain s
    by-u true t g = u_is (name_of v) (when_closed (all_of literal_of) (closed (part ws))) s (name_within v) (closed_within AreLiterals (all_of literal_of) literals_within (closed (part ws))) g
    by-u false t g = by-head (same_word kind (codes "embedding")) t g

-- What a reader of a line answers is such a step.
pub plain_answer : (kind : List ℕ) (ws : List (List ℕ)) (r : Result Step StepFault) → IsTold r (plain_step (kind ∷ ws)) → IfOk r (λ s. IsStepIn Plain s)
plain_answer kind ws (Ok s) h = plain_is kind ws s h
plain_answer kind ws (Err e) h = tt

-- What a reader of a line of a log with hints answers.
pub hinted_is : (r : Result Step StepFault) → IfOk r (λ s. IsStep s) → IfOk r (λ s. IsStepIn Hinted s)
hinted_is (Ok s) h = (h, refl)
hinted_is (Err e) h = tt
