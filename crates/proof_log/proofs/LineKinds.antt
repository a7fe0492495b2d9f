-- What the words of each kind of line tell, read from the left.
use Rattle.std.proofs.Common.{◌≡◌, ℕ, true, false, codes, List, [], ◌∷◌, Option, Some, None, Result, Err, refl, sym, ap, subst, ◌∙◌}
use Rattle.proof_theory.specs.declared.literal.Literal.{Literal}
use Rattle.log_theory.specs.declared.step.Name.{Name}
use Rattle.log_theory.specs.declared.step.Op.{Op}
use Rattle.log_theory.specs.declared.step.Ref.{Ref}
use Rattle.log_theory.specs.declared.step.Step.{Step}
use Rattle.log_theory.specs.declared.step.Step.TheVariants.{P, U}
use Rattle.proof_log.specs.declared.fault.StepFault.{StepFault}
use Rattle.proof_log.specs.declared.fault.StepFault.TheVariants.{Form, NoMemory}
use Rattle.log_theory.specs.Words.{same_word}
use Rattle.log_theory.specs.LogText.{literal_of, ref_of, name_of, all_of, ops_from, ops_read, Parted, part, closed, when_closed, p_from, u_from, u_parted, step_behind}
use Rattle.proof_log.specs.Pieces.{none_left}
use Rattle.proof_log.specs.Reading.{Listed, items_told, ops_told, closed_items, IsListed, IsTold}
use Rattle.proof_log.proofs.Cutting.{same_word-same}
use Rattle.proof_log.proofs.FromLeft.{with_rest, parted_items, items_told_parted}
use Rattle.proof_log.proofs.Operations.{ops_told_parted}

-- Words in front of a `;` that ends the line.
pub closed_parted : {A : Type 0} → (tell : List (List ℕ) → Option (List A)) (p : Option Parted) → when_closed tell (closed p) ≡ closed_items (parted_items tell p)
closed_parted tell None = refl
closed_parted {A} tell (Some p) = by p.rest
  where
    none_behind : (o : Option (List A)) → o ≡ closed_items (with_rest o [])
    none_behind None = refl
    none_behind (Some xs) = refl

    some_behind : (w : List ℕ) (ws : List (List ℕ)) (o : Option (List A)) → None ≡ closed_items (with_rest o (w ∷ ws))
    some_behind w ws None = refl
    some_behind w ws (Some xs) = refl

    by : (rest : List (List ℕ)) → when_closed tell (closed (Some (record { front = p.front; rest = rest }))) ≡ closed_items (with_rest (tell p.front) rest)
    by [] = none_behind (tell p.front)
    by (w ∷ ws) = some_behind w ws (tell p.front)

-- A line of operations.
pub p_told : (name : List ℕ) (ws : List (List ℕ)) → step_behind (codes "p") (name ∷ ws) ≡ p_from (name_of name) (closed_items (ops_told ws))
p_told name ws = ap (p_from (name_of name)) (closed_parted (λ os. ops_from (ops_read os)) (part ws) ∙ ap (λ (o : Option (Listed Op)). closed_items o) (sym (ops_told_parted ws)))

-- A line of unit propagation, where its literals are read.
abbrev pub u_behind : Option Name → Option (Listed Literal) → Option Step
u_behind name None = None
u_behind name (Some l) = u_from name (Some l.items) (closed_items (items_told ref_of l.rest))

pub u_told : (name : List ℕ) (ws : List (List ℕ)) → step_behind (codes "u") (name ∷ ws) ≡ u_behind (name_of name) (items_told literal_of ws)
u_told name ws = by (part ws) ∙ ap (u_behind (name_of name)) (sym (items_told_parted literal_of ws))
  where
    no_literals : (n : Option Name) (refs : Option (List Ref)) → u_from n None refs ≡ None
    no_literals None refs = refl
    no_literals (Some n) refs = refl

    literals : (rest : List (List ℕ)) (lits : Option (List Literal)) → u_from (name_of name) lits (when_closed (all_of ref_of) (closed (part rest))) ≡ u_behind (name_of name) (with_rest lits rest)
    literals rest None = no_literals (name_of name) _
    literals rest (Some lits) = ap (u_from (name_of name) (Some lits)) (closed_parted (all_of ref_of) (part rest) ∙ ap (λ (o : Option (Listed Ref)). closed_items o) (sym (items_told_parted ref_of rest)))

    by : (p : Option Parted) → u_parted name p ≡ u_behind (name_of name) (parted_items (all_of literal_of) p)
    by None = refl
    by (Some p) = literals p.rest (all_of literal_of p.front)

-- ---- what a reader answers

-- A list that ends the line.
pub closed_done : {A : Type 0} → (items : List A) (rest : List (List ℕ)) → none_left rest ≡ true → closed_items (Some (record { items = items; rest = rest })) ≡ Some items
closed_done items [] e = refl
closed_done items (w ∷ ws) e = cc

-- A list with words behind it.
pub closed_left : {A : Type 0} → (items : List A) (rest : List (List ℕ)) → none_left rest ≡ false → closed_items (Some (record { items = items; rest = rest })) ≡ None
closed_left items [] e = cc
closed_left items (w ∷ ws) e = refl

-- The fault of a list is that of its line.
pub fault_told : {A B : Type 0} → (fault : StepFault) (rest : List (List ℕ)) (told : Option (Listed A)) (answer : Option B) → IsListed (Err fault) rest told → (told ≡ None → answer ≡ None) → IsTold {A = B} (Err fault) answer
fault_told Form rest told answer h f = f h
fault_told NoMemory rest told answer h f = tt

-- A line of operations whose name is read.
pub p_line : (ws vs : List (List ℕ)) (word : List ℕ) (name : Name) → ws ≡ word ∷ vs → name_of word ≡ Some name → step_behind (codes "p") ws ≡ p_from (Some name) (closed_items (ops_told vs))
p_line ws vs word name e n = ap (step_behind (codes "p")) e ∙ p_told word vs ∙ ap (λ (o : Option Name). p_from o (closed_items (ops_told vs))) n

pub p_done : (ws vs : List (List ℕ)) (word : List ℕ) (name : Name) (ops : List Op) (rest : List (List ℕ)) → ws ≡ word ∷ vs → name_of word ≡ Some name
    → ops_told vs ≡ Some (record { items = ops; rest = rest }) → none_left rest ≡ true → step_behind (codes "p") ws ≡ Some (P name ops)
p_done ws vs word name ops rest e n told d =
    p_line ws vs word name e n ∙ ap (λ (o : Option (Listed Op)). p_from (Some name) (closed_items o)) told ∙ ap (λ (o : Option (List Op)). p_from (Some name) o) (closed_done ops rest d)

pub p_left : (ws vs : List (List ℕ)) (word : List ℕ) (name : Name) (ops : List Op) (rest : List (List ℕ)) → ws ≡ word ∷ vs → name_of word ≡ Some name
    → ops_told vs ≡ Some (record { items = ops; rest = rest }) → none_left rest ≡ false → step_behind (codes "p") ws ≡ None
p_left ws vs word name ops rest e n told d =
    p_line ws vs word name e n ∙ ap (λ (o : Option (Listed Op)). p_from (Some name) (closed_items o)) told ∙ ap (λ (o : Option (List Op)). p_from (Some name) o) (closed_left ops rest d)

-- The references of a line of unit propagation.
pub hints_done : (name : Name) (lits : List Literal) (refs : List Ref) (rest : List (List ℕ)) (told : Option (Listed Ref)) → told ≡ Some (record { items = refs; rest = rest }) → none_left rest ≡ true
    → u_from (Some name) (Some lits) (closed_items told) ≡ Some (U name lits refs)
hints_done name lits refs rest told e d = ap (λ (o : Option (Listed Ref)). u_from (Some name) (Some lits) (closed_items o)) e ∙ ap (λ (o : Option (List Ref)). u_from (Some name) (Some lits) o) (closed_done refs rest d)

pub hints_left : (name : Name) (lits : List Literal) (refs : List Ref) (rest : List (List ℕ)) (told : Option (Listed Ref)) → told ≡ Some (record { items = refs; rest = rest }) → none_left rest ≡ false
    → u_from (Some name) (Some lits) (closed_items told) ≡ None
hints_left name lits refs rest told e d = ap (λ (o : Option (Listed Ref)). u_from (Some name) (Some lits) (closed_items o)) e ∙ ap (λ (o : Option (List Ref)). u_from (Some name) (Some lits) o) (closed_left refs rest d)

-- A line of unit propagation whose name is read, and its literals are told or not.
pub u_line : (ws vs : List (List ℕ)) (word : List ℕ) (name : Name) (told : Option (Listed Literal)) → ws ≡ word ∷ vs → name_of word ≡ Some name → items_told literal_of vs ≡ told
    → step_behind (codes "u") ws ≡ u_behind (Some name) told
u_line ws vs word name told e n f =
    ap (step_behind (codes "u")) e ∙ u_told word vs ∙ ap (λ (o : Option Name). u_behind o (items_told literal_of vs)) n ∙ ap (u_behind (Some name)) f

-- A line's first word is one of its kinds.
pub of_kind : (kind s : List ℕ) (ws : List (List ℕ)) (r : Result Step StepFault) → same_word kind s ≡ true → IsTold r (step_behind s ws) → IsTold r (step_behind kind ws)
of_kind kind s ws r e h = subst (λ (k : List ℕ). IsTold r (step_behind k ws)) (sym (same_word-same kind s e)) h
