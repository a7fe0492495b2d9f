-- The lists of a log's line, read from the left: what a reader has before it at each word, and what it answers.
use Rattle.std.specs.Prelude.{◌≡◌, ⊤, ℕ, cond, List, [], ◌∷◌, ◌++◌, Option, Some, None, Result, Ok, Err}
use Rattle.log_theory.specs.declared.step.Op.{Op}
use Rattle.log_theory.specs.declared.step.Op.TheVariants.{Add, Times, Divide, Saturate}
use Rattle.log_theory.specs.Words.{same_word}
use Rattle.log_theory.specs.LogText.{numeral_of, literal_of, ref_of, number_op, push_op}
use Rattle.proof_log.specs.declared.fault.StepFault.{StepFault}
use Rattle.proof_log.specs.declared.fault.StepFault.TheVariants.{Form, NoMemory}

-- The items in front of a `;`, and the words behind it.
pub record Listed (A : Type 0) : Type 0 where
  pub items : List A
  pub rest : List (List ℕ)

-- One more item in front.
abbrev pub one_more : {A : Type 0} → Option A → Option (Listed A) → Option (Listed A)
one_more (Some x) (Some l) = Some (record { items = x ∷ l.items; rest = l.rest })
one_more _ _ = None

-- Items read already, in front.
abbrev pub behind : {A : Type 0} → List A → Option (Listed A) → Option (Listed A)
behind front (Some l) = Some (record { items = front ++ l.items; rest = l.rest })
behind front None = None

-- The items that the words tell up to the first `;`.
abbrev pub items_told : {A : Type 0} → (List ℕ → Option A) → List (List ℕ) → Option (Listed A)
items_told tell [] = None
items_told tell (w ∷ ws) = cond (same_word w (59 ∷ [])) (Some (record { items = []; rest = ws }))
    (one_more (tell w) (items_told tell ws))

-- The operation of a word that is no operand.
abbrev pub plain_op : List ℕ → Option Op
plain_op w = cond (same_word w (43 ∷ [])) (Some Add) (cond (same_word w (115 ∷ []))
    (Some Saturate) (push_op (literal_of w) (ref_of w)))

-- The operations that the words tell up to the first `;`: in front of `*` and `d` stands a number, their operand.
abbrev pub ops_told : List (List ℕ) → Option (Listed Op)
ops_told [] = None
ops_told (w ∷ []) = cond (same_word w (59 ∷ [])) (Some (record { items = []; rest = [] })) None
ops_told (w ∷ v ∷ vs) =
    cond (same_word w (59 ∷ [])) (Some (record { items = []; rest = v ∷ vs }))
    (cond (same_word v (42 ∷ [])) (one_more (number_op Times (numeral_of w)) (ops_told vs))
    (cond (same_word v (100 ∷ [])) (one_more (number_op Divide (numeral_of w)) (ops_told vs))
    (one_more (plain_op w) (ops_told (v ∷ vs)))))

-- The items of a list with nothing behind it.
abbrev pub closed_items : {A : Type 0} → Option (Listed A) → Option (List A)
closed_items None = None
closed_items (Some l) = at_end l.rest l.items
  where
    at_end : {A : Type 0} → List (List ℕ) → List A → Option (List A)
    at_end [] xs = Some xs
    at_end (w ∷ ws) xs = None

-- What a reader of a list answers, with these words left, where it was told a list.
abbrev pub IsListed : {A : Type 0} → Result (List A) StepFault → List (List ℕ)
    → Option (Listed A) → Type 0
IsListed (Ok items) rest told = told ≡ Some (record { items = items; rest = rest })
IsListed (Err Form) rest told = told ≡ None
IsListed (Err NoMemory) rest told = ⊤

-- What a reader answers where it was told something: that, or that nothing was told.
abbrev pub IsTold : {A : Type 0} → Result A StepFault → Option A → Type 0
IsTold (Ok x) told = told ≡ Some x
IsTold (Err Form) told = told ≡ None
IsTold (Err NoMemory) told = ⊤
