-- Lists of a line read from the left, and as they are defined.
use Rattle.std.proofs.Common.{◌≡◌, ℕ, Bool, true, false, cond, List, [], ◌∷◌, ◌++◌, Option, Some, None, refl, sym, ap, ◌∙◌, append_assoc}
use Rattle.log_theory.specs.declared.step.Op.{Op}
use Rattle.log_theory.specs.Words.{same_word}
use Rattle.log_theory.specs.LogText.{in_front, all_of, Parted, parted_in_front, part}
use Rattle.proof_log.specs.Reading.{Listed, one_more, behind, items_told, ops_told}

-- ---- what was read, in front of what is told of the rest

-- One item more was read.
pub behind_more : {A : Type 0} → (front : List A) (x : A) (o : Option (Listed A)) → behind front (one_more (Some x) o) ≡ behind (front ++ x ∷ []) o
behind_more {A} front x None = refl
behind_more {A} front x (Some l) = ap (λ (xs : List A). let r : Option (Listed A) = Some (record { items = xs; rest = l.rest }) in r) (sym (append_assoc front (x ∷ []) l.items))

pub one_more_none : {A : Type 0} → (x : Option A) → one_more x None ≡ None
one_more_none None = refl
one_more_none (Some x) = refl

-- ---- lists of items

abbrev pub with_rest : {A : Type 0} → Option (List A) → List (List ℕ) → Option (Listed A)
with_rest (Some xs) rest = Some (record { items = xs; rest = rest })
with_rest None rest = None

-- The items in front of the first `;`, of words that are parted there.
abbrev pub parted_items : {A : Type 0} → (List (List ℕ) → Option (List A)) → Option Parted → Option (Listed A)
parted_items tell None = None
parted_items tell (Some p) = with_rest (tell p.front) p.rest

pub with_rest_more : {A : Type 0} → (x : Option A) (xs : Option (List A)) (rest : List (List ℕ)) → one_more x (with_rest xs rest) ≡ with_rest (in_front x xs) rest
with_rest_more None None rest = refl
with_rest_more None (Some xs) rest = refl
with_rest_more (Some x) None rest = refl
with_rest_more (Some x) (Some xs) rest = refl

parted_more : {A : Type 0} → (tell : List ℕ → Option A) (w : List ℕ) (p : Option Parted) → one_more (tell w) (parted_items (all_of tell) p) ≡ parted_items (all_of tell) (parted_in_front w p)
parted_more tell w None = one_more_none (tell w)
parted_more tell w (Some p) = with_rest_more (tell w) (all_of tell p.front) p.rest

-- Items read from the left are those of the words in front of the first `;`.
pub items_told_parted : {A : Type 0} → (tell : List ℕ → Option A) (ws : List (List ℕ)) → items_told tell ws ≡ parted_items (all_of tell) (part ws)
items_told_parted tell [] = refl
items_told_parted {A} tell (w ∷ ws) = by (same_word w (59 ∷ [])) (ap (λ (o : Option (Listed A)). one_more (tell w) o) (items_told_parted tell ws) ∙ parted_more tell w (part ws))
  where
    by : (b : Bool) → one_more (tell w) (items_told tell ws) ≡ parted_items (all_of tell) (parted_in_front w (part ws))
        → cond b (Some (record { items = []; rest = ws })) (one_more (tell w) (items_told tell ws)) ≡ parted_items (all_of tell) (cond b (Some (record { front = []; rest = ws })) (parted_in_front w (part ws)))
    by true h = refl
    by false h = h

-- ---- lists up to the end

-- Items read already, in front of all that words tell.
abbrev pub all_behind : {A : Type 0} → List A → Option (List A) → Option (List A)
all_behind front (Some xs) = Some (front ++ xs)
all_behind front None = None

-- ---- operations, word by word

-- One operation more was read.
pub ops_more : (items : List Op) (old mid new : List (List ℕ)) (word : List ℕ) (op : Op) (told : Option (Listed Op)) → behind items (ops_told old) ≡ told → old ≡ word ∷ mid
    → ops_told (word ∷ mid) ≡ one_more (Some op) (ops_told new) → behind (items ++ op ∷ []) (ops_told new) ≡ told
ops_more items old mid new word op told h e f =
    sym (behind_more items op (ops_told new)) ∙ sym (ap (λ (o : Option (Listed Op)). behind items o) (ap ops_told e ∙ f)) ∙ h
