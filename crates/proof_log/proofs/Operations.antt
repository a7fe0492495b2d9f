-- Operations read from the left are those that the definition reads from the right.
use Rattle.std.proofs.Common.{◌≡◌, ℕ, Bool, true, false, cond, List, [], ◌∷◌, Option, Some, None, refl, sym, ap, ◌∙◌, inl, inr, ◌⊎◌}
use Rattle.log_theory.specs.declared.step.Op.{Op}
use Rattle.log_theory.specs.declared.step.Op.TheVariants.{Add, Times, Divide, Saturate}
use Rattle.log_theory.specs.Words.{same_word}
use Rattle.log_theory.specs.LogText.{numeral_of, literal_of, ref_of, in_front, Behind, Nothing, Star, Dee, OpsRead, op_read, number_op, push_op, op_in_front, ops_in_front, ops_read, ops_from, Parted, parted_in_front, part}
use Rattle.proof_log.specs.Pieces.{first_is}
use Rattle.proof_log.specs.Reading.{Listed, one_more, plain_op, ops_told}
use Rattle.proof_log.proofs.Cutting.{same_word-same}
use Rattle.proof_log.proofs.FromLeft.{one_more_none, with_rest, with_rest_more, parted_items}

-- The operations of some words.
abbrev pub ops_of : List (List ℕ) → Option (List Op)
ops_of ws = ops_from (ops_read ws)

in_front_none : {A : Type 0} → (x : Option A) → in_front x None ≡ None
in_front_none None = refl
in_front_none (Some x) = refl

read_from : (x : Option Op) (os : List Op) → ops_from (op_read x os) ≡ in_front x (Some os)
read_from None os = refl
read_from (Some o) os = refl

-- A number in front of `*`.
pub times_in_front : (w : List ℕ) (vs : List (List ℕ)) → ops_of (w ∷ (42 ∷ []) ∷ vs) ≡ in_front (number_op Times (numeral_of w)) (ops_of vs)
times_in_front w vs = by (ops_read vs)
  where
    waiting : (b : Behind) (os : List Op) → ops_from (ops_in_front w (op_in_front (42 ∷ []) b os)) ≡ in_front (number_op Times (numeral_of w)) (ops_from (Some (record { waits = b; ops = os })))
    waiting Nothing os = read_from (number_op Times (numeral_of w)) os
    waiting Star os = sym (in_front_none (number_op Times (numeral_of w)))
    waiting Dee os = sym (in_front_none (number_op Times (numeral_of w)))

    by : (r : Option OpsRead) → ops_from (ops_in_front w (ops_in_front (42 ∷ []) r)) ≡ in_front (number_op Times (numeral_of w)) (ops_from r)
    by None = sym (in_front_none (number_op Times (numeral_of w)))
    by (Some r) = waiting r.waits r.ops

-- A number in front of `d`.
pub divide_in_front : (w : List ℕ) (vs : List (List ℕ)) → ops_of (w ∷ (100 ∷ []) ∷ vs) ≡ in_front (number_op Divide (numeral_of w)) (ops_of vs)
divide_in_front w vs = by (ops_read vs)
  where
    waiting : (b : Behind) (os : List Op) → ops_from (ops_in_front w (op_in_front (100 ∷ []) b os)) ≡ in_front (number_op Divide (numeral_of w)) (ops_from (Some (record { waits = b; ops = os })))
    waiting Nothing os = read_from (number_op Divide (numeral_of w)) os
    waiting Star os = sym (in_front_none (number_op Divide (numeral_of w)))
    waiting Dee os = sym (in_front_none (number_op Divide (numeral_of w)))

    by : (r : Option OpsRead) → ops_from (ops_in_front w (ops_in_front (100 ∷ []) r)) ≡ in_front (number_op Divide (numeral_of w)) (ops_from r)
    by None = sym (in_front_none (number_op Divide (numeral_of w)))
    by (Some r) = waiting r.waits r.ops

-- What was read waits for no word.
abbrev pub DoesNotWait : Option OpsRead → Type 0
DoesNotWait r = (r ≡ None) ⊎ ((os : List Op) × (r ≡ Some (record { waits = Nothing; ops = os })))

read_waits_not : (x : Option Op) (os : List Op) → DoesNotWait (op_read x os)
read_waits_not None os = inl refl
read_waits_not (Some o) os = inr (o ∷ os, refl)

-- Words that begin with neither `*` nor `d` wait for no word.
waits_not : (ws : List (List ℕ)) → first_is (42 ∷ []) ws ≡ false → first_is (100 ∷ []) ws ≡ false → DoesNotWait (ops_read ws)
waits_not [] e f = inr ([], refl)
waits_not (w ∷ ws) e f = by (ops_read ws)
  where
    sum : (b c : Bool) (os : List Op) → DoesNotWait (cond b (op_read (Some Add) os) (cond c (op_read (Some Saturate) os) (op_read (push_op (literal_of w) (ref_of w)) os)))
    sum true c os = inr (Add ∷ os, refl)
    sum false true os = inr (Saturate ∷ os, refl)
    sum false false os = read_waits_not (push_op (literal_of w) (ref_of w)) os

    signs : (b c : Bool) (os : List Op) → b ≡ false → c ≡ false
        → DoesNotWait (cond b (Some (record { waits = Star; ops = os })) (cond c (Some (record { waits = Dee; ops = os })) (cond (same_word w (43 ∷ [])) (op_read (Some Add) os) (cond (same_word w (115 ∷ [])) (op_read (Some Saturate) os) (op_read (push_op (literal_of w) (ref_of w)) os)))))
    signs true c os g h = cc
    signs false true os g h = cc
    signs false false os g h = sum (same_word w (43 ∷ [])) (same_word w (115 ∷ [])) os

    waiting : (b : Behind) (os : List Op) → DoesNotWait (op_in_front w b os)
    waiting Nothing os = signs (same_word w (42 ∷ [])) (same_word w (100 ∷ [])) os e f
    waiting Star os = read_waits_not (number_op Times (numeral_of w)) os
    waiting Dee os = read_waits_not (number_op Divide (numeral_of w)) os

    by : (r : Option OpsRead) → DoesNotWait (ops_in_front w r)
    by None = inl refl
    by (Some r) = waiting r.waits r.ops

-- A word for which nothing waits, in front of operations.
plain_read : (w : List ℕ) (os : List Op) → ops_from (op_in_front w Nothing os) ≡ in_front (plain_op w) (Some os)
plain_read w os = by (same_word w (42 ∷ [])) (same_word w (100 ∷ [])) refl refl
  where
    sum : (b c : Bool) → ops_from (cond b (op_read (Some Add) os) (cond c (op_read (Some Saturate) os) (op_read (push_op (literal_of w) (ref_of w)) os)))
        ≡ in_front (cond b (Some Add) (cond c (Some Saturate) (push_op (literal_of w) (ref_of w)))) (Some os)
    sum true c = refl
    sum false true = refl
    sum false false = read_from (push_op (literal_of w) (ref_of w)) os

    none : (s : List ℕ) → plain_op s ≡ None → same_word w s ≡ true → None ≡ in_front (plain_op w) (Some os)
    none s p e = sym (ap (λ (v : List ℕ). in_front (plain_op v) (Some os)) (same_word-same w s e) ∙ ap (λ (o : Option Op). in_front o (Some os)) p)

    by : (b c : Bool) → same_word w (42 ∷ []) ≡ b → same_word w (100 ∷ []) ≡ c
        → ops_from (cond b (Some (record { waits = Star; ops = os })) (cond c (Some (record { waits = Dee; ops = os })) (cond (same_word w (43 ∷ [])) (op_read (Some Add) os) (cond (same_word w (115 ∷ [])) (op_read (Some Saturate) os) (op_read (push_op (literal_of w) (ref_of w)) os)))))
        ≡ in_front (plain_op w) (Some os)
    by true c e f = none (42 ∷ []) refl e
    by false true e f = none (100 ∷ []) refl f
    by false false e f = sum (same_word w (43 ∷ [])) (same_word w (115 ∷ []))

-- A word that is no operand.
pub plain_in_front : (w : List ℕ) (ws : List (List ℕ)) → first_is (42 ∷ []) ws ≡ false → first_is (100 ∷ []) ws ≡ false → ops_of (w ∷ ws) ≡ in_front (plain_op w) (ops_of ws)
plain_in_front w ws e f = by (waits_not ws e f)
  where
    by : DoesNotWait (ops_read ws) → ops_from (ops_in_front w (ops_read ws)) ≡ in_front (plain_op w) (ops_from (ops_read ws))
    by (inl h) = ap (λ (r : Option OpsRead). ops_from (ops_in_front w r)) h ∙ sym (ap (λ (r : Option OpsRead). in_front (plain_op w) (ops_from r)) h ∙ in_front_none (plain_op w))
    by (inr h) = ap (λ (r : Option OpsRead). ops_from (ops_in_front w r)) h.1 ∙ plain_read w h.0 ∙ sym (ap (λ (r : Option OpsRead). in_front (plain_op w) (ops_from r)) h.1)

-- The operations in front of the first `;`.
abbrev pub ops_parted : Option Parted → Option (Listed Op)
ops_parted p = parted_items ops_of p

-- An operand and its sign, in front of parted words.
operand_parted : (w s : List ℕ) (x : Option Op) (p : Option Parted) → ((vs : List (List ℕ)) → ops_of (w ∷ s ∷ vs) ≡ in_front x (ops_of vs))
    → one_more x (ops_parted p) ≡ ops_parted (parted_in_front w (parted_in_front s p))
operand_parted w s x None h = one_more_none x
operand_parted w s x (Some p) h = with_rest_more x (ops_of p.front) p.rest ∙ ap (λ (o : Option (List Op)). with_rest o p.rest) (sym (h p.front))

-- Another word in front of parted words.
plain_parted : (w v : List ℕ) (vs : List (List ℕ)) → same_word v (42 ∷ []) ≡ false → same_word v (100 ∷ []) ≡ false
    → one_more (plain_op w) (ops_parted (part (v ∷ vs))) ≡ ops_parted (parted_in_front w (part (v ∷ vs)))
plain_parted w v vs e f = by (same_word v (59 ∷ [])) (part vs)
  where
    by : (b : Bool) (p : Option Parted) → one_more (plain_op w) (ops_parted (cond b (Some (record { front = []; rest = vs })) (parted_in_front v p)))
        ≡ ops_parted (parted_in_front w (cond b (Some (record { front = []; rest = vs })) (parted_in_front v p)))
    by true p = with_rest_more (plain_op w) (Some []) vs ∙ ap (λ (o : Option (List Op)). with_rest o vs) (sym (plain_in_front w [] refl refl))
    by false None = one_more_none (plain_op w)
    by false (Some p) = with_rest_more (plain_op w) (ops_of (v ∷ p.front)) p.rest ∙ ap (λ (o : Option (List Op)). with_rest o p.rest) (sym (plain_in_front w (v ∷ p.front) e f))

-- Two words or more, where the rest of them is known.
ops_told_two : (w v : List ℕ) (vs : List (List ℕ)) → ops_told vs ≡ ops_parted (part vs) → ops_told (v ∷ vs) ≡ ops_parted (part (v ∷ vs)) → ops_told (w ∷ v ∷ vs) ≡ ops_parted (part (w ∷ v ∷ vs))
ops_told_two w v vs rest next = by (same_word w (59 ∷ []))
  where
    signed : (s : List ℕ) (x : Option Op) → part (s ∷ vs) ≡ parted_in_front s (part vs) → ((us : List (List ℕ)) → ops_of (w ∷ s ∷ us) ≡ in_front x (ops_of us)) → same_word v s ≡ true
        → one_more x (ops_told vs) ≡ ops_parted (parted_in_front w (part (v ∷ vs)))
    signed s x p h e =
        ap (λ (o : Option (Listed Op)). one_more x o) rest ∙ operand_parted w s x (part vs) h
        ∙ ap (λ (o : Option Parted). ops_parted (parted_in_front w o)) (sym p)
        ∙ ap (λ (u : List ℕ). ops_parted (parted_in_front w (part (u ∷ vs)))) (sym (same_word-same v s e))

    behind : (b c : Bool) → same_word v (42 ∷ []) ≡ b → same_word v (100 ∷ []) ≡ c
        → cond b (one_more (number_op Times (numeral_of w)) (ops_told vs)) (cond c (one_more (number_op Divide (numeral_of w)) (ops_told vs)) (one_more (plain_op w) (ops_told (v ∷ vs))))
        ≡ ops_parted (parted_in_front w (part (v ∷ vs)))
    behind true c e f = signed (42 ∷ []) (number_op Times (numeral_of w)) refl (times_in_front w) e
    behind false true e f = signed (100 ∷ []) (number_op Divide (numeral_of w)) refl (divide_in_front w) f
    behind false false e f = ap (λ (o : Option (Listed Op)). one_more (plain_op w) o) next ∙ plain_parted w v vs e f

    by : (b : Bool)
        → cond b (Some (record { items = []; rest = v ∷ vs }))
        (cond (same_word v (42 ∷ [])) (one_more (number_op Times (numeral_of w)) (ops_told vs)) (cond (same_word v (100 ∷ [])) (one_more (number_op Divide (numeral_of w)) (ops_told vs)) (one_more (plain_op w) (ops_told (v ∷ vs)))))
        ≡ ops_parted (cond b (Some (record { front = []; rest = v ∷ vs })) (parted_in_front w (part (v ∷ vs))))
    by true = refl
    by false = behind (same_word v (42 ∷ [])) (same_word v (100 ∷ [])) refl refl

-- Operations read from the left are those of the words in front of the first `;`.
pub ops_told_parted : (ws : List (List ℕ)) → ops_told ws ≡ ops_parted (part ws)
ops_told_parted [] = refl
ops_told_parted (w ∷ []) = by (same_word w (59 ∷ []))
  where
    by : (b : Bool) → cond b (Some (record { items = []; rest = [] })) None ≡ ops_parted (cond b (Some (record { front = []; rest = [] })) None)
    by true = refl
    by false = refl
ops_told_parted (w ∷ v ∷ vs) = ops_told_two w v vs (ops_told_parted vs) (ops_told_parted (v ∷ vs))
