-- The numbers of the step that a line tells are in their ranges.
use Rattle.std.proofs.Common.{◌≡◌, ℕ, ◌<◌, ◌^◌, Bool, true, false, cond, ◌==◌, ◌&&◌, nat_lt, nat_le, codes, List, [], ◌∷◌, Option, Some, None, Result, Ok, Err, IfOk, refl, subst}
use Rattle.std.specs.Str.Parse.{digits_value}
use Rattle.std.proofs.lemmas.Bool.{ltb-true, leb-true}
use Rattle.proof_theory.specs.declared.literal.Literal.{Literal}
use Rattle.log_theory.specs.declared.step.Name.{Name}
use Rattle.log_theory.specs.declared.step.Ref.{Ref}
use Rattle.log_theory.specs.declared.step.Op.{Op}
use Rattle.log_theory.specs.declared.step.Op.TheVariants.{Times, Divide}
use Rattle.log_theory.specs.declared.step.Step.{Step}
use Rattle.log_theory.specs.declared.step.Step.TheVariants.{D}
use Rattle.log_theory.specs.Words.{same_word, pieces}
use Rattle.log_theory.specs.LogText.{is_numeral, numeral_below, numeral_of, name_from, name_pieces, name_of, ref_from, row_ref, ref_of, variable_of, literal_from, literal_of, in_front, all_of, Behind, Nothing, Star, Dee, OpsRead, op_read, number_op, push_op, op_in_front, ops_in_front, ops_read, ops_from, Parted, part, closed, when_closed, p_from, u_from, n_from, is_line, d_from, e_from, y_from, m_from, u_parted, step_behind, IsName, IsRef, AreRefs, AreLiterals, AreOnes, IsOp, AreOps, IsStep}
use Rattle.proof_log.specs.declared.fault.StepFault.{StepFault}
use Rattle.proof_log.specs.Reading.{IsTold}

-- What is told, if anything is, is so.
abbrev pub IfTold : {A : Type 0} → (A → Type 0) → Option A → Type 0
IfTold P None = Unit {0}
IfTold P (Some x) = P x

pub record Within {A : Type 0} (P : A → Type 0) (o : Option A) : Type 0 where
  pub is : IfTold P o

nothing : {A : Type 0} → (P : A → Type 0) → Within P None
nothing P = record { is = tt }

-- One of two by a test.
either : {A : Type 0} → (P : A → Type 0) (b : Bool) (x y : Option A) → Within P x → Within P y → Within P (cond b x y)
either P true x y h k = h
either P false x y h k = k

numeral_within : (most : ℕ) (w : List ℕ) → Within (λ n. n < most) (numeral_below most w)
numeral_within most w = by (is_numeral w) (nat_lt (digits_value 10 w) most) refl
  where
    by : (b c : Bool) → nat_lt (digits_value 10 w) most ≡ c → Within (λ n. n < most) (cond (b && c) (Some (digits_value 10 w)) None)
    by true true e = record { is = ltb-true (digits_value 10 w) most e }
    by true false e = record { is = tt }
    by false c e = record { is = tt }

name_from_within : (owner number : Option ℕ) → Within (λ n. n < 2 ^ 63) number → Within IsName (name_from owner number)
name_from_within None number h = record { is = tt }
name_from_within (Some a) None h = record { is = tt }
name_from_within (Some a) (Some b) h = by (nat_le a 64) (nat_le 1 b) refl refl
  where
    by : (x y : Bool) → nat_le a 64 ≡ x → nat_le 1 b ≡ y → Within IsName (cond (x && y) (Some (record { owner = a; number = b })) None)
    by true true e f = record { is = record { owner_fits = leb-true a 64 e; from_one = leb-true 1 b f; number_fits = h.is } }
    by true false e f = record { is = tt }
    by false y e f = record { is = tt }

pieces_within : (ps : List (List ℕ)) → Within IsName (name_pieces ps)
pieces_within [] = record { is = tt }
pieces_within (a ∷ []) = record { is = tt }
pieces_within (a ∷ b ∷ []) = name_from_within (numeral_of a) (numeral_of b) (numeral_within (2 ^ 63) b)
pieces_within (a ∷ b ∷ c ∷ ps) = record { is = tt }

pub name_within : (w : List ℕ) → Within IsName (name_of w)
name_within w = pieces_within (pieces (λ b. b == 46) w)

ref_from_within : (k : Option ℕ) (n : Option Name) → Within (λ x. x < 2 ^ 63) k → Within IsName n → Within IsRef (ref_from k n)
ref_from_within (Some k) n h i = record { is = h.is }
ref_from_within None (Some n) h i = record { is = i.is }
ref_from_within None None h i = record { is = tt }

row_within : (o : Option ℕ) → Within (λ x. x < 2 ^ 22) o → Within IsRef (row_ref o)
row_within None h = record { is = tt }
row_within (Some row) h = record { is = h.is }

ref_within : (w : List ℕ) → Within IsRef (ref_of w)
ref_within [] = record { is = tt }
ref_within (b ∷ bs) = either IsRef (b == 35) _ _ (row_within (numeral_below (2 ^ 22) bs) (numeral_within (2 ^ 22) bs)) (ref_from_within (numeral_of (b ∷ bs)) (name_of (b ∷ bs)) (numeral_within (2 ^ 63) (b ∷ bs)) (name_within (b ∷ bs)))

variable_within : (w : List ℕ) → Within (λ v. v < 2 ^ 32) (variable_of w)
variable_within [] = record { is = tt }
variable_within (b ∷ bs) = either (λ v. v < 2 ^ 32) (b == 120) _ _ (numeral_within (2 ^ 32) bs) (record { is = tt })

-- Variables of literals are below 2^32.
abbrev pub IsSmall : Literal → Type 0
IsSmall l = l.variable < 2 ^ 32

literal_from_within : (negated : Bool) (o : Option ℕ) → Within (λ v. v < 2 ^ 32) o → Within IsSmall (literal_from negated o)
literal_from_within negated None h = record { is = tt }
literal_from_within negated (Some v) h = record { is = h.is }

literal_within : (w : List ℕ) → Within IsSmall (literal_of w)
literal_within [] = record { is = tt }
literal_within (b ∷ bs) = either IsSmall (b == 126) _ _ (literal_from_within true (variable_of bs) (variable_within bs)) (literal_from_within false (variable_of (b ∷ bs)) (variable_within (b ∷ bs)))

pub literals_within : (ws : List (List ℕ)) → Within AreLiterals (all_of literal_of ws)
literals_within [] = record { is = tt }
literals_within (w ∷ ws) = by (literal_of w) (all_of literal_of ws) (literal_within w) (literals_within ws)
  where
    by : (x : Option Literal) (xs : Option (List Literal)) → Within IsSmall x → Within AreLiterals xs → Within AreLiterals (in_front x xs)
    by None xs h k = record { is = tt }
    by (Some x) None h k = record { is = tt }
    by (Some x) (Some xs) h k = record { is = (h.is, k.is) }

refs_within : (ws : List (List ℕ)) → Within AreRefs (all_of ref_of ws)
refs_within [] = record { is = tt }
refs_within (w ∷ ws) = by (ref_of w) (all_of ref_of ws) (ref_within w) (refs_within ws)
  where
    by : (x : Option Ref) (xs : Option (List Ref)) → Within IsRef x → Within AreRefs xs → Within AreRefs (in_front x xs)
    by None xs h k = record { is = tt }
    by (Some x) None h k = record { is = tt }
    by (Some x) (Some xs) h k = record { is = (h.is, k.is) }

ones_within : (ws : List (List ℕ)) → Within AreOnes (all_of variable_of ws)
ones_within [] = record { is = tt }
ones_within (w ∷ ws) = by (variable_of w) (all_of variable_of ws) (variable_within w) (ones_within ws)
  where
    by : (x : Option ℕ) (xs : Option (List ℕ)) → Within (λ v. v < 2 ^ 32) x → Within AreOnes xs → Within AreOnes (in_front x xs)
    by None xs h k = record { is = tt }
    by (Some x) None h k = record { is = tt }
    by (Some x) (Some xs) h k = record { is = (h.is, k.is) }

-- Operations read so far.
abbrev pub AreRead : OpsRead → Type 0
AreRead r = AreOps r.ops

push_within : (l : Option Literal) (r : Option Ref) → Within IsSmall l → Within IsRef r → Within IsOp (push_op l r)
push_within (Some l) r h k = record { is = h.is }
push_within None (Some r) h k = record { is = k.is }
push_within None None h k = record { is = tt }

times_within : (o : Option ℕ) → Within (λ n. n < 2 ^ 63) o → Within IsOp (number_op Times o)
times_within None h = record { is = tt }
times_within (Some n) h = record { is = h.is }

divide_within : (o : Option ℕ) → Within (λ n. n < 2 ^ 63) o → Within IsOp (number_op Divide o)
divide_within None h = record { is = tt }
divide_within (Some n) h = record { is = h.is }

op_read_within : (o : Option Op) (os : List Op) → Within IsOp o → AreOps os → Within AreRead (op_read o os)
op_read_within None os h k = record { is = tt }
op_read_within (Some o) os h k = record { is = (h.is, k) }

op_within : (w : List ℕ) (b : Behind) (os : List Op) → AreOps os → Within AreRead (op_in_front w b os)
op_within w Star os k = op_read_within (number_op Times (numeral_of w)) os (times_within (numeral_of w) (numeral_within (2 ^ 63) w)) k
op_within w Dee os k = op_read_within (number_op Divide (numeral_of w)) os (divide_within (numeral_of w) (numeral_within (2 ^ 63) w)) k
op_within w Nothing os k =
    either AreRead (same_word w (codes "*")) _ _ (record { is = k })
    (either AreRead (same_word w (codes "d")) _ _ (record { is = k })
    (either AreRead (same_word w (codes "+")) _ _ (record { is = (tt, k) })
    (either AreRead (same_word w (codes "s")) _ _ (record { is = (tt, k) }) (op_read_within (push_op (literal_of w) (ref_of w)) os (push_within (literal_of w) (ref_of w) (literal_within w) (ref_within w)) k))))

ops_read_within : (ws : List (List ℕ)) → Within AreRead (ops_read ws)
ops_read_within [] = record { is = tt }
ops_read_within (w ∷ ws) = by (ops_read ws) (ops_read_within ws)
  where
    by : (r : Option OpsRead) → Within AreRead r → Within AreRead (ops_in_front w r)
    by None h = record { is = tt }
    by (Some r) h = op_within w r.waits r.ops h.is

ops_within : (ws : List (List ℕ)) → Within AreOps (ops_from (ops_read ws))
ops_within ws = by (ops_read ws) (ops_read_within ws)
  where
    waiting : (b : Behind) (os : List Op) → AreOps os → Within AreOps (ops_from (Some (record { waits = b; ops = os })))
    waiting Nothing os k = record { is = k }
    waiting Star os k = record { is = tt }
    waiting Dee os k = record { is = tt }

    by : (r : Option OpsRead) → Within AreRead r → Within AreOps (ops_from r)
    by None h = record { is = tt }
    by (Some r) h = waiting r.waits r.ops h.is

pub closed_within : {A : Type 0} → (P : List A → Type 0) (tell : List (List ℕ) → Option (List A)) → ((ws : List (List ℕ)) → Within P (tell ws)) → (o : Option (List (List ℕ))) → Within P (when_closed tell o)
closed_within P tell h None = record { is = tt }
closed_within P tell h (Some ws) = h ws

p_within : (n : Option Name) (os : Option (List Op)) → Within IsName n → Within AreOps os → Within IsStep (p_from n os)
p_within None os h k = record { is = tt }
p_within (Some n) None h k = record { is = tt }
p_within (Some n) (Some os) h k = record { is = (h.is, k.is) }

u_from_within : (n : Option Name) (ls : Option (List Literal)) (rs : Option (List Ref)) → Within IsName n → Within AreLiterals ls → Within AreRefs rs → Within IsStep (u_from n ls rs)
u_from_within None ls rs h k m = record { is = tt }
u_from_within (Some n) None rs h k m = record { is = tt }
u_from_within (Some n) (Some ls) None h k m = record { is = tt }
u_from_within (Some n) (Some ls) (Some rs) h k m = record { is = (h.is, k.is, m.is) }

u_within : (name : List ℕ) (p : Option Parted) → Within IsStep (u_parted name p)
u_within name None = record { is = tt }
u_within name (Some p) =
    u_from_within (name_of name) (all_of literal_of p.front) (when_closed (all_of ref_of) (closed (part p.rest))) (name_within name) (literals_within p.front)
    (closed_within AreRefs (all_of ref_of) refs_within (closed (part p.rest)))

n_within : (row : Option ℕ) (n : Option Name) → Within (λ x. x < 2 ^ 22) row → Within IsName n → Within IsStep (n_from row n)
n_within None n h k = record { is = tt }
n_within (Some row) None h k = record { is = tt }
n_within (Some row) (Some n) h k = record { is = (h.is, k.is) }

d_within : (o : Option Ref) → Within IsRef o → Within IsStep (d_from o)
d_within None h = record { is = tt }
d_within (Some at) h = by (is_line at) refl
  where
    by : (b : Bool) → is_line at ≡ b → Within IsStep (cond b None (Some (D at)))
    by true e = record { is = tt }
    by false e = record { is = (h.is, e) }

e_within : (o : Option Ref) → Within IsRef o → Within IsStep (e_from o)
e_within None h = record { is = tt }
e_within (Some at) h = record { is = h.is }

y_within : (o : Option (List ℕ)) → Within AreOnes o → Within IsStep (y_from o)
y_within None h = record { is = tt }
y_within (Some ones) h = record { is = h.is }

m_within : (o : Option ℕ) → Within (λ n. n < 2 ^ 63) o → Within IsStep (m_from o)
m_within None h = record { is = tt }
m_within (Some m) h = record { is = h.is }

ones_line_within : (ws : List (List ℕ)) → Within IsStep (y_from (all_of variable_of ws))
ones_line_within ws = y_within (all_of variable_of ws) (ones_within ws)

-- A line with a word behind its first one, where the shorter kinds are within.
long_within : (kind name : List ℕ) (ws : List (List ℕ)) (short : Option Step) → Within IsStep short
    → Within IsStep (cond (same_word kind (codes "p")) (p_from (name_of name) (when_closed (λ os. ops_from (ops_read os)) (closed (part ws)))) (cond (same_word kind (codes "u")) (u_parted name (part ws)) short))
long_within kind name ws short h =
    either IsStep (same_word kind (codes "p")) _ _
    (p_within (name_of name) (when_closed (λ os. ops_from (ops_read os)) (closed (part ws))) (name_within name) (closed_within AreOps (λ os. ops_from (ops_read os)) ops_within (closed (part ws))))
    (either IsStep (same_word kind (codes "u")) _ _ (u_within name (part ws)) h)

pub step_within : (kind : List ℕ) (ws : List (List ℕ)) → Within IsStep (step_behind kind ws)
step_within kind [] = either IsStep (same_word kind (codes "y")) _ _ (record { is = tt }) (either IsStep (same_word kind (codes "q")) _ _ (record { is = tt }) (record { is = tt }))
step_within kind (v ∷ []) =
    long_within kind v [] _
    (either IsStep (same_word kind (codes "m")) _ _ (m_within (numeral_of v) (numeral_within (2 ^ 63) v))
    (either IsStep (same_word kind (codes "d")) _ _ (d_within (ref_of v) (ref_within v))
    (either IsStep (same_word kind (codes "e")) _ _ (e_within (ref_of v) (ref_within v)) (either IsStep (same_word kind (codes "y")) _ _ (ones_line_within (v ∷ [])) (record { is = tt })))))
step_within kind (v ∷ w ∷ []) =
    long_within kind v (w ∷ []) _
    (either IsStep (same_word kind (codes "n")) _ _ (n_within (numeral_below (2 ^ 22) v) (name_of w) (numeral_within (2 ^ 22) v) (name_within w))
    (either IsStep (same_word kind (codes "embedding") && same_word v (codes "proof") && same_word w (codes "1")) _ _ (record { is = tt })
    (either IsStep (same_word kind (codes "y")) _ _ (ones_line_within (v ∷ w ∷ [])) (record { is = tt }))))
step_within kind (v ∷ w ∷ x ∷ ws) = long_within kind v (w ∷ x ∷ ws) _ (either IsStep (same_word kind (codes "y")) _ _ (ones_line_within (v ∷ w ∷ x ∷ ws)) (record { is = tt }))

-- What a line's reader answers is a step whose numbers are in their ranges.
pub answer_within : (kind : List ℕ) (ws : List (List ℕ)) (r : Result Step StepFault) → IsTold r (step_behind kind ws) → IfOk r (λ s. IsStep s)
answer_within kind ws (Ok s) h = told (step_behind kind ws) (step_within kind ws) h
  where
    told : (o : Option Step) → Within IsStep o → o ≡ Some s → IsStep s
    told None k e = cc
    told (Some t) k e = let f : t ≡ s = cc in subst IsStep f k.is
answer_within kind ws (Err e) h = tt
