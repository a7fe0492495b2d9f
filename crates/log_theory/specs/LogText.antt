-- The text of a log's lines: the words of each step, and the step that words tell.
use Rattle.std.specs.Prelude.{◌≡◌, ⊤, ◌≤◌, ◌<◌, ℕ, ◌^◌, Bool, true, false, cond, not, ◌==◌, ◌&&◌, ◌||◌, nat_lt, nat_le, List, [], ◌∷◌, ◌++◌, map, Option, Some, None}
use Rattle.std.specs.Fmt.{decimal}
use Rattle.std.specs.Str.{all_ascii_digits}
use Rattle.std.specs.Str.Parse.{digits_value}
use lib.Chars.{codes}
use Rattle.proof_theory.specs.declared.literal.Literal.{Literal}
use Rattle.log_theory.specs.declared.step.Name.{Name}
use Rattle.log_theory.specs.declared.step.Ref.{Ref}
use Rattle.log_theory.specs.declared.step.Ref.TheVariants.{Line, Made, Shared}
use Rattle.log_theory.specs.declared.step.Op.{Op}
use Rattle.log_theory.specs.declared.step.Op.TheVariants.{Push, Axiom, Add, Times, Divide, Saturate}
use Rattle.log_theory.specs.declared.step.Step.{Step}
use Rattle.log_theory.specs.declared.step.Step.TheVariants.{Head, Model, P, U, N, D, E, Y, Q}
use Rattle.log_theory.specs.Words.{pieces, is_empty, same_word, begins_with}

-- ---- the words of a step

-- `owner.number`
abbrev pub name_text : Name → List ℕ
name_text n = decimal n.owner ++ 46 ∷ decimal n.number

-- A number of the model, a name, or `#` and a row.
abbrev pub ref_text : Ref → List ℕ
ref_text (Line k) = decimal k
ref_text (Made n) = name_text n
ref_text (Shared row) = 35 ∷ decimal row

-- `x` and a variable, with `~` in front of a negated one.
abbrev pub literal_text : Literal → List ℕ
literal_text l = cond l.negated (126 ∷ 120 ∷ decimal l.variable) (120 ∷ decimal l.variable)

-- The words of some operations.
abbrev pub op_words : List Op → List (List ℕ)
op_words [] = []
op_words (Push r ∷ os) = ref_text r ∷ op_words os
op_words (Axiom l ∷ os) = literal_text l ∷ op_words os
op_words (Add ∷ os) = codes "+" ∷ op_words os
op_words (Times n ∷ os) = decimal n ∷ codes "*" ∷ op_words os
op_words (Divide n ∷ os) = decimal n ∷ codes "d" ∷ op_words os
op_words (Saturate ∷ os) = codes "s" ∷ op_words os

-- The words of a line.
abbrev pub step_words : Step → List (List ℕ)
step_words Head = codes "embedding" ∷ codes "proof" ∷ codes "1" ∷ []
step_words (Model m) = codes "m" ∷ decimal m ∷ []
step_words (P name ops) = codes "p" ∷ name_text name ∷ (op_words ops ++ codes ";" ∷ [])
step_words (U name lits refs) = codes "u" ∷ name_text name ∷ (map literal_text lits
    ++ codes ";" ∷ (map ref_text refs ++ codes ";" ∷ []))
step_words (N row name) = codes "n" ∷ decimal row ∷ name_text name ∷ []
step_words (D at) = codes "d" ∷ ref_text at ∷ []
step_words (E at) = codes "e" ∷ ref_text at ∷ []
step_words (Y ones) = codes "y" ∷ map (λ v. 120 ∷ decimal v) ones
step_words Q = codes "q" ∷ []

-- ---- the step of words

-- Whether a word is the digits of a number, without a leading zero.
abbrev pub is_numeral : List ℕ → Bool
is_numeral w = not (is_empty w) && all_ascii_digits w
    && (not (begins_with (48 ∷ []) w) || same_word w (48 ∷ []))

-- The number that a word writes, below `most`.
abbrev pub numeral_below : ℕ → List ℕ → Option ℕ
numeral_below most w = cond (is_numeral w
    && nat_lt (digits_value 10 w) most) (Some (digits_value 10 w)) None

-- The number that a word writes, below 2^63.
abbrev pub numeral_of : List ℕ → Option ℕ
numeral_of w = numeral_below (2 ^ 63) w

-- A name of an owner up to 64 and a number from 1.
abbrev pub name_from : Option ℕ → Option ℕ → Option Name
name_from (Some owner) (Some number) = cond (nat_le owner 64
    && nat_le 1 number) (Some (record { owner = owner; number = number })) None
name_from _ _ = None

-- The name that the pieces round a dot tell.
abbrev pub name_pieces : List (List ℕ) → Option Name
name_pieces (owner ∷ number ∷ []) = name_from (numeral_of owner) (numeral_of number)
name_pieces _ = None

-- The name that a word tells.
abbrev pub name_of : List ℕ → Option Name
name_of w = name_pieces (pieces (λ b. b == 46) w)

-- A reference to the model, if there is a number, else to a name.
abbrev pub ref_from : Option ℕ → Option Name → Option Ref
ref_from (Some k) name = Some (Line k)
ref_from None (Some n) = Some (Made n)
ref_from None None = None

-- A reference to a row.
abbrev pub row_ref : Option ℕ → Option Ref
row_ref (Some row) = Some (Shared row)
row_ref None = None

-- The reference that a word tells; a row is below 2^22.
abbrev pub ref_of : List ℕ → Option Ref
ref_of [] = None
ref_of (b ∷ bs) = cond (b == 35) (row_ref (numeral_below (2 ^ 22) bs)) (ref_from (numeral_of
    (b ∷ bs)) (name_of (b ∷ bs)))

-- The variable that a word tells, below 2^32.
abbrev pub variable_of : List ℕ → Option ℕ
variable_of [] = None
variable_of (b ∷ bs) = cond (b == 120) (numeral_below (2 ^ 32) bs) None

-- A literal of a variable.
abbrev pub literal_from : Bool → Option ℕ → Option Literal
literal_from negated (Some v) = Some (record { variable = v; negated = negated })
literal_from negated None = None

-- The literal that a word tells.
abbrev pub literal_of : List ℕ → Option Literal
literal_of [] = None
literal_of (b ∷ bs) = cond (b == 126) (literal_from true (variable_of bs)) (literal_from false
    (variable_of (b ∷ bs)))

-- One more item in front, where both are there.
abbrev pub in_front : {A : Type 0} → Option A → Option (List A) → Option (List A)
in_front (Some x) (Some xs) = Some (x ∷ xs)
in_front _ _ = None

-- The items that words tell, if each word tells one.
abbrev pub all_of : {A : Type 0} → (List ℕ → Option A) → List (List ℕ) → Option (List A)
all_of tell [] = Some []
all_of tell (w ∷ ws) = in_front (tell w) (all_of tell ws)

-- What the words behind an operation's word say of it: it may be a number that `*` or `d` waits for.
pub data Behind : Type 0 where
  Nothing : Behind
  Star : Behind
  Dee : Behind

-- Operations read from the right: what waits for the word in front, and the operations so far.
pub record OpsRead : Type 0 where
  pub waits : Behind
  pub ops : List Op

-- An operation in front, if there is one.
abbrev pub op_read : Option Op → List Op → Option OpsRead
op_read (Some o) os = Some (record { waits = Nothing; ops = o ∷ os })
op_read None os = None

-- The operation of a number for `*` or `d`.
abbrev pub number_op : (ℕ → Op) → Option ℕ → Option Op
number_op make (Some n) = Some (make n)
number_op make None = None

-- The operation of a word for which nothing waits: a literal's axiom or a reference.
abbrev pub push_op : Option Literal → Option Ref → Option Op
push_op (Some l) r = Some (Axiom l)
push_op None (Some r) = Some (Push r)
push_op None None = None

-- One more word in front of the operations read.
abbrev pub op_in_front : List ℕ → Behind → List Op → Option OpsRead
op_in_front w Star os = op_read (number_op Times (numeral_of w)) os
op_in_front w Dee os = op_read (number_op Divide (numeral_of w)) os
op_in_front w Nothing os =
    cond (same_word w (codes "*")) (Some (record { waits = Star; ops = os }))
    (cond (same_word w (codes "d")) (Some (record { waits = Dee; ops = os }))
    (cond (same_word w (codes "+")) (op_read (Some Add) os)
    (cond (same_word w (codes "s")) (op_read (Some Saturate) os) (op_read (push_op (literal_of w)
    (ref_of w)) os))))

-- A further word in front of what was read, if that was read.
abbrev pub ops_in_front : List ℕ → Option OpsRead → Option OpsRead
ops_in_front w (Some r) = op_in_front w r.waits r.ops
ops_in_front w None = None

-- Words as operations, read from the right.
abbrev pub ops_read : List (List ℕ) → Option OpsRead
ops_read [] = Some (record { waits = Nothing; ops = [] })
ops_read (w ∷ ws) = ops_in_front w (ops_read ws)

-- All operations, where no `*` or `d` still waits.
abbrev pub ops_from : Option OpsRead → Option (List Op)
ops_from None = None
ops_from (Some r) = none_waits r.waits r.ops
  where
    none_waits : Behind → List Op → Option (List Op)
    none_waits Nothing os = Some os
    none_waits _ os = None

-- The words up to the first `;`, and those behind it.
pub record Parted : Type 0 where
  pub front : List (List ℕ)
  pub rest : List (List ℕ)

-- A word in front of parted words.
abbrev pub parted_in_front : List ℕ → Option Parted → Option Parted
parted_in_front w None = None
parted_in_front w (Some p) = Some (record { front = w ∷ p.front; rest = p.rest })

-- Words parted at the first `;`.
abbrev pub part : List (List ℕ) → Option Parted
part [] = None
part (w ∷ ws) = cond (same_word w (codes ";")) (Some (record { front = []; rest = ws }))
    (parted_in_front w (part ws))

-- The words before a `;` that ends the line.
abbrev pub closed : Option Parted → Option (List (List ℕ))
closed None = None
closed (Some p) = nothing_behind p.rest p.front
  where
    nothing_behind : List (List ℕ) → List (List ℕ) → Option (List (List ℕ))
    nothing_behind [] front = Some front
    nothing_behind (w ∷ ws) front = None

-- The step of each kind, from its parts.
abbrev pub p_from : Option Name → Option (List Op) → Option Step
p_from (Some name) (Some ops) = Some (P name ops)
p_from _ _ = None

abbrev pub u_from : Option Name → Option (List Literal) → Option (List Ref) → Option Step
u_from (Some name) (Some lits) (Some refs) = Some (U name lits refs)
u_from _ _ _ = None

abbrev pub n_from : Option ℕ → Option Name → Option Step
n_from (Some row) (Some name) = Some (N row name)
n_from _ _ = None

-- Whether a reference is a number of the model.
abbrev pub is_line : Ref → Bool
is_line (Line k) = true
is_line _ = false

-- What a model holds is not deleted.
abbrev pub d_from : Option Ref → Option Step
d_from (Some at) = cond (is_line at) None (Some (D at))
d_from None = None

abbrev pub e_from : Option Ref → Option Step
e_from (Some at) = Some (E at)
e_from None = None

abbrev pub y_from : Option (List ℕ) → Option Step
y_from (Some ones) = Some (Y ones)
y_from None = None

abbrev pub m_from : Option ℕ → Option Step
m_from (Some m) = Some (Model m)
m_from None = None

-- What closed words tell, if there are any.
abbrev pub when_closed : {A : Type 0} → (List (List ℕ) → Option A) → Option (List (List ℕ))
    → Option A
when_closed tell (Some ws) = tell ws
when_closed tell None = None

-- A `u` line from its name and its words parted once.
abbrev pub u_parted : List ℕ → Option Parted → Option Step
u_parted name None = None
u_parted name (Some p) = u_from (name_of name) (all_of literal_of p.front) (when_closed
    (all_of ref_of) (closed (part p.rest)))

-- The step of the words behind the first one, by that word.
abbrev pub step_behind : List ℕ → List (List ℕ) → Option Step
step_behind kind (name ∷ ws) =
    cond (same_word kind (codes "p")) (p_from (name_of name) (when_closed (λ os. ops_from
    (ops_read os)) (closed (part ws))))
    (cond (same_word kind (codes "u")) (u_parted name (part ws)) (short_step kind (name ∷ ws)))
  where
    short_step : List ℕ → List (List ℕ) → Option Step
    short_step k (v ∷ []) =
        cond (same_word k (codes "m")) (m_from (numeral_of v))
        (cond (same_word k (codes "d")) (d_from (ref_of v))
        (cond (same_word k (codes "e")) (e_from (ref_of v)) (cond (same_word k (codes "y"))
        (y_from (all_of variable_of (v ∷ []))) None)))
    short_step k (v ∷ w ∷ []) =
        cond (same_word k (codes "n")) (n_from (numeral_below (2 ^ 22) v) (name_of w))
        (cond (same_word k (codes "embedding") && same_word v (codes "proof")
        && same_word w (codes "1")) (Some Head)
        (cond (same_word k (codes "y")) (y_from (all_of variable_of (v ∷ w ∷ []))) None))
    short_step k vs = cond (same_word k (codes "y")) (y_from (all_of variable_of vs)) None
step_behind kind [] = cond (same_word kind (codes "y")) (Some (Y [])) (cond (same_word kind
    (codes "q")) (Some Q) None)

-- The step that words tell, if they are of its grammar.
abbrev pub step_of_words : List (List ℕ) → Option Step
step_of_words [] = None
step_of_words (w ∷ ws) = step_behind w ws

-- The step that a line tells: its words stand apart by one blank.
abbrev pub read_line : List ℕ → Option Step
read_line line = step_of_words (pieces (λ b. b == 32) line)

-- ---- the ranges of a step's numbers

-- An owner up to 64, and a number from 1 below 2^63.
pub record IsName (n : Name) : Type 0 where
  pub owner_fits : n.owner ≤ 64
  pub from_one : 1 ≤ n.number
  pub number_fits : n.number < 2 ^ 63

-- A number of the model below 2^63, a name, or a row below 2^22.
abbrev pub IsRef : Ref → Type 0
IsRef (Line k) = k < 2 ^ 63
IsRef (Made n) = IsName n
IsRef (Shared row) = row < 2 ^ 22

abbrev pub AreRefs : List Ref → Type 0
AreRefs [] = ⊤
AreRefs (r ∷ rs) = IsRef r × AreRefs rs

-- Variables below 2^32.
abbrev pub AreLiterals : List Literal → Type 0
AreLiterals [] = ⊤
AreLiterals (l ∷ ls) = (l.variable < 2 ^ 32) × AreLiterals ls

abbrev pub AreOnes : List ℕ → Type 0
AreOnes [] = ⊤
AreOnes (v ∷ vs) = (v < 2 ^ 32) × AreOnes vs

-- Operations over such numbers.
abbrev pub IsOp : Op → Type 0
IsOp (Push r) = IsRef r
IsOp (Axiom l) = l.variable < 2 ^ 32
IsOp Add = ⊤
IsOp (Times n) = n < 2 ^ 63
IsOp (Divide n) = n < 2 ^ 63
IsOp Saturate = ⊤

abbrev pub AreOps : List Op → Type 0
AreOps [] = ⊤
AreOps (o ∷ os) = IsOp o × AreOps os

-- The numbers of a step are in their ranges.
abbrev pub IsStep : Step → Type 0
IsStep Head = ⊤
IsStep (Model m) = m < 2 ^ 63
IsStep (P name ops) = IsName name × AreOps ops
IsStep (U name lits refs) = IsName name × AreLiterals lits × AreRefs refs
IsStep (N row name) = (row < 2 ^ 22) × IsName name
IsStep (D at) = IsRef at × (is_line at ≡ false)
IsStep (E at) = IsRef at
IsStep (Y ones) = AreOnes ones
IsStep Q = ⊤
