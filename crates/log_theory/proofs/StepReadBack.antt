-- The line of a step is read as that step.
use Rattle.std.proofs.Common.{◌≡◌, ◌≢◌, ℕ, zero, suc, ◌≤◌, ◌<◌, ◌^◌, Bool, true, false, cond, not, ◌==◌, ◌&&◌, ◌||◌, nat_lt, nat_le, List, [], ◌∷◌, ◌++◌, map, get_or, Option, Some, None, refl, sym, ap, ◌∙◌, subst, arith}
use Rattle.std.specs.Fmt.{decimal}
use Rattle.std.specs.Char.{is_ascii_digit}
use Rattle.std.specs.Str.{all_ascii_digits}
use Rattle.std.specs.Str.Parse.{digits_value}
use Rattle.std.proofs.lemmas.Bool.{ne_eqb, and_from, le-leb, lt-ltb}
use Rattle.std.proofs.lemmas.Fmt.{decimal_digit, first_decimal, decimal_is_IsNumeral_wide}
use Rattle.std.proofs.lemmas.List.{append-nil}
use lib.Chars.{codes}
use Rattle.proof_theory.specs.declared.literal.Literal.{Literal}
use Rattle.log_theory.specs.declared.step.Name.{Name}
use Rattle.log_theory.specs.declared.step.Ref.{Ref}
use Rattle.log_theory.specs.declared.step.Ref.TheVariants.{Line, Made, Shared}
use Rattle.log_theory.specs.declared.step.Op.{Op}
use Rattle.log_theory.specs.declared.step.Op.TheVariants.{Push, Axiom, Add, Times, Divide, Saturate}
use Rattle.log_theory.specs.declared.step.Step.{Step}
use Rattle.log_theory.specs.declared.step.Step.TheVariants.{Head, Model, P, U, N, D, E, Y, Q}
use Rattle.log_theory.specs.Words.{pieces, is_empty, same_word, begins_with, joined}
use Rattle.log_theory.specs.LogText.{name_text, ref_text, literal_text, op_words, step_words, is_numeral, numeral_below, numeral_of, name_from, name_pieces, name_of, ref_from, row_ref, ref_of, variable_of, literal_from, literal_of, in_front, all_of, Nothing, Star, Dee, OpsRead, op_read, number_op, push_op, op_in_front, ops_in_front, ops_read, ops_from, Parted, parted_in_front, part, closed, p_from, u_from, n_from, d_from, e_from, y_from, m_from, when_closed, u_parted, step_behind, step_of_words, read_line, IsName, IsRef, AreRefs, AreLiterals, AreOnes, AreOps, IsStep}
use Rattle.log_theory.proofs.Splitting.{AllBetween, AllBetween-append, AllBetween-tested, Passes, pieces_front, pieces_whole, IsWord, AreWords, AreWords-append, pieces_joined, decimal_bytes, decimal_some, all_ascii_digits-between, IsWord-decimal}

-- A number has no leading zero.
no_zero : (n : ℕ) → n < 2 ^ 63 → (not (begins_with (48 ∷ []) (decimal n)) || same_word (decimal n) (48 ∷ [])) ≡ true
no_zero zero h = subst (λ (w : List ℕ). (not (begins_with (48 ∷ []) w) || same_word w (48 ∷ [])) ≡ true) (sym (decimal_digit 0 (omega arith))) refl
no_zero (suc n) h = by-first (decimal (suc n)) (first_decimal (suc n) (omega arith) (omega arith))
  where
    by-first : (w : List ℕ) → 48 < get_or w 0 0 → (not (begins_with (48 ∷ []) w) || same_word w (48 ∷ [])) ≡ true
    by-first [] k = absurd (omega arith)
    by-first (d ∷ ds) k = ap (λ (b : Bool). not (b && true) || same_word (d ∷ ds) (48 ∷ [])) (ne_eqb 48 d (λ (e : 48 ≡ d). omega arith))

-- A number's digits are read as that number.
numeral-decimal : (most n : ℕ) → n < most → most ≤ 2 ^ 63 → numeral_below most (decimal n) ≡ Some n
numeral-decimal most n h k =
    let v = (decimal_is_IsNumeral_wide n (omega arith)).1 in
    ap (λ (b : Bool). let o : Option ℕ = cond b (Some (digits_value 10 (decimal n))) None in o)
    (and_from (is_numeral (decimal n)) (nat_lt (digits_value 10 (decimal n)) most)
    (and_from (not (is_empty (decimal n)) && all_ascii_digits (decimal n)) (not (begins_with (48 ∷ []) (decimal n)) || same_word (decimal n) (48 ∷ []))
    (and_from (not (is_empty (decimal n))) (all_ascii_digits (decimal n)) (ap not (decimal_some n (omega arith))) (all_ascii_digits-between (decimal n) (decimal_bytes n (omega arith))))
    (no_zero n (omega arith)))
    (lt-ltb (digits_value 10 (decimal n)) most (omega arith)))
    ∙ ap (λ (m : ℕ). let o : Option ℕ = Some m in o) v

passes_dot : Passes (λ b. b == 46) 48 57
passes_dot = record { over = λ b h k. ne_eqb b 46 (λ (e : b ≡ 46). omega arith) }

-- A name is read as itself.
pub name_read : (n : Name) → IsName n → name_of (name_text n) ≡ Some n
name_read n h =
    let a = h.owner_fits in
    let b = h.from_one in
    let c = h.number_fits in
    ap name_pieces (pieces_front (λ x. x == 46) 48 57 46 (decimal n.owner) (decimal n.number) passes_dot refl (decimal_bytes n.owner (omega arith)) ∙ ap (λ (ps : List (List ℕ)). decimal n.owner ∷ ps) (pieces_whole (λ x. x == 46) 48 57 (decimal n.number) passes_dot (decimal_bytes n.number (omega arith))))
    ∙ ap (λ (o : Option ℕ). name_from o (numeral_of (decimal n.number))) (numeral-decimal (2 ^ 63) n.owner (omega arith) (omega arith))
    ∙ ap (λ (o : Option ℕ). name_from (Some n.owner) o) (numeral-decimal (2 ^ 63) n.number (omega arith) (omega arith))
    ∙ ap (λ (x : Bool). let o : Option Name = cond x (Some (record { owner = n.owner; number = n.number })) None in o) (and_from (nat_le n.owner 64) (nat_le 1 n.number) (le-leb n.owner 64 a) (le-leb 1 n.number b))

dot_no_digits : (front rest : List ℕ) → all_ascii_digits (front ++ 46 ∷ rest) ≡ false
dot_no_digits [] rest = refl
dot_no_digits (b ∷ bs) rest = ap (λ (x : Bool). is_ascii_digit b && x) (dot_no_digits bs rest) ∙ never (is_ascii_digit b)
  where
    never : (x : Bool) → (x && false) ≡ false
    never true = refl
    never false = refl

no_numeral : (w : List ℕ) → all_ascii_digits w ≡ false → numeral_of w ≡ None
no_numeral w e =
    ap (λ (x : Bool). let o : Option ℕ = cond (((not (is_empty w) && x) && (not (begins_with (48 ∷ []) w) || same_word w (48 ∷ []))) && nat_lt (digits_value 10 w) (2 ^ 63)) (Some (digits_value 10 w)) None in o) e
    ∙ by-empty (not (is_empty w)) (not (begins_with (48 ∷ []) w) || same_word w (48 ∷ [])) (nat_lt (digits_value 10 w) (2 ^ 63))
  where
    by-empty : (x y z : Bool) → cond (((x && false) && y) && z) (Some (digits_value 10 w)) None ≡ None
    by-empty true y z = refl
    by-empty false y z = refl

-- A word that begins with a digit.
pub record FromDigit (w : List ℕ) : Type 0 where
  pub digit : ℕ
  pub rest : List ℕ
  pub is : w ≡ digit ∷ rest
  pub low : 48 ≤ digit
  pub high : digit ≤ 57

from_digit : (w more : List ℕ) → AllBetween 48 57 w → is_empty w ≡ false → FromDigit (w ++ more)
from_digit [] more h e = absurd cc
from_digit (d ∷ ds) more h e = record { digit = d; rest = ds ++ more; is = refl; low = h.0; high = h.1 }

decimal_from_digit : (n : ℕ) (more : List ℕ) → n < 2 ^ 63 → FromDigit (decimal n ++ more)
decimal_from_digit n more h = from_digit (decimal n) more (decimal_bytes n (omega arith)) (decimal_some n (omega arith))

digit_ref : (w : List ℕ) → FromDigit w → ref_of w ≡ ref_from (numeral_of w) (name_of w)
digit_ref w d =
    let l = d.low in
    let m = d.high in
    subst (λ (v : List ℕ). ref_of v ≡ ref_from (numeral_of v) (name_of v)) (sym d.is)
    (ap (λ (x : Bool). cond x (row_ref (numeral_below (2 ^ 22) d.rest)) (ref_from (numeral_of (d.digit ∷ d.rest)) (name_of (d.digit ∷ d.rest)))) (ne_eqb d.digit 35 (λ (e : d.digit ≡ 35). omega arith)))

-- A reference is read as itself.
ref_read : (r : Ref) → IsRef r → ref_of (ref_text r) ≡ Some r
ref_read (Line k) h =
    digit_ref (decimal k) (subst FromDigit (append-nil (decimal k)) (decimal_from_digit k [] h))
    ∙ ap (λ (o : Option ℕ). ref_from o (name_of (decimal k))) (numeral-decimal (2 ^ 63) k h (omega arith))
ref_read (Made n) h =
    let a = h.owner_fits in
    digit_ref (name_text n) (decimal_from_digit n.owner (46 ∷ decimal n.number) (omega arith))
    ∙ ap (λ (o : Option ℕ). ref_from o (name_of (name_text n))) (no_numeral (name_text n) (dot_no_digits (decimal n.owner) (decimal n.number)))
    ∙ ap (ref_from None) (name_read n h)
ref_read (Shared row) h = ap row_ref (numeral-decimal (2 ^ 22) row h (omega arith))

-- A variable and a literal are read as themselves.
variable_read : (v : ℕ) → v < 2 ^ 32 → variable_of (120 ∷ decimal v) ≡ Some v
variable_read v h = numeral-decimal (2 ^ 32) v h (omega arith)

literal_read : (l : Literal) → l.variable < 2 ^ 32 → literal_of (literal_text l) ≡ Some l
literal_read l h = by-sign l.negated refl
  where
    by-sign : (b : Bool) → l.negated ≡ b → literal_of (cond b (126 ∷ 120 ∷ decimal l.variable) (120 ∷ decimal l.variable)) ≡ Some l
    by-sign true e = ap (literal_from true) (variable_read l.variable h) ∙ ap (λ (b : Bool). let o : Option Literal = Some (record { variable = l.variable; negated = b }) in o) (sym e)
    by-sign false e = ap (literal_from false) (variable_read l.variable h) ∙ ap (λ (b : Bool). let o : Option Literal = Some (record { variable = l.variable; negated = b }) in o) (sym e)

pub literals_read : (ls : List Literal) → AreLiterals ls → all_of literal_of (map literal_text ls) ≡ Some ls
literals_read [] h = refl
literals_read (l ∷ ls) h = ap (λ (o : Option Literal). in_front o (all_of literal_of (map literal_text ls))) (literal_read l h.0) ∙ ap (λ (o : Option (List Literal)). in_front (Some l) o) (literals_read ls h.1)

refs_read : (rs : List Ref) → AreRefs rs → all_of ref_of (map ref_text rs) ≡ Some rs
refs_read [] h = refl
refs_read (r ∷ rs) h = ap (λ (o : Option Ref). in_front o (all_of ref_of (map ref_text rs))) (ref_read r h.0) ∙ ap (λ (o : Option (List Ref)). in_front (Some r) o) (refs_read rs h.1)

ones_read : (vs : List ℕ) → AreOnes vs → all_of variable_of (map (λ v. 120 ∷ decimal v) vs) ≡ Some vs
ones_read [] h = refl
ones_read (v ∷ vs) h = ap (λ (o : Option ℕ). in_front o (all_of variable_of (map (λ w. 120 ∷ decimal w) vs))) (variable_read v h.0) ∙ ap (λ (o : Option (List ℕ)). in_front (Some v) o) (ones_read vs h.1)

-- Words other than `;` and the signs of operations.
pub record IsPlainWord (w : List ℕ) : Type 0 where
  pub semicolon : same_word w (codes ";") ≡ false
  pub star : same_word w (codes "*") ≡ false
  pub dee : same_word w (codes "d") ≡ false
  pub plus : same_word w (codes "+") ≡ false
  pub cut : same_word w (codes "s") ≡ false

other_byte : (d c : ℕ) (ds : List ℕ) → d ≢ c → same_word (d ∷ ds) (c ∷ []) ≡ false
other_byte d c ds n = ap (λ (x : Bool). x && same_word ds []) (ne_eqb d c n)

digit_plain : (w : List ℕ) → FromDigit w → IsPlainWord w
digit_plain w d =
    let l = d.low in
    let m = d.high in
    subst IsPlainWord (sym d.is) (record {
      semicolon = other_byte d.digit 59 d.rest (λ e. omega arith);
      star = other_byte d.digit 42 d.rest (λ e. omega arith);
      dee = other_byte d.digit 100 d.rest (λ e. omega arith);
      plus = other_byte d.digit 43 d.rest (λ e. omega arith);
      cut = other_byte d.digit 115 d.rest (λ e. omega arith);
    })

ref_plain : (r : Ref) → IsRef r → IsPlainWord (ref_text r)
ref_plain (Line k) h = digit_plain (decimal k) (subst FromDigit (append-nil (decimal k)) (decimal_from_digit k [] h))
ref_plain (Made n) h = let a = h.owner_fits in digit_plain (name_text n) (decimal_from_digit n.owner (46 ∷ decimal n.number) (omega arith))
ref_plain (Shared row) h = record { semicolon = refl; star = refl; dee = refl; plus = refl; cut = refl }

literal_plain : (l : Literal) → IsPlainWord (literal_text l)
literal_plain l = by-sign l.negated
  where
    by-sign : (b : Bool) → IsPlainWord (cond b (126 ∷ 120 ∷ decimal l.variable) (120 ∷ decimal l.variable))
    by-sign true = record { semicolon = refl; star = refl; dee = refl; plus = refl; cut = refl }
    by-sign false = record { semicolon = refl; star = refl; dee = refl; plus = refl; cut = refl }

-- Words before the first `;`.
abbrev pub AreBefore : List (List ℕ) → Type 0
AreBefore [] = Unit {0}
AreBefore (w ∷ ws) = (same_word w (codes ";") ≡ false) × AreBefore ws

pub part_at : (ws rest : List (List ℕ)) → AreBefore ws → part (ws ++ codes ";" ∷ rest) ≡ Some (record { front = ws; rest = rest })
part_at [] rest h = refl
part_at (w ∷ ws) rest h =
    ap (λ (x : Bool). cond x (Some (record { front = []; rest = ws ++ codes ";" ∷ rest })) (parted_in_front w (part (ws ++ codes ";" ∷ rest)))) h.0
    ∙ ap (parted_in_front w) (part_at ws rest h.1)

pub before_literals : (ls : List Literal) → AreBefore (map literal_text ls)
before_literals [] = tt
before_literals (l ∷ ls) = ((literal_plain l).semicolon, before_literals ls)

before_refs : (rs : List Ref) → AreRefs rs → AreBefore (map ref_text rs)
before_refs [] h = tt
before_refs (r ∷ rs) h = ((ref_plain r h.0).semicolon, before_refs rs h.1)

number_plain : (n : ℕ) → n < 2 ^ 63 → IsPlainWord (decimal n)
number_plain n h = ref_plain (Line n) h

before_ops : (os : List Op) → AreOps os → AreBefore (op_words os)
before_ops [] h = tt
before_ops (Push r ∷ os) h = ((ref_plain r h.0).semicolon, before_ops os h.1)
before_ops (Axiom l ∷ os) h = ((literal_plain l).semicolon, before_ops os h.1)
before_ops (Add ∷ os) h = (refl, before_ops os h.1)
before_ops (Times n ∷ os) h = ((number_plain n h.0).semicolon, (refl, before_ops os h.1))
before_ops (Divide n ∷ os) h = ((number_plain n h.0).semicolon, (refl, before_ops os h.1))
before_ops (Saturate ∷ os) h = (refl, before_ops os h.1)

-- A reference is no literal.
digit_no_literal : (w : List ℕ) → FromDigit w → literal_of w ≡ None
digit_no_literal w d =
    let l = d.low in
    let m = d.high in
    subst (λ (v : List ℕ). literal_of v ≡ None) (sym d.is)
    (ap (λ (x : Bool). cond x (literal_from true (variable_of d.rest)) (literal_from false (variable_of (d.digit ∷ d.rest)))) (ne_eqb d.digit 126 (λ (e : d.digit ≡ 126). omega arith))
    ∙ ap (λ (x : Bool). literal_from false (cond x (numeral_below (2 ^ 32) d.rest) None)) (ne_eqb d.digit 120 (λ (e : d.digit ≡ 120). omega arith)))

ref_no_literal : (r : Ref) → IsRef r → literal_of (ref_text r) ≡ None
ref_no_literal (Line k) h = digit_no_literal (decimal k) (subst FromDigit (append-nil (decimal k)) (decimal_from_digit k [] h))
ref_no_literal (Made n) h = let a = h.owner_fits in digit_no_literal (name_text n) (decimal_from_digit n.owner (46 ∷ decimal n.number) (omega arith))
ref_no_literal (Shared row) h = refl

-- A plain word in front of operations is what it pushes.
plain_op : (w : List ℕ) (os : List Op) → IsPlainWord w → op_in_front w Nothing os ≡ op_read (push_op (literal_of w) (ref_of w)) os
plain_op w os p =
    ap (λ (x : Bool). cond x (Some (record { waits = Star; ops = os })) (cond (same_word w (codes "d")) (Some (record { waits = Dee; ops = os })) (cond (same_word w (codes "+")) (op_read (Some Add) os) (cond (same_word w (codes "s")) (op_read (Some Saturate) os) (op_read (push_op (literal_of w) (ref_of w)) os))))) p.star
    ∙ ap (λ (x : Bool). cond x (Some (record { waits = Dee; ops = os })) (cond (same_word w (codes "+")) (op_read (Some Add) os) (cond (same_word w (codes "s")) (op_read (Some Saturate) os) (op_read (push_op (literal_of w) (ref_of w)) os)))) p.dee
    ∙ ap (λ (x : Bool). cond x (op_read (Some Add) os) (cond (same_word w (codes "s")) (op_read (Some Saturate) os) (op_read (push_op (literal_of w) (ref_of w)) os))) p.plus
    ∙ ap (λ (x : Bool). cond x (op_read (Some Saturate) os) (op_read (push_op (literal_of w) (ref_of w)) os)) p.cut

-- Operations are read as themselves.
ops_read_back : (os : List Op) → AreOps os → ops_read (op_words os) ≡ Some (record { waits = Nothing; ops = os })
ops_read_back [] h = refl
ops_read_back (Push r ∷ os) h =
    ap (ops_in_front (ref_text r)) (ops_read_back os h.1)
    ∙ plain_op (ref_text r) os (ref_plain r h.0)
    ∙ ap (λ (o : Option Literal). op_read (push_op o (ref_of (ref_text r))) os) (ref_no_literal r h.0)
    ∙ ap (λ (o : Option Ref). op_read (push_op None o) os) (ref_read r h.0)
ops_read_back (Axiom l ∷ os) h =
    ap (ops_in_front (literal_text l)) (ops_read_back os h.1)
    ∙ plain_op (literal_text l) os (literal_plain l)
    ∙ ap (λ (o : Option Literal). op_read (push_op o (ref_of (literal_text l))) os) (literal_read l h.0)
ops_read_back (Add ∷ os) h = ap (ops_in_front (codes "+")) (ops_read_back os h.1)
ops_read_back (Times n ∷ os) h =
    ap (λ (o : Option OpsRead). ops_in_front (decimal n) (ops_in_front (codes "*") o)) (ops_read_back os h.1)
    ∙ ap (λ (o : Option ℕ). op_read (number_op Times o) os) (numeral-decimal (2 ^ 63) n h.0 (omega arith))
ops_read_back (Divide n ∷ os) h =
    ap (λ (o : Option OpsRead). ops_in_front (decimal n) (ops_in_front (codes "d") o)) (ops_read_back os h.1)
    ∙ ap (λ (o : Option ℕ). op_read (number_op Divide o) os) (numeral-decimal (2 ^ 63) n h.0 (omega arith))
ops_read_back (Saturate ∷ os) h = ap (ops_in_front (codes "s")) (ops_read_back os h.1)

-- The words of a line are words.
word_prefixed : (b n : ℕ) → 33 ≤ b → b ≤ 126 → n < 2 ^ 63 → IsWord (b ∷ decimal n)
word_prefixed b n h k l = record { some = refl; bytes = (h, k, (IsWord-decimal n (omega arith)).bytes) }

some_append : (w more : List ℕ) → is_empty w ≡ false → is_empty (w ++ more) ≡ false
some_append [] more e = absurd cc
some_append (b ∷ bs) more e = refl

pub word_name : (n : Name) → IsName n → IsWord (name_text n)
word_name n h =
    let a = h.owner_fits in
    let c = h.number_fits in
    record { some = some_append (decimal n.owner) (46 ∷ decimal n.number) (decimal_some n.owner (omega arith)); bytes = AllBetween-append 33 126 (decimal n.owner) (46 ∷ decimal n.number) (IsWord-decimal n.owner (omega arith)).bytes (omega arith, omega arith, (IsWord-decimal n.number (omega arith)).bytes) }

word_ref : (r : Ref) → IsRef r → IsWord (ref_text r)
word_ref (Line k) h = IsWord-decimal k (omega arith)
word_ref (Made n) h = word_name n h
word_ref (Shared row) h = word_prefixed 35 row (omega arith) (omega arith) (omega arith)

word_literal : (l : Literal) → l.variable < 2 ^ 32 → IsWord (literal_text l)
word_literal l h = by-sign l.negated
  where
    by-sign : (b : Bool) → IsWord (cond b (126 ∷ 120 ∷ decimal l.variable) (120 ∷ decimal l.variable))
    by-sign true = record { some = refl; bytes = (omega arith, omega arith, (word_prefixed 120 l.variable (omega arith) (omega arith) (omega arith)).bytes) }
    by-sign false = word_prefixed 120 l.variable (omega arith) (omega arith) (omega arith)

words_refs : (rs : List Ref) → AreRefs rs → AreWords (map ref_text rs)
words_refs [] h = tt
words_refs (r ∷ rs) h = (word_ref r h.0, words_refs rs h.1)

pub words_literals : (ls : List Literal) → AreLiterals ls → AreWords (map literal_text ls)
words_literals [] h = tt
words_literals (l ∷ ls) h = (word_literal l h.0, words_literals ls h.1)

words_ones : (vs : List ℕ) → AreOnes vs → AreWords (map (λ v. 120 ∷ decimal v) vs)
words_ones [] h = tt
words_ones (v ∷ vs) h = let l : v < 2 ^ 32 = h.0 in (word_prefixed 120 v (omega arith) (omega arith) (omega arith), words_ones vs h.1)

pub sign : (b : ℕ) → 33 ≤ b → b ≤ 126 → IsWord (b ∷ [])
sign b h k = record { some = refl; bytes = (h, k, tt) }

words_ops : (os : List Op) → AreOps os → AreWords (op_words os)
words_ops [] h = tt
words_ops (Push r ∷ os) h = (word_ref r h.0, words_ops os h.1)
words_ops (Axiom l ∷ os) h = (word_literal l h.0, words_ops os h.1)
words_ops (Add ∷ os) h = (sign 43 (omega arith) (omega arith), words_ops os h.1)
words_ops (Times n ∷ os) h = let k : n < 2 ^ 63 = h.0 in (IsWord-decimal n (omega arith), (sign 42 (omega arith) (omega arith), words_ops os h.1))
words_ops (Divide n ∷ os) h = let k : n < 2 ^ 63 = h.0 in (IsWord-decimal n (omega arith), (sign 100 (omega arith) (omega arith), words_ops os h.1))
words_ops (Saturate ∷ os) h = (sign 115 (omega arith) (omega arith), words_ops os h.1)

pub words_step : (s : Step) → IsStep s → AreWords (step_words s)
words_step Head h = (record { some = refl; bytes = AllBetween-tested 33 126 (codes "embedding") refl }, (record { some = refl; bytes = AllBetween-tested 33 126 (codes "proof") refl }, (sign 49 (omega arith) (omega arith), tt)))
words_step (Model m) h = (sign 109 (omega arith) (omega arith), (IsWord-decimal m (omega arith), tt))
words_step (P name ops) h = (sign 112 (omega arith) (omega arith), (word_name name h.0, AreWords-append (op_words ops) (codes ";" ∷ []) (words_ops ops h.1) (sign 59 (omega arith) (omega arith), tt)))
words_step (U name lits refs) h = (sign 117 (omega arith) (omega arith), (word_name name h.0, AreWords-append (map literal_text lits) (codes ";" ∷ (map ref_text refs ++ codes ";" ∷ [])) (words_literals lits h.1) (sign 59 (omega arith) (omega arith), AreWords-append (map ref_text refs) (codes ";" ∷ []) (words_refs refs h.2) (sign 59 (omega arith) (omega arith), tt))))
words_step (N row name) h = let k : row < 2 ^ 22 = h.0 in (sign 110 (omega arith) (omega arith), (IsWord-decimal row (omega arith), (word_name name h.1, tt)))
words_step (D at) h = (sign 100 (omega arith) (omega arith), (word_ref at h.0, tt))
words_step (E at) h = (sign 101 (omega arith) (omega arith), (word_ref at h, tt))
words_step (Y ones) h = (sign 121 (omega arith) (omega arith), words_ones ones h)
words_step Q h = (sign 113 (omega arith) (omega arith), tt)

ones_line : (vs : List (List ℕ)) → vs ≢ [] → step_behind (codes "y") vs ≡ y_from (all_of variable_of vs)
ones_line [] h = absurd (h refl)
ones_line (v ∷ []) h = refl
ones_line (v ∷ w ∷ []) h = refl
ones_line (v ∷ w ∷ x ∷ vs) h = refl

-- The words of a step tell that step.
pub words_read : (s : Step) → IsStep s → step_of_words (step_words s) ≡ Some s
words_read Head h = refl
words_read (Model m) h = ap m_from (numeral-decimal (2 ^ 63) m h (omega arith))
words_read (P name ops) h =
    ap (λ (p : Option Parted). p_from (name_of (name_text name)) (when_closed (λ os. ops_from (ops_read os)) (closed p))) (part_at (op_words ops) [] (before_ops ops h.1))
    ∙ ap (λ (o : Option OpsRead). p_from (name_of (name_text name)) (ops_from o)) (ops_read_back ops h.1)
    ∙ ap (λ (o : Option Name). p_from o (Some ops)) (name_read name h.0)
words_read (U name lits refs) h =
    ap (u_parted (name_text name)) (part_at (map literal_text lits) (map ref_text refs ++ codes ";" ∷ []) (before_literals lits))
    ∙ ap (λ (p : Option Parted). u_from (name_of (name_text name)) (all_of literal_of (map literal_text lits)) (when_closed (all_of ref_of) (closed p))) (part_at (map ref_text refs) [] (before_refs refs h.2))
    ∙ ap (λ (o : Option (List Ref)). u_from (name_of (name_text name)) (all_of literal_of (map literal_text lits)) o) (refs_read refs h.2)
    ∙ ap (λ (o : Option (List Literal)). u_from (name_of (name_text name)) o (Some refs)) (literals_read lits h.1)
    ∙ ap (λ (o : Option Name). u_from o (Some lits) (Some refs)) (name_read name h.0)
words_read (N row name) h =
    ap (λ (o : Option ℕ). n_from o (name_of (name_text name))) (numeral-decimal (2 ^ 22) row h.0 (omega arith))
    ∙ ap (λ (o : Option Name). n_from (Some row) o) (name_read name h.1)
words_read (D at) h = ap d_from (ref_read at h.0) ∙ ap (λ (x : Bool). let o : Option Step = cond x None (Some (D at)) in o) h.1
words_read (E at) h = ap e_from (ref_read at h)
words_read (Y []) h = refl
words_read (Y (v ∷ vs)) h = ones_line (map (λ w. 120 ∷ decimal w) (v ∷ vs)) (λ e. cc) ∙ ap y_from (ones_read (v ∷ vs) h)
words_read Q h = refl

passes_blank : Passes (λ b. b == 32) 33 126
passes_blank = record { over = λ b h k. ne_eqb b 32 (λ (e : b ≡ 32). omega arith) }

pub line_words : (ws : List (List ℕ)) → AreWords ws → ws ≢ [] → pieces (λ b. b == 32) (joined ws) ≡ ws
line_words [] h n = absurd (n refl)
line_words (w ∷ ws) h n = pieces_joined (λ b. b == 32) w ws passes_blank refl h

pub step_has_words : (s : Step) → step_words s ≢ []
step_has_words Head e = cc
step_has_words (Model m) e = cc
step_has_words (P name ops) e = cc
step_has_words (U name lits refs) e = cc
step_has_words (N row name) e = cc
step_has_words (D at) e = cc
step_has_words (E at) e = cc
step_has_words (Y ones) e = cc
step_has_words Q e = cc

-- The line of a step is read as that step.
pub step_read_back : (s : Step) → IsStep s → read_line (joined (step_words s)) ≡ Some s
step_read_back s h = ap step_of_words (line_words (step_words s) (words_step s h) (step_has_words s)) ∙ words_read s h
