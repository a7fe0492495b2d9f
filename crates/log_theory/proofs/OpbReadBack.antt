-- What is written as OPB text is read back.
use Rattle.std.proofs.Common.{◌≡◌, ◌≢◌, ℕ, suc, ◌+◌, ◌≤◌, ◌<◌, ◌^◌, Bool, false, cond, ◌==◌, ◌&&◌, ◌||◌, nat_lt, nat_le, List, [], ◌∷◌, ◌++◌, length, map, Option, Some, None, Result, Ok, ℤ, pos, negsuc, neg_ℤ, unsigned_abs, refl, ap, ◌∙◌, arith}
use Rattle.std.specs.Fmt.{decimal, signed_decimal}
use Rattle.std.specs.List.{flat_map}
use Rattle.std.proofs.lemmas.List.{append_assoc}
use Rattle.std.proofs.lemmas.Bool.{ne_eqb, eq-eqb, and_from, le-leb, lt-ltb}
use Rattle.std.proofs.lemmas.Bool.Decides.{nat_tests}
use lib.Chars.{codes}
use Rattle.log_theory.specs.declared.opb.OpbCause.{OpbCause}
use Rattle.log_theory.specs.declared.opb.OpbCause.TheVariants.{Header, Wide, NoSuchVariable, Count}
use Rattle.proof_theory.specs.Forms.{Form, Rises, Narrow, form_of, size, sorted}
use Rattle.log_theory.specs.Steps.{◌>>=◌, unless, or_fault}
use Rattle.log_theory.specs.Words.{into_first, pieces, is_empty, not_empty, joined, line_text, number_of, number_after, begins_with, same_word}
use Rattle.log_theory.specs.OpbText.{OpbModel, head_words, coefficient_word, term_words, form_words, opb_text, AreVariables, AreConstraints, IsOpbModel}
use Rattle.log_theory.specs.OpbReading.{without_returns, without_last_empty, opb_lines, opb_words, OpbWord, Number, Variable, Relation, Equals, Semicolon, positive_number, negated_number, plain_word, number_word, variable_word, word_of, First, Later, Due, within, bound_words, constraint_words, constraint_line, later_line, later_lines, at_line, head_numbers, head_of, opb_answer_of, opb_answer}
use Rattle.proof_theory.proofs.Sorting.{Rises-sorted, coefficient-sorted, same_terms}
use Rattle.log_theory.proofs.Splitting.{AllBetween-tested, AllBetween, Passes, pieces_front, pieces_whole, IsWord, AreWords, AreWords-append, pieces_joined, not_empty-words, joined_bytes, decimal_bytes, decimal_some, number_of-decimal, IsWord-decimal}

-- A text without CR stays as it is.
abbrev pub NoReturn : List ℕ → Type 0
NoReturn [] = Unit {0}
NoReturn (b ∷ bs) = (b ≢ 13) × NoReturn bs

NoReturn-append : (front rest : List ℕ) → NoReturn front → NoReturn rest → NoReturn (front ++ rest)
NoReturn-append [] rest h k = k
NoReturn-append (b ∷ bs) rest h k = (h.0, NoReturn-append bs rest h.1 k)

NoReturn-bytes : (bs : List ℕ) → AllBetween 32 126 bs → NoReturn bs
NoReturn-bytes [] h = tt
NoReturn-bytes (b ∷ bs) h = ((λ (e : b ≡ 13). let l : 32 ≤ b = h.0 in omega arith), NoReturn-bytes bs h.2)

without_returns-none : (bs : List ℕ) → NoReturn bs → without_returns bs ≡ bs
without_returns-none [] h = refl
without_returns-none (b ∷ bs) h =
    ap (λ (x : Bool). cond (x && begins_with (10 ∷ []) bs) (without_returns bs) (b ∷ without_returns bs)) (ne_eqb b 13 h.0)
    ∙ ap (λ (xs : List ℕ). b ∷ xs) (without_returns-none bs h.1)

passes_line : Passes (λ b. b == 10) 32 126
passes_line = record { over = λ b h k. ne_eqb b 10 (λ (e : b ≡ 10). omega arith) }

passes_word : Passes (λ b. (b == 32) || (b == 9)) 33 126
passes_word = record { over = λ b h k. grind (arith, nat_tests) }

passes_semicolon : Passes (λ b. b == 59) 48 57
passes_semicolon = record { over = λ b h k. ne_eqb b 59 (λ (e : b ≡ 59). omega arith) }

-- The words of a line of words.
pub opb_words-joined : (w : List ℕ) (ws : List (List ℕ)) → AreWords (w ∷ ws) → opb_words (joined (w ∷ ws)) ≡ w ∷ ws
opb_words-joined w ws h = ap not_empty (pieces_joined (λ b. (b == 32) || (b == 9)) w ws passes_word refl h) ∙ not_empty-words (w ∷ ws) h

-- A number as written is read as itself.
word_of-digits : (n : ℕ) (ds : List ℕ) → AllBetween 48 57 ds → is_empty ds ≡ false → number_of ds ≡ Some n → word_of ds ≡ Number (pos n)
word_of-digits n [] h e k = absurd cc
word_of-digits n (d ∷ ds) h e k =
    let l : 48 ≤ d = h.0 in
    let m : d ≤ 57 = h.1 in
    let a : (d == 62) ≡ false = ne_eqb d 62 (λ (x : d ≡ 62). omega arith) in
    let b : (d == 61) ≡ false = ne_eqb d 61 (λ (x : d ≡ 61). omega arith) in
    let c : (d == 59) ≡ false = ne_eqb d 59 (λ (x : d ≡ 59). omega arith) in
    let f : (d == 120) ≡ false = ne_eqb d 120 (λ (x : d ≡ 120). omega arith) in
    let g : (d == 43) ≡ false = ne_eqb d 43 (λ (x : d ≡ 43). omega arith) in
    let i : (d == 45) ≡ false = ne_eqb d 45 (λ (x : d ≡ 45). omega arith) in
    let p : pieces (λ b. b == 59) (d ∷ ds) ≡ (d ∷ ds) ∷ [] = pieces_whole (λ b. b == 59) 48 57 (d ∷ ds) passes_semicolon h in
    ap (λ (x : Bool). cond (x && same_word ds (61 ∷ [])) Relation (cond ((d == 61) && same_word ds []) Equals (cond ((d == 59) && same_word ds []) Semicolon (variable_word (number_after 120 (d ∷ ds)) (number_word (pieces (λ b. b == 59) (d ∷ ds))))))) a
    ∙ ap (λ (x : Bool). cond (x && same_word ds []) Equals (cond ((d == 59) && same_word ds []) Semicolon (variable_word (number_after 120 (d ∷ ds)) (number_word (pieces (λ b. b == 59) (d ∷ ds)))))) b
    ∙ ap (λ (x : Bool). cond (x && same_word ds []) Semicolon (variable_word (number_after 120 (d ∷ ds)) (number_word (pieces (λ b. b == 59) (d ∷ ds))))) c
    ∙ ap (λ (x : Bool). variable_word (cond x (number_of ds) None) (number_word (pieces (λ b. b == 59) (d ∷ ds)))) f
    ∙ ap number_word p
    ∙ ap (λ (x : Bool). plain_word (cond x (positive_number (number_of ds)) (cond (d == 45) (negated_number (number_of ds)) (positive_number (number_of (d ∷ ds)))))) g
    ∙ ap (λ (x : Bool). plain_word (cond x (negated_number (number_of ds)) (positive_number (number_of (d ∷ ds))))) i
    ∙ ap (λ (o : Option ℕ). plain_word (positive_number o)) k

digit_pieces : (n : ℕ) → n < 10 ^ 64 → pieces (λ b. b == 59) (decimal n) ≡ decimal n ∷ []
digit_pieces n h = pieces_whole (λ b. b == 59) 48 57 (decimal n) passes_semicolon (decimal_bytes n h)

word_of-plus : (n : ℕ) → n < 10 ^ 64 → word_of (43 ∷ decimal n) ≡ Number (pos n)
word_of-plus n h =
    ap (λ (ps : List (List ℕ)). number_word (into_first 43 ps)) (digit_pieces n h)
    ∙ ap (λ (o : Option ℕ). plain_word (positive_number o)) (number_of-decimal n h)

word_of-minus : (n : ℕ) → n < 10 ^ 64 → word_of (45 ∷ decimal n) ≡ Number (neg_ℤ (pos n))
word_of-minus n h =
    ap (λ (ps : List (List ℕ)). number_word (into_first 45 ps)) (digit_pieces n h)
    ∙ ap (λ (o : Option ℕ). plain_word (negated_number o)) (number_of-decimal n h)

word_of-variable : (n : ℕ) → n < 10 ^ 64 → word_of (120 ∷ decimal n) ≡ Variable n
word_of-variable n h = ap (λ (o : Option ℕ). variable_word o (number_word (pieces (λ b. b == 59) (120 ∷ decimal n)))) (number_of-decimal n h)

-- A coefficient as written is read as itself.
word_of-coefficient : (c : ℤ) → unsigned_abs c < 10 ^ 64 → word_of (coefficient_word c) ≡ Number c
word_of-coefficient (pos n) h = word_of-plus n h
word_of-coefficient (negsuc n) h = word_of-minus (suc n) h

-- A bound as written is read as itself.
word_of-bound : (c : ℤ) → unsigned_abs c < 10 ^ 64 → word_of (signed_decimal c) ≡ Number c
word_of-bound (pos n) h = word_of-digits n (decimal n) (decimal_bytes n h) (decimal_some n h) (number_of-decimal n h)
word_of-bound (negsuc n) h = word_of-minus (suc n) h

within-narrow : (c : ℤ) → unsigned_abs c ≤ 2 ^ 125 → within c ≡ Ok 0
within-narrow c h = ap (λ (b : Bool). let r : Result ℕ OpbCause = unless b Wide in r) (le-leb (unsigned_abs c) (2 ^ 125) h)

abbrev Fault : Type 0
Fault = ℕ × OpbCause

abbrev Sum : Type 0
Sum = List (ℕ × ℤ) × ℤ

bound_read : (n : ℕ) (b : ℤ) → unsigned_abs b ≤ 2 ^ 125 → bound_words n (word_of (signed_decimal b) ∷ Semicolon ∷ []) ≡ Ok ([], b)
bound_read n b f =
    ap (λ (w : OpbWord). bound_words n (w ∷ Semicolon ∷ [])) (word_of-bound b (omega arith))
    ∙ ap (λ (r : Result ℕ OpbCause). let q : Result Sum OpbCause = r >>= λ _. Ok ([], b) in q) (within-narrow b f)

variable_read : (n : ℕ) (t : ℕ × ℤ) (ws : List OpbWord) (s : Sum) → 1 ≤ t.0 → t.0 ≤ n → constraint_words n Later ws ≡ Ok s → constraint_words n (Due t.1) (Variable t.0 ∷ ws) ≡ Ok (t ∷ s.0, s.1)
variable_read n t ws s h k e =
    ap (λ (b : Bool). let q : Result Sum OpbCause = unless b NoSuchVariable >>= λ _. constraint_words n Later ws >>= λ r. Ok ((t.0, t.1) ∷ r.0, r.1) in q) (and_from (nat_lt 0 t.0) (nat_le t.0 n) (lt-ltb 0 t.0 (omega arith)) (le-leb t.0 n k))
    ∙ ap (λ (r : Result Sum OpbCause). let q : Result Sum OpbCause = r >>= λ x. Ok ((t.0, t.1) ∷ x.0, x.1) in q) e

coefficient_read : (n : ℕ) (t : ℕ × ℤ) (ws : List OpbWord) (s : Sum) → unsigned_abs t.1 ≤ 2 ^ 125 → constraint_words n (Due t.1) ws ≡ Ok s → (within t.1 >>= λ _. constraint_words n (Due t.1) ws) ≡ Ok s
coefficient_read n t ws s h e = ap (λ (r : Result ℕ OpbCause). let q : Result Sum OpbCause = r >>= λ _. constraint_words n (Due t.1) ws in q) (within-narrow t.1 h) ∙ e

term_read : (n : ℕ) (t : ℕ × ℤ) (ws : List OpbWord) (s : Sum) → n < 2 ^ 32 → 1 ≤ t.0 → t.0 ≤ n → unsigned_abs t.1 ≤ 2 ^ 125 → constraint_words n Later ws ≡ Ok s
    → (within t.1 >>= λ _. constraint_words n (Due t.1) (word_of (120 ∷ decimal t.0) ∷ ws)) ≡ Ok (t ∷ s.0, s.1)
term_read n t ws s big h k w e =
    ap (λ (x : OpbWord). let q : Result Sum OpbCause = within t.1 >>= λ _. constraint_words n (Due t.1) (x ∷ ws) in q) (word_of-variable t.0 (omega arith))
    ∙ coefficient_read n t (Variable t.0 ∷ ws) (t ∷ s.0, s.1) w (variable_read n t ws s h k e)

-- The words after the terms.
abbrev end_words : ℤ → List (List ℕ)
end_words b = codes ">=" ∷ signed_decimal b ∷ codes ";" ∷ []

-- The terms and the bound that were written are read.
read_later : (n : ℕ) (ts : List (ℕ × ℤ)) (b : ℤ) → n < 2 ^ 32 → AreVariables n ts → size ts ≤ 2 ^ 125 → unsigned_abs b ≤ 2 ^ 125 → constraint_words n Later (map word_of (term_words ts ++ end_words b)) ≡ Ok (ts, b)
read_later n [] b k v s f = bound_read n b f
read_later n (t ∷ ts) b k v s f =
    ap (λ (w : OpbWord). constraint_words n Later (w ∷ word_of (120 ∷ decimal t.0) ∷ map word_of (term_words ts ++ end_words b))) (word_of-coefficient t.1 (omega arith))
    ∙ term_read n t (map word_of (term_words ts ++ end_words b)) (ts, b) k v.0 v.1 (omega arith) (read_later n ts b k v.2 (omega arith) f)

read_first : (n : ℕ) (ts : List (ℕ × ℤ)) (b : ℤ) → n < 2 ^ 32 → AreVariables n ts → size ts ≤ 2 ^ 125 → unsigned_abs b ≤ 2 ^ 125 → constraint_words n First (map word_of (term_words ts ++ end_words b)) ≡ Ok (ts, b)
read_first n [] b k v s f = bound_read n b f
read_first n (t ∷ ts) b k v s f =
    ap (λ (w : OpbWord). constraint_words n First (w ∷ word_of (120 ∷ decimal t.0) ∷ map word_of (term_words ts ++ end_words b))) (word_of-coefficient t.1 (omega arith))
    ∙ term_read n t (map word_of (term_words ts ++ end_words b)) (ts, b) k v.0 v.1 (omega arith) (read_later n ts b k v.2 (omega arith) f)

sorted_same : (ts : List (ℕ × ℤ)) → Rises 0 ts → sorted ts ≡ ts
sorted_same ts r = same_terms 0 (sorted ts) ts (Rises-sorted ts) r (coefficient-sorted ts)

-- A constraint's words are read as the constraint.
read_constraint : (n : ℕ) (f : Form) → n < 2 ^ 32 → Rises 0 f.terms → Narrow f → AreVariables n f.terms → constraint_line n (form_words f) ≡ Ok f
read_constraint n f k r w v =
    ap (λ (q : Result Sum OpbCause). let a : Result Form OpbCause = q >>= λ s. unless (nat_le (size s.0) (2 ^ 125)) Wide >>= λ _. Ok (form_of s.0 s.1) in a) (read_first n f.terms f.bound k v w.sum_fits w.bound_fits)
    ∙ ap (λ (b : Bool). let a : Result Form OpbCause = unless b Wide >>= λ _. Ok (form_of f.terms f.bound) in a) (le-leb (size f.terms) (2 ^ 125) w.sum_fits)
    ∙ ap (λ (ts : List (ℕ × ℤ)). let a : Result Form OpbCause = Ok (record { terms = ts; bound = f.bound }) in a) (sorted_same f.terms r)

-- A constraint's answer as a list of constraints.
abbrev alone : Result Form OpbCause → Result (List Form) OpbCause
alone q = q >>= λ g. Ok (g ∷ [])

-- A line that begins with a coefficient or with `>=` is no comment and no objective.
coefficient_line : (n : ℕ) (c : ℤ) (ws : List (List ℕ)) → later_line n (coefficient_word c ∷ ws) ≡ alone (constraint_line n (coefficient_word c ∷ ws))
coefficient_line n (pos m) ws = refl
coefficient_line n (negsuc m) ws = refl

plain_line : (n : ℕ) (ts : List (ℕ × ℤ)) (b : ℤ) → later_line n (term_words ts ++ end_words b) ≡ alone (constraint_line n (term_words ts ++ end_words b))
plain_line n [] b = refl
plain_line n (t ∷ ts) b = coefficient_line n t.1 ((120 ∷ decimal t.0) ∷ (term_words ts ++ end_words b))

-- The line of a constraint is read as the constraint.
read_line : (n : ℕ) (f : Form) → n < 2 ^ 32 → Rises 0 f.terms → Narrow f → AreVariables n f.terms → later_line n (form_words f) ≡ Ok (f ∷ [])
read_line n f k r w v = plain_line n f.terms f.bound ∙ ap alone (read_constraint n f k r w v)

-- The words that are written are words.
IsWord-prefixed : (b n : ℕ) → 33 ≤ b → b ≤ 126 → n < 10 ^ 64 → IsWord (b ∷ decimal n)
IsWord-prefixed b n h k l = record { some = refl; bytes = (h, k, (IsWord-decimal n l).bytes) }

IsWord-coefficient : (c : ℤ) → unsigned_abs c < 10 ^ 64 → IsWord (coefficient_word c)
IsWord-coefficient (pos n) h = IsWord-prefixed 43 n (omega arith) (omega arith) h
IsWord-coefficient (negsuc n) h = IsWord-prefixed 45 (suc n) (omega arith) (omega arith) h

IsWord-signed : (c : ℤ) → unsigned_abs c < 10 ^ 64 → IsWord (signed_decimal c)
IsWord-signed (pos n) h = IsWord-decimal n h
IsWord-signed (negsuc n) h = IsWord-prefixed 45 (suc n) (omega arith) (omega arith) h

AreWords-terms : (n : ℕ) (ts : List (ℕ × ℤ)) → n < 2 ^ 32 → AreVariables n ts → size ts ≤ 2 ^ 125 → AreWords (term_words ts)
AreWords-terms n [] k v s = tt
AreWords-terms n (t ∷ ts) k v s = let l : t.0 ≤ n = v.1 in (IsWord-coefficient t.1 (omega arith), (IsWord-prefixed 120 t.0 (omega arith) (omega arith) (omega arith), AreWords-terms n ts k v.2 (omega arith)))

AreWords-end : (b : ℤ) → unsigned_abs b ≤ 2 ^ 125 → AreWords (end_words b)
AreWords-end b h = (record { some = refl; bytes = (omega arith, omega arith, (omega arith, omega arith, tt)) }, (IsWord-signed b (omega arith), (record { some = refl; bytes = (omega arith, omega arith, tt) }, tt)))

AreWords-form : (n : ℕ) (f : Form) → n < 2 ^ 32 → Narrow f → AreVariables n f.terms → AreWords (form_words f)
AreWords-form n f k w v = AreWords-append (term_words f.terms) (end_words f.bound) (AreWords-terms n f.terms k v w.sum_fits) (AreWords-end f.bound w.bound_fits)

-- The words of a line of words, where there is one.
some_words : (ws : List (List ℕ)) → AreWords ws → opb_words (joined ws) ≡ ws
some_words [] h = refl
some_words (w ∷ ws) h = opb_words-joined w ws h

-- All constraints are read.
read_lines : (n k : ℕ) (fs : List Form) → n < 2 ^ 32 → AreConstraints n fs → later_lines n k (map (λ f. joined (form_words f)) fs) ≡ Ok fs
read_lines n k [] h s = refl
read_lines n k (f ∷ fs) h s =
    ap (λ (q : Result (List Form) OpbCause). let a : Result (List Form) Fault = at_line k q >>= λ gs. later_lines n (k + 1) (map (λ g. joined (form_words g)) fs) >>= λ hs. Ok (gs ++ hs) in a) (ap (later_line n) (some_words (form_words f) (AreWords-form n f h s.1 s.2)) ∙ read_line n f h s.0 s.1 s.2)
    ∙ ap (λ (q : Result (List Form) Fault). let a : Result (List Form) Fault = q >>= λ hs. Ok ((f ∷ []) ++ hs) in a) (read_lines n (k + 1) fs h s.3)

abbrev AllWords : List (List (List ℕ)) → Type 0
AllWords [] = Unit {0}
AllWords (ws ∷ wss) = AreWords ws × AllWords wss

-- The text of some lines of words is cut back into these lines.
lines_of : (wss : List (List (List ℕ))) → AllWords wss → pieces (λ b. b == 10) (flat_map line_text wss) ≡ map joined wss ++ [] ∷ []
lines_of [] h = refl
lines_of (ws ∷ wss) h =
    ap (pieces (λ b. b == 10)) (append_assoc (joined ws) (10 ∷ []) (flat_map line_text wss))
    ∙ pieces_front (λ b. b == 10) 32 126 10 (joined ws) (flat_map line_text wss) passes_line refl (joined_bytes ws h.0)
    ∙ ap (λ (ls : List (List ℕ)). joined ws ∷ ls) (lines_of wss h.1)

without_last : (ls : List (List ℕ)) → without_last_empty (ls ++ [] ∷ []) ≡ ls
without_last [] = refl
without_last (l ∷ []) = refl
without_last (l ∷ k ∷ ls) = ap (λ (x : List (List ℕ)). l ∷ x) (without_last (k ∷ ls))

NoReturn-lines : (wss : List (List (List ℕ))) → AllWords wss → NoReturn (flat_map line_text wss)
NoReturn-lines [] h = tt
NoReturn-lines (ws ∷ wss) h =
    NoReturn-append (line_text ws) (flat_map line_text wss) (NoReturn-append (joined ws) (10 ∷ []) (NoReturn-bytes (joined ws) (joined_bytes ws h.0)) ((λ (e : 10 ≡ 13). absurd (omega arith)), tt)) (NoReturn-lines wss h.1)

-- The lines of a text of lines of words.
opb_lines-words : (wss : List (List (List ℕ))) → AllWords wss → opb_lines (flat_map line_text wss) ≡ map joined wss
opb_lines-words wss h =
    ap (λ (t : List ℕ). without_last_empty (pieces (λ b. b == 10) t)) (without_returns-none (flat_map line_text wss) (NoReturn-lines wss h))
    ∙ ap without_last_empty (lines_of wss h)
    ∙ without_last (map joined wss)

AllWords-forms : (n : ℕ) (fs : List Form) → n < 2 ^ 32 → AreConstraints n fs → AllWords (map form_words fs)
AllWords-forms n [] h s = tt
AllWords-forms n (f ∷ fs) h s = (AreWords-form n f h s.1 s.2, AllWords-forms n fs h s.3)

AreWords-head : (n m : ℕ) → n < 2 ^ 32 → m < 2 ^ 63 → AreWords (head_words n m)
AreWords-head n m h k = (
  record { some = refl; bytes = (omega arith, omega arith, tt) },
  (
    IsWord-variable,
    (
      IsWord-decimal n (omega arith),
      (
        IsWord-constraint,
        (IsWord-decimal m (omega arith), tt),
      ),
    ),
  ),
)
  where
    IsWord-variable : IsWord (codes "#variable=")
    IsWord-variable = record { some = refl; bytes = AllBetween-tested 33 126 (codes "#variable=") refl }

    IsWord-constraint : IsWord (codes "#constraint=")
    IsWord-constraint = record { some = refl; bytes = AllBetween-tested 33 126 (codes "#constraint=") refl }

head_read : (n m : ℕ) → n < 2 ^ 32 → m < 2 ^ 63 → head_of (head_words n m) ≡ Some (n, m)
head_read n m h k =
    ap (λ (o : Option ℕ). head_numbers o (number_of (decimal m))) (number_of-decimal n (omega arith))
    ∙ ap (λ (o : Option ℕ). head_numbers (Some n) o) (number_of-decimal m (omega arith))
    ∙ ap (λ (b : Bool). let o : Option (ℕ × ℕ) = cond b (Some (n, m)) None in o) (and_from (nat_lt n (2 ^ 32)) (nat_lt m (2 ^ 63)) (lt-ltb n (2 ^ 32) h) (lt-ltb m (2 ^ 63) k))

form_lines : (fs : List Form) → flat_map (λ f. line_text (form_words f)) fs ≡ flat_map line_text (map form_words fs)
form_lines [] = refl
form_lines (f ∷ fs) = ap (λ (t : List ℕ). line_text (form_words f) ++ t) (form_lines fs)

joined_lines : (fs : List Form) → map joined (map form_words fs) ≡ map (λ f. joined (form_words f)) fs
joined_lines [] = refl
joined_lines (f ∷ fs) = ap (λ (ls : List (List ℕ)). joined (form_words f) ∷ ls) (joined_lines fs)

-- The lines of a written model.
written_lines : (m : OpbModel) → IsOpbModel m → opb_lines (opb_text m) ≡ joined (head_words m.variables (length m.constraints)) ∷ map (λ f. joined (form_words f)) m.constraints
written_lines m h =
    ap (λ (t : List ℕ). opb_lines (line_text (head_words m.variables (length m.constraints)) ++ t)) (form_lines m.constraints)
    ∙ opb_lines-words (head_words m.variables (length m.constraints) ∷ map form_words m.constraints) (AreWords-head m.variables (length m.constraints) h.variables_fit h.constraints_fit, AllWords-forms m.variables m.constraints h.variables_fit h.sound)
    ∙ ap (λ (ls : List (List ℕ)). joined (head_words m.variables (length m.constraints)) ∷ ls) (joined_lines m.constraints)

abbrev head_then : Option (ℕ × ℕ) → List (List ℕ) → Result OpbModel Fault
head_then o ls = or_fault o (1, Header) >>= λ h. later_lines h.0 2 ls >>= λ fs. unless (length fs == h.1) (length ls + 2, Count) >>= λ _. Ok (record { variables = h.0; constraints = fs })

-- What is written is read back.
pub opb_read_back : (m : OpbModel) → IsOpbModel m → opb_answer (opb_text m) ≡ Ok m
opb_read_back m h =
    let n : ℕ = m.variables in
    let ls : List (List ℕ) = map (λ f. joined (form_words f)) m.constraints in
    ap opb_answer_of (written_lines m h)
    ∙ ap (λ (ws : List (List ℕ)). head_then (head_of ws) ls) (some_words (head_words n (length m.constraints)) (AreWords-head n (length m.constraints) h.variables_fit h.constraints_fit))
    ∙ ap (λ (o : Option (ℕ × ℕ)). head_then o ls) (head_read n (length m.constraints) h.variables_fit h.constraints_fit)
    ∙ ap (λ (q : Result (List Form) Fault). let a : Result OpbModel Fault = q >>= λ fs. unless (length fs == length m.constraints) (length ls + 2, Count) >>= λ _. Ok (record { variables = n; constraints = fs }) in a) (read_lines n 2 m.constraints h.variables_fit h.sound)
    ∙ ap (λ (b : Bool). let a : Result OpbModel Fault = unless b (length ls + 2, Count) >>= λ _. Ok (record { variables = n; constraints = m.constraints }) in a) (eq-eqb (length m.constraints) (length m.constraints) refl)
