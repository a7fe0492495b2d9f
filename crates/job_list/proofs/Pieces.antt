-- Lists of bytes cut at a byte.
use Rattle.std.proofs.Common.{◌≡◌, ◌≢◌, ℕ, suc, ◌<◌, ◌==◌, if◌then◌else◌, not, Bool, true, false, List, [], ◌∷◌, ◌++◌, length, get_or, codes, ◌⊎◌, ⊎_elim, refl, sym, ap, ◌∙◌, subst, arith}
use Rattle.std.specs.List.{All}
use Rattle.std.proofs.lemmas.Bool.{true≢false}
use Rattle.std.proofs.lemmas.Bool.Decides.{nat_tests}
use Rattle.std.proofs.lemmas.List.{append-nil}
use Rattle.std.proofs.lemmas.List.Elements.{All-head, All-tail}
use Rattle.job_list.specs.Jobs.{lines, onto_first, is_blank, ending, IsName, JobText, job_text, Says}

-- the first part before a byte that it does not have is one only
pub cut_once : (b : ℕ) (p q r s : List ℕ) → All (λ x. x ≢ b) p → All (λ x. x ≢ b) q → p ++ b ∷ r ≡ q ++ b ∷ s → (p ≡ q) × (r ≡ s)
cut_once b [] [] r s in_p in_q e = (refl, cc)
cut_once b [] (y ∷ ys) r s in_p in_q e = absurd (All-head (λ x. x ≢ b) y ys in_q (cc))
cut_once b (x ∷ xs) [] r s in_p in_q e = absurd (All-head (λ y. y ≢ b) x xs in_p (cc))
cut_once b (x ∷ xs) (y ∷ ys) r s in_p in_q e =
    let same : x ≡ y = cc in
    let rest : xs ++ b ∷ r ≡ ys ++ b ∷ s = cc in
    let k = cut_once b xs ys r s (All-tail (λ z. z ≢ b) x xs in_p) (All-tail (λ z. z ≢ b) y ys in_q) rest in
    (ap (λ z. z ∷ xs) same ∙ ap (λ zs. y ∷ zs) k.0, k.1)

-- a list without a byte is not one that is cut at it
pub no_cut : (b : ℕ) (p q r : List ℕ) → All (λ x. x ≢ b) p → p ≡ q ++ b ∷ r → ⊥
no_cut b [] [] r without e = cc
no_cut b [] (y ∷ ys) r without e = cc
no_cut b (x ∷ xs) [] r without e = All-head (λ y. y ≢ b) x xs without (cc)
no_cut b (x ∷ xs) (y ∷ ys) r without e = no_cut b xs ys r (All-tail (λ z. z ≢ b) x xs without) (cc)

-- the first line of a text
pub line_cut : (line rest : List ℕ) → All (λ x. x ≢ 10) line → lines (line ++ 10 ∷ rest) ≡ line ∷ lines rest
line_cut [] rest without = refl
line_cut (x ∷ xs) rest without =
    let apart : x ≢ 10 = All-head (λ y. y ≢ 10) x xs without in
    let test : (x == 10) ≡ false = grind (arith, nat_tests) in
    let more = line_cut xs rest (All-tail (λ y. y ≢ 10) x xs without) in
    ap (λ (t : Bool). if t then [] ∷ lines (xs ++ 10 ∷ rest) else onto_first x (lines (xs ++ 10 ∷ rest))) test ∙ ap (onto_first x) more

pub last_line : (x : ℕ) (xs : List ℕ) → All (λ y. y ≢ 10) (x ∷ xs) → lines (x ∷ xs) ≡ (x ∷ xs) ∷ []
last_line x [] without =
    let apart : x ≢ 10 = All-head (λ y. y ≢ 10) x [] without in
    let test : (x == 10) ≡ false = grind (arith, nat_tests) in
    ap (λ (t : Bool). if t then [] ∷ [] else (x ∷ []) ∷ []) test
last_line x (y ∷ ys) without =
    let apart : x ≢ 10 = All-head (λ y. y ≢ 10) x (y ∷ ys) without in
    let test : (x == 10) ≡ false = grind (arith, nat_tests) in
    let more = last_line y ys (All-tail (λ y. y ≢ 10) x (y ∷ ys) without) in
    ap (λ (t : Bool). if t then [] ∷ lines (y ∷ ys) else onto_first x (lines (y ∷ ys))) test ∙ ap (onto_first x) more

-- a name has no blank
pub name_no_blank : (name : List ℕ) → IsName name → All (λ x. x ≢ 32) name
name_no_blank name is k d h e =
    let none = is.unbroken k d h in
    let some : is_blank (get_or name k d) ≡ true = ap is_blank e in true≢false (sym some ∙ none)

-- the target's name and the ending, of what stands behind the pattern's
pub ending_once : (t u : List ℕ) (i j : Bool) → All (λ x. x ≢ 32) t → All (λ x. x ≢ 32) u → t ++ ending i ≡ u ++ ending j → (t ≡ u) × (i ≡ j)
ending_once t u true true no_t no_u e = ((cut_once 32 t u _ _ no_t no_u e).0, refl)
ending_once t u true false no_t no_u e = absurd (no_cut 32 u t _ no_u (sym (append-nil u) ∙ sym e))
ending_once t u false true no_t no_u e = absurd (no_cut 32 t u _ no_t (sym (append-nil t) ∙ e))
ending_once t u false false no_t no_u e = (sym (append-nil t) ∙ e ∙ append-nil u, refl)

-- a line says one job at most
pub one_job : (line : List ℕ) (j k : JobText) → Says line j → Says line k → j ≡ k
one_job line j k a b =
    let p = cut_once 32 j.pattern k.pattern _ _ (name_no_blank j.pattern a.pattern) (name_no_blank k.pattern b.pattern) (sym a.text ∙ b.text) in
    let t = ending_once j.target k.target j.induced k.induced (name_no_blank j.target a.target) (name_no_blank k.target b.target) p.1 in
    ap (λ x. job_text x j.target j.induced) p.0 ∙ ap (λ x. job_text k.pattern x j.induced) t.0 ∙ ap (job_text k.pattern k.target) t.1

-- where nothing follows a target's name, it is all of what stands behind the pattern's
pub no_target_whole : (rest : List ℕ) → All (λ x. x ≢ 32) rest → ¬ (IsName rest) → (t : List ℕ) (i : Bool) → IsName t → rest ≢ t ++ ending i
no_target_whole rest without not_name t true is e = no_cut 32 rest t _ without e
no_target_whole rest without not_name t false is e = not_name (subst (λ (x : List ℕ). IsName x) (sym (append-nil t) ∙ sym e) is)

pub no_target_cut : (rest target last : List ℕ) → rest ≡ target ++ 32 ∷ last → All (λ x. x ≢ 32) target → (last ≢ codes "induced") ⊎ (¬ (IsName target)) → (t : List ℕ) (i : Bool) → IsName t → rest ≢ t ++ ending i
no_target_cut rest target last cut without bad t false is e = no_cut 32 t target last (name_no_blank t is) (sym (append-nil t) ∙ sym e ∙ cut)
no_target_cut rest target last cut without bad t true is e =
    let k = cut_once 32 target t last (codes "induced") without (name_no_blank t is) (sym cut ∙ e) in
    ⊎_elim (λ (n : last ≢ codes "induced"). n k.1) (λ (n : ¬ (IsName target)). n (subst (λ (x : List ℕ). IsName x) (sym k.0) is)) bad

-- why a line says no job
pub no_job_whole : (line : List ℕ) → All (λ x. x ≢ 32) line → (j : JobText) → ¬ (Says line j)
no_job_whole line without j said = no_cut 32 line j.pattern _ without said.text

pub no_job_pattern : (line pattern rest : List ℕ) → line ≡ pattern ++ 32 ∷ rest → All (λ x. x ≢ 32) pattern → ¬ (IsName pattern) → (j : JobText) → ¬ (Says line j)
no_job_pattern line pattern rest cut without not_name j said =
    let k = cut_once 32 pattern j.pattern _ _ without (name_no_blank j.pattern said.pattern) (sym cut ∙ said.text) in
    not_name (subst (λ (x : List ℕ). IsName x) (sym k.0) said.pattern)

pub no_job_target : (line pattern rest : List ℕ) → line ≡ pattern ++ 32 ∷ rest → All (λ x. x ≢ 32) pattern → ((t : List ℕ) (i : Bool) → IsName t → rest ≢ t ++ ending i) → (j : JobText) → ¬ (Says line j)
no_job_target line pattern rest cut without none j said =
    let k = cut_once 32 pattern j.pattern _ _ without (name_no_blank j.pattern said.pattern) (sym cut ∙ said.text) in
    none j.target j.induced said.target k.1

pub says_parts : (line pattern rest target : List ℕ) (induced : Bool) → line ≡ pattern ++ 32 ∷ rest → rest ≡ target ++ ending induced → IsName pattern → IsName target → Says line (job_text pattern target induced)
says_parts line pattern rest target induced cut is p t = record { text = cut ∙ ap (λ r. pattern ++ 32 ∷ r) is; pattern = p; target = t }

-- the first line, by what ends it
pub line_of : (text line rest : List ℕ) → text ≡ line ++ 10 ∷ rest → All (λ x. x ≢ 10) line → lines text ≡ line ∷ lines rest
line_of text line rest is without = ap lines is ∙ line_cut line rest without

pub only_line : (text rest : List ℕ) → 0 < length text → All (λ x. x ≢ 10) text → rest ≡ [] → lines text ≡ text ∷ lines rest
only_line [] rest some without is = absurd (omega arith)
only_line (x ∷ xs) rest some without is = last_line x xs without ∙ ap (λ r. (x ∷ xs) ∷ lines r) (sym is)

-- what a test that two texts differ says
pub from_not : (b : Bool) → true ≡ not b → false ≡ b
from_not false e = refl
from_not true e = absurd (true≢false e)

-- a text that is not empty has a line
pub some_line : (text : List ℕ) → 0 < length text → 0 < length (lines text)
some_line [] some = absurd (omega arith)
some_line (b ∷ bs) some = by (b == 10)
  where
    onto_some : (ls : List (List ℕ)) → 0 < length (onto_first b ls)
    onto_some [] = let e : length (onto_first b []) ≡ 1 = refl in omega arith
    onto_some (l ∷ ls) = let e : length (onto_first b (l ∷ ls)) ≡ suc (length ls) = refl in omega arith

    by : (t : Bool) → 0 < length (if t then [] ∷ lines bs else onto_first b (lines bs))
    by true = let e : length ([] ∷ lines bs) ≡ suc (length (lines bs)) = refl in omega arith
    by false = onto_some (lines bs)
