-- Parts of a journal's text are the texts of parts of its lines.
use Rattle.std.proofs.Common.{◌≡◌, ℕ, zero, suc, ◌+◌, ◌-◌, ◌<◌, ◌≤◌, List, [], ◌∷◌, ◌++◌, length, take, drop, get_or, refl, sym, ap, ◌∙◌, length-append, append-nil, arith}
use Rattle.std.specs.List.{between}
use Rattle.std.proofs.lemmas.Slice.{between_is}
use Rattle.std.proofs.lemmas.List.{take_at, drop_at, take-append-drop}
use Rattle.log_theory.specs.declared.step.Step.{Step}
use Rattle.log_theory.specs.Words.{line_text}
use Rattle.log_theory.specs.LogText.{step_words}
use Rattle.journal_theory.specs.Journals.{named, numbered}
use Rattle.journals.specs.Keeping.{text_of, ends_from, BearNames}
use Rattle.merged_log.proofs.Putting.{text_join}

-- A line's end is where the text of the lines up to it ends.
end_at : (at : ℕ) (ss : List Step) (i : ℕ) → i < length ss → get_or (ends_from at ss) i 0 ≡ at + length (text_of (take (suc i) ss))
end_at at [] i h = absurd (omega arith)
end_at at (s ∷ ss) zero h = ap (λ (bs : List ℕ). at + length bs) (sym (append-nil (line_text (step_words s))))
end_at at (s ∷ ss) (suc i) h =
    let rest = end_at (at + length (line_text (step_words s))) ss i (omega (arith, h)) in
    rest ∙ (let l = length-append (line_text (step_words s)) (text_of (take (suc i) ss)) in omega (arith, l))

pub end_is : (ss : List Step) (n : ℕ) → 0 < n → n ≤ length ss → get_or (ends_from 0 ss) (n - 1) 0 ≡ length (text_of (take n ss))
end_is ss n some h =
    let k : n ≡ suc (n - 1) = omega (arith, some) in
    let e = end_at 0 ss (n - 1) (omega (arith, some, h)) in
    let t : length (text_of (take (suc (n - 1)) ss)) ≡ length (text_of (take n ss)) = ap (λ (m : ℕ). length (text_of (take m ss))) (sym k) in
    omega (arith, e, t)

take_less : (a b : ℕ) (ss : List Step) → a ≤ b → take a (take b ss) ≡ take a ss
take_less zero b ss h = refl
take_less (suc a) zero ss h = absurd (omega arith)
take_less (suc a) (suc b) [] h = refl
take_less (suc a) (suc b) (s ∷ ss) h = ap (λ (ts : List Step). s ∷ ts) (take_less a b ss (omega (arith, h)))

-- The text of the first lines, and of those behind them.
text_cut : (n : ℕ) (ss : List Step) → text_of ss ≡ text_of (take n ss) ++ text_of (drop n ss)
text_cut n ss = ap text_of (sym (take-append-drop n ss)) ∙ text_join (take n ss) (drop n ss)

text_front : (n : ℕ) (ss : List Step) → take (length (text_of (take n ss))) (text_of ss) ≡ text_of (take n ss)
text_front n ss = ap (take (length (text_of (take n ss)))) (text_cut n ss) ∙ take_at (text_of (take n ss)) (text_of (drop n ss)) _ refl

text_back : (n : ℕ) (ss : List Step) → drop (length (text_of (take n ss))) (text_of ss) ≡ text_of (drop n ss)
text_back n ss = ap (drop (length (text_of (take n ss)))) (text_cut n ss) ∙ drop_at (text_of (take n ss)) (text_of (drop n ss)) _ refl

pub text_grows : (a b : ℕ) (ss : List Step) → a ≤ b → length (text_of (take a ss)) ≤ length (text_of (take b ss))
text_grows a b ss h =
    let e = ap length (text_cut a (take b ss)) in
    let l = length-append (text_of (take a (take b ss))) (text_of (drop a (take b ss))) in
    let s : length (text_of (take a (take b ss))) ≡ length (text_of (take a ss)) = ap (λ (ts : List Step). length (text_of ts)) (take_less a b ss h) in
    omega (arith, e, l, s)

pub text_within : (b : ℕ) (ss : List Step) → length (text_of (take b ss)) ≤ length (text_of ss)
text_within b ss =
    let e = ap length (text_cut b ss) in
    let l = length-append (text_of (take b ss)) (text_of (drop b ss)) in
    omega (arith, e, l)

-- The part of a text between the ends of lines.
pub text_between : (a b : ℕ) (ss : List Step) → a ≤ b → between (length (text_of (take a ss))) (length (text_of (take b ss))) (text_of ss) ≡ text_of (drop a (take b ss))
text_between a b ss h =
    between_is (text_of ss) (length (text_of (take a ss))) (length (text_of (take b ss)))
    ∙ ap (drop (length (text_of (take a ss)))) (text_front b ss)
    ∙ ap (λ (ts : List Step). drop (length (text_of ts)) (text_of (take b ss))) (sym (take_less a b ss h))
    ∙ text_back a (take b ss)

-- Parts of lines that bear their names are numbered as they stand.
tail_is : (x y : Step) (xs ys : List Step) → x ∷ xs ≡ y ∷ ys → xs ≡ ys
tail_is x y xs ys e = cc

head_is : (x y : Step) (xs ys : List Step) → x ∷ xs ≡ y ∷ ys → x ≡ y
head_is x y xs ys e = cc

names_take : (w a n : ℕ) (ss : List Step) → numbered w a ss ≡ ss → numbered w a (take n ss) ≡ take n ss
names_take w a zero ss h = refl
names_take w a (suc n) [] h = refl
names_take w a (suc n) (s ∷ ss) h =
    let x = head_is (named w a s) s (numbered w (a + 1) ss) ss h in
    let xs = names_take w (a + 1) n ss (tail_is (named w a s) s (numbered w (a + 1) ss) ss h) in
    ap (λ (ts : List Step). named w a s ∷ ts) xs ∙ ap (λ (y : Step). y ∷ take n ss) x

names_drop : (w a n : ℕ) (ss : List Step) → numbered w a ss ≡ ss → numbered w (a + n) (drop n ss) ≡ drop n ss
names_drop w a zero ss h = let e : a + 0 ≡ a = omega arith in ap (λ (k : ℕ). numbered w k ss) e ∙ h
names_drop w a (suc n) [] h = refl
names_drop w a (suc n) (s ∷ ss) h =
    let e : a + suc n ≡ a + 1 + n = omega arith in
    ap (λ (k : ℕ). numbered w k (drop n ss)) e ∙ names_drop w (a + 1) n ss (tail_is (named w a s) s (numbered w (a + 1) ss) ss h)

pub names_part : (w from to : ℕ) (ss : List Step) → BearNames w ss → numbered w from (drop from (take to ss)) ≡ drop from (take to ss)
names_part w from to ss h =
    let e : from ≡ 0 + from = omega arith in
    ap (λ (k : ℕ). numbered w k (drop from (take to ss))) e ∙ names_drop w 0 from (take to ss) (names_take w 0 to ss h)

-- Nothing is left from a count on that is not below the other.
pub drop_none : (from to : ℕ) (ss : List Step) → to ≤ from → drop from (take to ss) ≡ []
drop_none zero zero ss h = refl
drop_none zero (suc to) ss h = absurd (omega arith)
drop_none (suc from) zero ss h = refl
drop_none (suc from) (suc to) [] h = refl
drop_none (suc from) (suc to) (s ∷ ss) h = drop_none from to ss (omega (arith, h))
