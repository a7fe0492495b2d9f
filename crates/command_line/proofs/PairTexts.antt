-- A word that names pairs, piece by piece.

use Rattle.std.proofs.Common.{◌≡◌, ◌≢◌, ℕ, suc, ◌+◌, ◌<◌, ◌≤◌, ◌==◌, nat_le, if◌then◌else◌, Bool, true, false, List, [], ◌∷◌, ◌++◌, length, get_or, Option, Some, None, option_map, ◌⊎◌, inl, inr, refl, sym, ap, subst, ◌∙◌, append_assoc, length-append, arith}
use Rattle.std.specs.List.{All}
use Rattle.std.proofs.lemmas.Bool.Decides.{nat_tests}
use Rattle.std.proofs.lemmas.List.{append-nil}
use Rattle.std.proofs.lemmas.List.Elements.{All-push}
use Rattle.command_line.specs.Pairs.{pair, onto_first, pieces, with_first, all_pairs, pairs, AreNamed}

-- No byte of the text is this one.
abbrev pub Lacks : ℕ → List ℕ → Type 0
Lacks c text = (i : ℕ) → i < length text → get_or text i 0 ≢ c

lacks_tail : (c b : ℕ) (bs : List ℕ) → Lacks c (b ∷ bs) → Lacks c bs
lacks_tail c b bs lacks = λ i below. lacks (suc i) (omega arith)

not_first : (b : ℕ) (bs : List ℕ) → Lacks 58 (b ∷ bs) → (b == 58) ≡ false
not_first b bs lacks =
    let apart : b ≢ 58 = lacks 0 (omega arith) in
    grind (arith, nat_tests)

-- The first piece, up to a colon.
pub first_piece : (text piece rest : List ℕ) → text ≡ piece ++ 58 ∷ rest → Lacks 58 piece → pieces text ≡ piece ∷ pieces rest
first_piece text piece rest is lacks = ap pieces is ∙ cut piece lacks
  where
    cut : (p : List ℕ) → Lacks 58 p → pieces (p ++ 58 ∷ rest) ≡ p ∷ pieces rest
    cut [] lacks = refl
    cut (b ∷ bs) lacks =
        ap (λ (t : Bool). if t then [] ∷ pieces (bs ++ 58 ∷ rest) else onto_first b (pieces (bs ++ 58 ∷ rest))) (not_first b bs lacks)
        ∙ ap (onto_first b) (cut bs (lacks_tail 58 b bs lacks))

-- A text without a colon is one piece.
pub one_piece : (text : List ℕ) → Lacks 58 text → pieces text ≡ text ∷ []
one_piece [] lacks = refl
one_piece (b ∷ bs) lacks =
    ap (λ (t : Bool). if t then [] ∷ pieces bs else onto_first b (pieces bs)) (not_first b bs lacks)
    ∙ ap (onto_first b) (one_piece bs (lacks_tail 58 b bs lacks))

-- What is there, where the number is 64 at most.
abbrev limited : ℕ → Option (List (ℕ × ℕ)) → Option (List (ℕ × ℕ))
limited n found = if nat_le n 64 then found else None

-- The pairs so far, and those of the pieces behind them.
abbrev pub onto : List (ℕ × ℕ) → List (List ℕ) → Option (List (ℕ × ℕ))
onto have ts = limited (length have + length ts) (option_map (λ more. have ++ more) (all_pairs ts))

all_none : (n : ℕ) (found : Option (List (ℕ × ℕ))) → (found ≡ None) ⊎ (64 < n) → limited n found ≡ None
all_none n found (inl none) = ap (limited n) none ∙ either (nat_le n 64)
  where
    nothing : Option (List (ℕ × ℕ))
    nothing = None

    either : (t : Bool) → (if t then nothing else nothing) ≡ nothing
    either true = refl
    either false = refl
all_none n found (inr many) =
    let test : nat_le n 64 ≡ false = grind (arith, nat_tests) in
    ap (λ (t : Bool). if t then found else None) test

-- With none before, they are those of the word.
pub onto_none : (text : List ℕ) → pairs text ≡ onto [] (pieces text)
onto_none text =
    let count : length (pieces text) ≡ 0 + length (pieces text) = omega arith in
    ap (λ n. limited n (all_pairs (pieces text))) count ∙ ap (limited (0 + length (pieces text))) (same (all_pairs (pieces text)))
  where
    same : (o : Option (List (ℕ × ℕ))) → o ≡ option_map (λ more. [] ++ more) o
    same None = refl
    same (Some xs) = refl

-- A piece that is a pair goes behind those so far.
pub next_pair : (have more : List (ℕ × ℕ)) (t : List ℕ) (ts : List (List ℕ)) (x : ℕ × ℕ) → pair t ≡ Some x → more ≡ have ++ x ∷ []
    → onto have (t ∷ ts) ≡ onto more ts
next_pair have more t ts x is longer =
    let long : length more ≡ length have + 1 = ap length longer ∙ length-append have (x ∷ []) in
    let count : length have + length (t ∷ ts) ≡ length more + length ts = omega arith in
    ap (λ o. limited (length have + length (t ∷ ts)) (option_map (λ xs. have ++ xs) (with_first o (all_pairs ts)))) is
    ∙ ap (λ n. limited n (option_map (λ xs. have ++ xs) (with_first (Some x) (all_pairs ts)))) count
    ∙ ap (limited (length more + length ts)) (joined (all_pairs ts))
  where
    joined : (o : Option (List (ℕ × ℕ))) → option_map (λ xs. have ++ xs) (with_first (Some x) o) ≡ option_map (λ xs. more ++ xs) o
    joined None = refl
    joined (Some xs) = ap Some (sym (append_assoc have (x ∷ []) xs) ∙ ap (λ ys. ys ++ xs) (sym longer))

-- Where a piece is none, or 64 pairs stand before it, the word names none.
pub no_pairs : (have : List (ℕ × ℕ)) (t : List ℕ) (ts : List (List ℕ)) → (pair t ≡ None) ⊎ (64 ≤ length have) → onto have (t ∷ ts) ≡ None
no_pairs have t ts (inl none) =
    all_none (length have + length (t ∷ ts)) (option_map (λ xs. have ++ xs) (all_pairs (t ∷ ts)))
    (inl (ap (λ o. option_map (λ xs. have ++ xs) (with_first o (all_pairs ts))) none))
no_pairs have t ts (inr full) =
    let many : 64 < length have + length (t ∷ ts) = omega arith in
    all_none (length have + length (t ∷ ts)) (option_map (λ xs. have ++ xs) (all_pairs (t ∷ ts))) (inr many)

-- Behind the last piece they are all.
pub all_read : (have : List (ℕ × ℕ)) → length have ≤ 64 → onto have [] ≡ Some have
all_read have few =
    let test : nat_le (length have + 0) 64 ≡ true = grind (arith, nat_tests) in
    ap (λ (t : Bool). if t then Some (have ++ []) else None) test ∙ ap Some (append-nil have)

-- One pair more.
pub named_push : (have more : List (ℕ × ℕ)) (x : ℕ × ℕ) → AreNamed have → more ≡ have ++ x ∷ [] → length more ≤ 64 → x.0 ≢ x.1 → AreNamed more
named_push have more x named longer few two = record { few = few; two = subst (λ (xs : List (ℕ × ℕ)). All (λ y. y.0 ≢ y.1) xs) (sym longer) (All-push (λ y. y.0 ≢ y.1) have x named.two two) }
