-- Where the lines of a text end.
use Rattle.std.proofs.Common.{◌≡◌, ◌≢◌, ℕ, zero, suc, ◌+◌, ◌<◌, Bool, true, false, cond, ◌==◌, ◌&&◌, List, [], ◌∷◌, ◌++◌, length, take, get_or, refl, sym, ap, ◌∙◌, subst, arith}
use Rattle.std.proofs.lemmas.Bool.{ne_eqb, eq-eqb}
use Rattle.log_theory.specs.Words.{into_first, pieces}
use Rattle.log_theory.specs.OpbReading.{without_returns, without_last_empty, opb_lines}
use Rattle.opb_text.specs.Cutting.{HasNo}

-- One byte more that is not this one.
pub HasNo-more : (byte i : ℕ) (bs : List ℕ) → HasNo byte (take i bs) → i < length bs → get_or bs i 0 ≢ byte → HasNo byte (take (i + 1) bs)
HasNo-more byte i bs h i_in e = subst (λ (k : ℕ). HasNo byte (take k bs)) (let d : suc i ≡ i + 1 = omega arith in d) (more i bs h i_in e)
  where
    more : (i : ℕ) (bs : List ℕ) → HasNo byte (take i bs) → i < length bs → get_or bs i 0 ≢ byte → HasNo byte (take (suc i) bs)
    more i [] h i_in e = absurd (omega arith)
    more zero (b ∷ bs) h i_in e = (e, tt)
    more (suc i) (b ∷ bs) h i_in e = (h.0, more i bs h.1 (omega arith) e)

-- A cut stands behind bytes that are no cuts.
pub pieces_first : (byte : ℕ) (w rest : List ℕ) → HasNo byte w → pieces (λ b. b == byte) (w ++ byte ∷ rest) ≡ w ∷ pieces (λ b. b == byte) rest
pieces_first byte [] rest h = ap (λ (x : Bool). cond x ([] ∷ pieces (λ b. b == byte) rest) (into_first byte (pieces (λ b. b == byte) rest))) (eq-eqb byte byte refl)
pieces_first byte (b ∷ bs) rest h =
    ap (λ (x : Bool). cond x ([] ∷ pieces (λ b. b == byte) (bs ++ byte ∷ rest)) (into_first b (pieces (λ b. b == byte) (bs ++ byte ∷ rest)))) (ne_eqb b byte h.0)
    ∙ ap (into_first b) (pieces_first byte bs rest h.1)

-- Bytes that are no cuts are one piece.
pub pieces_alone : (byte : ℕ) (w : List ℕ) → HasNo byte w → pieces (λ b. b == byte) w ≡ w ∷ []
pieces_alone byte [] h = refl
pieces_alone byte (b ∷ bs) h =
    ap (λ (x : Bool). cond x ([] ∷ pieces (λ b. b == byte) bs) (into_first b (pieces (λ b. b == byte) bs))) (ne_eqb b byte h.0)
    ∙ ap (into_first b) (pieces_alone byte bs h.1)

-- A byte in front of what does not begin with LF stays.
stays : (b c : ℕ) (bs : List ℕ) → c ≢ 10 → without_returns (b ∷ c ∷ bs) ≡ b ∷ without_returns (c ∷ bs)
stays b c bs h = by_tests (b == 13) (10 == c) (ne_eqb 10 c (λ (e : 10 ≡ c). h (sym e)))
  where
    by_tests : (x y : Bool) → y ≡ false → cond (x && (y && true)) (without_returns (c ∷ bs)) (b ∷ without_returns (c ∷ bs)) ≡ b ∷ without_returns (c ∷ bs)
    by_tests true true e = absurd cc
    by_tests true false e = refl
    by_tests false y e = refl

-- A CR in front of an LF goes.
pub without_returns-return : (w rest : List ℕ) → HasNo 10 (w ++ 13 ∷ []) → without_returns ((w ++ 13 ∷ []) ++ 10 ∷ rest) ≡ w ++ 10 ∷ without_returns rest
without_returns-return [] rest h = refl
without_returns-return (b ∷ []) rest h = stays b 13 (10 ∷ rest) (λ (e : 13 ≡ 10). absurd (omega arith))
without_returns-return (b ∷ c ∷ bs) rest h =
    stays b c ((bs ++ 13 ∷ []) ++ 10 ∷ rest) h.1.0 ∙ ap (λ (t : List ℕ). b ∷ t) (without_returns-return (c ∷ bs) rest h.1)

-- Without a CR at its end a line stays as it is.
pub without_returns-line : (w rest : List ℕ) → HasNo 10 w → ((front : List ℕ) → w ≢ front ++ 13 ∷ []) → without_returns (w ++ 10 ∷ rest) ≡ w ++ 10 ∷ without_returns rest
without_returns-line [] rest h free = refl
without_returns-line (b ∷ []) rest h free =
    ap (λ (x : Bool). cond (x && true) (without_returns (10 ∷ rest)) (b ∷ without_returns (10 ∷ rest))) (ne_eqb b 13 (λ (e : b ≡ 13). free [] (ap (λ (x : ℕ). x ∷ []) e)))
without_returns-line (b ∷ c ∷ bs) rest h free =
    stays b c (bs ++ 10 ∷ rest) h.1.0
    ∙ ap (λ (t : List ℕ). b ∷ t) (without_returns-line (c ∷ bs) rest h.1 (λ (front : List ℕ) (e : (c ∷ bs) ≡ front ++ 13 ∷ []). free (b ∷ front) (ap (λ (t : List ℕ). b ∷ t) e)))

-- A text without LF keeps each CR.
without_returns-none : (w : List ℕ) → HasNo 10 w → without_returns w ≡ w
without_returns-none [] h = refl
without_returns-none (b ∷ []) h = by_test (b == 13)
  where
    by_test : (x : Bool) → cond (x && false) [] (b ∷ []) ≡ b ∷ []
    by_test true = refl
    by_test false = refl
without_returns-none (b ∷ c ∷ bs) h = stays b c bs h.1.0 ∙ ap (λ (t : List ℕ). b ∷ t) (without_returns-none (c ∷ bs) h.1)

kept_first : (w : List ℕ) (ls : List (List ℕ)) → (l : List ℕ) (ks : List (List ℕ)) → ls ≡ l ∷ ks → without_last_empty (w ∷ ls) ≡ w ∷ without_last_empty ls
kept_first w [] l ks e = absurd cc
kept_first w (k ∷ ls) l ks e = refl

-- There is a piece at least.
pub record Some_piece (ls : List (List ℕ)) : Type 0 where
  pub first : List ℕ
  pub others : List (List ℕ)
  pub is : ls ≡ first ∷ others

into_first-some : (b : ℕ) (ls : List (List ℕ)) → Some_piece (into_first b ls)
into_first-some b [] = record { first = b ∷ []; others = []; is = refl }
into_first-some b (w ∷ ws) = record { first = b ∷ w; others = ws; is = refl }

pub pieces-some : (ends : ℕ → Bool) (bs : List ℕ) → Some_piece (pieces ends bs)
pieces-some ends [] = record { first = []; others = []; is = refl }
pieces-some ends (b ∷ bs) = by_test (ends b)
  where
    by_test : (x : Bool) → Some_piece (cond x ([] ∷ pieces ends bs) (into_first b (pieces ends bs)))
    by_test true = record { first = []; others = pieces ends bs; is = refl }
    by_test false = into_first-some b (pieces ends bs)

-- The lines of a text with an LF: what stands in front of it, and those of the rest.
pub opb_lines-first : (text line kept rest : List ℕ) → HasNo 10 kept → text ≡ line ++ 10 ∷ rest → without_returns (line ++ 10 ∷ rest) ≡ kept ++ 10 ∷ without_returns rest
    → opb_lines text ≡ kept ∷ opb_lines rest
opb_lines-first text line kept rest h e k =
    let p = pieces-some (λ b. b == 10) (without_returns rest) in
    ap opb_lines e
    ∙ ap (λ (t : List ℕ). without_last_empty (pieces (λ b. b == 10) t)) k
    ∙ ap without_last_empty (pieces_first 10 kept (without_returns rest) h)
    ∙ kept_first kept (pieces (λ b. b == 10) (without_returns rest)) p.first p.others p.is

-- A text without LF is one line, unless it is empty.
pub opb_lines-last : (text : List ℕ) → HasNo 10 text → 0 < length text → opb_lines text ≡ text ∷ []
opb_lines-last [] h some = absurd (omega arith)
opb_lines-last (b ∷ bs) h some =
    ap (λ (t : List ℕ). without_last_empty (pieces (λ b. b == 10) t)) (without_returns-none (b ∷ bs) h)
    ∙ ap without_last_empty (pieces_alone 10 (b ∷ bs) h)

-- What a text without LF is put together of has none either.
pub HasNo-front : (byte : ℕ) (w v : List ℕ) → HasNo byte (w ++ v) → HasNo byte w
HasNo-front byte [] v h = tt
HasNo-front byte (b ∷ bs) v h = (h.0, HasNo-front byte bs v h.1)
