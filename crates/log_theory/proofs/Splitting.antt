-- Cutting a text into lines and a line into words, where the bytes are known.
use Rattle.std.proofs.Common.{◌≡◌, ℕ, ◌+◌, ◌%◌, ◌≤◌, ◌<◌, ◌^◌, Bool, true, false, cond, not, ◌&&◌, nat_le, List, [], ◌∷◌, ◌++◌, length, Option, Some, None, refl, ap, ◌∙◌, arith}
use Rattle.std.specs.Fmt.{decimal}
use Rattle.std.specs.Str.{all_ascii_digits}
use Rattle.std.specs.Char.{is_ascii_digit}
use Rattle.std.specs.Str.Parse.{digits_value}
use Rattle.std.specs.List.{flat_map}
use Rattle.std.proofs.lemmas.List.{append-nil}
use Rattle.std.proofs.lemmas.Bool.{and_from, and_parts, leb-true}
use Rattle.std.proofs.lemmas.Bool.Decides.{nat_tests}
use Rattle.std.proofs.lemmas.Fmt.{decimal_is_IsNumeral_wide, decimal_by_steps_wide}
use Rattle.log_theory.specs.Words.{into_first, pieces, is_empty, not_empty, joined, number_of}

-- Each byte is from low to high.
abbrev pub AllBetween : ℕ → ℕ → List ℕ → Type 0
AllBetween low high [] = Unit {0}
AllBetween low high (b ∷ bs) = (low ≤ b) × (b ≤ high) × AllBetween low high bs

pub AllBetween-wider : (low high less more : ℕ) (bs : List ℕ) → less ≤ low → high ≤ more → AllBetween low high bs → AllBetween less more bs
AllBetween-wider low high less more [] p q h = tt
AllBetween-wider low high less more (b ∷ bs) p q h = let x = h.0 in let y = h.1 in (omega arith, omega arith, AllBetween-wider low high less more bs p q h.2)

pub AllBetween-append : (low high : ℕ) (front bs : List ℕ) → AllBetween low high front → AllBetween low high bs → AllBetween low high (front ++ bs)
AllBetween-append low high [] bs h k = k
AllBetween-append low high (a ∷ rest) bs h k = (h.0, h.1, AllBetween-append low high rest bs h.2 k)

-- A test that fails at each of these bytes.
pub record Passes (ends : ℕ → Bool) (low high : ℕ) : Type 0 where
  pub over : (b : ℕ) → low ≤ b → b ≤ high → ends b ≡ false

-- Bytes that end no piece stand before the first cut.
pub pieces_front : (ends : ℕ → Bool) (low high s : ℕ) (w rest : List ℕ) → Passes ends low high → ends s ≡ true → AllBetween low high w → pieces ends (w ++ s ∷ rest) ≡ w ∷ pieces ends rest
pieces_front ends low high s [] rest p e h = ap (λ (x : Bool). cond x ([] ∷ pieces ends rest) (into_first s (pieces ends rest))) e
pieces_front ends low high s (b ∷ bs) rest p e h =
    ap (λ (x : Bool). cond x ([] ∷ pieces ends (bs ++ s ∷ rest)) (into_first b (pieces ends (bs ++ s ∷ rest)))) (p.over b h.0 h.1)
    ∙ ap (into_first b) (pieces_front ends low high s bs rest p e h.2)

-- Bytes that end no piece are one piece.
pub pieces_whole : (ends : ℕ → Bool) (low high : ℕ) (w : List ℕ) → Passes ends low high → AllBetween low high w → pieces ends w ≡ w ∷ []
pieces_whole ends low high [] p h = refl
pieces_whole ends low high (b ∷ bs) p h =
    ap (λ (x : Bool). cond x ([] ∷ pieces ends bs) (into_first b (pieces ends bs))) (p.over b h.0 h.1)
    ∙ ap (into_first b) (pieces_whole ends low high bs p h.2)

-- Words that a line may have: not empty, and of bytes from 33 to 126.
pub record IsWord (w : List ℕ) : Type 0 where
  pub some : is_empty w ≡ false
  pub bytes : AllBetween 33 126 w

abbrev pub AreWords : List (List ℕ) → Type 0
AreWords [] = Unit {0}
AreWords (w ∷ ws) = IsWord w × AreWords ws

pub AreWords-append : (ws vs : List (List ℕ)) → AreWords ws → AreWords vs → AreWords (ws ++ vs)
AreWords-append [] vs h k = k
AreWords-append (w ∷ ws) vs h k = (h.0, AreWords-append ws vs h.1 k)

-- Words joined by blanks are cut back into themselves.
pub pieces_joined : (ends : ℕ → Bool) (w : List ℕ) (ws : List (List ℕ)) → Passes ends 33 126 → ends 32 ≡ true → AreWords (w ∷ ws) → pieces ends (joined (w ∷ ws)) ≡ w ∷ ws
pieces_joined ends w [] p e h = ap (pieces ends) (append-nil w) ∙ pieces_whole ends 33 126 w p h.0.bytes
pieces_joined ends w (v ∷ vs) p e h = pieces_front ends 33 126 32 w (joined (v ∷ vs)) p e h.0.bytes ∙ ap (λ (xs : List (List ℕ)). w ∷ xs) (pieces_joined ends v vs p e h.1)

pub not_empty-words : (ws : List (List ℕ)) → AreWords ws → not_empty ws ≡ ws
not_empty-words [] h = refl
not_empty-words (w ∷ ws) h = ap (λ (x : Bool). cond x (not_empty ws) (w ∷ not_empty ws)) h.0.some ∙ ap (λ (xs : List (List ℕ)). w ∷ xs) (not_empty-words ws h.1)

-- The bytes of joined words are from 32 to 126.
pub joined_bytes : (ws : List (List ℕ)) → AreWords ws → AllBetween 32 126 (joined ws)
joined_bytes [] h = tt
joined_bytes (w ∷ ws) h = AllBetween-append 32 126 w _ (AllBetween-wider 33 126 32 126 w (omega arith) (omega arith) h.0.bytes) (rest ws h.1)
  where
    rest : (vs : List (List ℕ)) → AreWords vs → AllBetween 32 126 (flat_map (λ v. 32 ∷ v) vs)
    rest [] k = tt
    rest (v ∷ vs) k = (omega arith, omega arith, AllBetween-append 32 126 v _ (AllBetween-wider 33 126 32 126 v (omega arith) (omega arith) k.0.bytes) (rest vs k.1))

-- Digits, as bytes.
digits_more : (ds : List ℕ) (d : ℕ) → d < 10 → AllBetween 48 57 ds → AllBetween 48 57 (ds ++ (48 + d) ∷ [])
digits_more ds d h k = AllBetween-append 48 57 ds ((48 + d) ∷ []) k (omega arith, omega arith, tt)

-- The digits of a number.
pub decimal_bytes : (n : ℕ) → n < 10 ^ 64 → AllBetween 48 57 (decimal n)
decimal_bytes n h = decimal_by_steps_wide (λ _ ds. AllBetween 48 57 ds) (λ m k. (omega arith, omega arith, tt)) (λ m ds k ih. digits_more ds (m % 10) (omega arith) ih) n h

-- Bytes from 48 to 57 are digits.
pub all_ascii_digits-between : (ds : List ℕ) → AllBetween 48 57 ds → all_ascii_digits ds ≡ true
all_ascii_digits-between [] h = refl
all_ascii_digits-between (d ∷ ds) h = and_from (is_ascii_digit d) (all_ascii_digits ds) (let p : 48 ≤ d = h.0 in let q : d ≤ 57 = h.1 in grind (arith, nat_tests)) (all_ascii_digits-between ds h.2)

some_bytes : (ds : List ℕ) → 0 < length ds → is_empty ds ≡ false
some_bytes [] h = absurd (omega arith)
some_bytes (d ∷ ds) h = refl

-- A number's digits are not empty.
pub decimal_some : (n : ℕ) → n < 10 ^ 64 → is_empty (decimal n) ≡ false
decimal_some n h = some_bytes (decimal n) (decimal_is_IsNumeral_wide n h).0.0

-- A number's digits are read as that number.
pub number_of-decimal : (n : ℕ) → n < 10 ^ 64 → number_of (decimal n) ≡ Some n
number_of-decimal n h =
    ap (λ (b : Bool). cond b (Some (digits_value 10 (decimal n))) None) (and_from (not (is_empty (decimal n))) (all_ascii_digits (decimal n)) (ap not (decimal_some n h)) (all_ascii_digits-between (decimal n) (decimal_bytes n h)))
    ∙ ap (λ (m : ℕ). let o : Option ℕ = Some m in o) (decimal_is_IsNumeral_wide n h).1

pub IsWord-decimal : (n : ℕ) → n < 10 ^ 64 → IsWord (decimal n)
IsWord-decimal n h = record { some = decimal_some n h; bytes = AllBetween-wider 48 57 33 126 (decimal n) (omega arith) (omega arith) (decimal_bytes n h) }

-- The test of bytes that are known.
abbrev pub all_between : ℕ → ℕ → List ℕ → Bool
all_between low high [] = true
all_between low high (b ∷ bs) = (nat_le low b && nat_le b high) && all_between low high bs

pub AllBetween-tested : (low high : ℕ) (bs : List ℕ) → all_between low high bs ≡ true → AllBetween low high bs
AllBetween-tested low high [] e = tt
AllBetween-tested low high (b ∷ bs) e =
    let p = and_parts (nat_le low b && nat_le b high) (all_between low high bs) e in
    let q = and_parts (nat_le low b) (nat_le b high) p.0 in
    (leb-true low b q.0, leb-true b high q.1, AllBetween-tested low high bs p.1)
