-- Operations whose numbers are in their ranges, and that name no row.
use Rattle.std.proofs.Common.{◌≡◌, ℕ, zero, suc, ◌+◌, ◌*◌, ◌^◌, ◌≤◌, ◌<◌, nat_lt, nat_le, Bool, true, false, not, ◌&&◌, cond, List, [], ◌∷◌, ◌++◌, length, refl, ap, arith, Option, Some, None, length-append, subst}
use Rattle.std.specs.Prelude.{slice_get}
use Rattle.std.proofs.lemmas.Bool.{lt-ltb, le-leb}
use native.Mathlib.Nat.{suc-mul, mul-le-mul_right}
use Rattle.graph_theory.specs.Graph.{size}
use Rattle.graph_theory.specs.Embedding.{Problem, is_injective}
use Rattle.graph_theory.specs.Blocks.{has_block_in, has_block}
use Rattle.graph_theory.specs.declared.embedding.Maps.{Maps}
use Rattle.graph_theory.specs.declared.embedding.Maps.TheVariants.{Injective, Local, Any}
use Rattle.graph_theory.specs.Neighbours.{count, is_neighbour}
use Rattle.proof_theory.specs.Forms.{Form}
use Rattle.log_theory.specs.declared.step.Name.{Name}
use Rattle.log_theory.specs.declared.step.Ref.{Ref}
use Rattle.log_theory.specs.declared.step.Ref.TheVariants.{Line, Made, Shared}
use Rattle.log_theory.specs.declared.step.Op.{Op}
use Rattle.log_theory.specs.declared.step.Op.TheVariants.{Push, Axiom, Add, Times, Divide, Saturate}
use Rattle.log_theory.specs.LogText.{IsName, IsRef, AreOps, AreLiterals}
use Rattle.log_theory.specs.Lookups.{variables_of}
use Rattle.log_theory.specs.Verdicts.{in_range, axiom_variables}
use Rattle.journal_theory.specs.Referring.{op_refs, NamesRow}
use Rattle.encoding_theory.specs.Variables.{variable, variables, collect, when}
use Rattle.encoding_theory.specs.Pairs.{is_edge_pair, is_non_edge_pair}
use Rattle.encoding_theory.specs.Encoding.{encoding}
use Rattle.encoding_theory.specs.Places.{at_least_place, at_most_place, at_most_place_in, edge_place, non_edge_place}
use Rattle.encoding_theory.proofs.PlaceProofs.{place_laws}
use Rattle.pair_line_theory.specs.Operations.{adds_where}
use Rattle.pb_encoding.proofs.LineNumbers.{encoding_few}
use Rattle.pair_line_theory.specs.Rows.{at_least_line, at_most_line, block_line, target_line, edge_line, non_edge_line, is_shared, there, spread_ops, not_both, two_ops, around_ops, weight}
use Rattle.pair_lines.specs.declared.meeting.Meeting.{Meeting}
use Rattle.pair_lines.specs.declared.meeting.Meeting.TheVariants.{Never, Around, May}
use Rattle.pair_lines.specs.declared.sharing.Sharing.{Sharing}
use Rattle.pair_lines.specs.declared.sharing.Sharing.TheVariants.{Nothing, One, Many}
use Rattle.pair_lines.specs.Choices.{IsWithin, IsSharing, IsMeeting, own_line, entry_at, pair_key, pair_name, name_or_none, spread_ref, begin_of, counted_ops, alone_line, own_ops, plain_ops, row_ops}
use Rattle.pair_lines.proofs.Pairs.{shared_first, shared_second}

-- ---- operations

abbrev pub IsGoodRef : Ref → Type 0
IsGoodRef (Line k) = k < 2 ^ 63
IsGoodRef (Made n) = IsName n
IsGoodRef (Shared k) = ⊥

abbrev pub IsGood : ℕ → Op → Type 0
IsGood n (Push r) = IsGoodRef r
IsGood n (Axiom l) = (0 < l.variable) × (l.variable ≤ n) × (l.variable < 2 ^ 32)
IsGood n (Times k) = k < 2 ^ 63
IsGood n (Divide k) = k < 2 ^ 63
IsGood n Add = Unit {0}
IsGood n Saturate = Unit {0}

abbrev pub AreGood : ℕ → List Op → Type 0
AreGood n [] = Unit {0}
AreGood n (o ∷ os) = IsGood n o × AreGood n os

pub good_ref : (r : Ref) → IsGoodRef r → IsRef r
good_ref (Line k) good = good
good_ref (Made n) good = good
good_ref (Shared k) good = absurd good

pub good_ops : (n : ℕ) (ops : List Op) → AreGood n ops → AreOps ops
good_ops n [] good = tt
good_ops n (Push r ∷ os) good = (good_ref r good.0, good_ops n os good.1)
good_ops n (Axiom l ∷ os) good = (good.0.2, good_ops n os good.1)
good_ops n (Add ∷ os) good = (tt, good_ops n os good.1)
good_ops n (Times k ∷ os) good = (good.0, good_ops n os good.1)
good_ops n (Divide k ∷ os) good = (good.0, good_ops n os good.1)
good_ops n (Saturate ∷ os) good = (tt, good_ops n os good.1)

pub good_rows : (n : ℕ) (ops : List Op) → AreGood n ops → (k : ℕ) → NamesRow (op_refs ops) k → ⊥
good_rows n [] good k names = names
good_rows n (Push (Line i) ∷ os) good k names = good_rows n os good.1 k names
good_rows n (Push (Made i) ∷ os) good k names = good_rows n os good.1 k names
good_rows n (Push (Shared i) ∷ os) good k names = good.0
good_rows n (Axiom l ∷ os) good k names = good_rows n os good.1 k names
good_rows n (Add ∷ os) good k names = good_rows n os good.1 k names
good_rows n (Times i ∷ os) good k names = good_rows n os good.1 k names
good_rows n (Divide i ∷ os) good k names = good_rows n os good.1 k names
good_rows n (Saturate ∷ os) good k names = good_rows n os good.1 k names

pub three : (a b c : Bool) → a ≡ true → b ≡ true → c ≡ true → (a && b && c) ≡ true
three true true true e f g = refl
three false b c e f g = absurd cc
three true false c e f g = absurd cc
three true true false e f g = absurd cc

pub good_range : (n : ℕ) (ops : List Op) → AreGood n ops → in_range n (axiom_variables ops) ≡ true
good_range n [] good = refl
good_range n (Push r ∷ os) good = good_range n os good.1
good_range n (Axiom l ∷ os) good = three (nat_lt 0 l.variable) (nat_le l.variable n) (in_range n (axiom_variables os)) (lt-ltb 0 l.variable good.0.0) (le-leb l.variable n good.0.1) (good_range n os good.1)
good_range n (Add ∷ os) good = good_range n os good.1
good_range n (Times k ∷ os) good = good_range n os good.1
good_range n (Divide k ∷ os) good = good_range n os good.1
good_range n (Saturate ∷ os) good = good_range n os good.1

good_append : (n : ℕ) (xs ys : List Op) → AreGood n xs → AreGood n ys → AreGood n (xs ++ ys)
good_append n [] ys g h = h
good_append n (x ∷ xs) ys g h = (g.0, good_append n xs ys g.1 h)

good_where : (n : ℕ) (test : ℕ → Bool) (put : ℕ → Op) (m : ℕ) → ((i : ℕ) → i < m → test i ≡ true → IsGood n (put i)) → AreGood n (adds_where test put m)
good_where n test put zero each = tt
good_where n test put (suc m) each = good_append n (adds_where test put m) (when (test m) (put m ∷ Add ∷ [])) (good_where n test put m (λ i low is. each i (omega (arith, low)) is)) (by (test m) refl)
  where
    by : (b : Bool) → test m ≡ b → AreGood n (when b (put m ∷ Add ∷ []))
    by true is = (each m (omega arith) is, (tt, tt))
    by false is = tt

-- ---- numbers of lines

length_collect : {X : Type 0} (f : ℕ → List X) (n b : ℕ) → ((i : ℕ) → length (f i) ≤ b) → length (collect f n) ≤ n * b
length_collect f zero b each = omega arith
length_collect f (suc n) b each =
    let e = length-append (collect f n) (f n) in
    let h = length_collect f n b each in
    let l = each n in
    let s = suc-mul n b in
    omega (arith, e, h, l, s)

length_when : {X : Type 0} (b : Bool) (xs : List X) → length (when b xs) ≤ length xs
length_when true xs = omega arith
length_when false xs = omega arith

pub count_few : (f : ℕ → Bool) (n : ℕ) → count f n ≤ n
count_few f zero = omega arith
count_few f (suc n) = let h = count_few f n in let one = by (f n) in omega (arith, h, one)
  where
    by : (b : Bool) → let P : ℕ → Type 0 = λ x. x ≤ 1 in P (cond b 1 0)
    by true = omega arith
    by false = omega arith

get_below : {X : Type 0} (xs : List X) (k : ℕ) (x : X) → slice_get xs k ≡ Some x → k < length xs
get_below [] k x e = absurd cc
get_below (y ∷ xs) zero x e = omega arith
get_below (y ∷ xs) (suc k) x e = let h = get_below xs k x e in omega (arith, h)

-- By injective maps the block of all vertices is there.
whole_in : (k : Maps) (q : Problem) → q.maps ≡ k → is_injective k ≡ true → has_block q None ≡ true
whole_in Injective q same is = ap (λ (j : Maps). has_block_in j q.pattern None) same
whole_in Local q same is = absurd cc
whole_in Any q same is = absurd cc

pub whole_there : (q : Problem) → is_injective q.maps ≡ true → has_block q None ≡ true
whole_there q is = whole_in q.maps q refl is

module _ (q : Problem) (plain : IsWithin q) where
  good_line : (k : ℕ) (f : Form) → slice_get (encoding q) k ≡ Some f → k + 1 < 2 ^ 63
  good_line k f at = let below = get_below (encoding q) k f at in let few = encoding_few q plain.limits.vertices_few plain.limits.targets_few plain.order in omega (arith, below, few)

  pub good_least : (r : ℕ) → r < size q.pattern → IsGoodRef (at_least_line q r)
  good_least r r_in = good_line (at_least_place q r) _ ((place_laws q).at_least r r_in)

  pub good_most : (r : ℕ) → r < size q.pattern → IsGoodRef (at_most_line q r)
  good_most r r_in = good_line (at_most_place q r) _ ((place_laws q).at_most r r_in)

  good_block : (b : Option ℕ) (t : ℕ) → has_block q b ≡ true → t < size q.target → IsGoodRef (block_line q b t)
  good_block b t there t_in = good_line (at_most_place_in q b t) _ ((place_laws q).at_most_in b t there t_in)

  pub good_target : (t : ℕ) → is_injective q.maps ≡ true → t < size q.target → IsGoodRef (target_line q t)
  good_target t is t_in = good_block None t (whole_there q is) t_in

  good_edge : (p r t : ℕ) → p < size q.pattern → r < size q.pattern → t < size q.target → is_edge_pair q p r ≡ true → IsGoodRef (edge_line q p r t)
  good_edge p r t p_in r_in t_in is = good_line (edge_place q p r t) _ ((place_laws q).edge p r t p_in r_in t_in is)

  good_non_edge : (p r t : ℕ) → p < size q.pattern → r < size q.pattern → t < size q.target → is_non_edge_pair q p r ≡ true → IsGoodRef (non_edge_line q p r t)
  good_non_edge p r t p_in r_in t_in is = good_line (non_edge_place q p r t) _ ((place_laws q).non_edge p r t p_in r_in t_in is)

  pub good_there : (w v : ℕ) → w < size q.target → v < size q.pattern → IsGood (variables q) (Axiom (there q w v))
  good_there w v w_in v_in =
      let row = mul-le-mul_right {m = suc v} {n = size q.pattern} (size q.target) (omega (arith, v_in)) in
      let next = suc-mul v (size q.target) in
      let most = mul-le-mul_right {m = size q.pattern} {n = 1024} (size q.target) plain.limits.vertices_few in
      let few = plain.limits.targets_few in
      (omega arith, omega (arith, row, next, w_in), omega (arith, row, next, w_in, most, few))

  pub good_spread_ops : (p r w less : ℕ) → is_injective q.maps ≡ true → p < size q.pattern → r < size q.pattern → w < size q.target → less ≤ 65536 → AreGood (variables q) (spread_ops q p r w less)
  good_spread_ops p r w less apart p_in r_in w_in few =
      good_append (variables q) (Push (target_line q w) ∷ adds_where (λ v. not (is_shared q.pattern p r v)) (λ v. Axiom (there q w v)) (size q.pattern)) _
      (good_target w apart w_in, good_where (variables q) (λ v. not (is_shared q.pattern p r v)) (λ v. Axiom (there q w v)) (size q.pattern) (λ v v_in is. good_there w v w_in v_in))
      (good_append (variables q) (Times less ∷ adds_where (is_shared q.pattern p r) (λ m. Push (edge_line q m r w)) (size q.pattern)) (Divide (less + 1) ∷ [])
      (omega (arith, few), good_where (variables q) (is_shared q.pattern p r) (λ m. Push (edge_line q m r w)) (size q.pattern) (λ m m_in is. good_edge m r w m_in r_in w_in (shared_second q p r m is)))
      (omega (arith, few), tt))

  pub good_two_ops : (n : Name) (p r w : ℕ) → IsName n → r < size q.pattern → w < size q.target → AreGood (variables q) (two_ops q (Made n) p r w)
  good_two_ops n p r w name r_in w_in = (
    name,
    good_append (variables q) (adds_where (is_shared q.pattern p r) (λ m. Push (edge_line q m r w)) (size q.pattern)) (Divide 2 ∷ [])
        (good_where (variables q) (is_shared q.pattern p r) (λ m. Push (edge_line q m r w)) (size q.pattern) (λ m m_in is. good_edge m r w m_in r_in w_in (shared_second q p r m is))) (omega arith, tt),
  )

  -- A clause's literals, as good as axioms of them.
  pub good_not_both : (m n w : ℕ) → m < size q.pattern → n < size q.pattern → w < size q.target → AreLiterals (not_both q m n w) × (in_range (variables q) (variables_of (not_both q m n w)) ≡ true)
  good_not_both m n w m_in n_in w_in =
      let a = good_there w m w_in m_in in
      let b = good_there w n w_in n_in in (
        (a.2, (b.2, tt)),
        three (nat_lt 0 (variable q m w)) (nat_le (variable q m w) (variables q)) (in_range (variables q) (variable q n w ∷ [])) (lt-ltb 0 (variable q m w) a.0) (le-leb (variable q m w) (variables q) a.1)
            (three (nat_lt 0 (variable q n w)) (nat_le (variable q n w) (variables q)) true (lt-ltb 0 (variable q n w) b.0) (le-leb (variable q n w) (variables q) b.1) refl),
      )

  -- The references of a line for two vertices: its own, and those that count at neighbours.
  abbrev IsGoodOwn : Option Ref → Type 0
  IsGoodOwn None = Unit {0}
  IsGoodOwn (Some r) = IsGoodRef r

  good_own : (p r t : ℕ) → p < size q.pattern → r < size q.pattern → t < size q.target → IsGoodOwn (own_line q p r t)
  good_own p r t p_in r_in t_in = by (is_edge_pair q p r) refl (is_non_edge_pair q p r) refl
    where
      by : (b : Bool) → is_edge_pair q p r ≡ b → (c : Bool) → is_non_edge_pair q p r ≡ c → IsGoodOwn (cond b (Some (edge_line q p r t)) (cond c (Some (non_edge_line q p r t)) None))
      by true is c other = good_edge p r t p_in r_in t_in is
      by false unjoined true is = good_non_edge p r t p_in r_in t_in is
      by false unjoined false none = tt

  good_spread_ref : (names : List (ℕ × Name)) → ((k : ℕ) (n : Name) → entry_at names k ≡ Some n → IsName n) → (sharing : Sharing) (p r w : ℕ) → IsSharing q p r sharing → p < size q.pattern → r < size q.pattern → w < size q.target
      → IsGoodRef (spread_ref q names sharing p r w)
  good_spread_ref names fit Nothing p r w sharing p_in r_in w_in = omega arith
  good_spread_ref names fit (One m) p r w sharing p_in r_in w_in = good_edge m r w sharing.1 r_in w_in (shared_second q p r m sharing.2)
  good_spread_ref names fit (Many c) p r w sharing p_in r_in w_in = by (pair_name names p r w) refl
    where
      by : (o : Option Name) → pair_name names p r w ≡ o → IsGoodRef (name_or_none o)
      by (Some n) is = fit (pair_key p r w) n is
      by None is = omega arith

  good_weight : (t : ℕ) → weight q t < 2 ^ 63
  good_weight t = let d = count_few (is_neighbour q.target t) (size q.target) in let few = plain.limits.targets_few in omega (arith, d, few)

  good_begin : (own : Option Ref) (t r : ℕ) → is_injective q.maps ≡ true → IsGoodOwn own → r < size q.pattern → t < size q.target → AreGood (variables q) (begin_of q own t r)
  good_begin (Some own) t r apart good r_in t_in = (good_most r r_in, (omega arith, (good, (tt, (good_weight t, tt)))))
  good_begin None t r apart good r_in t_in = (good_most r r_in, (good_target t apart t_in, (tt, (good_weight t, tt))))

  good_counted : (names : List (ℕ × Name)) → ((k : ℕ) (n : Name) → entry_at names k ≡ Some n → IsName n) → (sharing : Sharing) (own : Option Ref) (p t r : ℕ) → is_injective q.maps ≡ true → IsSharing q p r sharing → IsGoodOwn own
      → p < size q.pattern → t < size q.target → r < size q.pattern → AreGood (variables q) (counted_ops q names sharing own p t r)
  good_counted names fit sharing own p t r apart shares good p_in t_in r_in = by own (good_append (variables q) (begin_of q own t r) (around_ops q (spread_ref q names sharing p r) p t r) (good_begin own t r apart good r_in t_in)
      (good_append (variables q) (adds_where (is_shared q.pattern p r) (λ m. Push (edge_line q p m t)) (size q.pattern)) _
      (good_where (variables q) (is_shared q.pattern p r) (λ m. Push (edge_line q p m t)) (size q.pattern) (λ m m_in is. good_edge p m t p_in m_in t_in (shared_first q p r m is)))
      (good_where (variables q) (is_neighbour q.target t) (λ w. Push (spread_ref q names sharing p r w)) (size q.target) (λ w w_in is. good_spread_ref names fit sharing p r w shares p_in r_in w_in))))
    where
      by : (o : Option Ref) → AreGood (variables q) (begin_of q o t r ++ around_ops q (spread_ref q names sharing p r) p t r) → AreGood (variables q) (counted_ops q names sharing o p t r)
      by (Some o) h = h
      by None h = h

  good_alone : (meeting : Meeting) (p t r : ℕ) → IsMeeting q p r meeting → t < size q.target → r < size q.pattern → IsGoodRef (alone_line q meeting t r)
  good_alone Never p t r meets t_in r_in = good_target t meets t_in
  good_alone (Around c) p t r meets t_in r_in = good_block (Some c) t meets.0 t_in
  good_alone May p t r meets t_in r_in = good_most r r_in

  -- The line of the encoding that serves.
  pub good_served : (meeting : Meeting) (p t r : ℕ) → IsMeeting q p r meeting → t < size q.target → r < size q.pattern → IsRef (alone_line q meeting t r)
  good_served meeting p t r meets t_in r_in = good_ref (alone_line q meeting t r) (good_alone meeting p t r meets t_in r_in)

  good_own_ops : (meeting : Meeting) (own : Ref) (p t r : ℕ) → IsMeeting q p r meeting → IsGoodRef own → t < size q.target → r < size q.pattern → AreGood (variables q) (own_ops q meeting own t r)
  good_own_ops Never own p t r meets good t_in r_in = (good, (good_most r r_in, (tt, tt)))
  good_own_ops (Around c) own p t r meets good t_in r_in = (good, (good_most r r_in, (tt, (good_block (Some c) t meets.0 t_in, (tt, tt)))))
  good_own_ops May own p t r meets good t_in r_in = (good, (good_most r r_in, (tt, tt)))

  good_plain : (meeting : Meeting) (own : Option Ref) (p t r : ℕ) → IsMeeting q p r meeting → IsGoodOwn own → t < size q.target → r < size q.pattern → AreGood (variables q) (plain_ops q meeting own t r)
  good_plain meeting (Some own) p t r meets good t_in r_in = good_own_ops meeting own p t r meets good t_in r_in
  good_plain meeting None p t r meets good t_in r_in = (good_alone meeting p t r meets t_in r_in, tt)

  -- The pair's own line, with that of r.
  pub good_own_row : (meeting : Meeting) (own : Ref) (p r t : ℕ) → IsMeeting q p r meeting → p < size q.pattern → r < size q.pattern → t < size q.target → own_line q p r t ≡ Some own → AreGood (variables q) (own_ops q meeting own t r)
  good_own_row meeting own p r t meets p_in r_in t_in mine = good_own_ops meeting own p t r meets (subst (λ (o : Option Ref). IsGoodOwn o) mine (good_own p r t p_in r_in t_in)) t_in r_in

  pub good_row_ops : (names : List (ℕ × Name)) → ((k : ℕ) (n : Name) → entry_at names k ≡ Some n → IsName n) → (sharing : Sharing) (meeting : Meeting) (p t r : ℕ) → IsSharing q p r sharing → IsMeeting q p r meeting
      → p < size q.pattern → t < size q.target → r < size q.pattern → AreGood (variables q) (row_ops q names sharing meeting (own_line q p r t) p t r)
  good_row_ops names fit Nothing meeting p t r shares meets p_in t_in r_in = good_plain meeting (own_line q p r t) p t r meets (good_own p r t p_in r_in t_in) t_in r_in
  good_row_ops names fit (One m) meeting p t r shares meets p_in t_in r_in = good_counted names fit (One m) (own_line q p r t) p t r shares.3 shares (good_own p r t p_in r_in t_in) p_in t_in r_in
  good_row_ops names fit (Many c) meeting p t r shares meets p_in t_in r_in = good_counted names fit (Many c) (own_line q p r t) p t r shares.2 shares (good_own p r t p_in r_in t_in) p_in t_in r_in
