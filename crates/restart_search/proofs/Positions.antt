-- What a position has refuted: each level that has a vertex stands after a path, and each value refuted there is dead after it.

use Rattle.std.proofs.Common.{◌≡◌, ℕ, zero, suc, ◌<◌, ◌≤◌, Bool, true, false, List, [], ◌∷◌, ◌++◌, length, take, slice_index_or, Contains, Option, Some, None, IfSome, refl, sym, subst, arith, append_assoc, ◌⊎◌, inl, inr}
use Rattle.std.proofs.lemmas.Bool.{cases_lt}
use Rattle.std.proofs.lemmas.List.{append-nil}
use Rattle.graph_theory.specs.Graph.{size}
use Rattle.graph_theory.specs.Embedding.{Problem, Embeds}
use Rattle.graph_theory.specs.Path.{NotOn, IsPath, Extends, Dead}
use Rattle.graph_theory.specs.Neighbours.{members}
use Rattle.search_theory.specs.Account.{Account, Step, path, path_of, level_at, level_among, InRange, NotAmong, AllDead, LawfulSteps, LawfulLevel, Honest}
use Rattle.bit_rows.specs.BitRows.{has}
use Rattle.fail_account.proofs.Members.{members_off, off_members}
use Rattle.nogood_book.specs.Reaching.{MayStand}

-- ---- a level of the position

-- The level is one of this vertex after these pairs, where each of these values is dead.
pub record IsLevel (q : Problem) (above : List (ℕ × ℕ)) (p : ℕ) (us : List ℕ) : Type 0 where
  pub path_is : IsPath above
  pub in_range : InRange (size q.pattern) (size q.target) above
  pub off : NotOn above p
  pub vertex_in : p < size q.pattern
  pub dead : AllDead q above p us

is_path_front : (xs ys : List (ℕ × ℕ)) → IsPath (xs ++ ys) → IsPath xs
is_path_front [] ys h = tt
is_path_front (x ∷ xs) ys h = (front xs ys h.0, is_path_front xs ys h.1)
  where
    front : (ws zs : List (ℕ × ℕ)) → NotOn (ws ++ zs) x.0 → NotOn ws x.0
    front [] zs off = tt
    front (w ∷ ws) zs off = (off.0, front ws zs off.1)

in_range_front : (n m : ℕ) (xs ys : List (ℕ × ℕ)) → InRange n m (xs ++ ys) → InRange n m xs × InRange n m ys
in_range_front n m [] ys h = (tt, h)
in_range_front n m (x ∷ xs) ys h = let rest = in_range_front n m xs ys h.2 in ((h.0, h.1, rest.0), rest.1)

not_on_next : (xs : List (ℕ × ℕ)) (y : ℕ × ℕ) (ys : List (ℕ × ℕ)) → IsPath (xs ++ y ∷ ys) → NotOn xs y.0
not_on_next [] y ys h = tt
not_on_next (x ∷ xs) y ys h = (λ same. apart xs h.0 same, not_on_next xs y ys h.1)
  where
    apart : (ws : List (ℕ × ℕ)) → NotOn (ws ++ y ∷ ys) x.0 → x.0 ≡ y.0 → ⊥
    apart [] off same = off.0 (sym same)
    apart (w ∷ ws) off same = apart ws off.1 same

-- level i of levels after others
level_among_is : (q : Problem) (above : List (ℕ × ℕ)) (ss : List Step) (v : Option ℕ) (us : List ℕ) (i p : ℕ) → LawfulSteps q above ss
    → LawfulLevel q (above ++ path_of ss) v us → IsPath (above ++ path_of ss) → InRange (size q.pattern) (size q.target) (above ++ path_of ss)
    → IfSome v (λ r. (r < size q.pattern) × NotOn (above ++ path_of ss) r) → (level_among ss v us i).vertex ≡ Some p
    → (i ≤ length (path_of ss)) × IsLevel q (above ++ take i (path_of ss)) p (level_among ss v us i).refuted
level_among_is q above [] None us zero p steps level path_is range off is = absurd (clash is)
  where
    clash : None ≡ Some p → ⊥
    clash h = cc
level_among_is q above [] (Some r) us zero p steps level path_is range off is = (
  omega arith,
  record {
    path_is = path_is;
    in_range = range;
    off = subst (λ (x : ℕ). NotOn (above ++ []) x) same off.1;
    vertex_in = subst (λ (x : ℕ). x < size q.pattern) same off.0;
    dead = subst (λ (x : ℕ). AllDead q (above ++ []) x us) same level;
  },
)
  where
    same : r ≡ p
    same = cc
level_among_is q above [] v us (suc i) p steps level path_is range off is = absurd (clash is)
  where
    clash : None ≡ Some p → ⊥
    clash h = cc
level_among_is q above (s ∷ ss) v us zero p steps level path_is range off is = (
  omega arith,
  record {
    path_is = subst (λ (xs : List (ℕ × ℕ)). IsPath xs) (sym (append-nil above)) (is_path_front above (path_of (s ∷ ss)) path_is);
    in_range = subst (λ (xs : List (ℕ × ℕ)). InRange (size q.pattern) (size q.target) xs) (sym (append-nil above)) parts.0;
    off = subst (λ (xs : List (ℕ × ℕ)). NotOn xs p) (sym (append-nil above)) (subst (λ (x : ℕ). NotOn above x) same (not_on_next above (s.vertex, s.value) (path_of ss) path_is));
    vertex_in = subst (λ (x : ℕ). x < size q.pattern) same parts.1.0;
    dead = subst (λ (xs : List (ℕ × ℕ)). AllDead q xs p s.refuted) (sym (append-nil above)) (subst (λ (x : ℕ). AllDead q above x s.refuted) same steps.0);
  },
)
  where
    same : s.vertex ≡ p
    same = cc

    parts : InRange (size q.pattern) (size q.target) above × InRange (size q.pattern) (size q.target) (path_of (s ∷ ss))
    parts = in_range_front (size q.pattern) (size q.target) above (path_of (s ∷ ss)) range
level_among_is q above (s ∷ ss) v us (suc i) p steps level path_is range off is =
    let moved : (above ++ (s.vertex, s.value) ∷ []) ++ path_of ss ≡ above ++ path_of (s ∷ ss) = append_assoc above ((s.vertex, s.value) ∷ []) (path_of ss) in
    let rest = level_among_is q (above ++ (s.vertex, s.value) ∷ []) ss v us i p steps.1
    (subst (λ (xs : List (ℕ × ℕ)). LawfulLevel q xs v us) (sym moved) level)
    (subst (λ (xs : List (ℕ × ℕ)). IsPath xs) (sym moved) path_is)
    (subst (λ (xs : List (ℕ × ℕ)). InRange (size q.pattern) (size q.target) xs) (sym moved) range)
    (subst (λ (xs : List (ℕ × ℕ)). IfSome v (λ r. (r < size q.pattern) × NotOn xs r)) (sym moved) off) is in (
      omega (arith, rest.0),
      subst (λ (xs : List (ℕ × ℕ)). IsLevel q xs p (level_among ss v us i).refuted) (append_assoc above ((s.vertex, s.value) ∷ []) (take i (path_of ss))) rest.1,
    )

-- level i of an account
pub level_is : (q : Problem) (a : Account) (i p : ℕ) → Honest q a → IsPath (path a) → InRange a.pattern a.target (path a)
    → IfSome a.vertex (λ r. (r < a.pattern) × NotOn (path a) r) → (level_at a i).vertex ≡ Some p
    → (i ≤ length (path a)) × IsLevel q (take i (path a)) p (level_at a i).refuted
level_is q a i p honest path_is range off is =
    level_among_is q [] a.steps a.vertex a.refuted i p honest.lawful.steps honest.lawful.level path_is
    (subst (λ (n : ℕ). InRange n (size q.target) (path a)) honest.pattern_is (subst (λ (m : ℕ). InRange a.pattern m (path a)) honest.target_is range))
    (subst (λ (n : ℕ). IfSome a.vertex (λ r. (r < n) × NotOn (path a) r)) honest.pattern_is off) is

-- ---- its refuted values

-- each of them is dead
not_among_dead : (q : Problem) (above : List (ℕ × ℕ)) (p t : ℕ) (us : List ℕ) (m : List ℕ) → AllDead q above p us → Embeds q m → Extends (above ++ (p, t) ∷ []) m → NotAmong us t
not_among_dead q above p t [] m dead e x = tt
not_among_dead q above p t (u ∷ us) m dead e x =
    (λ same. dead.0 m e (subst (λ (v : ℕ). Extends (above ++ (p, v) ∷ []) m) (sym same) x), not_among_dead q above p t us m dead.1 e x)

-- a refuted value is dead with the path above it, and is a target vertex
pub refuted_dead : (q : Problem) (above : List (ℕ × ℕ)) (p t n : ℕ) (us row : List ℕ) → IsLevel q above p us → members (has row) n ≡ us → n ≡ size q.target
    → ((u : ℕ) → n ≤ u → has row u ≡ false) → has row t ≡ true → (t < size q.target) × Dead q (above ++ (p, t) ∷ [])
refuted_dead q above p t n us row level is target past here = (
  subst (λ (k : ℕ). t < k) target t_in,
  dead_among us level.dead (λ off. clash (has row t) here (members_off (has row) n t t_in (subst (λ (xs : List ℕ). NotAmong xs t) (sym is) off))),
)
  where
    clash : (b : Bool) → b ≡ true → b ≡ false → ⊥
    clash true f g = cc
    clash false f g = cc

    by_place : (t < n) ⊎ (n ≤ t) → t < n
    by_place (inl within) = within
    by_place (inr out) = absurd (clash (has row t) here (past t out))

    t_in : t < n
    t_in = by_place (cases_lt t n)

    dead_among : (vs : List ℕ) → AllDead q above p vs → (NotAmong vs t → ⊥) → Dead q (above ++ (p, t) ∷ [])
    dead_among vs dead some = λ m e x. some (not_among_dead q above p t vs m dead e x)

-- a number that is none of the members of a list is not contained in it
among_not : (us : List ℕ) (t k : ℕ) → NotAmong us t → k < length us → slice_index_or us k t ≡ t → ⊥
among_not [] t k off k_in is = absurd (omega arith)
among_not (u ∷ us) t zero off k_in is = off.0 is
among_not (u ∷ us) t (suc k) off k_in is = among_not us t k off.1 (omega arith) is

-- a number among the members passes the test
pub member_passes : (f : ℕ → Bool) (n t : ℕ) (us : List ℕ) → members f n ≡ us → Contains us t → f t ≡ true
member_passes f n t us is among = by_test (f t) refl
  where
    by_test : (b : Bool) → f t ≡ b → f t ≡ true
    by_test true e = e
    by_test false e = absurd (among_not us t among.0 (subst (λ (vs : List ℕ). NotAmong vs t) is (off_members f n t e)) among.1 among.2)

-- ---- the guesses

-- a pair of a path may stand behind those before it
pub may_stand_at : (q : Problem) (xs : List (ℕ × ℕ)) (k : ℕ) (d : ℕ × ℕ) → IsPath xs → InRange (size q.pattern) (size q.target) xs → k < length xs → MayStand q (take k xs) (slice_index_or xs k d)
may_stand_at q xs k d path_is range k_in = behind [] xs k path_is range k_in
  where
    behind : (above ys : List (ℕ × ℕ)) (i : ℕ) → IsPath (above ++ ys) → InRange (size q.pattern) (size q.target) (above ++ ys) → i < length ys → MayStand q (above ++ take i ys) (slice_index_or ys i d)
    behind above [] i is rs i_in = absurd (omega arith)
    behind above (y ∷ ys) zero is rs i_in =
        let parts = in_range_front (size q.pattern) (size q.target) above (y ∷ ys) rs in
        subst (λ (zs : List (ℕ × ℕ)). MayStand q zs y) (sym (append-nil above)) (record { fresh = not_on_next above y ys is; vertex = parts.1.0; value = parts.1.1 })
    behind above (y ∷ ys) (suc i) is rs i_in =
        subst (λ (zs : List (ℕ × ℕ)). MayStand q zs (slice_index_or ys i d)) (append_assoc above (y ∷ []) (take i ys))
        (behind (above ++ y ∷ []) ys i (subst (λ (zs : List (ℕ × ℕ)). IsPath zs) (sym (append_assoc above (y ∷ []) ys)) is)
        (subst (λ (zs : List (ℕ × ℕ)). InRange (size q.pattern) (size q.target) zs) (sym (append_assoc above (y ∷ []) ys)) rs) (omega arith))
