-- What a visit finds when it begins, and what it leaves, in the words of the code.
use Rattle.std.proofs.Common.{◌≡◌, ℕ, ◌+◌, ◌-◌, ◌*◌, ◌/◌, ◌<◌, true, false, List, [], ◌∷◌, ◌++◌, length, set, sym, ap, ◌∙◌, subst, arith}
use Rattle.std.proofs.Math.ListN.{get_or-map}
use Rattle.std.proofs.lemmas.Nat.{mul-add-lt}
use Rattle.std.proofs.Math.Nat.{mul_comm}
use Rattle.domain_bits.specs.Removals as removals
use Rattle.nogood_watch.specs.declared.watched.Entry.{Entry}
use Rattle.nogood_watch.specs.Lists.{Chained, moved}
use Rattle.nogood_watch.specs.Nogoods.{Nogood, literal, partner, nogood, nogood_of, AreLiterals, AreWatches}
use Rattle.nogood_watch.specs.Inside.{cell, entry, nogood_at, nogoods_of}
use Rattle.nogood_watch.specs.Walking.{NoneFree, IsFreeLiteral, Ready, Visited}
use Rattle.nogood_watch.proofs.Visits.{partner_in, half_in, visited_left, visited_free, visited_forced}

pub nogood_is : (literals : List (ℕ × ℕ)) (entries : List Entry) (i : ℕ) → nogood (nogoods_of literals entries) i ≡ nogood_at literals (entry entries i)
nogood_is literals entries i = get_or-map (nogood_at literals) entries i (record { start = 0; end = 0; name = 0 })

-- the place of a literal is one of the lists
pub cell_below : (vertices values : ℕ) (l : ℕ × ℕ) → l.0 < vertices → l.1 < values → cell values l < vertices * values
cell_below vertices values l h k = omega (arith, mul-add-lt l.0 values l.1 vertices h k, mul_comm values vertices)

pub cell_in : (vertices values v m : ℕ) (l : ℕ × ℕ) → v ≡ values → m ≡ vertices * values + 1 → l.0 < vertices → l.1 < values → cell v l < m
cell_in vertices values v m l e f h k = rw e (omega (arith, cell_below vertices values l h k, f))

pub literal_in : (vertices values : ℕ) (xs : List (ℕ × ℕ)) (k : ℕ) (l : ℕ × ℕ) → AreLiterals vertices values xs → k < length xs → literal xs k ≡ l → (l.0 < vertices) × (l.1 < values)
literal_in vertices values xs k l a h e = (subst (λ (x : ℕ × ℕ). x.0 < vertices) e (a.vertex k h), subst (λ (x : ℕ × ℕ). x.1 < values) e (a.value k h))

-- a watch is a vertex and a value
pub watch_in : (vertices values : ℕ) (nogoods : List Nogood) (w : List (ℕ × ℕ)) (x : ℕ) → ((i : ℕ) → i < length nogoods → AreLiterals vertices values (nogood nogoods i).literals)
    → AreWatches nogoods w → x < length w → ((literal w x).0 < vertices) × ((literal w x).1 < values)
watch_in vertices values nogoods w x are a h =
    let o = a.of x h in
    literal_in vertices values (nogood_of nogoods x).literals o.0 (literal w x) (are (x / 2) (half_in x (length w) (length nogoods) a.two h)) o.1 o.2

pub ready_literals : (d : removals.State) (literals : List (ℕ × ℕ)) (entries : List Entry) (w : List (ℕ × ℕ)) (heads next : List ℕ) (x : ℕ)
    → Ready d (nogoods_of literals entries) w heads next x → AreLiterals d.vertices d.values (nogood_at literals (entry entries (x / 2))).literals
ready_literals d literals entries w heads next x r =
    subst (λ (n : Nogood). AreLiterals d.vertices d.values n.literals) (nogood_is literals entries (x / 2))
    (r.literals_are (x / 2) (half_in x (length w) (length (nogoods_of literals entries)) r.watches_are.two r.x_in))

-- a visited watch is a vertex and a value, and so is its other one
pub ready_own : (d : removals.State) (nogoods : List Nogood) (w : List (ℕ × ℕ)) (heads next : List ℕ) (x : ℕ) → Ready d nogoods w heads next x → ((literal w x).0 < d.vertices) × ((literal w x).1 < d.values)
ready_own d nogoods w heads next x r = watch_in d.vertices d.values nogoods w x r.literals_are r.watches_are r.x_in

pub ready_other : (d : removals.State) (nogoods : List Nogood) (w : List (ℕ × ℕ)) (heads next : List ℕ) (x y : ℕ) → Ready d nogoods w heads next x → y ≡ partner x
    → ((literal w y).0 < d.vertices) × ((literal w y).1 < d.values)
ready_other d nogoods w heads next x y r e =
    rw e (watch_in d.vertices d.values nogoods w (partner x) r.literals_are r.watches_are (partner_in x (length w) (length nogoods) r.watches_are.two r.x_in))

-- ---- the three ends

pub ready_left : (d : removals.State) (nogoods : List Nogood) (w : List (ℕ × ℕ)) (heads next : List ℕ) (forced : List (ℕ × ℕ × ℕ)) (x y : ℕ)
    → Ready d nogoods w heads next x → y ≡ partner x → removals.in_domain d (literal w y).0 (literal w y).1 ≡ false → Visited d nogoods w w forced forced x
ready_left d nogoods w heads next forced x y r e gone =
    visited_left d nogoods w forced x r.watches_are (subst (λ k. removals.in_domain d (literal w k).0 (literal w k).1 ≡ false) e gone)

pub ready_free : (d : removals.State) (literals : List (ℕ × ℕ)) (entries : List Entry) (w w' : List (ℕ × ℕ)) (heads next : List ℕ) (forced : List (ℕ × ℕ × ℕ)) (x y : ℕ) (to : ℕ × ℕ)
    → Ready d (nogoods_of literals entries) w heads next x → y ≡ partner x → w' ≡ set w x to
    → IsFreeLiteral d (nogood_at literals (entry entries (x / 2))).literals (literal w x).0 (literal w y).0 to
    → Visited d (nogoods_of literals entries) w w' forced forced x
ready_free d literals entries w w' heads next forced x y to r e ew free =
    rw ew (visited_free d (nogoods_of literals entries) w forced x to r.watches_are r.x_in r.assigned
    (subst (λ (n : Nogood). IsFreeLiteral d n.literals (literal w x).0 (literal w (partner x)).0 to) (sym (nogood_is literals entries (x / 2)))
    (subst (λ k. IsFreeLiteral d (nogood_at literals (entry entries (x / 2))).literals (literal w x).0 (literal w k).0 to) e free)))

pub ready_forced : (d : removals.State) (literals : List (ℕ × ℕ)) (entries : List Entry) (w : List (ℕ × ℕ)) (heads next : List ℕ) (forced forced' : List (ℕ × ℕ × ℕ)) (x y : ℕ)
    → Ready d (nogoods_of literals entries) w heads next x → y ≡ partner x → removals.in_domain d (literal w y).0 (literal w y).1 ≡ true
    → NoneFree d (nogood_at literals (entry entries (x / 2))).literals (literal w x).0 (literal w y).0
    → forced' ≡ forced ++ ((literal w y).0, (literal w y).1, (entry entries (x / 2)).name) ∷ []
    → Visited d (nogoods_of literals entries) w w forced forced' x
ready_forced d literals entries w heads next forced forced' x y r e here none ef =
    let same = sym (nogood_is literals entries (x / 2)) in
    let named = ap (λ (n : Nogood). n.name) same in
    rw ef (subst (λ k. Visited d (nogoods_of literals entries) w w forced (forced ++ ((literal w k).0, (literal w k).1, (entry entries (x / 2)).name) ∷ []) x) (sym e)
    (subst (λ k. Visited d (nogoods_of literals entries) w w forced (forced ++ ((literal w (partner x)).0, (literal w (partner x)).1, k) ∷ []) x) (sym named)
    (visited_forced d (nogoods_of literals entries) w forced x r.watches_are r.x_in
    (r.literals_are (x / 2) (half_in x (length w) (length (nogoods_of literals entries)) r.watches_are.two r.x_in)) r.assigned
    (subst (λ k. removals.in_domain d (literal w k).0 (literal w k).1 ≡ true) e here)
    (subst (λ (n : Nogood). NoneFree d n.literals (literal w x).0 (literal w (partner x)).0) same
    (subst (λ k. NoneFree d (nogood_at literals (entry entries (x / 2))).literals (literal w x).0 (literal w k).0) e none)))))

-- ---- where it is at home then

pub ready_home : (d : removals.State) (w : List (ℕ × ℕ)) (heads next heads' next' : List ℕ) (x at hand v : ℕ) (l : ℕ × ℕ)
    → length heads ≡ d.vertices * d.values + 1 → hand ≡ length heads - 1 → v ≡ d.values → at ≡ cell v l → literal w x ≡ l
    → ((home : ℕ → ℕ) → Chained home heads next → home x ≡ hand → Chained (moved home x at) heads' next')
    → (home : ℕ → ℕ) → Chained home heads next → home x ≡ d.vertices * d.values → Chained (moved home x (cell d.values (literal w x))) heads' next'
ready_home d w heads next heads' next' x at hand v l long h ev ea el chained home c at-hand =
    let is : at ≡ cell d.values (literal w x) = ea ∙ ap (λ k. cell k l) ev ∙ ap (cell d.values) (sym el) in
    subst (λ k. Chained (moved home x k) heads' next') is (chained home c (omega (arith, at-hand, h, long)))
