-- What a row that was published tells its writer: where the next may stand, and that its path is as was meant.
use Rattle.std.proofs.Common.{zero, suc, ◌≡◌, ℕ, ◌+◌, ◌^◌, ◌<◌, ◌≤◌, ◌&&◌, cond, List, [], ◌∷◌, ◌++◌, length, refl, sym, ap, subst, ◌∙◌, arith}
use Rattle.std.proofs.lemmas.Grind.{common_steps}
use Rattle.std.specs.Prelude.{Option, Some, None, slice_get, ◌==◌}
use Rattle.std.proofs.lemmas.Option.{slice_get_within}
use Rattle.graph_theory.specs.Graph.{size}
use Rattle.graph_theory.specs.Embedding.{Problem}
use Rattle.graph_theory.specs.Path.{NotOn}
use Rattle.nogood_book.specs.declared.row.Row.{Row}
use Rattle.nogood_book.specs.declared.row.RowKind.TheVariants.{Step, Nogood}
use Rattle.nogood_book.specs.Rows.{Pairs, above, paths, path_at, HasParent, DeadFor, MayFollow}
use Rattle.nogood_book.specs.Places.{StartsWith, nogoods_by, is_nogood}
use Rattle.nogood_book.specs.Facts.{Facts, StandsAt}
use Rattle.nogood_book.specs.Reaching.{Reaches, MayStand}
use Rattle.nogood_book.proofs.Lists.{starts_get, get_split, nogoods_by-append}
use Rattle.nogood_book.proofs.Paths.{path_at_is, path_at_more, above_more, parent_more}

-- the empty path is reached with no parent
pub reaches_empty : (rows : List Row) → Reaches rows None []
reaches_empty rows = record { has = tt; leads = refl; narrow = omega arith }

-- what is reached stays so as rows follow
pub reaches_more : (rows more : List Row) (parent : Option ℕ) (path : Pairs) → Reaches rows parent path → StartsWith more rows → Reaches more parent path
reaches_more rows more parent path h s = record {
  has = subst (λ z. HasParent z parent) (sym s.1) (parent_more rows s.0 parent h.has);
  leads = ap (λ z. above (paths z) parent) s.1 ∙ (above_more rows s.0 parent h.has ∙ h.leads);
  narrow = h.narrow;
}

-- a row's path stays as rows follow
pub path_stays : (rows more : List Row) (k : ℕ) → k < length rows → StartsWith more rows → path_at more k ≡ path_at rows k
path_stays rows more k h s = ap (λ z. path_at z k) s.1 ∙ path_at_more rows s.0 k h

-- a row of fewer rows is that of more, and its path is the same
pub row_of_more : (rows more : List Row) (k : ℕ) (r : Row) → slice_get rows k ≡ Some r → StartsWith more rows → (slice_get more k ≡ Some r) × (path_at more k ≡ path_at rows k)
row_of_more rows more k r e s = (starts_get rows more k r s e, path_stays rows more k (slice_get_within rows k r e) s)

-- a row with its path may be written
pub may_follow : (q : Problem) (rows : List Row) (r : Row) (path : Pairs) → Reaches rows r.parent path → MayStand q path (r.vertex, r.value)
    → DeadFor q r.kind (path ++ (r.vertex, r.value) ∷ []) → r.owner < 2 ^ 7 → size q.pattern ≤ 1024 → size q.target ≤ 8192 → MayFollow q rows r
may_follow q rows r path h m d o few many = record {
  narrow = record { value = omega (arith, m.value); vertex = omega (arith, m.vertex); parent = h.narrow; owner = o };
  parent = h.has;
  fresh = subst (λ z. NotOn z r.vertex) (sym h.leads) m.fresh;
  vertex = m.vertex;
  value = m.value;
  dead = subst (λ z. DeadFor q r.kind (z ++ (r.vertex, r.value) ∷ [])) (sym h.leads) d;
}

-- a row that was published stands at its place with the path that was meant
pub row_placed : (r : Row) (at : ℕ) (s t : Facts) (path : Pairs) → StandsAt r at s t → Reaches s.seen r.parent path
    → (slice_get t.seen at ≡ Some r) × (path_at t.seen at ≡ path ++ (r.vertex, r.value) ∷ [])
row_placed r at s t path h up =
    let later = reaches_more s.seen t.seen r.parent path up h.grew.seen in
    (h.row_is, path_at_is t.problem t.seen at r h.grew.sound h.row_is ∙ ap (λ z. z ++ (r.vertex, r.value) ∷ []) later.leads)

-- a step that was published leads to the path that was meant
pub reaches_next : (r : Row) (at : ℕ) (s t : Facts) (path : Pairs) → StandsAt r at s t → r.kind ≡ Step → Reaches s.seen r.parent path
    → Reaches t.seen (Some at) (path ++ (r.vertex, r.value) ∷ [])
reaches_next r at s t path h k up = record {
  has = (r, h.row_is, k);
  leads = (row_placed r at s t path h up).1;
  narrow = omega (arith, h.inside);
}

counts_one : (o : ℕ) (r : Row) → r.kind ≡ Nogood → r.owner ≡ o → 1 ≤ cond (is_nogood r.kind && (r.owner == o)) 1 0
counts_one o r k e = grind (arith, common_steps)

-- one nogood of one's own more counts
pub by_more : (r : Row) (at : ℕ) (s t : Facts) → StandsAt r at s t → r.kind ≡ Nogood → r.owner ≡ s.owner → nogoods_by s.owner s.seen + 1 ≤ nogoods_by s.owner t.seen
by_more r at s t h k o =
    let w = h.grew.seen in
    let e : t.seen ≡ s.seen ++ w.0 = w.1 in
    let one = tail_counts s.seen w.0 t.seen e at h.new_ h.row_is in
    omega (arith, ap (nogoods_by s.owner) e, nogoods_by-append s.owner s.seen w.0, one)
  where
    tail_counts : (xs ys all : List Row) → all ≡ xs ++ ys → (n : ℕ) → length xs ≤ n → slice_get all n ≡ Some r → 1 ≤ nogoods_by s.owner ys
    tail_counts xs ys all e n past here = here_counts ys (drop_get xs ys n past (subst (λ z. slice_get z n ≡ Some r) e here))
      where
        drop_get : (xs ys : List Row) (n : ℕ) → length xs ≤ n → slice_get (xs ++ ys) n ≡ Some r → (k : ℕ) × (slice_get ys k ≡ Some r)
        drop_get [] ys n p g = (n, g)
        drop_get (x ∷ xs) ys zero p g = absurd (omega arith)
        drop_get (x ∷ xs) ys (suc n) p g = drop_get xs ys n (omega arith) g

        here_counts : (ys : List Row) → (k : ℕ) × (slice_get ys k ≡ Some r) → 1 ≤ nogoods_by s.owner ys
        here_counts ys g =
            let c = get_split ys g.0 r g.1 in
            omega (arith, ap (nogoods_by s.owner) c.2, nogoods_by-append s.owner c.0 (r ∷ c.1), counts_one s.owner r k o)

-- an owner's nogoods are no fewer as rows follow
pub by_stays : (o : ℕ) (rows more : List Row) → StartsWith more rows → nogoods_by o rows ≤ nogoods_by o more
by_stays o rows more s = omega (arith, ap (nogoods_by o) s.1, nogoods_by-append o rows s.0)
