-- Paths of rows as rows follow, and what is so of each row of sound rows.
use Rattle.std.proofs.Common.{append-nil as append_nil, ◌≡◌, ℕ, zero, suc, ◌+◌, ◌<◌, List, [], ◌∷◌, ◌++◌, length, refl, sym, ap, subst, ◌∙◌, append_assoc, length-append, arith}
use Rattle.std.specs.Prelude.{Option, Some, None, slice_get}
use Rattle.std.proofs.lemmas.Option.{slice_get_within}
use Rattle.graph_theory.specs.Graph.{size}
use Rattle.graph_theory.specs.Embedding.{Problem}
use Rattle.graph_theory.specs.Path.{NotOn, IsPath, Dead}
use Rattle.nogood_book.specs.declared.row.Row.{Row}
use Rattle.nogood_book.specs.declared.row.RowKind.{RowKind}
use Rattle.nogood_book.specs.declared.row.RowKind.TheVariants.{Nogood}
use Rattle.nogood_book.specs.Rows.{Pairs, or_empty, above, path_of, paths_after, paths, path_at, HasParent, DeadFor, MayFollow, SoundAfter, Sound, StandsBelow, AreInRange, IsSoundRow, RowLaws}
use Rattle.nogood_book.proofs.Lists.{get_more, get_front, get_seam, get_split}

-- ---- lists of paths

paths_after-append : (known : List Pairs) (xs ys : List Row) → paths_after known (xs ++ ys) ≡ paths_after (paths_after known xs) ys
paths_after-append known [] ys = refl
paths_after-append known (x ∷ xs) ys = paths_after-append (known ++ path_of known x ∷ []) xs ys

length-paths_after : (known : List Pairs) (rows : List Row) → length (paths_after known rows) ≡ length known + length rows
length-paths_after known [] = omega arith
length-paths_after known (r ∷ rs) = omega (arith, length-paths_after (known ++ path_of known r ∷ []) rs, length-append known (path_of known r ∷ []))

-- there are as many paths as rows
pub length-paths : (rows : List Row) → length (paths rows) ≡ length rows
length-paths rows = omega (arith, length-paths_after [] rows)

-- the path of one row more
pub paths_snoc : (rows : List Row) (r : Row) → paths (rows ++ r ∷ []) ≡ paths rows ++ path_of (paths rows) r ∷ []
paths_snoc rows r = paths_after-append [] rows (r ∷ [])

paths_after_front : (known : List Pairs) (rows : List Row) (k : ℕ) → k < length known → slice_get (paths_after known rows) k ≡ slice_get known k
paths_after_front known [] k h = refl
paths_after_front known (r ∷ rs) k h =
    paths_after_front (known ++ path_of known r ∷ []) rs k (omega (arith, length-append known (path_of known r ∷ [])))
    ∙ get_front known (path_of known r ∷ []) k h

paths_more : (rows more : List Row) (k : ℕ) → k < length rows → slice_get (paths (rows ++ more)) k ≡ slice_get (paths rows) k
paths_more rows more k h =
    ap (λ z. slice_get z k) (paths_after-append [] rows more) ∙ paths_after_front (paths rows) more k (omega (arith, length-paths rows))

-- a path does not change as rows follow
pub path_at_more : (rows more : List Row) (k : ℕ) → k < length rows → path_at (rows ++ more) k ≡ path_at rows k
path_at_more rows more k h = ap or_empty (paths_more rows more k h)

-- nor does what a parent leads to
pub above_more : (rows more : List Row) (parent : Option ℕ) → HasParent rows parent → above (paths (rows ++ more)) parent ≡ above (paths rows) parent
above_more rows more None h = refl
above_more rows more (Some k) h = path_at_more rows more k (slice_get_within rows k h.0 h.1)

-- ---- parents and following as rows follow

pub parent_more : (rows more : List Row) (parent : Option ℕ) → HasParent rows parent → HasParent (rows ++ more) parent
parent_more rows more None h = tt
parent_more rows more (Some k) h = (h.0, get_more rows more k h.0 h.1, h.2)

path_of_more : (rows more : List Row) (r : Row) → HasParent rows r.parent → path_of (paths (rows ++ more)) r ≡ path_of (paths rows) r
path_of_more rows more r h = ap (λ z. z ++ (r.vertex, r.value) ∷ []) (above_more rows more r.parent h)

-- what may follow some rows may follow more
pub follow_more : (q : Problem) (rows more : List Row) (r : Row) → MayFollow q rows r → MayFollow q (rows ++ more) r
follow_more q rows more r h = record {
  narrow = h.narrow;
  parent = parent_more rows more r.parent h.parent;
  fresh = subst (λ z. NotOn z r.vertex) (sym (above_more rows more r.parent h.parent)) h.fresh;
  vertex = h.vertex;
  value = h.value;
  dead = subst (DeadFor q r.kind) (sym (path_of_more rows more r h.parent)) h.dead;
}

-- ---- soundness, cut and joined

sound_join : (q : Problem) (before xs ys : List Row) → SoundAfter q before xs → SoundAfter q (before ++ xs) ys → SoundAfter q before (xs ++ ys)
sound_join q before [] ys h k = subst (λ z. SoundAfter q z ys) (append_nil before) k
sound_join q before (x ∷ xs) ys h k = (h.0, sound_join q (before ++ x ∷ []) xs ys h.1 (subst (λ z. SoundAfter q z ys) (sym (append_assoc before (x ∷ []) xs)) k))

sound_cut : (q : Problem) (before xs ys : List Row) → SoundAfter q before (xs ++ ys) → SoundAfter q before xs × SoundAfter q (before ++ xs) ys
sound_cut q before [] ys h = (tt, subst (λ z. SoundAfter q z ys) (sym (append_nil before)) h)
sound_cut q before (x ∷ xs) ys h =
    let r = sound_cut q (before ++ x ∷ []) xs ys h.1 in
    ((h.0, r.0), subst (λ z. SoundAfter q z ys) (append_assoc before (x ∷ []) xs) r.1)

-- a beginning of sound rows is sound
pub sound_front : (q : Problem) (xs ys : List Row) → Sound q (xs ++ ys) → Sound q xs
sound_front q xs ys h = (sound_cut q [] xs ys h).0

-- the row behind it may follow it
pub sound_next : (q : Problem) (xs ys : List Row) (r : Row) → Sound q (xs ++ r ∷ ys) → MayFollow q xs r
sound_next q xs ys r h = (sound_cut q [] xs (r ∷ ys) h).1.0

-- and one that may follow keeps them sound
pub sound_snoc : (q : Problem) (rows : List Row) (r : Row) → Sound q rows → MayFollow q rows r → Sound q (rows ++ r ∷ [])
sound_snoc q rows r h k = sound_join q [] rows (r ∷ []) h (k, tt)

-- ---- what is so of each row

-- the row at a place may follow those before it
pub follows_at : (q : Problem) (rows : List Row) (k : ℕ) (r : Row) → Sound q rows → slice_get rows k ≡ Some r
    → (front : List Row) × (rest : List Row) × (rows ≡ front ++ r ∷ rest) × (length front ≡ k) × MayFollow q front r
follows_at q rows k r h e =
    let s = get_split rows k r e in
    (s.0, s.1, s.2, s.3, sound_next q s.0 s.1 r (subst (Sound q) s.2 h))

-- a parent of a row of sound rows lies below it and is a step
pub parent_below : (q : Problem) (rows : List Row) (k : ℕ) (r : Row) → Sound q rows → slice_get rows k ≡ Some r → StandsBelow rows k r.parent
parent_below q rows k r h e =
    let f = follows_at q rows k r h e in
    below r.parent f.0 (r ∷ f.1) f.2 f.3 f.4.parent
  where
    below : (parent : Option ℕ) (front rest : List Row) → rows ≡ front ++ rest → length front ≡ k → HasParent front parent → StandsBelow rows k parent
    below None front rest e n p = tt
    below (Some j) front rest e n p =
        (omega (arith, slice_get_within front j p.0 p.1), subst (λ z. HasParent z (Some j)) (sym e) (parent_more front rest (Some j) p))

-- the path of a row of sound rows is that of its parent, and then its own pair
pub path_at_is : (q : Problem) (rows : List Row) (k : ℕ) (r : Row) → Sound q rows → slice_get rows k ≡ Some r → path_at rows k ≡ path_of (paths rows) r
path_at_is q rows k r h e =
    let f = follows_at q rows k r h e in
    subst (λ z. path_at z k ≡ path_of (paths z) r) (sym f.2) (at_seam f.0 f.1 f.3 f.4.parent)
  where
    at_seam : (front rest : List Row) → length front ≡ k → HasParent front r.parent → path_at (front ++ r ∷ rest) k ≡ path_of (paths (front ++ r ∷ rest)) r
    at_seam front rest n p =
        let here : slice_get (paths (front ++ r ∷ [])) k ≡ Some (path_of (paths front) r) =
        ap (λ z. slice_get z k) (paths_snoc front r) ∙ get_seam (paths front) [] k (path_of (paths front) r) (omega (arith, length-paths front)) in
        let inside : k < length (front ++ r ∷ []) = omega (arith, length-append front (r ∷ [])) in
        ap (λ z. path_at z k) (sym (append_assoc front (r ∷ []) rest))
        ∙ (path_at_more (front ++ r ∷ []) rest k inside
        ∙ (ap or_empty here ∙ sym (path_of_more front (r ∷ rest) r p)))

-- ---- each path is a path in range

record Fine (q : Problem) (xs : Pairs) : Type 0 where
  path : IsPath xs
  range : AreInRange q xs

not_on_snoc : (xs : Pairs) (p v t : ℕ) → NotOn xs p → (v ≡ p → ⊥) → NotOn (xs ++ (v, t) ∷ []) p
not_on_snoc [] p v t h n = (n, tt)
not_on_snoc (x ∷ xs) p v t h n = (h.0, not_on_snoc xs p v t h.1 n)

path_snoc : (xs : Pairs) (v t : ℕ) → IsPath xs → NotOn xs v → IsPath (xs ++ (v, t) ∷ [])
path_snoc [] v t h n = (tt, tt)
path_snoc (x ∷ xs) v t h n = (not_on_snoc xs x.0 v t h.0 (λ e. n.0 (sym e)), path_snoc xs v t h.1 n.1)

range_snoc : (q : Problem) (xs : Pairs) (v t : ℕ) → AreInRange q xs → v < size q.pattern → t < size q.target → AreInRange q (xs ++ (v, t) ∷ [])
range_snoc q [] v t h a b = (a, b, tt)
range_snoc q (x ∷ xs) v t h a b = (h.0, h.1, range_snoc q xs v t h.2 a b)

empty_fine : (q : Problem) → Fine q []
empty_fine q = record { path = tt; range = tt }

AllFine : Problem → List Pairs → Type 0
AllFine q known = (k : ℕ) → Fine q (or_empty (slice_get known k))

above_fine : (q : Problem) (known : List Pairs) (parent : Option ℕ) → AllFine q known → Fine q (above known parent)
unfolding AllFine
above_fine q known None h = empty_fine q
above_fine q known (Some k) h = h k

next_fine : (q : Problem) (rows : List Row) (r : Row) → AllFine q (paths rows) → MayFollow q rows r → Fine q (path_of (paths rows) r)
next_fine q rows r h m =
    let up = above_fine q (paths rows) r.parent h in record {
      path = path_snoc (above (paths rows) r.parent) r.vertex r.value up.path m.fresh;
      range = range_snoc q (above (paths rows) r.parent) r.vertex r.value up.range m.vertex m.value;
    }

snoc_fine : (q : Problem) (known : List Pairs) (x : Pairs) → AllFine q known → Fine q x → AllFine q (known ++ x ∷ [])
unfolding AllFine
snoc_fine q [] x h f zero = f
snoc_fine q [] x h f (suc k) = empty_fine q
snoc_fine q (y ∷ known) x h f zero = h 0
snoc_fine q (y ∷ known) x h f (suc k) = snoc_fine q known x (λ j. h (suc j)) f k

all_fine : (q : Problem) (before rows : List Row) → SoundAfter q before rows → AllFine q (paths before) → AllFine q (paths (before ++ rows))
all_fine q before [] h f = subst (λ z. AllFine q (paths z)) (sym (append_nil before)) f
all_fine q before (r ∷ rs) h f =
    let g = subst (AllFine q) (sym (paths_snoc before r)) (snoc_fine q (paths before) (path_of (paths before) r) f (next_fine q before r f h.0)) in
    subst (λ z. AllFine q (paths z)) (append_assoc before (r ∷ []) rs) (all_fine q (before ++ r ∷ []) rs h.1 g)

fine_at : (q : Problem) (rows : List Row) (k : ℕ) → Sound q rows → Fine q (path_at rows k)
unfolding AllFine
fine_at q rows k h = all_fine q [] rows h (λ j. empty_fine q) k

-- the path of a nogood of sound rows is dead, and of a step's nothing is asked
pub dead_at : (q : Problem) (rows : List Row) (k : ℕ) (r : Row) → Sound q rows → slice_get rows k ≡ Some r → DeadFor q r.kind (path_at rows k)
dead_at q rows k r h e =
    let f = follows_at q rows k r h e in
    let same : path_of (paths rows) r ≡ path_of (paths f.0) r =
    ap (λ z. path_of (paths z) r) f.2 ∙ path_of_more f.0 (r ∷ f.1) r f.4.parent in
    subst (DeadFor q r.kind) (sym (path_at_is q rows k r h e ∙ same)) f.4.dead

pub sound_row : (q : Problem) (rows : List Row) (k : ℕ) (r : Row) → Sound q rows → slice_get rows k ≡ Some r → IsSoundRow q rows k r
sound_row q rows k r h e = record {
  parent = parent_below q rows k r h e;
  path_is = path_at_is q rows k r h e;
  path = (fine_at q rows k h).path;
  range = (fine_at q rows k h).range;
  dead = dead_at q rows k r h e;
}

-- the path of each nogood is dead
pub row_nogood : (q : Problem) (rows : List Row) (k : ℕ) (r : Row) → Sound q rows → slice_get rows k ≡ Some r → r.kind ≡ Nogood → Dead q (path_at rows k)
row_nogood q rows k r h e n = let P : RowKind → Type 0 = λ z. DeadFor q z (path_at rows k) in subst P n (dead_at q rows k r h e)

pub laws : RowLaws
laws = record { row_by_row = λ q rows h k r e. sound_row q rows k r h e; dead = row_nogood; stay = path_at_more }
