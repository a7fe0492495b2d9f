-- Keeping the nogoods of one row more, and of all.

use Rattle.std.proofs.Common.{◌≡◌, ℕ, ◌+◌, ◌<◌, ◌≤◌, List, [], ◌∷◌, ◌++◌, length, take, drop, Option, Some, None, Result, Ok, Err, refl, sym, ap, ◌∙◌, subst, arith, append_assoc, append-nil, length-append}
use Rattle.std.specs.Result.{OnOk}
use Rattle.std.specs.Prelude.{slice_get, slice_index_or}
use Rattle.std.proofs.lemmas.Option.{slice_get-get_or}
use Rattle.std.proofs.Math.Seq.{take-append_seam, take-append-add, take-length}
use Rattle.graph_theory.specs.Embedding.{Problem}
use Rattle.nogood_watch.specs.Nogoods as watched
use Rattle.nogood_watch.specs.Nogoods.{nogood}
use Rattle.nogood_watch.specs.Watching.{forced_at}
use Rattle.std.proofs.lemmas.List.{take-append-drop}
use Rattle.nogood_book.specs.declared.row.Row.{Row}
use Rattle.nogood_book.specs.declared.row.RowKind.{RowKind}
use Rattle.nogood_book.specs.declared.row.RowKind.TheVariants.{Step, Nogood}
use Rattle.nogood_book.specs.Rows.{Pairs, HasParent, above, path_of, paths_after, paths, path_at, Sound}
use Rattle.nogood_book.specs.Places.{IsNogoodRow}
use Rattle.nogood_book.proofs.Paths.{length-paths, above_more, follows_at, path_at_is}
use Rattle.domain_bits.specs.Removals.{State}
use Rattle.recorder.specs.Holding.{listed, single, made_from, lists_in, singles_in, HoldsRows, KeepsSame}
use Rattle.propagation.specs.Acting.{HaveMoved}

-- ---- rows in order

-- what is made of one row more stands last
made_from-snoc : {A : Type 0} (f : RowKind → Pairs → ℕ → List A) (known : List Pairs) (rows : List Row) (r : Row)
    → made_from f known (rows ++ r ∷ []) ≡ made_from f known rows ++ f r.kind (path_of (paths_after known rows) r) (length (paths_after known rows))
made_from-snoc f known [] r = append-nil (f r.kind (path_of known r) (length known))
made_from-snoc f known (x ∷ xs) r =
    ap (λ zs. f x.kind (path_of known x) (length known) ++ zs) (made_from-snoc f (known ++ path_of known x ∷ []) xs r)
    ∙ sym (append_assoc (f x.kind (path_of known x) (length known)) (made_from f (known ++ path_of known x ∷ []) xs) (f r.kind (path_of (paths_after (known ++ path_of known x ∷ []) xs) r) (length (paths_after (known ++ path_of known x ∷ []) xs))))

-- what stands before a row of sound rows: the rows up to it are those below and it, and its path and its place are told by those below
record StandsNext (rows : List Row) (k : ℕ) (r : Row) : Type 0 where
  more : take (k + 1) rows ≡ take k rows ++ r ∷ []
  path_is : path_of (paths (take k rows)) r ≡ path_at rows k
  place_is : length (paths (take k rows)) ≡ k

stands_next : (q : Problem) (rows : List Row) (k : ℕ) (r : Row) → Sound q rows → slice_get rows k ≡ Some r → StandsNext rows k r
stands_next q rows k r sound here =
    let f = follows_at q rows k r sound here in
    behind f.0 f.1 f.2 f.3 f.4.parent (path_at_is q rows k r sound here)
  where
    behind : (front rest : List Row) → rows ≡ front ++ r ∷ rest → length front ≡ k → HasParent front r.parent → path_at rows k ≡ path_of (paths rows) r → StandsNext rows k r
    behind front rest rows_are place parent path = record {
      more = two ∙ sym (ap (λ (zs : List Row). zs ++ r ∷ []) one);
      path_is =
          ap (λ (zs : List Row). path_of (paths zs) r) one
          ∙ sym (path ∙ ap (λ (zs : List Row). path_of (paths zs) r) rows_are ∙ ap (λ (ps : Pairs). ps ++ (r.vertex, r.value) ∷ []) (above_more front (r ∷ rest) r.parent parent));
      place_is = ap (λ (zs : List Row). length (paths zs)) one ∙ length-paths front ∙ place;
    }
      where
        one : take k rows ≡ front
        one = ap (take k) rows_are ∙ ap (λ (n : ℕ). take n (front ++ r ∷ rest)) (sym place) ∙ take-append_seam front (r ∷ rest)

        two : take (k + 1) rows ≡ front ++ r ∷ []
        two = ap (take (k + 1)) rows_are ∙ ap (λ (n : ℕ). take (n + 1) (front ++ r ∷ rest)) (sym place) ∙ take-append-add front (r ∷ rest) 1

made_next : {A : Type 0} (f : RowKind → Pairs → ℕ → List A) (rows : List Row) (k : ℕ) (r : Row) → StandsNext rows k r
    → made_from f [] (take (k + 1) rows) ≡ made_from f [] (take k rows) ++ f r.kind (path_at rows k) k
made_next f rows k r s =
    ap (made_from f []) s.more ∙ made_from-snoc f [] (take k rows) r
    ∙ ap (λ (ps : Pairs). made_from f [] (take k rows) ++ f r.kind ps (length (paths (take k rows)))) s.path_is
    ∙ ap (λ (n : ℕ). made_from f [] (take k rows) ++ f r.kind (path_at rows k) n) s.place_is

-- ---- one row more

-- a step brings nothing
pub holds_step : (q : Problem) (rows : List Row) (k : ℕ) (r : Row) (n : Option watched.State) → Sound q rows → slice_get rows k ≡ Some r → r.kind ≡ Step
    → HoldsRows (take k rows) n → HoldsRows (take (k + 1) rows) n
holds_step q rows k r n sound here step h = record {
  lists = h.lists ∙ sym (nothing listed refl);
  singles = h.singles ∙ sym (nothing single refl);
}
  where
    nothing : {A : Type 0} (f : RowKind → Pairs → ℕ → List A) → f Step (path_at rows k) k ≡ [] → made_from f [] (take (k + 1) rows) ≡ made_from f [] (take k rows)
    nothing f none =
        made_next f rows k r (stands_next q rows k r sound here)
        ∙ ap (λ (o : RowKind). made_from f [] (take k rows) ++ f o (path_at rows k) k) step
        ∙ ap (λ zs. made_from f [] (take k rows) ++ zs) none
        ∙ append-nil (made_from f [] (take k rows))

added_lists : (s : watched.State) (xs : Pairs) (name : ℕ) → (watched.added s xs name).nogoods ≡ s.nogoods ++ listed Nogood xs name
added_lists s [] name = sym (append-nil s.nogoods)
added_lists s (x ∷ []) name = sym (append-nil s.nogoods)
added_lists s (x ∷ y ∷ rest) name = refl

added_singles : (s : watched.State) (xs : Pairs) (name : ℕ) → (watched.added s xs name).units ≡ s.units ++ single Nogood xs name
added_singles s [] name = sym (append-nil s.units)
added_singles s (x ∷ []) name = refl
added_singles s (x ∷ y ∷ rest) name = sym (append-nil s.units)

-- a nogood brings its path, under its place
pub holds_nogood : (q : Problem) (rows : List Row) (k : ℕ) (r : Row) (s new : watched.State) → Sound q rows → slice_get rows k ≡ Some r → r.kind ≡ Nogood
    → new ≡ watched.added s (path_at rows k) k → HoldsRows (take k rows) (Some s) → HoldsRows (take (k + 1) rows) (Some new)
holds_nogood q rows k r s new sound here kind is h = record {
  lists = ap (λ (z : watched.State). z.nogoods) is ∙ added_lists s (path_at rows k) k ∙ ap (λ (zs : List watched.Nogood). zs ++ listed Nogood (path_at rows k) k) h.lists ∙ sym (next listed);
  singles = ap (λ (z : watched.State). z.units) is ∙ added_singles s (path_at rows k) k ∙ ap (λ (zs : List (ℕ × ℕ × ℕ)). zs ++ single Nogood (path_at rows k) k) h.singles ∙ sym (next single);
}
  where
    next : {A : Type 0} (f : RowKind → Pairs → ℕ → List A) → made_from f [] (take (k + 1) rows) ≡ made_from f [] (take k rows) ++ f Nogood (path_at rows k) k
    next f = made_next f rows k r (stands_next q rows k r sound here) ∙ ap (λ (o : RowKind). made_from f [] (take k rows) ++ f o (path_at rows k) k) kind

-- ---- what a row that is read tells

-- a row that is read is one of the rows
row_read : (rows : List Row) (k : ℕ) (d : Row) → k < length rows → slice_get rows k ≡ Some (slice_index_or rows k d)
row_read rows k d inside = slice_get-get_or rows k d inside

pub nogood_read : (rows : List Row) (k : ℕ) (d : Row) → k < length rows → (slice_index_or rows k d).kind ≡ Nogood → IsNogoodRow rows k
nogood_read rows k d inside kind = (slice_index_or rows k d, row_read rows k d inside, kind)

pub step_read : (q : Problem) (rows : List Row) (k : ℕ) (d : Row) (n : Option watched.State) → Sound q rows → k < length rows → (slice_index_or rows k d).kind ≡ Step
    → HoldsRows (take k rows) n → HoldsRows (take (k + 1) rows) n
step_read q rows k d n sound inside kind h = holds_step q rows k (slice_index_or rows k d) n sound (row_read rows k d inside) kind h

-- where keeping it was not refused memory, its nogood is kept
pub kept_read : {T E : Type 0} (answer : Result T E) (q : Problem) (rows : List Row) (k : ℕ) (old new : watched.State) → Sound q rows → IsNogoodRow rows k
    → OnOk answer (new ≡ watched.added old (path_at rows k) k) → HoldsRows (take k rows) (Some old) → OnOk answer (HoldsRows (take (k + 1) rows) (Some new))
kept_read (Ok x) q rows k old new sound row is h = holds_nogood q rows k row.0 old new sound row.1 row.2 is h
kept_read (Err e) q rows k old new sound row is h = tt

-- the path of a row has a pair
pub path_some : (q : Problem) (rows : List Row) (k : ℕ) → Sound q rows → IsNogoodRow rows k → 0 < length (path_at rows k)
path_some q rows k sound row =
    omega (arith, ap length (path_at_is q rows k row.0 sound row.1), length-append (above (paths rows) row.0.parent) ((row.0.vertex, row.0.value) ∷ []))

-- ---- none, and the same

-- of no rows nothing is kept
pub holds_none : HoldsRows [] None
holds_none = record { lists = refl; singles = refl }

-- a table without nogoods keeps what no table keeps
pub holds_empty : (rows : List Row) (vertices values : ℕ) → HoldsRows rows None → HoldsRows rows (Some (watched.empty vertices values))
holds_empty rows vertices values h = record { lists = h.lists; singles = h.singles }

-- of all rows
pub holds_all : (rows : List Row) (k : ℕ) (n : Option watched.State) → length rows ≤ k → k ≤ length rows → HoldsRows (take k rows) n → HoldsRows rows n
holds_all rows k n past within h =
    let e : k ≡ length rows = omega arith in
    subst (λ (zs : List Row). HoldsRows zs n) (ap (λ (i : ℕ). take i rows) e ∙ take-length rows) h

pub same_none : (n : Option watched.State) → KeepsSame n n
same_none n = record { lists = refl; singles = refl }

pub same_more : (a b c : Option watched.State) → KeepsSame a b → KeepsSame b c → KeepsSame a c
same_more a b c h k = record { lists = k.lists ∙ h.lists; singles = k.singles ∙ h.singles }

-- what keeps the same keeps the same rows
pub holds_same : (rows : List Row) (a b : Option watched.State) → KeepsSame a b → HoldsRows rows a → HoldsRows rows b
holds_same rows a b same h = record { lists = same.lists ∙ h.lists; singles = same.singles ∙ h.singles }

-- watches that move keep the same
pub same_moved : (d : State) (a b : Option watched.State) → HaveMoved d a b → KeepsSame a b
same_moved d None None m = same_none None
same_moved d None (Some b) m = absurd m
same_moved d (Some a) None m = absurd m
same_moved d (Some a) (Some b) m = record { lists = m.nogoods_same; singles = m.units_same }

-- ---- where a nogood is kept

-- what is made of a row stands among what is made of all
made_here : {A : Type 0} (f : RowKind → Pairs → ℕ → List A) (q : Problem) (rows : List Row) (k : ℕ) (r : Row) → Sound q rows → slice_get rows k ≡ Some r
    → (rest : List A) × (made_from f [] rows ≡ (made_from f [] (take k rows) ++ f r.kind (path_at rows k) k) ++ rest)
made_here f q rows k r sound here = (
  made_from f (paths_after [] (take (k + 1) rows)) (drop (k + 1) rows),
  ap (made_from f []) (sym (take-append-drop (k + 1) rows)) ∙ made_from-append [] (take (k + 1) rows) (drop (k + 1) rows)
      ∙ ap (λ zs. zs ++ made_from f (paths_after [] (take (k + 1) rows)) (drop (k + 1) rows)) (made_next f rows k r (stands_next q rows k r sound here)),
)
  where
    made_from-append : (known : List Pairs) (xs ys : List Row) → made_from f known (xs ++ ys) ≡ made_from f known xs ++ made_from f (paths_after known xs) ys
    made_from-append known [] ys = refl
    made_from-append known (x ∷ xs) ys =
        ap (λ zs. f x.kind (path_of known x) (length known) ++ zs) (made_from-append (known ++ path_of known x ∷ []) xs ys)
        ∙ sym (append_assoc (f x.kind (path_of known x) (length known)) (made_from f (known ++ path_of known x ∷ []) xs) (made_from f (paths_after (known ++ path_of known x ∷ []) xs) ys))

-- one that is made of a row has a place
made_place : {A : Type 0} (f : RowKind → Pairs → ℕ → List A) (q : Problem) (rows : List Row) (k : ℕ) (all : List A) (e d : A) → Sound q rows → IsNogoodRow rows k
    → f Nogood (path_at rows k) k ≡ e ∷ [] → all ≡ made_from f [] rows → (i : ℕ) × (i < length all) × (slice_index_or all i d ≡ e)
made_place f q rows k all e d sound row is all_is =
    let made = made_here f q rows k row.0 sound row.1 in
    let front = made_from f [] (take k rows) in
    let told : all ≡ front ++ (e ∷ made.0) =
    all_is ∙ made.1 ∙ ap (λ (o : RowKind). (front ++ f o (path_at rows k) k) ++ made.0) row.2 ∙ ap (λ zs. (front ++ zs) ++ made.0) is ∙ append_assoc front (e ∷ []) made.0 in (
      length front,
      omega (arith, ap length told, length-append front (e ∷ made.0)),
      ap (λ zs. slice_index_or zs (length front) d) told ∙ at_seam front e made.0,
    )
  where
    at_seam : (xs : List _) (x : _) (ys : List _) → slice_index_or (xs ++ x ∷ ys) (length xs) d ≡ x
    at_seam [] x ys = refl
    at_seam (z ∷ zs) x ys = at_seam zs x ys

-- a nogood of one pair is one of the single pairs
pub single_place : (q : Problem) (rows : List Row) (k : ℕ) (n : Option watched.State) (x : ℕ × ℕ) → Sound q rows → IsNogoodRow rows k → path_at rows k ≡ x ∷ [] → HoldsRows rows n
    → (i : ℕ) × (i < length (singles_in n)) × (forced_at (singles_in n) i ≡ (x.0, x.1, k))
single_place q rows k n x sound row is holds =
    made_place single q rows k (singles_in n) (x.0, x.1, k) (0, 0, 0) sound row (ap (λ (xs : Pairs). single Nogood xs k) is) holds.singles

-- and one of more is one of the lists
pub listed_place : (q : Problem) (rows : List Row) (k : ℕ) (n : Option watched.State) (x y : ℕ × ℕ) (rest : Pairs) → Sound q rows → IsNogoodRow rows k → path_at rows k ≡ x ∷ y ∷ rest
    → HoldsRows rows n → (i : ℕ) × (i < length (lists_in n)) × ((nogood (lists_in n) i).literals ≡ x ∷ y ∷ rest)
listed_place q rows k n x y rest sound row is holds =
    let at = made_place listed q rows k (lists_in n) (record { literals = x ∷ y ∷ rest; name = k }) (record { literals = []; name = 0 }) sound row (ap (λ (xs : Pairs). listed Nogood xs k) is) holds.lists in
    (at.0, at.1, ap (λ (z : watched.Nogood). z.literals) at.2)
