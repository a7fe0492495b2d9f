-- A nogood that is kept of rows has its row's path under its row's place, and keeps its name as rows follow.
use Rattle.std.proofs.Common.{◌≡◌, ℕ, zero, suc, ◌+◌, ◌-◌, ◌<◌, ◌≤◌, ◌==◌, true, List, [], ◌∷◌, ◌++◌, length, get_or, Option, Some, None, refl, sym, ap, subst, ◌∙◌, append_assoc, length-append, arith, inl, inr, ◌⊎◌}
use Rattle.std.proofs.lemmas.Bool.{cases_lt, or_cases, eqb-true}
use Rattle.std.proofs.lemmas.List.{get_or_append_left}
use Rattle.std.proofs.Math.Seq.{get_or-append_right}
use Rattle.std.proofs.lemmas.Option.{slice_get_past, slice_get_cases}
use Rattle.std.specs.Prelude.{slice_get}
use Rattle.graph_theory.specs.Graph.{size}
use Rattle.graph_theory.specs.Embedding.{Problem}
use Rattle.graph_theory.specs.Path.{IsPath}
use Rattle.log_theory.specs.Lookups.{is_among}
use Rattle.explanation_theory.specs.Reasons.{vertices_of}
use Rattle.search_theory.specs.Account.{InRange}
use Rattle.nogood_watch.specs.Nogoods as watched
use Rattle.nogood_book.specs.declared.row.Row.{Row}
use Rattle.nogood_book.specs.declared.row.RowKind.{RowKind}
use Rattle.nogood_book.specs.declared.row.RowKind.TheVariants.{Step, Nogood}
use Rattle.nogood_book.specs.Rows.{Pairs, or_empty, path_of, paths_after, paths, path_at, Sound, AreInRange}
use Rattle.nogood_book.specs.Places.{StartsWith, IsNogoodRow}
use Rattle.nogood_book.proofs.Lists.{get_seam, get_more, starts_get}
use Rattle.nogood_book.proofs.Paths.{length-paths, path_at_more, sound_row}
use Rattle.recorder.specs.Telling.{NamesList, NamesUnit, IsNamed, KeepsNames}
use Rattle.recorder.specs.Holding.{listed, single, made_from, lists_in, singles_in, HoldsRows}
use Rattle.dead_theory.specs.Changes.{NamesRows}

-- ---- what is made of rows

-- The paths that are known stay where they are.
known_stay : (known : List Pairs) (rows : List Row) (k : ℕ) (xs : Pairs) → slice_get known k ≡ Some xs → slice_get (paths_after known rows) k ≡ Some xs
known_stay known [] k xs here = here
known_stay known (r ∷ rs) k xs here = known_stay (known ++ path_of known r ∷ []) rs k xs (get_more known (path_of known r ∷ []) k xs here)

-- Behind the known paths, a name and pairs are those of a nogood row.
record IsRowOf (known : List Pairs) (rows : List Row) (name : ℕ) (pairs : Pairs) : Type 0 where
  pub place : ℕ
  pub name_is : name ≡ length known + place
  pub row : Row
  pub here : slice_get rows place ≡ Some row
  pub kind : row.kind ≡ Nogood
  pub path_is : slice_get (paths_after known rows) name ≡ Some pairs

-- What is made of one row bears its place and its path, and is made of nogoods alone.
abbrev pub BearsRow : {A : Type 0} → (RowKind → Pairs → ℕ → List A) → (A → ℕ) → (A → Pairs) → A → Type 0
BearsRow f name_of pairs_of d = (o : RowKind) (xs : Pairs) (n i : ℕ) → i < length (f o xs n) → (o ≡ Nogood) × (name_of (get_or (f o xs n) i d) ≡ n) × (pairs_of (get_or (f o xs n) i d) ≡ xs)

module _ {A : Type 0} (f : RowKind → Pairs → ℕ → List A) (name_of : A → ℕ) (pairs_of : A → Pairs) (d : A) (bears : BearsRow f name_of pairs_of d) where
  each_row : (known : List Pairs) (rows : List Row) (i : ℕ) → i < length (made_from f known rows)
      → IsRowOf known rows (name_of (get_or (made_from f known rows) i d)) (pairs_of (get_or (made_from f known rows) i d))
  each_row known [] i inside = absurd (omega (arith, inside))
  each_row known (r ∷ rs) i inside = by (cases_lt i (length own)) (each_row (known ++ path_of known r ∷ []) rs (i - length own))
    where
      own : List A
      own = f r.kind (path_of known r) (length known)

      behind : List A
      behind = made_from f (known ++ path_of known r ∷ []) rs

      first : i < length own → (e : A) → get_or (own ++ behind) i d ≡ e → (r.kind ≡ Nogood) × (name_of e ≡ length known) × (pairs_of e ≡ path_of known r) → IsRowOf known (r ∷ rs) (name_of e) (pairs_of e)
      first here e is b = record {
        place = 0;
        name_is = omega (arith, b.1);
        row = r;
        here = refl;
        kind = b.0;
        path_is = known_stay (known ++ path_of known r ∷ []) rs (name_of e) (pairs_of e) (get_seam known [] (name_of e) (path_of known r) b.1 ∙ ap Some (sym b.2));
      }

      later : (e : A) → IsRowOf (known ++ path_of known r ∷ []) rs (name_of e) (pairs_of e) → IsRowOf known (r ∷ rs) (name_of e) (pairs_of e)
      later e h = record {
        place = suc h.place;
        name_is = omega (arith, h.name_is, length-append known (path_of known r ∷ []));
        row = h.row;
        here = h.here;
        kind = h.kind;
        path_is = h.path_is;
      }

      by : (i < length own) ⊎ (length own ≤ i)
          → (i - length own < length behind → IsRowOf (known ++ path_of known r ∷ []) rs (name_of (get_or behind (i - length own) d)) (pairs_of (get_or behind (i - length own) d)))
          → IsRowOf known (r ∷ rs) (name_of (get_or (own ++ behind) i d)) (pairs_of (get_or (own ++ behind) i d))
      by (inl lt) rest =
          let b = bears r.kind (path_of known r) (length known) i lt in
          let e : get_or (own ++ behind) i d ≡ get_or own i d = get_or_append_left own behind d i lt in
          first lt (get_or (own ++ behind) i d) refl (b.0, ap name_of e ∙ b.1, ap pairs_of e ∙ b.2)
      by (inr le) rest =
          let e : get_or (own ++ behind) i d ≡ get_or behind (i - length own) d = get_or-append_right own behind i d le in
          subst (λ (z : A). IsRowOf known (r ∷ rs) (name_of z) (pairs_of z)) (sym e)
          (later (get_or behind (i - length own) d) (rest (omega (arith, le, inside, length-append own behind))))

listed_bears : BearsRow listed (λ e. e.name) (λ e. e.literals) (record { literals = []; name = 0 })
listed_bears Step xs n i inside = absurd (omega (arith, inside))
listed_bears Nogood [] n i inside = absurd (omega (arith, inside))
listed_bears Nogood (x ∷ []) n i inside = absurd (omega (arith, inside))
listed_bears Nogood (x ∷ y ∷ rest) n zero inside = (refl, refl, refl)
listed_bears Nogood (x ∷ y ∷ rest) n (suc i) inside = absurd (omega (arith, inside))

single_bears : BearsRow single (λ e. e.2) (λ e. (e.0, e.1) ∷ []) (0, 0, 0)
single_bears Step xs n i inside = absurd (omega (arith, inside))
single_bears Nogood [] n i inside = absurd (omega (arith, inside))
single_bears Nogood (x ∷ []) n zero inside = (refl, refl, refl)
single_bears Nogood (x ∷ []) n (suc i) inside = absurd (omega (arith, inside))
single_bears Nogood (x ∷ y ∷ rest) n i inside = absurd (omega (arith, inside))

-- ---- names are rows

row_named : (rows : List Row) (name : ℕ) (pairs : Pairs) → IsRowOf [] rows name pairs → IsNogoodRow rows name × (path_at rows name ≡ pairs)
row_named rows name pairs h =
    let same : h.place ≡ name = omega (arith, h.name_is) in
    ((h.row, subst (λ (k : ℕ). slice_get rows k ≡ Some h.row) same h.here, h.kind), ap or_empty h.path_is)

list_named : (rows : List Row) (nogoods : List watched.Nogood) (name : ℕ) (pairs : Pairs) → nogoods ≡ made_from listed [] rows → NamesList nogoods name pairs → IsNogoodRow rows name × (path_at rows name ≡ pairs)
list_named rows nogoods name pairs are h = row_named rows name pairs (made h.place h.within h.name_is h.pairs_are)
  where
    made : (i : ℕ) → i < length nogoods → (get_or nogoods i (record { literals = []; name = 0 })).name ≡ name → (get_or nogoods i (record { literals = []; name = 0 })).literals ≡ pairs → IsRowOf [] rows name pairs
    made i inside name_is pairs_are =
        subst (λ (n : ℕ). IsRowOf [] rows n pairs) name_is
        (subst (λ (xs : Pairs). IsRowOf [] rows (get_or nogoods i (record { literals = []; name = 0 })).name xs) pairs_are
        (subst (λ (ns : List watched.Nogood). i < length ns → IsRowOf [] rows (get_or ns i (record { literals = []; name = 0 })).name (get_or ns i (record { literals = []; name = 0 })).literals) (sym are)
        (each_row listed (λ e. e.name) (λ e. e.literals) (record { literals = []; name = 0 }) listed_bears [] rows i) inside))

unit_named : (rows : List Row) (units : List (ℕ × ℕ × ℕ)) (name : ℕ) (pairs : Pairs) → units ≡ made_from single [] rows → NamesUnit units name pairs → IsNogoodRow rows name × (path_at rows name ≡ pairs)
unit_named rows units name pairs are h = row_named rows name pairs (made h.place h.within h.name_is h.pair_is)
  where
    made : (i : ℕ) → i < length units → (get_or units i (0, 0, 0)).2 ≡ name → ((get_or units i (0, 0, 0)).0, (get_or units i (0, 0, 0)).1) ∷ [] ≡ pairs → IsRowOf [] rows name pairs
    made i inside name_is pairs_are =
        subst (λ (n : ℕ). IsRowOf [] rows n pairs) name_is
        (subst (λ (xs : Pairs). IsRowOf [] rows (get_or units i (0, 0, 0)).2 xs) pairs_are
        (subst (λ (us : List (ℕ × ℕ × ℕ)). i < length us → IsRowOf [] rows (get_or us i (0, 0, 0)).2 (((get_or us i (0, 0, 0)).0, (get_or us i (0, 0, 0)).1) ∷ [])) (sym are)
        (each_row single (λ e. e.2) (λ e. (e.0, e.1) ∷ []) (0, 0, 0) single_bears [] rows i) inside))

pub rows_named : (rows : List Row) (s : Option watched.State) → HoldsRows rows s → NamesRows rows s
rows_named rows None holds name pairs h = absurd h
rows_named rows (Some s) holds name pairs (inl h) = list_named rows s.nogoods name pairs holds.lists h
rows_named rows (Some s) holds name pairs (inr h) = unit_named rows s.units name pairs holds.singles h

-- So it is as rows follow.
pub named_more : (seen rows : List Row) (s : Option watched.State) → StartsWith rows seen → NamesRows seen s → NamesRows rows s
named_more seen rows s starts names name pairs h =
    let n = names name pairs h in
    let row = n.0 in (
      (row.0, starts_get seen rows name row.0 starts row.1, row.2),
      subst (λ (xs : List Row). path_at xs name ≡ path_at seen name) (sym starts.1) (path_at_more seen starts.0 name (inside row.0 row.1)) ∙ n.1,
    )
  where
    inside : (r : Row) → slice_get seen name ≡ Some r → name < length seen
    inside r is = by (slice_get_cases seen name).1
      where
        by : ((x : Row) × (name < length seen) × (slice_get seen name ≡ Some x) × (get_or seen name x ≡ x)) ⊎ ((length seen ≤ name) × (slice_get seen name ≡ None)) → name < length seen
        by (inl h) = h.1
        by (inr h) = let bad : Some r ≡ None = sym is ∙ h.1 in absurd cc

-- ---- names are kept

made_more : {A : Type 0} (f : RowKind → Pairs → ℕ → List A) (known : List Pairs) (xs ys : List Row) → made_from f known (xs ++ ys) ≡ made_from f known xs ++ made_from f (paths_after known xs) ys
made_more f known [] ys = refl
made_more f known (x ∷ xs) ys =
    ap (λ zs. f x.kind (path_of known x) (length known) ++ zs) (made_more f (known ++ path_of known x ∷ []) xs ys)
    ∙ sym (append_assoc (f x.kind (path_of known x) (length known)) (made_from f (known ++ path_of known x ∷ []) xs) (made_from f (paths_after (known ++ path_of known x ∷ []) xs) ys))

made_on : {A : Type 0} (f : RowKind → Pairs → ℕ → List A) (seen rows : List Row) → StartsWith rows seen → (more : List A) × (made_from f [] rows ≡ made_from f [] seen ++ more)
made_on f seen rows starts = (made_from f (paths_after [] seen) starts.0, ap (made_from f []) starts.1 ∙ made_more f [] seen starts.0)

list_kept : (old new : List watched.Nogood) (name : ℕ) (pairs : Pairs) → (more : List watched.Nogood) → new ≡ old ++ more → NamesList old name pairs → NamesList new name pairs
list_kept old new name pairs more is h =
    let e : get_or new h.place (record { literals = []; name = 0 }) ≡ get_or old h.place (record { literals = []; name = 0 }) =
    ap (λ (xs : List watched.Nogood). get_or xs h.place (record { literals = []; name = 0 })) is ∙ get_or_append_left old more (record { literals = []; name = 0 }) h.place h.within in record {
      place = h.place;
      within = omega (arith, h.within, ap length is, length-append old more);
      name_is = ap (λ (z : watched.Nogood). z.name) e ∙ h.name_is;
      pairs_are = ap (λ (z : watched.Nogood). z.literals) e ∙ h.pairs_are;
    }

unit_kept : (old new : List (ℕ × ℕ × ℕ)) (name : ℕ) (pairs : Pairs) → (more : List (ℕ × ℕ × ℕ)) → new ≡ old ++ more → NamesUnit old name pairs → NamesUnit new name pairs
unit_kept old new name pairs more is h =
    let e : get_or new h.place (0, 0, 0) ≡ get_or old h.place (0, 0, 0) =
    ap (λ (xs : List (ℕ × ℕ × ℕ)). get_or xs h.place (0, 0, 0)) is ∙ get_or_append_left old more (0, 0, 0) h.place h.within in record {
      place = h.place;
      within = omega (arith, h.within, ap length is, length-append old more);
      name_is = ap (λ (z : ℕ × ℕ × ℕ). z.2) e ∙ h.name_is;
      pair_is = ap (λ (z : ℕ × ℕ × ℕ). (z.0, z.1) ∷ []) e ∙ h.pair_is;
    }

of_lists : (s : Option watched.State) (name : ℕ) (pairs : Pairs) → NamesList (lists_in s) name pairs → IsNamed s name pairs
of_lists None name pairs h = absurd (omega (arith, h.within))
of_lists (Some s) name pairs h = inl h

of_singles : (s : Option watched.State) (name : ℕ) (pairs : Pairs) → NamesUnit (singles_in s) name pairs → IsNamed s name pairs
of_singles None name pairs h = absurd (omega (arith, h.within))
of_singles (Some s) name pairs h = inr h

pub names_kept : (seen rows : List Row) (old new : Option watched.State) → StartsWith rows seen → HoldsRows seen old → HoldsRows rows new → KeepsNames old new
names_kept seen rows None new starts holds after name pairs h = absurd h
names_kept seen rows (Some s) new starts holds after name pairs (inl h) =
    let m = made_on listed seen rows starts in
    of_lists new name pairs (list_kept s.nogoods (lists_in new) name pairs m.0 (after.lists ∙ m.1 ∙ ap (λ (xs : List watched.Nogood). xs ++ m.0) (sym holds.lists)) h)
names_kept seen rows (Some s) new starts holds after name pairs (inr h) =
    let m = made_on single seen rows starts in
    of_singles new name pairs (unit_kept s.units (singles_in new) name pairs m.0 (after.singles ∙ m.1 ∙ ap (λ (xs : List (ℕ × ℕ × ℕ)). xs ++ m.0) (sym holds.singles)) h)

-- ---- paths of rows

pub path_of_row : (q : Problem) (rows : List Row) (k : ℕ) → Sound q rows → IsPath (path_at rows k) × AreInRange q (path_at rows k)
path_of_row q rows k sound = by (slice_get_cases rows k).1
  where
    by : ((x : Row) × (k < length rows) × (slice_get rows k ≡ Some x) × (get_or rows k x ≡ x)) ⊎ ((length rows ≤ k) × (slice_get rows k ≡ None)) → IsPath (path_at rows k) × AreInRange q (path_at rows k)
    by (inl h) = let row = sound_row q rows k h.0 sound h.2 in (row.path, row.range)
    by (inr h) =
        let none : path_at rows k ≡ [] = ap or_empty (slice_get_past (paths rows) k (omega (arith, h.0, length-paths rows))) in
        subst (λ (xs : Pairs). IsPath xs × AreInRange q xs) (sym none) (tt, tt)

pub range_of : (q : Problem) (path : Pairs) → InRange (size q.pattern) (size q.target) path → AreInRange q path
range_of q [] h = tt
range_of q (x ∷ xs) h = (h.0, h.1, range_of q xs h.2)

vertex_in : (q : Problem) (pairs : Pairs) (p : ℕ) → AreInRange q pairs → is_among p (vertices_of pairs) ≡ true → p < size q.pattern
vertex_in q [] p range among = absurd cc
vertex_in q (x ∷ xs) p range among =
    elim (or_cases (x.0 == p) (is_among p (vertices_of xs)) among) [
      | inl is ↦ subst (λ (v : ℕ). v < size q.pattern) (eqb-true x.0 p is) range.0
      | inr later ↦ vertex_in q xs p range.2 later
    ]

pub row_vertex_in : (q : Problem) (rows : List Row) (k : ℕ) → Sound q rows → (p : ℕ) → is_among p (vertices_of (path_at rows k)) ≡ true → p < size q.pattern
row_vertex_in q rows k sound p among = vertex_in q (path_at rows k) p (path_of_row q rows k sound).1 among
