-- References to lines of the encoding: they are in range, name their forms, and a set's forms can be added up.
use Rattle.std.proofs.Common.{◌≡◌, ℕ, ◌+◌, ◌-◌, ◌<◌, ◌≤◌, ◌==◌, Bool, true, false, ◌||◌, not, ◌&&◌, is_some, List, [], ◌∷◌, ◌++◌, length, slice_index, None, refl, sym, ap, subst, ◌∙◌, arith, Option, Some, Result, Ok, Err, append-nil, length-append, ℤ, pos, negsuc, unsigned_abs}
use Rattle.std.specs.Prelude.{map, slice_get}
use Rattle.std.proofs.lemmas.Bool.{and_parts, eq-eqb, ne_eqb}
use Rattle.std.proofs.lemmas.Option.{slice_get_within}
use Rattle.std.proofs.lemmas.List.{length-map}
use Rattle.std.specs.declared.alloc.AllocError.{AllocError}
use Rattle.graph_theory.specs.Graph.{size, edge}
use Rattle.graph_theory.specs.declared.direction.Direction.{Direction}
use Rattle.graph_theory.specs.declared.direction.Direction.TheVariants.{Out, In}
use Rattle.graph_theory.proofs.ReversedGraphs.{edge-reversed}
use Rattle.graph_theory.specs.Embedding.{Problem}
use Rattle.proof_theory.specs.Forms.{Form, form_of}
use Rattle.log_theory.specs.declared.step.Name.{Name}
use Rattle.log_theory.specs.declared.step.Step.{Step}
use Rattle.log_theory.specs.declared.step.Ref.{Ref}
use Rattle.log_theory.specs.declared.step.Ref.TheVariants.{Line, Made}
use Rattle.log_theory.specs.LogText.{IsRef, AreRefs}
use Rattle.log_theory.specs.Lookups.{is_among}
use Rattle.encoding_theory.specs.Variables.{variable}
use Rattle.graph_theory.specs.Embedding.{is_injective}
use Rattle.graph_theory.specs.Blocks.{in_block, has_block_in, has_block}
use Rattle.graph_theory.specs.declared.embedding.Maps.{Maps}
use Rattle.graph_theory.specs.declared.embedding.Maps.TheVariants.{Injective, Local, Any}
use Rattle.encoding_theory.specs.Encoding.{encoding, every, terms_where, at_least, at_most, at_most_in, leads_form, pair_form}
use Rattle.encoding_theory.specs.Pairs.{is_linked, is_edge_pair, is_compatible}
use Rattle.encoding_theory.specs.Places.{at_least_place, at_most_place, at_most_place_in, edge_place, less_from_place, less_to_place}
use Rattle.encoding_theory.proofs.PlaceProofs.{place_laws}
use Rattle.pb_terms.proofs.Ruled.{size-sorted}
use Rattle.pb_encoding.proofs.TermLists.{size-terms}
use Rattle.pb_encoding.proofs.Counts.{inside_of}
use Rattle.pb_encoding.proofs.LineNumbers.{encoding_few, at_least_line, at_most_line}
use Rattle.recorder.specs.declared.change.Side.{Side}
use Rattle.recorder.specs.declared.change.Side.TheVariants.{Lesser, Greater}
use Rattle.recorder.specs.Telling.{Joins, end_at, end_beside, is_beside}
use Rattle.forcing_theory.specs.Sums.{sum_from, IsSmall, AreSmall}
use Rattle.explanation_theory.specs.Reasons.{at_leasts, beside_forms, over_form}
use Rattle.log_growth.specs.Frames.{Frame, IsFrameOf, IsNamed, AreNamed, IsAddable, Goes, Lasts, Named, AnyForms, IsKept}
use Rattle.log_growth.proofs.Going.{goes_as, goes_beside}
use Rattle.log_growth.proofs.Naming.{line_named, named_behind, named_count}
use Rattle.dead_paths.specs.Lines.{at_least_ref, at_most_ref, block_ref, edge_ref, order_ref, at_least_refs, beside_refs, set_refs, crowd_refs, AreVertices, AreValues, ArePairs, IsSetKept, IsCrowdKept}
use Rattle.dead_paths.specs.Making.{GivesSet}
use Rattle.dead_theory.specs.Changes.{set_forms, crowd_forms, IsSetIn, IsCrowdIn}
use Rattle.dead_paths.specs.Explaining.{IsLimited, Adds}
use Rattle.dead_paths.proofs.Marking.{among_at}

-- ---- in lists

pub vertex_in : (q : Problem) (vertices : List ℕ) (i p : ℕ) → AreVertices q vertices → i < length vertices → slice_index vertices i ≡ p → p < size q.pattern
vertex_in q vertices i p h below is = h p (among_at vertices i p below is)

among_first : (p : ℕ) (ps : List ℕ) → is_among p (p ∷ ps) ≡ true
among_first p ps = ap (λ (b : Bool). b || is_among p ps) (eq-eqb p p refl)

among_later : (r p : ℕ) (ps : List ℕ) → is_among r ps ≡ true → is_among r (p ∷ ps) ≡ true
among_later r p ps h = by (p == r)
  where
    by : (b : Bool) → (b || is_among r ps) ≡ true
    by true = refl
    by false = h

-- ---- one reference

pub at_least_fits : (q : Problem) (p : ℕ) → IsLimited q → p < size q.pattern → IsRef (at_least_ref q p)
at_least_fits q p few inside = let e = at_least_line q p in let l = few.pattern in omega (arith, e, l, inside)

pub at_most_fits : (q : Problem) (p : ℕ) → IsLimited q → p < size q.pattern → IsRef (at_most_ref q p)
at_most_fits q p few inside = let e = at_most_line q p in let l = few.pattern in omega (arith, e, l, inside)

-- A place of the encoding gives a reference.
place_fits : (q : Problem) (k : ℕ) (f : Form) → IsLimited q → slice_get (encoding q) k ≡ Some f → IsRef (Line (k + 1))
place_fits q k f limited at =
    let below : k < length (encoding q) = slice_get_within (encoding q) k f at in
    let most = encoding_few q limited.pattern limited.target limited.order in
    omega (arith, below, most)

pub block_fits : (q : Problem) (b : Option ℕ) (t : ℕ) → IsLimited q → has_block q b ≡ true → t < size q.target → IsRef (block_ref q b t)
block_fits q b t limited there inside = place_fits q (at_most_place_in q b t) (at_most_in q b t) limited ((place_laws q).at_most_in b t there inside)

-- By injective maps the block of all vertices is there.
whole_in : (k : Maps) (q : Problem) → q.maps ≡ k → is_injective k ≡ true → has_block q None ≡ true
whole_in Injective q same is = ap (λ (j : Maps). has_block_in j q.pattern None) same
whole_in Local q same is = absurd cc
whole_in Any q same is = absurd cc

pub whole_there : (q : Problem) → is_injective q.maps ≡ true → has_block q None ≡ true
whole_there q is = whole_in q.maps q refl is

-- Two vertices that an edge joins, in whichever direction, have a line.
pub joins_pair : (q : Problem) (direction : Direction) (p r : ℕ) → Joins q direction p r → is_edge_pair q r p ≡ true
joins_pair q direction p r joins = ap (λ (b : Bool). not b && is_linked q.pattern r p) (ne_eqb r p (λ e. joins.apart (sym e))) ∙ linked direction joins
  where
    linked : (way : Direction) → Joins q way p r → is_linked q.pattern r p ≡ true
    linked Out j = by (is_some (edge q.pattern r p))
      where
        by : (b : Bool) → (b || is_some (edge q.pattern p r)) ≡ true
        by true = refl
        by false = j.joined
    linked In j = ap (λ (b : Bool). b || is_some (edge q.pattern p r)) (ap is_some (sym (edge-reversed q.pattern p r j.vertex_in j.other_in)) ∙ j.joined)

-- The same from the other side.
pub joins_out : (q : Problem) (direction : Direction) (p r : ℕ) → Joins q direction p r → is_edge_pair q p r ≡ true
joins_out q direction p r joins =
    ap (λ (b : Bool). not b && is_linked q.pattern p r) (ne_eqb p r joins.apart)
    ∙ back (is_some (edge q.pattern r p)) (is_some (edge q.pattern p r)) (and_parts (not (r == p)) (is_linked q.pattern r p) (joins_pair q direction p r joins)).1
  where
    back : (a b : Bool) → (a || b) ≡ true → (b || a) ≡ true
    back a true h = refl
    back true false h = refl
    back false false h = absurd cc

pub edge_fits : (q : Problem) (p r t : ℕ) → IsLimited q → p < size q.pattern → r < size q.pattern → t < size q.target → is_edge_pair q p r ≡ true → IsRef (edge_ref q p r t)
edge_fits q p r t limited p_in r_in t_in is =
    place_fits q (edge_place q p r t) (pair_form q p r t) limited ((place_laws q).edge p r t p_in r_in t_in is)

at_place : (q : Problem) (owner : ℕ) (w : Frame) (forms : List Form) (place : ℕ) (f : Form) → IsFrameOf q owner w → slice_get (encoding q) place ≡ Some f → IsNamed w forms (Line (place + 1)) f
at_place q owner w forms place f frame at =
    let e : place + 1 - 1 ≡ place = omega arith in line_named q owner w forms (place + 1) f frame (omega arith) (ap (slice_get (encoding q)) e ∙ at)

pub at_least_named : (q : Problem) (owner : ℕ) (w : Frame) (forms : List Form) (p : ℕ) → IsFrameOf q owner w → p < size q.pattern → IsNamed w forms (at_least_ref q p) (at_least q p)
at_least_named q owner w forms p frame inside = at_place q owner w forms (at_least_place q p) (at_least q p) frame ((place_laws q).at_least p inside)

pub at_most_named : (q : Problem) (owner : ℕ) (w : Frame) (forms : List Form) (p : ℕ) → IsFrameOf q owner w → p < size q.pattern → IsNamed w forms (at_most_ref q p) (at_most q p)
at_most_named q owner w forms p frame inside = at_place q owner w forms (at_most_place q p) (at_most q p) frame ((place_laws q).at_most p inside)

block_named : (q : Problem) (owner : ℕ) (w : Frame) (forms : List Form) (b : Option ℕ) (t : ℕ) → IsFrameOf q owner w → has_block q b ≡ true → t < size q.target → IsNamed w forms (block_ref q b t) (at_most_in q b t)
block_named q owner w forms b t frame there inside = at_place q owner w forms (at_most_place_in q b t) (at_most_in q b t) frame ((place_laws q).at_most_in b t there inside)

pub edge_named : (q : Problem) (owner : ℕ) (w : Frame) (forms : List Form) (p r t : ℕ) → IsFrameOf q owner w → p < size q.pattern → r < size q.pattern → t < size q.target → is_edge_pair q p r ≡ true
    → IsNamed w forms (edge_ref q p r t) (pair_form q p r t)
edge_named q owner w forms p r t frame p_in r_in t_in is = at_place q owner w forms (edge_place q p r t) (pair_form q p r t) frame ((place_laws q).edge p r t p_in r_in t_in is)

-- The line of a pair that is to be in order.
order_at : (q : Problem) (k t : ℕ) (x : ℕ × ℕ) (side : Side) → IsLimited q → slice_get q.less k ≡ Some x → t < size q.target
    → (place : ℕ) × (order_ref q k x side t ≡ Line (place + 1)) × (slice_get (encoding q) place ≡ Some (leads_form q (end_at side x) t (end_beside side x) (is_beside side t)))
order_at q k t x Lesser limited is t_in =
    (less_from_place q k x t, refl, (place_laws q).less_from k x t (slice_get_within q.less k x is) is (inside_of q limited.order k x is) t_in)
order_at q k t x Greater limited is t_in =
    (less_to_place q k x t, refl, (place_laws q).less_to k x t (slice_get_within q.less k x is) is (inside_of q limited.order k x is) t_in)

pub order_fits : (q : Problem) (k t : ℕ) (x : ℕ × ℕ) (side : Side) → IsLimited q → slice_get q.less k ≡ Some x → t < size q.target → IsRef (order_ref q k x side t)
order_fits q k t x side limited is t_in =
    let at = order_at q k t x side limited is t_in in
    subst IsRef (sym at.1) (place_fits q at.0 (leads_form q (end_at side x) t (end_beside side x) (is_beside side t)) limited at.2)

pub order_named : (q : Problem) (owner : ℕ) (w : Frame) (forms : List Form) (k t : ℕ) (x : ℕ × ℕ) (side : Side) → IsFrameOf q owner w → IsLimited q → slice_get q.less k ≡ Some x → t < size q.target
    → IsNamed w forms (order_ref q k x side t) (leads_form q (end_at side x) t (end_beside side x) (is_beside side t))
order_named q owner w forms k t x side frame limited is t_in =
    let at = order_at q k t x side limited is t_in in
    subst (λ (r : Ref). IsNamed w forms r (leads_form q (end_at side x) t (end_beside side x) (is_beside side t))) (sym at.1)
    (at_place q owner w forms at.0 (leads_form q (end_at side x) t (end_beside side x) (is_beside side t)) frame at.2)

-- ---- several

pub refs_behind : (rs ss : List Ref) → AreRefs rs → AreRefs ss → AreRefs (rs ++ ss)
refs_behind [] ss a b = b
refs_behind (r ∷ rs) ss a b = (a.0, refs_behind rs ss a.1 b)

pub at_leasts_fit : (q : Problem) (vertices : List ℕ) → IsLimited q → AreVertices q vertices → AreRefs (at_least_refs q vertices)
at_leasts_fit q [] few h = tt
at_leasts_fit q (p ∷ ps) few h = (at_least_fits q p few (h p (among_first p ps)), at_leasts_fit q ps few (λ r among. h r (among_later r p ps among)))

at_mosts_fit : (q : Problem) (b : Option ℕ) (values : List ℕ) → IsLimited q → has_block q b ≡ true → AreValues q values → AreRefs (map (block_ref q b) values)
at_mosts_fit q b [] few there h = tt
at_mosts_fit q b (p ∷ ps) few there h = (block_fits q b p few there (h p (among_first p ps)), at_mosts_fit q b ps few there (λ r among. h r (among_later r p ps among)))

pub set_refs_fit : (q : Problem) (b : Option ℕ) (vertices values : List ℕ) → IsLimited q → IsSetIn q b vertices values → AreRefs (set_refs q b vertices values)
set_refs_fit q b vertices values few set =
    refs_behind (at_least_refs q vertices) (map (block_ref q b) values) (at_leasts_fit q vertices few set.vertices_in) (at_mosts_fit q b values few set.block set.values_in)

pub at_leasts_named : (q : Problem) (owner : ℕ) (w : Frame) (forms : List Form) (vertices : List ℕ) → IsFrameOf q owner w → AreVertices q vertices → AreNamed w forms (at_least_refs q vertices) (at_leasts q vertices)
at_leasts_named q owner w forms [] frame h = tt
at_leasts_named q owner w forms (p ∷ ps) frame h =
    (at_least_named q owner w forms p frame (h p (among_first p ps)), at_leasts_named q owner w forms ps frame (λ r among. h r (among_later r p ps among)))

at_mosts_named : (q : Problem) (owner : ℕ) (w : Frame) (forms : List Form) (b : Option ℕ) (values : List ℕ) → IsFrameOf q owner w → has_block q b ≡ true → AreValues q values → AreNamed w forms (map (block_ref q b) values) (map (at_most_in q b) values)
at_mosts_named q owner w forms b [] frame there h = tt
at_mosts_named q owner w forms b (p ∷ ps) frame there h =
    (block_named q owner w forms b p frame there (h p (among_first p ps)), at_mosts_named q owner w forms b ps frame there (λ r among. h r (among_later r p ps among)))

pub set_refs_named : (q : Problem) (owner : ℕ) (w : Frame) (forms : List Form) (b : Option ℕ) (p : ℕ) (rest values : List ℕ) → IsFrameOf q owner w → IsSetIn q b (p ∷ rest) values
    → AreNamed w forms (set_refs q b (p ∷ rest) values) (at_least q p ∷ (at_leasts q rest ++ map (at_most_in q b) values))
set_refs_named q owner w forms b p rest values frame set =
    named_behind w forms (at_least_refs q (p ∷ rest)) (at_leasts q (p ∷ rest)) (map (block_ref q b) values) (map (at_most_in q b) values)
    (at_leasts_named q owner w forms (p ∷ rest) frame set.vertices_in) (at_mosts_named q owner w forms b values frame set.block set.values_in)

-- The same of lines beside p at t.
pub besides_fit : (q : Problem) (p t : ℕ) (vertices : List ℕ) → IsLimited q → p < size q.pattern → t < size q.target → AreVertices q vertices → ArePairs q p vertices → AreRefs (beside_refs q p t vertices)
besides_fit q p t [] few p_in t_in vs ps = tt
besides_fit q p t (r ∷ rs) few p_in t_in vs ps = (
  edge_fits q p r t few p_in (vs r (among_first r rs)) t_in (ps r (among_first r rs)),
  besides_fit q p t rs few p_in t_in (λ s among. vs s (among_later s r rs among)) (λ s among. ps s (among_later s r rs among)),
)

besides_named : (q : Problem) (owner : ℕ) (w : Frame) (forms : List Form) (p t : ℕ) (vertices : List ℕ) → IsFrameOf q owner w → p < size q.pattern → t < size q.target → AreVertices q vertices → ArePairs q p vertices
    → AreNamed w forms (beside_refs q p t vertices) (beside_forms q p t vertices)
besides_named q owner w forms p t [] frame p_in t_in vs ps = tt
besides_named q owner w forms p t (r ∷ rs) frame p_in t_in vs ps = (
  edge_named q owner w forms p r t frame p_in (vs r (among_first r rs)) t_in (ps r (among_first r rs)),
  besides_named q owner w forms p t rs frame p_in t_in (λ s among. vs s (among_later s r rs among)) (λ s among. ps s (among_later s r rs among)),
)

pub crowd_refs_fit : (q : Problem) (p t : ℕ) (vertices values : List ℕ) → IsLimited q → p < size q.pattern → t < size q.target → AreVertices q vertices → ArePairs q p vertices → AreValues q values
    → is_injective q.maps ≡ true → AreRefs (crowd_refs q p t vertices values)
crowd_refs_fit q p t vertices values few p_in t_in vs ps us apart =
    refs_behind (beside_refs q p t vertices) (map (block_ref q None) values) (besides_fit q p t vertices few p_in t_in vs ps) (at_mosts_fit q None values few (whole_there q apart) us)

-- ---- sizes

small_form : (c b : ℤ) (test : ℕ → Bool) (number : ℕ → ℕ) (n : ℕ) → n ≤ 8192 → unsigned_abs c ≤ 1 → unsigned_abs b ≤ 1 → IsSmall 8193 (form_of (terms_where c test number n) b)
small_form c b test number n few small low =
    let s = size-terms c test number n small in
    let t = size-sorted (terms_where c test number n) in
    record { bound_fits = omega (arith, low); sum_fits = omega (arith, s, t, few) }

at_leasts_small : (q : Problem) (vertices : List ℕ) → IsLimited q → AreSmall 8193 (at_leasts q vertices)
at_leasts_small q [] few = tt
at_leasts_small q (p ∷ ps) few = (small_form (pos 1) (pos 1) every (variable q p) (size q.target) few.target (omega arith) (omega arith), at_leasts_small q ps few)

at_mosts_small : (q : Problem) (b : Option ℕ) (values : List ℕ) → IsLimited q → AreSmall 8193 (map (at_most_in q b) values)
at_mosts_small q b [] few = tt
at_mosts_small q b (t ∷ ts) few =
    (let l = few.pattern in small_form (negsuc 0) (negsuc 0) (in_block q b) (λ p. variable q p t) (size q.pattern) (omega (arith, l)) (omega arith) (omega arith), at_mosts_small q b ts few)

besides_small : (q : Problem) (p t : ℕ) (vertices : List ℕ) → IsLimited q → AreSmall 8193 (beside_forms q p t vertices)
besides_small q p t [] few = tt
besides_small q p t (r ∷ rs) few = (
  record {
    bound_fits = omega arith;
    sum_fits =
        let s = size-terms (pos 1) (is_compatible q p t r) (variable q r) (size q.target) (omega arith) in
        let l = size-sorted ((variable q p t, negsuc 0) ∷ terms_where (pos 1) (is_compatible q p t r) (variable q r) (size q.target)) in
        let most = few.target in
        omega (arith, s, l, most);
  },
  besides_small q p t rs few,
)

small_behind : (n : ℕ) (fs gs : List Form) → AreSmall n fs → AreSmall n gs → AreSmall n (fs ++ gs)
small_behind n [] gs a b = b
small_behind n (f ∷ fs) gs a b = (a.0, small_behind n fs gs a.1 b)

-- References to some numbers and to no more others are few.
few_refs : (f g : ℕ → Ref) (refs : List Ref) (xs ys : List ℕ) (n : ℕ) → refs ≡ map f xs ++ map g ys → length xs ≤ n → n ≤ 1024 → length ys ≤ length xs → length refs ≤ 2048
few_refs f g refs xs ys n is some most fewer = let e = ap (λ (rs : List Ref). length rs) is in omega (arith, e, length-append (map f xs) (map g ys), length-map xs f, length-map ys g, some, most, fewer)

-- Forms of few lines add up.
addable : (w : Frame) (refs : List Ref) (fs : List Form) → AreNamed w [] refs fs → AreSmall 8193 fs → length refs ≤ 2048 → IsAddable fs
addable w refs fs named small short = record { most = 8193; small = small; fits = let e = named_count w [] refs fs named in omega (arith, e, short) }

-- ---- what is kept

-- What summing references keeps, whatever this is called.
sum_goes : (owner : ℕ) (w : Frame) (old new : Option (List Step)) (result : Result Name AllocError) (refs : List Ref) (f : Form) (gs : List Form) (Claim : List Form → Type 0)
    → ((forms : List Form) → AreNamed w forms refs (f ∷ gs)) → AreSmall 8193 (f ∷ gs) → length refs ≤ 2048 → w.owner ≡ owner
    → ((w : Frame) (f : Form) (gs : List Form) → w.owner ≡ owner → IsAddable (f ∷ gs) → Goes w old new (Named w refs (f ∷ gs)) (IsKept w result (sum_from f gs)))
    → ((forms : List Form) → IsKept w result (sum_from f gs) forms → Claim forms) → Goes w old new AnyForms Claim
sum_goes owner w old new result refs f gs Claim named small short owner_is goes claim =
    goes_as w old new (Named w refs (f ∷ gs)) (IsKept w result (sum_from f gs)) AnyForms Claim (λ forms any. named forms) claim (goes w f gs owner_is (addable w refs (f ∷ gs) (named []) small short))

-- A set's line.
pub set_goes : (q : Problem) (owner : ℕ) (old new : Option (List Step)) (result : Result Name AllocError) (b : Option ℕ) (vertices values : List ℕ) (refs : List Ref) → IsLimited q → 0 < length vertices
    → refs ≡ set_refs q b vertices values → IsSetIn q b vertices values
    → ((w : Frame) (f : Form) (gs : List Form) → w.owner ≡ owner → IsAddable (f ∷ gs) → Goes w old new (Named w refs (f ∷ gs)) (IsKept w result (sum_from f gs)))
    → (w : Frame) → IsFrameOf q owner w → Goes w old new AnyForms (IsSetKept q b vertices values w result)
set_goes q owner old new result b [] values refs few some is set goes w frame = absurd (omega (arith, some))
set_goes q owner old new result b (p ∷ rest) values refs few some is set goes w frame =
    sum_goes owner w old new result refs (at_least q p) (at_leasts q rest ++ map (at_most_in q b) values) (IsSetKept q b (p ∷ rest) values w result)
    (λ forms. subst (λ (rs : List Ref). AreNamed w forms rs (at_least q p ∷ (at_leasts q rest ++ map (at_most_in q b) values))) (sym is) (set_refs_named q owner w forms b p rest values frame set))
    (small_behind 8193 (at_leasts q (p ∷ rest)) (map (at_most_in q b) values) (at_leasts_small q (p ∷ rest) few) (at_mosts_small q b values few))
    (few_refs (at_least_ref q) (block_ref q b) refs (p ∷ rest) values (size q.pattern) is set.vertices_few few.pattern set.values_few) frame.owner_is goes (λ forms kept. kept)

-- A crowd's.
pub crowd_goes : (q : Problem) (owner : ℕ) (old new : Option (List Step)) (result : Result Name AllocError) (p t : ℕ) (direction : Direction) (vertices values : List ℕ) (refs : List Ref) → IsLimited q → 0 < length vertices
    → refs ≡ crowd_refs q p t vertices values → IsCrowdIn q p t direction vertices values
    → ((w : Frame) (f : Form) (gs : List Form) → w.owner ≡ owner → IsAddable (f ∷ gs) → Goes w old new (Named w refs (f ∷ gs)) (IsKept w result (sum_from f gs)))
    → (w : Frame) → IsFrameOf q owner w → Goes w old new AnyForms (IsCrowdKept q p t vertices values w result)
crowd_goes q owner old new result p t direction [] values refs few some is crowd goes w frame = absurd (omega (arith, some))
crowd_goes q owner old new result p t direction (r ∷ rest) values refs few some is crowd goes w frame =
    sum_goes owner w old new result refs (pair_form q p r t) (beside_forms q p t rest ++ map (at_most_in q None) values) (IsCrowdKept q p t (r ∷ rest) values w result)
    (λ forms. subst (λ (rs : List Ref). AreNamed w forms rs (beside_forms q p t (r ∷ rest) ++ map (at_most_in q None) values)) (sym is)
    (named_behind w forms (beside_refs q p t (r ∷ rest)) (beside_forms q p t (r ∷ rest)) (map (block_ref q None) values) (map (at_most_in q None) values) (besides_named q owner w forms p t (r ∷ rest) frame crowd.vertex_in crowd.value_in (λ s here. (crowd.joins s here).other_in) (λ s here. joins_out q direction p s (crowd.joins s here)))
    (at_mosts_named q owner w forms None values frame (whole_there q crowd.injective) crowd.values_in)))
    (small_behind 8193 (beside_forms q p t (r ∷ rest)) (map (at_most_in q None) values) (besides_small q p t (r ∷ rest) few) (at_mosts_small q None values few))
    (few_refs (λ s. edge_ref q p s t) (block_ref q None) refs (r ∷ rest) values (size q.pattern) is crowd.vertices_few few.pattern crowd.values_few) frame.owner_is goes (λ forms kept. by result forms kept)
  where
    by : (result : Result Name AllocError) (forms : List Form) → IsKept w result (over_form q p t r rest values) forms → IsCrowdKept q p t (r ∷ rest) values w result forms
    by (Ok n) forms kept = (kept, tt)
    by (Err e) forms kept = tt

-- After a refusal nothing is claimed.
pub set_none : (q : Problem) (b : Option ℕ) (vertices values : List ℕ) (w : Frame) (e : AllocError) (forms : List Form) → 0 < length vertices → IsSetKept q b vertices values w (Err e) forms
set_none q b [] values w e forms some = absurd (omega (arith, some))
set_none q b (p ∷ rest) values w e forms some = tt

-- Who makes a set's line gives it, where what is known beside it stays so.
pub set_given : (q : Problem) (w : Frame) (b : Option ℕ) (vertices values : List ℕ) (result : Result Name AllocError) (old new : Option (List Step)) (knows : List Form → Type 0) → Lasts knows
    → Goes w old new AnyForms (IsSetKept q b vertices values w result) → Goes w old new knows (GivesSet q w b vertices values result knows)
set_given q w b vertices values result old new knows lasts goes =
    goes_as w old new (λ forms. AnyForms forms × knows forms) (λ forms. IsSetKept q b vertices values w result forms × knows forms) knows (GivesSet q w b vertices values result knows) (λ forms known. (tt, known))
    (λ forms h. by result h.0 h.1) (goes_beside w old new AnyForms (IsSetKept q b vertices values w result) knows lasts goes)
  where
    by : {forms : List Form} (result : Result Name AllocError) → IsSetKept q b vertices values w result forms → knows forms → GivesSet q w b vertices values result knows forms
    by (Ok n) kept known = (known, kept)
    by (Err e) kept known = tt

-- ---- the reference to a set's line

pub set_pushed_none : (q : Problem) (b : Option ℕ) (vertices values : List ℕ) (w : Frame) (refs : List Ref) (forms : List Form) → length vertices ≡ 0 → Adds w refs refs (set_forms q b vertices values) forms
set_pushed_none q b [] values w refs forms none = record { more = []; front = sym (append-nil refs); named = tt }
set_pushed_none q b (p ∷ rest) values w refs forms none = absurd (omega (arith, none))

pub set_pushed_made : (q : Problem) (b : Option ℕ) (vertices values : List ℕ) (w : Frame) (n : Name) (old new : List Ref) (forms : List Form) → new ≡ old ++ Made n ∷ [] → IsSetKept q b vertices values w (Ok n) forms
    → Adds w old new (set_forms q b vertices values) forms
set_pushed_made q b [] values w n old new forms pushed kept = absurd kept
set_pushed_made q b (p ∷ rest) values w n old new forms pushed kept = record { more = Made n ∷ []; front = pushed; named = (kept, tt) }

-- The reference to a crowd's.
pub crowd_pushed_none : (q : Problem) (p t : ℕ) (vertices values : List ℕ) (w : Frame) (refs : List Ref) (forms : List Form) → length vertices ≡ 0 → Adds w refs refs (crowd_forms q p t vertices values) forms
crowd_pushed_none q p t [] values w refs forms none = record { more = []; front = sym (append-nil refs); named = tt }
crowd_pushed_none q p t (r ∷ rest) values w refs forms none = absurd (omega (arith, none))
