-- What pushing the references of a change, or of an end, comes to.
use Rattle.std.proofs.Common.{◌≡◌, ℕ, ◌<◌, Bool, List, [], ◌∷◌, ◌++◌, Option, Some, Result, Ok, Err, OnOk, inl, inr, refl, sym, ap, subst, ◌∙◌, append_assoc}
use Rattle.std.specs.Prelude.{slice_get}
use Rattle.std.specs.List.{slice_range}
use Rattle.std.specs.declared.alloc.AllocError.{AllocError}
use Rattle.graph_theory.specs.Graph.{size}
use Rattle.graph_theory.specs.Embedding.{Problem}
use Rattle.graph_theory.specs.declared.direction.Direction.{Direction}
use Rattle.proof_theory.specs.Forms.{Form}
use Rattle.log_theory.specs.declared.step.Ref.{Ref}
use Rattle.log_theory.specs.declared.step.Step.{Step}
use Rattle.encoding_theory.specs.Encoding.{at_least, at_most, leads_form, pair_form}
use Rattle.explanation_theory.specs.Reasons.{pairs_clause, at_leasts}
use Rattle.nogood_book.specs.declared.row.Row.{Row}
use Rattle.nogood_book.specs.Rows.{path_at}
use Rattle.nogood_book.specs.Places.{IsNogoodRow}
use Rattle.recorder.specs.declared.change.Cause.{Cause}
use Rattle.recorder.specs.declared.change.Cause.TheVariants as cause
use Rattle.recorder.specs.declared.change.What.{What}
use Rattle.recorder.specs.declared.change.What.TheVariants.{One, Others, Over}
use Rattle.recorder.specs.declared.change.Place.{Place}
use Rattle.recorder.specs.Recording.{change_by}
use Rattle.recorder.specs.Telling.{Joins}
use Rattle.recorder.specs.declared.change.Side.{Side}
use Rattle.recorder.specs.Telling.{end_beside, is_beside}
use Rattle.dead_theory.specs.Changes.{IsEndOf, Chosen, known_after, ExplainsChange, ExplainAll, set_forms, crowd_forms}
use Rattle.log_growth.specs.Frames.{Frame, IsFrameOf, IsNamed, AreNamed, AnyForms, Goes, Lasts}
use Rattle.log_growth.proofs.Going.{goes_stay, goes_as, goes_then, goes_beside}
use Rattle.log_growth.proofs.Naming.{named_later, are_named_later, named_behind, named_pushed}
use Rattle.dead_paths.specs.Lines.{at_least_ref, at_most_ref, edge_ref, order_ref, at_least_refs}
use Rattle.dead_paths.specs.Making.{IsRowLine, GivesFirst, GivesRow, AreRowsNamed}
use Rattle.dead_paths.specs.Choosing.{asked_of}
use Rattle.dead_paths.specs.Explaining.{IsLimited, Explained, Knowing, Adds, AddsFor, AddsNogood, MayAdd, IsSetPushed, IsCrowdPushed, IsChangePushed, AreChangesPushed}
use Rattle.dead_paths.proofs.LineRefs.{at_least_named, at_most_named, joins_pair, edge_named, order_named, at_leasts_named}

-- ---- pushing

pub adds_one : (w : Frame) (old new : List Ref) (r : Ref) (f : Form) (forms : List Form) → new ≡ old ++ r ∷ [] → IsNamed w forms r f → Adds w old new (f ∷ []) forms
adds_one w old new r f forms is n = record { more = r ∷ []; front = is; named = (n, tt) }

adds_two : (w : Frame) (old mid new : List Ref) (r s : Ref) (f g : Form) (forms : List Form) → mid ≡ old ++ r ∷ [] → new ≡ mid ++ s ∷ [] → IsNamed w forms r f → IsNamed w forms s g
    → Adds w old new (f ∷ g ∷ []) forms
adds_two w old mid new r s f g forms first then_ n m = record {
  more = r ∷ s ∷ [];
  front = then_ ∙ ap (λ (xs : List Ref). xs ++ s ∷ []) first ∙ append_assoc old (r ∷ []) (s ∷ []);
  named = (n, (m, tt));
}

-- What is pushed without a line being kept.
pub pure_goes : (w : Frame) (kept : Option (List Step)) (result : Result (Unit {0}) AllocError) (old new more : List Ref) (fs : List Form) (knows Before : List Form → Type 0) → OnOk result (new ≡ old ++ more)
    → ((forms : List Form) → Before forms → AreNamed w forms more fs) → Goes w kept kept (Knowing knows Before) (λ forms. OnOk result (knows forms × Adds w old new fs forms))
pure_goes w kept result old new more fs knows Before pushed named =
    goes_stay w kept kept (Knowing knows Before) (λ forms. OnOk result (knows forms × Adds w old new fs forms)) refl (λ forms h. by result pushed forms h)
  where
    by : (result : Result (Unit {0}) AllocError) → OnOk result (new ≡ old ++ more) → (forms : List Form) → Knowing knows Before forms → OnOk result (knows forms × Adds w old new fs forms)
    by (Ok u) is forms h = (h.0, record { more = more; front = is; named = named forms h.1 })
    by (Err e) is forms h = tt

-- The references that a nogood row needs name its forms.
pub nogood_named : (q : Problem) (rows : List Row) (owner : ℕ) (w : Frame) (names : ℕ → Ref) (known : List (ℕ × ℕ)) (but : Option ℕ) (forms : List Form) (k : ℕ) (old new : List Ref) → IsFrameOf q owner w
    → IsNogoodRow rows k → AreRowsNamed q rows w names forms → (h : AddsNogood q rows names known but k old new) → Adds w old new (at_leasts q h.vertices ++ pairs_clause q (path_at rows k) ∷ []) forms
nogood_named q rows owner w names known but forms k old new frame nogood named h = record {
  more = at_least_refs q h.vertices ++ names k ∷ [];
  front = h.front;
  named = named_pushed w forms (at_least_refs q h.vertices) (at_leasts q h.vertices) (names k) (pairs_clause q (path_at rows k)) (at_leasts_named q owner w forms h.vertices frame h.inside) (named k nogood);
}

-- ---- causes

module _ (q : Problem) (rows : List Row) (known : List (ℕ × ℕ)) (w : Frame) (names : ℕ → Ref) (knows now : List Form → Type 0) (a b : Option (List Step)) (numbers : List ℕ) (what : What) (from : ℕ) (by_edges : Bool) where
  -- A first domain.
  pub first_goes : (r : ℕ) (why : Cause) (old new : List Ref) (line : Ref) → what ≡ One r why → why ≡ cause.First → new ≡ old ++ line ∷ [] → Goes w a b knows (GivesFirst q w r (Ok line) now)
      → Goes w a b (Knowing knows (AreRowsNamed q rows w names)) (IsChangePushed q rows known (asked_of by_edges (change_by numbers what from)) w old new now (Ok tt))
  first_goes r why old new line is by_first pushed given =
      let at : what ≡ One r cause.First = is ∙ ap (λ (c : Cause). let x : What = One r c in x) by_first in
      goes_as w a b knows (GivesFirst q w r (Ok line) now) (Knowing knows (AreRowsNamed q rows w names)) (IsChangePushed q rows known (asked_of by_edges (change_by numbers what from)) w old new now (Ok tt)) (λ forms h. h.0)
      (λ forms h. (
        h.0,
        record {
          own = h.1.line ∷ [];
          explains = subst (λ (x : What). ExplainsChange q rows known (asked_of by_edges (change_by numbers x from)) (h.1.line ∷ [])) (sym at) (h.1.line, refl, h.1.forces);
          adds = adds_one w old new line h.1.line forms pushed h.1.named;
        },
      )) given

  -- A decided vertex.
  pub row_goes : (owner p t r : ℕ) (why : Cause) (old mid new : List Ref) (line : Ref) → IsFrameOf q owner w → p < size q.pattern → what ≡ One r why → why ≡ cause.Vertex p t
      → MayAdd q known p t old mid → new ≡ mid ++ line ∷ [] → Goes w a b knows (GivesRow by_edges q w p t r (Ok line) now)
      → Goes w a b (Knowing knows (AreRowsNamed q rows w names)) (IsChangePushed q rows known (asked_of by_edges (change_by numbers what from)) w old new now (Ok tt))
  row_goes owner p t r why old mid new line frame inside is by_vertex begun pushed given =
      let at : what ≡ One r (cause.Vertex p t) = is ∙ ap (λ (c : Cause). let x : What = One r c in x) by_vertex in
      goes_as w a b knows (GivesRow by_edges q w p t r (Ok line) now) (Knowing knows (AreRowsNamed q rows w names)) (IsChangePushed q rows known (asked_of by_edges (change_by numbers what from)) w old new now (Ok tt)) (λ forms h. h.0)
      (λ forms h. (h.0, by at forms h.1 begun)) given
    where
      by : what ≡ One r (cause.Vertex p t) → (forms : List Form) → IsRowLine by_edges q w p t r line forms → MayAdd q known p t old mid → AddsFor q rows known (asked_of by_edges (change_by numbers what from)) w old new forms
      by at forms h (inl held) = record {
        own = h.line ∷ [];
        explains = subst (λ (x : What). ExplainsChange q rows known (asked_of by_edges (change_by numbers x from)) (h.line ∷ [])) (sym at) (h.line, inl (refl, held.1), h.forces);
        adds = adds_one w old new line h.line forms (pushed ∙ ap (λ (xs : List Ref). xs ++ line ∷ []) held.0) h.named;
      }
      by at forms h (inr begun_) = record {
        own = at_least q p ∷ h.line ∷ [];
        explains = subst (λ (x : What). ExplainsChange q rows known (asked_of by_edges (change_by numbers x from)) (at_least q p ∷ h.line ∷ [])) (sym at) (h.line, inr refl, h.forces);
        adds = adds_two w old mid new (at_least_ref q p) line (at_least q p) h.line forms begun_ pushed (at_least_named q owner w forms p frame inside) h.named;
      }

  -- A set.
  pub set_goes_on : (centre : Option ℕ) (k : Place) (old new : List Ref) (result : Result (Unit {0}) AllocError) → what ≡ Others centre k
      → Goes w a b knows (IsSetPushed q centre (slice_range numbers k.start k.middle) (slice_range numbers k.middle k.end) w old new now result)
      → Goes w a b (Knowing knows (AreRowsNamed q rows w names)) (IsChangePushed q rows known (asked_of by_edges (change_by numbers what from)) w old new now result)
  set_goes_on centre k old new result is goes =
      goes_as w a b knows (IsSetPushed q centre (slice_range numbers k.start k.middle) (slice_range numbers k.middle k.end) w old new now result) (Knowing knows (AreRowsNamed q rows w names))
      (IsChangePushed q rows known (asked_of by_edges (change_by numbers what from)) w old new now result) (λ forms h. h.0) (λ forms h. by result forms h) goes
    where
      by : (result : Result (Unit {0}) AllocError) (forms : List Form) → IsSetPushed q centre (slice_range numbers k.start k.middle) (slice_range numbers k.middle k.end) w old new now result forms
          → IsChangePushed q rows known (asked_of by_edges (change_by numbers what from)) w old new now result forms
      by (Ok u) forms h = (
        h.0,
        record {
          own = set_forms q centre (slice_range numbers k.start k.middle) (slice_range numbers k.middle k.end);
          explains = subst (λ (x : What). ExplainsChange q rows known (asked_of by_edges (change_by numbers x from)) (set_forms q centre (slice_range numbers k.start k.middle) (slice_range numbers k.middle k.end))) (sym is) refl;
          adds = h.1;
        },
      )
      by (Err e) forms h = tt

  -- A crowd, of which the maker need know nothing.
  pub crowd_goes_on : (p t : ℕ) (direction : Direction) (k : Place) (old new : List Ref) (result : Result (Unit {0}) AllocError) → Lasts knows → what ≡ Over p t direction k
      → Goes w a b AnyForms (IsCrowdPushed q p t (slice_range numbers k.start k.middle) (slice_range numbers k.middle k.end) w old new result)
      → Goes w a b (Knowing knows (AreRowsNamed q rows w names)) (IsChangePushed q rows known (asked_of by_edges (change_by numbers what from)) w old new knows result)
  crowd_goes_on p t direction k old new result lasts is goes =
      goes_as w a b (λ forms. AnyForms forms × knows forms) (λ forms. IsCrowdPushed q p t (slice_range numbers k.start k.middle) (slice_range numbers k.middle k.end) w old new result forms × knows forms) (Knowing knows (AreRowsNamed q rows w names))
      (IsChangePushed q rows known (asked_of by_edges (change_by numbers what from)) w old new knows result) (λ forms h. (tt, h.0)) (λ forms h. by result forms h.0 h.1)
      (goes_beside w a b AnyForms (IsCrowdPushed q p t (slice_range numbers k.start k.middle) (slice_range numbers k.middle k.end) w old new result) knows lasts goes)
    where
      by : (result : Result (Unit {0}) AllocError) (forms : List Form) → IsCrowdPushed q p t (slice_range numbers k.start k.middle) (slice_range numbers k.middle k.end) w old new result forms → knows forms
          → IsChangePushed q rows known (asked_of by_edges (change_by numbers what from)) w old new knows result forms
      by (Ok u) forms adds kept = (
        kept,
        record {
          own = crowd_forms q p t (slice_range numbers k.start k.middle) (slice_range numbers k.middle k.end);
          explains = subst (λ (x : What). ExplainsChange q rows known (asked_of by_edges (change_by numbers x from)) (crowd_forms q p t (slice_range numbers k.start k.middle) (slice_range numbers k.middle k.end))) (sym is) refl;
          adds = adds;
        },
      )
      by (Err e) forms adds kept = tt

module _ (q : Problem) (rows : List Row) (known : List (ℕ × ℕ)) (w : Frame) (names : ℕ → Ref) (knows : List Form → Type 0) (kept : Option (List Step)) (numbers : List ℕ) (what : What) (from : ℕ) (by_edges : Bool) where
  -- A guess.
  pub guess_goes : (owner t r : ℕ) (why : Cause) (old new : List Ref) (ref : Ref) → IsFrameOf q owner w → r < size q.pattern → what ≡ One r why → why ≡ cause.Guess t → ref ≡ at_most_ref q r → new ≡ old ++ ref ∷ []
      → Goes w kept kept (Knowing knows (AreRowsNamed q rows w names)) (IsChangePushed q rows known (asked_of by_edges (change_by numbers what from)) w old new knows (Ok tt))
  guess_goes owner t r why old new ref frame inside is by_guess ref_is pushed =
      let at : what ≡ One r (cause.Guess t) = is ∙ ap (λ (c : Cause). let x : What = One r c in x) by_guess in
      goes_stay w kept kept (Knowing knows (AreRowsNamed q rows w names)) (IsChangePushed q rows known (asked_of by_edges (change_by numbers what from)) w old new knows (Ok tt)) refl
      (λ forms h. (
        h.0,
        record {
          own = at_most q r ∷ [];
          explains = subst (λ (x : What). ExplainsChange q rows known (asked_of by_edges (change_by numbers x from)) (at_most q r ∷ [])) (sym at) refl;
          adds = adds_one w old new ref (at_most q r) forms pushed (subst (λ (x : Ref). IsNamed w forms x (at_most q r)) (sym ref_is) (at_most_named q owner w forms r frame inside));
        },
      ))

  -- An edge.
  pub edge_goes : (owner p u r : ℕ) (direction : Direction) (why : Cause) (old new : List Ref) (ref : Ref) → IsFrameOf q owner w → Joins q direction p r → u < size q.target → what ≡ One r why → why ≡ cause.Edge p u direction
      → ref ≡ edge_ref q r p u → new ≡ old ++ ref ∷ []
      → Goes w kept kept (Knowing knows (AreRowsNamed q rows w names)) (IsChangePushed q rows known (asked_of by_edges (change_by numbers what from)) w old new knows (Ok tt))
  edge_goes owner p u r direction why old new ref frame joins u_in is by_edge ref_is pushed =
      let at : what ≡ One r (cause.Edge p u direction) = is ∙ ap (λ (c : Cause). let x : What = One r c in x) by_edge in
      goes_stay w kept kept (Knowing knows (AreRowsNamed q rows w names)) (IsChangePushed q rows known (asked_of by_edges (change_by numbers what from)) w old new knows (Ok tt)) refl
      (λ forms h. (
        h.0,
        record {
          own = pair_form q r p u ∷ [];
          explains = subst (λ (x : What). ExplainsChange q rows known (asked_of by_edges (change_by numbers x from)) (pair_form q r p u ∷ [])) (sym at) refl;
          adds = adds_one w old new ref (pair_form q r p u) forms pushed
              (subst (λ (x : Ref). IsNamed w forms x (pair_form q r p u)) (sym ref_is) (edge_named q owner w forms r p u frame joins.other_in joins.vertex_in u_in (joins_pair q direction p r joins)));
        },
      ))

  -- A pair that is to be in order.
  pub order_goes : (owner k u r : ℕ) (side : Side) (why : Cause) (old new : List Ref) (ref : Ref) → IsFrameOf q owner w → IsLimited q → IsEndOf q k side r → u < size q.target → what ≡ One r why → why ≡ cause.Order k u side
      → ((x : ℕ × ℕ) → slice_get q.less k ≡ Some x → ref ≡ order_ref q k x side u) → new ≡ old ++ ref ∷ []
      → Goes w kept kept (Knowing knows (AreRowsNamed q rows w names)) (IsChangePushed q rows known (asked_of by_edges (change_by numbers what from)) w old new knows (Ok tt))
  order_goes owner k u r side why old new ref frame limited end u_in is by_order ref_is pushed =
      let at : what ≡ One r (cause.Order k u side) = is ∙ ap (λ (c : Cause). let x : What = One r c in x) by_order in
      let form : Form = leads_form q r u (end_beside side end.pair) (is_beside side u) in
      goes_stay w kept kept (Knowing knows (AreRowsNamed q rows w names)) (IsChangePushed q rows known (asked_of by_edges (change_by numbers what from)) w old new knows (Ok tt)) refl
      (λ forms h. (
        h.0,
        record {
          own = form ∷ [];
          explains = subst (λ (x : What). ExplainsChange q rows known (asked_of by_edges (change_by numbers x from)) (form ∷ [])) (sym at) (record { pair = end.pair; pair_is = end.pair_is; are = refl });
          adds = adds_one w old new ref form forms pushed
              (subst (λ (x : Ref). IsNamed w forms x form) (sym (ref_is end.pair end.pair_is))
              (subst (λ (p : ℕ). IsNamed w forms (order_ref q k end.pair side u) (leads_form q p u (end_beside side end.pair) (is_beside side u))) end.end_is (order_named q owner w forms k u end.pair side frame limited end.pair_is u_in)));
        },
      ))

  -- A nogood.
  pub nogood_goes : (owner name r : ℕ) (why : Cause) (old new : List Ref) (result : Result (Unit {0}) AllocError) → IsFrameOf q owner w → IsNogoodRow rows name → what ≡ One r why
      → why ≡ cause.Nogood name → OnOk result (AddsNogood q rows names known (Some r) name old new)
      → Goes w kept kept (Knowing knows (AreRowsNamed q rows w names)) (IsChangePushed q rows known (asked_of by_edges (change_by numbers what from)) w old new knows result)
  nogood_goes owner name r why old new result frame nogood is by_nogood pushed =
      let at : what ≡ One r (cause.Nogood name) = is ∙ ap (λ (c : Cause). let x : What = One r c in x) by_nogood in
      goes_stay w kept kept (Knowing knows (AreRowsNamed q rows w names)) (IsChangePushed q rows known (asked_of by_edges (change_by numbers what from)) w old new knows result) refl (λ forms h. by at result pushed forms h)
    where
      by : what ≡ One r (cause.Nogood name) → (result : Result (Unit {0}) AllocError) → OnOk result (AddsNogood q rows names known (Some r) name old new) → (forms : List Form)
          → Knowing knows (AreRowsNamed q rows w names) forms → IsChangePushed q rows known (asked_of by_edges (change_by numbers what from)) w old new knows result forms
      by at (Ok u) adds forms h = (
        h.0,
        record {
          own = at_leasts q adds.vertices ++ pairs_clause q (path_at rows name) ∷ [];
          explains = subst (λ (x : What). ExplainsChange q rows known (asked_of by_edges (change_by numbers x from)) (at_leasts q adds.vertices ++ pairs_clause q (path_at rows name) ∷ [])) (sym at) (adds.vertices, refl, adds.borne);
          adds = nogood_named q rows owner w names known (Some r) forms name old new frame nogood h.1 adds;
        },
      )
      by at (Err e) adds forms h = tt

  -- After a refusal nothing is claimed.
  pub none_goes : (c : Chosen) (old new : List Ref) (e : AllocError) → Goes w kept kept (Knowing knows (AreRowsNamed q rows w names)) (IsChangePushed q rows known c w old new knows (Err e))
  none_goes c old new e = goes_stay w kept kept (Knowing knows (AreRowsNamed q rows w names)) (IsChangePushed q rows known c w old new knows (Err e)) refl (λ forms h. tt)

-- ---- changes one after the other

pub rows_last : (q : Problem) (rows : List Row) (w : Frame) (names : ℕ → Ref) → Lasts (AreRowsNamed q rows w names)
rows_last q rows w names = λ forms more named k nogood. named_later w forms more (names k) (pairs_clause q (path_at rows k)) (named k nogood)

pub explained_last : (q : Problem) (rows : List Row) (path : List (ℕ × ℕ)) (w : Frame) (names : ℕ → Ref) (cs : List Chosen) (refs : List Ref) → Lasts (Explained q rows path w names cs refs)
explained_last q rows path w names cs refs = λ forms more h. record {
  rows_named = rows_last q rows w names forms more h.rows_named;
  own = h.own;
  explained = h.explained;
  named = are_named_later w forms more refs h.own h.named;
}

-- One more.
explained_next : (q : Problem) (rows : List Row) (path : List (ℕ × ℕ)) (w : Frame) (names : ℕ → Ref) (cs : List Chosen) (c : Chosen) (old new : List Ref) (forms : List Form) → Explained q rows path w names cs old forms
    → AddsFor q rows (known_after path cs) c w old new forms → Explained q rows path w names (c ∷ cs) new forms
explained_next q rows path w names cs c old new forms h adds = record {
  rows_named = h.rows_named;
  own = h.own ++ adds.own;
  explained = (h.own, adds.own, refl, h.explained, adds.explains);
  named = subst (λ (rs : List Ref). AreNamed w forms rs (h.own ++ adds.own)) (sym adds.adds.front) (named_behind w forms old h.own adds.adds.more adds.own h.named adds.adds.named);
}

pub explained_goes : (q : Problem) (rows : List Row) (path : List (ℕ × ℕ)) (w : Frame) (names : ℕ → Ref) (knows mid now : List Form → Type 0) (a b c : Option (List Step)) (cs : List Chosen) (change : Chosen) (old new : List Ref)
    → Goes w a b (Knowing knows (AreRowsNamed q rows w names)) (Knowing mid (Explained q rows path w names cs old))
    → Goes w b c (Knowing mid (AreRowsNamed q rows w names)) (IsChangePushed q rows (known_after path cs) change w old new now (Ok tt))
    → Goes w a c (Knowing knows (AreRowsNamed q rows w names)) (Knowing now (Explained q rows path w names (change ∷ cs) new))
explained_goes q rows path w names knows mid now a b c cs change old new before one =
    goes_then w a b c (Knowing knows (AreRowsNamed q rows w names)) (Knowing mid (Explained q rows path w names cs old)) (Knowing now (Explained q rows path w names (change ∷ cs) new)) before
    (goes_as w b c (λ forms. Knowing mid (AreRowsNamed q rows w names) forms × Explained q rows path w names cs old forms)
    (λ forms. IsChangePushed q rows (known_after path cs) change w old new now (Ok tt) forms × Explained q rows path w names cs old forms) (Knowing mid (Explained q rows path w names cs old)) (Knowing now (Explained q rows path w names (change ∷ cs) new))
    (λ forms h. ((h.0, h.1.rows_named), h.1)) (λ forms h. (h.0.0, explained_next q rows path w names cs change old new forms h.1 h.0.1))
    (goes_beside w b c (Knowing mid (AreRowsNamed q rows w names)) (IsChangePushed q rows (known_after path cs) change w old new now (Ok tt)) (Explained q rows path w names cs old) (explained_last q rows path w names cs old) one))

-- None yet.
pub explained_none : (q : Problem) (rows : List Row) (path : List (ℕ × ℕ)) (w : Frame) (names : ℕ → Ref) (knows : List Form → Type 0) (kept : Option (List Step)) (cs : List Chosen) (refs : List Ref) → cs ≡ [] → refs ≡ []
    → Goes w kept kept (Knowing knows (AreRowsNamed q rows w names)) (Knowing knows (Explained q rows path w names cs refs))
explained_none q rows path w names knows kept cs refs none empty =
    goes_stay w kept kept (Knowing knows (AreRowsNamed q rows w names)) (Knowing knows (Explained q rows path w names cs refs)) refl (λ forms h. (
      h.0,
      record {
        rows_named = h.1;
        own = [];
        explained = subst (λ (xs : List Chosen). ExplainAll q rows path xs []) (sym none) refl;
        named = subst (λ (rs : List Ref). AreNamed w forms rs []) (sym empty) tt;
      },
    ))

-- After a refusal nothing is claimed of the changes.
pub explained_refused : (q : Problem) (rows : List Row) (path : List (ℕ × ℕ)) (w : Frame) (names : ℕ → Ref) (knows mid now last : List Form → Type 0) (a b c : Option (List Step)) (cs all : List Chosen) (change : Chosen)
    (old new refs : List Ref) (result : Result (Unit {0}) AllocError) (x : AllocError) → Goes w a b (Knowing knows (AreRowsNamed q rows w names)) (Knowing mid (Explained q rows path w names cs old))
    → Goes w b c (Knowing mid (AreRowsNamed q rows w names)) (IsChangePushed q rows (known_after path cs) change w old new now result)
    → Goes w a c (Knowing knows (AreRowsNamed q rows w names)) (AreChangesPushed q rows path w names all refs last (Err x))
explained_refused q rows path w names knows mid now last a b c cs all change old new refs result x before one =
    goes_then w a b c (Knowing knows (AreRowsNamed q rows w names)) (Knowing mid (Explained q rows path w names cs old)) (AreChangesPushed q rows path w names all refs last (Err x)) before
    (goes_as w b c (Knowing mid (AreRowsNamed q rows w names)) (IsChangePushed q rows (known_after path cs) change w old new now result) (Knowing mid (Explained q rows path w names cs old))
    (AreChangesPushed q rows path w names all refs last (Err x)) (λ forms h. (h.0, h.1.rows_named)) (λ forms h. tt) one)
