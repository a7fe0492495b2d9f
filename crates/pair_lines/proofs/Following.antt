-- The lines may be kept, and what they force.
use Rattle.std.proofs.Common.{◌≡◌, ℕ, ◌^◌, ◌<◌, ◌==◌, Bool, true, false, ◌||◌, cond, List, [], ◌∷◌, ◌++◌, refl, sym, ap, subst, ◌∙◌, arith, Option, Some, None, Result, Ok, Err, inl, inr, ◌⊎◌}
use Rattle.std.specs.Prelude.{IsSome}
use Rattle.std.specs.declared.alloc.AllocError.{AllocError}
use Rattle.std.proofs.lemmas.Bool.{cases_eq, eq-eqb, ne_eqb}
use Rattle.graph_theory.specs.Graph.{size}
use Rattle.graph_theory.specs.Embedding.{Problem}
use Rattle.graph_theory.specs.Asked.{asked_shared}
use Rattle.proof_theory.specs.Forms.{Form}
use Rattle.log_theory.specs.declared.step.Name.{Name}
use Rattle.log_theory.specs.declared.step.Ref.{Ref}
use Rattle.log_theory.specs.declared.step.Ref.TheVariants.{Made, Shared}
use Rattle.log_theory.specs.declared.step.Op.{Op}
use Rattle.log_theory.specs.declared.step.Op.TheVariants.{Push}
use Rattle.log_theory.specs.declared.step.Step.{Step}
use Rattle.log_theory.specs.declared.step.Step.TheVariants.{P}
use Rattle.log_theory.specs.Lookups.{Lookup, makes}
use Rattle.log_theory.specs.LogText.{IsName, AreOps}
use Rattle.journal_theory.specs.Journals.{Finds, HoldsOwn}
use Rattle.encoding_theory.specs.Variables.{variables}
use Rattle.encoding_theory.specs.Pairs.{is_edge_pair, is_non_edge_pair}
use Rattle.encoding_theory.specs.Encoding.{at_most, at_most_in, pair_form}
use Rattle.pair_line_theory.specs.Operations.{FindsEncoding}
use Rattle.encoding_theory.specs.Places.{at_most_place, at_most_place_in}
use Rattle.encoding_theory.proofs.PlaceProofs.{place_laws}
use Rattle.explanation_theory.specs.Reasons.{ForcesBeside, ForcesByEdges}
use Rattle.pair_line_theory.specs.Rows.{is_paired, at_most_line, edge_line, non_edge_line, spread_form}
use Rattle.pair_line_theory.specs.Laws.{IsPlace, FindsSpread, RowMakes}
use Rattle.pair_line_theory.proofs.Making.{row_laws}
use Rattle.forcing_theory.specs.Sums.{IsSmall}
use Rattle.log_growth.specs.Frames.{Frame, IsFrameOf, IsNamed, MayFollow, IsKept, Goes, AnyForms}
use Rattle.log_growth.specs.Rows.{Widens}
use Rattle.log_growth.proofs.Rows.{named_wider}
use Rattle.graph_theory.specs.Reversed.{reversed_problem}
use Rattle.pair_line_theory.specs.Laws.{ForcesShared}
use Rattle.log_growth.proofs.Going.{goes_as, goes_beside, goes_then}
use Rattle.log_growth.proofs.Naming.{named_later}
use Rattle.pair_lines.specs.declared.pair_lines.PairLines.{PairLines}
use Rattle.pair_lines.specs.declared.sharing.Sharing.{Sharing}
use Rattle.pair_lines.specs.declared.sharing.Sharing.TheVariants.{Nothing, One, Many}
use Rattle.pair_lines.specs.declared.meeting.Meeting.{Meeting}
use Rattle.pair_lines.specs.declared.meeting.Meeting.TheVariants.{Never, Around, May}
use Rattle.pair_lines.specs.Choices.{IsWithin, IsSharing, IsMeeting, own_line, entry_at, pair_key, pair_name, name_or_none, spread_ref, alone_line, alone_form, own_ops, own_form, plain_form, row_ops, row_form}
use Rattle.pair_lines.proofs.Meetings.{never_needs, may_needs, sharing_count}
use Rattle.pair_lines.specs.declared.turned_names.Spreads.{Spreads}
use Rattle.pair_lines.specs.Claims.{HasEncoding, AreSpreads, AreTurned, HasAround, IsSharedLine, IsSharedRow, IsRowLine, IsRow, IsLineOf, IsRowNamed, AreRows, Knows, IsKnownRow, IsThere}
use Rattle.pair_lines.proofs.Spreading.{finds_encoding, good_follows, spreads_last, spreads_wider}
use Rattle.pair_lines.proofs.Turning.{frame_of, serve_out, turned_last}
use Rattle.pair_lines.proofs.Good.{good_ops, good_row_ops, good_own_row, whole_there}

-- One reference alone makes its form.
pushed_made : (look : Lookup) (name : Name) (ref : Ref) (f : Form) → look ref ≡ Some f → makes look (P name (Push ref ∷ [])) ≡ Ok f
pushed_made look name ref f found = rw found

-- ---- the line of a pair

module _ (q : Problem) (plain : IsWithin q) (p t r : ℕ) (place : IsPlace q p t r) where
  -- Where the pair has a line of its own it is found, and where it has none the pair is none of those that have.
  abbrev pub OwnFound : Lookup → Option Ref → Type 0
  OwnFound look None = Unit {0}
  OwnFound look (Some own) = look own ≡ Some (pair_form q p r t)

  pub own_found : (look : Lookup) → FindsEncoding q look → OwnFound look (own_line q p r t)
  own_found look finds = by (is_edge_pair q p r) refl (is_non_edge_pair q p r) refl
    where
      by : (b : Bool) → is_edge_pair q p r ≡ b → (c : Bool) → is_non_edge_pair q p r ≡ c → OwnFound look (cond b (Some (edge_line q p r t)) (cond c (Some (non_edge_line q p r t)) None))
      by true is c other = ((row_laws q plain.limits).makes look finds).edge p t r place is
      by false unjoined true is = ((row_laws q plain.limits).makes look finds).non_edge p t r place is
      by false unjoined false none = tt

  abbrev pub OwnSays : Option Ref → Type 0
  OwnSays None = is_paired q p r ≡ false
  OwnSays (Some own) = Unit {0}

  pub own_says : OwnSays (own_line q p r t)
  own_says = by (is_edge_pair q p r) refl (is_non_edge_pair q p r) refl
    where
      by : (b : Bool) → is_edge_pair q p r ≡ b → (c : Bool) → is_non_edge_pair q p r ≡ c → OwnSays (cond b (Some (edge_line q p r t)) (cond c (Some (non_edge_line q p r t)) None))
      by true is c other = tt
      by false unjoined true is = tt
      by false unjoined false none = ap (λ (b : Bool). b || is_non_edge_pair q p r) unjoined ∙ none

  at_place : (v : ℕ) → v < size q.target → IsPlace q p v r
  at_place v v_in = record { first = place.first; place = v_in; second = place.second; others = place.others }

  plain_forces : (meeting : Meeting) → IsMeeting q p r meeting → asked_shared q p r ≡ 0 → (o : Option Ref) → OwnSays o → ForcesShared q (plain_form q meeting o p t r) p t r
  plain_forces Never meets none (Some own) says = (row_laws q plain.limits).forces.beside p t r place none (never_needs q p r meets)
  plain_forces (Around c) meets none (Some own) says = (row_laws q plain.limits).forces.near (Some c) p t r place none meets.1
  plain_forces May meets none (Some own) says = (row_laws q plain.limits).forces.beside p t r place none (may_needs q p r meets)
  plain_forces Never meets none None says = (row_laws q plain.limits).forces.alone None p t r place none (record { first = refl; second = refl }) says
  plain_forces (Around c) meets none None says = (row_laws q plain.limits).forces.alone (Some c) p t r place none meets.1 says
  plain_forces May meets none None says = (row_laws q plain.limits).forces.free (at_most q r) p t r place none (record { may_meet = meets; unpaired = says })

  row_forces : (sharing : Sharing) (meeting : Meeting) → IsSharing q p r sharing → IsMeeting q p r meeting → ForcesShared q (row_form q sharing meeting (own_line q p r t) p t r) p t r
  row_forces sharing meeting shares meets = by sharing shares (own_line q p r t) own_says
    where
      by : (sh : Sharing) → IsSharing q p r sh → (o : Option Ref) → OwnSays o → ForcesShared q (row_form q sh meeting o p t r) p t r
      by Nothing none o says = plain_forces meeting meets none o says
      by (One m) one (Some own) says = (row_laws q plain.limits).forces.joined p t r place (let n = sharing_count q p r 1 one.3 one.0 in omega (arith, n))
      by (One m) one None says = (row_laws q plain.limits).forces.apart p t r place (let n = sharing_count q p r 1 one.3 one.0 in omega (arith, n)) says
      by (Many c) many (Some own) says = (row_laws q plain.limits).forces.joined p t r place (let n = sharing_count q p r c many.2 many.0 in omega (arith, n, many.1))
      by (Many c) many None says = (row_laws q plain.limits).forces.apart p t r place (let n = sharing_count q p r c many.2 many.0 in omega (arith, n, many.1)) says

  spread_found : (w : Frame) (owner : ℕ) (names : List (ℕ × Name)) (forms : List Form) (look : Lookup) → HasEncoding q owner w → AreSpreads w q names forms → Finds w.base look → HoldsOwn w.owner forms look → (sharing : Sharing) → IsSharing q p r sharing
      → HasAround q names sharing p t r → 0 < asked_shared q p r → FindsSpread q look (spread_ref q names sharing p r) p t r
  spread_found w owner names forms look frame spreads finds own Nothing none around some v v_in near = absurd (omega (arith, none, some))
  spread_found w owner names forms look frame spreads finds own (One m) one around some v v_in near =
      ((row_laws q plain.limits).makes look (finds_encoding q owner w look frame finds)).one_spread m p v r (at_place v v_in) one.1 one.0 one.2
  spread_found w owner names forms look frame spreads finds own (Many c) many around some v v_in near = by (pair_name names p r v) refl (around v v_in near)
    where
      by : (o : Option Name) → pair_name names p r v ≡ o → IsSome o → look (name_or_none o) ≡ Some (spread_form q p r v)
      by (Some n) is there = (spreads.named p r v n place.first place.second v_in is).found look finds own
      by None is there = absurd (nothing there)
        where
          nothing : let o : Option Name = None in IsSome o → ⊥
          nothing h = cc

  own_made : (look : Lookup) (name : Name) (mine : Ref) (meeting : Meeting) → FindsEncoding q look → IsMeeting q p r meeting → look mine ≡ Some (pair_form q p r t) → makes look (P name (own_ops q meeting mine t r)) ≡ Ok (own_form q meeting p t r)
  own_made look name mine Never encoded meets found = ((row_laws q plain.limits).makes look encoded).beside name mine p t r place found
  own_made look name mine (Around c) encoded meets found = ((row_laws q plain.limits).makes look encoded).near (Some c) name mine p t r place meets.0 found
  own_made look name mine May encoded meets found = ((row_laws q plain.limits).makes look encoded).beside name mine p t r place found

  alone_made : (look : Lookup) (name : Name) (meeting : Meeting) → FindsEncoding q look → IsMeeting q p r meeting → makes look (P name (Push (alone_line q meeting t r) ∷ [])) ≡ Ok (alone_form q meeting t r)
  alone_made look name Never encoded meets = ((row_laws q plain.limits).makes look encoded).alone None name p t r place (whole_there q meets)
  alone_made look name (Around c) encoded meets = ((row_laws q plain.limits).makes look encoded).alone (Some c) name p t r place meets.0
  alone_made look name May encoded meets = pushed_made look name (at_most_line q r) (at_most q r) (encoded.line (at_most_place q r) (at_most q r) ((place_laws q).at_most r place.second))

  row_made : (w : Frame) (owner : ℕ) (names : List (ℕ × Name)) (forms : List Form) (name : Name) (sharing : Sharing) (meeting : Meeting) (look : Lookup) → HasEncoding q owner w → AreSpreads w q names forms → IsSharing q p r sharing → IsMeeting q p r meeting
      → HasAround q names sharing p t r → Finds w.base look → HoldsOwn w.owner forms look → makes look (P name (row_ops q names sharing meeting (own_line q p r t) p t r)) ≡ Ok (row_form q sharing meeting (own_line q p r t) p t r)
  row_made w owner names forms name sharing meeting look frame spreads shares meets around finds own = by sharing shares around (own_line q p r t) (own_found look encoded)
    where
      encoded : FindsEncoding q look
      encoded = finds_encoding q owner w look frame finds

      laws : RowMakes q look
      laws = (row_laws q plain.limits).makes look (finds_encoding q owner w look frame finds)

      by : (sh : Sharing) → IsSharing q p r sh → HasAround q names sh p t r → (o : Option Ref) → OwnFound look o → makes look (P name (row_ops q names sh meeting o p t r)) ≡ Ok (row_form q sh meeting o p t r)
      by Nothing none a (Some mine) found = own_made look name mine meeting encoded meets found
      by Nothing none a None found = alone_made look name meeting encoded meets
      by (One m) one a (Some mine) found = laws.joined name mine (spread_ref q names (One m) p r) p t r place found (spread_found w owner names forms look frame spreads finds own (One m) one a (let n = sharing_count q p r 1 one.3 one.0 in omega (arith, n)))
      by (One m) one a None found = laws.apart name (spread_ref q names (One m) p r) p t r place one.3 (spread_found w owner names forms look frame spreads finds own (One m) one a (let n = sharing_count q p r 1 one.3 one.0 in omega (arith, n)))
      by (Many c) many a (Some mine) found = laws.joined name mine (spread_ref q names (Many c) p r) p t r place found (spread_found w owner names forms look frame spreads finds own (Many c) many a (let n = sharing_count q p r c many.2 many.0 in omega (arith, n, many.1)))
      by (Many c) many a None found = laws.apart name (spread_ref q names (Many c) p r) p t r place many.2 (spread_found w owner names forms look frame spreads finds own (Many c) many a (let n = sharing_count q p r c many.2 many.0 in omega (arith, n, many.1)))

  own_small : (meeting : Meeting) → IsSmall (2 ^ 40) (own_form q meeting p t r)
  own_small Never = (row_laws q plain.limits).sizes.beside p t r
  own_small (Around c) = (row_laws q plain.limits).sizes.near (Some c) p t r
  own_small May = (row_laws q plain.limits).sizes.beside p t r

  row_small : (sharing : Sharing) (meeting : Meeting) (own : Option Ref) → IsSmall (2 ^ 40) (row_form q sharing meeting own p t r)
  row_small Nothing meeting (Some mine) = own_small meeting
  row_small Nothing Never None = (row_laws q plain.limits).sizes.block None t
  row_small Nothing (Around c) None = (row_laws q plain.limits).sizes.block (Some c) t
  row_small Nothing May None = (row_laws q plain.limits).sizes.free r
  row_small (One m) meeting (Some mine) = (row_laws q plain.limits).sizes.joined p t r
  row_small (One m) meeting None = (row_laws q plain.limits).sizes.apart p t r
  row_small (Many c) meeting (Some mine) = (row_laws q plain.limits).sizes.joined p t r
  row_small (Many c) meeting None = (row_laws q plain.limits).sizes.apart p t r

  pub row_line_ops : (names : List (ℕ × Name)) → ((k : ℕ) (n : Name) → entry_at names k ≡ Some n → IsName n) → (sharing : Sharing) (meeting : Meeting) (ops : List Op) → ops ≡ row_ops q names sharing meeting (own_line q p r t) p t r
      → IsSharing q p r sharing → IsMeeting q p r meeting → AreOps ops
  row_line_ops names fit sharing meeting ops is shares meets = subst AreOps (sym is) (good_ops (variables q) (row_ops q names sharing meeting (own_line q p r t) p t r) (good_row_ops q plain names fit sharing meeting p t r shares meets place.first place.place place.second))

  pub row_follows : (owner : ℕ) (w : Frame) (forms : List Form) (name : Name) (names : List (ℕ × Name)) → ((k : ℕ) (n : Name) → entry_at names k ≡ Some n → IsName n) → (sharing : Sharing) (meeting : Meeting) (ops : List Op) → HasEncoding q owner w
      → ops ≡ row_ops q names sharing meeting (own_line q p r t) p t r → IsSharing q p r sharing → IsMeeting q p r meeting → HasAround q names sharing p t r → AreSpreads w q names forms
      → MayFollow w forms (P name ops) (row_form q sharing meeting (own_line q p r t) p t r)
  row_follows owner w forms name names fit sharing meeting ops frame is shares meets around spreads =
      subst (λ (os : List Op). MayFollow w forms (P name os) (row_form q sharing meeting (own_line q p r t) p t r)) (sym is)
      (good_follows q owner w forms name (row_ops q names sharing meeting (own_line q p r t) p t r) (row_form q sharing meeting (own_line q p r t) p t r) frame
      (good_row_ops q plain names fit sharing meeting p t r shares meets place.first place.place place.second) (row_small sharing meeting (own_line q p r t)) (λ look finds own. row_made w owner names forms name sharing meeting look frame spreads shares meets around finds own))

  -- A name of this form is that of a line for the pair.
  pub row_kept : (w : Frame) (result : Result Name AllocError) (sharing : Sharing) (meeting : Meeting) (forms : List Form) → IsSharing q p r sharing → IsMeeting q p r meeting → IsKept w result (row_form q sharing meeting (own_line q p r t) p t r) forms
      → IsSharedLine w q p t r result forms
  row_kept w (Ok n) sharing meeting forms shares meets kept = (row_form q sharing meeting (own_line q p r t) p t r, kept, row_forces sharing meeting shares meets)
  row_kept w (Err e) sharing meeting forms shares meets kept = tt

-- ---- one after the other

-- The lines that are missing, and then the line itself.
pub lines_join : (q : Problem) (p t r : ℕ) (w : Frame) (owner middle : ℕ) (a b c : Option (List Step)) (old new : List (ℕ × Name)) (result : Result Name AllocError) → middle ≡ owner → HasEncoding q owner w
    → ((f : Frame) → HasEncoding q owner f → Goes f a b (AreSpreads f q old) (AreSpreads f q new)) → ((f : Frame) → HasEncoding q middle f → Goes f b c (AreSpreads f q new) (IsSharedLine f q p t r result))
    → Goes w a c (AreSpreads w q old) (IsSharedRow w q p t r new result)
lines_join q p t r w owner middle a b c old new result stays frame first second =
    goes_then w a b c (AreSpreads w q old) (AreSpreads w q new) (IsSharedRow w q p t r new result) (first w frame)
    (goes_as w b c (λ forms. AreSpreads w q new forms × AreSpreads w q new forms) (λ forms. IsSharedLine w q p t r result forms × AreSpreads w q new forms) (AreSpreads w q new) (IsSharedRow w q p t r new result) (λ forms h. (h, h)) (λ forms k. (k.1, k.0))
    (goes_beside w b c (AreSpreads w q new) (IsSharedLine w q p t r result) (AreSpreads w q new) (λ forms more h. spreads_last w q new forms more h) (second w (subst (λ (o : ℕ). HasEncoding q o w) (sym stays) frame))))

-- Nothing but the lines that are missing.
pub lines_stop : (q : Problem) (p t r : ℕ) (w : Frame) (owner : ℕ) (a b : Option (List Step)) (old new : List (ℕ × Name)) (e : AllocError) → HasEncoding q owner w
    → ((f : Frame) → HasEncoding q owner f → Goes f a b (AreSpreads f q old) (AreSpreads f q new)) → Goes w a b (AreSpreads w q old) (IsSharedRow w q p t r new (Err e))
lines_stop q p t r w owner a b old new e frame first =
    goes_as w a b (AreSpreads w q old) (AreSpreads w q new) (AreSpreads w q old) (IsSharedRow w q p t r new (Err e)) (λ forms h. h) (λ forms h. (h, tt)) (first w frame)

pub row_alone : (w : Frame) (q : Problem) (p t r : ℕ) (a b : Option (List Step)) (old new : Spreads) (result : Result Name AllocError) → ((forms : List Form) → AreTurned w q old forms) → Goes w a b (AreTurned w q old) (IsRow w q p t r new result)
    → Goes w a b AnyForms (IsRowLine w q p t r result)
row_alone w q p t r a b old new result none goes =
    goes_as w a b (AreTurned w q old) (IsRow w q p t r new result) AnyForms (IsRowLine w q p t r result) (λ forms any. none forms) (λ forms k. k.1) goes

-- ---- all lines that were made

pub rows_last : (w : Frame) (q : Problem) (force : Form → ℕ → ℕ → ℕ → Type 0) (names : List (ℕ × Name)) (forms more : List Form) → AreRows w q force names forms → AreRows w q force names (forms ++ more)
rows_last w q force names forms more h = record { named = λ p t r n p_in t_in r_in is. let k = h.named p t r n p_in t_in r_in is in (k.0, named_later w forms more (Made n) k.0 k.1, k.2) }

rows_added : (w : Frame) (q : Problem) (force : Form → ℕ → ℕ → ℕ → Type 0) → IsWithin q → (old new : List (ℕ × Name)) (forms : List Form) (p t r : ℕ) (n : Name) → p < size q.pattern → t < size q.target → r < size q.pattern
    → ((k : ℕ) → entry_at new k ≡ cond (k == pair_key p r t) (Some n) (entry_at old k)) → IsLineOf w force p t r (Made n) forms → AreRows w q force old forms → AreRows w q force new forms
rows_added w q force plain old new forms p t r n p_in t_in r_in added named h = record { named = λ a u b m a_in u_in b_in is. by a u b m a_in u_in b_in is (cases_eq (pair_key a b u) (pair_key p r t)) }
  where
    by : (a u b : ℕ) (m : Name) → a < size q.pattern → u < size q.target → b < size q.pattern → pair_name new a b u ≡ Some m
        → (pair_key a b u ≡ pair_key p r t) ⊎ (pair_key a b u ≡ pair_key p r t → ⊥) → IsLineOf w force a u b (Made m) forms
    by a u b m a_in u_in b_in is (inl same) =
        let few = plain.limits.vertices_few in
        let less = plain.limits.targets_few in
        let a_is : p ≡ a = omega (arith, same, few, less, a_in, b_in, u_in, p_in, r_in, t_in) in
        let b_is : r ≡ b = omega (arith, same, few, less, a_in, b_in, u_in, p_in, r_in, t_in) in
        let u_is : t ≡ u = omega (arith, same, few, less, a_in, b_in, u_in, p_in, r_in, t_in) in
        let read : Some n ≡ Some m = sym (added (pair_key a b u) ∙ ap (λ (x : Bool). cond x (Some n) (entry_at old (pair_key a b u))) (eq-eqb (pair_key a b u) (pair_key p r t) same)) ∙ is in
        let n_is : n ≡ m = cc in
        subst (λ (x : Name). IsLineOf w force a u b (Made x) forms) n_is
        (subst (λ (x : ℕ). IsLineOf w force x u b (Made n) forms) a_is (subst (λ (x : ℕ). IsLineOf w force p x b (Made n) forms) u_is (subst (λ (x : ℕ). IsLineOf w force p t x (Made n) forms) b_is named)))
    by a u b m a_in u_in b_in is (inr other) =
        h.named a u b m a_in u_in b_in (sym (added (pair_key a b u) ∙ ap (λ (x : Bool). cond x (Some n) (entry_at old (pair_key a b u))) (ne_eqb (pair_key a b u) (pair_key p r t) other)) ∙ is)

-- The names of all rows.
abbrev RowsOf : Frame → Problem → List (ℕ × Name) → List (ℕ × Name) → List Form → Type 0
RowsOf w q rows edge_rows forms = AreRows w q (ForcesBeside q) rows forms × AreRows w q (ForcesByEdges q) edge_rows forms

rows_of_last : (w : Frame) (q : Problem) (rows edge_rows : List (ℕ × Name)) (forms more : List Form) → RowsOf w q rows edge_rows forms → RowsOf w q rows edge_rows (forms ++ more)
rows_of_last w q rows edge_rows forms more h = (rows_last w q (ForcesBeside q) rows forms more h.0, rows_last w q (ForcesByEdges q) edge_rows forms more h.1)

-- A line that was made beside the names of other rows.
rows_kept : (w : Frame) (q : Problem) (p t r : ℕ) (a b : Option (List Step)) (spreads new : Spreads) (rows edge_rows : List (ℕ × Name)) (result : Result Name AllocError) → Goes w a b (AreTurned w q spreads) (IsRow w q p t r new result)
    → Goes w a b (λ forms. AreTurned w q spreads forms × RowsOf w q rows edge_rows forms) (λ forms. IsRow w q p t r new result forms × RowsOf w q rows edge_rows forms)
rows_kept w q p t r a b spreads new rows edge_rows result goes =
    goes_beside w a b (AreTurned w q spreads) (IsRow w q p t r new result) (RowsOf w q rows edge_rows) (λ forms more h. rows_of_last w q rows edge_rows forms more h) goes

-- No line was made, though others may be.
pub row_refused : (w : Frame) (q : Problem) (p t r : ℕ) (a b : Option (List Step)) (old new : PairLines) (result : Result Name AllocError) → new.rows ≡ old.rows → new.edge_rows ≡ old.edge_rows
    → Goes w a b (AreTurned w q old.spreads) (IsRow w q p t r new.spreads result) → Goes w a b (Knows w q old) (Knows w q new)
row_refused w q p t r a b old new result same same_edges goes =
    goes_as w a b (λ forms. AreTurned w q old.spreads forms × RowsOf w q old.rows old.edge_rows forms) (λ forms. IsRow w q p t r new.spreads result forms × RowsOf w q old.rows old.edge_rows forms) (Knows w q old) (Knows w q new)
    (λ forms h. (h.0, (h.1, h.2)))
    (λ forms k. (k.0.0, subst (λ (xs : List (ℕ × Name)). AreRows w q (ForcesBeside q) xs forms) (sym same) k.1.0, subst (λ (xs : List (ℕ × Name)). AreRows w q (ForcesByEdges q) xs forms) (sym same_edges) k.1.1))
    (rows_kept w q p t r a b old.spreads new.spreads old.rows old.edge_rows result goes)

-- The line was made, and its name was added.
pub row_added : (w : Frame) (q : Problem) → IsWithin q → (p t r : ℕ) (a b : Option (List Step)) (old new : PairLines) (n : Name) → p < size q.pattern → t < size q.target → r < size q.pattern
    → ((k : ℕ) → entry_at new.rows k ≡ cond (k == pair_key p r t) (Some n) (entry_at old.rows k)) → new.edge_rows ≡ old.edge_rows → Goes w a b (AreTurned w q old.spreads) (IsRow w q p t r new.spreads (Ok n))
    → Goes w a b (Knows w q old) (IsKnownRow false w q p t r new (Ok (Made n)))
row_added w q plain p t r a b old new n p_in t_in r_in added same goes =
    goes_as w a b (λ forms. AreTurned w q old.spreads forms × RowsOf w q old.rows old.edge_rows forms) (λ forms. IsRow w q p t r new.spreads (Ok n) forms × RowsOf w q old.rows old.edge_rows forms) (Knows w q old) (IsKnownRow false w q p t r new (Ok (Made n)))
    (λ forms h. (h.0, (h.1, h.2)))
    (λ forms k. (
      (
        k.0.0,
        rows_added w q (ForcesBeside q) plain old.rows new.rows forms p t r n p_in t_in r_in added k.0.1 k.1.0,
        subst (λ (xs : List (ℕ × Name)). AreRows w q (ForcesByEdges q) xs forms) (sym same) k.1.1,
      ),
      k.0.1,
    )) (rows_kept w q p t r a b old.spreads new.spreads old.rows old.edge_rows (Ok n) goes)

-- The line of the encoding that serves two vertices without one of their own is found.
served_found : (q : Problem) (p t r : ℕ) → IsPlace q p t r → (meeting : Meeting) → IsMeeting q p r meeting → (look : Lookup) → FindsEncoding q look → look (alone_line q meeting t r) ≡ Some (alone_form q meeting t r)
served_found q p t r place Never meets look encoded = encoded.line (at_most_place_in q None t) (at_most_in q None t) ((place_laws q).at_most_in None t (whole_there q meets) place.place)
served_found q p t r place (Around c) meets look encoded = encoded.line (at_most_place_in q (Some c) t) (at_most_in q (Some c) t) ((place_laws q).at_most_in (Some c) t meets.0 place.place)
served_found q p t r place May meets look encoded = encoded.line (at_most_place q r) (at_most q r) ((place_laws q).at_most r place.second)

served_own : (q : Problem) (meeting : Meeting) (t r k : ℕ) → alone_line q meeting t r ≡ Shared k → ⊥
served_own q Never t r k e = cc
served_own q (Around c) t r k e = cc
served_own q May t r k e = cc

served_named : (q : Problem) (owner : ℕ) (w : Frame) (p t r : ℕ) (meeting : Meeting) (ref : Ref) (forms : List Form) → HasEncoding q owner w → IsPlace q p t r → IsMeeting q p r meeting → ref ≡ alone_line q meeting t r
    → IsNamed w forms ref (alone_form q meeting t r)
served_named q owner w p t r meeting ref forms frame place meets is = record {
  found = λ look finds own. ap look is ∙ served_found q p t r place meeting meets look (finds_encoding q owner w look frame finds);
  foreign = λ k named. absurd (served_own q meeting t r k (sym is ∙ named));
}

-- A line of the encoding that serves.
pub row_there : (q : Problem) → IsWithin q → (owner : ℕ) (w : Frame) (p t r : ℕ) (ref : Ref) (forms : List Form) → IsFrameOf q owner w → IsPlace q p t r → IsThere q p t r (Some ref) → IsRowNamed false w q p t r ref forms
row_there q plain owner w p t r ref forms frame place there = (
  alone_form q there.meeting t r,
  served_named q owner w p t r there.meeting ref forms (frame_of q owner w frame) place there.is_so there.line,
  serve_out q p t r place (alone_form q there.meeting t r) there.asked.1 (plain_forces q plain p t r place there.meeting there.is_so there.asked.0 None there.unpaired),
)

pub row_there_of : (q k : Problem) → k ≡ q → IsWithin k → (owner : ℕ) (w : Frame) (p t r : ℕ) (ref : Ref) (forms : List Form) → IsFrameOf q owner w → IsPlace q p t r → IsThere k p t r (Some ref) → IsRowNamed false w q p t r ref forms
row_there_of q k same plain owner w p t r ref forms frame place there =
    row_there q (subst (λ (x : Problem). IsWithin x) same plain) owner w p t r ref forms frame place (subst (λ (x : Problem). IsThere x p t r (Some ref)) same there)

-- The names of tables that have none are right.
pub nothing_known : (w : Frame) (q : Problem) (lines : PairLines) (forms : List Form) → AreTurned w q lines.spreads forms → lines.rows ≡ [] → lines.edge_rows ≡ [] → Knows w q lines forms
nothing_known w q lines forms no_spread no_row no_edge_row = (
  no_spread,
  subst (λ (xs : List (ℕ × Name)). AreRows w q (ForcesBeside q) xs forms) (sym no_row) (record { named = λ p t r n p_in t_in r_in is. absurd cc }),
  subst (λ (xs : List (ℕ × Name)). AreRows w q (ForcesByEdges q) xs forms) (sym no_edge_row) (record { named = λ p t r n p_in t_in r_in is. absurd cc }),
)

-- And names stay right as forms are added, and beside more lines.
pub knows_last : (w : Frame) (q : Problem) (lines : PairLines) (forms more : List Form) → Knows w q lines forms → Knows w q lines (forms ++ more)
knows_last w q lines forms more h = (
  turned_last w q lines.spreads forms more h.0,
  rows_last w q (ForcesBeside q) lines.rows forms more h.1,
  rows_last w q (ForcesByEdges q) lines.edge_rows forms more h.2,
)

rows_wider : (w v : Frame) (q : Problem) (force : Form → ℕ → ℕ → ℕ → Type 0) (names : List (ℕ × Name)) (forms : List Form) → Widens w v → AreRows w q force names forms → AreRows v q force names forms
rows_wider w v q force names forms wider h = record { named = λ p t r n a b c e. let x = h.named p t r n a b c e in (x.0, named_wider w v forms (Made n) x.0 wider x.1, x.2) }

pub knows_wider : (w v : Frame) (q : Problem) (lines : PairLines) (forms : List Form) → Widens w v → Knows w q lines forms → Knows v q lines forms
knows_wider w v q lines forms wider h = (
  (spreads_wider w v q lines.spreads.out forms wider h.0.0, spreads_wider w v (reversed_problem q) lines.spreads.back forms wider h.0.1),
  rows_wider w v q (ForcesBeside q) lines.rows forms wider h.1,
  rows_wider w v q (ForcesByEdges q) lines.edge_rows forms wider h.2,
)

-- ---- lines by edges alone

module _ (q : Problem) (plain : IsWithin q) (p t r : ℕ) (place : IsPlace q p t r) where
  -- The line of the two at the place, with that of the other one, and of a block where one is needed.
  pub edge_ops : (meeting : Meeting) (own : Ref) (ops : List Op) → IsMeeting q p r meeting → own_line q p r t ≡ Some own → ops ≡ own_ops q meeting own t r → AreOps ops
  edge_ops meeting own ops meets mine is =
      subst AreOps (sym is) (good_ops (variables q) (own_ops q meeting own t r) (good_own_row q plain meeting own p r t meets place.first place.second place.place mine))

  pub edge_follows : (owner : ℕ) (w : Frame) (forms : List Form) (name : Name) (meeting : Meeting) (own : Ref) (ops : List Op) → HasEncoding q owner w → IsMeeting q p r meeting → own_line q p r t ≡ Some own → ops ≡ own_ops q meeting own t r
      → MayFollow w forms (P name ops) (own_form q meeting p t r)
  edge_follows owner w forms name meeting own ops frame meets mine is =
      subst (λ (os : List Op). MayFollow w forms (P name os) (own_form q meeting p t r)) (sym is)
      (good_follows q owner w forms name (own_ops q meeting own t r) (own_form q meeting p t r) frame (good_own_row q plain meeting own p r t meets place.first place.second place.place mine) (own_small q plain p t r place meeting)
      (λ look finds own_. own_made q plain p t r place look name own meeting (finds_encoding q owner w look frame finds) meets
      (subst (λ (o : Option Ref). OwnFound q plain p t r place look o) mine (own_found q plain p t r place look (finds_encoding q owner w look frame finds)))))

  -- What they force.
  pub edge_forces : (meeting : Meeting) → IsMeeting q p r meeting → ForcesByEdges q (own_form q meeting p t r) p t r
  edge_forces Never meets = (row_laws q plain.limits).edges.beside p t r place (never_needs q p r meets)
  edge_forces (Around c) meets = (row_laws q plain.limits).edges.near (Some c) p t r place meets.1
  edge_forces May meets = (row_laws q plain.limits).edges.beside p t r place (may_needs q p r meets)

  pub alone_forces : (meeting : Meeting) → IsMeeting q p r meeting → is_paired q p r ≡ false → ForcesByEdges q (alone_form q meeting t r) p t r
  alone_forces Never meets free = (row_laws q plain.limits).edges.alone None p t r place (record { first = refl; second = refl }) free
  alone_forces (Around c) meets free = (row_laws q plain.limits).edges.alone (Some c) p t r place meets.1 free
  alone_forces May meets free = (row_laws q plain.limits).edges.free (at_most q r) p t r place (record { may_meet = meets; unpaired = free })

-- One that is found.
pub edge_found : (w : Frame) (q : Problem) (lines : PairLines) (p t r : ℕ) (n : Name) (forms : List Form) → IsPlace q p t r → pair_name lines.edge_rows p r t ≡ Some n → Knows w q lines forms
    → IsKnownRow true w q p t r lines (Ok (Made n)) forms
edge_found w q lines p t r n forms place is k = (k, k.2.named p t r n place.first place.place place.second is)

-- A line of the encoding, where the two have none.
pub edge_there : (q k : Problem) → k ≡ q → IsWithin k → (owner : ℕ) (w : Frame) (p t r : ℕ) (meeting : Meeting) (ref : Ref) (forms : List Form) → IsFrameOf q owner w → IsPlace q p t r → IsMeeting k p r meeting → own_line k p r t ≡ None
    → ref ≡ alone_line k meeting t r → IsRowNamed true w q p t r ref forms
edge_there q k same plain owner w p t r meeting ref forms frame place meets none is =
    here (subst (λ (x : Problem). IsWithin x) same plain) (subst (λ (x : Problem). IsMeeting x p r meeting) same meets) (subst (λ (x : Problem). own_line x p r t ≡ None) same none) (subst (λ (x : Problem). ref ≡ alone_line x meeting t r) same is)
  where
    here : IsWithin q → IsMeeting q p r meeting → own_line q p r t ≡ None → ref ≡ alone_line q meeting t r → IsRowNamed true w q p t r ref forms
    here few meet free at = (
      alone_form q meeting t r,
      served_named q owner w p t r meeting ref forms (frame_of q owner w frame) place meet at,
      alone_forces q few p t r place meeting meet (subst (λ (o : Option Ref). OwnSays q few p t r place o) free (own_says q few p t r place)),
    )

-- The line was made.
pub edge_kept : (w : Frame) (q k : Problem) → k ≡ q → IsWithin k → (p t r : ℕ) (meeting : Meeting) → IsMeeting k p r meeting → (a b : Option (List Step)) (old new : PairLines) (n : Name) → IsPlace q p t r → new.spreads ≡ old.spreads → new.rows ≡ old.rows
    → ((j : ℕ) → entry_at new.edge_rows j ≡ cond (j == pair_key p r t) (Some n) (entry_at old.edge_rows j)) → Goes w a b AnyForms (IsKept w (Ok n) (own_form k meeting p t r)) → Goes w a b (Knows w q old) (IsKnownRow true w q p t r new (Ok (Made n)))
edge_kept w q k same plain p t r meeting meets a b old new n place spreads rows added goes =
    goes_as w a b (λ forms. AnyForms forms × Knows w q old forms) (λ forms. IsKept w (Ok n) (own_form k meeting p t r) forms × Knows w q old forms) (Knows w q old) (IsKnownRow true w q p t r new (Ok (Made n)))
    (λ forms h. (tt, h))
    (λ forms h. (
      (
        subst (λ (s : Spreads). AreTurned w q s forms) (sym spreads) h.1.0,
        subst (λ (xs : List (ℕ × Name)). AreRows w q (ForcesBeside q) xs forms) (sym rows) h.1.1,
        rows_added w q (ForcesByEdges q) (subst (λ (x : Problem). IsWithin x) same plain) old.edge_rows new.edge_rows forms p t r n place.first place.place place.second added (line forms h.0) h.1.2,
      ),
      line forms h.0,
    ))
    (goes_beside w a b AnyForms (IsKept w (Ok n) (own_form k meeting p t r)) (Knows w q old) (λ forms more h. knows_last w q old forms more h) goes)
  where
    line : (forms : List Form) → IsKept w (Ok n) (own_form k meeting p t r) forms → IsRowNamed true w q p t r (Made n) forms
    line forms kept = (
      own_form q meeting p t r,
      subst (λ (x : Problem). IsKept w (Ok n) (own_form x meeting p t r) forms) same kept,
      edge_forces q (subst (λ (x : Problem). IsWithin x) same plain) p t r place meeting (subst (λ (x : Problem). IsMeeting x p r meeting) same meets),
    )

-- No line was made, or its name was not added.
pub edge_refused : (w : Frame) (q k : Problem) (p t r : ℕ) (meeting : Meeting) (a b : Option (List Step)) (old new : PairLines) (result : Result Name AllocError) → new.spreads ≡ old.spreads → new.rows ≡ old.rows → new.edge_rows ≡ old.edge_rows
    → Goes w a b AnyForms (IsKept w result (own_form k meeting p t r)) → Goes w a b (Knows w q old) (Knows w q new)
edge_refused w q k p t r meeting a b old new result spreads rows edges goes =
    goes_as w a b (λ forms. AnyForms forms × Knows w q old forms) (λ forms. IsKept w result (own_form k meeting p t r) forms × Knows w q old forms) (Knows w q old) (Knows w q new) (λ forms h. (tt, h))
    (λ forms h. (
      subst (λ (s : Spreads). AreTurned w q s forms) (sym spreads) h.1.0,
      subst (λ (xs : List (ℕ × Name)). AreRows w q (ForcesBeside q) xs forms) (sym rows) h.1.1,
      subst (λ (xs : List (ℕ × Name)). AreRows w q (ForcesByEdges q) xs forms) (sym edges) h.1.2,
    ))
    (goes_beside w a b AnyForms (IsKept w result (own_form k meeting p t r)) (Knows w q old) (λ forms more h. knows_last w q old forms more h) goes)
