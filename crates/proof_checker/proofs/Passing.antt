-- Passes of unit propagation over forms: what each leaves unchanged, and what a pass that sets nothing shows.
use Rattle.std.proofs.Common.{◌≡◌, ℕ, zero, suc, ◌+◌, ◌-◌, ◌<◌, ◌≤◌, Bool, true, false, cond, nat_lt, List, [], ◌∷◌, ◌++◌, length, map, get_or, take, drop, Option, Some, None, Ok, Err, ℤ, ◌<ℤ◌, pos, unsigned_abs, int_lt, refl, sym, ap, ◌∙◌, subst, arith, inl, inr, ◌⊎◌}
use Rattle.std.specs.List.{flat_map}
use Rattle.std.proofs.lemmas.Bool.{eq-eqb, ne_eqb, ltb-true, ltb-false}
use Rattle.std.proofs.lemmas.Int.{ints}
use Rattle.std.proofs.lemmas.List.{take_more, get_or-map, length-map}
use Rattle.proof_theory.specs.declared.literal.Literal.{Literal}
use Rattle.proof_theory.specs.Forms.{Form, Rises}
use Rattle.proof_theory.specs.Slack.{Setting, setting, slack, conflict, wanted, forced_by, forced_at, or_else, after, negations, clause_form}
use Rattle.proof_theory.specs.Propagation.{IsAmong, Value, ForcesValue, HasConflict, Extends, closes}
use Rattle.proof_theory.proofs.Propagation.{extends_itself, extends_on, extends_after, forces_wider, conflict_wider, closes_after, closes_same, closes_at_conflict, closes_not}
use Rattle.log_theory.specs.declared.step.Cause.TheVariants.{NoConflict}
use Rattle.log_theory.specs.Lookups.{are_distinct, variables_of, closed_clause}
use Rattle.log_theory.specs.Tables.{Table, all_forms, somes}
use Rattle.log_theory.proofs.DroppedLogs.{left_among, right_among, somes-append, some_among, behind_among, list_among}
use Rattle.pb_terms.specs.Trail.{unset_count}
use Rattle.pb_propagation.proofs.Backwards.{from_place}
use Rattle.pb_propagation.proofs.Propagation.{reaches_wider, forms_wider}
use Rattle.pb_propagation.specs.Reach.{Reaches, AllReach}
use Rattle.proof_checker.specs.Passing.{Taken, PassedOver, Passed}

-- ---- places in lists

pub split_among : (f : Form) (fs gs : List Form) → IsAmong f (fs ++ gs) → IsAmong f fs ⊎ IsAmong f gs
split_among f [] gs i = inr i
split_among f (x ∷ xs) gs (inl e) = inl (inl e)
split_among f (x ∷ xs) gs (inr i) = by (split_among f xs gs i)
  where
    by : IsAmong f xs ⊎ IsAmong f gs → IsAmong f (x ∷ xs) ⊎ IsAmong f gs
    by (inl k) = inl (inr k)
    by (inr k) = inr k

take_among : (f : Form) (fs : List Form) (i : ℕ) → IsAmong f (take i fs) → IsAmong f fs
take_among f fs zero k = absurd k
take_among f [] (suc i) k = absurd k
take_among f (g ∷ gs) (suc i) (inl e) = inl e
take_among f (g ∷ gs) (suc i) (inr k) = inr (take_among f gs i k)

item_among : (fs : List Form) (i : ℕ) (d : Form) → i < length fs → IsAmong (get_or fs i d) fs
item_among [] i d h = absurd (omega arith)
item_among (f ∷ fs) zero d h = inl refl
item_among (f ∷ fs) (suc i) d h = inr (item_among fs i d (omega arith))

reach_at : (n : ℕ) (fs : List Form) (i : ℕ) (d : Form) → AllReach n fs → i < length fs → Reaches n (get_or fs i d).terms
reach_at n [] i d h k = absurd (omega arith)
reach_at n (f ∷ fs) zero d h k = h.0
reach_at n (f ∷ fs) (suc i) d h k = reach_at n fs i d h.1 (omega arith)

-- An item of a list reaches no further than the list.
pub reach_item : (n m : ℕ) (fs : List Form) (i : ℕ) (x : Form) → i < length fs → x ≡ get_or fs i x → m ≡ n → AllReach n fs → Reaches m x.terms
reach_item n m fs i x h e l a =
    subst (λ (y : Form). Reaches m y.terms) (sym e) (subst (λ (k : ℕ). Reaches k (get_or fs i x).terms) (sym l) (reach_at n fs i x a h))

-- ---- the steps of a pass

pub passed_none : (s : Setting) → PassedOver s [] s
passed_none s = record { wider = extends_itself s; same = λ gs h. refl; taken = λ f i. absurd i }

extends_as : (s t u : Setting) → ((v : ℕ) → u v ≡ t v) → Extends t s → Extends u s
extends_as s t u e h = record { kept = λ v b g. e v ∙ h.kept v b g }

wider_taken : (s t u : Setting) (f : Form) → Extends u t → Taken s f t → Taken s f u
wider_taken s t u f h k = record { under = k.under; from = k.from; calm = k.calm; to = extends_on (after k.under f) t u k.to h; rises = k.rises }

-- One more form, which is no conflict, and all that it forces is set.
pub passed_next : (s t u : Setting) (fs : List Form) (f : Form) → PassedOver s fs t → conflict t f ≡ false → ((v : ℕ) → u v ≡ after t f v) → Rises 0 f.terms → PassedOver s (fs ++ f ∷ []) u
passed_next s t u fs f p c e r = record {
  wider = extends_on s t u p.wider more;
  same = λ gs h.
      closes_same u (after t f) gs gs e (λ g i. i) (λ g i. i)
      ∙ closes_after t f gs (h f (right_among f fs (f ∷ []) (inl refl)))
      ∙ p.same gs (λ g i. h g (left_among g fs (f ∷ []) i));
  taken = λ g i. by g (split_among g fs (f ∷ []) i);
}
  where
    more : Extends u t
    more = extends_as t (after t f) u e (extends_after t f)

    here : Taken s f u
    here = record { under = t; from = p.wider; calm = c; to = extends_as (after t f) (after t f) u e (extends_itself (after t f)); rises = r }

    by : (g : Form) → IsAmong g fs ⊎ IsAmong g (f ∷ []) → Taken s g u
    by g (inl i) = wider_taken s t u g more (p.taken g i)
    by g (inr (inl i)) = subst (λ (x : Form). Taken s x u) (sym i) here
    by g (inr (inr i)) = absurd i

-- A conflict behind forms that were taken.
pub passed_conflict : (s t : Setting) (fs whole : List Form) (f : Form) → ((g : Form) → IsAmong g fs → IsAmong g whole) → IsAmong f whole → PassedOver s fs t → conflict t f ≡ true → (u : Setting) → Passed true s whole u
passed_conflict s t fs whole f m i p c u gs h =
    sym (p.same gs (λ g k. h g (m g k))) ∙ closes_at_conflict t gs (record { form = f; among = h f i; conflicts = c })

-- One pass behind the other.
pub passed_both : (s t u : Setting) (fs gs : List Form) → PassedOver s fs t → PassedOver t gs u → PassedOver s (fs ++ gs) u
passed_both s t u fs gs p q = record {
  wider = extends_on s t u p.wider q.wider;
  same = λ hs h. q.same hs (λ g i. h g (right_among g fs gs i)) ∙ p.same hs (λ g i. h g (left_among g fs gs i));
  taken = λ g i. by g (split_among g fs gs i);
}
  where
    by : (g : Form) → IsAmong g fs ⊎ IsAmong g gs → Taken s g u
    by g (inl i) = wider_taken s t u g q.wider (p.taken g i)
    by g (inr i) = let k = q.taken g i in record { under = k.under; from = extends_on s t k.under p.wider k.from; calm = k.calm; to = k.to; rises = k.rises }

pub conflict_behind : (s t u w : Setting) (fs gs : List Form) → PassedOver s fs t → Passed true t gs u → Passed true s (fs ++ gs) w
conflict_behind s t u w fs gs p q hs h = sym (p.same hs (λ g i. h g (left_among g fs gs i))) ∙ q hs (λ g i. h g (right_among g fs gs i))

pub conflict_in_front : (s t u : Setting) (fs gs : List Form) → Passed true s fs t → Passed true s (fs ++ gs) u
conflict_in_front s t u fs gs p hs h = p hs (λ g i. h g (left_among g fs gs i))

-- A pass behind forms that were taken.
pub passed_behind : (b : Bool) (s t u : Setting) (fs gs : List Form) → PassedOver s fs t → Passed b t gs u → Passed b s (fs ++ gs) u
passed_behind true s t u fs gs p q = conflict_behind s t u u fs gs p q
passed_behind false s t u fs gs p q = passed_both s t u fs gs p q

-- ---- the loop over forms

pub pass_more : (s t u : Setting) (fs : List Form) (i : ℕ) (x : Form) → i < length fs → x ≡ get_or fs i x → PassedOver s (take i fs) t → conflict t x ≡ false → ((v : ℕ) → u v ≡ after t x v) → Rises 0 x.terms
    → PassedOver s (take (i + 1) fs) u
pass_more s t u fs i x h e p c a r =
    subst (λ (gs : List Form). PassedOver s gs u) (ap (λ (y : Form). take i fs ++ y ∷ []) e ∙ sym (take_more fs i x h)) (passed_next s t u (take i fs) x p c a r)

pub pass_conflict : (s t : Setting) (fs : List Form) (i : ℕ) (x : Form) → i < length fs → x ≡ get_or fs i x → PassedOver s (take i fs) t → conflict t x ≡ true → (u : Setting) → Passed true s fs u
pass_conflict s t fs i x h e p c u =
    passed_conflict s t (take i fs) fs x (λ g k. take_among g fs i k) (subst (λ (y : Form). IsAmong y fs) (sym e) (item_among fs i x h)) p c u

-- ---- the loop over slots

-- The slots up to the next one.
slots_more : (os : List (Option Form)) (i : ℕ) (o : Option Form) → i < length os → o ≡ get_or os i o → somes (take (i + 1) os) ≡ somes (take i os) ++ somes (o ∷ [])
slots_more os i o h e =
    ap somes (take_more os i o h ∙ ap (λ (p : Option Form). take i os ++ p ∷ []) (sym e)) ∙ somes-append (take i os) (o ∷ [])

-- What stands in a slot is among all that does, and so is what stands in those before it.
slot_among : (os : List (Option Form)) (i : ℕ) (f : Form) → i < length os → Some f ≡ get_or os i (Some f) → IsAmong f (somes os)
slot_among [] i f h e = absurd (omega arith)
slot_among (o ∷ os) zero f h e = some_among o os f (sym e)
slot_among (o ∷ os) (suc i) f h e = behind_among o os f (slot_among os i f (omega arith) e)

front_among : (os : List (Option Form)) (i : ℕ) (f : Form) → IsAmong f (somes (take i os)) → IsAmong f (somes os)
front_among os zero f k = absurd k
front_among [] (suc i) f k = absurd k
front_among (None ∷ os) (suc i) f k = front_among os i f k
front_among (Some g ∷ os) (suc i) f (inl e) = inl e
front_among (Some g ∷ os) (suc i) f (inr k) = inr (front_among os i f k)

-- What stands in a slot reaches no further than all that does.
pub reach_slot : (n m : ℕ) (os : List (Option Form)) (i : ℕ) (o : Option Form) (f : Form) → i < length os → o ≡ get_or os i o → o ≡ Some f → m ≡ n → AllReach n (somes os) → Reaches m f.terms
reach_slot n m os i o f h e s l a =
    subst (λ (k : ℕ). Reaches k f.terms) (sym l) (at os i h (sym s ∙ e ∙ ap (λ (d : Option Form). get_or os i d) s) a)
  where
    at : (ps : List (Option Form)) (j : ℕ) → j < length ps → Some f ≡ get_or ps j (Some f) → AllReach n (somes ps) → Reaches n f.terms
    at [] j q g b = absurd (omega arith)
    at (None ∷ ps) zero q g b = absurd cc
    at (Some x ∷ ps) zero q g b = subst (λ (y : Form). Reaches n y.terms) (let z : x ≡ f = cc in z) b.0
    at (None ∷ ps) (suc j) q g b = at ps j (omega arith) g b
    at (Some x ∷ ps) (suc j) q g b = at ps j (omega arith) g b.1

pub slot_more : (s t u : Setting) (os : List (Option Form)) (i : ℕ) (o : Option Form) (f : Form) → i < length os → o ≡ get_or os i o → o ≡ Some f → PassedOver s (somes (take i os)) t → conflict t f ≡ false → ((v : ℕ) → u v ≡ after t f v) → Rises 0 f.terms
    → PassedOver s (somes (take (i + 1) os)) u
slot_more s t u os i o f h e k p c a r =
    subst (λ (gs : List Form). PassedOver s gs u) (sym (slots_more os i o h e ∙ ap (λ (x : Option Form). somes (take i os) ++ somes (x ∷ [])) k)) (passed_next s t u (somes (take i os)) f p c a r)

pub slot_none : (s t : Setting) (os : List (Option Form)) (i : ℕ) (o : Option Form) → i < length os → o ≡ get_or os i o → o ≡ None → PassedOver s (somes (take i os)) t → PassedOver s (somes (take (i + 1) os)) t
slot_none s t os i o h e k p =
    subst (λ (gs : List Form). PassedOver s gs t) (sym (slots_more os i o h e ∙ ap (λ (x : Option Form). somes (take i os) ++ somes (x ∷ [])) k ∙ none_behind (somes (take i os)))) p
  where
    none_behind : (fs : List Form) → fs ++ [] ≡ fs
    none_behind [] = refl
    none_behind (x ∷ xs) = ap (λ (gs : List Form). x ∷ gs) (none_behind xs)

pub slot_conflict : (s t : Setting) (os : List (Option Form)) (i : ℕ) (o : Option Form) (f : Form) → i < length os → o ≡ get_or os i o → o ≡ Some f → PassedOver s (somes (take i os)) t → conflict t f ≡ true → (u : Setting) → Passed true s (somes os) u
slot_conflict s t os i o f h e k p c u =
    passed_conflict s t (somes (take i os)) (somes os) f (λ g m. front_among os i g m) (slot_among os i f h (sym k ∙ e ∙ ap (λ (d : Option Form). get_or os i d) k)) p c u

-- ---- the loop over lists of slots

abbrev pub flat : List (List (Option Form)) → List (Option Form)
flat lists = flat_map (λ fs. fs) lists

one_flat : (fs : List (Option Form)) → flat (fs ∷ []) ≡ fs
one_flat [] = refl
one_flat (f ∷ fs) = ap (λ (gs : List (Option Form)). f ∷ gs) (one_flat fs)

flat_parts : (front rest : List (List (Option Form))) → flat (front ++ rest) ≡ flat front ++ flat rest
flat_parts [] rest = refl
flat_parts (fs ∷ front) rest = ap (λ (gs : List (Option Form)). fs ++ gs) (flat_parts front rest) ∙ joined fs (flat front) (flat rest)
  where
    joined : (a b c : List (Option Form)) → a ++ (b ++ c) ≡ (a ++ b) ++ c
    joined [] b c = refl
    joined (x ∷ xs) b c = ap (λ (gs : List (Option Form)). x ∷ gs) (joined xs b c)

-- What stands in the lists up to the next one.
pub flat_more : (lists : List (List (Option Form))) (i : ℕ) → i < length lists → somes (flat (take (i + 1) lists)) ≡ somes (flat (take i lists)) ++ somes (get_or lists i [])
flat_more lists i h =
    ap somes (ap flat (take_more lists i [] h) ∙ flat_parts (take i lists) (get_or lists i [] ∷ []) ∙ ap (λ (gs : List (Option Form)). flat (take i lists) ++ gs) (one_flat (get_or lists i [])))
    ∙ somes-append (flat (take i lists)) (get_or lists i [])

reach_front : (n : ℕ) (fs gs : List Form) → AllReach n (fs ++ gs) → AllReach n fs
reach_front n [] gs h = tt
reach_front n (x ∷ xs) gs h = (h.0, reach_front n xs gs h.1)

reach_rest : (n : ℕ) (fs gs : List Form) → AllReach n (fs ++ gs) → AllReach n gs
reach_rest n [] gs h = h
reach_rest n (x ∷ xs) gs h = reach_rest n xs gs h.1

pub reach_list : (n : ℕ) (lists : List (List (Option Form))) (i : ℕ) → AllReach n (somes (flat lists)) → i < length lists → AllReach n (somes (get_or lists i []))
reach_list n [] i h k = absurd (omega arith)
reach_list n (fs ∷ lists) zero h k = reach_front n (somes fs) (somes (flat lists)) (subst (λ (gs : List Form). AllReach n gs) (somes-append fs (flat lists)) h)
reach_list n (fs ∷ lists) (suc i) h k = reach_list n lists i (reach_rest n (somes fs) (somes (flat lists)) (subst (λ (gs : List Form). AllReach n gs) (somes-append fs (flat lists)) h)) (omega arith)

pub reach_both : (n : ℕ) (fs gs : List Form) → AllReach n fs → AllReach n gs → AllReach n (fs ++ gs)
reach_both n [] gs h k = k
reach_both n (f ∷ fs) gs h k = (h.0, reach_both n fs gs h.1 k)

-- What all forms of a table reach, its parts do.
pub reach_model : (n : ℕ) (model : List Form) (t : Table) → AllReach n (all_forms model t) → AllReach n model
reach_model n model t h = reach_front n model _ h

pub reach_made : (n : ℕ) (model : List Form) (t : Table) → AllReach n (all_forms model t) → AllReach n (somes (flat t.made))
reach_made n model t h = reach_front n (somes (flat t.made)) _ (reach_rest n model _ h)

pub reach_shared : (n : ℕ) (model : List Form) (t : Table) → AllReach n (all_forms model t) → AllReach n (somes (map (λ s. s.1) t.shared))
reach_shared n model t h = reach_rest n (somes (flat t.made)) _ (reach_rest n model _ h)

list_of : (lists : List (List (Option Form))) (i : ℕ) → i < length lists → (f : Form) → IsAmong f (somes (get_or lists i [])) → IsAmong f (somes (flat lists))
list_of lists i h f k = list_among lists i f k

taken_of : (lists : List (List (Option Form))) (i : ℕ) (f : Form) → IsAmong f (somes (flat (take i lists))) → IsAmong f (somes (flat lists))
taken_of lists zero f k = absurd k
taken_of [] (suc i) f k = absurd k
taken_of (fs ∷ lists) (suc i) f k =
    subst (λ (gs : List Form). IsAmong f gs) (sym (somes-append fs (flat lists)))
    (by (λ g. taken_of lists i f g) (split_among f (somes fs) (somes (flat (take i lists))) (subst (λ (gs : List Form). IsAmong f gs) (somes-append fs (flat (take i lists))) k)))
  where
    by : (IsAmong f (somes (flat (take i lists))) → IsAmong f (somes (flat lists))) → IsAmong f (somes fs) ⊎ IsAmong f (somes (flat (take i lists))) → IsAmong f (somes fs ++ somes (flat lists))
    by ih (inl g) = left_among f (somes fs) (somes (flat lists)) g
    by ih (inr g) = right_among f (somes fs) (somes (flat lists)) (ih g)

lists_more : (s t u : Setting) (lists : List (List (Option Form))) (i : ℕ) → i < length lists → PassedOver s (somes (flat (take i lists))) t → PassedOver t (somes (get_or lists i [])) u → PassedOver s (somes (flat (take (i + 1) lists))) u
lists_more s t u lists i h p q = subst (λ (gs : List Form). PassedOver s gs u) (sym (flat_more lists i h)) (passed_both s t u (somes (flat (take i lists))) (somes (get_or lists i [])) p q)

lists_conflict : (s t u w : Setting) (lists : List (List (Option Form))) (i : ℕ) → i < length lists → PassedOver s (somes (flat (take i lists))) t → Passed true t (somes (get_or lists i [])) u → Passed true s (somes (flat lists)) w
lists_conflict s t u w lists i h p q hs m =
    sym (p.same hs (λ g k. m g (taken_of lists i g k))) ∙ q hs (λ g k. m g (list_of lists i h g k))

-- A list of lists, each told by an item.
at_list : {X : Type 0} (f : X → List (Option Form)) (xs : List X) (i : ℕ) (x : X) (fs : List (Option Form)) → i < length xs → x ≡ get_or xs i x → fs ≡ f x → get_or (map f xs) i [] ≡ fs
at_list f xs i x fs h e k = get_or-map f xs i x [] h ∙ sym (ap f e) ∙ sym k

as_many : {X : Type 0} (f : X → List (Option Form)) (xs : List X) (i : ℕ) → i < length xs → i < length (map f xs)
as_many f xs i h = let l = length-map xs f in omega arith

pub item_reach : {X : Type 0} (f : X → List (Option Form)) (xs : List X) (i : ℕ) (x : X) (fs : List (Option Form)) (n m : ℕ) → i < length xs → x ≡ get_or xs i x → fs ≡ f x → m ≡ n → AllReach n (somes (flat (map f xs))) → AllReach m (somes fs)
item_reach f xs i x fs n m h e k l a =
    subst (λ (j : ℕ). AllReach j (somes fs)) (sym l) (subst (λ (gs : List (Option Form)). AllReach n (somes gs)) (at_list f xs i x fs h e k) (reach_list n (map f xs) i a (as_many f xs i h)))

pub item_more : {X : Type 0} (f : X → List (Option Form)) (xs : List X) (i : ℕ) (x : X) (fs : List (Option Form)) (s t u : Setting) → i < length xs → x ≡ get_or xs i x → fs ≡ f x → PassedOver s (somes (flat (take i (map f xs)))) t → PassedOver t (somes fs) u
    → PassedOver s (somes (flat (take (i + 1) (map f xs)))) u
item_more f xs i x fs s t u h e k p q =
    lists_more s t u (map f xs) i (as_many f xs i h) p (subst (λ (gs : List (Option Form)). PassedOver t (somes gs) u) (sym (at_list f xs i x fs h e k)) q)

pub item_conflict : {X : Type 0} (f : X → List (Option Form)) (xs : List X) (i : ℕ) (x : X) (fs : List (Option Form)) (s t u w : Setting) → i < length xs → x ≡ get_or xs i x → fs ≡ f x → PassedOver s (somes (flat (take i (map f xs)))) t → Passed true t (somes fs) u
    → Passed true s (somes (flat (map f xs))) w
item_conflict f xs i x fs s t u w h e k p q =
    lists_conflict s t u w (map f xs) i (as_many f xs i h) p (subst (λ (gs : List (Option Form)). Passed true t (somes gs) u) (sym (at_list f xs i x fs h e k)) q)

-- ---- the model, the lists and the rows

pub all_passed : (b : Bool) (s t u w : Setting) (model : List Form) (table : Table) (lists : List (List (Option Form))) (rows : List (Option Form)) → lists ≡ table.made → rows ≡ map (λ e. e.1) table.shared
    → PassedOver s model t → PassedOver t (somes (flat lists)) u → Passed b u (somes rows) w → Passed b s (all_forms model table) w
all_passed b s t u w model table lists rows m r p q k =
    subst (λ (ls : List (List (Option Form))). Passed b s (model ++ (somes (flat ls) ++ somes (map (λ e. e.1) table.shared))) w) m
    (subst (λ (os : List (Option Form)). Passed b s (model ++ (somes (flat lists) ++ somes os)) w) r
    (passed_behind b s t w model (somes (flat lists) ++ somes rows) p (passed_behind b t u w (somes (flat lists)) (somes rows) q k)))

pub made_conflict : (s t u w : Setting) (model : List Form) (table : Table) (lists : List (List (Option Form))) → lists ≡ table.made → PassedOver s model t → Passed true t (somes (flat lists)) u → Passed true s (all_forms model table) w
made_conflict s t u w model table lists m p q =
    conflict_behind s t w w model (somes (flat table.made) ++ somes (map (λ e. e.1) table.shared)) p
    (conflict_in_front t u w (somes (flat table.made)) (somes (map (λ e. e.1) table.shared)) (subst (λ (ls : List (List (Option Form))). Passed true t (somes (flat ls)) u) m q))

-- ---- what forms reach, from the last one on

pub reach_more : (n m k : ℕ) (xs : List Form) (i : ℕ) (x : Form) (ts : List (ℕ × ℤ)) → 0 < i → i ≤ length xs → x ≡ get_or xs (i - 1) x → ts ≡ x.terms → Reaches k ts → k ≤ m → n ≤ m → AllReach n (drop i xs) → AllReach m (drop (i - 1) xs)
reach_more n m k xs i x ts h l e t r km nm a =
    subst (λ (fs : List Form). AllReach m fs) (ap (λ (y : Form). y ∷ drop i xs) e ∙ sym (from_place xs i x h l))
    (subst (λ (us : List (ℕ × ℤ)). Reaches m us) t (reaches_wider k m ts km r), forms_wider n m (drop i xs) nm a)

-- One slot more, from the end: what stands there is below m.
pub slot_reach_more : (n m : ℕ) (os : List (Option Form)) (i : ℕ) (o : Option Form) (f : Form) (k : ℕ) → 0 < i → i ≤ length os → o ≡ get_or os (i - 1) o → o ≡ Some f → Reaches k f.terms → k ≤ m → n ≤ m → AllReach n (somes (drop i os)) → AllReach m (somes (drop (i - 1) os))
slot_reach_more n m os i o f k h l e s r km nm a =
    subst (λ (ps : List (Option Form)). AllReach m (somes ps)) (ap (λ (p : Option Form). p ∷ drop i os) (sym s ∙ e) ∙ sym (from_place os i o h l))
    (reaches_wider k m f.terms km r, forms_wider n m (somes (drop i os)) nm a)

pub slot_reach_none : (n : ℕ) (os : List (Option Form)) (i : ℕ) (o : Option Form) → 0 < i → i ≤ length os → o ≡ get_or os (i - 1) o → o ≡ None → AllReach n (somes (drop i os)) → AllReach n (somes (drop (i - 1) os))
slot_reach_none n os i o h l e s a =
    subst (λ (ps : List (Option Form)). AllReach n (somes ps)) (ap (λ (p : Option Form). p ∷ drop i os) (sym s ∙ e) ∙ sym (from_place os i o h l)) a

pub lists_reach_more : {X : Type 0} (f : X → List (Option Form)) (xs : List X) (i : ℕ) (x : X) (fs : List (Option Form)) (n m k : ℕ) → 0 < i → i ≤ length xs → x ≡ get_or xs (i - 1) x → fs ≡ f x → AllReach k (somes fs) → k ≤ m → n ≤ m
    → AllReach n (somes (flat (drop i (map f xs)))) → AllReach m (somes (flat (drop (i - 1) (map f xs))))
lists_reach_more f xs i x fs n m k h l e q r km nm a =
    let long = length-map xs f in
    let d = from_place (map f xs) i [] h (omega arith) in
    let g = at_list f xs (i - 1) x fs (omega arith) e q in
    let both = reach_both m (somes fs) (somes (flat (drop i (map f xs)))) (forms_wider k m (somes fs) km r) (forms_wider n m (somes (flat (drop i (map f xs)))) nm a) in
    subst (λ (ls : List (List (Option Form))). AllReach m (somes (flat ls))) (ap (λ (gs : List (Option Form)). gs ∷ drop i (map f xs)) (sym g) ∙ sym d)
    (subst (λ (gs : List Form). AllReach m gs) (sym (somes-append fs (flat (drop i (map f xs))))) both)

-- The model, the lists and the rows reach no further than the greatest of what each reaches.
pub table_reach : (n k l m : ℕ) (model : List Form) (table : Table) (lists : List (List (Option Form))) (rows : List (Option Form)) → lists ≡ table.made → rows ≡ map (λ e. e.1) table.shared → k ≤ n → l ≤ n → m ≤ n
    → AllReach k model → AllReach l (somes (flat lists)) → AllReach m (somes rows) → AllReach n (all_forms model table)
table_reach n k l m model table lists rows e r kn ln mn a b c =
    reach_both n model _ (forms_wider k n model kn a)
    (reach_both n (somes (flat table.made)) _ (forms_wider l n (somes (flat table.made)) ln (subst (λ (ls : List (List (Option Form))). AllReach l (somes (flat ls))) e b))
    (forms_wider m n (somes (map (λ s. s.1) table.shared)) mn (subst (λ (os : List (Option Form)). AllReach m (somes os)) r c)))

-- ---- a pass that sets nothing

some_none : (b : Bool) → let x : Option Bool = Some b in let y : Option Bool = None in x ≡ y → ⊥
some_none b e = cc

-- What a rising term forces, the form forces at its variable.
forced_here : (k : ℤ) (low : ℕ) (ts : List (ℕ × ℤ)) (t : ℕ × ℤ) → Rises low ts → IsAmong t ts → k <ℤ pos (unsigned_abs t.1) → (low ≤ t.0) × (forced_at k ts t.0 ≡ Some (wanted t.1))
forced_here k low [] t r i h = absurd i
forced_here k low (u ∷ us) t r (inl e) h =
    let b : int_lt k (pos (unsigned_abs t.1)) ≡ true = grind (arith, ints) in
    let first : forced_at k (t ∷ us) t.0 ≡ Some (wanted t.1) =
    ap (λ (x : Bool). cond x (forced_by k t.1) (forced_at k us t.0)) (eq-eqb t.0 t.0 refl) ∙ ap (λ (x : Bool). cond x (Some (wanted t.1)) None) b in
    (subst (λ (x : ℕ × ℤ). low ≤ x.0) (sym e) r.0, subst (λ (x : ℕ × ℤ). forced_at k (x ∷ us) t.0 ≡ Some (wanted t.1)) e first)
forced_here k low (u ∷ us) t r (inr i) h =
    let m = forced_here k (u.0 + 1) us t r.2 i h in
    let l = r.0 in
    let p = m.0 in
    (omega arith, ap (λ (x : Bool). cond x (forced_by k u.1) (forced_at k us t.0)) (ne_eqb u.0 t.0 (λ e. omega (arith, e))) ∙ m.1)

-- Nothing is forced by a form that was taken, where nothing was set besides.
calm_taken : (s t : Setting) (f : Form) (l : Value) → ((v : ℕ) → t v ≡ s v) → Taken s f t → ForcesValue s f l → ⊥
calm_taken s t f l e k p = by (forces_wider s k.under f l k.from p)
  where
    unset : s l.0 ≡ None
    unset = subst (λ (x : Value). s x.0 ≡ None) (sym p.is) p.forces.unset

    -- What is true on the way is true at the end, which is the beginning.
    back : (b : Bool) → after k.under f l.0 ≡ Some b → ⊥
    back b g = some_none b (sym (k.to.kept l.0 b g) ∙ e l.0 ∙ unset)

    by : ForcesValue k.under f l ⊎ ((k.under l.0 ≡ Some l.1) ⊎ (conflict k.under f ≡ true)) → ⊥
    by (inl q) =
        let here = forced_here (slack k.under f) 0 f.terms q.term k.rises q.among q.forces.exceeds in
        back (wanted q.term.1) (subst (λ (x : Value). after k.under f x.0 ≡ Some (wanted q.term.1)) (sym q.is) (ap (λ (o : Option Bool). or_else o (forced_at (slack k.under f) f.terms q.term.0)) q.forces.unset ∙ here.1))
    by (inr (inl q)) = back l.1 (ap (λ (o : Option Bool). or_else o (forced_at (slack k.under f) f.terms l.0)) q)
    by (inr (inr q)) = let c = k.calm in absurd cc

pub passed_rest : (s t : Setting) (fs : List Form) → PassedOver s fs t → ((v : ℕ) → t v ≡ s v) → closes s fs ≡ false
passed_rest s t fs p e =
    closes_not s fs (λ l q. calm_taken s t q.form l e (p.taken q.form q.among) q.forces) (λ q. no_conflict q (p.taken q.form q.among))
  where
    no_conflict : (q : HasConflict s fs) → Taken s q.form t → ⊥
    no_conflict q k = let c = conflict_wider s k.under q.form k.from q.conflicts in let d = k.calm in absurd cc

-- ---- how many are set

-- A wider setting of the same places leaves no more unset; where it leaves as many, it is the same.
pub unset_kept : (old new : List (Option Bool)) → length new ≡ length old → Extends (setting new) (setting old) → (unset_count new ≤ unset_count old) × (unset_count new ≡ unset_count old → (v : ℕ) → setting new v ≡ setting old v)
unset_kept [] [] l h = (omega arith, λ e v. refl)
unset_kept [] (n ∷ ns) l h = absurd (omega arith)
unset_kept (o ∷ os) [] l h = absurd (omega arith)
unset_kept (o ∷ os) (n ∷ ns) l h =
    by o n (λ b e. h.kept 0 b e) (unset_kept os ns (omega (arith, l)) (record { kept = λ v b e. h.kept (suc v) b e }))
  where
    by : (o n : Option Bool) → ((b : Bool) → o ≡ Some b → n ≡ Some b) → (unset_count ns ≤ unset_count os) × (unset_count ns ≡ unset_count os → (v : ℕ) → setting ns v ≡ setting os v)
        → (unset_count (n ∷ ns) ≤ unset_count (o ∷ os)) × (unset_count (n ∷ ns) ≡ unset_count (o ∷ os) → (v : ℕ) → setting (n ∷ ns) v ≡ setting (o ∷ os) v)
    by None None k r = let a = r.0 in (omega arith, λ e. at None (r.1 (omega (arith, e))))
      where
        at : (x : Option Bool) → ((v : ℕ) → setting ns v ≡ setting os v) → (v : ℕ) → setting (x ∷ ns) v ≡ setting (x ∷ os) v
        at x g zero = refl
        at x g (suc v) = g v
    by None (Some b) k r = let a = r.0 in (omega arith, λ e. absurd (omega (arith, e, a)))
    by (Some b) n k r = subst (λ (x : Option Bool). (unset_count (x ∷ ns) ≤ unset_count (Some b ∷ os)) × (unset_count (x ∷ ns) ≡ unset_count (Some b ∷ os) → (v : ℕ) → setting (x ∷ ns) v ≡ setting (Some b ∷ os) v)) (sym (k b refl)) (r.0, λ e. at (r.1 e))
      where
        at : ((v : ℕ) → setting ns v ≡ setting os v) → (v : ℕ) → setting (Some b ∷ ns) v ≡ setting (Some b ∷ os) v
        at g zero = refl
        at g (suc v) = g v

-- ---- what a line of literals alone makes

pub closed_makes : (fs : List Form) (ls : List Literal) → are_distinct (variables_of ls) ≡ true → closes (negations ls) fs ≡ true → closed_clause fs ls ≡ Ok (clause_form ls)
closed_makes fs ls d c = rw (d, c)

pub closed_fails : (fs : List Form) (ls : List Literal) → are_distinct (variables_of ls) ≡ true → closes (negations ls) fs ≡ false → closed_clause fs ls ≡ Err NoConflict
closed_fails fs ls d c = rw (d, c)

-- ---- what counting the variables that are set tells of a pass

-- Where no more variables are set than before, nothing was set.
pub moved_none : (old new : List (Option Bool)) (before now : ℕ) → length new ≡ length old → Extends (setting new) (setting old) → before + unset_count old ≡ length old → now + unset_count new ≡ length new → nat_lt before now ≡ false
    → (v : ℕ) → setting new v ≡ setting old v
moved_none old new before now l h b n e =
    let k = unset_kept old new l h in
    let less = k.0 in
    let not_more : now ≤ before = ltb-false before now e in
    k.1 (omega arith)

-- A pass leaves fewer unset, or is the last.
pub moved_less : (old new : List (Option Bool)) (before now : ℕ) → length new ≡ length old → Extends (setting new) (setting old) → before + unset_count old ≡ length old → now + unset_count new ≡ length new
    → cond (nat_lt before now) 1 0 + unset_count new < 1 + unset_count old
moved_less old new before now l h b n = by (nat_lt before now) refl
  where
    by : (x : Bool) → nat_lt before now ≡ x → cond x 1 0 + unset_count new < 1 + unset_count old
    by true e = let more : before < now = ltb-true before now e in omega arith
    by false e = let less = (unset_kept old new l h).0 in omega arith
