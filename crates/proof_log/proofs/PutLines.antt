-- Texts of lists, put item by item.
use Rattle.std.proofs.Common.{◌≡◌, ℕ, ◌+◌, ◌<◌, Bool, List, [], ◌∷◌, ◌++◌, length, take, drop, get_or, Option, map, codes, refl, sym, ap, subst, ◌∙◌, append_assoc}
use Rattle.std.specs.List.{flat_map}
use Rattle.std.specs.Io.KnownBytes.{append_known}
use Rattle.std.proofs.lemmas.List.{take_more, take-append-drop, append-nil}
use Rattle.std.proofs.lemmas.Grind.{flat_map-append}
use Rattle.std.specs.Fmt.{decimal}
use Rattle.proof_theory.specs.declared.literal.Literal.{Literal}
use Rattle.log_theory.specs.declared.step.Name.{Name}
use Rattle.log_theory.specs.declared.step.Ref.{Ref}
use Rattle.log_theory.specs.declared.step.Op.{Op}
use Rattle.log_theory.specs.declared.step.Op.TheVariants.{Push, Axiom, Add, Times, Divide, Saturate}
use Rattle.log_theory.specs.declared.step.Step.TheVariants.{P, U, Y}
use Rattle.log_theory.specs.Words.{line_text}
use Rattle.log_theory.specs.declared.profile.Profile.TheVariants.{Plain}
use Rattle.log_theory.specs.Profiles.{words_in}
use Rattle.log_theory.specs.LogText.{name_text, ref_text, literal_text, op_words, step_words}
use Rattle.proof_log.specs.Writing.{spaced, op_text, spaced_ref, spaced_literal, spaced_one}
use Rattle.outer_io.specs.KnownText.{StopsIn}
use Rattle.outer_io.proofs.KnownTexts.{StopsIn-first, StopsIn-then}

-- One item more.
flat_map-take : {A : Type 0} → (f : A → List ℕ) (xs : List A) (i : ℕ) (d : A) → i < length xs → flat_map f (take (i + 1) xs) ≡ flat_map f (take i xs) ++ f (get_or xs i d)
flat_map-take f xs i d i_in =
    ap (flat_map f) (take_more xs i d i_in) ∙ flat_map-append f (take i xs) (get_or xs i d ∷ []) ∙ ap (λ (t : List ℕ). flat_map f (take i xs) ++ t) (append-nil (f (get_or xs i d)))

-- The items so far and those after them.
flat_map-parts : {A : Type 0} → (f : A → List ℕ) (xs : List A) (i : ℕ) → flat_map f xs ≡ flat_map f (take i xs) ++ flat_map f (drop i xs)
flat_map-parts f xs i = ap (flat_map f) (sym (take-append-drop i xs)) ∙ flat_map-append f (take i xs) (drop i xs)

-- Where an item stopped, the whole stopped.
pub StopsIn-item : {A : Type 0} → (f : A → List ℕ) (steady steady_now : Bool) → steady_now ≡ steady → (old middle new : Option (List ℕ)) (xs : List A) (i : ℕ) (d : A) → i < length xs
    → middle ≡ append_known old (flat_map f (take i xs)) → StopsIn steady_now middle new (f (get_or xs i d)) → StopsIn steady old new (flat_map f xs)
StopsIn-item f steady steady_now same old middle new xs i d i_in before s =
    let here = subst (λ (b : Bool). StopsIn b middle new (f (get_or xs i d))) same s in
    let to_item = StopsIn-then steady old middle new (flat_map f (take i xs)) (f (get_or xs i d)) before here in
    let rest = flat_map f (drop (i + 1) xs) in
    subst (λ (t : List ℕ). StopsIn steady old new t)
    (ap (λ (t : List ℕ). t ++ rest) (sym (flat_map-take f xs i d i_in)) ∙ sym (flat_map-parts f xs (i + 1)))
    (StopsIn-first steady old new _ rest to_item)

-- ---- the lines of steps

-- A list of words, each told by an item.
flat_map-map : {A : Type 0} → (f : A → List ℕ) (xs : List A) → flat_map (λ v. 32 ∷ v) (map f xs) ≡ flat_map (λ x. 32 ∷ f x) xs
flat_map-map f [] = refl
flat_map-map f (x ∷ xs) = ap (λ (t : List ℕ). (32 ∷ f x) ++ t) (flat_map-map f xs)

op_words-parts : (o : Op) (os : List Op) → op_words (o ∷ os) ≡ op_words (o ∷ []) ++ op_words os
op_words-parts (Push r) os = refl
op_words-parts (Axiom l) os = refl
op_words-parts Add os = refl
op_words-parts (Times n) os = refl
op_words-parts (Divide n) os = refl
op_words-parts Saturate os = refl

ops_texts : (os : List Op) → spaced (op_words os) ≡ flat_map op_text os
ops_texts [] = refl
ops_texts (o ∷ os) = ap spaced (op_words-parts o os) ∙ flat_map-append (λ (v : List ℕ). 32 ∷ v) (op_words (o ∷ [])) (op_words os) ∙ ap (λ (t : List ℕ). op_text o ++ t) (ops_texts os)

two_ends : (n a e f : List ℕ) → (n ++ a) ++ (e ++ f) ≡ (n ++ (a ++ e)) ++ f
two_ends n a e f = sym (append_assoc (n ++ a) e f) ∙ ap (λ (t : List ℕ). t ++ f) (append_assoc n a e)

three_ends : (n a m b e f : List ℕ) → ((n ++ a) ++ m) ++ (b ++ (e ++ f)) ≡ (n ++ (a ++ (m ++ (b ++ e)))) ++ f
three_ends n a m b e f = simp append_assoc refl

pub p_text : (name : Name) (ops : List Op) → ((codes "p " ++ name_text name) ++ flat_map op_text ops) ++ codes " ;\n" ≡ line_text (step_words (P name ops))
p_text name ops =
    ap (λ (t : List ℕ). 112 ∷ 32 ∷ t)
    (two_ends (name_text name) (flat_map op_text ops) (32 ∷ 59 ∷ []) (10 ∷ [])
    ∙ ap (λ (t : List ℕ). (name_text name ++ t) ++ 10 ∷ []) (ap (λ (t : List ℕ). t ++ 32 ∷ 59 ∷ []) (sym (ops_texts ops)) ∙ sym (flat_map-append (λ (v : List ℕ). 32 ∷ v) (op_words ops) ((59 ∷ []) ∷ []))))

pub u_text : (name : Name) (lits : List Literal) (refs : List Ref)
    → (((codes "u " ++ name_text name) ++ flat_map spaced_literal lits) ++ codes " ;") ++ (flat_map spaced_ref refs ++ codes " ;\n") ≡ line_text (step_words (U name lits refs))
u_text name lits refs =
    ap (λ (t : List ℕ). 117 ∷ 32 ∷ t)
    (three_ends (name_text name) (flat_map spaced_literal lits) (32 ∷ 59 ∷ []) (flat_map spaced_ref refs) (32 ∷ 59 ∷ []) (10 ∷ [])
    ∙ ap (λ (t : List ℕ). (name_text name ++ t) ++ 10 ∷ [])
    (ap (λ (t : List ℕ). t ++ 32 ∷ 59 ∷ (flat_map spaced_ref refs ++ 32 ∷ 59 ∷ [])) (sym (flat_map-map literal_text lits))
    ∙ ap (λ (t : List ℕ). spaced (map literal_text lits) ++ 32 ∷ 59 ∷ t)
    (ap (λ (t : List ℕ). t ++ 32 ∷ 59 ∷ []) (sym (flat_map-map ref_text refs)) ∙ sym (flat_map-append (λ (v : List ℕ). 32 ∷ v) (map ref_text refs) ((59 ∷ []) ∷ [])))
    ∙ sym (flat_map-append (λ (v : List ℕ). 32 ∷ v) (map literal_text lits) ((59 ∷ []) ∷ (map ref_text refs ++ (59 ∷ []) ∷ [])))))

pub plain_u_text : (name : Name) (lits : List Literal) (refs : List Ref)
    → ((codes "u " ++ name_text name) ++ flat_map spaced_literal lits) ++ codes " ;\n" ≡ line_text (words_in Plain (U name lits refs))
plain_u_text name lits refs =
    ap (λ (t : List ℕ). 117 ∷ 32 ∷ t)
    (two_ends (name_text name) (flat_map spaced_literal lits) (32 ∷ 59 ∷ []) (10 ∷ [])
    ∙ ap (λ (t : List ℕ). (name_text name ++ t) ++ 10 ∷ []) (ap (λ (t : List ℕ). t ++ 32 ∷ 59 ∷ []) (sym (flat_map-map literal_text lits)) ∙ sym (flat_map-append (λ (v : List ℕ). 32 ∷ v) (map literal_text lits) ((59 ∷ []) ∷ []))))

pub y_text : (ones : List ℕ) → (codes "y" ++ flat_map spaced_one ones) ++ codes "\n" ≡ line_text (step_words (Y ones))
y_text ones = ap (λ (t : List ℕ). (121 ∷ t) ++ 10 ∷ []) (sym (flat_map-map (λ v. 120 ∷ decimal v) ones))
