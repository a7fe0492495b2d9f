-- A log that is accepted with its hints is accepted without them: what a line tells when its references are dropped.
use Rattle.std.proofs.Common.{◌≡◌, ◌≢◌, ℕ, Bool, true, false, cond, ◌==◌, ◌&&◌, List, [], ◌∷◌, ◌++◌, Option, Some, None, refl, sym, ap, ◌∙◌, subst, arith}
use Rattle.std.specs.List.{flat_map}
use Rattle.std.proofs.lemmas.Bool.{ne_eqb, eq-eqb, eqb-true, eqb-false, and_parts}
use Rattle.std.proofs.lemmas.List.{append-nil}
use lib.Chars.{codes}
use Rattle.proof_theory.specs.declared.literal.Literal.{Literal}
use Rattle.log_theory.specs.declared.profile.Profile.TheVariants.{Plain}
use Rattle.log_theory.specs.declared.step.Name.{Name}
use Rattle.log_theory.specs.declared.step.Ref.{Ref}
use Rattle.log_theory.specs.declared.step.Op.{Op}
use Rattle.log_theory.specs.declared.step.Step.{Step}
use Rattle.log_theory.specs.declared.step.Step.TheVariants.{Head, Model, P, U, N, D, E, Y, Q}
use Rattle.log_theory.specs.Words.{pieces, into_first, same_word, joined}
use Rattle.log_theory.specs.LogText.{name_of, literal_of, ref_of, all_of, Parted, parted_in_front, part, closed, when_closed, p_from, u_from, n_from, is_line, d_from, e_from, y_from, m_from, u_parted, step_behind, step_of_words, read_line}
use Rattle.log_theory.specs.Profiles.{plain, plain_u, plain_head, plain_step, read_in, up_to_semicolon, dropped_words, dropped_line}
use Rattle.log_theory.proofs.StepReadBack.{AreBefore, part_at}

-- ---- pieces without a byte

-- The byte does not occur.
abbrev pub Lacks : ℕ → List ℕ → Type 0
Lacks c [] = Unit {0}
Lacks c (b ∷ bs) = (b ≢ c) × Lacks c bs

abbrev pub AllLack : ℕ → List (List ℕ) → Type 0
AllLack c [] = Unit {0}
AllLack c (w ∷ ws) = Lacks c w × AllLack c ws

abbrev pub cut : ℕ → ℕ → Bool
cut c b = b == c

pub pieces_glued : (c : ℕ) (w rest : List ℕ) → Lacks c w → pieces (cut c) (w ++ c ∷ rest) ≡ w ∷ pieces (cut c) rest
pieces_glued c [] rest h = ap (λ (x : Bool). cond x ([] ∷ pieces (cut c) rest) (into_first c (pieces (cut c) rest))) (eq-eqb c c refl)
pieces_glued c (b ∷ bs) rest h =
    ap (λ (x : Bool). cond x ([] ∷ pieces (cut c) (bs ++ c ∷ rest)) (into_first b (pieces (cut c) (bs ++ c ∷ rest)))) (ne_eqb b c h.0)
    ∙ ap (into_first b) (pieces_glued c bs rest h.1)

pub pieces_one : (c : ℕ) (w : List ℕ) → Lacks c w → pieces (cut c) w ≡ w ∷ []
pieces_one c [] h = refl
pieces_one c (b ∷ bs) h =
    ap (λ (x : Bool). cond x ([] ∷ pieces (cut c) bs) (into_first b (pieces (cut c) bs))) (ne_eqb b c h.0)
    ∙ ap (into_first b) (pieces_one c bs h.1)

-- The pieces lack the byte at which they were cut.
pub pieces_lack : (c : ℕ) (bs : List ℕ) → AllLack c (pieces (cut c) bs)
pieces_lack c [] = (tt, tt)
pieces_lack c (b ∷ bs) = by-test (b == c) refl (pieces (cut c) bs) (pieces_lack c bs)
  where
    by-test : (x : Bool) → (b == c) ≡ x → (ps : List (List ℕ)) → AllLack c ps → AllLack c (cond x ([] ∷ ps) (into_first b ps))
    by-test true t ps h = (tt, h)
    by-test false t [] h = ((eqb-false b c t, tt), tt)
    by-test false t (p ∷ ps) h = ((eqb-false b c t, h.0), h.1)

-- The pieces lack what the text lacks.
pub pieces_lack_too : (c d : ℕ) (bs : List ℕ) → Lacks d bs → AllLack d (pieces (cut c) bs)
pieces_lack_too c d [] l = (tt, tt)
pieces_lack_too c d (b ∷ bs) l = by-test (b == c) (pieces (cut c) bs) (pieces_lack_too c d bs l.1)
  where
    by-test : (x : Bool) (ps : List (List ℕ)) → AllLack d ps → AllLack d (cond x ([] ∷ ps) (into_first b ps))
    by-test true ps h = (tt, h)
    by-test false [] h = ((l.0, tt), tt)
    by-test false (p ∷ ps) h = ((l.0, h.0), h.1)

pub Lacks-append : (c : ℕ) (front bs : List ℕ) → Lacks c front → Lacks c bs → Lacks c (front ++ bs)
Lacks-append c [] bs h k = k
Lacks-append c (a ∷ rest) bs h k = (h.0, Lacks-append c rest bs h.1 k)

-- Joined words lack what the words lack, but for blanks.
pub joined_lacks : (c : ℕ) (ws : List (List ℕ)) → 32 ≢ c → AllLack c ws → Lacks c (joined ws)
joined_lacks c [] n h = tt
joined_lacks c (w ∷ ws) n h = Lacks-append c w _ h.0 (rest ws h.1)
  where
    rest : (vs : List (List ℕ)) → AllLack c vs → Lacks c (flat_map (λ v. 32 ∷ v) vs)
    rest [] k = tt
    rest (v ∷ vs) k = (n, Lacks-append c v _ k.0 (rest vs k.1))

-- Words without blanks, joined by blanks, are cut back into themselves.
pub words_cut : (w : List ℕ) (ws : List (List ℕ)) → AllLack 32 (w ∷ ws) → pieces (cut 32) (joined (w ∷ ws)) ≡ w ∷ ws
words_cut w [] h = ap (pieces (cut 32)) (append-nil w) ∙ pieces_one 32 w h.0
words_cut w (v ∷ vs) h = pieces_glued 32 w (joined (v ∷ vs)) h.0 ∙ ap (λ (xs : List (List ℕ)). w ∷ xs) (words_cut v vs h.1)

-- ---- words without references

pub same_word_is : (a b : List ℕ) → same_word a b ≡ true → a ≡ b
same_word_is [] [] e = refl
same_word_is [] (b ∷ bs) e = absurd cc
same_word_is (a ∷ rest) [] e = absurd cc
same_word_is (a ∷ rest) (b ∷ bs) e =
    let p = and_parts (a == b) (same_word rest bs) e in
    ap (λ (x : ℕ). x ∷ rest) (eqb-true a b p.0) ∙ ap (λ (xs : List ℕ). b ∷ xs) (same_word_is rest bs p.1)

-- What parted words are.
record PartedAt (ws : List (List ℕ)) (p : Parted) : Type 0 where
  before : AreBefore p.front
  lacks : (c : ℕ) → AllLack c ws → AllLack c p.front

parted_at : (ws : List (List ℕ)) (p : Parted) → part ws ≡ Some p → PartedAt ws p
parted_at [] p e = absurd cc
parted_at (w ∷ ws) p e = by-test (same_word w (codes ";")) refl (part ws) refl (λ q g. parted_at ws q g) e
  where
    by-test : (x : Bool) → same_word w (codes ";") ≡ x → (o : Option Parted) → part ws ≡ o → ((q : Parted) → part ws ≡ Some q → PartedAt ws q)
        → cond x (Some (record { front = []; rest = ws })) (parted_in_front w o) ≡ Some p → PartedAt (w ∷ ws) p
    by-test true t o g ih i =
        let same : record { front = []; rest = ws } ≡ p = cc in
        subst (λ (q : Parted). PartedAt (w ∷ ws) q) same (record { before = tt; lacks = λ c l. tt })
    by-test false t None g ih i = absurd cc
    by-test false t (Some q) g ih i =
        let same : record { front = w ∷ q.front; rest = q.rest } ≡ p = cc in
        let k = ih q g in
        subst (λ (r : Parted). PartedAt (w ∷ ws) r) same (record { before = (t, k.before); lacks = λ c l. (l.0, k.lacks c l.1) })

-- What a `u` line's parts are.
record Parts (a : Option Name) (b : Option (List Literal)) (s : Step) : Type 0 where
  name : Name
  lits : List Literal
  named : a ≡ Some name
  listed : b ≡ Some lits
  is : plain s ≡ U name lits []

u_parts : (a : Option Name) (b : Option (List Literal)) (c : Option (List Ref)) (s : Step) → u_from a b c ≡ Some s → Parts a b s
u_parts None b c s e = absurd cc
u_parts (Some n) None c s e = absurd cc
u_parts (Some n) (Some ls) None s e = absurd cc
u_parts (Some n) (Some ls) (Some rs) s e =
    let same : U n ls rs ≡ s = cc in
    record { name = n; lits = ls; named = refl; listed = refl; is = ap plain (sym same) }

-- A `u` line without its references is read as the step without them.
u_dropped : (v : List ℕ) (ws : List (List ℕ)) (s : Step) → u_parted v (part ws) ≡ Some s → plain_u v (up_to_semicolon ws (part ws)) ≡ Some (plain s)
u_dropped v ws s e = by-part (part ws) refl e
  where
    by-part : (o : Option Parted) → part ws ≡ o → u_parted v o ≡ Some s → plain_u v (up_to_semicolon ws o) ≡ Some (plain s)
    by-part None g h = absurd cc
    by-part (Some p) g h =
        let k = u_parts (name_of v) (all_of literal_of p.front) (when_closed (all_of ref_of) (closed (part p.rest))) s h in
        ap (λ (o : Option Parted). u_from (name_of v) (when_closed (all_of literal_of) (closed o)) (Some [])) (part_at p.front [] (parted_at ws p g).before)
        ∙ ap (λ (o : Option (List Literal)). u_from (name_of v) o (Some [])) k.listed
        ∙ ap (λ (o : Option Name). u_from o (Some k.lits) (Some [])) k.named
        ∙ ap (λ (x : Step). Some x) (sym k.is)

-- ---- other lines have no hints

some_plain : (x s : Step) → let a : Option Step = Some x in let b : Option Step = Some s in a ≡ b → plain x ≡ x → plain s ≡ s
some_plain x s e h = let g : x ≡ s = cc in subst (λ (y : Step). plain y ≡ y) g h

cond_plain : (s : Step) (x : Bool) (a b : Option Step) → (a ≡ Some s → plain s ≡ s) → (b ≡ Some s → plain s ≡ s) → cond x a b ≡ Some s → plain s ≡ s
cond_plain s true a b h k e = h e
cond_plain s false a b h k e = k e

none_plain : (s : Step) → let a : Option Step = None in a ≡ Some s → plain s ≡ s
none_plain s e = absurd cc

p_plain : (a : Option Name) (b : Option (List Op)) (s : Step) → p_from a b ≡ Some s → plain s ≡ s
p_plain None b s e = absurd cc
p_plain (Some n) None s e = absurd cc
p_plain (Some n) (Some os) s e = some_plain (P n os) s e refl

n_plain : (a : Option ℕ) (b : Option Name) (s : Step) → n_from a b ≡ Some s → plain s ≡ s
n_plain None b s e = absurd cc
n_plain (Some k) None s e = absurd cc
n_plain (Some k) (Some n) s e = some_plain (N k n) s e refl

d_plain : (a : Option Ref) (s : Step) → d_from a ≡ Some s → plain s ≡ s
d_plain None s e = absurd cc
d_plain (Some r) s e = cond_plain s (is_line r) None (Some (D r)) (none_plain s) (λ g. some_plain (D r) s g refl) e

e_plain : (a : Option Ref) (s : Step) → e_from a ≡ Some s → plain s ≡ s
e_plain None s e = absurd cc
e_plain (Some r) s e = some_plain (E r) s e refl

y_plain : (a : Option (List ℕ)) (s : Step) → y_from a ≡ Some s → plain s ≡ s
y_plain None s e = absurd cc
y_plain (Some vs) s e = some_plain (Y vs) s e refl

m_plain : (a : Option ℕ) (s : Step) → m_from a ≡ Some s → plain s ≡ s
m_plain None s e = absurd cc
m_plain (Some m) s e = some_plain (Model m) s e refl

past_u : (s : Step) (x : Bool) (a b : Option Step) → x ≡ false → (b ≡ Some s → plain s ≡ s) → cond x a b ≡ Some s → plain s ≡ s
past_u s true a b f k e = absurd cc
past_u s false a b f k e = k e

pub other_plain : (w v : List ℕ) (ws : List (List ℕ)) (s : Step) → same_word w (codes "u") ≡ false → step_behind w (v ∷ ws) ≡ Some s → plain s ≡ s
other_plain w v [] s f e =
    cond_plain s (same_word w (codes "p")) _ _ (p_plain _ _ s)
    (past_u s (same_word w (codes "u")) _ _ f
    (cond_plain s (same_word w (codes "m")) _ _ (m_plain _ s)
    (cond_plain s (same_word w (codes "d")) _ _ (d_plain _ s)
    (cond_plain s (same_word w (codes "e")) _ _ (e_plain _ s) (cond_plain s (same_word w (codes "y")) _ _ (y_plain _ s) (none_plain s)))))) e
other_plain w v (x ∷ []) s f e =
    cond_plain s (same_word w (codes "p")) _ _ (p_plain _ _ s)
    (past_u s (same_word w (codes "u")) _ _ f
    (cond_plain s (same_word w (codes "n")) _ _ (n_plain _ _ s)
    (cond_plain s (same_word w (codes "embedding") && same_word v (codes "proof") && same_word x (codes "1")) _ _ (λ g. some_plain Head s g refl)
    (cond_plain s (same_word w (codes "y")) _ _ (y_plain _ s) (none_plain s))))) e
other_plain w v (x ∷ y ∷ ws) s f e =
    cond_plain s (same_word w (codes "p")) _ _ (p_plain _ _ s)
    (past_u s (same_word w (codes "u")) _ _ f (cond_plain s (same_word w (codes "y")) _ _ (y_plain _ s) (none_plain s))) e

pub lone_plain : (w : List ℕ) (s : Step) → step_behind w [] ≡ Some s → plain s ≡ s
lone_plain w s e =
    cond_plain s (same_word w (codes "y")) _ _ (λ g. some_plain (Y []) s g refl) (cond_plain s (same_word w (codes "q")) _ _ (λ g. some_plain Q s g refl) (none_plain s)) e

head_or_none : (x : Bool) (s : Step) → cond x (Some Head) None ≡ Some s → s ≡ Head
head_or_none true s e = cc
head_or_none false s e = absurd cc

-- A line that begins with `embedding` is the first line or none.
only_head : (v : List ℕ) (ws : List (List ℕ)) (s : Step) → step_of_words (codes "embedding" ∷ v ∷ ws) ≡ Some s → s ≡ Head
only_head v [] s e = absurd cc
only_head v (x ∷ []) s e = head_or_none (same_word v (codes "proof") && same_word x (codes "1")) s e
only_head v (x ∷ y ∷ ws) s e = absurd cc

-- The step that words tell without their references.
words_dropped : (ws : List (List ℕ)) (s : Step) → step_of_words ws ≡ Some s → s ≢ Head → plain_step (dropped_words ws) ≡ Some (plain s)
words_dropped [] s e n = absurd cc
words_dropped (w ∷ []) s e n = e ∙ ap (λ (x : Step). Some x) (sym (lone_plain w s e))
words_dropped (w ∷ v ∷ ws) s e n = by-u (same_word w (codes "u")) refl
  where
    told : same_word w (codes "u") ≡ true → u_parted v (part ws) ≡ Some s
    told t = subst (λ (x : List ℕ). step_behind x (v ∷ ws) ≡ Some s) (same_word_is w (codes "u") t) e

    by-head : (x : Bool) → same_word w (codes "embedding") ≡ x → cond x (plain_head (v ∷ ws)) (step_of_words (w ∷ v ∷ ws)) ≡ Some s
    by-head true t = absurd (n (only_head v ws s (subst (λ (x : List ℕ). step_of_words (x ∷ v ∷ ws) ≡ Some s) (same_word_is w (codes "embedding") t) e)))
    by-head false t = e

    by-u : (x : Bool) → same_word w (codes "u") ≡ x → plain_step (cond x (w ∷ v ∷ up_to_semicolon ws (part ws)) (w ∷ v ∷ ws)) ≡ Some (plain s)
    by-u true t =
        ap (λ (x : Bool). cond x (plain_u v (up_to_semicolon ws (part ws))) (cond (same_word w (codes "embedding")) (plain_head (v ∷ up_to_semicolon ws (part ws))) (step_of_words (w ∷ v ∷ up_to_semicolon ws (part ws))))) t
        ∙ u_dropped v ws s (told t)
    by-u false t =
        ap (λ (x : Bool). cond x (plain_u v ws) (cond (same_word w (codes "embedding")) (plain_head (v ∷ ws)) (step_of_words (w ∷ v ∷ ws)))) t
        ∙ by-head (same_word w (codes "embedding")) refl
        ∙ ap (λ (x : Step). Some x) (sym (other_plain w v ws s t e))

semicolon_lacks : (c : ℕ) → 59 ≢ c → Lacks c (codes ";")
semicolon_lacks c n = (n, tt)

AllLack-append : (c : ℕ) (ws vs : List (List ℕ)) → AllLack c ws → AllLack c vs → AllLack c (ws ++ vs)
AllLack-append c [] vs h k = k
AllLack-append c (w ∷ ws) vs h k = (h.0, AllLack-append c ws vs h.1 k)

-- Words without references lack what the words lack.
dropped_lack : (c : ℕ) (ws : List (List ℕ)) → 59 ≢ c → AllLack c ws → AllLack c (dropped_words ws)
dropped_lack c [] n h = tt
dropped_lack c (w ∷ []) n h = h
dropped_lack c (w ∷ v ∷ ws) n h = by-u (same_word w (codes "u"))
  where
    by-part : (o : Option Parted) → part ws ≡ o → AllLack c (up_to_semicolon ws o)
    by-part None g = h.1.1
    by-part (Some p) g = AllLack-append c p.front (codes ";" ∷ []) ((parted_at ws p g).lacks c h.1.1) (semicolon_lacks c n, tt)

    by-u : (x : Bool) → AllLack c (cond x (w ∷ v ∷ up_to_semicolon ws (part ws)) (w ∷ v ∷ ws))
    by-u true = (h.0, (h.1.0, by-part (part ws) refl))
    by-u false = h

dropped_cut : (ws : List (List ℕ)) → ws ≢ [] → AllLack 32 ws → pieces (cut 32) (joined (dropped_words ws)) ≡ dropped_words ws
dropped_cut [] n h = absurd (n refl)
dropped_cut (w ∷ []) n h = words_cut w [] h
dropped_cut (w ∷ v ∷ ws) n h = by-u (same_word w (codes "u")) (dropped_lack 32 (w ∷ v ∷ ws) (λ e. omega (arith, e)) h)
  where
    by-u : (x : Bool) → AllLack 32 (cond x (w ∷ v ∷ up_to_semicolon ws (part ws)) (w ∷ v ∷ ws)) → pieces (cut 32) (joined (cond x (w ∷ v ∷ up_to_semicolon ws (part ws)) (w ∷ v ∷ ws))) ≡ cond x (w ∷ v ∷ up_to_semicolon ws (part ws)) (w ∷ v ∷ ws)
    by-u true k = words_cut w (v ∷ up_to_semicolon ws (part ws)) k
    by-u false k = words_cut w (v ∷ ws) k

-- A line that a log with hints has, but for its first one, is without its references a line of a log without hints, of the same step.
pub line_dropped : (line : List ℕ) (s : Step) → read_line line ≡ Some s → s ≢ Head → read_in Plain (dropped_line line) ≡ Some (plain s)
line_dropped line s e n =
    ap plain_step (dropped_cut (pieces (cut 32) line) some (pieces_lack 32 line)) ∙ words_dropped (pieces (cut 32) line) s e n
  where
    some : pieces (cut 32) line ≢ []
    some g = let h : step_of_words [] ≡ Some s = subst (λ (ws : List (List ℕ)). step_of_words ws ≡ Some s) g e in cc

-- And it has no line end where the line had none.
pub dropped_line_lacks : (c : ℕ) (line : List ℕ) → 59 ≢ c → 32 ≢ c → Lacks c line → Lacks c (dropped_line line)
dropped_line_lacks c line n m h = joined_lacks c (dropped_words (pieces (cut 32) line)) m (dropped_lack c (pieces (cut 32) line) n (pieces_lack_too 32 c line h))
