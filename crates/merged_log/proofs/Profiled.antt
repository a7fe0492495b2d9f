-- A log in a profile is its lines in this profile, one after another.
use Rattle.std.proofs.Common.{Some, ◌≡◌, ◌≢◌, ℕ, zero, suc, ◌^◌, ◌<◌, ◌≤◌, Bool, true, false, cond, codes, List, [], ◌∷◌, ◌++◌, length, take, drop, get_or, map, refl, sym, ap, ◌∙◌, append_assoc, append-nil, arith}
use Rattle.std.specs.List.{flat_map}
use Rattle.std.specs.Fmt.{decimal}
use Rattle.std.proofs.lemmas.Bool.{eq-eqb, ne_eqb}
use Rattle.proof_theory.specs.declared.literal.Literal.{Literal}
use Rattle.proof_theory.specs.Forms.{Form}
use Rattle.log_theory.specs.declared.profile.Profile.{Profile}
use Rattle.log_theory.specs.declared.profile.Profile.TheVariants.{Hinted, Plain}
use Rattle.log_theory.specs.declared.step.Name.{Name}
use Rattle.log_theory.specs.declared.step.Ref.{Ref}
use Rattle.log_theory.specs.declared.step.Step.{Step}
use Rattle.log_theory.specs.declared.step.Step.TheVariants.{Head, Model, P, U, N, D, E, Y, Q}
use Rattle.log_theory.specs.declared.step.Verdict.{Verdict}
use Rattle.log_theory.specs.Words.{pieces, line_text}
use Rattle.log_theory.specs.LogText.{name_text, step_words, AreLiterals, IsName, IsStep}
use Rattle.log_theory.specs.Profiles.{words_in, head_of, dropped_line, with_feeds, log_profile}
use Rattle.log_theory.specs.Acceptance.{AreLines, lines_text, Accepts}
use Rattle.log_theory.proofs.Splitting.{AllBetween, decimal_bytes}
use Rattle.log_theory.proofs.Dropping.{Lacks, Lacks-append, cut}
use Rattle.log_theory.proofs.DroppedLogs.{log_dropped, text_dropped}
use Rattle.log_theory.proofs.PlainReadBack.{line_without}
use Rattle.proof_log.specs.Writing.{spaced_ref, spaced_literal}
use Rattle.proof_log.proofs.PutLines.{u_text, plain_u_text}
use Rattle.journal_theory.specs.Stepping.{step_line, NoFeedLaw}
use Rattle.journals.specs.Keeping.{Keeping, AreSteps, BearNames, text_of}
use Rattle.journal_theory.specs.Journals.{numbered}
use Rattle.merged_log.specs.Lines.{part_of}
use Rattle.merged_log.proofs.PartTexts.{names_part, drop_none}
use Rattle.merged_log.specs.Profiles.{in_profile, up_to_mark, without_hints, line_in, text_in, head_text}
use Rattle.merged_log.specs.Steps.{log_text}

-- ---- a line up to its first `;`

digits_lack : (ds : List ℕ) → AllBetween 48 57 ds → Lacks 59 ds
digits_lack [] h = tt
digits_lack (d ∷ ds) h = ((λ e. let high : d ≤ 57 = h.1 in omega (arith, high, e)), digits_lack ds h.2)

decimal_lacks : (n : ℕ) → n < 2 ^ 63 → Lacks 59 (decimal n)
decimal_lacks n h = digits_lack (decimal n) (decimal_bytes n (omega (arith, h)))

name_lacks : (n : Name) → IsName n → Lacks 59 (name_text n)
name_lacks n h =
    let few = h.owner_fits in
    Lacks-append 59 (decimal n.owner) (46 ∷ decimal n.number) (decimal_lacks n.owner (omega (arith, few))) ((λ e. omega (arith, e)), decimal_lacks n.number h.number_fits)

literal_lacks : (l : Literal) → l.variable < 2 ^ 32 → Lacks 59 (spaced_literal l)
literal_lacks l h = ((λ e. omega (arith, e)), by l.negated)
  where
    digits : Lacks 59 (decimal l.variable)
    digits = decimal_lacks l.variable (omega (arith, h))

    by : (b : Bool) → Lacks 59 (cond b (126 ∷ 120 ∷ decimal l.variable) (120 ∷ decimal l.variable))
    by true = ((λ e. omega (arith, e)), ((λ e. omega (arith, e)), digits))
    by false = ((λ e. omega (arith, e)), digits)

literals_lack : (ls : List Literal) → AreLiterals ls → Lacks 59 (flat_map spaced_literal ls)
literals_lack [] h = tt
literals_lack (l ∷ ls) h = Lacks-append 59 (spaced_literal l) (flat_map spaced_literal ls) (literal_lacks l h.0) (literals_lack ls h.1)

marked : (front rest : List ℕ) → Lacks 59 front → up_to_mark ((front ++ 32 ∷ 59 ∷ []) ++ rest) ≡ front ++ 32 ∷ 59 ∷ []
marked [] rest h = refl
marked (b ∷ bs) rest h = ap (λ (x : Bool). b ∷ cond x [] (up_to_mark ((bs ++ 32 ∷ 59 ∷ []) ++ rest))) (ne_eqb b 59 h.0) ∙ ap (λ (t : List ℕ). b ∷ t) (marked bs rest h.1)

u_cut : (name : Name) (lits : List Literal) (refs : List Ref) → IsName name → AreLiterals lits → without_hints (line_text (step_words (U name lits refs))) ≡ line_text (words_in Plain (U name lits refs))
u_cut name lits refs is are =
    let front : List ℕ = (codes "u " ++ name_text name) ++ flat_map spaced_literal lits in
    let rest : List ℕ = flat_map spaced_ref refs ++ codes " ;\n" in
    let lacks : Lacks 59 front = Lacks-append 59 (codes "u " ++ name_text name) (flat_map spaced_literal lits) ((λ e. omega (arith, e)), ((λ e. omega (arith, e)), name_lacks name is)) (literals_lack lits are) in
    ap without_hints (sym (u_text name lits refs))
    ∙ ap (λ (t : List ℕ). t ++ 10 ∷ []) (marked front rest lacks)
    ∙ append_assoc front (32 ∷ 59 ∷ []) (10 ∷ [])
    ∙ plain_u_text name lits refs

-- The line of a step behind the first line.
line_cut : (s : Step) → IsStep s → line_in Plain s ≡ dropped_line (step_line s) ++ 10 ∷ []
line_cut Head h = refl
line_cut (Model m) h = ap (λ (t : List ℕ). t ++ 10 ∷ []) (sym (line_without (Model m) h (λ e. cc)))
line_cut (P name ops) h = ap (λ (t : List ℕ). t ++ 10 ∷ []) (sym (line_without (P name ops) h (λ e. cc)))
line_cut (U name lits refs) h = u_cut name lits refs h.0 h.1 ∙ ap (λ (t : List ℕ). t ++ 10 ∷ []) (sym (line_without (U name lits refs) h (λ e. cc)))
line_cut (N row name) h = ap (λ (t : List ℕ). t ++ 10 ∷ []) (sym (line_without (N row name) h (λ e. cc)))
line_cut (D at) h = ap (λ (t : List ℕ). t ++ 10 ∷ []) (sym (line_without (D at) h (λ e. cc)))
line_cut (E at) h = ap (λ (t : List ℕ). t ++ 10 ∷ []) (sym (line_without (E at) h (λ e. cc)))
line_cut (Y ones) h = ap (λ (t : List ℕ). t ++ 10 ∷ []) (sym (line_without (Y ones) h (λ e. cc)))
line_cut Q h = ap (λ (t : List ℕ). t ++ 10 ∷ []) (sym (line_without Q h (λ e. cc)))

-- Lines that name no references are the same in both profiles.
pub n_line : (profile : Profile) (row : ℕ) (name : Name) → line_in profile (N row name) ≡ line_text (step_words (N row name))
n_line Hinted row name = refl
n_line Plain row name = refl

pub e_line : (profile : Profile) (at : Ref) → line_in profile (E at) ≡ line_text (step_words (E at))
e_line Hinted at = refl
e_line Plain at = refl

pub y_line : (profile : Profile) (ones : List ℕ) → line_in profile (Y ones) ≡ line_text (step_words (Y ones))
y_line Hinted ones = refl
y_line Plain ones = refl

pub q_line : (profile : Profile) → line_in profile Q ≡ line_text (step_words Q)
q_line Hinted = refl
q_line Plain = refl

-- ---- the whole log

lines_same : (ss : List Step) → text_of ss ≡ log_text ss
lines_same [] = refl
lines_same (s ∷ ss) = ap (λ (t : List ℕ). line_text (step_words s) ++ t) (lines_same ss)

lines_cut : (ss : List Step) → AreSteps ss → text_in Plain ss ≡ lines_text (map dropped_line (map step_line ss))
lines_cut [] h = refl
lines_cut (s ∷ ss) h =
    ap (λ (t : List ℕ). t ++ text_in Plain ss) (line_cut s h.0) ∙ ap (λ (t : List ℕ). (dropped_line (step_line s) ++ 10 ∷ []) ++ t) (lines_cut ss h.1)

are_lines : NoFeedLaw → (ss : List Step) → AreSteps ss → AreLines (map step_line ss)
are_lines law [] h = tt
are_lines law (s ∷ ss) h = (law s h.0, are_lines law ss h.1)

pub whole_text : NoFeedLaw → (profile : Profile) (lines : ℕ) (ss : List Step) → lines < 2 ^ 63 → AreSteps ss → head_text profile lines ++ text_in profile ss ≡ in_profile profile (log_text (Head ∷ Model lines ∷ ss))
whole_text law Hinted lines ss fits h = append_assoc (line_text (step_words Head)) (line_text (step_words (Model lines))) (text_of ss) ∙ lines_same (Head ∷ Model lines ∷ ss)
whole_text law Plain lines ss fits h =
    append_assoc (line_text (words_in Plain Head)) (line_text (step_words (Model lines))) (text_in Plain ss)
    ∙ ap (λ (t : List ℕ). line_text (words_in Plain Head) ++ t) (lines_cut (Model lines ∷ ss) (fits, h))
    ∙ sym (text_dropped (step_line Head) (map step_line (Model lines ∷ ss)) (are_lines law (Head ∷ Model lines ∷ ss) (tt, (fits, h))))

-- A log that is accepted is accepted in each profile.
pub accepted_in : (profile : Profile) (n : ℕ) (model : List Form) (steps : List Step) (claim : Verdict) → Accepts n model (log_text (Head ∷ steps)) claim → Accepts n model (in_profile profile (log_text (Head ∷ steps))) claim
accepted_in Hinted n model steps claim a = a
accepted_in Plain n model steps claim a = log_dropped n model (log_text (Head ∷ steps)) claim refl a

-- Its first line tells the profile.
plain_told : (ls : List (List ℕ)) → log_profile (with_feeds (head_of Plain ∷ ls)) ≡ Some Plain
plain_told [] = refl
plain_told (l ∷ ls) = refl

pub profile_told : (profile : Profile) (steps : List Step) → log_profile (in_profile profile (log_text (Head ∷ steps))) ≡ Some profile
profile_told Hinted steps = refl
profile_told Plain steps = plain_told (map dropped_line (pieces (cut 10) (log_text steps)))

-- ---- one line of a journal

-- The text of one step without its hints.
pub one_cut : (ss : List Step) (at : ℕ) → at < length ss → without_hints (text_of (drop at (take (suc at) ss))) ≡ text_in Plain (drop at (take (suc at) ss))
one_cut [] at h = absurd (omega arith)
one_cut (s ∷ ss) zero h = ap without_hints (append-nil (line_text (step_words s))) ∙ sym (append-nil (line_in Plain s))
one_cut (s ∷ ss) (suc at) h = one_cut ss at (omega (arith, h))

-- A text of a line that begins with no `u`.
pub kept_line : (line : List ℕ) → get_or line 0 0 ≢ 117 → without_hints line ≡ line
kept_line [] n = refl
kept_line (b ∷ bs) n = ap (λ (x : Bool). cond x (up_to_mark (b ∷ bs) ++ 10 ∷ []) (b ∷ bs)) (ne_eqb b 117 n)

pub cut_line : (line : List ℕ) → get_or line 0 0 ≡ 117 → without_hints line ≡ up_to_mark line ++ 10 ∷ []
cut_line [] e = absurd cc
cut_line (b ∷ bs) e = ap (λ (x : Bool). cond x (up_to_mark (b ∷ bs) ++ 10 ∷ []) (b ∷ bs)) (eq-eqb b 117 e)

-- ---- parts of a journal

split_at : (from at to : ℕ) (ss : List Step) → from ≤ at → at ≤ to → drop from (take to ss) ≡ drop from (take at ss) ++ drop at (take to ss)
split_at zero zero to ss h k = refl
split_at zero (suc at) zero ss h k = absurd (omega (arith, k))
split_at zero (suc at) (suc to) [] h k = refl
split_at zero (suc at) (suc to) (s ∷ ss) h k = ap (λ (ts : List Step). s ∷ ts) (split_at zero at to ss (omega arith) (omega (arith, k)))
split_at (suc from) zero to ss h k = absurd (omega (arith, h))
split_at (suc from) (suc at) zero ss h k = absurd (omega (arith, k))
split_at (suc from) (suc at) (suc to) [] h k = refl
split_at (suc from) (suc at) (suc to) (s ∷ ss) h k = split_at from at to ss (omega (arith, h)) (omega (arith, k))

-- Lines up to a count, and those from there on.
pub part_split : (j : Keeping) (from at to : ℕ) → BearNames j.owner j.steps → from ≤ at → at ≤ to → part_of j from to ≡ part_of j from at ++ part_of j at to
part_split j from at to names h k =
    names_part j.owner from to j.steps names
    ∙ split_at from at to j.steps h k
    ∙ ap (λ (ts : List Step). ts ++ drop at (take to j.steps)) (sym (names_part j.owner from at j.steps names))
    ∙ ap (λ (ts : List Step). part_of j from at ++ ts) (sym (names_part j.owner at to j.steps names))

pub part_none : (j : Keeping) (from to : ℕ) → to ≤ from → part_of j from to ≡ []
part_none j from to h = ap (λ (ts : List Step). numbered j.owner from ts) (drop_none from to j.steps h)
