-- What a text lists, and its first fault.
use Rattle.std.proofs.Common.{◌≡◌, ◌≢◌, ℕ, zero, suc, ◌+◌, ◌<◌, ◌≤◌, List, [], ◌∷◌, ◌++◌, length, slice_get, Some, append_assoc, length-append, Result, Ok, Err, IfOk, IfErr, MatchResult, refl, sym, ap, ◌∙◌, subst, arith}
use Rattle.std.specs.List.{AllZip}
use Rattle.std.proofs.lemmas.Option.{same_Some, slice_get_within}
use Rattle.std.proofs.lemmas.List.{append-nil, length_push}
use native.Mathlib.Decide.{dec_lt}
use Rattle.job_list.specs.declared.fault.ListCause.{ListCause}
use Rattle.job_list.specs.declared.fault.ListCause.TheVariants.{Form, TooMany}
use Rattle.job_list.specs.declared.fault.ListFault.{ListFault}
use Rattle.job_list.specs.declared.fault.ListFault.TheVariants.{Line, NoMemory}
use Rattle.job_list.specs.Jobs.{OnLine, lines, JobText, Says, IsList, IsBad, FirstBad}
use Rattle.job_list.proofs.Pieces.{one_job, some_line}

-- the lines that were read say these jobs, and these lines follow
pub record AreRead (text : List ℕ) (jobs : List JobText) (rest : List ℕ) : Type 0 where
  pub done : List (List ℕ)
  pub cut : lines text ≡ done ++ lines rest
  pub said : AllZip Says done jobs
  pub few : length jobs ≤ 1000

pub said_count : (ls : List (List ℕ)) (js : List JobText) → AllZip Says ls js → length ls ≡ length js
said_count [] [] h = refl
said_count [] (j ∷ js) h = absurd h
said_count (l ∷ ls) [] h = absurd h
said_count (l ∷ ls) (j ∷ js) h = ap suc (said_count ls js h.1)

pub said_push : (ls : List (List ℕ)) (js : List JobText) (l : List ℕ) (j : JobText) → AllZip Says ls js → Says l j → AllZip Says (ls ++ l ∷ []) (js ++ j ∷ [])
said_push [] [] l j h one = (one, tt)
said_push [] (k ∷ ks) l j h one = absurd h
said_push (k ∷ ks) [] l j h one = absurd h
said_push (k ∷ ks) (i ∷ is) l j h one = (h.0, said_push ks is l j h.1 one)

pub said_once : (ls : List (List ℕ)) (js ks : List JobText) → AllZip Says ls js → AllZip Says ls ks → js ≡ ks
said_once [] [] [] a b = refl
said_once [] [] (k ∷ ks) a b = absurd b
said_once [] (j ∷ js) ks a b = absurd a
said_once (l ∷ ls) [] ks a b = absurd a
said_once (l ∷ ls) (j ∷ js) [] a b = absurd b
said_once (l ∷ ls) (j ∷ js) (k ∷ ks) a b = ap (λ x. x ∷ js) (one_job l j k a.0 b.0) ∙ ap (λ xs. k ∷ xs) (said_once ls js ks a.1 b.1)

-- a line that is said is not one that says nothing
pub said_at : (ls more : List (List ℕ)) (js : List JobText) (k : ℕ) (l : List ℕ) → AllZip Says ls js → k < length ls → slice_get (ls ++ more) k ≡ Some l → ((j : JobText) → ¬ (Says l j)) → ⊥
said_at [] more js k l h within at none = omega arith
said_at (x ∷ xs) more [] k l h within at none = h
said_at (x ∷ xs) more (j ∷ js) zero l h within at none = none j (subst (λ (y : List ℕ). Says y j) (same_Some x l at) h.0)
said_at (x ∷ xs) more (j ∷ js) (suc k) l h within at none = said_at xs more js k l h.1 (omega arith) at none

-- a faulty line is none of those that were read
pub bad_later : (ls more : List (List ℕ)) (js : List JobText) (k : ℕ) (c : ListCause) → AllZip Says ls js → length js ≤ 1000 → IsBad (ls ++ more) k c → length js ≤ k
bad_later ls more js k Form h few bad = by (dec_lt k (length ls))
  where
    by : Dec (k < length ls) → length js ≤ k
    by (yes inside) = absurd (said_at ls more js k bad.1 h inside bad.2 bad.3)
    by (no outside) = let e = said_count ls js h in omega arith
bad_later ls more js k TooMany h few bad = let e = bad.0 in omega arith

pub read_none : (text : List ℕ) → AreRead text [] text
read_none text = record { done = []; cut = refl; said = tt; few = omega arith }

pub read_more : (text rest more line : List ℕ) (js ks : List JobText) (j : JobText) → AreRead text js rest → length js ≢ 1000 → lines rest ≡ line ∷ lines more → Says line j → ks ≡ js ++ j ∷ [] → AreRead text ks more
read_more text rest more line js ks j was room cut one is = record {
  done = was.done ++ line ∷ [];
  cut = was.cut ∙ ap (λ ls. was.done ++ ls) cut ∙ sym (append_assoc was.done (line ∷ []) (lines more));
  said = subst (λ (xs : List JobText). AllZip Says (was.done ++ line ∷ []) xs) (sym is) (said_push was.done js line j was.said one);
  few = let f = was.few in let e : length ks ≡ length (js ++ j ∷ []) = ap length is in let p = length_push js j in omega arith;
}

pub read_all : (text : List ℕ) (js : List JobText) → AreRead text js [] → IsList text js
read_all text js was = record {
  said = subst (λ (ls : List (List ℕ)). AllZip Says ls js) (sym (was.cut ∙ append-nil was.done)) was.said;
  few = was.few;
}

-- the next line is faulty
pub stops_form : (text rest more line : List ℕ) (js : List JobText) (n : ℕ) → AreRead text js rest → length js ≢ 1000 → lines rest ≡ line ∷ lines more → ((j : JobText) → ¬ (Says line j)) → n ≡ length js + 1 → FirstBad text n Form
stops_form text rest more line js n was room cut none is =
    let whole : lines text ≡ was.done ++ line ∷ lines more = was.cut ∙ ap (λ ls. was.done ++ ls) cut in
    let count = said_count was.done js was.said in
    record {
      place = length js;
      line = is;
      bad = (
        (let f = was.few in omega arith),
        line,
        ap (λ ls. slice_get ls (length js)) whole ∙ ap (λ k. slice_get (was.done ++ line ∷ lines more) k) (sym count) ∙ get_behind was.done line (lines more),
        none,
      );
      first = λ k c bad. bad_later was.done (line ∷ lines more) js k c was.said was.few (subst (λ (ls : List (List ℕ)). IsBad ls k c) whole bad);
    }
  where
    get_behind : (xs : List (List ℕ)) (y : List ℕ) (ys : List (List ℕ)) → slice_get (xs ++ y ∷ ys) (length xs) ≡ Some y
    get_behind [] y ys = refl
    get_behind (x ∷ xs) y ys = get_behind xs y ys

pub stops_full : (text rest : List ℕ) (js : List JobText) (n : ℕ) → AreRead text js rest → length js ≡ 1000 → 0 < length rest → n ≡ length js + 1 → FirstBad text n TooMany
stops_full text rest js n was full goes_on is =
    let count = said_count was.done js was.said in
    let long : length (lines text) ≡ length was.done + length (lines rest) = ap length was.cut ∙ length-append was.done (lines rest) in
    let one_more = some_line rest goes_on in
    record {
      place = length js;
      line = is;
      bad = (full, omega arith);
      first = λ k c bad. bad_later was.done (lines rest) js k c was.said was.few (subst (λ (ls : List (List ℕ)). IsBad ls k c) was.cut bad);
    }

-- a text is not both
pub never_both : (text : List ℕ) (js : List JobText) (n : ℕ) (c : ListCause) → IsList text js → FirstBad text n c → ⊥
never_both text js n c is bad = by c bad.bad
  where
    count : length (lines text) ≡ length js
    count = said_count (lines text) js is.said

    by : (c : ListCause) → IsBad (lines text) bad.place c → ⊥
    by Form b = said_at (lines text) [] js bad.place b.1 is.said (slice_get_within (lines text) bad.place b.1 b.2) (ap (λ ls. slice_get ls bad.place) (append-nil (lines text)) ∙ b.2) b.3
    by TooMany b = let f = is.few in let e = count in let l = b.1 in omega arith

-- a text has one first fault at most
pub one_fault : (text : List ℕ) (n m : ℕ) (c d : ListCause) → FirstBad text n c → FirstBad text m d → (n ≡ m) × (c ≡ d)
one_fault text n m c d a b =
    let below = a.first b.place d b.bad in
    let above = b.first a.place c a.bad in
    let same : a.place ≡ b.place = omega arith in
    (a.line ∙ ap (λ (k : ℕ). k + 1) same ∙ sym b.line, by c d (subst (λ (k : ℕ). IsBad (lines text) k c) same a.bad) b.bad)
  where
    by : (x y : ListCause) → IsBad (lines text) b.place x → IsBad (lines text) b.place y → x ≡ y
    by Form Form p q = refl
    by Form TooMany p q = let e = q.0 in let l = p.0 in absurd (omega arith)
    by TooMany Form p q = let e = p.0 in let l = q.0 in absurd (omega arith)
    by TooMany TooMany p q = refl

-- what an answer is, where the text lists jobs and where it has a first fault
pub list_only : {V : Type 0} (text : List ℕ) (r : Result V ListFault) (jobs : List JobText) (said : V → List JobText) → IfOk r (λ v. IsList text (said v)) → IfErr r (λ e. OnLine e (FirstBad text)) → IsList text jobs
    → MatchResult r (λ v. said v ≡ jobs) (λ e. e ≡ NoMemory)
list_only text (Ok v) jobs said found fault is = said_once (lines text) (said v) jobs found.said is.said
list_only text (Err NoMemory) jobs said found fault is = refl
list_only text (Err (Line n c)) jobs said found fault is = absurd (never_both text jobs n c is fault)

pub fault_only : {V : Type 0} (text : List ℕ) (r : Result V ListFault) (n : ℕ) (c : ListCause) (said : V → List JobText) → IfOk r (λ v. IsList text (said v)) → IfErr r (λ e. OnLine e (FirstBad text)) → FirstBad text n c
    → MatchResult r (λ _. ⊥) (λ e. OnLine e (λ m d. (m ≡ n) × (d ≡ c)))
fault_only text (Ok v) n c said found fault is = never_both text (said v) n c found is
fault_only text (Err NoMemory) n c said found fault is = tt
fault_only text (Err (Line m d)) n c said found fault is = one_fault text m n d c fault is
