-- Chains of reasons: changes of domains in their order, each with forms that force it, and which of them an end rests on.
-- (Explanations kept for a walk back over them are those of lazy explanation in constraint solvers: O. Ohrimenko, P. Stuckey, M. Codish 2009.)

use Rattle.std.specs.Prelude.{◌≡◌, ℕ, ◌<◌, Bool, true, false, ◌||◌, ◌⊎◌, List, [], ◌∷◌, ◌++◌, Some}
use Rattle.proof_theory.specs.Forms.{Form}
use Rattle.proof_theory.specs.Slack.{Setting, after, refutes}

-- ---- settings along forms

-- The setting with all that the forms force in order.
abbrev pub run : Setting → List Form → Setting
run s [] = s
run s (f ∷ fs) = run (after s f) fs

-- The one setting sets all that the other does.
abbrev pub Within : Setting → Setting → Type 0
Within s t = (v : ℕ) (b : Bool) → s v ≡ Some b → t v ≡ Some b

-- ---- domains as tests

-- Whether value u is still there for vertex r.
abbrev pub Domains : Type 0
Domains = ℕ → ℕ → Bool

-- Each of the n values that is gone from the domain of r has its variable false.
abbrev pub AreOut : (ℕ → ℕ → ℕ) → ℕ → Setting → Domains → ℕ → Type 0
AreOut x n s d r = (u : ℕ) → u < n → d r u ≡ false → s (x r u) ≡ Some false

-- ---- one change

-- Why values left: forms, the vertices whose values they take, and the vertices whose domains they need.
pub record Reason : Type 0 where
  pub forms : List Form
  pub takes : ℕ → Bool
  pub needs : ℕ → Bool

-- The reason explains a change from domains d to e: other vertices keep their values; and from every setting above the base in which
-- the needed domains' missing values are false, its forms lead to a conflict or set false what was taken.
pub record Explains (x : ℕ → ℕ → ℕ) (n : ℕ) (base : Setting) (d e : Domains)
    (why : Reason) : Type 0 where
  pub others : (r u : ℕ) → why.takes r ≡ false → e r u ≡ d r u
  pub forces : (s : Setting) → Within base s → ((r : ℕ) → why.needs r ≡ true → AreOut x n s d r)
      → (refutes s why.forms ≡ true) ⊎ ((r u : ℕ) → why.takes r ≡ true → u < n → d r u ≡ true
      → e r u ≡ false → run s why.forms (x r u) ≡ Some false)

-- ---- changes in their order

-- Changes lead from full domains to these, the last change first, each explained by its reason.
pub data Chain (x : ℕ → ℕ → ℕ) (n : ℕ) (base : Setting) : Domains → List Reason → Type 0 where
  begins : (d : Domains) → ((r u : ℕ) → d r u ≡ true) → Chain x n base d []
  goes_on : (d e : Domains) (whys : List Reason) (why : Reason) → Chain x n base d whys
      → Explains x n base d e why → Chain x n base e (why ∷ whys)

-- A reason, and whether it is kept.
pub record Kept : Type 0 where
  pub reason : Reason
  pub kept : Bool

abbrev pub reasons_of : List Kept → List Reason
reasons_of [] = []
reasons_of (k ∷ ks) = k.reason ∷ reasons_of ks

abbrev pub forms_where : Bool → List Form → List Form → List Form
forms_where true before own = before ++ own
forms_where false before own = before

-- The forms of the reasons that are kept, in the order of the changes.
abbrev pub forms_of : List Kept → List Form
forms_of [] = []
forms_of (k ∷ ks) = forms_where k.kept (forms_of ks) k.reason.forms

abbrev pub either : (ℕ → Bool) → (ℕ → Bool) → ℕ → Bool
either m n r = m r || n r

abbrev pub IsClosedBy : Bool → Reason → (ℕ → Bool) → ((ℕ → Bool) → Type 0) → Type 0
IsClosedBy true why needed before = before (either needed why.needs)
IsClosedBy false why needed before = ((r : ℕ) → why.takes r ≡ true
    → needed r ≡ false) × before needed

-- Going back from the last change: a kept reason's needs are needed before it, and one that is not kept takes no value of a vertex that is needed.
abbrev pub IsClosed : List Kept → (ℕ → Bool) → Type 0
IsClosed [] needed = Unit {0}
IsClosed (k ∷ ks) needed = IsClosedBy k.kept k.reason needed (IsClosed ks)

-- The end's forms lead to a conflict wherever the needed domains' missing values are false.
abbrev pub EndsAt : (ℕ → ℕ → ℕ) → ℕ → Setting → Domains → (ℕ → Bool) → List Form → Type 0
EndsAt x n base d needed end = (s : Setting) → Within base s → ((r : ℕ) → needed r ≡ true
    → AreOut x n s d r) → refutes s end ≡ true

-- The kept reasons' forms and then the end's refute the base.
abbrev pub ChainLaw : Type 0
ChainLaw = (x : ℕ → ℕ → ℕ) (n : ℕ) (base : Setting) (d : Domains) (ks : List Kept) (needed : ℕ
    → Bool) (end : List Form) → Chain x n base d (reasons_of ks) → IsClosed ks needed
    → EndsAt x n base d needed end → refutes base (forms_of ks ++ end) ≡ true

-- Fewer needed vertices are closed too.
abbrev pub FewerLaw : Type 0
FewerLaw = (ks : List Kept) (more fewer : ℕ → Bool) → ((r : ℕ) → fewer r ≡ true → more r ≡ true)
    → IsClosed ks more → IsClosed ks fewer
