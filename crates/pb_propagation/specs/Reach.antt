-- Which variables forms and literals reach, and what a walk along references has set.
use Rattle.std.specs.Prelude.{◌≡◌, ℕ, ◌<◌, ℤ, List, [], ◌∷◌, Option, Some, None, Bool, true, false, cond, ◌==◌, is_some, MatchOption}
use Rattle.proof_theory.specs.declared.literal.Literal.{Literal}
use Rattle.proof_theory.specs.Forms.{Form}
use Rattle.proof_theory.specs.Slack.{Setting, conflict, after}
use Rattle.log_theory.specs.declared.step.Ref.{Ref}
use Rattle.log_theory.specs.Lookups.{Lookup}

-- The variables of terms are below n.
abbrev pub Reaches : ℕ → List (ℕ × ℤ) → Type 0
Reaches n [] = Unit {0}
Reaches n (t ∷ ts) = (t.0 < n) × Reaches n ts

-- The variables of forms are below n.
abbrev pub AllReach : ℕ → List Form → Type 0
AllReach n [] = Unit {0}
AllReach n (f ∷ fs) = Reaches n f.terms × AllReach n fs

-- The variables of literals are below n.
abbrev pub LiteralsReach : ℕ → List Literal → Type 0
LiteralsReach n [] = Unit {0}
LiteralsReach n (l ∷ ls) = (l.variable < n) × LiteralsReach n ls

-- A form in front, if there is one.
abbrev pub found_first : Option Form → List Form → List Form
found_first None fs = fs
found_first (Some f) fs = f ∷ fs

-- The forms that references name, those left out that name nothing.
abbrev pub forms_of : Lookup → List Ref → List Form
forms_of look [] = []
forms_of look (r ∷ rs) = found_first (look r) (forms_of look rs)

-- The references name forms, whose variables are below n.
abbrev pub AllNamed : Lookup → ℕ → List Ref → Type 0
AllNamed look n [] = Unit {0}
AllNamed look n (r ∷ rs) = MatchOption (look r) ⊥ (λ f. Reaches n f.terms) × AllNamed look n rs

-- The form is a conflict, or all that it forces is set.
abbrev pub Follows : Bool → Setting → Form → Setting → Type 0
Follows true s f t = conflict s f ≡ true
Follows false s f t = (conflict s f ≡ false) × ((v : ℕ) → t v ≡ after s f v)

-- The literal's variable was unset, and now the literal is false; or it was set.
abbrev pub NegatesOne : Bool → Setting → Literal → Setting → Type 0
NegatesOne true s l t = (s l.variable ≡ None) × ((v : ℕ)
    → t v ≡ cond (l.variable == v) (Some l.negated) (s v))
NegatesOne false s l t = is_some (s l.variable) ≡ true
