-- What references name, as forms are added and as frames widen.
use Rattle.std.proofs.Common.{inl, inr, ◌≡◌, ℕ, zero, suc, ◌+◌, ◌-◌, ◌≤◌, true, List, [], ◌∷◌, ◌++◌, length, take, drop, Option, Some, Result, Ok, refl, ap, subst, ◌∙◌, arith}
use Rattle.std.specs.Prelude.{slice_get}
use Rattle.graph_theory.specs.Embedding.{Problem}
use Rattle.proof_theory.specs.Forms.{Form}
use Rattle.log_theory.specs.declared.step.Ref.{Ref}
use Rattle.log_theory.specs.declared.step.Ref.TheVariants.{Line, Made, Shared}
use Rattle.log_theory.specs.declared.step.Cause.{Cause}
use Rattle.log_theory.specs.declared.step.Cause.TheVariants.{NoSuchName}
use Rattle.log_theory.specs.Steps.{◌>>=◌, or_fault}
use Rattle.log_theory.specs.Lookups.{Lookup, find_all}
use Rattle.encoding_theory.specs.Encoding.{encoding}
use Rattle.journal_theory.specs.Referring.{NamesRow}
use Rattle.journal_theory.specs.Journals.{Finds, HoldsOwn}
use Rattle.journal_theory.proofs.Placing.{get_more}
use Rattle.log_growth.specs.Frames.{Frame, IsFrameOf, IsNamed, AreNamed}

pub holds_fewer : (owner : ℕ) (forms more : List Form) (look : Lookup) → HoldsOwn owner (forms ++ more) look → HoldsOwn owner forms look
holds_fewer owner forms more look h = record { own = λ k f at. h.own k f (get_more forms more k f at) }

-- What is named stays named as forms are added.
pub named_later : (w : Frame) (forms more : List Form) (r : Ref) (f : Form) → IsNamed w forms r f → IsNamed w (forms ++ more) r f
named_later w forms more r f n = record { found = λ look finds own. n.found look finds (holds_fewer w.owner forms more look own); foreign = n.foreign }

pub are_named_later : (w : Frame) (forms more : List Form) (rs : List Ref) (fs : List Form) → AreNamed w forms rs fs → AreNamed w (forms ++ more) rs fs
are_named_later w forms more [] [] n = tt
are_named_later w forms more (r ∷ rs) (f ∷ fs) n = (named_later w forms more r f n.0, are_named_later w forms more rs fs n.1)
are_named_later w forms more [] (f ∷ fs) n = absurd n
are_named_later w forms more (r ∷ rs) [] n = absurd n

-- A number of the encoding names its line.
pub line_named : (q : Problem) (owner : ℕ) (w : Frame) (forms : List Form) (n : ℕ) (f : Form) → IsFrameOf q owner w → 1 ≤ n → slice_get (encoding q) (n - 1) ≡ Some f → IsNamed w forms (Line n) f
line_named q owner w forms n f frame some at =
    let same : n - 1 + 1 ≡ n = omega (arith, some) in
    let there : w.base (Line n) ≡ Some f = subst (λ (m : ℕ). w.base (Line m) ≡ Some f) same (frame.model.line (n - 1) f at) in
    record { found = λ look finds own. finds.alike (Line n) f there; foreign = λ k is. absurd cc }

-- A further reference behind others.
pub named_behind : (w : Frame) (forms : List Form) (rs : List Ref) (fs : List Form) (ss : List Ref) (gs : List Form) → AreNamed w forms rs fs → AreNamed w forms ss gs → AreNamed w forms (rs ++ ss) (fs ++ gs)
named_behind w forms [] [] ss gs n m = m
named_behind w forms (r ∷ rs) (f ∷ fs) ss gs n m = (n.0, named_behind w forms rs fs ss gs n.1 m)
named_behind w forms [] (f ∷ fs) ss gs n m = absurd n
named_behind w forms (r ∷ rs) [] ss gs n m = absurd n

pub named_pushed : (w : Frame) (forms : List Form) (rs : List Ref) (fs : List Form) (r : Ref) (f : Form) → AreNamed w forms rs fs → IsNamed w forms r f → AreNamed w forms (rs ++ r ∷ []) (fs ++ f ∷ [])
named_pushed w forms rs fs r f n m = named_behind w forms rs fs (r ∷ []) (f ∷ []) n (m, tt)

-- One of them.
pub named_at : (w : Frame) (forms : List Form) (rs : List Ref) (fs : List Form) (k : ℕ) (r : Ref) (f : Form) → AreNamed w forms rs fs → slice_get rs k ≡ Some r → slice_get fs k ≡ Some f → IsNamed w forms r f
named_at w forms [] fs k r f n a b = absurd cc
named_at w forms (r ∷ rs) [] k x f n a b = absurd n
named_at w forms (r ∷ rs) (g ∷ fs) zero x f n a b = let s : r ≡ x = cc in let t : g ≡ f = cc in subst (λ (y : Ref). IsNamed w forms y f) s (subst (λ (h : Form). IsNamed w forms r h) t n.0)
named_at w forms (r ∷ rs) (g ∷ fs) (suc k) x f n a b = named_at w forms rs fs k x f n.1 a b

pub named_count : (w : Frame) (forms : List Form) (rs : List Ref) (fs : List Form) → AreNamed w forms rs fs → length rs ≡ length fs
named_count w forms [] [] n = refl
named_count w forms (r ∷ rs) (f ∷ fs) n = ap (λ (k : ℕ). suc k) (named_count w forms rs fs n.1)
named_count w forms [] (f ∷ fs) n = absurd n
named_count w forms (r ∷ rs) [] n = absurd n

-- Those from a place on, and those before it.
pub named_drop : (w : Frame) (forms : List Form) (k : ℕ) (rs : List Ref) (fs : List Form) → AreNamed w forms rs fs → AreNamed w forms (drop k rs) (drop k fs)
named_drop w forms zero rs fs n = n
named_drop w forms (suc k) [] [] n = tt
named_drop w forms (suc k) (r ∷ rs) (f ∷ fs) n = named_drop w forms k rs fs n.1
named_drop w forms (suc k) [] (f ∷ fs) n = absurd n
named_drop w forms (suc k) (r ∷ rs) [] n = absurd n

pub named_take : (w : Frame) (forms : List Form) (k : ℕ) (rs : List Ref) (fs : List Form) → AreNamed w forms rs fs → AreNamed w forms (take k rs) (take k fs)
named_take w forms zero rs fs n = tt
named_take w forms (suc k) [] [] n = tt
named_take w forms (suc k) (r ∷ rs) (f ∷ fs) n = (n.0, named_take w forms k rs fs n.1)
named_take w forms (suc k) [] (f ∷ fs) n = absurd n
named_take w forms (suc k) (r ∷ rs) [] n = absurd n

-- Named references are all found.
pub all_found : (w : Frame) (forms : List Form) (rs : List Ref) (fs : List Form) (look : Lookup) → AreNamed w forms rs fs → Finds w.base look → HoldsOwn w.owner forms look → find_all look rs ≡ Ok fs
all_found w forms [] [] look n finds own = refl
all_found w forms (r ∷ rs) (f ∷ fs) look n finds own =
    ap (λ (o : Option Form). or_fault o NoSuchName >>= λ g. find_all look rs >>= λ gs. Ok (g ∷ gs)) (n.0.found look finds own)
    ∙ ap (λ (x : Result (List Form) Cause). x >>= λ gs. Ok (f ∷ gs)) (all_found w forms rs fs look n.1 finds own)
all_found w forms [] (f ∷ fs) look n finds own = absurd n
all_found w forms (r ∷ rs) [] look n finds own = absurd n

-- The rows among named references are others'.
pub named_rows : (w : Frame) (forms : List Form) (rs : List Ref) (fs : List Form) → AreNamed w forms rs fs → (k : ℕ) → NamesRow rs k → w.foreign k ≡ true
named_rows w forms [] fs n k names = absurd names
named_rows w forms (r ∷ rs) [] n k names = absurd n
named_rows w forms (Line i ∷ rs) (f ∷ fs) n k names = named_rows w forms rs fs n.1 k names
named_rows w forms (Made i ∷ rs) (f ∷ fs) n k names = named_rows w forms rs fs n.1 k names
named_rows w forms (Shared i ∷ rs) (f ∷ fs) n k (inl same) = subst (λ (m : ℕ). w.foreign m ≡ true) same (n.0.foreign i refl)
named_rows w forms (Shared i ∷ rs) (f ∷ fs) n k (inr later) = named_rows w forms rs fs n.1 k later
