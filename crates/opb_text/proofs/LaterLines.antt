-- The lines after the first, one after another.
use Rattle.std.proofs.Common.{◌≡◌, ℕ, ◌+◌, List, [], ◌∷◌, ◌++◌, Option, Some, None, Result, Ok, Err, refl, sym, ap, ◌∙◌, IfSome}
use Rattle.std.proofs.lemmas.List.{append_assoc}
use Rattle.log_theory.specs.declared.opb.OpbCause.{OpbCause}
use Rattle.proof_theory.specs.Forms.{Form}
use Rattle.log_theory.specs.Steps.{◌>>=◌}
use Rattle.log_theory.specs.OpbText.{AreConstraints}
use Rattle.log_theory.specs.OpbReading.{later_line, later_lines, at_line, opb_words, opb_lines}
use Rattle.opb_text.specs.Lines.{IsWithin, as_list, after_forms}

abbrev Forms : Type 0
Forms = Result (List Form) (ℕ × OpbCause)

after_forms-twice : (fs gs : List Form) (x : Forms) → after_forms fs (after_forms gs x) ≡ after_forms (fs ++ gs) x
after_forms-twice fs gs (Ok hs) = ap (λ (l : List Form). let r : Forms = Ok l in r) (sym (append_assoc fs gs hs))
after_forms-twice fs gs (Err e) = refl

pub after_forms-none : (x : Forms) → x ≡ after_forms [] x
after_forms-none (Ok hs) = refl
after_forms-none (Err e) = refl

-- One line more.
pub lines-more : (n k : ℕ) (whole : Forms) (fs : List Form) (f : Option Form) (rest more line : List ℕ) → whole ≡ after_forms fs (later_lines n k (opb_lines rest))
    → opb_lines rest ≡ line ∷ opb_lines more → later_line n (opb_words line) ≡ Ok (as_list f) → whole ≡ after_forms (fs ++ as_list f) (later_lines n (k + 1) (opb_lines more))
lines-more n k whole fs f rest more line h e l =
    h
    ∙ ap (λ (ls : List (List ℕ)). after_forms fs (later_lines n k ls)) e
    ∙ ap (λ (r : Result (List Form) OpbCause). let q : Forms = at_line k r >>= λ gs. later_lines n (k + 1) (opb_lines more) >>= λ hs. Ok (gs ++ hs) in after_forms fs q) l
    ∙ after_forms-twice fs (as_list f) (later_lines n (k + 1) (opb_lines more))

pub AreConstraints-more : (n : ℕ) (fs : List Form) (f : Option Form) → AreConstraints n fs → IfSome f (λ g. IsWithin n g) → AreConstraints n (fs ++ as_list f)
AreConstraints-more n [] None h k = tt
AreConstraints-more n [] (Some g) h k = (k.0, k.1, k.2, tt)
AreConstraints-more n (g ∷ fs) f h k = (h.0, h.1, h.2, AreConstraints-more n fs f h.3 k)
