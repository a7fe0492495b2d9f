-- The contents of all files but one.
use Rattle.std.proofs.Common.{◌≡◌, ℕ, Bool, true, false, cond, List, Option, None, refl, sym, ◌∙◌}
use Rattle.std.specs.Prelude.{bytes_eq}
use Rattle.std.proofs.lemmas.Bool.{false≢true}
use Rattle.std.proofs.lemmas.Slice.Eq.{bytes_eq-Decides}
use Rattle.outer_io.specs.NamedFiles.{SameOthers}
use Rattle.outer_io.specs.Sinks.{other_content}

by_test : (test : Bool) (old new : Option (List ℕ)) → (test ≡ false → new ≡ old) → cond test None new ≡ cond test None old
by_test true old new same = refl
by_test false old new same = same refl

-- a change of the one file is not seen
pub other_content-same : (name : List ℕ) (old new : List ℕ → Option (List ℕ)) → SameOthers name old new → (file : List ℕ) → other_content new name file ≡ other_content old name file
other_content-same name old new same file =
    by_test (bytes_eq file name) (old file) (new file) (λ apart. same file (λ equal. false≢true (sym apart ∙ (bytes_eq-Decides file name).1 equal)))
