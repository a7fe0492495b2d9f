-- A file that is read and fed to a checker piece by piece.
use Rattle.std.proofs.Common.{◌≡◌, ℕ, ◌+◌, ◌<◌, List, [], ◌++◌, length, Option, Some, None, refl, sym, ap, ◌∙◌, arith, subst, length-append, append_assoc}
use Rattle.std.specs.Prelude.{IsSome, Result, Ok, Err, OnOk, is_err, false}
use Rattle.std.proofs.lemmas.Bool.{false≢true, true≢false}
use Rattle.std.proofs.lemmas.List.{append-nil}
use Rattle.std.specs.Io.KnownBytes.{prepend_known, IsAtEnd}
use Rattle.log_theory.specs.declared.step.Verdict.{Verdict}
use Rattle.log_theory.specs.declared.step.Verdict.TheVariants.{Unsatisfiable, Satisfiable, Undecided, Refused, NoMemory}
use Rattle.proof_checker.specs.declared.log_file.Checked.{Checked}
use Rattle.proof_checker.specs.declared.log_file.Checked.TheVariants.{Verdict as Judged, Failed, TooLong}
use Rattle.proof_checker.specs.Turns.{Answers}
use Rattle.proof_checker.specs.Feeding.{Fed, verdict_with}
use Rattle.proof_checker.specs.Filed.{FileSays, IsJudged}

-- What a call ensures where it is no error.
pub when_ok : {T E : Type 0} (r : Result T E) (P : Type 0) → OnOk r P → is_err r ≡ false → P
when_ok (Ok v) P h e = h
when_ok (Err x) P h e = absurd (true≢false e)

-- What was read and fed, and how many bytes may still come.
pub record Read (content now : Option (List ℕ)) (most left : ℕ) (start fed : Fed) : Type 0 where
  pub bytes : List ℕ
  pub front : content ≡ prepend_known bytes now
  pub count : length bytes + left ≡ most
  pub taken : (rest : List ℕ) → verdict_with fed rest ≡ verdict_with start (bytes ++ rest)

nothing_known : (content : Option (List ℕ)) → content ≡ prepend_known [] content
nothing_known None = refl
nothing_known (Some bytes) = refl

more_known : (content now next : Option (List ℕ)) (bytes piece : List ℕ) → content ≡ prepend_known bytes now → now ≡ prepend_known piece next → content ≡ prepend_known (bytes ++ piece) next
more_known content now next bytes piece e f = e ∙ ap (prepend_known bytes) f ∙ joined next
  where
    joined : (o : Option (List ℕ)) → prepend_known bytes (prepend_known piece o) ≡ prepend_known (bytes ++ piece) o
    joined None = refl
    joined (Some xs) = ap Some (sym (append_assoc bytes piece xs))

-- Before the first read.
pub read_none : (content : Option (List ℕ)) (most : ℕ) (start : Fed) → Read content content most most start start
read_none content most start = record { bytes = []; front = nothing_known content; count = omega arith; taken = λ rest. refl }

-- A piece more.
pub read_more : (content now next : Option (List ℕ)) (most left less : ℕ) (start fed further : Fed) (piece : List ℕ) → Read content now most left start fed
    → now ≡ prepend_known piece next → less + length piece ≡ left → ((rest : List ℕ) → verdict_with further rest ≡ verdict_with fed (piece ++ rest))
    → Read content next most less start further
read_more content now next most left less start fed further piece r e n t = record {
  bytes = r.bytes ++ piece;
  front = more_known content now next r.bytes piece r.front e;
  count = let l = length-append r.bytes piece in let k = r.count in omega arith;
  taken = λ rest. t rest ∙ r.taken (piece ++ rest) ∙ ap (verdict_with start) (sym (append_assoc r.bytes piece rest));
}

at_end_known : (content now : Option (List ℕ)) (bytes : List ℕ) → IsSome content → content ≡ prepend_known bytes now → IsAtEnd now → content ≡ Some bytes
at_end_known content None bytes s e h = absurd (false≢true (subst IsSome e s))
at_end_known content (Some xs) bytes s e h = e ∙ ap (λ (t : List ℕ). Some (bytes ++ t)) h ∙ ap Some (append-nil bytes)

judged : (a v : Verdict) (f : List ℕ → Verdict) (most : ℕ) (content : Option (List ℕ)) → Answers a v → IsJudged f most content v → FileSays (Judged a) f most content
judged Unsatisfiable v f most content e j = subst (IsJudged f most content) e j
judged Satisfiable v f most content e j = subst (IsJudged f most content) e j
judged Undecided v f most content e j = subst (IsJudged f most content) e j
judged (Refused k c) v f most content e j = subst (IsJudged f most content) e j
judged NoMemory v f most content e j = tt

-- The file has ended.
pub read_all : (content now next : Option (List ℕ)) (most left : ℕ) (start fed : Fed) (piece : List ℕ) (answer : Verdict) → Read content now most left start fed
    → now ≡ prepend_known piece next → piece ≡ [] → IsAtEnd next → IsSome content → Answers answer (verdict_with fed [])
    → FileSays (Judged answer) (verdict_with start) most content
read_all content now next most left start fed piece answer r e n h s a =
    judged answer (verdict_with fed []) (verdict_with start) most content a record {
      bytes = r.bytes ++ piece;
      there = at_end_known content next (r.bytes ++ piece) s (more_known content now next r.bytes piece r.front e) h;
      short = let l = length-append r.bytes piece in let m = ap (length {A = ℕ}) n in let k = r.count in omega arith;
      is = ap (λ (t : List ℕ). verdict_with start (r.bytes ++ t)) n ∙ sym (r.taken []);
    }

some_known : (content next : Option (List ℕ)) (bytes : List ℕ) → IsSome content → content ≡ prepend_known bytes next → (rest : List ℕ) × (content ≡ Some (bytes ++ rest))
some_known content None bytes s e = absurd (false≢true (subst IsSome e s))
some_known content (Some xs) bytes s e = (xs, e)

-- More came than may.
pub read_past : (content now next : Option (List ℕ)) (most left : ℕ) (start fed : Fed) (piece : List ℕ) → Read content now most left start fed
    → now ≡ prepend_known piece next → left < length piece → IsSome content → FileSays TooLong (verdict_with start) most content
read_past content now next most left start fed piece r e n s =
    let k = some_known content next (r.bytes ++ piece) s (more_known content now next r.bytes piece r.front e) in
    record {
      bytes = (r.bytes ++ piece) ++ k.0;
      there = k.1;
      long = let l = length-append (r.bytes ++ piece) k.0 in let m = length-append r.bytes piece in let h = r.count in omega arith;
    }

-- The same said by a function that gives the same verdicts.
pub says_same : (r : Checked) (f g : List ℕ → Verdict) (most : ℕ) (content : Option (List ℕ)) → ((text : List ℕ) → f text ≡ g text) → FileSays r f most content → FileSays r g most content
says_same (Judged NoMemory) f g most content e s = tt
says_same (Judged Unsatisfiable) f g most content e s = record { bytes = s.bytes; there = s.there; short = s.short; is = sym (e s.bytes) ∙ s.is }
says_same (Judged Satisfiable) f g most content e s = record { bytes = s.bytes; there = s.there; short = s.short; is = sym (e s.bytes) ∙ s.is }
says_same (Judged Undecided) f g most content e s = record { bytes = s.bytes; there = s.there; short = s.short; is = sym (e s.bytes) ∙ s.is }
says_same (Judged (Refused k c)) f g most content e s = record { bytes = s.bytes; there = s.there; short = s.short; is = sym (e s.bytes) ∙ s.is }
says_same TooLong f g most content e s = s
says_same Failed f g most content e s = tt
