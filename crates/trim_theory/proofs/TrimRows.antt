-- Worked logs with their trimmed logs, over the two constraints x1 >= 1 and -x1 >= 0.
use Rattle.std.proofs.Common.{◌≡◌, ℕ, ◌==◌, ◌<◌, ◌≤◌, ◌^◌, Bool, true, false, not, ◌&&◌, List, [], ◌∷◌, ◌++◌, Some, refl, arith}
use Rattle.std.proofs.lemmas.Bool.{and_parts, eqb-false, not-true}
use Rattle.std.specs.Fmt.{decimal}
use Rattle.std.proofs.lemmas.Fmt.{decimal_digit}
use lib.Chars.{codes}
use Rattle.log_theory.specs.declared.profile.Profile.{Profile}
use Rattle.log_theory.specs.declared.profile.Profile.TheVariants.{Hinted, Plain}
use Rattle.log_theory.specs.declared.step.Name.{Name}
use Rattle.log_theory.specs.declared.step.Op.TheVariants.{Push, Add, Times}
use Rattle.log_theory.specs.declared.step.Ref.TheVariants.{Line, Made, Shared}
use Rattle.log_theory.specs.declared.step.Step.{Step}
use Rattle.log_theory.specs.declared.step.Step.TheVariants.{P, U, N, D, E, Q}
use Rattle.log_theory.specs.LogText.{IsName}
use Rattle.log_theory.specs.Profiles.{profile_of}
use Rattle.log_theory.specs.Acceptance.{NoFeed, AreLines, lines_text}
use Rattle.log_theory.proofs.LogRows.{two}
use Rattle.journal_theory.specs.Journals.{own_name}
use Rattle.trim_theory.specs.Trimming.{AreUsed, Trims}
use Rattle.trim_theory.specs.Logs.{AreRead, IsLogOf, TrimsText}

-- ---- lines that are known

abbrev lacks_feed : List ℕ → Bool
lacks_feed [] = true
lacks_feed (b ∷ bs) = not (b == 10) && lacks_feed bs

abbrev lack_feeds : List (List ℕ) → Bool
lack_feeds [] = true
lack_feeds (l ∷ ls) = lacks_feed l && lack_feeds ls

no_feed : (bs : List ℕ) → lacks_feed bs ≡ true → NoFeed bs
no_feed [] e = tt
no_feed (b ∷ bs) e = let p = and_parts (not (b == 10)) (lacks_feed bs) e in (eqb-false b 10 (not-true (b == 10) p.0), no_feed bs p.1)

are_lines : (ls : List (List ℕ)) → lack_feeds ls ≡ true → AreLines ls
are_lines [] e = tt
are_lines (l ∷ ls) e = let p = and_parts (lacks_feed l) (lack_feeds ls) e in (no_feed l p.0, are_lines ls p.1)

is_log : (profile : Profile) (head count : List ℕ) (rest : List (List ℕ)) (steps : List Step) (last : Step) → lack_feeds (head ∷ count ∷ rest) ≡ true → profile_of head ≡ Some profile
    → AreRead profile rest (steps ++ last ∷ []) → IsLogOf profile (lines_text (head ∷ count ∷ rest)) steps last
is_log profile head count rest steps last feeds is read = record {
  head = head;
  count = count;
  rest = rest;
  are_lines = are_lines (head ∷ count ∷ rest) feeds;
  text_is = refl;
  profile_is = is;
  read = read;
}

abbrev hinted : List ℕ
hinted = codes "embedding proof 1"

abbrev plain : List ℕ
plain = codes "embedding proof 2"

abbrev two_lines : List ℕ
two_lines = codes "m 2"

abbrev name : ℕ → ℕ → Name
name owner number = record { owner = owner; number = number }

fits : (owner number : ℕ) → owner ≤ 64 → 1 ≤ number → number < 2 ^ 63 → IsName (name owner number)
fits owner number few one most = record { owner_fits = few; from_one = one; number_fits = most }

zero_digit : decimal 0 ≡ 48 ∷ []
zero_digit = decimal_digit 0 (omega arith)

one_digit : decimal 1 ≡ 49 ∷ []
one_digit = decimal_digit 1 (omega arith)

two_digit : decimal 2 ≡ 50 ∷ []
two_digit = decimal_digit 2 (omega arith)

-- ---- what is not needed is not kept

abbrev needless : List (List ℕ)
needless = codes "p 0.1 1 2 + ;" ∷ codes "u 0.2 x1 ; 1 ;" ∷ codes "u 0.3 ; 1 2 ;" ∷ codes "e 0.3" ∷ []

abbrev needless_steps : List Step
needless_steps = P (name 0 1) (Push (Line 1) ∷ Push (Line 2) ∷ Add ∷ []) ∷ U (name 0 2) (record { variable = 1; negated = false } ∷ []) (Line 1 ∷ []) ∷ U (name 0 3) [] (Line 1 ∷ Line 2 ∷ []) ∷ []

abbrev needed : List Step
needed = U (own_name 0 0) [] (Line 1 ∷ Line 2 ∷ []) ∷ []

abbrev needless_trims : Trims Hinted two needless_steps (E (Made (name 0 3))) needed (E (Made (own_name 0 0)))
needless_trims = record {
  keep = λ n. n.number == 3;
  hinted = needless_steps;
  told = refl;
  hints = (tt, λ t a. (tt, λ u b. (tt, λ v c. tt)));
  lines = needed;
  renamed = ((refl, refl, (refl, (refl, tt))), tt);
  ends = (0, refl, refl);
  used = (refl, tt);
  deleted = refl;
}

-- `kept 1 of 3`
needless_row : TrimsText two (lines_text (hinted ∷ two_lines ∷ needless)) (lines_text (hinted ∷ two_lines ∷ codes "u 0.1 ; 1 2 ;" ∷ codes "e 0.1" ∷ []))
needless_row = record {
  profile = Hinted;
  steps = needless_steps;
  last = E (Made (name 0 3));
  is_log = is_log Hinted hinted two_lines needless needless_steps (E (Made (name 0 3))) refl refl (refl, (refl, (refl, (refl, tt))));
  out = needed;
  end = E (Made (own_name 0 0));
  trims = needless_trims;
  in_range = (
    (fits 0 1 (omega arith) (omega arith) (omega arith), (omega arith, (omega arith, (tt, tt)))),
    (
      (fits 0 2 (omega arith) (omega arith) (omega arith), (omega arith, tt), (omega arith, tt)),
      ((fits 0 3 (omega arith) (omega arith) (omega arith), tt, (omega arith, (omega arith, tt))), tt),
    ),
  );
  last_in_range = fits 0 3 (omega arith) (omega arith) (omega arith);
  few = omega arith;
  text_is = rw (zero_digit, one_digit, two_digit) refl;
}

-- The same lines under the same names are no trimmed log: the first is named by no later one.
copied : AreUsed 0 needless_steps (E (Made (name 0 3))) → ⊥
copied used = let e = used.0 in cc

-- ---- what is named no more is deleted

abbrev doubled : List (List ℕ)
doubled = codes "p 0.1 1 2 + ;" ∷ codes "p 0.2 0.1 2 * ;" ∷ codes "e 0.2" ∷ []

abbrev doubled_steps : List Step
doubled_steps = P (own_name 0 0) (Push (Line 1) ∷ Push (Line 2) ∷ Add ∷ []) ∷ P (own_name 0 1) (Push (Made (own_name 0 0)) ∷ Times 2 ∷ []) ∷ []

abbrev doubled_out : List Step
doubled_out = P (own_name 0 0) (Push (Line 1) ∷ Push (Line 2) ∷ Add ∷ []) ∷ P (own_name 0 1) (Push (Made (own_name 0 0)) ∷ Times 2 ∷ []) ∷ D (Made (own_name 0 0)) ∷ []

abbrev doubled_trims : Trims Hinted two doubled_steps (E (Made (own_name 0 1))) doubled_out (E (Made (own_name 0 1)))
doubled_trims = record {
  keep = λ n. true;
  hinted = doubled_steps;
  told = refl;
  hints = (tt, λ t a. (tt, λ u b. tt));
  lines = doubled_steps;
  renamed = ((refl, (refl, (refl, (refl, tt)))), ((refl, ((0, refl, refl), (refl, tt))), tt));
  ends = (1, refl, refl);
  used = (refl, (refl, tt));
  deleted = refl;
}

-- `kept 2 of 2`
doubled_row : TrimsText two (lines_text (hinted ∷ two_lines ∷ doubled)) (lines_text (hinted ∷ two_lines ∷ codes "p 0.1 1 2 + ;" ∷ codes "p 0.2 0.1 2 * ;" ∷ codes "d 0.1" ∷ codes "e 0.2" ∷ []))
doubled_row = record {
  profile = Hinted;
  steps = doubled_steps;
  last = E (Made (own_name 0 1));
  is_log = is_log Hinted hinted two_lines doubled doubled_steps (E (Made (own_name 0 1))) refl refl (refl, (refl, (refl, tt)));
  out = doubled_out;
  end = E (Made (own_name 0 1));
  trims = doubled_trims;
  in_range = (
    (fits 0 1 (omega arith) (omega arith) (omega arith), (omega arith, (omega arith, (tt, tt)))),
    ((fits 0 2 (omega arith) (omega arith) (omega arith), (fits 0 1 (omega arith) (omega arith) (omega arith), (omega arith, tt))), tt),
  );
  last_in_range = fits 0 2 (omega arith) (omega arith) (omega arith);
  few = omega arith;
  text_is = rw (zero_digit, one_digit, two_digit) refl;
}

-- ---- a log that comes to nothing keeps nothing

abbrev undecided : List (List ℕ)
undecided = codes "p 0.1 1 ;" ∷ codes "q" ∷ []

abbrev undecided_steps : List Step
undecided_steps = P (name 0 1) (Push (Line 1) ∷ []) ∷ []

-- `kept 0 of 1`
undecided_row : TrimsText two (lines_text (hinted ∷ two_lines ∷ undecided)) (lines_text (hinted ∷ two_lines ∷ codes "q" ∷ []))
undecided_row = record {
  profile = Hinted;
  steps = undecided_steps;
  last = Q;
  is_log = is_log Hinted hinted two_lines undecided undecided_steps Q refl refl (refl, (refl, tt));
  out = [];
  end = Q;
  trims = record {
    keep = λ n. false;
    hinted = undecided_steps;
    told = refl;
    hints = (tt, λ t a. tt);
    lines = [];
    renamed = tt;
    ends = refl;
    used = tt;
    deleted = refl;
  };
  in_range = ((fits 0 1 (omega arith) (omega arith) (omega arith), (omega arith, tt)), tt);
  last_in_range = tt;
  few = omega arith;
  text_is = rw two_digit refl;
}

-- ---- a row names its line after the name is deleted

abbrev shared : List (List ℕ)
shared = codes "p 3.1 1 2 + ;" ∷ codes "n 5 3.1" ∷ codes "d 3.1" ∷ codes "p 0.1 #5 ;" ∷ codes "e 0.1" ∷ []

abbrev shared_steps : List Step
shared_steps = P (name 3 1) (Push (Line 1) ∷ Push (Line 2) ∷ Add ∷ []) ∷ N 5 (name 3 1) ∷ D (Made (name 3 1)) ∷ P (name 0 1) (Push (Shared 5) ∷ []) ∷ []

abbrev shared_lines : List Step
shared_lines = P (own_name 0 0) (Push (Line 1) ∷ Push (Line 2) ∷ Add ∷ []) ∷ P (own_name 0 1) (Push (Made (own_name 0 0)) ∷ []) ∷ []

abbrev shared_out : List Step
shared_out = P (own_name 0 0) (Push (Line 1) ∷ Push (Line 2) ∷ Add ∷ []) ∷ P (own_name 0 1) (Push (Made (own_name 0 0)) ∷ []) ∷ D (Made (own_name 0 0)) ∷ []

abbrev shared_trims : Trims Hinted two shared_steps (E (Made (name 0 1))) shared_out (E (Made (own_name 0 1)))
shared_trims = record {
  keep = λ n. true;
  hinted = shared_steps;
  told = refl;
  hints = (tt, λ t a. (tt, λ u b. (tt, λ v c. (tt, λ w d. tt))));
  lines = shared_lines;
  renamed = ((refl, (refl, (refl, (refl, tt)))), ((refl, ((name 3 1, refl, (0, refl, refl)), tt)), tt));
  ends = (1, refl, refl);
  used = (refl, (refl, tt));
  deleted = refl;
}

shared_row : TrimsText two (lines_text (hinted ∷ two_lines ∷ shared)) (lines_text (hinted ∷ two_lines ∷ codes "p 0.1 1 2 + ;" ∷ codes "p 0.2 0.1 ;" ∷ codes "d 0.1" ∷ codes "e 0.2" ∷ []))
shared_row = record {
  profile = Hinted;
  steps = shared_steps;
  last = E (Made (name 0 1));
  is_log = is_log Hinted hinted two_lines shared shared_steps (E (Made (name 0 1))) refl refl (refl, (refl, (refl, (refl, (refl, tt)))));
  out = shared_out;
  end = E (Made (own_name 0 1));
  trims = shared_trims;
  in_range = (
    (fits 3 1 (omega arith) (omega arith) (omega arith), (omega arith, (omega arith, (tt, tt)))),
    (
      (omega arith, fits 3 1 (omega arith) (omega arith) (omega arith)),
      ((fits 3 1 (omega arith) (omega arith) (omega arith), refl), ((fits 0 1 (omega arith) (omega arith) (omega arith), (omega arith, tt)), tt)),
    ),
  );
  last_in_range = fits 0 1 (omega arith) (omega arith) (omega arith);
  few = omega arith;
  text_is = rw (zero_digit, one_digit, two_digit) refl;
}

-- ---- a log without hints gets some

abbrev closed : List (List ℕ)
closed = codes "u 0.1 ;" ∷ codes "e 0.1" ∷ []

abbrev closed_steps : List Step
closed_steps = U (own_name 0 0) [] [] ∷ []

abbrev closed_trims : Trims Plain two closed_steps (E (Made (own_name 0 0))) needed (E (Made (own_name 0 0)))
closed_trims = record {
  keep = λ n. true;
  hinted = needed;
  told = refl;
  hints = ((λ kept. (two, refl, refl)), λ t a. tt);
  lines = needed;
  renamed = ((refl, refl, (refl, (refl, tt))), tt);
  ends = (0, refl, refl);
  used = (refl, tt);
  deleted = refl;
}

closed_row : TrimsText two (lines_text (plain ∷ two_lines ∷ closed)) (lines_text (hinted ∷ two_lines ∷ codes "u 0.1 ; 1 2 ;" ∷ codes "e 0.1" ∷ []))
closed_row = record {
  profile = Plain;
  steps = closed_steps;
  last = E (Made (own_name 0 0));
  is_log = is_log Plain plain two_lines closed closed_steps (E (Made (own_name 0 0))) refl refl (refl, (refl, tt));
  out = needed;
  end = E (Made (own_name 0 0));
  trims = closed_trims;
  in_range = ((fits 0 1 (omega arith) (omega arith) (omega arith), tt, (omega arith, (omega arith, tt))), tt);
  last_in_range = fits 0 1 (omega arith) (omega arith) (omega arith);
  few = omega arith;
  text_is = rw (zero_digit, one_digit, two_digit) refl;
}
