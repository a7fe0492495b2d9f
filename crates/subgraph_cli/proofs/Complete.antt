-- A run without a fault ends as its files ask for.

use Rattle.std.specs.Prelude.{◌≡◌, ℕ, ◌⊎◌, List, Option, Some, refl}
use Rattle.std.proofs.Common.{inl, inr, subst, sym, arith}
use Rattle.search_theory.specs.Account.{Account}
use Rattle.command_line.specs.declared.commands.Command.{Command}
use Rattle.command_line.specs.declared.commands.Command.TheVariants.{Solve, Verify, Encode, Check, Trim, Demo}
use Rattle.subgraph_cli.specs.Lines.{stop_text}
use Rattle.subgraph_cli.specs.Disk.{Disk, IsUntouched}
use Rattle.subgraph_cli.specs.Streams.{Stream, IsAsBefore, Tells}
use Rattle.subgraph_cli.specs.Outcomes.{Outcome, outcome, IsQuiet}
use Rattle.subgraph_cli.specs.Stops.{TellsFault}
use Rattle.subgraph_cli.specs.Solving.{IsOrStops}
use Rattle.subgraph_cli.specs.Running.{IsFaultOf, IsStatusOf, StatusSays, IsEndOf, Ran}
use Rattle.subgraph_cli.specs.Completeness.{HasNoFault, IsOrNoMemory, IsComplete}
use Rattle.subgraph_cli.specs.declared.stop.Stop.TheVariants.{NoMemory}
use Rattle.subgraph_cli.proofs.Ends.{memory_ends}

-- Without a fault the status is not 5.
no_fault : (c : Command) (o : Outcome) → HasNoFault o → TellsFault (IsFaultOf c) o.disk o.out o.err → ⊥
no_fault c o none (inl files) = none.files files.0.rose
no_fault c o none (inr output) = none.output output.0

-- Where a fault is ruled out, what is left of stops is want of memory.
or_no_memory : (due status : ℕ) → (status ≡ 5 → ⊥) → IsOrStops due status → IsOrNoMemory due status
or_no_memory due status none (inl is) = inl is
or_no_memory due status none (inr (inl fault)) = absurd (none fault)
or_no_memory due status none (inr (inr memory)) = inr memory

-- Where `unknown` is ruled out, too, the answer is due.
or_due : (due status : ℕ) → (status ≡ 5 → ⊥) → (status ≡ 2 → ⊥) → (status ≡ due) ⊎ IsOrStops 2 status → IsOrNoMemory due status
or_due due status none decided (inl is) = inl is
or_due due status none decided (inr (inl unknown)) = absurd (decided unknown)
or_due due status none decided (inr (inr (inl fault))) = absurd (none fault)
or_due due status none decided (inr (inr (inr memory))) = inr memory

answered : (status : ℕ) → (status ≡ 5 → ⊥) → (status ≡ 0) ⊎ ((status ≡ 1) ⊎ IsOrStops 2 status) → (status ≡ 0) ⊎ ((status ≡ 1) ⊎ IsOrNoMemory 2 status)
answered status none (inl found) = inl found
answered status none (inr (inl refuted)) = inr (inl refuted)
answered status none (inr (inr rest)) = inr (inr (or_no_memory 2 status none rest))

shown : (status : ℕ) → (status ≡ 5 → ⊥) → (status ≡ 0) ⊎ IsOrStops 2 status → (status ≡ 0) ⊎ IsOrNoMemory 2 status
shown status none (inl decided) = inl decided
shown status none (inr rest) = inr (or_no_memory 2 status none rest)

-- What a status says is what the files ask for, where it is not that of a fault.
complete : (c : Command) (o : Outcome) → StatusSays c o → (o.status ≡ 5 → ⊥) → IsComplete c o
complete (Solve w) o says none = λ told. record {
  answered = λ q asks. answered o.status none ((says told).leads.answered q asks);
  found = λ q m asks most embeds. or_due 0 o.status none ((says told).leads.enough q asks most) ((says told).leads.found q m asks embeds);
  refuted = λ q asks most no. or_due 1 o.status none ((says told).leads.enough q asks most) ((says told).leads.refuted q asks no);
}
complete (Verify w) o says none = λ told. record {
  embedding = λ q m asks embeds. or_no_memory 0 o.status none ((says told).leads.embedding q m asks embeds);
  not_embedding = λ q m asks no. or_no_memory 7 o.status none ((says told).leads.not_embedding q m asks no);
}
complete (Encode w) o says none = λ told q asks. or_no_memory 0 o.status none ((says told).leads.encoded q asks)
complete (Check w) o says none = λ told. record {
  accepted = λ m text claim holds is. or_no_memory 0 o.status none ((says told).leads.accepted m text claim holds is);
  refused_log = λ m text line cause holds is. or_no_memory 7 o.status none ((says told).leads.refused_log m text line cause holds is);
}
complete (Trim w) o says none = λ told. record {
  accepted = λ m text claim holds is. or_no_memory 0 o.status none ((says told).leads.accepted m text claim holds is);
  refused_log = λ m text line cause holds is. or_no_memory 7 o.status none ((says told).leads.refused_log m text line cause holds is);
}
complete (Demo w) o says none = record {
  answered = shown o.status none says.answered;
  decided = λ most more. or_due 0 o.status none (says.enough most more) says.answered;
}

-- A run that ends without a fault is complete.
pub ran : (c : Command) (o : Outcome) → StatusSays c o → IsEndOf c o → Ran c o
ran c o says ends = record { says = says; ends = ends; complete = λ none. complete c o says (λ e. no_fault c o none (ends.fault e)) }

-- Words are one command.
one_command : (words : Option Command) (c d : Command) → words ≡ Some c → words ≡ Some d → c ≡ d
one_command words c d e f = cc

-- What a run says of the command that was given it says of the words' command.
pub ran_of_words : (words : Option Command) (c d : Command) (o : Outcome) → words ≡ Some c → words ≡ Some d → Ran c o → Ran d o
ran_of_words words c d o e f says = subst (λ (k : Command). Ran k o) (one_command words c d e f) says

-- No command ends with status 3.
pub no_three : (c : Command) → IsStatusOf c 3 → ⊥
no_three (Solve w) is = omega (arith, is)
no_three (Verify w) is = omega (arith, is)
no_three (Encode w) is = omega (arith, is)
no_three (Check w) is = omega (arith, is)
no_three (Trim w) is = omega (arith, is)
no_three (Demo w) is = omega (arith, is)

-- Each command may end for want of memory.
memory_status : (c : Command) → IsStatusOf c 6
memory_status (Solve w) = inr (inr (inr (inr (inr refl))))
memory_status (Verify w) = inr (inr (inr (inl refl)))
memory_status (Encode w) = inr (inr (inr refl))
memory_status (Check w) = inr (inr (inr (inl refl)))
memory_status (Trim w) = inr (inr (inr (inl refl)))
memory_status (Demo w) = inr (inr (inr refl))

-- What want of memory says before anything was done.
memory_says : (c : Command) (accounts : List Account) (d : Disk) (out err : Stream) → IsAsBefore out → IsUntouched d → StatusSays c (outcome 6 accounts d out err)
memory_says (Solve w) accounts d out err kept untouched = λ told. record {
  yes = λ e. absurd (omega arith);
  none = λ e. absurd (omega arith);
  unknown = λ e. absurd (omega arith);
  proof = λ p asked. record { yes = λ e. absurd (omega arith); none = λ e. absurd (omega arith); unknown = λ e. absurd (omega arith) };
  refused = λ e. absurd (omega arith);
  fault = λ e. absurd (omega arith);
  no_memory = λ e. inl untouched;
  leads = record {
    answered = λ q asks. inr (inr (inr (inr refl)));
    found = λ q m asks embeds. inr (inr (inr refl));
    refuted = λ q asks no. inr (inr (inr refl));
    enough = λ q asks most e. absurd (omega arith);
    refused = λ role fault is. inr (inr refl);
  };
}
memory_says (Verify w) accounts d out err kept untouched = λ told. record {
  embedding = λ e. absurd (omega arith);
  not_embedding = λ e. absurd (omega arith);
  refused = λ e. absurd (omega arith);
  fault = λ e. absurd (omega arith);
  leads = record {
    tested = λ q m asks. inr (inr (inr refl));
    embedding = λ q m asks embeds. inr (inr refl);
    not_embedding = λ q m asks no. inr (inr refl);
    refused = λ role fault is. inr (inr refl);
  };
}
memory_says (Encode w) accounts d out err kept untouched = λ told. record {
  encoded = λ e. absurd (omega arith);
  refused = λ e. absurd (omega arith);
  fault = λ e. absurd (omega arith);
  no_memory = λ e. inl kept;
  leads = record { encoded = λ q asks. inr (inr refl); refused = λ role fault is. inr (inr refl) };
}
memory_says (Check w) accounts d out err kept untouched = λ told. record {
  accepted = λ e. absurd (omega arith);
  refused_log = λ e. absurd (omega arith);
  refused = λ e. absurd (omega arith);
  fault = λ e. absurd (omega arith);
  leads = record {
    accepted = λ m text claim holds is. inr (inr refl);
    refused_log = λ m text line cause holds is. inr (inr refl);
    refused = λ role fault is. inr (inr refl);
  };
}
memory_says (Trim w) accounts d out err kept untouched = λ told. record {
  kept = λ e. absurd (omega arith);
  refused_log = λ e. absurd (omega arith);
  refused = λ e. absurd (omega arith);
  fault = λ e. absurd (omega arith);
  no_memory = λ e. untouched;
  leads = record {
    accepted = λ m text claim holds is. inr (inr refl);
    refused_log = λ m text line cause holds is. inr (inr refl);
    refused = λ role fault is. inr (inr refl);
  };
}
memory_says (Demo w) accounts d out err kept untouched = record {
  decided = λ e. absurd (omega arith);
  unknown = λ e. absurd (omega arith);
  fault = λ e. absurd (omega arith);
  answered = inr (inr (inr refl));
  enough = λ most more e. absurd (omega arith);
}

-- A run for which memory was refused before it began.
pub memory_ran : (c : Command) (accounts : List Account) (d : Disk) (out err : Stream) (status : ℕ) → status ≡ 6 → IsAsBefore out → IsUntouched d → Tells err (stop_text NoMemory)
    → IsQuiet (outcome 6 accounts d out err) → Ran c (outcome status accounts d out err)
memory_ran c accounts d out err status is kept untouched line quiet =
    subst (λ (n : ℕ). Ran c (outcome n accounts d out err)) (sym is)
    (ran c (outcome 6 accounts d out err) (memory_says c accounts d out err kept untouched) (memory_ends c accounts d out err (memory_status c) (λ e. kept) line quiet))
