use Rattle.log_theory.proofs.PlainReadBack.{read_back_in, line_without}
use Rattle.log_theory.proofs.DroppedLogs.{log_dropped}
use Rattle.log_theory.proofs.profile_laws.Goals as goal

pub returns : goal.returns
returns c = record {
  read = read_back_in;
  line = line_without;
  dropped = log_dropped;
}
