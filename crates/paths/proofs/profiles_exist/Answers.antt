use Rattle.paths.specs.Paths.{last_chart}
use Rattle.paths.specs.Datings.{Datable}
use Rattle.paths.specs.Steps.{enters, Solution}
use Rattle.std.proofs.Common.{length, arith}
use Rattle.paths.proofs.Profiled.{largest_unique, largest_own, largest_within}
use Rattle.paths.proofs.Existing.{profile_exists}
use Rattle.paths.proofs.profiles_exist.Goals as goal

pub returns : goal.returns
returns c = record {
  path = record {
    exists = profile_exists;
    unique = λ b path. largest_unique b (last_chart b path) (Datable b path) (λ s. s.0 (length path));
    within_far = λ b good path. largest_within b (last_chart b path) (Datable b path) (λ s. s.0 (length path)) good (λ s. s.1.charts (length path) (omega arith));
    own = λ b path. largest_own b (last_chart b path) (Datable b path) (λ s. s.0 (length path));
  };
  step = record {
    unique = λ b l P. largest_unique b (enters b l) (Solution b l P) (λ s. s.1);
    within_far = λ b good l P. largest_within b (enters b l) (Solution b l P) (λ s. s.1) good (λ s. s.2.chart);
    own = λ b l P. largest_own b (enters b l) (Solution b l P) (λ s. s.1);
  };
}
