use Rattle.paths.proofs.Compose.{first_datable, first_profile, datable_iff, profile_iff, goes_iff, leads_iff, same_datable, same_profile_on, longer_path, beginning_datable}
use Rattle.paths.proofs.Classes.{one_class, same_again}
use Rattle.paths.proofs.paths_compose.Goals as goal

pub returns : goal.returns
returns c = record {
  first = record { datable = first_datable; profile = first_profile };
  compose = record { datable = datable_iff; profile = profile_iff };
  class = record { one_class = one_class; goes = goes_iff; leads = leads_iff };
  same = record { datable = same_datable; profile = same_profile_on; again = same_again };
  beginning = record { is_path = longer_path; datable = beginning_datable };
}
