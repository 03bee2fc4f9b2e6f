-- Paths of one class.
use Rattle.std.proofs.Common.{◌≡◌, ℕ, ◌<◌, ◌↔◌, List, [], ◌∷◌, ◌++◌, length, ℤ, sym, ◌∙◌}
use Rattle.bookformat.specs.Values.{BookValue}
use Rattle.bookformat.specs.Rules.{GoodBook}
use Rattle.paths.specs.Paths.{last_chart, Path}
use Rattle.paths.specs.Datings.{Datable}
use Rattle.paths.specs.Profiles.{InClass, SameClass}
use Rattle.paths.proofs.Profiled.{largest_unique, largest_like}
use Rattle.paths.proofs.Compose.{last_number_lem, same_datable, same_profile_on}
use Rattle.paths.proofs.Existing.{profile_exists}

-- a class is told by the chart and the profile
pub one_class : (b : BookValue) (path other : List ℕ) (c : ℕ) (P : ℕ → ℕ → ℤ) → InClass b path c P → Path b other → SameClass b path other ↔ InClass b other c P
one_class b path other c P class is_path = (
  λ same.
      let (P₀, mine, its) = same.same_profile in
      let equal : (p q : ℕ) → p < b.stations → q < b.stations → P₀ p q ≡ P p q = largest_unique b (last_chart b path) (Datable b path) (λ s. s.0 (length path)) P₀ P mine class.profile in
      record {
        is_path = is_path;
        datable = same.other_datable;
        ends = sym same.same_chart ∙ class.ends;
        profile = largest_like b (last_chart b other) (Datable b other) (λ s. s.0 (length other)) P₀ P equal its;
      },
  λ its. record { datable = class.datable; other_datable = its.datable; same_chart = class.ends ∙ sym its.ends; same_profile = (P, class.profile, its.profile) },
)

-- and stays one when both paths go on by the same link
pub same_again : (b : BookValue) → GoodBook b → (path other : List ℕ) → SameClass b path other → (l : ℕ) → Datable b (path ++ l ∷ []) → SameClass b (path ++ l ∷ []) (other ++ l ∷ [])
same_again b good path other same l dated =
    let (P, profile) = profile_exists b good (path ++ l ∷ []) dated in
    record {
      datable = dated;
      other_datable = (same_datable b good path other same l).0 dated;
      same_chart = last_number_lem b path l ∙ sym (last_number_lem b other l);
      same_profile = (P, profile, (same_profile_on b good path other same l P).0 profile);
    }
