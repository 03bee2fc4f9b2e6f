-- The classes of a book's datable paths as a system to walk through.
use Rattle.std.specs.Prelude.{◌≡◌, ℕ, ◌+◌, ◌*◌, ◌<◌, ◌≤◌, ◌⊎◌, length, ℤ, pos, ◌==◌, slice_index_or}
use Rattle.bookformat.specs.Values.{BookValue}
use Rattle.bookformat.specs.Rules.{chart, GoodBook}
use Rattle.paths.specs.Paths.{link}
use Rattle.paths.specs.Profiles.{InClass}
use Rattle.paths.specs.Steps.{Leads}
use Rattle.register.specs.declared.row.Class.{Class}
use Rattle.register.specs.Meaning.{no_row}
use Rattle.search.specs.Systems.{System, Lawful}

-- the largest value of p's last date minus q's
abbrev pub entry : Class → ℕ → ℕ → ℤ
entry s p q = slice_index_or s.profile.entries (8 * p + q) (pos 0)

-- there are 64 entries, and those of stations that the book has not are 0
pub record Tidy (b : BookValue) (s : Class) : Type 0 where
  pub sized : length s.profile.entries ≡ 64
  pub rest : (p q : ℕ) → p < 8 → q < 8 → (b.stations ≤ p) ⊎ (b.stations ≤ q) → entry s p q ≡ pos 0

abbrev pub classes : BookValue → System
classes b = record {
  Class = Class;
  In = λ path s. Tidy b s × InClass b path s.chart (entry s);
  links = length b.links;
  begins = λ s l. ((link b l).from == s.chart);
  leads = λ s l t. Tidy b t × Leads b s.chart (entry s) l t.chart (entry t);
  final = λ s. (chart b s.chart).final;
  blank = no_row.class;
}

abbrev pub ClassesLaw : Type 0
ClassesLaw = (b : BookValue) → GoodBook b → Lawful (classes b)
