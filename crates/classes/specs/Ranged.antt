-- The classes of a book's datable paths, with steps from entries within range only.
use Rattle.bookformat.specs.Values.{BookValue}
use Rattle.bookformat.specs.Rules.{GoodBook}
use Rattle.profile.specs.Ranges.{InRange}
use Rattle.register.specs.declared.row.Class.{Class}
use Rattle.search.specs.Systems.{System, Lawful}
use Rattle.classes.specs.Classes.{classes}

-- A register's rows may hold any entries, and a step is made only from entries within range. Every class of a datable path has them, so no step
-- from one is lost.
abbrev pub ranged : BookValue → System
ranged b = record {
  Class = Class;
  In = (classes b).In;
  links = (classes b).links;
  begins = (classes b).begins;
  leads = λ s l t. InRange s.profile.entries × (classes b).leads s l t;
  final = (classes b).final;
  blank = (classes b).blank;
}

abbrev pub RangedLaw : Type 0
RangedLaw = (b : BookValue) → GoodBook b → Lawful (ranged b)
