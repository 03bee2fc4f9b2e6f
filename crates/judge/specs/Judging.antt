-- What the judge says about a path and written dates.
use Rattle.std.specs.Prelude.{◌≡◌, ℕ, zero, suc, ◌<◌, ◌≤◌, List, length, Ok, Err, Result, ◌≢◌, slice_index_or}
use Rattle.bookformat.specs.declared.fault.Fault.{Fault}
use Rattle.bookformat.specs.declared.fault.Fault.TheVariants.{BadLinkNumber, WrongDateCount}
use Rattle.bookformat.specs.Values.{BookValue}
use Rattle.chartbook.specs.Reads.{Taken, Refused}
use Rattle.paths.specs.Paths.{link_at, chart_number, chart_at, Path}
use Rattle.paths.specs.Datings.{KeepsChart, KeepsLink, Dating}
use Rattle.paths.specs.Listing.{events_of, written}
use Rattle.judge.specs.declared.judgement.Judgement.{Judgement}
use Rattle.judge.specs.declared.judgement.Judgement.TheVariants.{Kept, Broken}

-- Paths that are refused

-- the link at a position of the list exists, and begins at the chart where the path stands
pub record GoesOn (b : BookValue) (path : List ℕ) (k : ℕ) : Type 0 where
  pub exists : slice_index_or path k 0 < length b.links
  pub begins : (link_at b path k).from ≡ chart_number b path k

-- a position of the list is at fault: its link is, or there are more than 4,095 links and this is position 4,095
pub data AtFault (b : BookValue) (path : List ℕ) (k : ℕ) : Type 0 where
  bad_link : k < length path → (GoesOn b path k → ⊥) → AtFault b path k
  too_many : k ≡ 4095 → 4095 < length path → AtFault b path k

-- and it is the smallest
pub record FirstAtFault (b : BookValue) (path : List ℕ) (k : ℕ) : Type 0 where
  pub at_fault : AtFault b path k
  pub smallest : (j : ℕ) → j < k → AtFault b path j → ⊥

-- no position is at fault
pub record GoodPath (b : BookValue) (path : List ℕ) : Type 0 where
  pub is_path : Path b path
  pub length_most : length path ≤ 4095

-- Written dates

-- the link that leads to a position keeps its rule; none leads to position 0
abbrev pub KeepsLinkTo : BookValue → List ℕ → (ℕ → ℕ → ℕ) → ℕ → Type 0
KeepsLinkTo b path d zero = Unit {0}
KeepsLinkTo b path d (suc j) = KeepsLink b (link_at b path j) (chart_at b path j) (chart_at b path (suc j)) (d j) (d (suc j))

-- the chart at a position breaks no rule; the rule of a link counts to the later of its two charts
pub record KeepsPosition (b : BookValue) (path : List ℕ) (d : ℕ → ℕ → ℕ) (k : ℕ) : Type 0 where
  pub chart : KeepsChart b (chart_at b path k) (d k)
  pub link : KeepsLinkTo b path d k

-- k is the smallest position whose chart breaks a rule
pub record FirstBroken (b : BookValue) (path : List ℕ) (d : ℕ → ℕ → ℕ) (k : ℕ) : Type 0 where
  pub on_path : k ≤ length path
  pub breaks : KeepsPosition b path d k → ⊥
  pub smallest : (j : ℕ) → j < k → KeepsPosition b path d j

-- Answers

-- the judgement of as many dates as a path has events
abbrev pub Says : BookValue → List ℕ → (ℕ → ℕ → ℕ) → Judgement → Type 0
Says b path d Kept = Dating b path d
Says b path d (Broken k) = FirstBroken b path d k × (Dating b path d → ⊥)

-- what is answered about a book
pub data Judged (b : BookValue) (path dates : List ℕ) (r : Result Judgement Fault) : Type 0 where
  bad_path : (k : ℕ) → FirstAtFault b path k → r ≡ Err (BadLinkNumber k) → Judged b path dates r
  wrong_count : GoodPath b path → (length dates ≢ events_of b path) → r ≡ Err (WrongDateCount (events_of b path)) → Judged b path dates r
  judgement : (j : Judgement) → GoodPath b path → length dates ≡ events_of b path → Says b path (written b path dates) j → r ≡ Ok j → Judged b path dates r

-- what is answered about the bytes of a book: the reader's fault, or the answer about the only book that they are
pub data Judges (bytes path dates : List ℕ) (r : Result Judgement Fault) : Type 0 where
  bad_book : (f : Fault) → Refused bytes f → r ≡ Err f → Judges bytes path dates r
  good_book : (b : BookValue) → Taken bytes b → Judged b path dates r → Judges bytes path dates r
