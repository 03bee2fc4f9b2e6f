-- Where the dates of a path's charts stand.
use Rattle.std.proofs.Common.{◌≡◌, ℕ, zero, suc, ◌+◌, ◌-◌, ◌*◌, ◌^◌, ◌<◌, ◌≤◌, List, length, get_or, sym, ap, ◌∙◌, subst, subst₂, ⊎_elim, add-one, arith}
use Rattle.std.proofs.lemmas.Bool.{cases_eq}
use Rattle.bookformat.specs.declared.value.Link.{Link}
use Rattle.bookformat.specs.Values.{BookValue}
use Rattle.bookformat.specs.Rules.{chart, GoodBook}
use Rattle.paths.specs.Charts.{event_count}
use Rattle.paths.specs.Paths.{link, Leaves, Path, chart_number, chart_at}
use Rattle.paths.specs.Listing.{events_before, events_of}
use Rattle.paths.proofs.Facts.{chart_facts}
use Rattle.paths.proofs.Listed.{before_rises}
use Rattle.fullchart.specs.declared.FullChart.{FullChart}
use Rattle.fullchart.specs.Finds.{IsFull}
use Rattle.routes.specs.declared.stop.Stop.{Stop}
use Rattle.routes.specs.Stops.{At, StandsAt}

pub before_most : (b : BookValue) → GoodBook b → (path : List ℕ) (k : ℕ) → events_before b path k ≤ 48 * k
before_most b good path zero = omega arith
before_most b good path (suc k) = omega (arith, before_most b good path k, (chart_facts b good (chart_number b path k)).count)

module _ (b : BookValue) (path : List ℕ) (k : ℕ) (s : Stop) (at : At b path k s) where
  pub count_at : length s.full.stations.items ≡ event_count b (chart_at b path k)
  count_at = ap length at.full.stations ∙ ap (λ n. event_count b (chart b n)) at.number

  -- the dates of the next position begin where those of this one end
  pub end_is : s.first + length s.full.stations.items ≡ events_before b path (suc k)
  end_is = omega (arith, count_at, at.first)

  pub next_first : s.first + length s.full.stations.items ≡ events_before b path (k + 1)
  next_first = subst (λ j. s.first + length s.full.stations.items ≡ events_before b path j) (sym (add-one k)) end_is

  pub end_fits : GoodBook b → k ≤ 4095 → s.first + length s.full.stations.items < 2 ^ 64
  end_fits good few = omega (arith, end_is, before_most b good path (suc k))

  -- and lie within those of the path
  pub inside : k ≤ length path → s.first + length s.full.stations.items ≤ events_of b path
  inside h = omega (arith, end_is, before_rises b path (suc k) (suc (length path)) (omega arith))

-- each position of a path is a chart of the book
pub number_exists : (b : BookValue) → GoodBook b → (path : List ℕ) → Path b path → (k : ℕ) → k ≤ length path → chart_number b path k < length b.charts
number_exists b good path is_path zero h = good.first_exists
number_exists b good path is_path (suc k) h = (good.links _ (is_path.exists k h)).to_exists

-- the dates of a position begin as many before those of the next one as its chart has events
pub first_before : (b : BookValue) (path : List ℕ) (k number end : ℕ) (full : FullChart) → number ≡ chart_number b path k → IsFull b (chart b number) full → end ≡ events_before b path (suc k) → end - length full.stations.items ≡ events_before b path k
first_before b path k number end full is whole e =
    let count : length full.stations.items ≡ event_count b (chart_at b path k) = ap length whole.stations ∙ ap (λ n. event_count b (chart b n)) is in
    omega (arith, count, e)

-- one link more of a path
pub stands_more : (b : BookValue) (path : List ℕ) (k at n : ℕ) (l : Link) → StandsAt b path k at → n ≡ get_or path k 0 → Leaves b at n → l ≡ link b n → StandsAt b path (k + 1) l.to
stands_more b path k at n l s is leaves e = record {
  chart = ap (λ (x : Link). x.to) (e ∙ ap (link b) is) ∙ ap (chart_number b path) (sym (add-one k));
  goes_on = λ j h. ⊎_elim
      (λ same. subst (λ i. Leaves b (chart_number b path i) (get_or path i 0)) (sym same) (subst₂ (Leaves b) s.chart is leaves))
      (λ other. s.goes_on j (omega arith))
      (cases_eq j k);
}

-- where all links lead on they are a path
pub stands_whole : (b : BookValue) (path : List ℕ) (k at : ℕ) → StandsAt b path k at → length path ≤ k → Path b path
stands_whole b path k at s h = record { exists = λ j lt. (s.goes_on j (omega arith)).0; begins = λ j lt. (s.goes_on j (omega arith)).1 }
