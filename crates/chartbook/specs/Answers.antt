-- What the reader of charts answers.
use Rattle.std.specs.Prelude.{◌≡◌, ℕ, ◌+◌, ◌*◌, ◌<◌, ◌≤◌, true, false, List, length, map}
use Rattle.std.specs.List.{range_with_len}
use Rattle.bookformat.specs.Bounded.{Bounded}
use Rattle.bookformat.specs.declared.value.Chart.{Chart}
use Rattle.bookformat.specs.declared.value.Event.{Event}
use Rattle.bookformat.specs.Values.{chart_value}
use Rattle.bookformat.specs.Layout.{byte, chart_at, constraints_place, chart_place}
use Rattle.bookformat.specs.Reading.{is_paired}

-- the chart whose head is at a place, and the place behind it
pub record ChartRead (b : List ℕ) (place : ℕ) (c : Chart) (next : ℕ) : Type 0 where
  pub chart : chart_value c ≡ chart_at b place
  pub next_is : next ≡ constraints_place b place + 6 * byte b (place + 1)
  pub near : next ≤ place + 507

-- the first charts of a book, and the place behind them
pub record ChartsRead (b : List ℕ) (count : ℕ) (cs : Bounded Chart 32) (next : ℕ) : Type 0 where
  pub charts : map chart_value cs.items ≡ map (λ k. chart_at b (chart_place b k)) (range_with_len 0 count)
  pub next_is : next ≡ chart_place b count
  pub near : next ≤ 13 + 507 * count

-- every event is paired
abbrev pub AllPaired : List Event → Type 0
AllPaired es = (k : ℕ) → k < length es → is_paired es k ≡ true

-- e is the first event that is not paired
abbrev pub FirstUnpaired : List Event → ℕ → Type 0
FirstUnpaired es e = (e < length es) × (is_paired es e ≡ false) × ((k : ℕ) → k < e → is_paired es k ≡ true)
