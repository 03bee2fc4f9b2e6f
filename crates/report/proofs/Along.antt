-- The lines of a path's charts, stop after stop.
use Rattle.std.proofs.Common.{◌≡◌, ℕ, zero, suc, ◌+◌, ◌-◌, ◌≤◌, List, ◌++◌, length, get_or, take, drop, Some, Option, sym, ap, ◌∙◌, add-one, arith, length-append}
use Rattle.bookformat.specs.Values.{BookValue}
use Rattle.paths.specs.Charts.{event_count}
use Rattle.paths.specs.Paths.{chart_number, chart_at}
use Rattle.paths.specs.Listing.{events_of}
use Rattle.paths.proofs.Listed.{before_rises}
use Rattle.routes.specs.declared.stop.Stop.{Stop}
use Rattle.routes.specs.Stops.{At, dates_of}
use Rattle.routes.proofs.Placing.{count_at, end_is}
use Rattle.history.specs.Meanings.{link_to}
use Rattle.report.specs.Reports.{line_text, dates_at, lines_text}

module _ (b : BookValue) (path dates : List ℕ) where
  lines_grow : (k m : ℕ) → length (lines_text b path dates k) ≤ length (lines_text b path dates (m + k))
  lines_grow k zero = let e : 0 + k ≡ k = omega arith in omega (arith, ap (λ j. length (lines_text b path dates j)) e)
  lines_grow k (suc m) =
      let e : suc m + k ≡ suc (m + k) = omega arith in
      let j = m + k in
      omega (
        arith,
        ap (λ j. length (lines_text b path dates j)) e,
        lines_grow k m,
        length-append (lines_text b path dates j) (line_text (link_to path j) (chart_number b path j) (dates_at b path dates j)),
      )

  lines_rise : (k m : ℕ) → k ≤ m → length (lines_text b path dates k) ≤ length (lines_text b path dates m)
  lines_rise k m h = let e : m - k + k ≡ m = omega arith in omega (arith, ap (λ j. length (lines_text b path dates j)) e, lines_grow k (m - k))

  module _ (k : ℕ) (s : Stop) (at : At b path k s) where
    -- the dates of the stop lie within the list
    pub stop_inside : k ≤ length path → events_of b path ≤ length dates → s.first + length s.full.stations.items ≤ length dates
    stop_inside h long = omega (arith, end_is b path k s at, before_rises b path (suc k) (suc (length path)) (omega arith))

    stop_dates : dates_of s dates ≡ dates_at b path dates k
    stop_dates = ap (λ n. take n (drop s.first dates)) (count_at b path k s at) ∙ ap (λ n. take (event_count b (chart_at b path k)) (drop n dates)) at.first

    module _ (link : Option ℕ) (led : link ≡ link_to path k) where
      line_is : line_text link s.number (dates_of s dates) ≡ line_text (link_to path k) (chart_number b path k) (dates_at b path dates k)
      line_is =
          ap (λ (l : Option ℕ). line_text l s.number (dates_of s dates)) led
          ∙ ap (λ n. line_text (link_to path k) n (dates_of s dates)) at.number
          ∙ ap (line_text (link_to path k) (chart_number b path k)) stop_dates

      pub lines_more : lines_text b path dates k ++ line_text link s.number (dates_of s dates) ≡ lines_text b path dates (suc k)
      lines_more = ap (λ l. lines_text b path dates k ++ l) line_is

      -- there is room for this line where there is room for all
      pub line_fits : k ≤ length path → length (lines_text b path dates k) + length (line_text link s.number (dates_of s dates)) ≤ length (lines_text b path dates (suc (length path)))
      line_fits h =
          omega (arith, ap length lines_more, length-append (lines_text b path dates k) (line_text link s.number (dates_of s dates)), lines_rise (suc k) (suc (length path)) (omega arith))

  -- the link before position i + 1
  pub led_by : (i l : ℕ) → l ≡ get_or path i 0 → Some l ≡ link_to path (i + 1)
  led_by i l e = ap Some e ∙ ap (link_to path) (sym (add-one i))

  -- the lines of the first i + 1 positions
  pub lines_at : (i : ℕ) → lines_text b path dates (suc i) ≡ lines_text b path dates (i + 1)
  lines_at i = ap (lines_text b path dates) (sym (add-one i))
