-- No text is longer than a space can be.
use Rattle.std.proofs.Common.{ℕ, zero, suc, ◌*◌, ◌^◌, ◌<◌, ◌≤◌, List, [], ◌∷◌, ◌++◌, length, take, drop, codes, decimal, arith, length-append, length-take}
use Rattle.std.specs.List.{All}
use Rattle.std.proofs.lemmas.Fmt.{length-decimal-le}
use Rattle.std.proofs.lemmas.List.Elements.{All-head, All-tail, All-take, All-drop}
use Rattle.bookformat.specs.declared.fault.Refusal.{Refusal}
use Rattle.bookformat.specs.Values.{BookValue}
use Rattle.bookformat.specs.Rules.{GoodBook}
use Rattle.paths.specs.Charts.{event_count}
use Rattle.paths.specs.Paths.{Path, chart_number, chart_at}
use Rattle.paths.specs.Listing.{events_before}
use Rattle.paths.proofs.Facts.{chart_facts}
use Rattle.history.specs.Meanings.{link_to}
use Rattle.report.specs.Texts.{feed, blank, number_text, refusal_text}
use Rattle.report.specs.Reports.{spaced, link_text, dates_text, runs_line, line_text, dates_at, lines_text, report_text}

number_short : (n : ℕ) → n < 2 ^ 64 → length (decimal n) ≤ 20
number_short n fits = length-decimal-le 20 n (omega arith) (omega arith) fits

ended_short : (n ending : ℕ) → n < 2 ^ 64 → length (number_text n ending) ≤ 21
ended_short n ending fits = omega (arith, number_short n fits, length-append (decimal n) (ending ∷ []))

pub refusal_short : (r : Refusal) → r.number < 2 ^ 64 → r.layer < 2 ^ 64 → r.place < 2 ^ 64 → length (refusal_text r) < 2 ^ 64
refusal_short r number layer place =
    let last = number_text r.layer blank ++ number_text r.place feed in
    omega (
      arith,
      ended_short r.number blank number,
      ended_short r.layer blank layer,
      ended_short r.place feed place,
      length-append (number_text r.layer blank) (number_text r.place feed),
      length-append (number_text r.number blank) last,
      length-append (codes "refused ") (number_text r.number blank ++ last),
    )

dates_short : (ds : List ℕ) → All (λ d. d < 2 ^ 64) ds → length (dates_text ds) ≤ 21 * length ds
dates_short [] fit = omega arith
dates_short (d ∷ ds) fit =
    omega (arith, number_short d (All-head (λ d. d < 2 ^ 64) d ds fit), dates_short ds (All-tail (λ d. d < 2 ^ 64) d ds fit), length-append (spaced d) (dates_text ds))

-- a path of a good book, not too long
pub record Reportable (b : BookValue) (path : List ℕ) : Type 0 where
  pub good : GoodBook b
  pub is_path : Path b path
  pub few : length path ≤ 4095

module _ (b : BookValue) (path dates : List ℕ) (r : Reportable b path) (fit : All (λ d. d < 2 ^ 64) dates) where
  chart_small : (k : ℕ) → k ≤ length path → chart_number b path k < 2 ^ 64
  chart_small zero h = omega (arith, r.good.first_exists, r.good.charts_most)
  chart_small (suc k) h = omega (arith, (r.good.links _ (r.is_path.exists k h)).to_exists, r.good.charts_most)

  link_short : (k : ℕ) → k ≤ length path → length (link_text (link_to path k)) ≤ 20
  link_short zero h = omega arith
  link_short (suc k) h = number_short _ (omega (arith, r.is_path.exists k h, r.good.links_most))

  dates_at_short : (k : ℕ) → length (dates_text (dates_at b path dates k)) ≤ 21 * 48
  dates_at_short k =
      let n = event_count b (chart_at b path k) in
      let rest = drop (events_before b path k) dates in
      let P : ℕ → Type 0 = λ d. d < 2 ^ 64 in
      omega (
        arith,
        dates_short (take n rest) (All-take P n rest (All-drop P (events_before b path k) dates fit)),
        length-take n rest,
        (chart_facts b r.good (chart_number b path k)).count,
      )

  line_short : (k : ℕ) → k ≤ length path → length (line_text (link_to path k) (chart_number b path k) (dates_at b path dates k)) ≤ 1100
  line_short k h =
      let link = link_text (link_to path k) in
      let chart = spaced (chart_number b path k) in
      let ds = dates_text (dates_at b path dates k) in
      omega (
        arith,
        link_short k h,
        number_short (chart_number b path k) (chart_small k h),
        dates_at_short k,
        length-append link chart,
        length-append (link ++ chart) ds,
        length-append (link ++ chart ++ ds) (feed ∷ []),
      )

  lines_short : (k : ℕ) → k ≤ suc (length path) → length (lines_text b path dates k) ≤ 1100 * k
  lines_short zero h = omega arith
  lines_short (suc k) h =
      omega (
        arith,
        lines_short k (omega arith),
        line_short k (omega arith),
        length-append (lines_text b path dates k) (line_text (link_to path k) (chart_number b path k) (dates_at b path dates k)),
      )

  pub report_short : length (report_text b path dates) < 2 ^ 64
  report_short =
      let charts = suc (length path) in
      omega (
        arith,
        r.few,
        number_short charts (omega (arith, r.few)),
        lines_short charts (omega arith),
        length-append (codes "runs") (spaced charts),
        length-append (codes "runs" ++ spaced charts) (feed ∷ []),
        length-append (runs_line charts) (lines_text b path dates charts),
      )
