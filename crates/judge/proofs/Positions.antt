-- The dates of one position, as a part of the written dates.
use Rattle.std.proofs.Common.{◌≡◌, ℕ, suc, ◌+◌, ◌<◌, ◌≤◌, Bool, List, length, get_or, drop, Decides, sym, ap, ◌∙◌, subst, subst₂, add-one, arith}
use Rattle.std.proofs.lemmas.Bool.Decides.{Decides-like}
use Rattle.std.proofs.lemmas.List.{get_or-take, get_or-drop}
use Rattle.bookformat.specs.declared.value.Link.{Link}
use Rattle.bookformat.specs.Values.{ChartValue, BookValue}
use Rattle.bookformat.specs.Rules.{chart, GoodBook}
use Rattle.paths.specs.Charts.{event_count}
use Rattle.paths.specs.Paths.{link_at, chart_number, chart_at, Path}
use Rattle.paths.specs.Datings.{Within, interval, KeepsChart, KeepsLink, Dating}
use Rattle.paths.specs.Listing.{events_of, written}
use Rattle.paths.proofs.Facts.{chart_facts}
use Rattle.paths.proofs.Deciding.{chart_sees}
use Rattle.fullchart.specs.declared.FullChart.{FullChart}
use Rattle.fullchart.specs.Finds.{IsFull}
use Rattle.routes.specs.declared.stop.Stop.{Stop}
use Rattle.routes.specs.Stops.{At, dates_of}
use Rattle.routes.proofs.Placing.{count_at, inside}
use Rattle.rules.specs.Checks.{date}
use Rattle.judge.specs.Judging.{KeepsLinkTo, KeepsPosition}

link_sees : (b : BookValue) (l : Link) (c c' : ChartValue) (x x' y y' : ℕ → ℕ) → ((e : ℕ) → e < event_count b c → x e ≡ x' e) → ((e : ℕ) → e < event_count b c' → y e ≡ y' e) → KeepsLink b l c c' x y → KeepsLink b l c c' x' y'
link_sees b l c c' x x' y y' same same' k = record {
  intervals = λ p e f hp he hf. subst₂ (Within (interval l p)) (same e he.on.exists) (same' f hf.on.exists) (k.intervals p e f hp he hf);
}

module _ (b : BookValue) (good : GoodBook b) (path dates : List ℕ) (count : length dates ≡ events_of b path) where
  -- the part of the dates that belongs to the stop of a position
  module _ (k : ℕ) (s : Stop) (on_path : k ≤ length path) (at : At b path k s) where
    size : length s.full.stations.items ≡ event_count b (chart_at b path k)
    size = count_at b path k s at

    pub part_fits : s.first + length s.full.stations.items ≤ length dates
    part_fits = omega (arith, inside b path k s at on_path, count)

    module _ (part : List ℕ) (is : part ≡ dates_of s dates) where
      pub part_date : (e : ℕ) → e < event_count b (chart_at b path k) → date part e ≡ written b path dates k e
      part_date e l =
          ap (λ (x : List ℕ). get_or x e 0) is
          ∙ get_or-take (length s.full.stations.items) (drop s.first dates) e 0 (omega (arith, size))
          ∙ get_or-drop s.first dates e 0
          ∙ ap (λ n. get_or dates (n + e) 0) at.first

      -- a chart's own rules
      pub own_decided : (r : Bool) → Decides r (KeepsChart b (chart b s.number) (date part)) → Decides r (KeepsChart b (chart_at b path k) (written b path dates k))
      own_decided r d =
          let facts = chart_facts b good (chart_number b path k) in
          Decides-like r
          (chart_sees b (chart_at b path k) facts (date part) (written b path dates k) part_date)
          (chart_sees b (chart_at b path k) facts (written b path dates k) (date part) (λ e l. sym (part_date e l)))
          (subst (λ m. Decides r (KeepsChart b (chart b m) (date part))) at.number d)

  -- the link that leaves position k
  module _ (k : ℕ) (left entered : Stop) (on_path : k < length path) (left_at : At b path k left) (next_at : At b path (k + 1) entered) where
    entered_at : At b path (suc k) entered
    entered_at = subst (λ j. At b path j entered) (add-one k) next_at

    pub entered_fits : entered.first + length entered.full.stations.items ≤ length dates
    entered_fits = part_fits (suc k) entered (omega arith) entered_at

    module _ (l : Link) (is : l ≡ link_at b path k) (is_path : Path b path) where
      pub leaves : chart_number b path k ≡ l.from
      leaves = sym (ap (λ (x : Link). x.from) is ∙ is_path.begins k on_path)

      pub enters : chart_number b path (suc k) ≡ l.to
      enters = sym (ap (λ (x : Link). x.to) is)

      pub left_full : (f : FullChart) → f ≡ left.full → IsFull b (chart b l.from) f
      left_full f e = subst (λ n. IsFull b (chart b n) f) (left_at.number ∙ leaves) (subst (IsFull b (chart b left.number)) (sym e) left_at.full)

      pub entered_full : (f : FullChart) → f ≡ entered.full → IsFull b (chart b l.to) f
      entered_full f e = subst (λ n. IsFull b (chart b n) f) (entered_at.number ∙ enters) (subst (IsFull b (chart b entered.number)) (sym e) entered_at.full)

      module _ (x y : List ℕ) (x_is : x ≡ dates_of left dates) (y_is : y ≡ dates_of entered dates) where
        same : (e : ℕ) → e < event_count b (chart_at b path k) → date x e ≡ written b path dates k e
        same = part_date k left (omega arith) left_at x x_is

        same' : (e : ℕ) → e < event_count b (chart_at b path (suc k)) → date y e ≡ written b path dates (suc k) e
        same' = part_date (suc k) entered (omega arith) entered_at y y_is

        -- its rule
        pub link_decided : (r : Bool) → Decides r (KeepsLink b l (chart b l.from) (chart b l.to) (date x) (date y)) → Decides r (KeepsLinkTo b path (written b path dates) (k + 1))
        link_decided r d =
            let c = chart_at b path k in
            let c' = chart_at b path (suc k) in
            let w = written b path dates in
            let here = subst (λ n. Decides r (KeepsLink b l (chart b n) (chart b l.to) (date x) (date y))) (sym leaves) d in
            let there = subst (λ (m : Link). Decides r (KeepsLink b m c (chart b m.to) (date x) (date y))) is here in
            subst (λ m. Decides r (KeepsLinkTo b path w m)) (sym (add-one k))
            (Decides-like r (link_sees b (link_at b path k) c c' (date x) (w k) (date y) (w (suc k)) same same') (link_sees b (link_at b path k) c c' (w k) (date x) (w (suc k)) (date y) (λ e i. sym (same e i)) (λ e i. sym (same' e i))) there)

-- a dating is what keeps the rules at every position
pub all_kept : (b : BookValue) (path : List ℕ) (d : ℕ → ℕ → ℕ) (n : ℕ) → length path < n → ((j : ℕ) → j < n → KeepsPosition b path d j) → Dating b path d
all_kept b path d n h kept = record {
  charts = λ k l. (kept k (omega arith)).chart;
  links = λ k l. (kept (suc k) (omega arith)).link;
}
