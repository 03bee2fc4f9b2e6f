-- Sweeps along a path.
use Rattle.std.proofs.Common.{◌≡◌, ℕ, zero, suc, ◌+◌, ◌-◌, ◌*◌, ◌^◌, ◌<◌, ◌≤◌, Bool, true, false, ◌||◌, List, length, sum, sym, refl, ap, subst, mul-le-mul_right, add-mul, add-one, arith, below_more}
use Rattle.std.proofs.ByRecursion.{sum_by_le, All-from_get_or}
use Rattle.std.proofs.lemmas.Bool.{both_ways, or_right}
use Rattle.bookformat.specs.declared.value.Link.{Link}
use Rattle.bookformat.specs.Values.{BookValue}
use Rattle.bookformat.specs.Rules.{chart}
use Rattle.paths.specs.Paths.{link_at, chart_at}
use Rattle.paths.specs.Listing.{events_before, events_of}
use Rattle.routes.specs.declared.stop.Stop.{Stop}
use Rattle.routes.proofs.Placing.{count_at, inside as stop_inside}
use Rattle.earliest.specs.Raising.{Small, Fitting, Rises, Raises}
use Rattle.earliest.specs.Demands.{Each, Placed, ChartKept, LinkKept}
use Rattle.routes.specs.Stops.{At}
use Rattle.earliest.specs.Positions.{ChartAt, LinkAt, Entering, Leaving, Crossing, PathKept, Least, Settled}
use Rattle.earliest.proofs.Risen.{weaken, then, both}

-- the dates of a stop lie within those of the path
pub placed_at : (b : BookValue) (path : List ℕ) (k : ℕ) (s : Stop) → At b path k s → (room : ℕ) → k ≤ length path → events_of b path ≤ room → Placed b s room
placed_at b path k s at room inside long = record {
  exists = at.exists;
  full = at.full;
  inside = omega (arith, count_at b path k s at, stop_inside b path k s at inside, ap length at.full.stations);
}

-- a stop's chart, and a link between two stops, by their positions
pub chart_at_lem : {l m : List ℕ} {t : Bool} (b : BookValue) (path : List ℕ) (k : ℕ) (s : Stop) → At b path k s → Raises (ChartKept b (chart b s.number) s.first) l m t → Raises (ChartAt b path k) l m t
chart_at_lem {l} {m} {t} b path k s at r =
    subst (λ n. Raises (ChartKept b (chart b n) (events_before b path k)) l m t) at.number
    (subst (λ f. Raises (ChartKept b (chart b s.number) f) l m t) at.first r)

module _ (b : BookValue) (path : List ℕ) (k : ℕ) (left entered : Stop) (room : ℕ) (crossing : Crossing b path k left entered room) where
  pub entered_at : At b path (suc k) entered
  entered_at = subst (λ j. At b path j entered) (add-one k) crossing.entered_at

  pub left_placed : Placed b left room
  left_placed = placed_at b path k left crossing.left_at room (omega (arith, crossing.inside)) (omega (arith, crossing.long))

  pub entered_placed : Placed b entered room
  entered_placed = placed_at b path (suc k) entered entered_at room (omega (arith, crossing.inside)) (omega (arith, crossing.long))

  pub crossed : {l m : List ℕ} {t : Bool} (w : Link) → w ≡ link_at b path k → Raises (LinkKept b w (chart b left.number) left.first (chart b entered.number) entered.first) l m t → Raises (LinkAt b path k) l m t
  crossed {l} {m} {t} w is r =
      let x = crossing.left_at in
      let y = entered_at in
      subst (λ (v : Link). Raises (LinkKept b v (chart_at b path k) (events_before b path k) (chart_at b path (suc k)) (events_before b path (suc k))) l m t) is
      (subst (λ i. Raises (LinkKept b w (chart b i) (events_before b path k) (chart_at b path (suc k)) (events_before b path (suc k))) l m t) x.number
      (subst (λ i. Raises (LinkKept b w (chart b left.number) i (chart_at b path (suc k)) (events_before b path (suc k))) l m t) x.first
      (subst (λ i. Raises (LinkKept b w (chart b left.number) left.first (chart b i) (events_before b path (suc k))) l m t) y.number
      (subst (λ i. Raises (LinkKept b w (chart b left.number) left.first (chart b entered.number) i) l m t) y.first r))))

  pub entering_met : {l m o : List ℕ} {s t : Bool} (w : Link) → w ≡ link_at b path k → Raises (LinkKept b w (chart b left.number) left.first (chart b entered.number) entered.first) l m s → Raises (ChartKept b (chart b entered.number) entered.first) m o t → Raises (Entering b path k) l o (s || t)
  entering_met w is r q = both (crossed w is r) (chart_at_lem b path (suc k) entered entered_at q)

  -- the chart is settled only after a change
  pub leaving_met : {l m o : List ℕ} {t : Bool} (w : Link) → w ≡ link_at b path k → Raises (LinkKept b w (chart b left.number) left.first (chart b entered.number) entered.first) l m true → Raises (ChartKept b (chart b left.number) left.first) m o t → Rises (Leaving b path k) (LinkAt b path k) l o true
  leaving_met w is r q = weaken (λ z k. k) (λ z k. k.0) (both (crossed w is r) (chart_at_lem b path k left crossing.left_at q))

  pub leaving_kept : {l m : List ℕ} {t : Bool} (w : Link) → w ≡ link_at b path k → Raises (LinkKept b w (chart b left.number) left.first (chart b entered.number) entered.first) l m t → Rises (Leaving b path k) (LinkAt b path k) l m t
  leaving_kept w is r = weaken (λ z k. k.0) (λ z k. k) (crossed w is r)

or_assoc : (x y z : Bool) → ((x || y) || z) ≡ (x || (y || z))
or_assoc true y z = refl
or_assoc false y z = refl

-- One turn of a walk

module _ (b : BookValue) (path : List ℕ) (k : ℕ) (inside : k < length path) where
  entering_asked : (z : ℕ → ℕ) → PathKept b path z → Entering b path k z
  entering_asked z d = (d.links k inside, d.charts (suc k) inside)

  leaving_asked : (z : ℕ → ℕ) → PathKept b path z → Leaving b path k z
  leaving_asked z d = (d.links k inside, d.charts k (omega arith))

  module _ {l m n : List ℕ} {e t : Bool} (r : Raises (Entering b path k) l m e) (s : Rises (Leaving b path k) (LinkAt b path k) m n t) where
    pub turn : Rises (PathKept b path) (Entering b path k) l n (e || t)
    turn = weaken (λ z d. d) (λ z p. p.0) (then (weaken entering_asked (λ z p. p) r) (weaken leaving_asked (λ z p. p) s))

    pub one_turn : {first : List ℕ} {c : Bool} → Rises (PathKept b path) (Each k (Entering b path)) first l c → Rises (PathKept b path) (Each (k + 1) (Entering b path)) first n ((c || e) || t)
    one_turn {first} {c} q =
        subst (Rises (PathKept b path) (Each (k + 1) (Entering b path)) first n) (sym (or_assoc c e t))
        (weaken (λ z d. d) (λ z p. below_more (λ j. Entering b path j z) k p.0 p.1) (then q turn))

  pub back_turn : {l m n : List ℕ} {c t : Bool} → Rises (PathKept b path) (λ _. Unit {0}) l m c → Rises (Leaving b path k) (LinkAt b path k) m n t → Rises (PathKept b path) (λ _. Unit {0}) l n (c || t)
  back_turn q s = weaken (λ z d. d) (λ z p. tt) (then q (weaken leaving_asked (λ z p. p) s))

-- after a change nothing has to be kept
pub moved_so : {A K : (ℕ → ℕ) → Type 0} (K' : (ℕ → ℕ) → Type 0) {l m : List ℕ} (c : Bool) {t : Bool} → t ≡ true → Rises A K l m (c || t) → Rises A K' l m (c || t)
moved_so K' {l} {m} c {t} is r = record { long = r.long; under = r.under; same = r.same; kept = λ e s. absurd (both_ways (c || t) e (or_right c t is)); more = r.more; fits = r.fits }

-- The sum of the dates

sum_by : (t : Bool) (x y : ℕ) → (t ≡ false → y ≡ x) → (t ≡ true → x < y) → x ≤ y
sum_by true x y same more = omega (arith, more refl)
sum_by false x y same more = omega (arith, same refl)

pub sum_rises : {A K : (ℕ → ℕ) → Type 0} {l m : List ℕ} {t : Bool} → Rises A K l m t → sum l ≤ sum m
sum_rises {A} {K} {l} {m} {t} r = sum_by t (sum l) (sum m) (λ e. ap sum (r.same e)) r.more

pub fitting_sum : (l m : List ℕ) {A K : (ℕ → ℕ) → Type 0} {t : Bool} → Rises A K l m t → Fitting l → sum m ≤ length l * (2 ^ 32 - 1)
fitting_sum l m r f = subst (λ n. sum m ≤ n * (2 ^ 32 - 1)) r.long (sum_by_le (λ n. n) (2 ^ 32 - 1) m (All-from_get_or (λ n. n ≤ 2 ^ 32 - 1) m 0 (λ k h. omega (arith, r.fits f k h))))

pub falls_forward : (most s s' n p : ℕ) → s ≤ s' → p < n → (most - s') * (n + 1) + (n - (p + 1)) < (most - s) * (n + 1) + (n - p)
falls_forward most s s' n p h g =
    let less : most - s' ≤ most - s = omega arith in
    omega (arith, mul-le-mul_right (n + 1) less)

pub falls_back : (most s s' n p p' : ℕ) → s < s' → s' ≤ most → (most - s') * (n + 1) + (n - p') < (most - s) * (n + 1) + (n - p)
falls_back most s s' n p p' h g =
    let less : most - s' + 1 ≤ most - s = omega arith in
    omega (arith, mul-le-mul_right (n + 1) less, add-mul (most - s') 1 (n + 1))

-- The whole path

all_charts : (b : BookValue) (path : List ℕ) (z : ℕ → ℕ) → ChartAt b path 0 z → Each (length path) (Entering b path) z → (k : ℕ) → k ≤ length path → ChartAt b path k z
all_charts b path z first rest zero h = first
all_charts b path z first rest (suc k) h = (rest k h).1

pub path_met : {l m n : List ℕ} {c d : Bool} (b : BookValue) (path : List ℕ) (s : Stop) → At b path 0 s → Raises (ChartKept b (chart b s.number) s.first) l m c → Rises (PathKept b path) (Each (length path) (Entering b path)) m n d → Raises (PathKept b path) l n (c || d)
path_met b path s at r q = weaken
    (λ z d. d)
    (λ z p. record { charts = all_charts b path z p.0 p.1; links = λ k h. (p.1 k h).0 })
    (then (weaken (λ z d. d.charts 0 (omega arith)) (λ z p. p) (chart_at_lem b path 0 s at r)) q)

-- dates that a sweep leaves as they are, are settled
pub settled : {b : BookValue} {path l m : List ℕ} {c : Bool} → c ≡ false → Raises (PathKept b path) l m c → Small l → Least b path l → Settled b path m
settled {b} {path} {l} {m} {c} quiet r small least = subst (Settled b path) (sym (r.same quiet)) (record { kept = r.kept quiet small; least = least })

-- two sweeps
pub least_kept : {b : BookValue} {path l m n : List ℕ} {K K' : (ℕ → ℕ) → Type 0} {c d : Bool} → Rises (PathKept b path) K l m c → Rises (PathKept b path) K' m n d → Least b path l → Least b path n
least_kept r s least z d = s.under z d (r.under z d (least z d))

pub falls : {A K K' : (ℕ → ℕ) → Type 0} {l m n : List ℕ} {c d : Bool} (size : ℕ) → c ≡ true → Rises A K l m c → Rises A K' m n d → Fitting l → length l ≡ size → size * (2 ^ 32 - 1) - sum n < size * (2 ^ 32 - 1) - sum l
falls {A} {K} {K'} {l} {m} {n} size moved r s f long =
    let most : sum n ≤ size * (2 ^ 32 - 1) = subst (λ k. sum n ≤ k * (2 ^ 32 - 1)) long (fitting_sum l n (then r s) f) in
    omega (arith, r.more moved, sum_rises s, most)
