-- The rules see only the dates of events, and whether they hold can be decided.
use Rattle.std.proofs.Common.{◌≡◌, ℕ, suc, ◌+◌, ◌<◌, ◌≤◌, Bool, true, false, ◌⊎◌, List, length, Some, None, Decides, Option, refl, subst₂, arith}
use native.Mathlib.Decide.{dec_le}
use Rattle.std.proofs.lemmas.Bool.{false≢true}
use Rattle.bookformat.specs.declared.value.Interval.{Interval}
use Rattle.bookformat.specs.declared.value.Link.{Link}
use Rattle.bookformat.specs.Values.{ChartValue, BookValue}
use Rattle.bookformat.specs.Rules.{DirectlyBefore, GoodBook}
use Rattle.bookformat.specs.Reading.{is_directly_before}
use Rattle.bookformat.proofs.Tests.{decides_before}
use Rattle.paths.specs.Charts.{Working, event_count, First, Last}
use Rattle.paths.specs.Paths.{link_at, chart_number, chart_at}
use Rattle.paths.specs.Datings.{Within, constraint, interval, drift, KeepsChart, KeepsLink, Dating, EventOf}
use Rattle.paths.proofs.Finite.{choose, dec_all, dec_implies, dec_both, dec_either, dec_like}
use Rattle.paths.proofs.Full.{first_event, last_event, one_first, one_last, working_exists}
use Rattle.paths.proofs.Facts.{ChartFacts, chart_facts}

-- What the rules see

pub chart_sees : (b : BookValue) (c : ChartValue) → ChartFacts b c → (d d' : ℕ → ℕ) → ((e : ℕ) → e < event_count b c → d e ≡ d' e) → KeepsChart b c d → KeepsChart b c d'
chart_sees b c facts d d' same h = record {
  order = λ e f q. let r = facts.order e f q in omega (arith, h.order e f q, works e r.0, works f r.1);
  constraints = λ k q. let r = facts.named k q in subst₂ (Within (constraint c k).interval) (works (constraint c k).first r.0) (works (constraint c k).second r.1) (h.constraints k q);
  near = λ e f p q. omega (arith, h.near e f p q, works e p, works f q);
  far = λ e f p. omega (arith, h.far e f p, same e p.first_exists, same f p.second_exists);
}
  where
    works : (e : ℕ) → Working c e → d e ≡ d' e
    works e w = same e (working_exists b c e w)

pub dating_sees : (b : BookValue) → GoodBook b → (path : List ℕ) (d d' : ℕ → ℕ → ℕ) → ((k e : ℕ) → EventOf b path k e → d k e ≡ d' k e) → Dating b path d → Dating b path d'
dating_sees b good path d d' same h = record {
  charts = λ k l. chart_sees b (chart_at b path k) (chart_facts b good (chart_number b path k)) (d k) (d' k) (λ e he. same k e (record { position = l; event = he })) (h.charts k l);
  links = λ k l. record {
    intervals = λ p e f hp he hf. subst₂ (Within (interval (link_at b path k) p))
        (same k e (record { position = omega arith; event = he.on.exists }))
        (same (suc k) f (record { position = l; event = hf.on.exists }))
        ((h.links k l).intervals p e f hp he hf);
  };
}

-- Deciding them

pub dec_by : (P : Type 0) (v : Bool) → Decides v P → Dec P
dec_by P true h = yes (h.0 refl)
dec_by P false h = no (λ p. false≢true (h.1 p))

dec_within : (i : Interval) (x y : ℕ) → Dec (Within i x y)
dec_within i x y = go (dec_le (x + i.lower) y) i.upper refl
  where
    over : (u : ℕ) → i.upper ≡ Some u → y ≤ x + u → (v : ℕ) → i.upper ≡ Some v → y ≤ x + v
    over u e l v f = let s : u ≡ v = cc in omega arith

    never : i.upper ≡ None → (v : ℕ) → i.upper ≡ Some v → y ≤ x + v
    never e v f = let z : ◌≡◌ {A = ℕ} 0 1 = cc in absurd (omega arith)

    go : Dec (x + i.lower ≤ y) → (o : Option ℕ) → i.upper ≡ o → Dec (Within i x y)
    go (no l) o e = no (λ w. l w.not_under)
    go (yes l) None e = yes (record { not_under = l; not_over = never e })
    go (yes l) (Some u) e = dec_like (y ≤ x + u) (Within i x y) (λ h. record { not_under = l; not_over = over u e h }) (λ w. w.not_over u e) (dec_le y (x + u))

-- a statement about two events
dec_pairs : (n : ℕ) (A : ℕ → ℕ → Type 0) → ((e f : ℕ) → Dec (A e f)) → Dec ((e : ℕ) → e < n → (f : ℕ) → f < n → A e f)
dec_pairs n A dec = dec_all n (λ e. (f : ℕ) → f < n → A e f) (λ e. dec_all n (A e) (dec e))

module _ (b : BookValue) (c : ChartValue) (facts : ChartFacts b c) (d : ℕ → ℕ) where
  abbrev working : ℕ
  working = length c.events

  abbrev Order : ℕ → ℕ → Type 0
  Order e f = DirectlyBefore c.events e f → d e ≤ d f

  abbrev Constrained : ℕ → Type 0
  Constrained k = Within (constraint c k).interval (d (constraint c k).first) (d (constraint c k).second)

  abbrev Drifts : ℕ → ℕ → Type 0
  Drifts e f = d e ≤ d f + drift b c e f

  abbrev SilentDrifts : ℕ → ℕ → Type 0
  SilentDrifts e f = ((working ≤ e) ⊎ (working ≤ f)) → Drifts e f

  dec_chart : Dec (KeepsChart b c d)
  dec_chart = go
      (dec_pairs working Order (λ e f. dec_implies (DirectlyBefore c.events e f) (d e ≤ d f) (dec_by (DirectlyBefore c.events e f) (is_directly_before c.events e f) (decides_before c.events e f)) (dec_le (d e) (d f))))
      (dec_all (length c.constraints) Constrained (λ k. dec_within (constraint c k).interval (d (constraint c k).first) (d (constraint c k).second)))
      (dec_pairs working Drifts (λ e f. dec_le (d e) (d f + drift b c e f)))
      (dec_pairs (event_count b c) SilentDrifts (λ e f. dec_implies ((working ≤ e) ⊎ (working ≤ f)) (Drifts e f) (dec_either (working ≤ e) (working ≤ f) (dec_le working e) (dec_le working f)) (dec_le (d e) (d f + drift b c e f))))
    where
      go : Dec ((e : ℕ) → e < working → (f : ℕ) → f < working → Order e f) → Dec ((k : ℕ) → k < length c.constraints → Constrained k) → Dec ((e : ℕ) → e < working → (f : ℕ) → f < working → Drifts e f) → Dec ((e : ℕ) → e < event_count b c → (f : ℕ) → f < event_count b c → SilentDrifts e f) → Dec (KeepsChart b c d)
      go (no o) k n s = no (λ h. o (λ e he f hf q. h.order e f q))
      go (yes o) (no k) n s = no (λ h. k h.constraints)
      go (yes o) (yes k) (no n) s = no (λ h. n (λ e he f hf. h.near e f he hf))
      go (yes o) (yes k) (yes n) (no s) = no (λ h. s (λ e he f hf q. h.far e f (record { first_exists = he; second_exists = hf; silent = q })))
      go (yes o) (yes k) (yes n) (yes s) = yes (record {
        order = λ e f q. let r = facts.order e f q in o e r.0 f r.1 q;
        constraints = k;
        near = λ e f p q. n e p f q;
        far = λ e f p. s e p.first_exists f p.second_exists p.silent;
      })

dec_link : (b : BookValue) (l : Link) (c c' : ChartValue) (d d' : ℕ → ℕ) → Dec (KeepsLink b l c c' d d')
dec_link b l c c' d d' =
    dec_like ((p : ℕ) → p < b.stations → Within (interval l p) (d (last.0 p)) (d' (first.0 p))) (KeepsLink b l c c' d d')
    (λ h. record { intervals = λ p e f hp he hf. subst₂ (λ (u v : ℕ). Within (interval l p) (d u) (d' v)) (one_last b c p (last.0 p) e (last.1 p hp) he) (one_first b c' p (first.0 p) f (first.1 p hp) hf) (h p hp) })
    (λ h p hp. h.intervals p (last.0 p) (first.0 p) hp (last.1 p hp) (first.1 p hp))
    (dec_all b.stations (λ p. Within (interval l p) (d (last.0 p)) (d' (first.0 p))) (λ p. dec_within (interval l p) (d (last.0 p)) (d' (first.0 p))))
  where
    last : (f : ℕ → ℕ) × ((p : ℕ) → p < b.stations → Last b c p (f p))
    last = choose b.stations (Last b c) (last_event b c)

    first : (f : ℕ → ℕ) × ((p : ℕ) → p < b.stations → First b c' p (f p))
    first = choose b.stations (First b c') (first_event b c')

pub dec_dating : (b : BookValue) → GoodBook b → (path : List ℕ) (d : ℕ → ℕ → ℕ) → Dec (Dating b path d)
dec_dating b good path d =
    dec_like (((k : ℕ) → k < suc (length path) → Kept k) × ((k : ℕ) → k < length path → Linked k)) (Dating b path d)
    (λ h. record { charts = λ k l. h.0 k (omega arith); links = h.1 })
    (λ h. (λ k l. h.charts k (omega arith), h.links))
    (dec_both ((k : ℕ) → k < suc (length path) → Kept k) ((k : ℕ) → k < length path → Linked k)
    (dec_all (suc (length path)) Kept (λ k. dec_chart b (chart_at b path k) (chart_facts b good (chart_number b path k)) (d k)))
    (dec_all (length path) Linked (λ k. dec_link b (link_at b path k) (chart_at b path k) (chart_at b path (suc k)) (d k) (d (suc k)))))
  where
    Kept : ℕ → Type 0
    Kept k = KeepsChart b (chart_at b path k) (d k)

    Linked : ℕ → Type 0
    Linked k = KeepsLink b (link_at b path k) (chart_at b path k) (chart_at b path (suc k)) (d k) (d (suc k))
