-- Each test of a value against its rule.
use Rattle.std.proofs.Common.{◌≡◌, ℕ, ◌≤◌, Bool, true, false, not, ◌&&◌, ◌||◌, eqb, ltb, leb, ◌⊎◌, List, length, Some, None, Decides, Option, sym, refl, ap, ◌∙◌, subst, inl, inr, ⊎_elim, arith}
use Rattle.std.proofs.lemmas.Bool.{leb-true, le-leb, eqb-true, ltb-true, lt-ltb, eq-eqb, and_parts, and_from, or_cases, or_left, or_right, false≢true}
use Rattle.std.proofs.lemmas.Bool.Decides.{Decides-like, Decides-not, Decides-eqb, Decides-or}
use Rattle.bookformat.specs.declared.value.Kind.{Kind}
use Rattle.bookformat.specs.declared.value.Kind.TheVariants.{Send, Receive}
use Rattle.bookformat.specs.declared.value.Event.{Event}
use Rattle.bookformat.specs.declared.value.Interval.{Interval}
use Rattle.bookformat.specs.Rules.{unbounded, event, DirectlyBefore, listed_later, its_receive, Paired, Proper, Silent}
use Rattle.bookformat.specs.Reading.{sends, same_kind, is_paired, is_directly_before, end_proper, is_proper, is_silent, no_upper, is_unbounded, is_apart}
use Rattle.bookformat.proofs.Silence.{silent_true, silent_false}

decides_leb : (a b : ℕ) → Decides (leb a b) (a ≤ b)
decides_leb a b = (leb-true a b, le-leb a b)

-- intervals

end_rules : (l : ℕ) (o : Option ℕ) → end_proper l o ≡ true → ((u : ℕ) → o ≡ Some u → u ≤ 10000) × ((u : ℕ) → o ≡ Some u → l ≤ u)
end_rules l (Some x) e =
    let p = and_parts (leb x 10000) (leb l x) e in
    let most = leb-true x 10000 p.0 in
    let least = leb-true l x p.1 in
    (λ u is. let q : x ≡ u = cc in omega arith, λ u is. let q : x ≡ u = cc in omega arith)
end_rules l None e = (λ u is. let z : ◌≡◌ {A = ℕ} 0 1 = cc in absurd (omega arith), λ u is. let z : ◌≡◌ {A = ℕ} 0 1 = cc in absurd (omega arith))

end_test : (l : ℕ) (o : Option ℕ) → ((u : ℕ) → o ≡ Some u → u ≤ 10000) → ((u : ℕ) → o ≡ Some u → l ≤ u) → end_proper l o ≡ true
end_test l (Some x) most least = and_from (leb x 10000) (leb l x) (le-leb x 10000 (most x refl)) (le-leb l x (least x refl))
end_test l None most least = refl

pub decides_proper : (i : Interval) → Decides (is_proper i) (Proper i)
decides_proper i = (
  λ e. let p = and_parts (leb i.lower 10000) (end_proper i.lower i.upper) e in let r = end_rules i.lower i.upper p.1 in record { lower_most = leb-true i.lower 10000 p.0; upper_most = r.0; in_order = r.1 },
  λ p. and_from (leb i.lower 10000) (end_proper i.lower i.upper) (le-leb i.lower 10000 p.lower_most) (end_test i.lower i.upper p.upper_most p.in_order),
)

no_upper_lem : (o : Option ℕ) → no_upper o ≡ true → o ≡ None
no_upper_lem (Some u) e = absurd (false≢true e)
no_upper_lem None e = refl

pub same_interval : (a b : ℕ) (o p : Option ℕ) → a ≡ b → o ≡ p → ◌≡◌ {A = Interval} (record { lower = a; upper = o }) (record { lower = b; upper = p })
same_interval a b o p e f = cc

pub decides_unbounded : (i : Interval) → Decides (is_unbounded i) (i ≡ unbounded)
decides_unbounded i = (
  λ e. let p = and_parts (eqb i.lower 0) (no_upper i.upper) e in same_interval i.lower 0 i.upper None (eqb-true i.lower 0 p.0) (no_upper_lem i.upper p.1),
  λ e. subst (λ j. is_unbounded j ≡ true) (sym e) refl,
)

-- events

sends_send : (k : Kind) → sends k ≡ true → k ≡ Send
sends_send Send e = refl
sends_send Receive e = absurd (false≢true e)

before_rule : (es : List Event) (e f : ℕ) → is_directly_before es e f ≡ true → DirectlyBefore es e f
before_rule es e f h =
    ⊎_elim
    (λ l.
    let p = and_parts (ltb e f && ltb f (length es)) (eqb (event es e).station (event es f).station) l in
    let q = and_parts (ltb e f) (ltb f (length es)) p.0 in
    listed_later (ltb-true e f q.0) (ltb-true f (length es) q.1) (eqb-true (event es e).station (event es f).station p.1))
    (λ r.
    let p = and_parts (ltb e (length es) && sends (event es e).kind) (eqb (event es e).pair f) r in
    let q = and_parts (ltb e (length es)) (sends (event es e).kind) p.0 in
    its_receive (ltb-true e (length es) q.0) (sends_send (event es e).kind q.1) (eqb-true (event es e).pair f p.1))
    (or_cases (ltb e f && ltb f (length es) && eqb (event es e).station (event es f).station) (ltb e (length es) && sends (event es e).kind && eqb (event es e).pair f) h)

before_test : (es : List Event) (e f : ℕ) → DirectlyBefore es e f → is_directly_before es e f ≡ true
before_test es e f (listed_later l n s) =
    or_left (ltb e f && ltb f (length es) && eqb (event es e).station (event es f).station) (ltb e (length es) && sends (event es e).kind && eqb (event es e).pair f)
    (and_from (ltb e f && ltb f (length es)) (eqb (event es e).station (event es f).station)
    (and_from (ltb e f) (ltb f (length es)) (lt-ltb e f l) (lt-ltb f (length es) n))
    (eq-eqb (event es e).station (event es f).station s))
before_test es e f (its_receive n k p) =
    or_right (ltb e f && ltb f (length es) && eqb (event es e).station (event es f).station) (ltb e (length es) && sends (event es e).kind && eqb (event es e).pair f)
    (and_from (ltb e (length es) && sends (event es e).kind) (eqb (event es e).pair f)
    (and_from (ltb e (length es)) (sends (event es e).kind) (lt-ltb e (length es) n) (ap sends k))
    (eq-eqb (event es e).pair f p))

pub decides_before : (es : List Event) (e f : ℕ) → Decides (is_directly_before es e f) (DirectlyBefore es e f)
decides_before es e f = (before_rule es e f, before_test es e f)

same_kind_lem : (k l : Kind) → Decides (same_kind k l) (k ≡ l)
same_kind_lem Send Send = (λ e. refl, λ e. refl)
same_kind_lem Send Receive = (λ e. absurd (false≢true e), λ e. let z : ◌≡◌ {A = ℕ} 0 1 = cc in absurd (omega arith))
same_kind_lem Receive Send = (λ e. absurd (false≢true e), λ e. let z : ◌≡◌ {A = ℕ} 0 1 = cc in absurd (omega arith))
same_kind_lem Receive Receive = (λ e. refl, λ e. refl)

pub decides_paired : (es : List Event) (e : ℕ) → Decides (is_paired es e) (Paired es e)
decides_paired es e =
    let p = event es (event es e).pair in
    let exists = ltb (event es e).pair (length es) in
    let back = eqb p.pair e in
    let kind = not (same_kind p.kind (event es e).kind) in
    let station = not (eqb p.station (event es e).station) in
    let kinds = Decides-not (same_kind p.kind (event es e).kind) (same_kind_lem p.kind (event es e).kind) in
    let stations = Decides-not (eqb p.station (event es e).station) (Decides-eqb p.station (event es e).station) in (
      λ h.
          let a = and_parts (exists && back && kind) station h in
          let b = and_parts (exists && back) kind a.0 in
          let c = and_parts exists back b.0 in
          record { exists = ltb-true (event es e).pair (length es) c.0; back = eqb-true p.pair e c.1; other_kind = kinds.0 b.1; other_station = stations.0 a.1 },
      λ r.
          and_from (exists && back && kind) station
          (and_from (exists && back) kind (and_from exists back (lt-ltb (event es e).pair (length es) r.exists) (eq-eqb p.pair e r.back)) (kinds.1 r.other_kind))
          (stations.1 r.other_station),
    )

decides_silent : (es : List Event) (p : ℕ) → Decides (is_silent es p) (Silent es p)
decides_silent es p = (λ t k h is. false≢true (sym (silent_false es p k h is) ∙ t), silent_true es p)

-- the first two kinds of stations apart are joined first by the test, and last by the rule
pub decides_apart : (stations : ℕ) (before after : List Event) (p : ℕ) → Decides (is_apart stations before after p) ((stations ≤ p) ⊎ (Silent before p ⊎ Silent after p))
decides_apart stations before after p =
    Decides-like (is_apart stations before after p)
    (λ h. ⊎_elim (λ l. ⊎_elim (λ u. inl u) (λ s. inr (inl s)) l) (λ s. inr (inr s)) h)
    (λ h. ⊎_elim (λ u. inl (inl u)) (λ s. ⊎_elim (λ t. inl (inr t)) (λ t. inr t) s) h)
    (Decides-or (leb stations p || is_silent before p) (is_silent after p)
    (Decides-or (leb stations p) (is_silent before p) (decides_leb stations p) (decides_silent before p))
    (decides_silent after p))

-- an interval is unbounded wherever the station is apart
pub decides_due : (apart : Bool) (i : Interval) (Apart : Type 0) → Decides apart Apart → Decides (not apart || is_unbounded i) (Apart → i ≡ unbounded)
decides_due true i Apart d = (λ h a. (decides_unbounded i).0 h, λ r. (decides_unbounded i).1 (r (d.0 refl)))
decides_due false i Apart d = (λ h a. absurd (false≢true (d.1 a)), λ r. refl)
