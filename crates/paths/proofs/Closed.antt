-- Closed tables: they have solutions, each entry is attained, and a solution on some places extends to all.
use Rattle.std.proofs.Common.{◌≡◌, ℕ, ◌+◌, ◌-◌, ◌<◌, ◌≤◌, max, Bool, true, false, cond, ℤ, pos, ◌+ℤ◌, ◌≤ℤ◌, Some, None, Option, sym, refl, ap, ◌∙◌, subst, arith}
use native.Mathlib.Decide.{ℕ_discrete}
use borrow.Author.Differences.{up, down}
use Rattle.std.proofs.lemmas.Int.{ints, by_lt_z}
use Rattle.std.proofs.lemmas.Bool.{false≢true}
use Rattle.paths.specs.Profiles.{difference}
use Rattle.paths.specs.Bounds.{Keeps, BoundWalk, one, more}
use Rattle.paths.specs.Tables.{Table, Entry, ShortestWalks, Own}
use Rattle.paths.proofs.Finite.{top, top_above, top_least}
use Rattle.paths.proofs.Asked.{walk_limits}

-- a limit on a difference without subtraction: z is `up z` minus `down z`
limit_in : (x y : ℕ) (z : ℤ) → x + down z ≤ y + up z → difference x y ≤ℤ z
limit_in x y z h = omega (arith, ints)

limit_out : (x y : ℕ) (z : ℤ) → difference x y ≤ℤ z → x + down z ≤ y + up z
limit_out x y z h = omega (arith, ints)

-- two walks, one after the other
joined : {X : Type 0} {B : X → X → ℤ → Type 0} {x y z : X} {u v w : ℤ} → BoundWalk B x y u → BoundWalk B y z v → w ≡ u +ℤ v → BoundWalk B x z w
joined (one h) t s = more h t s
joined {v} {w} (more {u = u₁} {v = v₁} h t s) r q = more {w = w} h (joined {w = v₁ +ℤ v} t r refl) (omega (arith, ints))

-- no way through a third place is better, and no way back to the start is below 0
record Closed (n : ℕ) (D : Table) : Type 0 where
  through : (i j k : ℕ) (u v : ℤ) → i < n → j < n → k < n → D i j ≡ Some u → D j k ≡ Some v → (w : ℤ) × (D i k ≡ Some w) × (w ≤ℤ (u +ℤ v))
  back : (i : ℕ) (w : ℤ) → i < n → D i i ≡ Some w → pos 0 ≤ℤ w

-- the least sums of all walks are a closed table
least_closed : (n : ℕ) (A D : Table) → ShortestWalks n A D → Closed n D
least_closed n A D closes = record {
  through = λ i j k u v hi hj hk p q. (closes.entries i k hi hk).least (u +ℤ v) (joined ((closes.entries i j hi hj).walked u p) ((closes.entries j k hj hk).walked v q) refl);
  back = λ i w hi e. by_lt_z w (pos 0) (λ neg. absurd (closes.no_bad_cycle (record { place = i; sum = w; walk = (closes.entries i i hi hi).walked w e; below = neg }))) (λ h. h);
}

-- what keeps a table keeps its closed one, and the other way round
pub closed_kept : (n : ℕ) (A D : Table) → ShortestWalks n A D → (x : ℕ → ℕ) → Keeps (Entry n A) x → Keeps (Entry n D) x
closed_kept n A D closes x keeps i j w (hi, hj, e) = walk_limits x keeps ((closes.entries i j hi hj).walked w e)

pub kept_closed : (n : ℕ) (A D : Table) → ShortestWalks n A D → (x : ℕ → ℕ) → Keeps (Entry n D) x → Keeps (Entry n A) x
kept_closed n A D closes x keeps i j w (hi, hj, e) =
    let b = (closes.entries i j hi hj).least w (one (hi, hj, e)) in
    let v : ℤ = b.0 in
    let h : difference (x j) (x i) ≤ℤ v = keeps i j v (hi, hj, b.1) in
    let l : v ≤ℤ w = b.2 in
    omega (arith, ints)

-- a place that is at most 0 ticks from itself is 0 ticks from itself where there is no bad cycle
pub own_closed : (n : ℕ) (A D : Table) → ShortestWalks n A D → Own n A → (i : ℕ) → i < n → D i i ≡ Some (pos 0)
own_closed n A D closes own i hi =
    let o = own i hi in
    let b = (closes.entries i i hi hi).least o.0 (one (hi, hi, o.1)) in
    let u : ℤ = o.0 in
    let v : ℤ = b.0 in
    let most : u ≤ℤ pos 0 = o.2 in
    let l : v ≤ℤ u = b.2 in
    let h : pos 0 ≤ℤ v = (least_closed n A D closes).back i v hi b.1 in
    let z : v ≡ pos 0 = omega (arith, ints) in
    b.1 ∙ ap Some z

-- x less a weight, stopping at 0
abbrev less : ℕ → Option ℤ → ℕ
less x (Some z) = (x + down z) - up z
less x None = 0

-- the least dates that keep D and are at or after the dates a
abbrev raised : ℕ → Table → (ℕ → ℕ) → ℕ → ℕ
raised n D a k = max (a k) (top n (λ m. less (a m) (D k m)))

module _ (n : ℕ) (D : Table) where
  -- at least what another place asks for
  raised_from : (a : ℕ → ℕ) (m k : ℕ) (z : ℤ) → m < n → D k m ≡ Some z → a m + down z ≤ raised n D a k + up z
  raised_from a m k z hm e =
      let f : less (a m) (D k m) ≤ top n (λ j. less (a j) (D k j)) = top_above n (λ j. less (a j) (D k j)) m hm in
      let g : less (a m) (Some z) ≤ top n (λ j. less (a j) (D k j)) = subst (λ (b : Option ℤ). less (a m) b ≤ top n (λ j. less (a j) (D k j))) e f in
      omega arith

  raised_keeps : Closed n D → (a : ℕ → ℕ) → Keeps (Entry n D) (raised n D a)
  raised_keeps closed a k l z (hk, hl, e) =
      let own : a l + down z ≤ raised n D a k + up z = raised_from a l k z hl e in
      let others : top n (λ m. less (a m) (D l m)) + down z ≤ raised n D a k + up z =
      top_least n (λ m. less (a m) (D l m)) (down z) (raised n D a k + up z) (omega arith) (λ m hm. each m hm (D l m) refl) in
      limit_in (raised n D a l) (raised n D a k) z (omega arith)
    where
      each : (m : ℕ) → m < n → (b : Option ℤ) → D l m ≡ b → less (a m) b + down z ≤ raised n D a k + up z
      each m hm None q = omega (arith, raised_from a l k z hl e)
      each m hm (Some u) q =
          let t = closed.through k l m z u hk hl hm e q in
          let r : a m + down t.0 ≤ raised n D a k + up t.0 = raised_from a m k t.0 hm t.1 in
          let s : t.0 ≤ℤ (z +ℤ u) = t.2 in
          let own : a l + down z ≤ raised n D a k + up z = raised_from a l k z hl e in
          omega (arith, ints)

  -- no dates that keep the table and are at or after a are before them
  raised_least : (a x : ℕ → ℕ) (k : ℕ) → k < n → a k ≤ x k → ((m : ℕ) (u : ℤ) → m < n → D k m ≡ Some u → a m + down u ≤ x k + up u) → raised n D a k ≤ x k
  raised_least a x k hk own above =
      let others : top n (λ m. less (a m) (D k m)) + 0 ≤ x k = top_least n (λ m. less (a m) (D k m)) 0 (x k) (omega arith) (λ m hm. each m hm (D k m) refl) in
      omega arith
    where
      each : (m : ℕ) → m < n → (b : Option ℤ) → D k m ≡ b → less (a m) b + 0 ≤ x k
      each m hm None q = omega arith
      each m hm (Some u) q = omega (arith, above m u hm q)

-- there are dates that keep a closed table, the earliest of all
pub solvable : (n : ℕ) (A D : Table) → ShortestWalks n A D → (x : ℕ → ℕ) × Keeps (Entry n A) x × ((z : ℕ → ℕ) → Keeps (Entry n A) z → (k : ℕ) → k < n → x k ≤ z k)
solvable n A D closes = (
  raised n D (λ k. 0),
  kept_closed n A D closes (raised n D (λ k. 0)) (raised_keeps n D (least_closed n A D closes) (λ k. 0)),
  λ z keeps k hk. raised_least n D (λ j. 0) z k hk (omega arith)
      (λ m u hm e. omega (arith, limit_out (z m) (z k) u (closed_kept n A D closes z keeps k m u (hk, hm, e)))),
)

-- how far below 0 a weight is
abbrev depth : Option ℤ → ℕ
depth (Some z) = down z
depth None = 0

-- Dates y of the places that pass a test, which keep the entries between them, are dates of all places, moved by a constant
module _ (n : ℕ) (D : Table) (closed : Closed n D) (marked : ℕ → Bool) (y : ℕ → ℕ) (keeps : (i j : ℕ) (w : ℤ) → Entry n D i j w → marked i ≡ true → marked j ≡ true → difference (y j) (y i) ≤ℤ w) where
  far_enough : ℕ
  far_enough = top n (λ m. top n (λ k. depth (D k m)))

  start : ℕ → ℕ
  start m = cond (marked m) (y m + far_enough) 0

  deep : (m k : ℕ) (z : ℤ) → m < n → k < n → D k m ≡ Some z → down z ≤ far_enough
  unfolding far_enough
  deep m k z hm hk e =
      let h : top n (λ j. depth (D j m)) ≤ top n (λ i. top n (λ j. depth (D j i))) = top_above n (λ i. top n (λ j. depth (D j i))) m hm in
      let g : depth (D k m) ≤ top n (λ j. depth (D j m)) = top_above n (λ j. depth (D j m)) k hk in
      let f : depth (D k m) ≡ down z = ap depth e in
      omega arith

  started : (m : ℕ) → marked m ≡ true → start m ≡ y m + far_enough
  unfolding start
  started m e = rw e refl

  apart : (m : ℕ) → marked m ≡ false → start m ≡ 0
  unfolding start
  apart m e = rw e refl

  extends : (k : ℕ) → k < n → marked k ≡ true → raised n D start k ≡ y k + far_enough
  extends k hk t =
      let s : start k ≡ y k + far_enough = started k t in
      let others : top n (λ m. less (start m) (D k m)) + 0 ≤ y k + far_enough = top_least n (λ m. less (start m) (D k m)) 0 (y k + far_enough) (omega arith) (λ m hm. each m hm (D k m) refl (marked m) refl) in
      omega arith
    where
      each : (m : ℕ) → m < n → (b : Option ℤ) → D k m ≡ b → (v : Bool) → marked m ≡ v → less (start m) b + 0 ≤ y k + far_enough
      each m hm None q v p = omega arith
      each m hm (Some z) q true p =
          let h : y m + down z ≤ y k + up z = limit_out (y m) (y k) z (keeps k m z (hk, hm, q) t p) in
          omega (arith, started m p)
      each m hm (Some z) q false p = omega (arith, apart m p, deep m k z hm hk q)

  extension : (x : ℕ → ℕ) × (m : ℕ) × Keeps (Entry n D) x × ((k : ℕ) → k < n → marked k ≡ true → x k ≡ y k + m)
  extension = (raised n D start, far_enough, raised_keeps n D closed start, extends)

pub extended : (n : ℕ) (A D : Table) → ShortestWalks n A D → (marked : ℕ → Bool) (y : ℕ → ℕ) → ((i j : ℕ) (w : ℤ) → Entry n D i j w → marked i ≡ true → marked j ≡ true → difference (y j) (y i) ≤ℤ w) → (x : ℕ → ℕ) × (m : ℕ) × Keeps (Entry n A) x × ((k : ℕ) → k < n → marked k ≡ true → x k ≡ y k + m)
extended n A D closes marked y keeps =
    let r = extension n D (least_closed n A D closes) marked y keeps in
    (r.0, r.1, kept_closed n A D closes r.0 r.2, r.3)

-- Each entry between two places is attained
module _ (n : ℕ) (D : Table) (closed : Closed n D) (i j : ℕ) (z : ℤ) (hi : i < n) (hj : j < n) (e : D i j ≡ Some z) (differ : ¬ (i ≡ j)) where
  data Mark (k : ℕ) : Type 0 where
    is_i : k ≡ i → Mark k
    is_j : k ≡ j → Mark k
    is_not : ¬ (k ≡ i) → ¬ (k ≡ j) → Mark k

  mark : (k : ℕ) → Mark k
  mark k = elim (ℕ_discrete k i) [ yes p ↦ is_i p | no p ↦ elim (ℕ_discrete k j) [ yes q ↦ is_j q | no q ↦ is_not p q ] ]

  marked₂ : (k : ℕ) → Mark k → Bool
  marked₂ k (is_i p) = true
  marked₂ k (is_j p) = true
  marked₂ k (is_not p q) = false

  date : (k : ℕ) → Mark k → ℕ
  date k (is_i p) = down z
  date k (is_j p) = up z
  date k (is_not p q) = 0

  fits : (a b : ℕ) (w : ℤ) → Entry n D a b w → (u : Mark a) (v : Mark b) → marked₂ a u ≡ true → marked₂ b v ≡ true → difference (date b v) (date a u) ≤ℤ w
  unfolding marked₂ date
  fits a b w (ha, hb, q) (is_i p) (is_i p') s t = limit_in (down z) (down z) w (omega (arith, ints, closed.back i w hi (rw (p, p') at q)))
  fits a b w (ha, hb, q) (is_i p) (is_j p') s t =
      let q' : D i j ≡ Some w = rw (p, p') at q in
      let same : z ≡ w = cc in
      limit_in (up z) (down z) w (omega (arith, ints))
  fits a b w (ha, hb, q) (is_j p) (is_i p') s t =
      let q' : D j i ≡ Some w = rw (p, p') at q in
      let round = closed.through i j i z w hi hj hi e q' in
      let over : round.0 ≤ℤ (z +ℤ w) = round.2 in
      let good : pos 0 ≤ℤ round.0 = closed.back i round.0 hi round.1 in
      limit_in (down z) (up z) w (omega (arith, ints))
  fits a b w (ha, hb, q) (is_j p) (is_j p') s t = limit_in (up z) (up z) w (omega (arith, ints, closed.back j w hj (rw (p, p') at q)))
  fits a b w h (is_not p r) v s t = absurd (false≢true s)
  fits a b w h (is_i p) (is_not p' r') s t = absurd (false≢true t)
  fits a b w h (is_j p) (is_not p' r') s t = absurd (false≢true t)

  at_i : (m : Mark i) → (marked₂ i m ≡ true) × (date i m ≡ down z)
  unfolding marked₂ date
  at_i (is_i p) = (refl, refl)
  at_i (is_j p) = absurd (differ p)
  at_i (is_not p q) = absurd (p refl)

  at_j : (m : Mark j) → (marked₂ j m ≡ true) × (date j m ≡ up z)
  unfolding marked₂ date
  at_j (is_i p) = absurd (differ (sym p))
  at_j (is_j p) = (refl, refl)
  at_j (is_not p q) = absurd (q refl)

  reached : (x : ℕ → ℕ) × Keeps (Entry n D) x × (difference (x j) (x i) ≡ z)
  reached =
      let ext = extension n D closed (λ k. marked₂ k (mark k)) (λ k. date k (mark k)) (λ a b w h s t. fits a b w h (mark a) (mark b) s t) in
      let mi = at_i (mark i) in
      let mj = at_j (mark j) in
      let x : ℕ → ℕ = ext.0 in
      let xi : x i ≡ date i (mark i) + ext.1 = ext.3 i hi mi.0 in
      let xj : x j ≡ date j (mark j) + ext.1 = ext.3 j hj mj.0 in
      (x, ext.2, omega (arith, ints))

pub attained : (n : ℕ) (A D : Table) → ShortestWalks n A D → (i j : ℕ) (w : ℤ) → Entry n D i j w → ¬ (i ≡ j) → (x : ℕ → ℕ) × Keeps (Entry n A) x × (difference (x j) (x i) ≡ w)
attained n A D closes i j w (hi, hj, e) differ =
    let r = reached n D (least_closed n A D closes) i j w hi hj e differ in
    (r.0, kept_closed n A D closes r.0 r.1, r.2)

-- Where an entry is none, nothing limits the difference
pick : {k j : ℕ} → Dec (k ≡ j) → ℕ → ℕ → ℕ
pick (yes p) u v = u
pick (no p) u v = v

pick_yes : {k j : ℕ} (c : Dec (k ≡ j)) (u v : ℕ) → k ≡ j → pick c u v ≡ u
unfolding pick
pick_yes (yes p) u v h = refl
pick_yes (no p) u v h = absurd (p h)

pick_no : {k j : ℕ} (c : Dec (k ≡ j)) (u v : ℕ) → ¬ (k ≡ j) → pick c u v ≡ v
unfolding pick
pick_no (yes p) u v h = absurd (h p)
pick_no (no p) u v h = refl

pub unlimited : (n : ℕ) (A D : Table) → ShortestWalks n A D → (i j : ℕ) → i < n → j < n → ¬ (i ≡ j) → D i j ≡ None → (t : ℕ) → (x : ℕ → ℕ) × Keeps (Entry n A) x × (x i + t ≤ x j)
unlimited n A D closes i j hi hj differ none t =
    let top_j : a j ≡ x₀ i + t = pick_yes (ℕ_discrete j j) (x₀ i + t) (x₀ j) refl in
    let at_i : a i ≡ x₀ i = pick_no (ℕ_discrete i j) (x₀ i + t) (x₀ i) differ in
    let low : raised n D a i ≤ x₀ i = raised_least n D a x₀ i hi (omega arith) above in
    (raised n D a, kept_closed n A D closes (raised n D a) (raised_keeps n D (least_closed n A D closes) a), omega arith)
  where
    x₀ : ℕ → ℕ
    x₀ = raised n D (λ k. 0)

    a : ℕ → ℕ
    a k = pick (ℕ_discrete k j) (x₀ i + t) (x₀ k)

    above : (m : ℕ) (u : ℤ) → m < n → D i m ≡ Some u → a m + down u ≤ x₀ i + up u
    above m u hm e = elim (ℕ_discrete m j) [
      | yes p ↦ let q : D i j ≡ Some u = subst (λ (k : ℕ). D i k ≡ Some u) p e in let z : ◌≡◌ {A = ℕ} 0 1 = cc in absurd (omega arith)
      | no p ↦ omega (arith, pick_no (ℕ_discrete m j) (x₀ i + t) (x₀ m) p, limit_out (x₀ m) (x₀ i) u (raised_keeps n D (least_closed n A D closes) (λ k. 0) i m u (hi, hm, e)))
    ]
