-- Up the chain of rows by which a path came.
use Rattle.std.proofs.Common.{◌≡◌, ℕ, suc, ◌+◌, ◌-◌, ◌<◌, ◌≤◌, List, [], ◌∷◌, ◌++◌, length, get_or, take, drop, reverse, Some, None, Option, sym, refl, ap, ◌∙◌, subst, arith, length-append, length-take-le, take_all, drop-cons, get_or-take, take-take}
use native.Mathlib.Decide.{dec_lt}
use Rattle.std.proofs.lemmas.List.{drop_all, reverse-append}
use Rattle.bookformat.specs.Values.{BookValue}
use Rattle.register.specs.declared.row.Origin.{Origin}
use Rattle.register.specs.declared.row.Row.{Row}
use Rattle.register.specs.Meaning.{row_at}
use Rattle.search.specs.Rows.{at}
use Rattle.search.specs.Rows as walk
use Rattle.search.proofs.Told.{trail_law}
use Rattle.classes.specs.Ranged.{ranged}
use Rattle.history.specs.Views.{origin_of, rows_of}
use Rattle.history.specs.Meanings.{TrailTo}
use Rattle.history.proofs.Seen.{length_rows_of, at_rows_of}
use Rattle.examination.specs.Chains.{ClimbsTo, LinksTo}

origin_read : (o : Option Origin) (p l : ℕ) → origin_of o ≡ Some (record { row = p; link = l }) → (x : Origin) × (o ≡ Some x) × (x.row ≡ p) × (x.link ≡ l)
origin_read None p l e = let z : ◌≡◌ {A = ℕ} 0 1 = cc in absurd (omega arith)
origin_read (Some x) p l e =
    let same : ◌≡◌ {A = walk.Origin} (record { row = x.row; link = x.link }) (record { row = p; link = l }) = cc in
    (x, refl, ap (λ (y : walk.Origin). y.row) same, ap (λ (y : walk.Origin). y.link) same)

module _ (b : BookValue) (rows : List Row) where
  -- a path with a link came from the row that the origin names, by its last link
  pub up : (k n : ℕ) (path : List ℕ) → TrailTo b rows k path → length path ≡ suc n → (x : Origin) × ((row_at rows k).origin ≡ Some x) × (x.link ≡ get_or path n 0) × TrailTo b rows x.row (take n path)
  up k n path t e =
      let u = (trail_law (ranged b)).up (rows_of b rows) k n path t e in
      let o = origin_read (row_at rows k).origin u.0 (get_or path n 0) (sym (ap (λ r. r.origin) (at_rows_of b rows k)) ∙ u.1) in
      (o.0, o.1, o.3, subst (λ (q : ℕ). TrailTo b rows q (take n path)) (sym o.2) u.3)

  -- one without links came from nowhere
  pub top : (k : ℕ) (path : List ℕ) → TrailTo b rows k path → length path ≡ 0 → (row_at rows k).origin ≡ None
  top k path t e = none (row_at rows k).origin (sym (ap (λ r. r.origin) (at_rows_of b rows k)) ∙ ((trail_law (ranged b)).top (rows_of b rows) k path t e).1)
    where
      none : (o : Option Origin) → origin_of o ≡ None → o ≡ None
      none None z = refl
      none (Some x) z = let w : ◌≡◌ {A = ℕ} 0 1 = cc in absurd (omega arith)

  pub below : (k : ℕ) (path : List ℕ) → TrailTo b rows k path → (k < length rows) × (length path ≤ k)
  below k path t = let h = (trail_law (ranged b)).below (rows_of b rows) k path t in (subst (λ (n : ℕ). k < n) (length_rows_of b rows) h.0, h.1)

-- So many levels up from row k

pub climbs_none : (rows : List Row) (k : ℕ) → ClimbsTo rows k 0 k
climbs_none rows k b path t h = subst (TrailTo b rows k) (sym (take_all (length path - 0) path (omega arith))) t

module _ (rows : List Row) (k n at : ℕ) (o : Option Origin) (is : o ≡ (row_at rows at).origin) (climbs : ClimbsTo rows k n at) where
  -- what is left of the path there, if it goes on
  rest : (b : BookValue) (path : List ℕ) → TrailTo b rows k path → (m : ℕ) → length path - n ≡ suc m → (x : Origin) × ((row_at rows at).origin ≡ Some x) × (x.link ≡ get_or path m 0) × TrailTo b rows x.row (take m path)
  rest b path t m e =
      let whole : length (take (length path - n) path) ≡ suc m = length-take-le (length path - n) path (omega arith) ∙ e in
      let u = up b rows at m (take (length path - n) path) (climbs b path t (omega arith)) whole in
      (u.0, u.1, u.2 ∙ get_or-take (length path - n) path m 0 (omega arith), subst (TrailTo b rows u.0.row) (take-take m (length path - n) path (omega arith)) u.3)

  pub climbs_stop : o ≡ None → (b : BookValue) (path : List ℕ) → TrailTo b rows k path → n ≤ length path → length path ≡ n
  climbs_stop e b path t h = elim (dec_lt n (length path)) [
    | yes lt ↦
        let r = rest b path t (length path - n - 1) (omega arith) in
        let z : ◌≡◌ {A = Option Origin} None (Some r.0) = sym e ∙ is ∙ r.1 in
        let w : ◌≡◌ {A = ℕ} 0 1 = cc in
        absurd (omega arith)
    | no ge ↦ omega arith
  ]

  module _ (x : Origin) (some : o ≡ Some x) where
    same : (b : BookValue) (path : List ℕ) (t : TrailTo b rows k path) (m : ℕ) (e : length path - n ≡ suc m) → (rest b path t m e).0 ≡ x
    same b path t m e = let z : ◌≡◌ {A = Option Origin} (Some (rest b path t m e).0) (Some x) = sym (rest b path t m e).1 ∙ sym is ∙ some in cc

    pub climbs_more : ClimbsTo rows k (n + 1) x.row
    climbs_more b path t h =
        let m = length path - (n + 1) in
        let e : length path - n ≡ suc (length path - (n + 1)) = omega arith in
        subst (λ (y : Origin). TrailTo b rows y.row (take m path)) (same b path t m e) (rest b path t m e).3

    pub climbs_link : (b : BookValue) (path : List ℕ) → TrailTo b rows k path → n + 1 ≤ length path → x.link ≡ get_or path (length path - (n + 1)) 0
    climbs_link b path t h =
        let m = length path - (n + 1) in
        let e : length path - n ≡ suc (length path - (n + 1)) = omega arith in
        ap (λ (y : Origin). y.link) (sym (same b path t m e)) ∙ (rest b path t m e).2

    pub climbs_further : (b : BookValue) (path : List ℕ) → TrailTo b rows k path → n ≤ length path → n + 1 ≤ length path
    climbs_further b path t h = elim (dec_lt n (length path)) [
      | yes lt ↦ omega arith
      | no ge ↦
          let empty : length (take (length path - n) path) ≡ 0 = length-take-le (length path - n) path (omega arith) ∙ omega arith in
          let z : ◌≡◌ {A = Option Origin} (Some x) None = sym some ∙ is ∙ top b rows at (take (length path - n) path) (climbs b path t h) empty in
          let w : ◌≡◌ {A = ℕ} 0 1 = cc in
          absurd (omega arith)
    ]

-- as far as a path has links
abbrev pub Within : List Row → ℕ → ℕ → Type 0
Within rows k n = (b : BookValue) (path : List ℕ) → TrailTo b rows k path → n ≤ length path

-- the last links of the path, the last one first
pub record Gathered (rows : List Row) (k : ℕ) (links : List ℕ) : Type 0 where
  pub within : Within rows k (length links)
  pub are : (b : BookValue) (path : List ℕ) → TrailTo b rows k path → reverse links ≡ drop (length path - length links) path

-- above the top nothing is said
pub climbs_stays : (rows : List Row) (k n at : ℕ) (o : Option Origin) → o ≡ (row_at rows at).origin → ClimbsTo rows k n at → o ≡ None → ClimbsTo rows k (n + 1) at
climbs_stays rows k n at o is climbs none b path t h = let e = climbs_stop rows k n at o is climbs none b path t (omega arith) in absurd (omega arith)

pub gathered_none : (rows : List Row) (k : ℕ) (links : List ℕ) → links ≡ [] → Gathered rows k links
gathered_none rows k links e = record {
  within = λ b path t. omega (arith, ap length e);
  are = λ b path t. ap reverse e ∙ sym (drop_all (length path - length links) path (omega (arith, ap length e)));
}

drop_path : (path : List ℕ) (n m : ℕ) → n + 1 ≤ length path → m ≡ length path - (n + 1) → drop m path ≡ get_or path m 0 ∷ drop (length path - n) path
drop_path path n m h e =
    let next : suc m ≡ length path - n = omega arith in
    drop-cons path m 0 (omega arith) ∙ ap (λ (j : ℕ). get_or path m 0 ∷ drop j path) next

module _ (rows : List Row) (k at : ℕ) (o : Option Origin) (links : List ℕ) (is : o ≡ (row_at rows at).origin) (climbs : ClimbsTo rows k (length links) at) (gathered : Gathered rows k links) where
  pub gathered_more : (x : Origin) (more : List ℕ) → o ≡ Some x → more ≡ links ++ x.link ∷ [] → Gathered rows k more
  gathered_more x more some pushed = record {
    within = λ b path t. let h = further b path t in omega (arith, longer);
    are = λ b path t.
        let h = further b path t in
        let m = length path - length more in
        let here : x.link ≡ get_or path m 0 = climbs_link rows k (length links) at o is climbs x some b path t h ∙ ap (λ (j : ℕ). get_or path j 0) (omega (arith, longer)) in
        ap reverse pushed ∙ reverse-append links (x.link ∷ [])
        ∙ ap (λ (l : List ℕ). x.link ∷ l) (gathered.are b path t)
        ∙ ap (λ (j : ℕ). j ∷ drop (length path - length links) path) here
        ∙ sym (drop_path path (length links) m h (omega (arith, longer)));
  }
    where
      longer : length more ≡ length links + 1
      longer = ap length pushed ∙ length-append links (x.link ∷ [])

      further : (b : BookValue) (path : List ℕ) → TrailTo b rows k path → length links + 1 ≤ length path
      further b path t = climbs_further rows k (length links) at o is climbs x some b path t (gathered.within b path t)

  pub gathered_top : o ≡ None → LinksTo rows k (reverse links)
  gathered_top none b path t =
      let e = climbs_stop rows k (length links) at o is climbs none b path t (gathered.within b path t) in
      let all : length path - length links ≡ 0 = omega arith in
      gathered.are b path t ∙ ap (λ (j : ℕ). drop j path) all

-- so many links: no path through so many rows has more
pub gathered_whole : (rows : List Row) (k : ℕ) (links : List ℕ) → Gathered rows k links → 4095 ≤ length links → length rows ≤ 4096 → LinksTo rows k (reverse links)
gathered_whole rows k links gathered many few b path t =
    let within = gathered.within b path t in
    let most = below b rows k path t in
    let all : length path - length links ≡ 0 = omega arith in
    gathered.are b path t ∙ ap (λ (j : ℕ). drop j path) all
