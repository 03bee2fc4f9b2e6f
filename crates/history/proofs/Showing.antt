-- What the state of a walk tells of the book.
use Rattle.std.proofs.Common.{◌≡◌, ℕ, zero, suc, ◌*◌, ◌<◌, ◌≤◌, true, false, List, [], length, get_or, take, Ok, Err, Result, sym, refl, ap, ◌∙◌, subst, arith, length-take}
use Rattle.std.proofs.lemmas.List.{get_or-take}
use Rattle.bookformat.specs.declared.fault.Fault.{Fault}
use Rattle.bookformat.specs.Values.{BookValue}
use Rattle.bookformat.specs.Rules.{chart}
use Rattle.paths.specs.Paths.{link, chart_number, last_number}
use Rattle.paths.proofs.Classes.{one_class}
use Rattle.register.specs.declared.row.Class.{Class}
use Rattle.search.specs.Rows.{class_at}
use Rattle.search.specs.Walks.{IsOpen}
use Rattle.search.specs.Laws.{RunsAt, Different}
use Rattle.search.proofs.Told.{rows_law, pairs_law, empty_law, runs_law, spent_law}
use Rattle.classes.specs.Classes.{entry}
use Rattle.classes.specs.Ranged.{ranged}
use Rattle.history.specs.declared.phase.Phase.{Phase}
use Rattle.history.specs.declared.phase.Phase.TheVariants.{Runs, Empty, Spent}
use Rattle.history.specs.declared.calls.Verdict.{Verdict}
use Rattle.history.specs.declared.calls.Leg.{Leg}
use Rattle.history.specs.Views.{View, phase_of, rows_of, stage_of}
use Rattle.history.specs.Meanings.{TrailTo, ChartsIn, VerdictMeans, LegShown, LegIn, LegMeans, DatesShown, DatesIn, DatesMeans}
use Rattle.history.specs.Laws.{Runnable, LegOn, Crowd}
use Rattle.classes.proofs.Lawfully.{in_some_class}
use Rattle.history.proofs.Standing.{OnWalk, lawful_classes}

-- the beginning of a path ends where the path stands by then
pub part_ends : (b : BookValue) (path : List ℕ) (position : ℕ) → position ≤ length path → last_number b (take position path) ≡ chart_number b path position
part_ends b path zero h = refl
part_ends b path (suc j) h =
    let e : length (take (suc j) path) ≡ suc j = simp length-take (omega arith) in
    ap (chart_number b (take (suc j) path)) e ∙ ap (λ (x : ℕ). (link b x).to) (get_or-take (suc j) path j 0 (omega arith))

-- all that the calls show of a path
pub record Showing (v : View) (path : List ℕ) : Type 0 where
  pub runs : Runnable v.book path
  pub shortest : (other : List ℕ) → Runnable v.book other → length path ≤ length other
  pub charts : (told : Verdict) → VerdictMeans v told → told.charts ≡ suc (length path)
  pub legs : (position : ℕ) (r : Result Leg Fault) → LegMeans v position r → LegOn v.book path position r
  pub dates : (lent : List ℕ) (r : Result ℕ Fault) (left : List ℕ) → DatesMeans v lent r left → DatesShown v.book path lent r left

-- a datable final path is in a final class
in_final : (b : BookValue) (path : List ℕ) → Runnable b path → (s : Class) → (ranged b).In path s → (ranged b).final s ≡ true
in_final b path r s i = subst (λ (x : ℕ). (chart b x).final ≡ true) i.1.ends r.final

module _ (capacity : ℕ) (bytes : List ℕ) (made spent : ℕ) (v : View) (o : OnWalk capacity bytes made spent v) where
  pub told_empty : v.phase ≡ Empty → (path : List ℕ) → Runnable v.book path → ⊥
  told_empty e path r =
      let i = in_some_class v.book o.is_taken.good path r.is_path r.datable in
      let f : (ranged v.book).final i.0 ≡ false = empty_law (ranged v.book) (lawful_classes capacity bytes made spent v o) capacity made (stage_of v o.tried) o.walked (ap phase_of e) path i.0 i.1 in
      let z : true ≡ false = sym (in_final v.book path r i.0 i.1) ∙ f in
      let n : ◌≡◌ {A = ℕ} 0 1 = cc in
      omega arith

  pub told_open : IsOpen (phase_of v.phase) → spent < capacity * length v.book.links
  told_open p = subst (λ (x : ℕ). x < capacity * length v.book.links) (o.used p) ((pairs_law (ranged v.book) (lawful_classes capacity bytes made spent v o) capacity made (stage_of v o.tried) o.walked).unfinished p)

  pub told_spent : v.phase ≡ Spent → Crowd capacity v.book
  told_spent e =
      let c = (spent_law (ranged v.book) (lawful_classes capacity bytes made spent v o)).crowd capacity made (stage_of v o.tried) o.walked (ap phase_of e) in
      go c.0 c.1 c.2
    where
      go : (paths : List (List ℕ)) → Different (ranged v.book) paths → length paths ≡ suc capacity → Crowd capacity v.book
      go paths d many = record {
        paths = paths;
        many = many;
        are_paths = λ k h. (d.in_class k h).1.1.is_path;
        datable = λ k h. (d.in_class k h).1.1.datable;
        apart = λ i k lt h same.
            let c = d.in_class i (omega arith) in
            let its = (one_class v.book (get_or paths i []) (get_or paths k []) c.0.chart (entry c.0) c.1.1 (d.in_class k h).1.1.is_path).0 same in
            d.apart i k lt h c.0 c.1 (c.1.0, its);
      }

  -- the chain of a row ends at the row's chart
  trail_ends : (k : ℕ) (path : List ℕ) → TrailTo v.book v.rows k path → last_number v.book path ≡ (class_at (rows_of v.book v.rows) k).chart
  trail_ends k path t = ((rows_law (ranged v.book) (lawful_classes capacity bytes made spent v o) capacity made (stage_of v o.tried) o.walked).in_class k path t).1.ends

  leg_on : (path : List ℕ) (position : ℕ) (r : Result Leg Fault) → LegShown v.book v.rows path position r → LegOn v.book path position r
  leg_on path position (Ok leg) s = (s.on_path, s.chart ∙ sym (trail_ends s.row (take position path) s.trail) ∙ part_ends v.book path position s.on_path, s.link)
  leg_on path position (Err f) s = s

  pub told_runs : (k : ℕ) → v.phase ≡ Runs k → (path : List ℕ) × Showing v path
  told_runs k e = go (runs_law (ranged v.book) (lawful_classes capacity bytes made spent v o) capacity made k (stage_of v o.tried) o.walked (ap phase_of e))
    where
      go : RunsAt (ranged v.book) (rows_of v.book v.rows) k → (path : List ℕ) × Showing v path
      go r =
          let i = r.in_class.1 in
          let known : Runnable v.book r.path = record { is_path = i.is_path; final = subst (λ (x : ℕ). (chart v.book x).final ≡ true) (sym i.ends) r.final; datable = i.datable } in (
            r.path,
            record {
              runs = known;
              shortest = λ other p.
                  let c = in_some_class v.book o.is_taken.good other p.is_path p.datable in
                  r.shortest other c.0 c.1 (in_final v.book other p c.0 c.1);
              charts = λ told m. subst (λ (x : Phase). ChartsIn v.book v.rows x told.charts) e m.charts r.path r.trail;
              legs = λ position a m. leg_on r.path position a (subst (λ (x : Phase). LegIn v.book v.rows x position a) e m r.path r.trail);
              dates = λ lent a left m. subst (λ (x : Phase). DatesIn v.book v.rows x lent a left) e m.dates r.path r.trail known.is_path known.datable;
            },
          )
