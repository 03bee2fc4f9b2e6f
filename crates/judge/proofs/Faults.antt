-- The positions of a list of links, up to the first that is at fault.
use Rattle.std.proofs.Common.{◌≡◌, ℕ, ◌+◌, ◌<◌, ◌≤◌, List, length, get_or, IsErrAnd, Ok, Err, Result, sym, ap, ◌∙◌, add-one, arith, below_more}
use Rattle.bookformat.specs.declared.fault.Fault.{Fault}
use Rattle.bookformat.specs.declared.fault.Fault.TheVariants.{WrongDateCount}
use Rattle.bookformat.specs.Values.{BookValue}
use Rattle.chartbook.specs.Reads.{Refused}
use Rattle.paths.specs.Paths.{link, Leaves, chart_number}
use Rattle.paths.specs.Listing.{events_of}
use Rattle.routes.specs.Stops.{StandsAt}
use Rattle.judge.specs.declared.judgement.Judgement.{Judgement}
use Rattle.judge.specs.Judging.{AtFault, bad_link, too_many, FirstAtFault, GoodPath, Judged, bad_path, wrong_count, Judges, bad_book}
use Rattle.judge.specs.Walking.{PathChecked, fault, fine}

module _ (b : BookValue) (path : List ℕ) (k at : ℕ) (stands : StandsAt b path k at) (few : k ≤ 4095) where
  none_before : (j : ℕ) → j < k → AtFault b path j → ⊥
  none_before j h (bad_link l n) = let leaves = stands.goes_on j h in n (record { exists = leaves.0; begins = leaves.1 })
  none_before j h (too_many e l) = omega (arith, few)

  pub link_fails : k < length path → (Leaves b at (get_or path k 0) → ⊥) → FirstAtFault b path k
  link_fails h n = record { at_fault = bad_link h (λ g. n (g.exists, g.begins ∙ sym stands.chart)); smallest = none_before }

  pub count_fails : k < length path → k ≡ 4095 → FirstAtFault b path k
  count_fails h e = record { at_fault = too_many e (omega arith); smallest = none_before }

  pub all_go_on : length path ≤ k → GoodPath b path
  all_go_on h = record {
    is_path = record { exists = λ j l. (stands.goes_on j (omega arith)).0; begins = λ j l. (stands.goes_on j (omega arith)).1 };
    length_most = omega (arith, few);
  }

-- the link at position k leads on
pub goes_further : (b : BookValue) (path : List ℕ) (k at n to : ℕ) → StandsAt b path k at → n ≡ get_or path k 0 → Leaves b at n → to ≡ (link b n).to → StandsAt b path (k + 1) to
goes_further b path k at n to stands is leaves leads = record {
  chart = leads ∙ ap (λ m. (link b m).to) is ∙ ap (chart_number b path) (sym (add-one k));
  goes_on = below_more _ k stands.goes_on (omega (arith, is, leaves.0), ap (λ m. (link b m).from) (sym is) ∙ leaves.1 ∙ stands.chart);
}

-- an exit hands a fault on
handed : (r : Result Judgement Fault) (f : Fault) → IsErrAnd r (λ e. e ≡ f) → r ≡ Err f
handed (Ok x) f by = absurd by
handed (Err e) f by = ap Err by

pub book_refused : (bytes path dates : List ℕ) (f : Fault) (r : Result Judgement Fault) → IsErrAnd r (λ e. e ≡ f) → Refused bytes f → Judges bytes path dates r
book_refused bytes path dates f r by refused = bad_book f refused (handed r f by)

pub path_refused : {X : Type 0} (b : BookValue) (path dates : List ℕ) (f : Fault) (r : Result Judgement Fault) → IsErrAnd r (λ e. e ≡ f) → PathChecked b path {X = X} (Err f) → Judged b path dates r
path_refused b path dates f r by (fault k first e) = let is = handed r f by in bad_path k first (cc)
path_refused b path dates f r by (fine x good e) = let z : ◌≡◌ {A = ℕ} 0 1 = cc in absurd (omega arith)

pub count_refused : (b : BookValue) (path dates : List ℕ) (f : Fault) (r : Result Judgement Fault) → GoodPath b path → IsErrAnd r (λ e. e ≡ f) → (length dates ≡ events_of b path → ⊥) × (f ≡ WrongDateCount (events_of b path)) → Judged b path dates r
count_refused b path dates f r good by (wrong, is) = wrong_count good wrong (handed r f by ∙ ap Err is)

-- no refusal: there is a path
pub path_fine : {X : Type 0} (b : BookValue) (path : List ℕ) (x : X) → PathChecked b path {X = X} (Ok x) → GoodPath b path
path_fine b path x (fault k first e) = let z : ◌≡◌ {A = ℕ} 0 1 = cc in absurd (omega arith)
path_fine b path x (fine y good e) = good
