-- A list of calls that is carried out from its front on.
use Rattle.std.proofs.Common.{◌≡◌, ℕ, zero, suc, ◌+◌, ◌-◌, ◌<◌, ◌≤◌, List, [], ◌∷◌, ◌++◌, length, get_or, take, drop, set, sym, refl, ap, ◌∙◌, subst, ap₂, add-one, arith, length-drop, take-append-drop, length-take-le, take_all, drop-drop, take-suc-set, drop-set-lt, take-add}
use Rattle.std.proofs.lemmas.List.{take_more}
use Rattle.history.specs.declared.phase.Phase.TheVariants.{Idle}
use Rattle.history.specs.declared.calls.Call.{Call}
use Rattle.history.specs.declared.calls.Answer.{Answer}
use Rattle.history.specs.Views.{View}
use Rattle.history.specs.Histories.{Did, History, space, spaces, Answers, Reaches, fresh, next, calls_of, answers_of, lent_of, left_of}
use Rattle.history.specs.Laws.{Conducted}
use Rattle.history.proofs.Lawful.{history_law}
use Rattle.history.proofs.Only.{only_law}
use Rattle.examination.specs.Conduct.{Performed}

-- Spaces

spaces_append : (xs ys : List Call) → spaces (xs ++ ys) ≡ spaces xs + spaces ys
spaces_append [] ys = omega arith
spaces_append (x ∷ xs) ys = let e = spaces_append xs ys in omega arith

pub spaces_more : (calls : List Call) (i : ℕ) (d : Call) → i < length calls → spaces (take (i + 1) calls) ≡ spaces (take i calls) + space (get_or calls i d)
spaces_more calls i d h = ap spaces (take_more calls i d h) ∙ spaces_append (take i calls) (get_or calls i d ∷ []) ∙ omega arith

pub spaces_part : (calls : List Call) (n : ℕ) → spaces (take n calls) ≤ spaces calls
spaces_part [] zero = omega arith
spaces_part [] (suc n) = omega arith
spaces_part (c ∷ calls) zero = omega arith
spaces_part (c ∷ calls) (suc n) = let h = spaces_part calls n in omega arith

-- What was done with the first calls

pub record Told (capacity : ℕ) (calls : List Call) (before : List Answer) (lent : List ℕ) (i start : ℕ) (answers : List Answer) (dates : List ℕ) (v : View) : Type 0 where
  pub history : History
  pub asked : calls_of history ≡ take i calls
  pub answered : answers_of history ≡ take i answers
  pub beyond : drop i answers ≡ drop i before
  pub from : start ≡ spaces (take i calls)
  pub lent_is : lent_of history ≡ take start lent
  pub left_is : left_of history ≡ take start dates
  pub rest : drop start dates ≡ drop start lent
  pub reaches : Reaches capacity history v

pub told_none : (capacity : ℕ) (calls : List Call) (answers : List Answer) (dates : List ℕ) (v : View) → v.phase ≡ Idle → Told capacity calls answers dates 0 0 answers dates v
told_none capacity calls answers dates v e = record { history = []; asked = refl; answered = refl; beyond = refl; from = refl; lent_is = refl; left_is = refl; rest = refl; reaches = fresh refl e }

-- lists that agree behind a place agree behind a later one
later : {X : Type 0} (xs ys : List X) (n m : ℕ) → drop n xs ≡ drop n ys → drop (n + m) xs ≡ drop (n + m) ys
later xs ys n m e = sym (drop-drop m n xs) ∙ ap (drop m) e ∙ drop-drop m n ys

module _ (capacity : ℕ) (calls : List Call) (before : List Answer) (lent : List ℕ) (i start : ℕ) (answers : List Answer) (dates : List ℕ) (v : View) (told : Told capacity calls before lent i start answers dates v)
    (z : Call) (n : ℕ) (asks : n ≡ space (get_or calls i z)) (more : i < length calls) where
  -- the space behind reaches so far
  pub told_end : start + n ≤ spaces calls
  told_end = let e = spaces_more calls i z more in let h = spaces_part calls (i + 1) in omega (arith, told.from)

  pub told_more : (capacity' : ℕ) → capacity' ≡ capacity → i < length answers → start + n ≤ length dates → (a : Answer) (left : List ℕ) (w : View) → Performed capacity' v (get_or calls i z) a start (start + n) dates left w → Told capacity calls before lent (i + 1) (start + n) (set answers i a) left w
  told_more capacity' same room inside a left w h = record {
    history = d ∷ told.history;
    asked = ap (λ (x : List Call). x ++ get_or calls i z ∷ []) told.asked ∙ sym (take_more calls i z more);
    answered = ap (λ (x : List Answer). x ++ a ∷ []) told.answered ∙ sym (take-suc-set answers i a room) ∙ ap (λ (j : ℕ). take j (set answers i a)) (sym (add-one i));
    beyond = drop-set-lt (i + 1) answers i a (omega arith) ∙ later answers before i 1 told.beyond;
    from = ap₂ ◌+◌ told.from asks ∙ sym (spaces_more calls i z more);
    lent_is = ap₂ (λ (x y : List ℕ). x ++ y) told.lent_is (ap₂ take whole told.rest) ∙ sym (take-add start n lent);
    left_is = ap (λ (x : List ℕ). x ++ h.part) told.left_is ∙ sym h.parted.front;
    rest = h.parted.behind ∙ later dates lent start n told.rest;
    reaches = next d told.history v refl told.reaches (record { lends = lent_long; answers = subst (λ (c : ℕ). Answers c v (get_or calls i z) a (take (start + n - start) (drop start dates)) h.part w) same h.answers });
  }
    where
      d : Did
      d = record { call = get_or calls i z; answer = a; lent = take (start + n - start) (drop start dates); left = h.part }

      whole : start + n - start ≡ n
      whole = omega arith

      lent_long : length (take (start + n - start) (drop start dates)) ≡ space (get_or calls i z)
      lent_long = length-take-le (start + n - start) (drop start dates) (omega (arith, length-drop start dates)) ∙ whole ∙ asks

-- All calls were carried out
pub told_all : (capacity : ℕ) (calls : List Call) (before : List Answer) (lent : List ℕ) (i start : ℕ) (answers : List Answer) (dates : List ℕ) (v : View) → length calls ≡ i → Told capacity calls before lent i start answers dates v → Conducted capacity calls (take (length calls) answers) lent dates v
told_all capacity calls before lent i start answers dates v e t = record {
  history = t.history;
  asked = t.asked ∙ take_all i calls (omega arith);
  answered = t.answered ∙ ap (λ (n : ℕ). take n answers) (sym e);
  rest = drop start lent;
  lent_is = ap (λ (x : List ℕ). x ++ drop start lent) t.lent_is ∙ take-append-drop start lent;
  left_is = ap₂ (λ (x y : List ℕ). x ++ y) t.left_is (sym t.rest) ∙ take-append-drop start dates;
  stands = t.reaches;
  lawful = history_law capacity t.history v t.reaches;
  only = only_law capacity t.history v t.reaches;
}

pub told_beyond : (capacity : ℕ) (calls : List Call) (before : List Answer) (lent : List ℕ) (i start : ℕ) (answers : List Answer) (dates : List ℕ) (v : View) → length calls ≡ i → Told capacity calls before lent i start answers dates v → drop (length calls) answers ≡ drop (length calls) before
told_beyond capacity calls before lent i start answers dates v e t = subst (λ (n : ℕ). drop n answers ≡ drop n before) (sym e) t.beyond
