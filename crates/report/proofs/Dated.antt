-- The dates of a line, one after another.
use Rattle.std.proofs.Common.{◌≡◌, ℕ, ◌+◌, ◌<◌, ◌≤◌, List, [], ◌∷◌, ◌++◌, length, get_or, take, drop, sym, refl, ap, ◌∙◌, append_assoc, arith, length-append}
use Rattle.std.proofs.lemmas.List.{append-nil, take-append-drop, take_more}
use Rattle.report.specs.Reports.{spaced, dates_text}

dates_append : (a b : List ℕ) → dates_text (a ++ b) ≡ dates_text a ++ dates_text b
dates_append [] b = refl
dates_append (x ∷ a) b = ap (λ (l : List ℕ). spaced x ++ l) (dates_append a b) ∙ sym (append_assoc (spaced x) (dates_text a) (dates_text b))

module _ (ds : List ℕ) (i : ℕ) (h : i < length ds) where
  pub dates_more : dates_text (take (i + 1) ds) ≡ dates_text (take i ds) ++ spaced (get_or ds i 0)
  dates_more =
      ap dates_text (take_more ds i 0 h) ∙ dates_append (take i ds) (get_or ds i 0 ∷ [])
      ∙ ap (λ (l : List ℕ). dates_text (take i ds) ++ l) (append-nil (spaced (get_or ds i 0)))

  -- there is room for the next date where there is room for all
  pub next_fits : length (dates_text (take i ds)) + length (spaced (get_or ds i 0)) ≤ length (dates_text ds)
  next_fits =
      let all = ap length (ap dates_text (sym (take-append-drop (i + 1) ds)) ∙ dates_append (take (i + 1) ds) (drop (i + 1) ds)) in
      omega (
        arith,
        all,
        ap length dates_more,
        length-append (dates_text (take i ds)) (spaced (get_or ds i 0)),
        length-append (dates_text (take (i + 1) ds)) (dates_text (drop (i + 1) ds)),
      )
