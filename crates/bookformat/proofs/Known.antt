-- Whether a book is good can be read off its bytes, so a book that is merely known to be good is good.
use Rattle.std.proofs.Common.{◌≡◌, ℕ, Bool, true, false, ◌⊎◌, Some, None, Option, sym, refl, ◌∙◌, subst, inl, inr, arith}
use mathlib.Core.Logic.{∥∥₁_elim}
use mathlib.Core.HLevel.{⊥_prop}
use base.Stored.{Coded, Coded-set, coded_unit, coded_ℕ, coded_bool, coded×, coded⊎, coded_list, coded_via}
use Rattle.bookformat.specs.declared.fault.Fault.{Fault}
use Rattle.bookformat.specs.declared.value.Kind.{Kind}
use Rattle.bookformat.specs.declared.value.Kind.TheVariants.{Send, Receive}
use Rattle.bookformat.specs.declared.value.Event.{Event}
use Rattle.bookformat.specs.declared.value.Interval.{Interval}
use Rattle.bookformat.specs.declared.value.Constraint.{Constraint}
use Rattle.bookformat.specs.declared.value.Link.{Link}
use Rattle.bookformat.specs.Values.{ChartValue, BookValue}
use Rattle.bookformat.specs.declared.book.Book.{Book}
use Rattle.bookformat.specs.Books.{book_value}
use Rattle.bookformat.specs.Rules.{GoodBook}
use Rattle.bookformat.specs.Encoding.{encode}
use Rattle.bookformat.specs.Layout.{book_at}
use Rattle.bookformat.specs.Reading.{fault}
use Rattle.bookformat.proofs.Books.{book_passes}
use Rattle.bookformat.proofs.Taken.{good_book}
use Rattle.bookformat.proofs.GoodTaken.{good_taken, good_read}

sends : Kind → Bool
sends Send = true
sends Receive = false

sends_inj : (x y : Kind) → sends x ≡ sends y → x ≡ y
unfolding sends
sends_inj Send Send e = cc
sends_inj Send Receive e = let z : ◌≡◌ {A = Kind} Send Receive = cc in z
sends_inj Receive Send e = let z : ◌≡◌ {A = Kind} Receive Send = cc in z
sends_inj Receive Receive e = cc

coded_kind : Coded Kind
coded_kind = coded_via coded_bool sends sends_inj

end_of : Option ℕ → Unit {0} ⊎ ℕ
end_of None = inl tt
end_of (Some n) = inr n

end_inj : (x y : Option ℕ) → end_of x ≡ end_of y → x ≡ y
unfolding end_of
end_inj None None e = cc
end_inj None (Some n) e = cc
end_inj (Some n) None e = cc
end_inj (Some m) (Some n) e = cc

coded_end : Coded (Option ℕ)
coded_end = coded_via (coded⊎ coded_unit coded_ℕ) end_of end_inj

coded_interval : Coded Interval
coded_interval = coded_via (coded× coded_ℕ coded_end) (λ (x : Interval). (x.lower, x.upper)) (λ x y e i. record { lower = (e i).0; upper = (e i).1 })

coded_event : Coded Event
coded_event = coded_via (coded× coded_ℕ (coded× coded_kind coded_ℕ)) (λ (x : Event). (x.station, (x.kind, x.pair))) (λ x y e i. record { station = (e i).0; kind = (e i).1.0; pair = (e i).1.1 })

coded_constraint : Coded Constraint
coded_constraint = coded_via (coded× coded_ℕ (coded× coded_ℕ coded_interval)) (λ (x : Constraint). (x.first, (x.second, x.interval))) (λ x y e i. record { first = (e i).0; second = (e i).1.0; interval = (e i).1.1 })

coded_link : Coded Link
coded_link = coded_via (coded× coded_ℕ (coded× coded_ℕ (coded_list coded_interval))) (λ (x : Link). (x.from, (x.to, x.intervals))) (λ x y e i. record { from = (e i).0; to = (e i).1.0; intervals = (e i).1.1 })

coded_chart : Coded ChartValue
coded_chart = coded_via (coded× (coded_list coded_event) (coded× (coded_list coded_constraint) coded_bool)) (λ (x : ChartValue). (x.events, (x.constraints, x.final))) (λ x y e i. record { events = (e i).0; constraints = (e i).1.0; final = (e i).1.1 })

coded_book : Coded BookValue
coded_book =
    coded_via (coded× coded_ℕ (coded× coded_ℕ (coded× coded_ℕ (coded× coded_ℕ (coded× (coded_list coded_chart) (coded_list coded_link))))))
    (λ (x : BookValue). (x.stations, (x.first, (x.near, (x.far, (x.charts, x.links))))))
    (λ x y e i. record { stations = (e i).0; first = (e i).1.0; near = (e i).1.1.0; far = (e i).1.1.1.0; charts = (e i).1.1.1.1.0; links = (e i).1.1.1.1.1 })

-- a book of whose bytes all tests pass, and which its bytes say, is good
pub good_known : (v : BookValue) → ∥ GoodBook v ∥₁ → GoodBook v
good_known v known = subst GoodBook said (good_book (encode v) (book_passes (encode v) none))
  where
    said : book_at (encode v) ≡ v
    said = ∥∥₁_elim known (Coded-set coded_book (book_at (encode v)) v) (λ good. good_read v good)

    fails : (r : Option Fault) → fault (encode v) ≡ r → r ≡ None
    fails None e = refl
    fails (Some f) e = absurd (∥∥₁_elim known ⊥_prop (λ good. let z : ◌≡◌ {A = Option Fault} None (Some f) = sym (good_taken v good) ∙ e in let w : ◌≡◌ {A = ℕ} 0 1 = cc in omega arith))

    none : fault (encode v) ≡ None
    none = fails (fault (encode v)) refl

-- every stored book is good
pub is_good : (b : Book) → GoodBook (book_value b)
is_good b = good_known (book_value b) b.good
