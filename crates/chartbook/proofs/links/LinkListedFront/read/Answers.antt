use Rattle.std.proofs.Common.{◌≡◌, ◌<◌, List, get_or, Some, None, ap, ◌∙◌, subst}
use Rattle.bookformat.specs.declared.value.Chart.{Chart}
use Rattle.bookformat.specs.Reading.{first_fault, ends_fields}
use Rattle.bookrecords.proofs.Exits.{hands_on}
use Rattle.chartbook.proofs.LinkTests.{ends_fail, stations_fault, link_is}
use Rattle.chartbook.proofs.links.LinkListedFront.read.Goals as goal

pub returns-in_err-check_ends : goal.returns-in_err-check_ends
returns-in_err-check_ends g c =
    let h = c.in_ok-part.ensures in
    let fault = c.in_err-check_ends.field-0.0 in
    hands_on c.from_residual-in_err-check_ends.result _ _ fault c.from_residual-in_err-check_ends.ensures.1
    (ends_fail c.args.book.now c.in_ok-part.part.now c.args.place c.args.front.now.header.stations c.args.front.now.charts.items h.0 h.2
    c.from-earlier.result c.from-later.result c.from-earlier.ensures c.from-later.ensures fault
    (subst (λ n. first_fault (ends_fields n c.from-earlier.result c.from-later.result c.args.place) ≡ Some fault) c.len.ensures.value c.in_err-check_ends.ensures))

pub returns-in_err-intervals : goal.returns-in_err-intervals
returns-in_err-intervals g c =
    let h = c.in_ok-part.ensures in
    let from = c.from-earlier.result in
    let to = c.from-later.result in
    let ends = subst (λ n. (first_fault (ends_fields n from to c.args.place) ≡ None) × ((from < n) × (to < n))) c.len.ensures.value c.in_ok-check_ends.ensures in
    hands_on c.from_residual-in_err-intervals.result _ _ c.in_err-intervals.field-0.0 c.from_residual-in_err-intervals.ensures.1
    (stations_fault c.args.book.now c.in_ok-part.part.now c.args.place c.args.front.now.header.stations c.args.front.now.charts.items h.0 h.2
    from to c.from-earlier.ensures c.from-later.ensures
    c.index-deref-earlier.result c.index-deref-later.result c.as_slice-before.result.now c.as_slice-after.result.now ends.0 ends.1
    (c.as_slice-before.ensures.value ∙ ap (λ (l : List Chart). (get_or l from c.index-deref-earlier.result).events.items) c.deref.ensures.0)
    (c.as_slice-after.ensures.value ∙ ap (λ (l : List Chart). (get_or l to c.index-deref-later.result).events.items) c.deref-2.ensures.0)
    ∙ c.in_err-intervals.ensures)

pub returns : goal.returns
returns g c =
    let h = c.in_ok-part.ensures in
    let from = c.from-earlier.result in
    let to = c.from-later.result in
    let ends = subst (λ n. (first_fault (ends_fields n from to c.args.place) ≡ None) × ((from < n) × (to < n))) c.len.ensures.value c.in_ok-check_ends.ensures in
    let read = c.in_ok-intervals.ensures in (
      stations_fault c.args.book.now c.in_ok-part.part.now c.args.place c.args.front.now.header.stations c.args.front.now.charts.items h.0 h.2
          from to c.from-earlier.ensures c.from-later.ensures
          c.index-deref-earlier.result c.index-deref-later.result c.as_slice-before.result.now c.as_slice-after.result.now ends.0 ends.1
          (c.as_slice-before.ensures.value ∙ ap (λ (l : List Chart). (get_or l from c.index-deref-earlier.result).events.items) c.deref.ensures.0)
          (c.as_slice-after.ensures.value ∙ ap (λ (l : List Chart). (get_or l to c.index-deref-later.result).events.items) c.deref-2.ensures.0)
          ∙ read.0,
      link_is c.args.book.now c.in_ok-part.part.now c.args.place c.args.front.now.header.stations c.args.front.now.charts.items h.0 h.2
          from to c.from-earlier.ensures c.from-later.ensures c.in_ok-intervals.intervals read.1,
    )
