use Rattle.std.proofs.Common.{◌≡◌, None, ◌∙◌, subst, arith, length-set}
use Rattle.bookformat.specs.Reading.{first_fault, each}
use Rattle.bookrecords.proofs.Exits.{hands_on}
use Rattle.chartbook.proofs.LinkTests.{tests, station_fails, station_passes, station_set, stations_all}
use Rattle.chartbook.proofs.links.read_intervals.Goals as goal

pub returns-in_err-check_interval : goal.returns-in_err-check_interval
returns-in_err-check_interval c =
    hands_on c.from_residual.result _ _ c.in_err-check_interval.field-0.0 c.from_residual.ensures.1
    (station_fails c.args.part.now c.args.place c.args.stations c.args.before.now c.args.after.now
    c.loop-station.station c.from-read.result c.is_apart.result c.loop-station.invariant.0 c.from-read.ensures c.is_apart.ensures
    8 c.in_err-check_interval.field-0.0 c.loop-station-test.true c.in_err-check_interval.ensures)

pub loop-station-preserved : goal.loop-station-preserved
loop-station-preserved c = (
  station_passes c.args.part.now c.args.place c.args.stations c.args.before.now c.args.after.now
      c.loop-station.station c.from-read.result c.is_apart.result c.loop-station.invariant.0 c.from-read.ensures c.is_apart.ensures
      c.in_ok-check_interval.ensures.0,
  station_set c.args.part.now c.args.place c.args.stations c.args.before.now c.args.after.now
      c.loop-station.station c.from-read.result c.is_apart.result c.loop-station.invariant.0 c.from-read.ensures c.is_apart.ensures
      c.loop-station.interval-items (omega (arith, c.loop-station.invariant.2)) c.loop-station.invariant.1,
  length-set c.loop-station.interval-items c.loop-station.station c.from-read.result ∙ c.loop-station.invariant.2,
)

pub returns : goal.returns
returns c =
    let p8 : c.loop-station.station ≡ 8 = omega arith in (
      subst (λ n. first_fault (each (tests c.args.part.now c.args.place c.args.stations c.args.before.now c.args.after.now) n) ≡ None) p8 c.loop-station.invariant.0,
      stations_all c.args.part.now c.args.place c.args.stations c.args.before.now c.args.after.now c.loop-station.station c.loop-station.interval-items (omega arith) (omega arith) c.loop-station.invariant.2 c.loop-station.invariant.1,
    )
