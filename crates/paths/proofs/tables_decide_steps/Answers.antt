use Rattle.paths.proofs.Tabled.{chart_decides, step_decides}
use Rattle.paths.proofs.Filled.{tighten, tighten_own, chart_table, step_table}
use Rattle.paths.proofs.tables_decide_steps.Goals as goal

pub returns : goal.returns
returns c = record { chart = chart_decides; step = step_decides; tables = record { tighten = tighten; tighten_own = tighten_own; chart = chart_table; step = step_table } }
