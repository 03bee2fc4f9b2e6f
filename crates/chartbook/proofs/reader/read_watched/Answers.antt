use Rattle.chartbook.proofs.ReadLaws.{reads}
use Rattle.chartbook.proofs.reader.read_watched.Goals as goal

pub returns : goal.returns
returns g c = reads c.args.book.now c.read_records.result c.read_records.ensures
