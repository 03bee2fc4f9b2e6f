use Rattle.std.proofs.Common.{refl}
use Rattle.walk.proofs.Entering.{read_alike, read_origin}
use Rattle.walk.proofs.pairs.row_at.Goals as goal

pub returns : goal.returns
returns g c = record {
  alike = read_alike (g.R.Register.rows c.args.register.now) c.args.place _ c.read.new.out refl refl refl c.read.result c.read.ensures;
  origin = read_origin (g.R.Register.rows c.args.register.now) c.args.place _ c.read.new.out refl refl refl c.read.result c.read.ensures;
}
