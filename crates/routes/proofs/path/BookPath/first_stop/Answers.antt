use Rattle.routes.proofs.path.BookPath.first_stop.Goals as goal

pub returns : goal.returns
returns c = c.first.ensures c.args.self.now.links.now
