use Rattle.std.proofs.Common.{vec_items}
use Rattle.dock.specs.Does.{book_of}
use Rattle.schedule.proofs.Moving.{made_opening}
use Rattle.schedule.proofs.session.Session.open.Goals as goal

pub returns : goal.returns
returns c =
    let s = c.args.self.now in
    let told = c.open.ensures in
    record {
      made = made_opening s c.open.new.self c.args.bays 1000 0 c.open.result told.law told.does told.exact;
      begins = (told.law (vec_items s.trays) (book_of s.book)).starts;
    }
