use Rattle.std.proofs.Common.{vec_items, refl, ap, subst}
use Rattle.board.specs.Kinds.{kind_of, memory}
use Rattle.dock_rules.specs.Calls.{Enter, Waive, Settled, Refused}
use Rattle.dock.specs.Does.{book_of, world}
use Rattle.schedule.specs.declared.session.Session.{Session}
use Rattle.schedule.specs.Sessions.{Made}
use Rattle.schedule.proofs.Moving.{made_dry, settles_waived}
use Rattle.schedule.proofs.session.Session.settle.Goals as goal

pub returns-in-Ok-waive : goal.returns-in-Ok-waive
returns-in-Ok-waive c =
    let s = c.args.self.now in
    let m : Session = record { dock = c.enter.new.self; trays = s.trays; book = c.enter.new.book; last = s.last } in
    let t : Session = record { dock = c.waive.new.self; trays = s.trays; book = c.enter.new.book; last = s.last } in
    let entered = c.in-Err.ensures in
    let waived = c.in-Ok-waive.ensures in
    let k = book_of c.enter.new.book in
    let enters = made_dry s m (Enter c.args.receipt.bay c.args.receipt.serial) (Refused c.in-Err.field-0-0) (ap (λ x. world memory s.dock x (book_of s.book)) c.as_slice.ensures.value) (ap (λ x. world memory c.enter.new.self x k) c.as_slice.ensures.value) entered.law refl tt entered.does (ap kind_of entered.kept) in
    let waives = made_dry m t (Waive c.in-Err.back.bay c.in-Err.back.serial) Settled refl refl (waived.law (vec_items s.trays) k) refl tt (waived.does (vec_items s.trays) k) (ap kind_of waived.kept) in
    settles_waived enters c.args.receipt.bay c.args.receipt.serial refl refl (subst (λ x. Made m (Waive x.bay x.serial) Settled t) entered.receipt waives)
