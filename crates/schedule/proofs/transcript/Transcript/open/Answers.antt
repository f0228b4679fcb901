use Rattle.std.proofs.Common.{ℕ, length, vec_items, refl, ap, ◌∙◌, subst, rules}
use Rattle.std.proofs.lemmas.List.{length-replicate}
use Rattle.std.proofs.lemmas.Result.{MatchResult-weaker}
use Rattle.board.specs.Game.{Game}
use Rattle.schedule.specs.Output.{opened_on}
use Rattle.schedule.specs.Sessions.{Opens}
use Rattle.schedule.proofs.Opening.{fresh-game, opened, not_opened}
use Rattle.schedule.proofs.transcript.Transcript.open.Goals as goal

pub returns-in-Ok : goal.returns-in-Ok
returns-in-Ok c =
    let lent = c.in_ok-lent.ensures in
    let trays = c.in_ok-trays.ensures in
    let game = c.new-session.ensures.game ∙ fresh-game c.new-board.result c.args.kind (vec_items c.in_ok-trays.trays) _ _ c.args.slots c.args.bays c.new-board.ensures.kind c.new-board.ensures.meaning (c.as_mut_slice.ensures.value ∙ lent.items_if_clones_equal (λ y h. search rules)) (trays.items_if_clones_equal (λ y e. e)) refl in
    let long = ap (λ (g : Game ℕ). length g.world.trays) game ∙ length-replicate c.args.bays 0 in
    let said = c.in_ok-print-in-Ok.ensures in
    MatchResult-weaker c.heed_all.result c.heed_all.ensures.through
    (λ _ ends.
    subst (λ g. Opens (opened_on g c.args.bays) c.args.self.now c.heed_all.new.self) game
    (opened c.new-session.result c.open.new.self c.args.bays c.in-Ok.ensures.made c.in-Ok.ensures.begins long c.new-session.ensures.last c.args.self.now c.print.new.self c.heed_all.new.self (record { lines = said.lines; out = said.out; number = said.number }) ends))
    (λ _ u. u)

pub returns : goal.returns
returns c =
    let lent = c.in_ok-lent.ensures in
    let trays = c.in_ok-trays.ensures in
    let game = c.new-session.ensures.game ∙ fresh-game c.new-board.result c.args.kind (vec_items c.in_ok-trays.trays) _ _ c.args.slots c.args.bays c.new-board.ensures.kind c.new-board.ensures.meaning (c.as_mut_slice.ensures.value ∙ lent.items_if_clones_equal (λ y h. search rules)) (trays.items_if_clones_equal (λ y e. e)) refl in
    let said = c.print-in-Err.ensures in
    MatchResult-weaker c.print-in-Err.result said.out
    (λ _ out.
    subst (λ g. Opens (opened_on g c.args.bays) c.args.self.now c.print-in-Err.new.self) game
    (not_opened c.new-session.result c.open.new.self c.args.bays c.in-Err.why c.in-Err.ensures.made c.args.self.now c.print-in-Err.new.self (record { lines = said.lines; out = out; number = said.number })))
    (λ _ u. u)
