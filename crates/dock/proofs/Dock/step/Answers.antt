use Rattle.std.proofs.Common.{◌≡◌, sym, ◌∙◌, rules, arith}
use Rattle.std.proofs.lemmas.Bool.Decides.{nat_tests}
use Rattle.std.proofs.lemmas.Result.{err_from_is_err_and}
use Rattle.dock.proofs.Lawful.{carries}
use Rattle.dock.proofs.Doing.{turned_down, idling, stepping}
use Rattle.dock.proofs.Running.{noting, stepped_by}
use Rattle.dock.proofs.Dock.step.Goals as goal

pub returns-in_err-check_trays-clause-does : goal.returns-in_err-check_trays-clause-does
returns-in_err-check_trays-clause-does g c = let p = err_from_is_err_and c.from_residual.result c.from_residual.ensures.1 in rw (p.1, p.2) (λ k. turned_down _ _ _ _ (grind (arith, nat_tests)))

pub returns-in_err-check_trays-clause-law : goal.returns-in_err-check_trays-clause-law
returns-in_err-check_trays-clause-law g c = λ k. carries (returns-in_err-check_trays-clause-does g c k)

pub returns-in_err-call-clause-does : goal.returns-in_err-call-clause-does
returns-in_err-call-clause-does g c = let p = err_from_is_err_and c.from_residual-in_err-call.result c.from_residual-in_err-call.ensures.1 in rw (p.1, p.2) (λ k. turned_down _ _ _ _ (grind (arith, nat_tests)))

pub returns-in_err-call-clause-law : goal.returns-in_err-call-clause-law
returns-in_err-call-clause-law g c = λ k. carries (returns-in_err-call-clause-does g c k)

pub returns-in_default-clause-does : goal.returns-in_default-clause-does
returns-in_default-clause-does g c = λ k. idling _ _ c.args.bay c.in_ok-call.field-0 c.in_ok-check_trays.ensures.0 c.in_ok-check_trays.ensures.1 c.in_ok-call.ensures.0 c.in_ok-call.ensures.1 c.in_default.not-UnderWay

pub returns-in_default-clause-law : goal.returns-in_default-clause-law
returns-in_default-clause-law g c = λ k. carries (returns-in_default-clause-does g c k)

pub returns-clause-does : goal.returns-clause-does
returns-clause-does g c =
    let ran = c.run-stepped.ensures in
    let same : c.match-stepped.stepped ≡ c.run-stepped.result = search rules in
    let notes : c.match-stepped.self ≡ noting c.run-stepped.result c.run-stepped.new.call = search rules in
    let is = stepped_by g.M.SlotMemory c.args.self.now.state c.args.self.now.memory c.run-stepped.new.memory c.args.bay c.in-UnderWay.call c.run-stepped.new.call c.args.trays.now c.run-stepped.new.trays c.run-stepped.result _ _ same notes ran in
    λ k. stepping _ _ _ c.in-UnderWay.call ran.reply _ _ _ (grind (arith, nat_tests)) (sym c.in_ok-call.ensures.1 ∙ c.in-UnderWay.is) ran.rules (is k)

pub returns-clause-law : goal.returns-clause-law
returns-clause-law g c = λ k. carries (returns-clause-does g c k)
