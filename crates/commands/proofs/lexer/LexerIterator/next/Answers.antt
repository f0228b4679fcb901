use Rattle.std.proofs.Common.{Some, None, sym, ap, ◌∙◌}
use Rattle.std.specs.Option.{option_map}
use Rattle.commands.specs.Tokens.{Word, Number, words_in, words_left, next_token}
use Rattle.commands.proofs.Parts.{token_is, goes, token_fewer}
use Rattle.commands.proofs.lexer.LexerIterator.next.Goals as goal

pub returns-in-Some : goal.returns-in-Some
returns-in-Some c =
    let steps =
    token_is c.in_ok-self.field-0.now _ _ (Some c.in-Some.value) c.cut.ensures.front c.cut.ensures.back c.in-Some.ensures
    ∙ ap (λ r. next_token (words_in (option_map (λ x. x.now) r))) (sym c.in_ok-self.was) in
    record { steps = steps; goes = goes words_left next_token token_fewer _ _ _ (Number c.in-Some.value) steps }

pub returns-in-None : goal.returns-in-None
returns-in-None c =
    let steps =
    token_is c.in_ok-self.field-0.now _ _ None c.cut.ensures.front c.cut.ensures.back c.in-None.ensures
    ∙ ap (λ r. next_token (words_in (option_map (λ x. x.now) r))) (sym c.in_ok-self.was) in
    record { steps = steps; goes = goes words_left next_token token_fewer _ _ _ (Word c.cut.result.0.now) steps }
