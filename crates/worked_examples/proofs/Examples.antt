-- The worked examples by computation. Assumes nothing.
use Rattle.std.proofs.Common.{[], refl, lit<, lit≤}
use Rattle.mark_memory.specs.Exact.{accepting}
use Rattle.dock_rules.specs.Runs.{just_opened}
use Rattle.worked_examples.specs.Play.{shut_world, over_rows}
use Rattle.worked_examples.specs.Alone.{one_slot}
use Rattle.worked_examples.specs.Together.{two_slots}
use Rattle.worked_examples.specs.Histories.{start_of, abandoned_calls, helped_calls, balked_calls, AbandonedReached, HelpedReached, BalkedReached}
use Rattle.worked_examples.specs.Examples.{WorkedExamples}
use Rattle.worked_examples.proofs.Runs.{play_reaches}

abandoned_reached : AbandonedReached
abandoned_reached =
    play_reaches 0 (start_of 2 1) abandoned_calls [] one_slot refl
    (just_opened (shut_world 2 1) one_slot.world 2 1000 0 accepting (lit< tt) refl (lit≤ tt) refl)

helped_reached : HelpedReached
helped_reached =
    play_reaches 0 (start_of 2 2) helped_calls [] two_slots refl
    (just_opened (shut_world 2 2) two_slots.world 2 1000 0 accepting (lit< tt) refl (lit≤ tt) refl)

balked_reached : BalkedReached
balked_reached =
    play_reaches 15 (start_of 2 2) balked_calls [] (over_rows 2 2 0) refl
    (just_opened (shut_world 2 2) (over_rows 2 2 0).world 2 1000 0 accepting (lit< tt) refl (lit≤ tt) refl)

pub stand : WorkedExamples
stand =
    record {
      open_is_granted = refl;
      put_alone = refl;
      take_alone = (refl, refl, refl, refl, refl);
      put_on_full = refl;
      take_on_new = refl;
      take_beside_stopped = (refl, refl);
      put_helps_stopped = (refl, refl, refl);
      take_beside_put = (refl, refl);
      put_beside_take = refl;
      put_at_top = (refl, refl, refl);
      put_given_up = (refl, refl, refl, refl);
      abandoned_answers = refl;
      abandoned_placed = refl;
      abandoned_counts = (refl, refl);
      helped_answers = refl;
      helped_placed = (refl, refl);
      balked_placed = (refl, refl, refl);
      abandoned_reached = abandoned_reached;
      helped_reached = helped_reached;
      balked_reached = balked_reached;
    }
