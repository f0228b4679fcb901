-- The worked examples, under one statement.
--
--   stopped     a put that stands at E16, and whose bay is not stepped
--   reached     the history is one of a run: the premise of the law over runs
--
-- Assumes nothing.
use Rattle.worked_examples.specs.Alone.{OpenIsGranted, PutAlone, TakeAlone, PutOnFull, TakeOnNew, PutAtTop, PutGivenUp}
use Rattle.worked_examples.specs.Together.{TakeBesideStopped, PutHelpsStopped, TakeBesidePut, PutBesideTake}
use Rattle.worked_examples.specs.Histories.{AbandonedAnswers, AbandonedPlaced, AbandonedCounts, HelpedAnswers, HelpedPlaced, BalkedPlaced, AbandonedReached, HelpedReached, BalkedReached}

pub record WorkedExamples : Type 0 where
  pub open_is_granted : OpenIsGranted
  -- 1 to 10
  pub put_alone : PutAlone
  pub take_alone : TakeAlone
  pub put_on_full : PutOnFull
  pub take_on_new : TakeOnNew
  pub take_beside_stopped : TakeBesideStopped
  pub put_helps_stopped : PutHelpsStopped
  pub take_beside_put : TakeBesidePut
  pub put_beside_take : PutBesideTake
  pub put_at_top : PutAtTop
  pub put_given_up : PutGivenUp
  -- the three histories
  pub abandoned_answers : AbandonedAnswers
  pub abandoned_placed : AbandonedPlaced
  pub abandoned_counts : AbandonedCounts
  pub helped_answers : HelpedAnswers
  pub helped_placed : HelpedPlaced
  pub balked_placed : BalkedPlaced
  pub abandoned_reached : AbandonedReached
  pub helped_reached : HelpedReached
  pub balked_reached : BalkedReached
