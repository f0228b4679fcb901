-- What is left to do once a call is collected or given up: nothing but to answer, or to settle a receipt.
--
--   e     the element in the bay's tray
--
-- Assumes nothing.
use Rattle.std.specs.Prelude.{ℕ}
use Rattle.dock_rules.specs.declared.DockState.{DockState}
use Rattle.dock.specs.declared.Collected.{Collected}
use Rattle.dock.specs.declared.Collected.TheVariants as collected
use Rattle.dock.specs.declared.Left.{Left}
use Rattle.dock.specs.declared.Left.TheVariants as left
use Rattle.dock.specs.Answered.{Out}
use Rattle.schedule.specs.declared.Response.{Response}
use Rattle.schedule.specs.declared.Response.TheVariants.{Full, Stored, Empty, Taken, Untouched}
use Rattle.schedule.specs.declared.session.ended.Ended.{Ended}
use Rattle.schedule.specs.declared.session.ended.Ended.TheVariants.{Answered, Owed}
use Rattle.schedule.specs.Desks.{Desk, settled}

abbrev pub ended_by_collect : Collected → Ended
ended_by_collect collected.Full = Answered Full
ended_by_collect collected.Stored = Answered Stored
ended_by_collect collected.Empty = Answered Empty
ended_by_collect (collected.Taken x) = Owed x

abbrev pub ended_by_leave : Left → Ended
ended_by_leave left.Untouched = Answered Untouched
ended_by_leave left.Stored = Answered Stored
ended_by_leave (left.Taken x) = Owed x

abbrev pub ended_response : Ended → ℕ → Response
ended_response (Answered r) e = r
ended_response (Owed x) e = Taken e

abbrev pub ended_desk : Ended → Desk → Desk
ended_desk (Answered r) d = d
ended_desk (Owed x) d = settled d x.bay x.serial

-- a receipt that is to be settled is out at the dock
abbrev pub OwedOut : DockState → Ended → Type 0
OwedOut s (Answered r) = Unit {0}
OwedOut s (Owed x) = Out s x
