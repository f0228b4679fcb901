-- What a line of a schedule is answered, and how that is printed.
--
--   e     the element in the bay's tray after the call
--
-- Assumes nothing.
use Rattle.std.specs.Prelude.{ℕ, Bool, true, false, List, ◌++◌, codes, decimal}
use Rattle.commands.specs.Commands.{fault_number}
use Rattle.dock_rules.specs.declared.Outcome.{Outcome}
use Rattle.dock_rules.specs.declared.Outcome.TheVariants as end
use Rattle.dock_rules.specs.declared.Abandoned.{Abandoned}
use Rattle.dock_rules.specs.declared.Abandoned.TheVariants as away
use Rattle.dock_rules.specs.Words.{label, refusal_number}
use Rattle.dock_rules.specs.Calls as rules
use Rattle.schedule.specs.declared.Response.{Response}
use Rattle.schedule.specs.declared.Response.TheVariants.{Open, Call, Stands, Full, Stored, Empty, Taken, Untouched, Refused, Fault}

abbrev pub ending : Outcome → ℕ → Response
ending end.Full e = Full
ending end.Stored e = Stored
ending end.Empty e = Empty
ending end.Taken e = Taken e

abbrev pub leaving : Abandoned → ℕ → Response
leaving away.Untouched e = Untouched
leaving away.Stored e = Stored
leaving away.Taken e = Taken e

-- what is printed of a call's answer; an enter or a waive is printed with the take that it settles
abbrev pub response_to : rules.Answer → ℕ → Response
response_to (rules.Refused r) e = Refused r
response_to rules.Opened e = Open
response_to (rules.Began s) e = Call s
response_to (rules.Stands l) e = Stands l
response_to (rules.End o) e = ending o e
response_to (rules.Left a) e = leaving a e
response_to rules.Settled e = Taken e

abbrev pub response_text : Response → List ℕ
response_text Open = codes "open"
response_text (Call s) = codes "call " ++ decimal s
response_text (Stands l) = label l
response_text Full = codes "FULL"
response_text Stored = codes "STORED"
response_text Empty = codes "EMPTY"
response_text (Taken e) = codes "TAKEN " ++ decimal e
response_text Untouched = codes "UNTOUCHED"
response_text (Refused r) = codes "refused " ++ decimal (refusal_number r)
response_text (Fault f) = codes "fault " ++ decimal (fault_number f)

-- whether a call's answer leaves a receipt with the caller

abbrev pub is_taken_end : Outcome → Bool
is_taken_end end.Full = false
is_taken_end end.Stored = false
is_taken_end end.Empty = false
is_taken_end end.Taken = true

abbrev pub is_taken_away : Abandoned → Bool
is_taken_away away.Untouched = false
is_taken_away away.Stored = false
is_taken_away away.Taken = true

abbrev pub is_taken : rules.Answer → Bool
is_taken (rules.Refused r) = false
is_taken rules.Opened = false
is_taken (rules.Began s) = false
is_taken (rules.Stands l) = false
is_taken (rules.End o) = is_taken_end o
is_taken (rules.Left a) = is_taken_away a
is_taken rules.Settled = false

abbrev pub is_refused : rules.Answer → Bool
is_refused (rules.Refused r) = true
is_refused rules.Opened = false
is_refused (rules.Began s) = false
is_refused (rules.Stands l) = false
is_refused (rules.End o) = false
is_refused (rules.Left a) = false
is_refused rules.Settled = false
