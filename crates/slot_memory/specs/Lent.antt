-- What lent slots hold. Assumes nothing.
use Rattle.std.specs.Prelude.{ℕ, List, take, drop, Option}
use Rattle.slot_memory.specs.declared.lent.Lent.{Lent}

-- how many of the lent slots are used at most
abbrev pub most_slots : ℕ
most_slots = 1025

abbrev pub used : {E : Type 0} → List (Option E) → List (Option E)
used row = take most_slots row

abbrev pub contents : {E : Type 0} → Lent E → List (Option E)
contents l = used l.row.now

-- the slots behind those that are used
abbrev pub rest : {E : Type 0} → Lent E → List (Option E)
rest l = drop most_slots l.row.now
