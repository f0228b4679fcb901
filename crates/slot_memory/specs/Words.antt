-- How a store's answer is printed. Assumes nothing.
use Rattle.std.specs.Prelude.{ℕ, List, codes}
use Rattle.slot_memory.specs.declared.Stored.{Stored}
use Rattle.slot_memory.specs.declared.Stored.TheVariants.{Accepted, Refused}

abbrev pub stored_word : Stored → List ℕ
stored_word Accepted = codes "accepted"
stored_word Refused = codes "refused"
