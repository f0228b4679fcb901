-- Which cells a memory knows. Assumes nothing.
use Rattle.std.proofs.Common.{◌≡◌, ℕ, ◌<◌, true, ltb, length, refl}
use Rattle.std.proofs.lemmas.Bool.{lt-ltb, and_from}
use Rattle.slot_memory.specs.declared.Cell.TheVariants.{Slot, At}
use Rattle.slot_memory.specs.declared.Index.{Index}
use Rattle.slot_memory.specs.Meaning.{Meaning, bays, known}

module _ {E : Type 0} (m : Meaning E) (b : ℕ) (h : b < bays) where
  pub slot_known : (i : ℕ) → i < length m.slots → known m b (Slot i) ≡ true
  slot_known i k = and_from (ltb b bays) (ltb i (length m.slots)) (lt-ltb b bays h) (lt-ltb i (length m.slots) k)

  pub index-known : (i : Index) → known m b (At i) ≡ true
  index-known i = and_from (ltb b bays) true (lt-ltb b bays h) refl
