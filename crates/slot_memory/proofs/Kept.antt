-- Whoever does what `touched` says, at free results that may be, keeps the rules. Assumes nothing.
use Rattle.std.proofs.Common.{◌≡◌, ℕ, sym, refl, subst, arith}
use Rattle.slot_memory.specs.Meaning.{Meaning}
use Rattle.slot_memory.specs.Rules.{Operation, Clear, Read, Mark, Store, Reply, Free, touched, May, Keeps}

module _ {E : Type 0} where
  keeps_touched : (K : ℕ) (m : Meaning E) (o : Operation E) (f : Free) → May K m o f → Keeps K m o (touched m o f).0 (touched m o f).1
  keeps_touched K m (Clear base) f h = record { may = h; is = refl }
  keeps_touched K m (Read i) f h = record { may = tt; is = refl }
  keeps_touched K m (Mark b c) f h = grind arith
  keeps_touched K m (Store b w) f h = grind arith

  pub keeps_from : (K : ℕ) (m : Meaning E) (o : Operation E) (r : Reply E) (n : Meaning E) (f : Free) → May K m o f → (r, n) ≡ touched m o f → Keeps K m o r n
  keeps_from K m o r n f h e =
      subst (λ (p : Reply E × Meaning E). Keeps K m o p.0 p.1) (sym e) (keeps_touched K m o f h)
