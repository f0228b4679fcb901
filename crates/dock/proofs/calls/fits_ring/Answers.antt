use Rattle.std.proofs.Common.{◌≡◌, ℕ, ◌≤◌, eqb, refl, ◌∙◌, arith}
use lib.Count.{ones_in, ones}
use Rattle.std.proofs.lemmas.Bool.{agree_below_at}
use Rattle.dock_rules.specs.Calls.{good_length}
use Rattle.dock.proofs.calls.fits_ring.Goals as goal

-- one digit is 1 exactly where the number divides 2 ^ 32: a table
same : (l : ℕ) → l ≤ 1024 → eqb (ones l) 1 ≡ good_length l
unfolding ones ones_in
same l h = agree_below_at (λ n. eqb (ones n) 1) good_length 1025 l refl (omega arith)

pub returns-then-length-le-LONGEST : goal.returns-then-length-le-LONGEST
returns-then-length-le-LONGEST c = c.is_power_of_two.ensures ∙ same c.args.length c.if-length-le-LONGEST.true
