-- A call that does what the rules say carries the law. Assumes nothing.
use Rattle.std.proofs.Common.{ℕ, ◌^◌, ◌<◌}
use Rattle.dock_rules.specs.Calls.{World, Call, Open, Answer}
use Rattle.dock_rules.proofs.Contracts.{goes_on, begins}
use Rattle.dock.specs.Does.{Does, Carries, Starts}

module _ {E : Type 0} where
  pub carries : {K : ℕ} {w : World E} {c : Call E} {a : Answer} {v : World E} → Does K w c a v → Carries K w c a v
  carries {K} {w} {c} {a} {v} d = record { law = goes_on K w c a v d.free d.may d.is }

  pub starts : {K : ℕ} {w : World E} {n life base : ℕ} {a : Answer} {v : World E} → base < 2 ^ 32 → Does K w (Open n life base) a v → Starts K w n life base a v
  starts {K} {w} {n} {life} {base} {a} {v} fits d =
      record { starts = begins K w n life base a v d.free fits d.may d.is; law = goes_on K w (Open n life base) a v d.free d.may d.is }
