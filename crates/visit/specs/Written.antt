-- How a visit is printed. Assumes nothing.
use Rattle.std.specs.Prelude.{ℕ, List, ◌++◌, codes, decimal}
use Rattle.visit.specs.declared.Visit.{Visit}

abbrev pub written : Visit → List ℕ
written v =
    codes "guard " ++ (decimal v.guard ++ (codes " at " ++ (decimal v.checkpoint ++ (codes ", minute " ++ decimal v.minute))))
