-- How many marks are spoilt, and which cells are marked, as marks are set and struck. Assumes nothing.
use Rattle.std.proofs.Common.{◌≡◌, ℕ, zero, suc, ◌+◌, ◌<◌, ◌≤◌, Bool, true, false, cond, List, [], ◌∷◌, map, length, get_or, set, Some, None, Option, refl, ap, ◌∙◌, sym, le_of_suc-le-suc, not-suc-le-zero, arith}
use Rattle.std.specs.Option.{option_map}
use Rattle.slot_memory.specs.declared.Cell.{Cell}
use Rattle.slot_memory.specs.Meaning.{is_on, unless_on}
use Rattle.cell_memory.specs.declared.marking.Marking.{Ghosts}
use Rattle.cell_memory.specs.Marks.{Laws, struck, cell_of, is_spoilt, spoilt_in, balks}

module _ {K : Type 0} (k : Ghosts K) where
  -- 1 for a spoilt mark, else 0
  abbrev pub worth : Option K → ℕ
  worth m = cond (is_spoilt k m) 1 0

  worth_le : (m : Option K) → worth m ≤ 1
  worth_le m = grind arith

  pub spoilt_set : (ks : List (Option K)) (b : ℕ) (m : Option K) → b < length ks → spoilt_in k (set ks b m) + worth (get_or ks b None) ≡ worth m + spoilt_in k ks
  spoilt_set [] b m h = absurd (not-suc-le-zero h)
  spoilt_set (x ∷ ks) zero m h = omega arith
  spoilt_set (x ∷ ks) (suc b) m h = omega (arith, spoilt_set ks b m (le_of_suc-le-suc h))

  spoilt_most : (ks : List (Option K)) → spoilt_in k ks ≤ length ks
  spoilt_most [] = omega arith
  spoilt_most (x ∷ ks) = omega (arith, spoilt_most ks, worth_le x)

  -- fewer are spoilt than there are, if one of them is not
  pub spoilt_less : (ks : List (Option K)) (b : ℕ) → b < length ks → is_spoilt k (get_or ks b None) ≡ false → spoilt_in k ks < length ks
  spoilt_less [] b h e = absurd (not-suc-le-zero h)
  spoilt_less (x ∷ ks) zero h e = let w : worth x ≡ 0 = ap (λ t. cond t 1 0) e in omega (arith, spoilt_most ks)
  spoilt_less (x ∷ ks) (suc b) h e = omega (arith, spoilt_less ks b (le_of_suc-le-suc h) e, worth_le x)

  pub marked_cell : (ks : List (Option K)) (b : ℕ) → get_or (map (cell_of k) ks) b None ≡ cell_of k (get_or ks b None)
  marked_cell [] b = refl
  marked_cell (x ∷ ks) zero = refl
  marked_cell (x ∷ ks) (suc b) = marked_cell ks b

  pub get_or-struck : (c : Cell) (ks : List (Option K)) (b : ℕ) → get_or (map (struck k c) ks) b None ≡ struck k c (get_or ks b None)
  get_or-struck c [] b = refl
  get_or-struck c (x ∷ ks) zero = refl
  get_or-struck c (x ∷ ks) (suc b) = get_or-struck c ks b

  mapped : (m : Option K) → cell_of k m ≡ option_map k.place m
  mapped None = refl
  mapped (Some m) = refl

  module _ (laws : Laws k) where
    struck_cell : (c : Cell) (m : Option K) → cell_of k (struck k c m) ≡ unless_on c (cell_of k m)
    struck_cell c None = refl
    struck_cell c (Some m) = mapped (k.struck c m) ∙ laws.stays c m

    pub struck_cells : (c : Cell) (ks : List (Option K)) → map (cell_of k) (map (struck k c) ks) ≡ map (unless_on c) (map (cell_of k) ks)
    struck_cells c [] = refl
    struck_cells c (x ∷ ks) = λ i. struck_cell c x i ∷ struck_cells c ks i

    -- nothing is spoilt where the memory never balks
    never_spoilt : k.balks ≡ false → (m : Option K) → is_spoilt k m ≡ false
    never_spoilt e None = refl
    never_spoilt e (Some m) = laws.calm e m

    pub balks_alone : (ks : List (Option K)) (b : ℕ) → cond k.balks (balks k ks b) false ≡ balks k ks b
    balks_alone ks b = go k.balks refl
      where
        go : (t : Bool) → k.balks ≡ t → cond t (balks k ks b) false ≡ balks k ks b
        go true e = refl
        go false e = sym (never_spoilt e (get_or ks b None))

    none_marked : (m : Option K) → cell_of k m ≡ None → m ≡ None
    none_marked None e = refl
    none_marked (Some m) e = absurd (cc)

    -- the bay that stores on its mark has none afterwards
    pub struck_own : (c : Cell) (m : Option K) → is_on c (cell_of k m) ≡ true → struck k c m ≡ None
    struck_own c m e = none_marked (struck k c m) (struck_cell c m ∙ ap (λ t. cond t None (cell_of k m)) e)
