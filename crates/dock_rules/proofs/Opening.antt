-- A dock just opened. Assumes nothing.
use Rattle.std.proofs.Common.{◌≡◌, ℕ, ◌+◌, ◌^◌, ◌<◌, ◌≤◌, true, false, eqb, ltb, List, [], length, get_or, replicate, IfNone, Some, None, Option, refl, ap, subst, arith}
use lib.ListN.{length-replicate}
use Rattle.std.proofs.lemmas.List.{get_or-replicate, get_or_past}
use Rattle.std.proofs.lemmas.Bool.{not-false, and_parts, or_parts, ltb-true, ltb-false, leb-true, eqb-true}
use Rattle.slot_memory.specs.Meaning.{Meaning}
use Rattle.slot_memory.specs.Rules.{Free, cleared}
use Rattle.dock_rules.specs.declared.BayRecord.{BayRecord}
use Rattle.dock_rules.specs.declared.BayRecord.TheVariants.{Free as Idle}
use Rattle.dock_rules.specs.declared.Refusal.{Refusal}
use Rattle.dock_rules.specs.Words.{Putting, Taking}
use Rattle.dock_rules.specs.Calls.{World, Open, Opened, good_length, most_lifetime, bad_bays, bad_life, opened, record_of, reasons, refusal, answered, does, MayCall, attempt}
use Rattle.dock_rules.specs.Runs.{Start, State}
use Rattle.dock_rules.proofs.Ring.{ring_empty}
use Rattle.dock_rules.proofs.Sums.{sum_to, sum-most}
use Rattle.dock_rules.proofs.Invariant.{early, early_by, view_of, Inv}
use Rattle.dock_rules.proofs.Reasons.{no_reason}
use Rattle.dock_rules.proofs.Others.{knows_idle}

-- a list of one value has it everywhere
all_same : {X : Type 0} (n i : ℕ) (x : X) → get_or (replicate n x) i x ≡ x
all_same n i x = grind (arith, get_or-replicate, get_or_past, length-replicate)

module _ {E : Type 0} (K n life base : ℕ) (m : Meaning E) (trays : List E) (spare : ℕ) (fits : base < 2 ^ 32) (long : length trays ≡ n) (low : spare ≤ K) (good : good_length (length m.slots) ≡ true) (bays : bad_bays n ≡ false) (lasts : bad_life life ≡ false) where
  abbrev start : Start
  start = record { bays = n; length = length m.slots; base = base }

  abbrev state : State E
  state = record { dock = opened n life; memory = cleared m base spare; trays = trays }

  -- every bay of a dock just opened is free
  idle : (b : ℕ) → record_of (opened n life) b ≡ Idle
  idle b = all_same 16 b Idle

  -- so nothing is early in it
  sum-none : (f : BayRecord → ℕ) → f Idle ≡ 0 → sum_to n (λ b. f (record_of (opened n life) b)) ≡ 0
  sum-none f zero-idle = let most = sum-most n 0 (λ b. f (record_of (opened n life) b)) (λ b. omega (arith, ap f (idle b))) in omega arith

  -- the invariant of a dock just opened
  pub opens : Inv K start [] state
  opens =
      let parts = and_parts _ _ good in
      let rest = and_parts _ _ parts.1 in
      let few : n ≤ 16 = ltb-false 16 n (or_parts (eqb n 0) (ltb 16 n) bays).1 in
      let short : life ≤ most_lifetime = ltb-false most_lifetime life (or_parts (eqb life 0) (ltb most_lifetime life) lasts).1 in
      record {
        inner = record {
          static = record {
            few = few;
            some = ltb-true _ _ parts.0;
            short = leb-true _ _ rest.0;
            divides = eqb-true _ _ rest.1;
            opened = refl;
            bays = refl;
            life = short;
            started = omega arith;
            records = refl;
            marks = refl;
            slots = length-replicate (length m.slots) None;
            trays = long;
            spare = low;
          };
          wraps = elim [ Putting ↦ omega arith | Taking ↦ omega arith ];
          same = refl;
          shared = record {
            some = ltb-true _ _ parts.0;
            long = length-replicate (length m.slots) None;
            tail = omega arith;
            room = omega arith;
            one_put = omega arith;
            one_take = omega arith;
            first = omega arith;
            ring = ring_empty (length m.slots) (base + 0);
          };
          asks = elim [ Putting ↦ tt | Taking ↦ tt ];
          knows = λ b lt. knows_idle (length m.slots) base (view_of start [] state) 0 (record_of (opened n life) b) _ _ (ap attempt (idle b));
          once = λ x. omega (arith, sum-none (early_by x) refl);
          room = omega (arith, sum-none early refl);
        };
        indices = elim [ Putting ↦ refl | Taking ↦ refl ];
        past = tt;
        given_up_lem = tt;
        law = record { place = tt; apart = tt; untouched = tt; agrees = tt; unmoved = tt };
      }

-- a granted open
pub opening_keeps : {E : Type 0} (K : ℕ) (w v : World E) (n life base : ℕ) (f : Free) → base < 2 ^ 32 → length w.trays ≡ n → MayCall K w (Open n life base) f → does w (Open n life base) f ≡ (Opened, v) → Inv K (record { bays = n; length = length w.memory.slots; base = base }) [] (record { dock = v.dock; memory = v.memory; trays = v.trays })
opening_keeps {E} K w v n life base f fits long may e = go (refusal w (Open n life base)) refl may e
  where
    go : (o : Option Refusal) → refusal w (Open n life base) ≡ o → IfNone o (f.spare ≤ K) → answered w (Open n life base) f o ≡ (Opened, v) → Inv K (record { bays = n; length = length w.memory.slots; base = base }) [] (record { dock = v.dock; memory = v.memory; trays = v.trays })
    go (Some r) is may e = cc (ap (λ x. x.0) e)
    go None is may e =
        let ok = no_reason (reasons w (Open n life base)) is in
        subst (λ x. Inv K (record { bays = n; length = length w.memory.slots; base = base }) [] (record { dock = x.1.dock; memory = x.1.memory; trays = x.1.trays })) e
        (opens K n life base w.memory w.trays f.spare fits long may (not-false _ ok.1.0) ok.1.1.0 ok.1.1.1.0)
